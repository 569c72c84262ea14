-- A program is refused for one reason at most, or writes one thing, or neither.
use Rattle.std.proofs.Common.{◌≡◌, ◌∙◌, sym, ap, subst, refl, ℕ, ◌⊎◌, inl, inr, true, false, List, Option, None, Some, Ok, Err}
use Rattle.dart_base.specs.declared.place.Place.{Place}
use Rattle.dart_edge.specs.Files.{Files, file_of}
use Rattle.dart_execute.specs.declared.cause.Cause.{Cause}
use Rattle.dart_execute.specs.declared.execution.Execution.{Execution}
use Rattle.dart_execute.specs.declared.execution.Execution.TheVariants as execution
use Rattle.dart_execute.specs.Execution.{ExecutesAs, allowed, asked_mode}
use Rattle.dart_execute.proofs.Once.{one_execution}
use Rattle.dart_run.specs.declared.written.Written.{Written}
use Rattle.dart_words.specs.declared.options.Options.{Options}
use Rattle.scope_files.specs.declared.check.Checked.{Checked}
use Rattle.scope_files.specs.declared.check.Checked.TheVariants.{Sound, Against}
use Rattle.scope_files.specs.Files.{Found, NameGives, known}
use Rattle.scope_load.specs.declared.loaded.Loaded.{Loaded}
use Rattle.scope_files.proofs.FileLaws.{one_name, known_name}
use Rattle.scope_files.proofs.LoadLaws.{one_reason, refused_or_ended, one_end, stops_by, ends_by}
use Rattle.scope_load.specs.declared.reason.LoadFault.{LoadFault}
use Rattle.scope_load.specs.declared.reason.LoadFault.TheVariants as l
use Rattle.scope_load.specs.Load.{Loads, Stops, is_too_large}
use Rattle.scope_load.specs.State.{State}
use Rattle.scope_reason.specs.declared.reason.ProgramReason.{ProgramReason}
use Rattle.scope_reason.specs.Reason.{program_reason}
use Rattle.dart_tool.specs.declared.program.FileRefusal.{FileRefusal}
use Rattle.dart_tool.specs.declared.program.RunStop.{RunStop}
use Rattle.dart_tool.specs.declared.program.RunStop.TheVariants.{Refused, Failed, Memory}
use Rattle.dart_tool.specs.Program.{ExecutionRefused, Finishes, IsSound, LoadGives, LoadRefused, ProgramRefused, WhereHas, WholeRefused, execution_refusal, load_stop, program_refusal}

-- refusals at one place for one thing are the same
refused_same : (state other : State) (place at : Place) (cause why : Cause) → state ≡ other → execution.Refused place cause ≡ execution.Refused at why → execution_refusal state place cause ≡ execution_refusal other at why
refused_same state other place at cause why same one =
    let places : place ≡ at = cc in
    let causes : cause ≡ why = cc in
    λ i. execution_refusal (same i) (places i) (causes i)

module _ (files : Files) (root : List ℕ) where
  one_stop : (a b : LoadFault) (x y : FileRefusal) → Stops (NameGives (Some files)) root a → Stops (NameGives (Some files)) root b → load_stop a ≡ Refused x → load_stop b ≡ Refused y → x ≡ y
  one_stop (l.Refused name why) (l.Refused other because) x y r q e f =
      let one = one_reason (NameGives (Some files)) root (one_name files) name other why because r q in
      let same : load_stop (l.Refused name why) ≡ load_stop (l.Refused other because) = λ i. load_stop (l.Refused (one.0 i) (one.1 i)) in
      let both : Refused x ≡ Refused y = sym e ∙ same ∙ f in cc
  one_stop (l.Refused name why) l.TooLarge x y r (state, ends, large) e f = absurd (refused_or_ended (NameGives (Some files)) root (one_name files) name why state r ends)
  one_stop (l.Refused name why) l.Failed x y r q e f = absurd cc
  one_stop (l.Refused name why) l.Memory x y r q e f = absurd cc
  one_stop l.TooLarge (l.Refused name why) x y (state, ends, large) r e f = absurd (refused_or_ended (NameGives (Some files)) root (one_name files) name why state r ends)
  one_stop l.TooLarge l.TooLarge x y r q e f = let both : Refused x ≡ Refused y = sym e ∙ f in cc
  one_stop l.TooLarge l.Failed x y r q e f = absurd cc
  one_stop l.TooLarge l.Memory x y r q e f = absurd cc
  one_stop l.Failed b x y r q e f = absurd cc
  one_stop l.Memory b x y r q e f = absurd cc

  unstopped : (state : State) (fault : LoadFault) (against : FileRefusal) → Loads (NameGives (Some files)) root state → Stops (NameGives (Some files)) root fault → load_stop fault ≡ Refused against → ⊥
  unstopped state (l.Refused name why) against loads r e = refused_or_ended (NameGives (Some files)) root (one_name files) name why state r loads.0
  unstopped state l.TooLarge against loads (other, ends, large) e =
      let same : state ≡ other = one_end (NameGives (Some files)) root (one_name files) state other loads.0 ends in
      let both : false ≡ true = sym loads.1 ∙ ap is_too_large same ∙ large in absurd cc
  unstopped state l.Failed against loads r e = absurd cc
  unstopped state l.Memory against loads r e = absurd cc

  load_or_whole : (a b : FileRefusal) → LoadRefused files root a → WholeRefused files root b → ⊥
  load_or_whole a b (fault, stops, e) (state, reason, loads, is, f) = unstopped state fault a loads stops e

  one_whole : (a b : FileRefusal) → WholeRefused files root a → WholeRefused files root b → a ≡ b
  one_whole a b (state, reason, loads, is, e) (other, because, also, so, f) =
      let same : state ≡ other = one_end (NameGives (Some files)) root (one_name files) state other loads.0 also.0 in
      let both : Some reason ≡ Some because = sym is ∙ ap program_reason same ∙ so in
      let one : reason ≡ because = cc in
      e ∙ ap program_refusal one ∙ sym f

  pub one_program_refusal : (a b : FileRefusal) → ProgramRefused files root a → ProgramRefused files root b → a ≡ b
  one_program_refusal a b (inl (fault, stops, e)) (inl (other, also, f)) = one_stop fault other a b stops also e f
  one_program_refusal a b (inl load) (inr whole) = absurd (load_or_whole a b load whole)
  one_program_refusal a b (inr whole) (inl load) = absurd (load_or_whole b a load whole)
  one_program_refusal a b (inr whole) (inr other) = one_whole a b whole other

  -- a program whose units are loaded, with nothing against them as a whole, is refused for no reason of these
  pub loaded_unrefused : (state : State) (against : FileRefusal) → IsSound files root state → ProgramRefused files root against → ⊥
  loaded_unrefused state against sound (inl (fault, stops, e)) = unstopped state fault against sound.loads stops e
  loaded_unrefused state against sound (inr (other, reason, also, is, e)) =
      let same : state ≡ other = one_end (NameGives (Some files)) root (one_name files) state other sound.loads.0 also.0 in
      let both : ◌≡◌ {A = Option ProgramReason} None (Some reason) = sym sound.sound ∙ ap program_reason same ∙ is in absurd cc

  -- its units are these alone, so one thing becomes of it as the options ask
  one_executed : (options : Options) (state other : State) (x y : Execution) → IsSound files root state → IsSound files root other → ExecutesAs state options x → ExecutesAs other options y → x ≡ y
  one_executed options state other x y sound also is so =
      let same : other ≡ state = one_end (NameGives (Some files)) root (one_name files) other state also.loads.0 sound.loads.0 in
      one_execution state (asked_mode options.checked) (allowed options.budget) x y is (subst (λ (s : State). ExecutesAs s options y) same so)

  one_refused_execution : (options : Options) (a b : FileRefusal) → ExecutionRefused files root options a → ExecutionRefused files root options b → a ≡ b
  one_refused_execution options a b (state, place, cause, sound, is, e) (other, at, why, also, so, f) =
      let one : execution.Refused place cause ≡ execution.Refused at why = one_executed options state other (execution.Refused place cause) (execution.Refused at why) sound also is so in
      let same : state ≡ other = one_end (NameGives (Some files)) root (one_name files) state other sound.loads.0 also.loads.0 in
      e ∙ refused_same state other place at cause why same one ∙ sym f

  -- ---- reasons of both kinds

  abbrev pub AnyRefused : Options → FileRefusal → Type 0
  AnyRefused options against = ProgramRefused files root against ⊎ ExecutionRefused files root options against

  pub one_any : (options : Options) (a b : FileRefusal) → AnyRefused options a → AnyRefused options b → a ≡ b
  one_any options a b (inl x) (inl y) = one_program_refusal a b x y
  one_any options a b (inl x) (inr (state, place, cause, sound, is, e)) = absurd (loaded_unrefused state a sound x)
  one_any options a b (inr (state, place, cause, sound, is, e)) (inl y) = absurd (loaded_unrefused state b sound y)
  one_any options a b (inr x) (inr y) = one_refused_execution options a b x y

  pub one_finish : (options : Options) (a b : Written) → Finishes files root options a → Finishes files root options b → a ≡ b
  one_finish options a b (state, sound, is) (other, also, so) =
      let one : execution.Ran a ≡ execution.Ran b = one_executed options state other (execution.Ran a) (execution.Ran b) sound also is so in cc

  pub finish_unrefused : (options : Options) (against : FileRefusal) (made : Written) → AnyRefused options against → Finishes files root options made → ⊥
  finish_unrefused options against made (inl x) (state, sound, is) = loaded_unrefused state against sound x
  finish_unrefused options against made (inr (other, place, cause, also, so, e)) (state, sound, is) =
      let one : execution.Refused place cause ≡ execution.Ran made = one_executed options other state (execution.Refused place cause) (execution.Ran made) also sound so is in cc

  -- what has what isn't built is refused for no reason, and writes nothing
  pub not_built_unrefused : (options : Options) (state : State) → IsSound files root state → ExecutesAs state options execution.NotBuilt → (against : FileRefusal) → AnyRefused options against → ⊥
  not_built_unrefused options state sound is against (inl x) = loaded_unrefused state against sound x
  not_built_unrefused options state sound is against (inr (other, place, cause, also, so, e)) =
      let one : execution.Refused place cause ≡ execution.NotBuilt = one_executed options other state (execution.Refused place cause) execution.NotBuilt also sound so is in cc

  pub not_built_unwritten : (options : Options) (state : State) → IsSound files root state → ExecutesAs state options execution.NotBuilt → (made : Written) → Finishes files root options made → ⊥
  not_built_unwritten options state sound is made (other, also, so) =
      let one : execution.Ran made ≡ execution.NotBuilt = one_executed options other state (execution.Ran made) execution.NotBuilt also sound so is in cc

  pub finished_unrefused : (options : Options) (state : State) (made : Written) → IsSound files root state → ExecutesAs state options (execution.Ran made) → (against : FileRefusal) → AnyRefused options against → ⊥
  finished_unrefused options state made sound is against any = finish_unrefused options against made any (state, sound, is)

-- ---- what loading answers with the root's text at hand

known_sound : (files : Files) (root text : List ℕ) (state : State) → file_of files root ≡ Some text → Loads (NameGives (known root text (Some files))) root state → program_reason state ≡ None → IsSound files root state
known_sound files root text state has loads none = record {
  loads = (ends_by (NameGives (known root text (Some files))) (NameGives (Some files)) root (known_name root text files has) state loads.0, loads.1);
  sound = none;
}

-- the state to which loading comes, and what is found of it
abbrev pub FoundWith : Option Files → List ℕ → List ℕ → Checked → Type 0
FoundWith told root text checked = (state : State) × Loads (NameGives (known root text told)) root state × Found state checked

pub told_loaded : (told : Option Files) (root text : List ℕ) (loaded : Loaded) → FoundWith told root text (Sound loaded) → LoadGives told root text (Ok loaded)
told_loaded None root text loaded found = tt
told_loaded (Some files) root text loaded (state, loads, found) = λ has.
    subst (λ (s : State). IsSound files root s) (sym found.0) (known_sound files root text state has loads found.1)

told_whole : (told : Option Files) (root text : List ℕ) (reason : ProgramReason) → FoundWith told root text (Against reason) → WhereHas told root text (λ files. ProgramRefused files root (program_refusal reason))
told_whole None root text reason found = tt
told_whole (Some files) root text reason (state, loads, is) = λ has.
    inr (state, reason, (ends_by (NameGives (known root text (Some files))) (NameGives (Some files)) root (known_name root text files has) state loads.0, loads.1), is, refl)

-- where memory may run out over the reason
pub told_whole_stop : (told : Option Files) (root text : List ℕ) (reason : ProgramReason) (stop : RunStop) → (stop ≡ Refused (program_refusal reason)) ⊎ (stop ≡ Memory) → FoundWith told root text (Against reason) → LoadGives told root text (Err stop)
told_whole_stop told root text reason stop (inl e) found = subst (λ (s : RunStop). LoadGives told root text (Err s)) (sym e) (told_whole told root text reason found)
told_whole_stop told root text reason stop (inr e) found = subst (λ (s : RunStop). LoadGives told root text (Err s)) (sym e) tt

told_refused : (told : Option Files) (root text : List ℕ) (fault : LoadFault) (against : FileRefusal) → load_stop fault ≡ Refused against → Stops (NameGives (known root text told)) root fault → WhereHas told root text (λ files. ProgramRefused files root against)
told_refused None root text fault against e stops = tt
told_refused (Some files) root text fault against e stops = λ has.
    inl (fault, stops_by (NameGives (known root text (Some files))) (NameGives (Some files)) root (known_name root text files has) fault stops, e)

told_fault : (told : Option Files) (root text : List ℕ) (fault : LoadFault) (stop : RunStop) → load_stop fault ≡ stop → Stops (NameGives (known root text told)) root fault → LoadGives told root text (Err stop)
told_fault told root text fault (Refused against) e stops = told_refused told root text fault against e stops
told_fault told root text fault Failed e stops = tt
told_fault told root text fault Memory e stops = tt

-- where memory may run out over the fault
pub told_stop : (told : Option Files) (root text : List ℕ) (fault : LoadFault) (stop : RunStop) → (stop ≡ load_stop fault) ⊎ (stop ≡ Memory) → Stops (NameGives (known root text told)) root fault → LoadGives told root text (Err stop)
told_stop told root text fault stop (inl e) stops = told_fault told root text fault stop (sym e) stops
told_stop told root text fault stop (inr e) stops = subst (λ (s : RunStop). LoadGives told root text (Err s)) (sym e) tt
