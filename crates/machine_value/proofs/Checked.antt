-- Values that fail their checks.
use Rattle.std.specs.Borrow.{Bor}
use Rattle.std.proofs.Common.{◌≡◌, refl, ℕ, ◌++◌, List, [], ◌∷◌, true, false, Option, Some, None, IfSome, MatchOption, sym, ap, subst, ◌∙◌}
use Rattle.dart_ir.specs.Ty.{Ty}
use Rattle.dart_ir.specs.declared.ending.Line.TheVariants.{Report}
use Rattle.dart_ir.specs.declared.kind.ThrowKind.TheVariants.{TypeError}
use Rattle.dart_ir.specs.declared.value.Value.{Value}
use Rattle.dart_ir.specs.declared.value.Value.TheVariants.{Null}
use Rattle.core_program.specs.declared.program.CoreProgram.{CoreProgram}
use Rattle.core_program.specs.declared.program.Site.{Site}
use Rattle.core_program.specs.Program as core
use Rattle.core_program.specs.ProgramView as p
use Rattle.evaluation.specs.Checks.{Checking, keep_bounds, passes, site_kind, site_place}
use Rattle.evaluation.specs.Classes.{site_at}
use Rattle.evaluation.specs.Evaluation.{site}
use Rattle.evaluation.specs.Objects.{throw_new}
use Rattle.evaluation.specs.Sequence.{on_answer}
use Rattle.evaluation.specs.State.{now, Meaning, World}
use Rattle.evaluation.specs.Values.{head_of, arguments_here}
use Rattle.machine_frame.specs.declared.around.Around.{Around}
use Rattle.machine_frame.specs.declared.run.Run.{Run}
use Rattle.machine_frame.specs.Outside.{checking_of, failing, setting_of}
use Rattle.machine_frame.specs.Frames.{seen, does}
use Rattle.machine_frame.proofs.Mute.{refusal_goes}

-- a class without bounds is kept by any type arguments
pub no_bounds : (k : Checking) (all ts : List Ty) → keep_bounds k all ts [] ≡ true
no_bounds k all [] = refl
no_bounds k all (t ∷ ts) = refl

-- whether a value passes, and the site where it doesn't
abbrev pub Failed : Around → Run → ℕ → Value → Option (Bor Site) → Type 0
Failed a r n u o =
    let holds = passes (checking_of a) n (head_of (setting_of a) r.store u) (arguments_here (setting_of a) (now (seen r))) in
    MatchOption o (holds ≡ true) (λ x. (holds ≡ false) × (site_at (checking_of a).program n ≡ Some (p.site x.now)))

pub refused_by : (a : Around) (r m : Run) (n : ℕ) (u : Value) (y : Bor CoreProgram) (o : Option (Bor Site)) (x : Bor Site) → a.setup.now.annotated ≡ Some y
    → Failed a r n u o → o ≡ Some x → m.output.items ≡ r.output.items ++ Report (record { 0 = n }) x.now.kind ∷ [] → m ≡ record r { output = m.output }
    → (go : World → Value → Meaning) → does a m (λ w. throw_new w.setting.known x.now.place TypeError Null) ≡ does a r (λ w st. on_answer (go w) (site w n u st))
refused_by a r m n u y o x annotated failed is output rest go =
    let found = subst (Failed a r n u) is failed in
    refusal_goes a r n u m go x.now.place (ap failing annotated) found.0 rest
    (output ∙ ap (λ (s : Option (core.Site ℕ)). r.output.items ++ Report (record { 0 = n }) (site_kind s) ∷ []) (sym found.1))
    (ap (λ (s : Option (core.Site ℕ)). site_place s) (sym found.1))

-- a value that passes
pub admitted_by : (a : Around) (r : Run) (n : ℕ) (u : Value) (o : Option (Bor Site)) → Failed a r n u o → o ≡ None
    → passes (checking_of a) n (head_of (setting_of a) r.store u) (arguments_here (setting_of a) (now (seen r))) ≡ true
admitted_by a r n u o failed is = subst (Failed a r n u) is failed

pub if_is : {A : Type 0} (o : Option A) (x : A) (P : A → Type 0) → IfSome o P → o ≡ Some x → P x
if_is o x P h e = subst (λ o. IfSome o P) e h

pub none_if : {A : Type 0} (o : Option A) → ((x : A) → o ≡ Some x → ⊥) → o ≡ None
none_if None f = refl
none_if (Some x) f = absurd (f x refl)
