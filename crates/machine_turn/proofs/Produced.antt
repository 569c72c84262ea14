-- The turn of a bare program.
use Rattle.std.proofs.Common.{◌≡◌, ℕ, List, Option, Some, None, refl, sym, ap, ◌∙◌, cond, nat_le}
use Rattle.std.proofs.lemmas.List.{length-map}
use Rattle.std.specs.Prelude.{option_map, replicate}
use Rattle.std.specs.Borrow.{Bor}
use Rattle.core_program.specs.declared.program.CoreProgram.{CoreProgram}
use Rattle.core_program.specs.Program.{Program}
use Rattle.core_program.specs.ProgramView as p
use Rattle.core_program.specs.Alike as alike
use Rattle.dart_store.specs.declared.store.Static.TheVariants.{Unset}
use Rattle.evaluation.specs.State.{Known, Setting}
use Rattle.evaluation.specs.Checks as checks
use Rattle.evaluation.specs.Checks.{Checking, OnFailure, reports, world}
use Rattle.evaluation.specs.Turn.{turn_of, turn, started, begun, Entry, main, Budget, Isolate, cost_of, isolate_with, new_isolate}
use Rattle.evaluation.proofs.Unread.{production_checks_nothing}
use Rattle.machine_frame.specs.declared.around.Around.{Around}
use Rattle.machine_frame.specs.Outside.{failing, setting_of, checking_of, world_in}
use Rattle.machine_turn.specs.Turn.{quiet, first_turn}
use Rattle.machine_turn.specs.Produced.{bare, setting_with, main_turn, RunsBare, FirstTurnIsProduced}

option_same : {A B : Type 0} (f g : A → B) → ((x : A) → f x ≡ g x) → (o : Option A) → option_map f o ≡ option_map g o
option_same f g h None = refl
option_same f g h (Some x) = ap Some (h x)

-- a bare program has as many static variables, and the same constants
pub isolate_bare : (q : Program ℕ) (b : Budget) → new_isolate (bare q) b ≡ new_isolate q b
isolate_bare q b =
    ap (λ n. isolate_with b.steps (cond (nat_le (cost_of q.constants) b.units)
    (Some (record { objects = q.constants; statics = replicate n Unset; used = cost_of q.constants; limit = b.units })) None))
    (length-map q.statics alike.static)

module _ (a : Around) (q : Program ℕ) (names : List (List ℕ)) (how : OnFailure) (same : RunsBare a q names how) (depth : ℕ) where
  abbrev S : Setting
  S = setting_of a

  abbrev K : Checking
  K = checks.checking_of q names S.is_subtype

  setting_same : S ≡ setting_with S q names
  setting_same =
      ap (λ x. record S { program = x }) same.program
      ∙ ap (λ ns. record S { program = bare q; names = ns }) same.names_same
      ∙ ap (λ (k : Known). record S { program = bare q; names = names; known = k }) same.known_same

  checks_same : how ≡ reports → checking_of a ≡ K
  checks_same e = λ i. record { program = same.checked_same e i; bool_class = (same.known_same i).bool_class; is_subtype = S.is_subtype }

  -- in production no check is asked, and in checked mode they are the same
  by_checks : (o : Option (Bor CoreProgram)) → a.setup.now.annotated ≡ o → (entry : Entry) (i : Isolate)
      → started (world (checking_of a) S (failing o) depth) entry (begun i) ≡ started (world K S (failing o) depth) entry (begun i)
  by_checks None e entry i = production_checks_nothing (checking_of a) K S depth entry i
  by_checks (Some y) e entry i =
      ap (λ k. started (world k S reports depth) entry (begun i)) (checks_same (sym same.failing_same ∙ ap failing e))

  turn_same : (entry : Entry) (i : Isolate) → turn (world_in a depth) entry i ≡ turn (world K (setting_with S q names) how depth) entry i
  turn_same entry i =
      ap (turn_of S) (by_checks a.setup.now.annotated refl entry i)
      ∙ ap (λ h. turn (world K S h depth) entry i) same.failing_same
      ∙ ap (λ s. turn (world K s how depth) entry i) setting_same

  main_same : (i : Isolate) → quiet (turn (world_in a depth) (main a.program.now.main.0) i) ≡ main_turn S q names how depth i
  main_same i =
      ap (λ (x : Program ℕ). quiet (turn (world_in a depth) (main x.main) i)) same.program
      ∙ ap quiet (turn_same (main q.main) i)

  isolate_same : (b : Budget) → new_isolate (p.program a.program.now) b ≡ new_isolate q b
  isolate_same b = ap (λ x. new_isolate x b) same.program ∙ isolate_bare q b

  pub turn_produced : (b : Budget) → first_turn (world_in a depth) a.program.now b ≡ option_map (main_turn S q names how depth) (new_isolate q b)
  turn_produced b =
      option_same _ (main_turn S q names how depth) main_same (new_isolate (p.program a.program.now) b)
      ∙ ap (option_map (main_turn S q names how depth)) (isolate_same b)

pub first_turn_is_produced : FirstTurnIsProduced
first_turn_is_produced a q names how same depth b = turn_produced a q names how same depth b
