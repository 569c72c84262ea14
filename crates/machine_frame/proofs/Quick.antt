-- Operands that are answered at once.
use Rattle.std.proofs.Common.{◌≡◌, ◌≢◌, ℕ, ◌-◌, List, [], ◌∷◌, refl, ap, ◌∙◌, false}
use Rattle.dart_base.specs.declared.place.Place.{Place}
use Rattle.dart_ir.specs.declared.native.NativeId.{NativeId}
use Rattle.dart_ir.specs.declared.value.Value.{Value}
use Rattle.core_program.specs.Core as c
use Rattle.evaluation.specs.State.{State, answer, Outcome, ends, World}
use Rattle.evaluation.specs.Sequence.{on_answer, on_answers}
use Rattle.evaluation.specs.Evaluation.{eval, act, evals, leaf, row}
use Rattle.evaluation.specs.Externals.{native}
use Rattle.machine_frame.proofs.Steps.{form_enters}

-- the two operands of a native, and what it answers
pub two_answers : (w : World) (at : Place) (id : NativeId) (names : List ℕ) (first second : c.Core ℕ) (st st' st'' : State) (x y : Value) (o : Outcome)
    → eval first w st ≡ ends (answer x) st' → eval second w st' ≡ ends (answer y) st'' → native w.setting at id (x ∷ y ∷ []) st'' ≡ o
    → on_answers (row w at (c.native id) names) (evals false (c.core_more first (c.core_more second c.no_cores)) w) [] st ≡ o
two_answers w at id names first second st st' st'' x y o ex ey e =
    ap (on_answer (λ v. on_answers (row w at (c.native id) names) (evals false (c.core_more second c.no_cores) w) (v ∷ []))) ex
    ∙ ap (on_answer (λ v. on_answers (row w at (c.native id) names) [] (x ∷ v ∷ []))) ey ∙ e

pub leaf_enters : (at : Place) (x : c.Leaf ℕ) (w : World) (st : State) → st.left ≢ 0 → eval (c.at at (c.leaf x)) w st ≡ leaf w at x (record st { left = st.left - 1 })
leaf_enters at x w st h = form_enters at (c.leaf x) w st refl h

pub row_enters : (at : Place) (job : c.Job ℕ) (forms : c.Cores ℕ) (names : List ℕ) (w : World) (st : State) (o : Outcome) → st.left ≢ 0
    → act (c.row job forms names) at w (record st { left = st.left - 1 }) ≡ o → eval (c.at at (c.row job forms names)) w st ≡ o
row_enters at job forms names w st o h e = form_enters at (c.row job forms names) w st refl h ∙ e
