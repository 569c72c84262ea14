-- Statements that are done without a frame.
use Rattle.std.proofs.Common.{◌≡◌, ℕ, List, ◌∷◌, take, false, ap, ◌∙◌}
use Rattle.std.specs.Global.{Vec}
use Rattle.std.specs.Borrow.{Bor}
use Rattle.dart_ir.specs.declared.types.TypeRef.{TypeRef}
use Rattle.dart_ir.specs.declared.value.Value.{Value}
use Rattle.core_program.specs.declared.form.Core.{Core}
use Rattle.core_program.specs.View as v
use Rattle.evaluation.specs.Sequence.{on_answer, in_order}
use Rattle.evaluation.specs.Evaluation.{eval, evals}
use Rattle.machine_frame.specs.declared.around.Around.{Around}
use Rattle.machine_frame.specs.declared.run.Frame.TheVariants as f
use Rattle.machine_frame.specs.declared.run.Body.{Body}
use Rattle.machine_frame.specs.declared.run.Run.{Run}
use Rattle.machine_frame.specs.Frames.{Below, below_of, does, forms_of, types_under, IsBeside}
use Rattle.machine_loop.specs.Simple.{IsDone, IsLeft}
use Rattle.machine_loop.proofs.Partly.{done_resumes, left_resumes}

-- what comes behind a statement that is done
pub done_goes_on : (a : Around) (old new : Run) (one : Core) (rest : Bor (List Core)) (last : Value) → IsDone a one old.left old new
    → does a new (λ w. in_order (evals false (forms_of rest.now) w) new.answer) ≡ does a old (λ w. in_order (evals false (forms_of (one ∷ rest.now)) w) last)
done_goes_on a old new one rest last done = done_resumes a old new one (f.Rest rest) done

-- what comes behind one of which some is done
pub left_goes_on : (a : Around) (old new : Run) (one more : Core) (rest : Bor (List Core)) (last : Value) → IsLeft a one more old new
    → does a new (λ w st. on_answer (in_order (evals false (forms_of rest.now) w)) (eval (v.core more) w st)) ≡ does a old (λ w. in_order (evals false (forms_of (one ∷ rest.now)) w) last)
left_goes_on a old new one more rest last l = left_resumes a old new one more (f.Rest rest) l

-- nothing but the slots of the body at work, the store, the answer and the steps left differs
pub below_same : (old new : Run) → IsBeside old new → below_of new ≡ below_of old
below_same old new b =
    let mk : ℕ → List Value → List Value → List (Vec TypeRef) → List Body → Below = λ d u o t s. record { depth = d; under = u; operands = o; types = t; bodies = s } in
    let types : types_under new.body.has_types new.types.items ≡ types_under old.body.has_types old.types.items =
    ap (λ (x : Body). types_under x.has_types new.types.items) b.4 ∙ ap (types_under old.body.has_types) b.8 in
    ap (λ d. mk d (take new.base new.slots.items) new.operands.items (types_under new.body.has_types new.types.items) new.callers.items) b.5
    ∙ ap (λ u. mk old.depth u new.operands.items (types_under new.body.has_types new.types.items) new.callers.items) b.1
    ∙ ap (λ o. mk old.depth (take old.base old.slots.items) o (types_under new.body.has_types new.types.items) new.callers.items) b.3
    ∙ ap (λ t. mk old.depth (take old.base old.slots.items) old.operands.items t new.callers.items) types
    ∙ ap (mk old.depth (take old.base old.slots.items) old.operands.items (types_under old.body.has_types old.types.items)) b.9
