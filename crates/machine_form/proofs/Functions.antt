-- Local functions, whose variables are there first.
use Rattle.std.proofs.Common.{◌≡◌, ℕ, true, Option, Some, sym, ap, ◌∙◌}
use Rattle.dart_base.specs.declared.place.Place.{Place}
use Rattle.dart_ir.specs.declared.value.Value.{Value}
use Rattle.dart_ir.specs.declared.value.Value.TheVariants.{Null}
use Rattle.core_program.specs.declared.form.Unary.{Unary}
use Rattle.core_program.specs.Core as c
use Rattle.core_program.specs.View as v
use Rattle.evaluation.specs.State.{Outcome, ends}
use Rattle.evaluation.specs.Sequence.{on_answer}
use Rattle.evaluation.specs.Variables.{declare}
use Rattle.evaluation.specs.Evaluation.{eval, unary, before_operand}
use Rattle.machine_frame.specs.declared.around.Around.{Around}
use Rattle.machine_frame.specs.declared.run.Run.{Run}
use Rattle.machine_frame.specs.Outside.{setting_of, world_in}
use Rattle.machine_frame.specs.Frames.{seen, ending, does, IsBeside, value_or_full}
use Rattle.machine_frame.proofs.Beside.{beside_does}

module _ (a : Around) (r : Run) (at : Place) where
  -- an operand by what is done with it
  pub operand_goes : (one y : Unary) (operand : c.Core ℕ) → one ≡ y
      → does a r (λ w st. on_answer (unary w at true (v.unary y)) (before_operand w true (v.unary y) (eval operand w) st))
      ≡ does a r (λ w st. on_answer (unary w at true (v.unary one)) (before_operand w true (v.unary one) (eval operand w) st))
  operand_goes one y operand is =
      ap (λ (z : Unary). does a r (λ w st. on_answer (unary w at true (v.unary z)) (before_operand w true (v.unary z) (eval operand w) st))) (sym is)

  -- the variable is there before the function
  pub function_goes : (r' : Run) (x : ℕ) (operand : c.Core ℕ) (held : Option Value) (cell : Value) → held ≡ Some cell
      → declare (setting_of a) x Null (seen r) ≡ ends (value_or_full held) (seen r') → IsBeside r r'
      → does a r' (λ w st. on_answer (unary w at true (c.var x)) (eval operand w st))
      ≡ does a r (λ w st. on_answer (unary w at true (c.var x)) (on_answer (λ _. eval operand w) (declare w.setting x Null st)))
  function_goes r' x operand held cell some made b =
      let w = world_in a r.depth in
      beside_does a r r' b (λ w st. on_answer (unary w at true (c.var x)) (eval operand w st))
      ∙ ap (λ (o : Outcome). ending a r (on_answer (unary w at true (c.var x)) (on_answer (λ _. eval operand w) o)))
      (sym (made ∙ ap (λ (h : Option Value). ends (value_or_full h) (seen r')) some))
