use Rattle.std.proofs.Common.{◌≡◌, ℕ, List, Result, ap, sym, ◌∙◌}
use Rattle.std.specs.declared.alloc.AllocError.{AllocError}
use Rattle.core_program.specs.View as v
use Rattle.core_program.specs.declared.program.CoreProgram.{CoreProgram}
use Rattle.core_program.specs.declared.form.Case.{out-Case}
use Rattle.core_program.specs.declared.form.Core.{Core, out-Core}
use Rattle.core_program.specs.declared.form.Handler.{out-Handler}
use Rattle.core_program.proofs.Views.{view_leaf, view_type_literal, view_binary, view_let, view_if, view_loop, view_switch, view_everything, view_on, attempt_out, case_out, core_out, handler_out}
use Rattle.core_text.specs.Line.{Adds}
use Rattle.core_text.specs.Form.{case, core, handler, parts, test_part}
use Rattle.core_text.proofs.Added.{behind, nothing, told}
use Rattle.core_text.proofs.form.+writing.Goals as goal

-- a form that was looked at through its box
boxed : {r : Result (Unit {0}) AllocError} {b0 b1 : List ℕ} {f g : Core} (x : CoreProgram) (blanks : ℕ) → f ≡ g
    → Adds r b0 b1 (core x blanks (v.core f)) → Adds r b0 b1 (core x blanks (v.core g))
boxed x blanks e = told (ap (λ (f : Core). core x blanks (v.core f)) e)

pub push_core-returns : goal.push_core-returns
push_core-returns t c =
    told (ap (core c.args.program.now c.args.blanks) (sym (core_out c.args.core.now)))
    (behind c.in_ok-push_form_line.ensures
    (told (ap (λ (n : ℕ). parts c.args.program.now n (v.form (out-Core c.args.core.now).form)) c.deeper.ensures) c.push_parts.ensures))

pub push_parts-returns-in-Leaf : goal.push_parts-returns-in-Leaf
push_parts-returns-in-Leaf t c =
    told (ap (parts c.args.program.now c.args.blanks) (sym (ap v.form c.in-Leaf.is ∙ view_leaf c.in-Leaf.field-0))) (nothing c.args.bytes.now)

pub push_parts-returns-in-TypeLiteral : goal.push_parts-returns-in-TypeLiteral
push_parts-returns-in-TypeLiteral t c =
    told (ap (parts c.args.program.now c.args.blanks) (sym (ap v.form c.in-TypeLiteral.is ∙ view_type_literal c.in-TypeLiteral.field-0)))
    (nothing c.args.bytes.now)

pub push_parts-returns-in_ok-push_core-in-Binary : goal.push_parts-returns-in_ok-push_core-in-Binary
push_parts-returns-in_ok-push_core-in-Binary t c =
    told (ap (parts c.args.program.now c.args.blanks) (sym (ap v.form c.in-Binary.is ∙ view_binary _ _ _)))
    (behind (boxed c.args.program.now c.args.blanks c.deref-in-Binary.ensures c.in_ok-push_core-in-Binary.ensures)
    (boxed c.args.program.now c.args.blanks c.deref-in-Binary-2.ensures c.push_core-in-Binary-2.ensures))

pub push_parts-returns-in_ok-push_core-in-Let : goal.push_parts-returns-in_ok-push_core-in-Let
push_parts-returns-in_ok-push_core-in-Let t c =
    told (ap (parts c.args.program.now c.args.blanks) (sym (ap v.form c.in-Let.is ∙ view_let _ _ _)))
    (behind (boxed c.args.program.now c.args.blanks c.deref-in-Let.ensures c.in_ok-push_core-in-Let.ensures)
    (boxed c.args.program.now c.args.blanks c.deref-in-Let-2.ensures c.push_core-in-Let-2.ensures))

pub push_parts-returns-in_ok-push_part-in-If : goal.push_parts-returns-in_ok-push_part-in-If
push_parts-returns-in_ok-push_part-in-If t c =
    told (ap (parts c.args.program.now c.args.blanks) (sym (ap v.form c.in-If.is ∙ view_if _ _ _)))
    (behind (boxed c.args.program.now c.args.blanks c.deref-in-If.ensures c.in_ok-push_core-in-If.ensures)
    (behind c.in_ok-push_part-in-If.ensures c.push_part-in-If.ensures))

pub push_parts-returns-in_ok-push_part-in-Loop-2 : goal.push_parts-returns-in_ok-push_part-in-Loop-2
push_parts-returns-in_ok-push_part-in-Loop-2 t c =
    told (ap (parts c.args.program.now c.args.blanks) (sym (ap v.form c.in-Loop.is ∙ view_loop _ _ _ _ _)))
    (behind c.in_ok-push_part-in-Loop.ensures (behind c.in_ok-push_part-in-Loop-2.ensures c.push_part-in-Loop-3.ensures))

pub push_parts-returns-in_ok-push_core-in-Switch : goal.push_parts-returns-in_ok-push_core-in-Switch
push_parts-returns-in_ok-push_core-in-Switch t c =
    told (ap (parts c.args.program.now c.args.blanks) (sym (ap v.form c.in-Switch.is ∙ view_switch _ _ _)))
    (behind (boxed c.args.program.now c.args.blanks c.deref-in-Switch.ensures c.in_ok-push_core-in-Switch.ensures) c.push_cases.ensures)

pub push_attempt-returns : goal.push_attempt-returns
push_attempt-returns t c =
    told (ap (parts c.args.program.now c.args.blanks) (sym (attempt_out c.args.attempt.now)))
    (behind c.in_ok-push_core.ensures (behind c.in_ok-push_handlers.ensures c.push_part.ensures))

pub push_handler-returns : goal.push_handler-returns
push_handler-returns t c =
    told (ap (handler c.args.program.now c.args.blanks) (sym (handler_out c.args.handler.now)))
    (behind c.in_ok-push_handler_line.ensures
    (behind (told (ap (λ (n : ℕ). test_part c.args.program.now n (v.test (out-Handler c.args.handler.now).test)) c.deeper.ensures) c.in_ok-push_test_part.ensures)
    (told (ap (λ (n : ℕ). core c.args.program.now n (v.core (out-Handler c.args.handler.now).body)) c.deeper-2.ensures) c.push_core.ensures)))

pub push_test_part-returns-in-Everything : goal.push_test_part-returns-in-Everything
push_test_part-returns-in-Everything t c =
    told (ap (test_part c.args.program.now c.args.blanks) (sym (ap v.test c.in-Everything.is ∙ view_everything))) (nothing c.args.bytes.now)

pub push_test_part-returns-in-On : goal.push_test_part-returns-in-On
push_test_part-returns-in-On t c =
    told (ap (test_part c.args.program.now c.args.blanks) (sym (ap v.test c.in-On.is ∙ view_on c.in-On.field-0))) (nothing c.args.bytes.now)

pub push_case-returns : goal.push_case-returns
push_case-returns t c =
    told (ap (case c.args.program.now c.args.blanks) (sym (case_out c.args.case.now)))
    (behind c.in_ok-push_case_line.ensures
    (told (ap (λ (n : ℕ). core c.args.program.now n (v.core (out-Case c.args.case.now).body)) c.deeper.ensures) c.push_core.ensures))
