use Rattle.std.proofs.Common.{◌≡◌, ◌∙◌, List, length, sym, ap, arith}
use Rattle.std.proofs.lemmas.Bool.{eqb-true, eq-eqb}
use Rattle.std.specs.Vec.{vec_len}
use Rattle.grammar_laws.proofs.Codes.{clash}
use Rattle.dart_tree.specs.declared.expression.Cascade.{Cascade}
use Rattle.dart_tree.specs.declared.expression.Expr.{Expr}
use Rattle.dart_tree.specs.declared.expression.Operand.{Operand}
use Rattle.dart_tree.specs.declared.expression.Tail.{Tail}
use Rattle.dart_tree.specs.Lists.{tails_of, cascades_of}
use Rattle.dart_tree.specs.View as view
use Rattle.dart_tree.proofs.Rows.{view_plain, view_binary}
use Rattle.dart_syntax.specs.Edges.{expr_takes, operand_takes, tails_take, cascades_take}
use Rattle.parse_edge.specs.Opened.{opened_by}
use Rattle.parse_edge.proofs.Lasts.{plain_alone, plain_behind, tail_more, cascade_more, no_tails_take, no_cascades_take, tail_here, tail_inside, moves, none_left}
use Rattle.parse_edge.proofs.edge.+edges.Goals as goal

pub expr_takes-returns-then-is_empty : goal.expr_takes-returns-then-is_empty
expr_takes-returns-then-is_empty t c =
    let n = c.args.next in
    let e = ap (λ (x : Expr). expr_takes n.binds (opened_by n.opens) c.args.from (view.expr x)) c.in-Plain.is ∙ ap (expr_takes n.binds (opened_by n.opens) c.args.from) (view_plain c.in-Plain.operand c.in-Plain.cascades) in
    let long : vec_len c.in-Plain.cascades ≡ 0 = eqb-true (vec_len c.in-Plain.cascades) 0 (sym c.is_empty.ensures ∙ c.if-is_empty.true) in
    let none : length c.in-Plain.cascades.items ≡ 0 = omega (arith, c.in-Plain.cascades.ok.0, long) in
    c.operand_takes.ensures ∙ sym (e ∙ plain_alone n.binds (opened_by n.opens) c.args.from (view.operand c.in-Plain.operand) c.in-Plain.cascades.items none)

pub expr_takes-returns-else-is_empty : goal.expr_takes-returns-else-is_empty
expr_takes-returns-else-is_empty t c =
    let n = c.args.next in
    let e = ap (λ (x : Expr). expr_takes n.binds (opened_by n.opens) c.args.from (view.expr x)) c.in-Plain.is ∙ ap (expr_takes n.binds (opened_by n.opens) c.args.from) (view_plain c.in-Plain.operand c.in-Plain.cascades) in
    let some : length c.in-Plain.cascades.items ≡ 0 → ⊥ = λ z.
    let long : vec_len c.in-Plain.cascades ≡ 0 = omega (arith, c.in-Plain.cascades.ok.0, z) in
    clash c.is_empty.result (c.is_empty.ensures ∙ eq-eqb (vec_len c.in-Plain.cascades) 0 long) c.if-is_empty.false in
    c.cascades_take.ensures ∙ sym (e ∙ plain_behind n.binds (opened_by n.opens) c.args.from (view.operand c.in-Plain.operand) c.in-Plain.cascades.items some)

pub operand_takes-returns-in-Binary : goal.operand_takes-returns-in-Binary
unfolding operand_takes
operand_takes-returns-in-Binary t c =
    let n = c.args.next in
    let e = ap (λ (x : Operand). operand_takes n.binds (opened_by n.opens) c.args.from (view.operand x)) c.in-Binary.is ∙ ap (operand_takes n.binds (opened_by n.opens) c.args.from) (view_binary c.in-Binary.field-0 c.in-Binary.more) in
    c.tails_take.ensures ∙ sym e

pub tail_takes-returns-then-binds_there : goal.tail_takes-returns-then-binds_there
tail_takes-returns-then-binds_there t c =
    let n = c.args.next in
    tail_here n.binds (opened_by n.opens) c.args.from c.args.tail.now.operator (view.operand c.args.tail.now.operand) c.level-level.result c.level-level.ensures.same (sym c.binds_there.ensures ∙ c.if-binds_there.true)

pub tail_takes-returns : goal.tail_takes-returns
tail_takes-returns t c =
    let n = c.args.next in
    tail_inside n.binds (opened_by n.opens) c.args.from c.args.tail.now.operator (view.operand c.args.tail.now.operand) c.level-level.result c.max.result c.operand_takes.result c.level-level.ensures.same (sym c.binds_there.ensures ∙ c.if-binds_there.false) c.max.ensures c.operand_takes.ensures

pub tails_take-loop-tail-preserved : goal.tails_take-loop-tail-preserved
tails_take-loop-tail-preserved t c =
    let n = c.args.next in
    record {
      few = omega (arith, c.loop-tail.invariant.few, c.deref-tail-items.ensures.len, c.loop-tail-test.true, c.if-left-eq0.false);
      same = moves c.args.tails.now.items c.deref-tail-items.result.now c.loop-tail.tail-index c.tail-item.result c.deref-tail-items.ensures.value c.loop-tail-test.true c.tail-item.is (λ (l : List Tail). tails_take n.binds (opened_by n.opens) c.args.from (tails_of l)) c.loop-tail.left
          (tail_more n.binds (opened_by n.opens) c.args.from) c.loop-tail.invariant.few (omega (arith, c.if-left-eq0.false)) c.loop-tail.invariant.same;
    }

pub tails_take-returns : goal.tails_take-returns
tails_take-returns t c =
    let n = c.args.next in
    none_left (λ (l : List Tail). tails_take n.binds (opened_by n.opens) c.args.from (tails_of l)) c.args.tails.now.items c.deref-tail-items.result.now c.loop-tail.tail-index c.deref-tail-items.ensures.value c.loop-tail-test.false (no_tails_take n.binds (opened_by n.opens) c.args.from) c.loop-tail.invariant.same

pub cascades_take-loop-cascade-preserved : goal.cascades_take-loop-cascade-preserved
cascades_take-loop-cascade-preserved t c =
    let n = c.args.next in
    record {
      few = omega (arith, c.loop-cascade.invariant.few, c.deref-cascade-items.ensures.len, c.loop-cascade-test.true, c.if-left-eq0.false);
      same = moves c.args.cascades.now.items c.deref-cascade-items.result.now c.loop-cascade.cascade-index c.cascade-item.result c.deref-cascade-items.ensures.value c.loop-cascade-test.true c.cascade-item.is (λ (l : List Cascade). cascades_take n.binds (opened_by n.opens) c.args.from (cascades_of l)) c.loop-cascade.left
          (cascade_more n.binds (opened_by n.opens) c.args.from) c.loop-cascade.invariant.few (omega (arith, c.if-left-eq0.false)) c.loop-cascade.invariant.same;
    }

pub cascades_take-returns : goal.cascades_take-returns
cascades_take-returns t c =
    let n = c.args.next in
    none_left (λ (l : List Cascade). cascades_take n.binds (opened_by n.opens) c.args.from (cascades_of l)) c.args.cascades.now.items c.deref-cascade-items.result.now c.loop-cascade.cascade-index c.deref-cascade-items.ensures.value c.loop-cascade-test.false (no_cascades_take n.binds (opened_by n.opens) c.args.from) c.loop-cascade.invariant.same
