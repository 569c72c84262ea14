use Rattle.std.proofs.Common.{◌-◌, ◌∙◌, sym, ap, arith, Some, false}
use Rattle.std.proofs.lemmas.Result.{err_from_is_err_and}
use Rattle.dart_token.specs.declared.sign.Sign.TheVariants as s
use Rattle.dart_tree.specs.Depth as height
use Rattle.dart_tree.specs.Lists.{items_of}
use Rattle.dart_tree.specs.View as view
use Rattle.grammar_laws.specs.Readers.{both}
use Rattle.token_codes.specs.Leaves.{sign}
use Rattle.token_cursor.proofs.Passing.{passes}
use Rattle.parse_nest.specs.Stages.{closed_at}
use Rattle.syntax_readers.specs.Primaries.{argument}
use Rattle.parse_primary.specs.Views.{view_items, argument_of, argument_height, comma_argument_of, comma_argument_height, some_arguments}
use Rattle.parse_primary.proofs.Labelling.{no_first, begins, stops, over, fails, goes_on, labelled_is, one_high, pushed}
use Rattle.parse_primary.proofs.arguments.some_arguments.Goals as goal

pub returns-in_err-label : goal.returns-in_err-label
returns-in_err-label g c =
    let p = err_from_is_err_and c.from_residual.result c.from_residual.ensures.1 in
    let d = c.args.depth in
    rw (p.1, p.2) (passes argument_of argument_height d (argument (closed_at d) false c.args.cursor.now) view_items height.items_height d (some_arguments (closed_at d) c.args.cursor.now) c.in_err-label.field-0.0 c.argument.new.cursor
    (λ end e. no_first (closed_at d) d c.args.cursor.now end e) c.in_err-label.ensures)

pub loop-turn-init : goal.loop-turn-init
loop-turn-init g c =
    let r = c.in_ok-label.ensures in
    let d = c.args.depth in
    let is = ap items_of (rw c.new-found.ensures.items at c.in_ok-push.ensures.items) in
    begins (closed_at d) d c.args.cursor.now c.argument.new.cursor (argument_of (c.in_ok-label.label, c.in_ok-label.value)) c.is_some-named.result (items_of c.push.new.self.items) c.in_ok-label.first (c.left-turn-end.result - 0) r.0
    (c.is_some-named.ensures ∙ labelled_is c.in_ok-label.label (view.expr c.in_ok-label.value)) is (one_high (items_of c.push.new.self.items) (argument_of (c.in_ok-label.label, c.in_ok-label.value)) c.in_ok-label.first is r.1) r.2 (omega (arith, c.left-turn-end.ensures))

pub returns-then-not-sees : goal.returns-then-not-sees
returns-then-not-sees g c =
    let i = c.loop-turn.invariant in
    let d = c.args.depth in
    (stops (closed_at d) d c.args.cursor.now c.loop-turn.named (items_of c.loop-turn.found.items) c.loop-turn.highest c.left-turn-end.result c.loop-turn._turn c.loop-turn.cursor i c.loop-turn-test.true (sym c.if-not-sees.ensures), i.high, i.low)

pub returns-in_err-comma : goal.returns-in_err-comma
returns-in_err-comma g c =
    let p = err_from_is_err_and c.from_residual-in_err-comma.result c.from_residual-in_err-comma.ensures.1 in
    let d = c.args.depth in
    rw (p.1, p.2) (passes comma_argument_of comma_argument_height d (both (sign s.Comma) (argument (closed_at d) c.loop-turn.named) c.loop-turn.cursor) view_items height.items_height d (some_arguments (closed_at d) c.args.cursor.now) c.in_err-comma.field-0.0 c.comma_argument.new.cursor
    (λ end e. fails (closed_at d) d c.args.cursor.now c.loop-turn.named (items_of c.loop-turn.found.items) c.loop-turn.highest c.left-turn-end.result c.loop-turn._turn c.loop-turn.cursor end c.loop-turn.invariant c.loop-turn-test.true (sym c.if-not-sees.ensures) e) c.in_err-comma.ensures)

pub loop-turn-preserved : goal.loop-turn-preserved
loop-turn-preserved g c =
    let r = c.in_ok-comma.ensures in
    let d = c.args.depth in
    goes_on (closed_at d) d c.args.cursor.now c.loop-turn.named _ (items_of c.loop-turn.found.items) _ c.loop-turn.highest _ c.left-turn-end.result c.loop-turn._turn c.loop-turn.cursor c.comma_argument.new.cursor (comma_argument_of (c.in_ok-comma.comma, (c.in_ok-comma.label, c.in_ok-comma.value))) c.loop-turn.invariant c.loop-turn-test.true (sym c.if-not-sees.ensures) r.0
    (c.is_some-named-in-loop-turn.ensures ∙ labelled_is c.in_ok-comma.label (view.expr c.in_ok-comma.value)) (pushed c.loop-turn.found.items _ (Some c.in_ok-comma.comma) c.in_ok-comma.label c.in_ok-comma.value c.in_ok-push-2.ensures.items) (omega (arith, c.max-highest.ensures, r.1)) (omega (arith, r.1, r.2))

pub returns : goal.returns
returns g c =
    let i = c.loop-turn.invariant in
    let d = c.args.depth in
    (over (closed_at d) d c.args.cursor.now c.loop-turn.named (items_of c.loop-turn.found.items) c.loop-turn.highest c.left-turn-end.result c.loop-turn._turn c.loop-turn.cursor i (omega (arith, c.loop-turn-test.false)), i.high, i.low)
