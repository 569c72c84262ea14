use Rattle.std.proofs.Common.{◌-◌, None, Some, sym, refl, arith}
use Rattle.std.proofs.lemmas.Result.{err_from_is_err_and}
use Rattle.dart_token.specs.declared.sign.Sign.TheVariants as s
use Rattle.dart_tree.specs.Depth as height
use Rattle.token_codes.specs.Leaves.{sign}
use Rattle.token_cursor.proofs.Passing.{passes}
use Rattle.syntax_readers.specs.Combinators.{◌~◌}
use Rattle.syntax_readers.specs.Parameters.{after_sign}
use Rattle.parse_nest.specs.Stages.{closed_at}
use Rattle.parse_loop.proofs.Plain.{no_first, begins_behind, stops, over, fails, goes_on}
use Rattle.parse_parameter.specs.Views.{parameter_at, parameters_of, default_of, default_height, comma_default_of, comma_default_height, default_list}
use Rattle.parse_parameter.proofs.Parameters.{defaults, a_default, pushed, one_pushed, one_default_high}
use Rattle.parse_parameter.proofs.list.default_parameters.Goals as goal

pub returns-in_err-first : goal.returns-in_err-first
returns-in_err-first g c =
    let p = err_from_is_err_and c.from_residual.result c.from_residual.ensures.1 in
    let d = c.args.depth in
    let b = c.args.before in
    rw (p.1, p.2) (passes default_of default_height d ((parameter_at d ~ after_sign b (closed_at d)) c.args.cursor.now) parameters_of height.parameter_list_height d (default_list b (parameter_at d) (closed_at d) c.args.cursor.now) c.in_err-first.field-0.0 c.default_parameter.new.cursor
    (λ end e. no_first (defaults b (parameter_at d) (closed_at d)) d (default_list b (parameter_at d) (closed_at d) c.args.cursor.now) (parameter_at d ~ after_sign b (closed_at d)) c.args.cursor.now end refl e) c.in_err-first.ensures)

pub loop-turn-init : goal.loop-turn-init
loop-turn-init g c =
    let r = c.in_ok-first.ensures in
    let d = c.args.depth in
    let b = c.args.before in
    let x = default_of c.in_ok-first.first in
    let is = one_pushed c.push.new.self.items c.optional_parameter.result (a_default None x) (rw c.new-found.ensures.items at c.in_ok-push.ensures.items) c.optional_parameter.ensures in
    begins_behind (defaults b (parameter_at d) (closed_at d)) d (default_list b (parameter_at d) (closed_at d) c.args.cursor.now) (parameter_at d ~ after_sign b (closed_at d)) x c.args.cursor.now c.default_parameter.new.cursor
    (parameters_of c.push.new.self) c.in_ok-first.height (c.left-turn-end.result - 0) refl r.0 is
    (one_default_high (parameters_of c.push.new.self) x c.in_ok-first.height is r.1) r.2 (omega (arith, c.left-turn-end.ensures))

pub returns-then-not-sees : goal.returns-then-not-sees
returns-then-not-sees g c =
    let i = c.loop-turn.invariant in
    let d = c.args.depth in
    let b = c.args.before in
    (stops (defaults b (parameter_at d) (closed_at d)) d (default_list b (parameter_at d) (closed_at d) c.args.cursor.now) (parameters_of c.loop-turn.found) c.loop-turn.highest c.left-turn-end.result c.loop-turn._turn c.loop-turn.cursor i c.loop-turn-test.true (sym c.if-not-sees.ensures), i.high, i.low)

pub returns-in_err-comma : goal.returns-in_err-comma
returns-in_err-comma g c =
    let p = err_from_is_err_and c.from_residual-in_err-comma.result c.from_residual-in_err-comma.ensures.1 in
    let d = c.args.depth in
    let b = c.args.before in
    rw (p.1, p.2) (passes comma_default_of comma_default_height d ((sign s.Comma ~ (parameter_at d ~ after_sign b (closed_at d))) c.loop-turn.cursor) parameters_of height.parameter_list_height d (default_list b (parameter_at d) (closed_at d) c.args.cursor.now) c.in_err-comma.field-0.0 c.comma_default.new.cursor
    (λ end e. fails (defaults b (parameter_at d) (closed_at d)) d (default_list b (parameter_at d) (closed_at d) c.args.cursor.now) (parameters_of c.loop-turn.found) c.loop-turn.highest c.left-turn-end.result c.loop-turn._turn c.loop-turn.cursor end c.loop-turn.invariant c.loop-turn-test.true (sym c.if-not-sees.ensures) e) c.in_err-comma.ensures)

pub loop-turn-preserved : goal.loop-turn-preserved
loop-turn-preserved g c =
    let r = c.in_ok-comma.ensures in
    let d = c.args.depth in
    let b = c.args.before in
    goes_on (defaults b (parameter_at d) (closed_at d)) d (default_list b (parameter_at d) (closed_at d) c.args.cursor.now) (parameters_of c.loop-turn.found) _ c.loop-turn.highest _ c.left-turn-end.result c.loop-turn._turn c.loop-turn.cursor c.comma_default.new.cursor (c.in_ok-comma.comma, default_of c.in_ok-comma.further) c.loop-turn.invariant c.loop-turn-test.true (sym c.if-not-sees.ensures) r.0
    (pushed c.loop-turn.found.items _ c.optional_parameter-in-loop-turn.result (a_default (Some c.in_ok-comma.comma) (default_of c.in_ok-comma.further)) c.in_ok-push-2.ensures.items c.optional_parameter-in-loop-turn.ensures) (omega (arith, c.max-highest.ensures, r.1)) (omega (arith, r.1, r.2))

pub returns : goal.returns
returns g c =
    let i = c.loop-turn.invariant in
    let d = c.args.depth in
    let b = c.args.before in
    (over (defaults b (parameter_at d) (closed_at d)) d (default_list b (parameter_at d) (closed_at d) c.args.cursor.now) (parameters_of c.loop-turn.found) c.loop-turn.highest c.left-turn-end.result c.loop-turn._turn c.loop-turn.cursor i (omega (arith, c.loop-turn-test.false)), i.high, i.low)
