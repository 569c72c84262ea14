use Rattle.std.proofs.Common.{◌-◌, map, sym, ap, arith}
use Rattle.std.proofs.lemmas.Result.{err_from_is_err_and}
use Rattle.dart_token.specs.declared.sign.Sign.TheVariants as s
use Rattle.token_codes.specs.Leaves.{sign, identifier}
use Rattle.token_cursor.proofs.Passing.{passes}
use Rattle.syntax_readers.specs.Combinators.{◌~◌}
use Rattle.syntax_readers.specs.Parameters.{more_variables, after_sign}
use Rattle.parse_nest.specs.Stages.{closed_at}
use Rattle.parse_loop.proofs.Plain.{begins, stops, over, fails, goes_on}
use Rattle.parse_parameter.specs.Views.{variable_of, variable_height, variables_of, more_height}
use Rattle.parse_parameter.proofs.Variables.{variables_list, pushed, none_high, more_unmapped}
use Rattle.parse_parameter.proofs.variable.more_variables.Goals as goal

pub loop-turn-init : goal.loop-turn-init
loop-turn-init g c =
    let d = c.args.depth in
    let none = ap (map variable_of) c.new-found.ensures.items in
    begins (variables_list (closed_at d)) d (more_variables (closed_at d) c.args.cursor.now) tt c.args.cursor.now (variables_of c.new-found.result) 0 (c.left-turn-end.result - 0)
    (more_unmapped (closed_at d) c.args.cursor.now) none (none_high (variables_of c.new-found.result) none) (omega arith) (omega (arith, c.left-turn-end.ensures))

pub returns-then-not-sees : goal.returns-then-not-sees
returns-then-not-sees g c =
    let i = c.loop-turn.invariant in
    let d = c.args.depth in
    (stops (variables_list (closed_at d)) d (more_variables (closed_at d) c.args.cursor.now) (variables_of c.loop-turn.found) c.loop-turn.highest c.left-turn-end.result c.loop-turn._turn c.loop-turn.cursor i c.loop-turn-test.true (sym c.if-not-sees.ensures), i.high, i.low)

pub returns-in_err-variable : goal.returns-in_err-variable
returns-in_err-variable g c =
    let p = err_from_is_err_and c.from_residual.result c.from_residual.ensures.1 in
    let d = c.args.depth in
    rw (p.1, p.2) (passes variable_of variable_height d ((sign s.Comma ~ identifier ~ after_sign s.Assign (closed_at d)) c.loop-turn.cursor) variables_of more_height d (more_variables (closed_at d) c.args.cursor.now) c.in_err-variable.field-0.0 c.further_variable.new.cursor
    (λ end e. fails (variables_list (closed_at d)) d (more_variables (closed_at d) c.args.cursor.now) (variables_of c.loop-turn.found) c.loop-turn.highest c.left-turn-end.result c.loop-turn._turn c.loop-turn.cursor end c.loop-turn.invariant c.loop-turn-test.true (sym c.if-not-sees.ensures) e) c.in_err-variable.ensures)

pub loop-turn-preserved : goal.loop-turn-preserved
loop-turn-preserved g c =
    let r = c.in_ok-variable.ensures in
    let d = c.args.depth in
    goes_on (variables_list (closed_at d)) d (more_variables (closed_at d) c.args.cursor.now) (variables_of c.loop-turn.found) _ c.loop-turn.highest _ c.left-turn-end.result c.loop-turn._turn c.loop-turn.cursor c.further_variable.new.cursor (variable_of c.in_ok-variable.variable) c.loop-turn.invariant c.loop-turn-test.true (sym c.if-not-sees.ensures) r.0
    (pushed c.loop-turn.found.items _ c.in_ok-variable.variable c.in_ok-push.ensures.items) (omega (arith, c.max-highest.ensures, r.1)) (omega (arith, r.1, r.2))

pub returns : goal.returns
returns g c =
    let i = c.loop-turn.invariant in
    let d = c.args.depth in
    (over (variables_list (closed_at d)) d (more_variables (closed_at d) c.args.cursor.now) (variables_of c.loop-turn.found) c.loop-turn.highest c.left-turn-end.result c.loop-turn._turn c.loop-turn.cursor i (omega (arith, c.loop-turn-test.false)), i.high, i.low)
