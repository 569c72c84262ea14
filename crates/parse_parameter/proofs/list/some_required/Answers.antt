use Rattle.std.proofs.Common.{◌-◌, None, Some, sym, refl, arith}
use Rattle.std.proofs.lemmas.Result.{err_from_is_err_and}
use Rattle.dart_base.specs.declared.place.Place.{Place}
use Rattle.dart_token.specs.declared.sign.Sign.TheVariants as s
use Rattle.token_codes.specs.Leaves.{sign}
use Rattle.token_cursor.specs.Gives.{same}
use Rattle.token_cursor.proofs.Passing.{passes}
use Rattle.syntax_readers.specs.Parameters.{parameter_first}
use Rattle.parse_loop.proofs.Trailing.{trail_no_first, trail_begins_behind, trail_stops, trail_over, trail_fails, trail_last, trail_item_fails, trail_goes_on}
use Rattle.parse_parameter.specs.Views.{parameter_at, parameters_of, bare_of, node_height, required_of, required_height, some_required}
use Rattle.parse_parameter.proofs.Parameters.{required_list, a_required, pushed, one_pushed, one_required_high}
use Rattle.parse_parameter.proofs.Trying.{passes_low}
use Rattle.parse_parameter.proofs.list.some_required.Goals as goal

pub returns-in_err-first : goal.returns-in_err-first
returns-in_err-first g c =
    let p = err_from_is_err_and c.from_residual.result c.from_residual.ensures.1 in
    let d = c.args.depth in
    let q = parameter_at d in
    rw (p.1, p.2) (passes bare_of node_height d (q c.args.cursor.now) required_of required_height d (some_required q c.args.cursor.now) c.in_err-first.field-0.0 c.parameter.new.cursor
    (λ end e. trail_no_first (required_list q) parameter_first (sign s.Comma) q d (some_required q c.args.cursor.now) q c.args.cursor.now end refl e) c.in_err-first.ensures)

pub loop-turn-init : goal.loop-turn-init
loop-turn-init g c =
    let r = c.in_ok-first.ensures in
    let d = c.args.depth in
    let q = parameter_at d in
    let x = bare_of c.in_ok-first.first in
    let is = one_pushed c.push.new.self.items c.required_parameter.result (a_required None x) (rw c.new-found.ensures.items at c.in_ok-push.ensures.items) c.required_parameter.ensures in
    trail_begins_behind (required_list q) parameter_first (sign s.Comma) q d (some_required q c.args.cursor.now) q x c.args.cursor.now c.parameter.new.cursor
    (parameters_of c.push.new.self) c.in_ok-first.height (c.left-turn-end.result - 0) refl r.0 is
    (one_required_high (parameters_of c.push.new.self) x c.in_ok-first.height is r.1) r.2 (omega (arith, c.left-turn-end.ensures))

pub returns-then-not-sees : goal.returns-then-not-sees
returns-then-not-sees g c =
    let i = c.loop-turn.invariant in
    let d = c.args.depth in
    let q = parameter_at d in
    (trail_stops (required_list q) parameter_first (sign s.Comma) q d (some_required q c.args.cursor.now) (parameters_of c.loop-turn.found) c.loop-turn.highest c.left-turn-end.result c.loop-turn._turn c.loop-turn.cursor i c.loop-turn-test.true (sym c.if-not-sees.ensures), i.high, i.low)

pub returns-in_err-comma : goal.returns-in_err-comma
returns-in_err-comma g c =
    let p = err_from_is_err_and c.from_residual-in_err-comma.result c.from_residual-in_err-comma.ensures.1 in
    let d = c.args.depth in
    let q = parameter_at d in
    rw (p.1, p.2) (passes_low {A = Place} same (sign s.Comma c.loop-turn.cursor) required_of required_height d (some_required q c.args.cursor.now) c.in_err-comma.field-0.0 c.expect.new.self
    (λ end e. trail_fails (required_list q) parameter_first (sign s.Comma) q d (some_required q c.args.cursor.now) (parameters_of c.loop-turn.found) c.loop-turn.highest c.left-turn-end.result c.loop-turn._turn c.loop-turn.cursor end c.loop-turn.invariant c.loop-turn-test.true (sym c.if-not-sees.ensures) e) c.in_err-comma.ensures)

pub returns-then-not-sees_parameter : goal.returns-then-not-sees_parameter
returns-then-not-sees_parameter g c =
    let i = c.loop-turn.invariant in
    let d = c.args.depth in
    let q = parameter_at d in
    (trail_last (required_list q) parameter_first (sign s.Comma) q d (some_required q c.args.cursor.now) (parameters_of c.loop-turn.found) c.loop-turn.highest c.left-turn-end.result c.loop-turn._turn c.loop-turn.cursor c.expect.new.self c.in_ok-comma.comma i c.loop-turn-test.true (sym c.if-not-sees.ensures) c.in_ok-comma.ensures (sym c.if-not-sees_parameter.ensures), i.high, i.low)

pub returns-in_err-further : goal.returns-in_err-further
returns-in_err-further g c =
    let p = err_from_is_err_and c.from_residual-in_err-further.result c.from_residual-in_err-further.ensures.1 in
    let d = c.args.depth in
    let q = parameter_at d in
    rw (p.1, p.2) (passes bare_of node_height d (q c.expect.new.self) required_of required_height d (some_required q c.args.cursor.now) c.in_err-further.field-0.0 c.parameter-in-loop-turn.new.cursor
    (λ end e. trail_item_fails (required_list q) parameter_first (sign s.Comma) q d (some_required q c.args.cursor.now) (parameters_of c.loop-turn.found) c.loop-turn.highest c.left-turn-end.result c.loop-turn._turn c.loop-turn.cursor c.expect.new.self end c.in_ok-comma.comma c.loop-turn.invariant c.loop-turn-test.true (sym c.if-not-sees.ensures) c.in_ok-comma.ensures (sym c.if-not-sees_parameter.ensures) e) c.in_err-further.ensures)

pub loop-turn-preserved : goal.loop-turn-preserved
loop-turn-preserved g c =
    let r = c.in_ok-further.ensures in
    let d = c.args.depth in
    let q = parameter_at d in
    trail_goes_on (required_list q) parameter_first (sign s.Comma) q d (some_required q c.args.cursor.now) (parameters_of c.loop-turn.found) _ c.loop-turn.highest _ c.left-turn-end.result c.loop-turn._turn c.loop-turn.cursor c.expect.new.self c.parameter-in-loop-turn.new.cursor c.in_ok-comma.comma (bare_of c.in_ok-further.further) c.loop-turn.invariant c.loop-turn-test.true (sym c.if-not-sees.ensures) c.in_ok-comma.ensures (sym c.if-not-sees_parameter.ensures) r.0
    (pushed c.loop-turn.found.items _ c.required_parameter-in-loop-turn.result (a_required (Some c.in_ok-comma.comma) (bare_of c.in_ok-further.further)) c.in_ok-push-2.ensures.items c.required_parameter-in-loop-turn.ensures) (omega (arith, c.max-highest.ensures, r.1)) (omega (arith, r.1, r.2))

pub returns : goal.returns
returns g c =
    let i = c.loop-turn.invariant in
    let d = c.args.depth in
    let q = parameter_at d in
    (trail_over (required_list q) parameter_first (sign s.Comma) q d (some_required q c.args.cursor.now) (parameters_of c.loop-turn.found) c.loop-turn.highest c.left-turn-end.result c.loop-turn._turn c.loop-turn.cursor i (omega (arith, c.loop-turn-test.false)), i.high, i.low)
