use Rattle.std.proofs.Common.{◌-◌, None, Some, sym, refl, arith}
use Rattle.std.proofs.lemmas.Result.{err_from_is_err_and}
use Rattle.dart_token.specs.declared.sign.Sign.TheVariants as s
use Rattle.token_codes.specs.Leaves.{sign}
use Rattle.token_cursor.proofs.Passing.{passes}
use Rattle.syntax_readers.specs.Combinators.{◌~◌}
use Rattle.parse_loop.proofs.Plain.{no_first, begins_behind, stops, over, fails, goes_on}
use Rattle.parse_class.specs.Views.{bare_of, bare_height, bare_at, comma_bare_of, comma_bare_height, a_parameter, items_of, items_height, parameter_list}
use Rattle.parse_class.proofs.Listing.{bare_list, pushed, one_pushed, one_high}
use Rattle.parse_class.proofs.type_parameter.parameter_list.Goals as goal

pub returns-in_err-first : goal.returns-in_err-first
returns-in_err-first g c =
    let p = err_from_is_err_and c.from_residual.result c.from_residual.ensures.1 in
    let d = c.args.depth in
    let start = c.args.cursor.now in
    rw (p.1, p.2) (passes bare_of bare_height d (bare_at d start) items_of items_height d (parameter_list (bare_at d) start)
    c.in_err-first.field-0.0 c.bare_parameter.new.cursor
    (λ end e. no_first (bare_list d) d (parameter_list (bare_at d) start) (bare_at d) start end refl e) c.in_err-first.ensures)

pub loop-turn-init : goal.loop-turn-init
loop-turn-init g c =
    let r = c.in_ok-first.ensures in
    let d = c.args.depth in
    let start = c.args.cursor.now in
    let x = bare_of c.in_ok-first.first in
    let is = one_pushed c.push.new.self.items c.type_parameter.result (a_parameter None x)
    (rw c.new-found.ensures.items at c.in_ok-push.ensures.items) c.type_parameter.ensures in
    begins_behind (bare_list d) d (parameter_list (bare_at d) start) (bare_at d) x start c.bare_parameter.new.cursor
    (items_of c.push.new.self) c.in_ok-first.height (c.left-turn-end.result - 0) refl r.0 is
    (one_high (items_of c.push.new.self) x c.in_ok-first.height is r.1) r.2 (omega (arith, c.left-turn-end.ensures))

pub returns-then-not-sees : goal.returns-then-not-sees
returns-then-not-sees g c =
    let i = c.loop-turn.invariant in
    let d = c.args.depth in (
      stops (bare_list d) d (parameter_list (bare_at d) c.args.cursor.now) (items_of c.loop-turn.found) c.loop-turn.highest
          c.left-turn-end.result c.loop-turn._turn c.loop-turn.cursor i c.loop-turn-test.true (sym c.if-not-sees.ensures),
      i.high,
      i.low,
    )

pub returns-in_err-comma : goal.returns-in_err-comma
returns-in_err-comma g c =
    let p = err_from_is_err_and c.from_residual-in_err-comma.result c.from_residual-in_err-comma.ensures.1 in
    let d = c.args.depth in
    let start = c.args.cursor.now in
    rw (p.1, p.2) (passes comma_bare_of comma_bare_height d ((sign s.Comma ~ bare_at d) c.loop-turn.cursor) items_of items_height d
    (parameter_list (bare_at d) start) c.in_err-comma.field-0.0 c.comma_parameter.new.cursor
    (λ end e. fails (bare_list d) d (parameter_list (bare_at d) start) (items_of c.loop-turn.found) c.loop-turn.highest
    c.left-turn-end.result c.loop-turn._turn c.loop-turn.cursor end c.loop-turn.invariant c.loop-turn-test.true (sym c.if-not-sees.ensures)
    e) c.in_err-comma.ensures)

pub loop-turn-preserved : goal.loop-turn-preserved
loop-turn-preserved g c =
    let r = c.in_ok-comma.ensures in
    let d = c.args.depth in
    let x = bare_of c.in_ok-comma.further in
    goes_on (bare_list d) d (parameter_list (bare_at d) c.args.cursor.now) (items_of c.loop-turn.found) _ c.loop-turn.highest _
    c.left-turn-end.result c.loop-turn._turn c.loop-turn.cursor c.comma_parameter.new.cursor (c.in_ok-comma.comma, x) c.loop-turn.invariant
    c.loop-turn-test.true (sym c.if-not-sees.ensures) r.0
    (pushed c.loop-turn.found.items _ c.type_parameter-in-loop-turn.result (a_parameter (Some c.in_ok-comma.comma) x)
    c.in_ok-push-2.ensures.items c.type_parameter-in-loop-turn.ensures) (omega (arith, c.max-highest.ensures, r.1)) (omega (arith, r.1, r.2))

pub returns : goal.returns
returns g c =
    let i = c.loop-turn.invariant in
    let d = c.args.depth in (
      over (bare_list d) d (parameter_list (bare_at d) c.args.cursor.now) (items_of c.loop-turn.found) c.loop-turn.highest
          c.left-turn-end.result c.loop-turn._turn c.loop-turn.cursor i (omega (arith, c.loop-turn-test.false)),
      i.high,
      i.low,
    )
