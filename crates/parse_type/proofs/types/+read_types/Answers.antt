use Rattle.std.proofs.Common.{◌-◌, sym, refl, arith}
use Rattle.std.proofs.lemmas.Result.{err_from_is_err_and}
use Rattle.dart_token.specs.declared.sign.Sign.TheVariants as s
use Rattle.dart_tree.specs.Depth as height
use Rattle.dart_tree.specs.Lists.{type_list_of}
use Rattle.dart_tree.specs.View as view
use Rattle.grammar_laws.specs.Readers.{both}
use Rattle.token_codes.specs.Leaves.{sign}
use Rattle.token_cursor.proofs.Passing.{passes}
use Rattle.syntax_readers.specs.Types.{type_reader, types}
use Rattle.parse_loop.proofs.Plain.{no_first, begins_behind, stops, over, fails, goes_on}
use Rattle.parse_type.specs.Views.{view_types, view_pair, pair_height}
use Rattle.parse_type.proofs.Listing.{types_list, pushed, one_pushed, one_high}
use Rattle.parse_type.proofs.types.+read_types.Goals as goal

pub type_list-returns-in_err-argument : goal.type_list-returns-in_err-argument
unfolding types
type_list-returns-in_err-argument t c =
    let p = err_from_is_err_and c.from_residual.result c.from_residual.ensures.1 in
    let d = c.args.depth in
    rw (p.1, p.2) (passes view.type_node height.type_height d (type_reader d c.args.cursor.now) view_types height.type_list_height d (types (type_reader d) c.args.cursor.now) c.in_err-argument.field-0.0 c.type_node.new.cursor
    (λ end e. no_first (types_list (type_reader d)) d (types (type_reader d) c.args.cursor.now) (type_reader d) c.args.cursor.now end refl e) c.in_err-argument.ensures)

pub type_list-loop-turn-init : goal.type_list-loop-turn-init
unfolding types
type_list-loop-turn-init t c =
    let r = c.in_ok-argument.ensures in
    let d = c.args.depth in
    let is = one_pushed c.push.new.self.items c.in_ok-argument.argument (rw c.new-found.ensures.items at c.in_ok-push.ensures.items) in
    begins_behind (types_list (type_reader d)) d (types (type_reader d) c.args.cursor.now) (type_reader d) (view.type_node c.in_ok-argument.argument) c.args.cursor.now c.type_node.new.cursor
    (type_list_of c.push.new.self.items) c.in_ok-argument.height (c.left-turn-end.result - 0) refl r.0 is
    (one_high (type_list_of c.push.new.self.items) (view.type_node c.in_ok-argument.argument) c.in_ok-argument.height is r.1) r.2 (omega (arith, c.left-turn-end.ensures))

pub type_list-returns-then-not-sees : goal.type_list-returns-then-not-sees
type_list-returns-then-not-sees t c =
    let i = c.loop-turn.invariant in
    let d = c.args.depth in
    (stops (types_list (type_reader d)) d (types (type_reader d) c.args.cursor.now) (type_list_of c.loop-turn.found.items) c.loop-turn.highest c.left-turn-end.result c.loop-turn._turn c.loop-turn.cursor i c.loop-turn-test.true (sym c.if-not-sees.ensures), i.high, i.low)

pub type_list-returns-in_err-comma : goal.type_list-returns-in_err-comma
type_list-returns-in_err-comma t c =
    let p = err_from_is_err_and c.from_residual-in_err-comma.result c.from_residual-in_err-comma.ensures.1 in
    let d = c.args.depth in
    rw (p.1, p.2) (passes view_pair pair_height d (both (sign s.Comma) (type_reader d) c.loop-turn.cursor) view_types height.type_list_height d (types (type_reader d) c.args.cursor.now) c.in_err-comma.field-0.0 c.comma_type.new.cursor
    (λ end e. fails (types_list (type_reader d)) d (types (type_reader d) c.args.cursor.now) (type_list_of c.loop-turn.found.items) c.loop-turn.highest c.left-turn-end.result c.loop-turn._turn c.loop-turn.cursor end c.loop-turn.invariant c.loop-turn-test.true (sym c.if-not-sees.ensures) e) c.in_err-comma.ensures)

pub type_list-loop-turn-preserved : goal.type_list-loop-turn-preserved
type_list-loop-turn-preserved t c =
    let r = c.in_ok-comma.ensures in
    let d = c.args.depth in
    goes_on (types_list (type_reader d)) d (types (type_reader d) c.args.cursor.now) (type_list_of c.loop-turn.found.items) _ c.loop-turn.highest _ c.left-turn-end.result c.loop-turn._turn c.loop-turn.cursor c.comma_type.new.cursor (c.in_ok-comma.comma, view.type_node c.in_ok-comma.argument) c.loop-turn.invariant c.loop-turn-test.true (sym c.if-not-sees.ensures) r.0
    (pushed c.loop-turn.found.items _ c.in_ok-comma.comma c.in_ok-comma.argument c.in_ok-push-2.ensures.items) (omega (arith, c.max-highest.ensures, r.1)) (omega (arith, r.1, r.2))

pub type_list-returns : goal.type_list-returns
type_list-returns t c =
    let i = c.loop-turn.invariant in
    let d = c.args.depth in
    (over (types_list (type_reader d)) d (types (type_reader d) c.args.cursor.now) (type_list_of c.loop-turn.found.items) c.loop-turn.highest c.left-turn-end.result c.loop-turn._turn c.loop-turn.cursor i (omega (arith, c.loop-turn-test.false)), i.high, i.low)
