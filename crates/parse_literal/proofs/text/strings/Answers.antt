use Rattle.std.proofs.Common.{◌-◌, ◌∙◌, sym, refl, ap, arith}
use Rattle.std.proofs.lemmas.Result.{err_from_is_err_and}
use Rattle.dart_tree.specs.Depth as height
use Rattle.dart_tree.specs.Lists.{pieces_of}
use Rattle.token_cursor.proofs.Passing.{passes}
use Rattle.parse_loop.proofs.Plain.{no_first, begins_behind, stops, over, fails, goes_on}
use Rattle.parse_nest.specs.Stages.{closed_at}
use Rattle.syntax_readers.specs.Primaries.{strings, one_string}
use Rattle.parse_literal.specs.Views.{view_pieces}
use Rattle.parse_literal.proofs.Strings.{all_strings, append_none, pieces_append}
use Rattle.parse_literal.proofs.text.strings.Goals as goal

pub returns-in_err-found : goal.returns-in_err-found
unfolding strings
returns-in_err-found g c =
    let p = err_from_is_err_and c.from_residual.result c.from_residual.ensures.1 in
    let d = c.args.depth in
    rw (p.1, p.2) (passes view_pieces height.pieces_height d (one_string (closed_at d) c.args.cursor.now) view_pieces height.pieces_height d (strings (closed_at d) c.args.cursor.now) c.in_err-found.field-0.0 c.one_string.new.cursor
    (λ end e. no_first (all_strings (closed_at d)) d (strings (closed_at d) c.args.cursor.now) (one_string (closed_at d)) c.args.cursor.now end refl e) c.in_err-found.ensures)

pub loop-turn-init : goal.loop-turn-init
unfolding strings
loop-turn-init g c =
    let r = c.in_ok-found.ensures in
    let d = c.args.depth in
    let list = pieces_of c.in_ok-found.found.items in
    let is = sym (append_none list) in
    begins_behind (all_strings (closed_at d)) d (strings (closed_at d) c.args.cursor.now) (one_string (closed_at d)) (pieces_of c.in_ok-found.found.items) c.args.cursor.now c.one_string.new.cursor list c.in_ok-found.highest (c.left-turn-end.result - 0) refl r.0 is
    (r.1) r.2 (omega (arith, c.left-turn-end.ensures))

pub returns-then-not-sees_string : goal.returns-then-not-sees_string
returns-then-not-sees_string g c =
    let i = c.loop-turn.invariant in
    let d = c.args.depth in
    (stops (all_strings (closed_at d)) d (strings (closed_at d) c.args.cursor.now) (pieces_of c.loop-turn.found.items) c.loop-turn.highest c.left-turn-end.result c.loop-turn._turn c.loop-turn.cursor i c.loop-turn-test.true (sym c.if-not-sees_string.ensures), i.high, i.low)

pub returns-in_err-more : goal.returns-in_err-more
returns-in_err-more g c =
    let p = err_from_is_err_and c.from_residual-in_err-more.result c.from_residual-in_err-more.ensures.1 in
    let d = c.args.depth in
    rw (p.1, p.2) (passes view_pieces height.pieces_height d (one_string (closed_at d) c.loop-turn.cursor) view_pieces height.pieces_height d (strings (closed_at d) c.args.cursor.now) c.in_err-more.field-0.0 c.one_string-in-loop-turn.new.cursor
    (λ end e. fails (all_strings (closed_at d)) d (strings (closed_at d) c.args.cursor.now) (pieces_of c.loop-turn.found.items) c.loop-turn.highest c.left-turn-end.result c.loop-turn._turn c.loop-turn.cursor end c.loop-turn.invariant c.loop-turn-test.true (sym c.if-not-sees_string.ensures) e) c.in_err-more.ensures)

pub loop-turn-preserved : goal.loop-turn-preserved
loop-turn-preserved g c =
    let r = c.in_ok-more.ensures in
    let d = c.args.depth in
    goes_on (all_strings (closed_at d)) d (strings (closed_at d) c.args.cursor.now) (pieces_of c.loop-turn.found.items) _ c.loop-turn.highest _ c.left-turn-end.result c.loop-turn._turn c.loop-turn.cursor c.one_string-in-loop-turn.new.cursor (pieces_of c.in_ok-more.more.items) c.loop-turn.invariant c.loop-turn-test.true (sym c.if-not-sees_string.ensures) r.0
    (ap pieces_of c.in_ok-append.ensures.items ∙ pieces_append c.loop-turn.found.items c.in_ok-more.more.items) (omega (arith, c.max-highest.ensures, r.1)) (omega (arith, r.1, r.2))

pub returns : goal.returns
returns g c =
    let i = c.loop-turn.invariant in
    let d = c.args.depth in
    (over (all_strings (closed_at d)) d (strings (closed_at d) c.args.cursor.now) (pieces_of c.loop-turn.found.items) c.loop-turn.highest c.left-turn-end.result c.loop-turn._turn c.loop-turn.cursor i (omega (arith, c.loop-turn-test.false)), i.high, i.low)
