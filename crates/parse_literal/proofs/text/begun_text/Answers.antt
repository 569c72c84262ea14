use Rattle.std.proofs.Common.{◌-◌, ◌∙◌, [], ◌∷◌, sym, refl, ap, arith}
use Rattle.std.proofs.lemmas.Result.{err_from_is_err_and}
use Rattle.dart_tree.specs.Depth as height
use Rattle.dart_tree.specs.Lists.{pieces_of}
use Rattle.dart_tree.specs.Tree as tree
use Rattle.dart_tree.specs.declared.expression.PieceKind.TheVariants as pk
use Rattle.grammar_laws.specs.Readers.{both}
use Rattle.token_codes.specs.Codes.{middle_code}
use Rattle.token_codes.specs.Leaves.{head, piece}
use Rattle.token_cursor.proofs.Passing.{passes}
use Rattle.parse_loop.proofs.Plain.{no_first, begins_behind, stops, over, fails, goes_on}
use Rattle.parse_nest.specs.Stages.{closed_at}
use Rattle.dart_syntax.specs.Expressions.{append_pieces}
use Rattle.parse_literal.specs.Views.{view_pieces, head_part_of, head_part_height, text_part_of, text_part_height, begun_text}
use Rattle.parse_literal.proofs.Strings.{begun, pieces_append, one_height}
use Rattle.parse_literal.proofs.text.begun_text.Goals as goal

pub returns-in_err-head : goal.returns-in_err-head
returns-in_err-head g c =
    let p = err_from_is_err_and c.from_residual.result c.from_residual.ensures.1 in
    let d = c.args.depth in
    rw (p.1, p.2) (passes head_part_of head_part_height d (both head (closed_at d) c.args.cursor.now) view_pieces height.pieces_height d (begun_text (closed_at d) c.args.cursor.now) c.in_err-head.field-0.0 c.head_part.new.cursor
    (λ end e. no_first (begun (closed_at d)) d (begun_text (closed_at d) c.args.cursor.now) (both head (closed_at d)) c.args.cursor.now end refl e) c.in_err-head.ensures)

pub loop-turn-init : goal.loop-turn-init
loop-turn-init g c =
    let r = c.in_ok-head.ensures in
    let d = c.args.depth in
    let first = head_part_of (c.in_ok-head.head, c.in_ok-head.value) in
    let list = pieces_of c.push.new.self.items in
    let is = ap pieces_of (rw c.new-found.ensures.items at c.in_ok-push.ensures.items) ∙ ap (λ (v : tree.Value). tree.piece (pk.Head first.0.0) first.0.1.0 first.0.1.1 v tree.no_pieces) c.in_ok-given.ensures in
    let h = ap height.pieces_height is in
    begins_behind (begun (closed_at d)) d (begun_text (closed_at d) c.args.cursor.now) (both head (closed_at d)) first c.args.cursor.now c.head_part.new.cursor list c.in_ok-head.first (c.left-turn-end.result - 0) refl r.0 is
    (omega (arith, h, r.1, one_height first)) r.2 (omega (arith, c.left-turn-end.ensures))

pub returns-then-not-sees_code : goal.returns-then-not-sees_code
returns-then-not-sees_code g c =
    let i = c.loop-turn.invariant in
    let d = c.args.depth in
    (stops (begun (closed_at d)) d (begun_text (closed_at d) c.args.cursor.now) (pieces_of c.loop-turn.found.items) c.loop-turn.highest c.left-turn-end.result c.loop-turn._turn c.loop-turn.cursor i c.loop-turn-test.true (sym c.if-not-sees_code.ensures), i.high, i.low)

pub returns-in_err-piece : goal.returns-in_err-piece
returns-in_err-piece g c =
    let p = err_from_is_err_and c.from_residual-in_err-piece.result c.from_residual-in_err-piece.ensures.1 in
    let d = c.args.depth in
    rw (p.1, p.2) (passes text_part_of text_part_height d (both (piece middle_code) (closed_at d) c.loop-turn.cursor) view_pieces height.pieces_height d (begun_text (closed_at d) c.args.cursor.now) c.in_err-piece.field-0.0 c.middle_part.new.cursor
    (λ end e. fails (begun (closed_at d)) d (begun_text (closed_at d) c.args.cursor.now) (pieces_of c.loop-turn.found.items) c.loop-turn.highest c.left-turn-end.result c.loop-turn._turn c.loop-turn.cursor end c.loop-turn.invariant c.loop-turn-test.true (sym c.if-not-sees_code.ensures) e) c.in_err-piece.ensures)

pub loop-turn-preserved : goal.loop-turn-preserved
loop-turn-preserved g c =
    let r = c.in_ok-piece.ensures in
    let d = c.args.depth in
    goes_on (begun (closed_at d)) d (begun_text (closed_at d) c.args.cursor.now) (pieces_of c.loop-turn.found.items) _ c.loop-turn.highest _ c.left-turn-end.result c.loop-turn._turn c.loop-turn.cursor c.middle_part.new.cursor (text_part_of (c.in_ok-piece.piece, c.in_ok-piece.value)) c.loop-turn.invariant c.loop-turn-test.true (sym c.if-not-sees_code.ensures) r.0
    (ap pieces_of c.in_ok-push-2.ensures.items ∙ pieces_append c.loop-turn.found.items (_ ∷ []) ∙ ap (λ (v : tree.Value). append_pieces (pieces_of c.loop-turn.found.items) (tree.piece pk.Middle c.in_ok-piece.piece.place c.in_ok-piece.piece.text v tree.no_pieces)) c.in_ok-given-2.ensures) (omega (arith, c.max-highest.ensures, r.1)) (omega (arith, r.1, r.2))

pub returns : goal.returns
returns g c =
    let i = c.loop-turn.invariant in
    let d = c.args.depth in
    (over (begun (closed_at d)) d (begun_text (closed_at d) c.args.cursor.now) (pieces_of c.loop-turn.found.items) c.loop-turn.highest c.left-turn-end.result c.loop-turn._turn c.loop-turn.cursor i (omega (arith, c.loop-turn-test.false)), i.high, i.low)
