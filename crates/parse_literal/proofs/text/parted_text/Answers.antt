use Rattle.std.proofs.Common.{◌∙◌, [], ◌∷◌, sym, ap}
use Rattle.std.proofs.lemmas.Result.{err_from_is_err_and}
use Rattle.dart_tree.specs.Depth as height
use Rattle.dart_tree.specs.Lists.{pieces_of}
use Rattle.dart_tree.specs.Tree as tree
use Rattle.dart_tree.specs.View as view
use Rattle.grammar_laws.proofs.Cuts.{gave}
use Rattle.token_codes.specs.Codes.{tail_code}
use Rattle.token_codes.specs.Leaves.{piece}
use Rattle.token_cursor.specs.Views.{text_of}
use Rattle.token_cursor.proofs.Passing.{passes}
use Rattle.parse_nest.specs.Stages.{closed_at}
use Rattle.syntax_readers.specs.Primaries.{parted_text}
use Rattle.parse_literal.specs.Views.{view_pieces, begun_text}
use Rattle.parse_literal.proofs.Passed.{passes_on}
use Rattle.parse_literal.proofs.Strings.{parted_fails, parted_end_fails, parted_gives, pieces_append, ended_height}
use Rattle.parse_literal.proofs.text.parted_text.Goals as goal

pub returns-in_err-found : goal.returns-in_err-found
returns-in_err-found g c =
    let p = err_from_is_err_and c.from_residual.result c.from_residual.ensures.1 in
    let d = c.args.depth in
    rw (p.1, p.2) (passes view_pieces height.pieces_height d (begun_text (closed_at d) c.args.cursor.now) view_pieces height.pieces_height d (parted_text (closed_at d) c.args.cursor.now) c.in_err-found.field-0.0 c.begun_text.new.cursor
    (λ end e. parted_fails (closed_at d) c.args.cursor.now end e) c.in_err-found.ensures)

pub returns-in_err-piece : goal.returns-in_err-piece
returns-in_err-piece g c =
    let p = err_from_is_err_and c.from_residual-in_err-piece.result c.from_residual-in_err-piece.ensures.1 in
    let d = c.args.depth in
    let r = c.in_ok-found.ensures in
    let mid = c.begun_text.new.cursor in
    rw (p.1, p.2) (passes_on text_of (piece tail_code mid) view_pieces height.pieces_height d (parted_text (closed_at d) c.args.cursor.now) c.in_err-piece.field-0.0 c.piece.new.self
    (λ end e. parted_end_fails (closed_at d) c.args.cursor.now mid end (pieces_of c.in_ok-found.found.items) r.0 e) c.in_err-piece.ensures)

pub returns : goal.returns
unfolding view.value
returns g c =
    let d = c.args.depth in
    let r = c.in_ok-found.ensures in
    let mid = c.begun_text.new.cursor in
    let list = pieces_of c.in_ok-found.found.items in
    let last = text_of c.in_ok-piece.piece in
    let is = ap pieces_of c.in_ok-push.ensures.items ∙ pieces_append c.in_ok-found.found.items (_ ∷ []) in (
      parted_gives (closed_at d) c.args.cursor.now mid c.piece.new.self list last r.0 c.in_ok-piece.ensures ∙ ap (λ (l : tree.Pieces). gave l c.piece.new.self) (sym is),
      r.1 ∙ sym (ended_height list last) ∙ ap height.pieces_height (sym is),
      r.2,
    )
