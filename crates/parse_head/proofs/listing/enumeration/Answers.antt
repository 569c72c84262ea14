use Rattle.std.proofs.lemmas.Result.{err_from_is_err_and}
use Rattle.dart_token.specs.declared.word.Word.TheVariants as w
use Rattle.dart_tree.specs.UnitView as view
use Rattle.token_codes.specs.Leaves.{word}
use Rattle.token_cursor.specs.Gives.{same}
use Rattle.syntax_readers.specs.Declarations.{enum}
use Rattle.parse_head.proofs.Passing.{passes_flat}
use Rattle.parse_head.proofs.Naming.{enum_gives, enum_stops}
use Rattle.parse_head.proofs.listing.enumeration.Goals as goal

pub returns-in_err-word : goal.returns-in_err-word
returns-in_err-word c =
    let p = err_from_is_err_and c.from_residual.result c.from_residual.ensures.1 in
    rw (p.1, p.2) (passes_flat same (word w.Enum c.args.cursor.now) view.enum (enum c.args.cursor.now) c.in_err-word.field-0.0 c.expect_word.new.self
    (λ end e. enum_stops c.args.cursor.now end e) c.in_err-word.ensures)

pub returns : goal.returns
returns c = rw (enum_gives c.args.cursor.now c.expect_word.new.self c.in_ok-word.word c.in_ok-word.ensures) c.enum_behind.ensures
