use Rattle.std.proofs.Common.{inr}
use Rattle.dart_lex.proofs.LexLaws.{too_many_bytes, no_utf8}
use Rattle.dart_lex.proofs.lexer.lex.Goals as goal

pub returns-then-bytes-gt-UNIT_BYTES-clause-fault : goal.returns-then-bytes-gt-UNIT_BYTES-clause-fault
returns-then-bytes-gt-UNIT_BYTES-clause-fault c = inr (too_many_bytes c.args.unit c.args.bytes.now c.if-bytes-gt-UNIT_BYTES.true)

pub returns-then-valid-bytes-clause-fault : goal.returns-then-valid-bytes-clause-fault
returns-then-valid-bytes-clause-fault c = inr (no_utf8 c.args.unit c.args.bytes.now c.valid_len-valid.result c.if-bytes-gt-UNIT_BYTES.false c.valid_len-valid.ensures.value c.if-valid-bytes.true)
