use Rattle.std.proofs.Common.{arith}
use Rattle.dart_token.proofs.Words.{begun, found_some, found_none}
use Rattle.dart_token.proofs.word.Word.of.Goals as goal

pub returns-in-len1-up-clause-some : goal.returns-in-len1-up-clause-some
returns-in-len1-up-clause-some c = found_some c.args.text.now c.first_with.result (begun c.args.text.now c.words_from.result.now c.first_with.result (omega arith) c.words_from.ensures c.first_with.ensures)

pub returns-in-len1-up-clause-none : goal.returns-in-len1-up-clause-none
returns-in-len1-up-clause-none c = found_none c.args.text.now c.first_with.result (begun c.args.text.now c.words_from.result.now c.first_with.result (omega arith) c.words_from.ensures c.first_with.ensures)
