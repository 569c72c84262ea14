use Rattle.std.proofs.Common.{sym}
use Rattle.token_cursor.proofs.Takes.{maybe_word}
use Rattle.token_cursor.proofs.cursor.Cursor.maybe_word.Goals as goal

pub returns : goal.returns
returns c = maybe_word c.args.word c.args.self.now c.take-token.result.now c.take-token.new.self (sym c.if-not-sees_word.ensures) c.take-token.ensures
