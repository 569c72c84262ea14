use Rattle.std.proofs.Common.{sym}
use Rattle.token_cursor.proofs.Takes.{maybe_sign}
use Rattle.token_cursor.proofs.cursor.Cursor.maybe.Goals as goal

pub returns : goal.returns
returns c = maybe_sign c.args.sign c.args.self.now c.take-token.result.now c.take-token.new.self (sym c.if-not-sees.ensures) c.take-token.ensures
