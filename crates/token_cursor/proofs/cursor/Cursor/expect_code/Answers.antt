use Rattle.std.proofs.Common.{sym}
use Rattle.token_cursor.proofs.Takes.{code_takes, code_refuses}
use Rattle.token_cursor.proofs.cursor.Cursor.expect_code.Goals as goal

pub returns-then-not-sees_code : goal.returns-then-not-sees_code
returns-then-not-sees_code c = code_refuses c.args.code c.args.self.now (sym c.if-not-sees_code.ensures)

pub returns : goal.returns
returns c = code_takes c.args.code c.args.self.now c.take-token.result.now c.take-token.new.self (sym c.if-not-sees_code.ensures) c.take-token.ensures
