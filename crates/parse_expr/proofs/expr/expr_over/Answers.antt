use Rattle.std.proofs.Common.{sym}
use Rattle.parse_expr.proofs.Behind.{thrown, unthrown}
use Rattle.parse_expr.proofs.expr.expr_over.Goals as goal

pub returns-then-sees_word : goal.returns-then-sees_word
returns-then-sees_word g c = rw (thrown c.args.depth c.args.cascades c.args.cursor.now (sym c.if-sees_word.ensures)) c.throw.ensures

pub returns : goal.returns
returns g c = rw (unthrown c.args.depth c.args.cascades c.args.cursor.now (sym c.if-sees_word.ensures)) c.operand_first.ensures
