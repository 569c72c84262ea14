use Rattle.std.proofs.Common.{arith}
use Rattle.parse_unary.proofs.Staged.{row_never, row_roomy}
use Rattle.parse_unary.proofs.unary.+unaries.Goals as goal

pub unary-returns-then-depth-eq0 : goal.unary-returns-then-depth-eq0
unary-returns-then-depth-eq0 g t c = rw (row_never c.args.depth c.args.cursor.now (omega (arith, c.if-depth-eq0.true))) c.whole_selected.ensures

pub unary-returns : goal.unary-returns
unary-returns g t c = rw (row_roomy c.args.depth c.args.cursor.now (omega (arith, c.if-depth-eq0.false))) c.roomy.ensures
