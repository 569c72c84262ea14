use Rattle.std.proofs.Common.{arith}
use Rattle.class_table.proofs.Rowed.{row_before}
use Rattle.class_table.proofs.row.superclass_of.Goals as goal

pub returns-then-draft-gt0 : goal.returns-then-draft-gt0
returns-then-draft-gt0 c =
    row_before c.args.draft.now.program.now c.args.draft.now.numbers.now c.args.draft.now.class c.args.declaration.now c.args.draft.now.step c.args.draft.now.row c.len.result c.in_ok-arguments.arguments c.if-draft-gt0.true (omega (arith, c.len.ensures, c.args.declaration.now.bounds.ok.0)) c.in_ok-arguments.ensures
