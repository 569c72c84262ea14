use Rattle.std.proofs.Common.{◌≡◌, drop}
use Rattle.dart_tree.specs.Lists.{stmts_of}
use Rattle.scope_declared.specs.Last.{stmts_last}
use Rattle.scope_declared.proofs.last.stmts_last.Given as goal

-- the last token of what is left is that of all
abbrev pub invariant-loop-statement : goal.invariant-loop-statement
invariant-loop-statement l = stmts_last l.last (stmts_of (drop l.statement-index l.all.items)) ≡ stmts_last l.fn.before (stmts_of l.all.items)
