use Rattle.std.proofs.Common.{◌≡◌, ◌++◌, replicate}
use Rattle.dart_lex.proofs.render.push_lines.Given as goal

abbrev pub invariant-loop : goal.invariant-loop
invariant-loop l = l.out ≡ l.fn.out ++ replicate l.counter 10
