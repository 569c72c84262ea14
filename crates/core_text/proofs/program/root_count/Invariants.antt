use Rattle.std.proofs.Common.{◌≡◌, ◌+◌, drop}
use Rattle.core_text.specs.Program.{root_count}
use Rattle.core_text.proofs.program.root_count.Given as goal

abbrev pub invariant-loop-count : goal.invariant-loop-count
invariant-loop-count l = root_count l.functions ≡ l.count + root_count (drop l.count l.functions)
