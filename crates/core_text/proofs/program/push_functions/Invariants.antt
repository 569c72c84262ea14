use Rattle.std.proofs.Common.{◌≡◌, ◌++◌, drop}
use Rattle.core_text.specs.Program.{functions}
use Rattle.core_text.proofs.program.push_functions.Given as goal

abbrev pub invariant-loop-number : goal.invariant-loop-number
invariant-loop-number l = l.bytes ++ functions l.program l.choice l.count l.number (drop l.number l.program.functions.items)
    ≡ l.fn.bytes ++ functions l.program l.choice l.count 0 l.program.functions.items
