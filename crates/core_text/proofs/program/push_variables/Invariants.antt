use Rattle.std.proofs.Common.{◌≡◌, ◌++◌, drop}
use Rattle.core_text.specs.Program.{variables}
use Rattle.core_text.proofs.program.push_variables.Given as goal

abbrev pub invariant-loop-number : goal.invariant-loop-number
invariant-loop-number l = l.bytes ++ variables l.program l.choice l.count l.number (drop l.number l.program.statics.items)
    ≡ l.fn.bytes ++ variables l.program l.choice l.count 0 l.program.statics.items
