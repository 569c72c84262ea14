use Rattle.std.proofs.Common.{◌≡◌, ◌++◌, drop}
use Rattle.core_text.specs.Line.{numbers}
use Rattle.core_text.proofs.line.push_numbers.Given as goal

abbrev pub invariant-loop-number : goal.invariant-loop-number
invariant-loop-number l = l.bytes ++ numbers (drop l.number-index l.numbers) ≡ l.fn.bytes ++ numbers l.numbers
