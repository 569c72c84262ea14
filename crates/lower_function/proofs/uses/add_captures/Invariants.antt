use Rattle.std.proofs.Common.{◌≡◌, ◌++◌, drop}
use Rattle.lower_function.specs.Uses.{takes_of}
use Rattle.lower_function.proofs.uses.add_captures.Given as goal

abbrev pub invariant-loop-x : goal.invariant-loop-x
invariant-loop-x l = l.found.items ++ takes_of (drop l.x-index l.captures.items) ≡ l.fn.found.items ++ takes_of l.captures.items
