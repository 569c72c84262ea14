use Rattle.std.proofs.Common.{◌≡◌, ◌++◌, drop}
use Rattle.core_text.specs.Declaration.{parameters}
use Rattle.core_text.proofs.declaration.push_parameters.Given as goal

abbrev pub invariant-loop-one : goal.invariant-loop-one
invariant-loop-one l = l.bytes ++ parameters l.program (drop l.one-index l.parameters) ≡ l.fn.bytes ++ parameters l.program l.parameters
