use Rattle.std.proofs.Common.{◌≡◌, ◌++◌, drop}
use Rattle.core_program.specs.View as v
use Rattle.core_text.specs.Name.{names}
use Rattle.core_text.proofs.name.push_names.Given as goal

abbrev pub invariant-loop-name : goal.invariant-loop-name
invariant-loop-name l = l.bytes ++ names l.program (v.names (drop l.name-index l.names)) ≡ l.fn.bytes ++ names l.program (v.names l.names)
