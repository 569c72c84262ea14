use Rattle.std.proofs.Common.{◌≡◌, drop}
use Rattle.core_program.specs.View as v
use Rattle.core_names.specs.Within.{are_below}
use Rattle.core_names.proofs.form.are_names_within.Given as goal

abbrev pub invariant-loop-name : goal.invariant-loop-name
invariant-loop-name l = are_below l.count (v.names (drop l.name-index l.names)) ≡ are_below l.count (v.names l.names)
