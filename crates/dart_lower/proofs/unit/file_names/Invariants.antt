use Rattle.std.proofs.Common.{◌≡◌, map, take}
use Rattle.dart_lower.specs.Given.{file_name}
use Rattle.dart_lower.proofs.unit.file_names.Given as goal

abbrev pub invariant-loop-name : goal.invariant-loop-name
invariant-loop-name l = l.made.items ≡ map file_name (take l.name-index l.names)
