use Rattle.std.proofs.Common.{◌≡◌, drop}
use Rattle.dart_tree.specs.Lists.{switch_parts_of}
use Rattle.translation.specs.Statements as s
use Rattle.lower_clause.proofs.case.kind_of_cases.Given as goal

abbrev pub invariant-loop-one : goal.invariant-loop-one
invariant-loop-one l = s.kind_of_cases (switch_parts_of (drop l.one-index l.parts.items)) ≡ s.kind_of_cases (switch_parts_of l.parts.items)
