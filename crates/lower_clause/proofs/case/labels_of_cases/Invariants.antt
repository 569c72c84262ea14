use Rattle.std.proofs.Common.{◌≡◌, ◌++◌, drop}
use Rattle.dart_tree.specs.Lists.{switch_parts_of}
use Rattle.translation.specs.Statements as s
use Rattle.lower_clause.specs.Jumps.{case_labels}
use Rattle.lower_clause.proofs.case.labels_of_cases.Given as goal

abbrev pub invariant-loop-one : goal.invariant-loop-one
invariant-loop-one l = case_labels l.found ++ s.labels_of_cases (switch_parts_of (drop l.one-index l.parts.items)) ≡ s.labels_of_cases (switch_parts_of l.parts.items)
