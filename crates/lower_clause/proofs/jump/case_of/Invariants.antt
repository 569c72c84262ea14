use Rattle.std.proofs.Common.{◌≡◌, map, drop}
use Rattle.translation.specs.Statements as s
use Rattle.lower_leaf.specs.Seen.{labels}
use Rattle.lower_clause.specs.Jumps.{case_labels}
use Rattle.lower_clause.proofs.jump.case_of.Given as goal

abbrev pub invariant-loop-labels : goal.invariant-loop-labels
invariant-loop-labels l = s.case_from l.n l.name (map labels (drop l.labels-index l.all.items)) ≡ s.case_from 0 l.name (case_labels l.all)
