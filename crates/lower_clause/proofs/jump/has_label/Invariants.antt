use Rattle.std.proofs.Common.{◌≡◌, drop}
use Rattle.translation.specs.Statements as s
use Rattle.lower_clause.proofs.jump.has_label.Given as goal

abbrev pub invariant-loop-one : goal.invariant-loop-one
invariant-loop-one l = s.has_label l.name (drop l.one-index l.labels.items) ≡ s.has_label l.name l.labels.items
