use Rattle.std.proofs.Common.{◌≡◌, ◌++◌, map, drop}
use Rattle.translation.specs.Statements as s
use Rattle.lower_clause.proofs.jump.labels_of.Given as goal

abbrev pub invariant-loop-one : goal.invariant-loop-one
invariant-loop-one l = l.made.items ++ map s.label_text (drop l.one-index l.all.items) ≡ map s.label_text l.all.items
