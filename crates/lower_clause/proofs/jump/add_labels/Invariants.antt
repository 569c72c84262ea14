use Rattle.std.proofs.Common.{◌≡◌, drop}
use Rattle.lower_clause.specs.Jumps.{labels_before}
use Rattle.lower_clause.proofs.jump.add_labels.Given as goal

abbrev pub invariant-loop-one : goal.invariant-loop-one
invariant-loop-one l = labels_before (drop l.one-index l.all.items) l.made.items ≡ labels_before l.all.items l.fn.around.items
