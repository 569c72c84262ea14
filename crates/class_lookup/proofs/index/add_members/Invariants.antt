use Rattle.std.proofs.Common.{drop}
use Rattle.class_lookup.specs.Index.{IsAdded}
use Rattle.class_lookup.proofs.index.add_members.Given as goal

abbrev pub invariant-loop-j : goal.invariant-loop-j
invariant-loop-j l = IsAdded l.classes l.initial.nodes.items l.nodes.items l.levels (drop l.j l.members) l.fn.inherited l.roots
