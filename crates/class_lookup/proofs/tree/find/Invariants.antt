use Rattle.std.proofs.Common.{◌≡◌}
use Rattle.class_lookup.specs.Tree.{held, rest_of}
use Rattle.class_lookup.proofs.tree.find.Given as goal

abbrev pub invariant-loop-left : goal.invariant-loop-left
invariant-loop-left l = record {
  held : held l.nodes l.left l.at l.rest ≡ held l.nodes l.levels l.fn.root l.name;
  rest : rest_of l.left l.rest ≡ rest_of l.levels l.name;
}

abbrev pub decreases-loop-left : goal.decreases-loop-left
decreases-loop-left l = l.left
