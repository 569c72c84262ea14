use Rattle.std.proofs.Common.{◌≡◌, ◌++◌, map, drop}
use Rattle.lower_leaf.specs.Seen.{seen}
use Rattle.class_source.specs.View as shown
use Rattle.class_reader.specs.Seen.{bounds_of}
use Rattle.class_reader.proofs.header.bounds_of.Given as goal

abbrev pub invariant-loop-one : goal.invariant-loop-one
invariant-loop-one g l = let a = g.S.Surroundings.around l.outside in
    map (shown.bound a.texts) l.made.items ++ bounds_of (seen a l.state) (drop l.one-index l.all.items) ≡ bounds_of (seen a l.state) l.all.items
