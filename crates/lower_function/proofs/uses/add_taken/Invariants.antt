use Rattle.std.proofs.Common.{◌≡◌, ◌++◌, map, drop}
use Rattle.std.specs.List.{flat_map}
use Rattle.lower_leaf.specs.Seen.{numbered_function}
use Rattle.lower_function.specs.Uses.{taken_of}
use Rattle.lower_function.proofs.uses.add_taken.Given as goal

abbrev pub invariant-loop-one : goal.invariant-loop-one
invariant-loop-one g l = let a = g.S.Surroundings.around l.outside in
    l.found.items ++ flat_map (taken_of l.number.0) (map (numbered_function a) (drop l.one-index l.functions.items))
    ≡ l.fn.found.items ++ flat_map (taken_of l.number.0) (map (numbered_function a) l.functions.items)
