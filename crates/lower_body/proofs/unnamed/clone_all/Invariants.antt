use Rattle.std.proofs.Common.{◌≡◌, map, take}
use Rattle.lower_body.specs.Views.{generated, all_generated}
use Rattle.lower_body.proofs.unnamed.clone_all.Given as goal

abbrev pub invariant-loop-one : goal.invariant-loop-one
invariant-loop-one g l = let a = g.S.Surroundings.around l.outside in
    all_generated a l.found ≡ map (generated a) (take l.one-index l.all.items)
