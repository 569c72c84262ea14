use Rattle.std.proofs.Common.{◌≡◌, ◌++◌, map, drop}
use Rattle.translation.specs.Applications as ap
use Rattle.translation.specs.Walk as w
use Rattle.lower_leaf.specs.Forms.{cores}
use Rattle.lower_leaf.specs.Seen.{seen}
use Rattle.lower_class.specs.Views.{class_around}
use Rattle.lower_body.specs.Views.{generated, all_generated}
use Rattle.lower_mixin.specs.Views.{class_info}
use Rattle.lower_mixin.proofs.forward.forwarders.Given as goal

abbrev pub invariant-loop-one : goal.invariant-loop-one
invariant-loop-one g l = let a = g.S.Surroundings.around l.outside in
    w.on (ap.forwarders (class_around a l.around) (class_info a l.x) (cores a l.values.items) (map (generated a) (drop l.one-index l.above.items)) (seen a l.state))
    (λ rest st. w.went (all_generated a l.found ++ rest) st)
    ≡ ap.forwarders (class_around a l.around) (class_info a l.x) (cores a l.values.items) (all_generated a l.above) (seen a l.fn.state)
