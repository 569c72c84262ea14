use Rattle.std.proofs.Common.{◌≡◌, map, drop}
use Rattle.translation.specs.Applications as ap
use Rattle.lower_body.specs.Views.{class_made}
use Rattle.lower_mixin.proofs.apply.declared_as.Given as goal

abbrev pub invariant-loop-one : goal.invariant-loop-one
invariant-loop-one g l = let a = g.S.Surroundings.around l.outside in
    ap.declared_as l.class.0 (map (class_made a) (drop l.one-index l.made.items)) ≡ ap.declared_as l.class.0 (map (class_made a) l.made.items)
