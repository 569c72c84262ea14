use Rattle.std.proofs.Common.{◌≡◌, [], map, length, drop}
use Rattle.translation.specs.Applications as ap
use Rattle.lower_leaf.specs.Seen.{seen}
use Rattle.lower_body.specs.Views.{class_made}
use Rattle.lower_mixin.specs.Views.{class_info, built_of}
use Rattle.lower_mixin.proofs.apply.added.Given as goal

abbrev pub invariant-loop-one : goal.invariant-loop-one
invariant-loop-one g l = let a = g.S.Surroundings.around l.outside in
    ap.added (length l.built.items) (map (class_info a) (drop l.one-index l.classes.items)) (map (class_made a) l.made.items) (built_of a l.built.items) (seen a l.state)
    ≡ ap.added 0 (map (class_info a) l.classes.items) (map (class_made a) l.made.items) [] (seen a l.fn.state)
