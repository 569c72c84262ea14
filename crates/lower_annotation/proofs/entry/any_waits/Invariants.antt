use Rattle.std.proofs.Common.{◌≡◌, drop}
use Rattle.std.specs.List.{list_any}
use Rattle.lower_leaf.specs.Around.{types}
use Rattle.lower_annotation.specs.Instance as i
use Rattle.lower_annotation.proofs.entry.any_waits.Given as goal

abbrev pub invariant-loop-one : goal.invariant-loop-one
invariant-loop-one g l = let a = g.S.Surroundings.around l.outside in
    list_any i.has_bottom (types a l.given) ≡ list_any i.has_bottom (types a (drop l.one-index l.given))
