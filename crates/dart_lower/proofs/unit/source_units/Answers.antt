use Rattle.std.proofs.Common.{◌≡◌, ◌∙◌, ◌++◌, ℕ, List, length, map, min, append-nil, arith, sym, ap}
use Rattle.dart_lower.specs.Given.{source_unit}
use Rattle.dart_tree.specs.Unit.{UnitTree}
use Rattle.lower_program.specs.Views as translated
use Rattle.dart_lower.proofs.Units.{paired-end}
use Rattle.dart_lower.proofs.unit.source_units.Goals as goal

pub returns : goal.returns
returns c = λ a.
    let homes = c.args.homes.now in
    let units = c.args.units.now in
    let place = c.loop-place.place in
    let made = map (translated.source_unit a) c.loop-place.made.items in
    let at : place ≡ min (length homes) (length units) = omega (arith, c.min-count.ensures) in
    sym (append-nil made)
    ∙ ap (λ (l : List (ℕ × UnitTree)). made ++ map (source_unit a) l) (sym (paired-end homes units place at))
    ∙ c.loop-place.invariant a
