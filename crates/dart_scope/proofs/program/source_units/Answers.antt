use Rattle.std.proofs.Common.{ℕ, ◌+◌, arith, get_or, map, take, sym, List, subst, ◌<◌, length}
use Rattle.std.specs.List.{AllZip, zip}
use Rattle.dart_tree.specs.Unit.{UnitTree}
use Rattle.dart_tree.specs.UnitView as view
use Rattle.dart_scope.specs.declared.program.SourceUnit.{SourceUnit}
use Rattle.dart_scope.specs.Program.{IsUnit}
use Rattle.dart_scope.proofs.Pairs.{here, zipped_end, zipped_more, pairs_end_left, pairs_end_right}
use Rattle.dart_scope.proofs.program.source_units.Goals as goal

pub returns-then-at-homes : goal.returns-then-at-homes
returns-then-at-homes c =
    let R : ℕ × UnitTree → SourceUnit → Type 0 = λ p unit. IsUnit c.args.names.now p.0 p.1 unit in
    zipped_end R c.loop-at.made.items (pairs_end_left view.unit c.args.homes.now c.args.units.now c.loop-at.at c.if-at-homes.true) c.loop-at.invariant

pub loop-at-preserved : goal.loop-at-preserved
loop-at-preserved c =
    let homes = c.args.homes.now in
    let at = c.loop-at.at in
    let R : ℕ × UnitTree → SourceUnit → Type 0 = λ p unit. IsUnit c.args.names.now p.0 p.1 unit in
    let in_homes : at < length homes = omega (arith, c.if-at-homes.false) in
    let more = zipped_more view.unit homes c.args.units.now R c.loop-at.made.items c.in_ok-one.one at (get_or homes at 0) c.index-units-at.result
    in_homes c.loop-at-test.true (here homes at in_homes) c.index-units-at.is c.loop-at.invariant c.in_ok-one.ensures in
    let P : List SourceUnit → Type 0 = λ made. AllZip R (take (at + 1) (zip homes (map view.unit c.args.units.now))) made in
    subst P (sym c.in_ok-push.ensures.items) more

pub returns : goal.returns
returns c =
    let R : ℕ × UnitTree → SourceUnit → Type 0 = λ p unit. IsUnit c.args.names.now p.0 p.1 unit in
    zipped_end R c.loop-at.made.items (pairs_end_right view.unit c.args.homes.now c.args.units.now c.loop-at.at (omega (arith, c.loop-at-test.false))) c.loop-at.invariant
