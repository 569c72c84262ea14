use Rattle.std.proofs.Common.{ℕ, ap, arith, get_or, ◌∙◌, flat_map, List, ◌<◌, length}
use Rattle.dart_tree.specs.Unit.{UnitTree}
use Rattle.dart_tree.specs.UnitView as view
use Rattle.scope_declared.specs.declared.declaration.Declared.{Declared}
use Rattle.dart_scope.specs.Program.{declared_in}
use Rattle.dart_scope.proofs.Pairs.{here, made_more, pairs_end_left, pairs_end_right}
use Rattle.dart_scope.proofs.program.all_declared.Goals as goal

pub returns-then-at-homes : goal.returns-then-at-homes
returns-then-at-homes c =
    let g : ℕ × UnitTree → List Declared = λ p. declared_in c.args.names.now p.0 p.1 in
    c.loop-at.invariant ∙ ap (flat_map g) (pairs_end_left view.unit c.args.homes.now c.args.units.now c.loop-at.at c.if-at-homes.true)

pub loop-at-preserved : goal.loop-at-preserved
loop-at-preserved c =
    let homes = c.args.homes.now in
    let at = c.loop-at.at in
    let g : ℕ × UnitTree → List Declared = λ p. declared_in c.args.names.now p.0 p.1 in
    let in_homes : at < length homes = omega (arith, c.if-at-homes.false) in
    made_more view.unit homes c.args.units.now g c.loop-at.all.items c.extend_from_slice.new.self.items c.deref.result.now at (get_or homes at 0) c.index-units-at.result
    in_homes c.loop-at-test.true (here homes at in_homes) c.index-units-at.is c.loop-at.invariant (c.deref.ensures.value ∙ c.in_ok-more.ensures) c.in_ok-extend_from_slice.ensures.items

pub returns : goal.returns
returns c =
    let g : ℕ × UnitTree → List Declared = λ p. declared_in c.args.names.now p.0 p.1 in
    c.loop-at.invariant ∙ ap (flat_map g) (pairs_end_right view.unit c.args.homes.now c.args.units.now c.loop-at.at (omega (arith, c.loop-at-test.false)))
