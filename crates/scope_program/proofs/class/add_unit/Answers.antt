use Rattle.std.proofs.Common.{◌≤◌, ◌++◌, length, map, take, arith}
use Rattle.dart_tree.specs.UnitView as view
use Rattle.scope_program.specs.Classes.{unit_scopes}
use Rattle.scope_program.proofs.Scopes.{nothing-more, unit-step, unit-end}
use Rattle.scope_program.proofs.class.add_unit.Goals as goal

pub loop-one-init : goal.loop-one-init
loop-one-init c = λ before h. nothing-more c.args.declarations.names.now c.args.declarations.numbered.now before c.args.made.now.items h

pub loop-one-preserved : goal.loop-one-preserved
loop-one-preserved c =
    let texts = c.args.declarations.names.now in
    let numbered = c.args.declarations.numbered.now in
    let all = c.args.all.now.items in
    let i = c.loop-one.one-index in
    λ before h.
    unit-step texts numbered c.args.library all c.deref-one-items.result.now i c.one-item.result before c.add_declared.new.made.items
    c.deref-one-items.ensures.value c.loop-one-test.true c.one-item.is
    (c.in_ok-add_declared.ensures (before ++ unit_scopes numbered c.args.library (map view.decl (take i all))) (c.loop-one.invariant before h))

pub returns : goal.returns
returns c =
    let past : length c.deref-one-items.result.now ≤ c.loop-one.one-index = omega arith in
    λ before h.
    unit-end c.args.declarations.names.now c.args.declarations.numbered.now c.args.library c.args.all.now.items c.deref-one-items.result.now c.loop-one.one-index before
    c.loop-one.made.items c.deref-one-items.ensures.value past (c.loop-one.invariant before h)
