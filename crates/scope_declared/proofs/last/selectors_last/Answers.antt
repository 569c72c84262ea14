use Rattle.std.proofs.Common.{List}
use Rattle.dart_base.specs.declared.place.Place.{Place}
use Rattle.dart_tree.specs.declared.expression.Selector.{Selector}
use Rattle.dart_tree.specs.Lists.{selectors_of}
use Rattle.dart_tree.specs.View as view
use Rattle.scope_declared.specs.Last.{selector_last, selectors_last}
use Rattle.scope_declared.proofs.Ending.{more_selectors, none_selectors, turn, over}
use Rattle.scope_declared.proofs.last.selectors_last.Goals as goal

pub loop-selector-preserved : goal.loop-selector-preserved
loop-selector-preserved c =
    turn (λ (before : Place) (xs : List Selector). selectors_last before (selectors_of xs)) (λ (x : Selector). selector_last (view.selector x)) more_selectors c.args.all.now.items c.deref-selector-items.result.now c.loop-selector.selector-index c.selector-item.result c.loop-selector.last _ _ c.deref-selector-items.ensures.value c.loop-selector-test.true c.selector-item.is c.loop-selector.invariant
    (c.selector_last-last.ensures)

pub returns : goal.returns
returns c = over (λ (before : Place) (xs : List Selector). selectors_last before (selectors_of xs)) none_selectors c.args.all.now.items c.deref-selector-items.result.now c.loop-selector.selector-index c.loop-selector.last _ c.deref-selector-items.ensures.value c.loop-selector-test.false c.loop-selector.invariant
