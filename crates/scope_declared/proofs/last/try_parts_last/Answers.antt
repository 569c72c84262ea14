use Rattle.std.proofs.Common.{List, refl}
use Rattle.dart_base.specs.declared.place.Place.{Place}
use Rattle.dart_tree.specs.declared.statement.TryPart.{TryPart}
use Rattle.dart_tree.specs.Lists.{try_parts_of}
use Rattle.scope_declared.specs.Last.{try_parts_last}
use Rattle.scope_declared.proofs.Ending.{more_try_parts, none_try_parts, turn, over}
use Rattle.scope_declared.proofs.last.try_parts_last.Goals as goal

pub loop-part-preserved : goal.loop-part-preserved
loop-part-preserved c =
    turn (λ (before : Place) (xs : List TryPart). try_parts_last before (try_parts_of xs)) (λ (x : TryPart). x.block.closing) more_try_parts c.args.all.now.items c.deref-part-items.result.now c.loop-part.part-index c.part-item.result c.loop-part.last _ _ c.deref-part-items.ensures.value c.loop-part-test.true c.part-item.is c.loop-part.invariant
    (refl)

pub returns : goal.returns
returns c = over (λ (before : Place) (xs : List TryPart). try_parts_last before (try_parts_of xs)) none_try_parts c.args.all.now.items c.deref-part-items.result.now c.loop-part.part-index c.loop-part.last _ c.deref-part-items.ensures.value c.loop-part-test.false c.loop-part.invariant
