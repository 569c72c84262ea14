use Rattle.std.proofs.Common.{◌≡◌, ◌∙◌, Some, length, slice_get, sym, ap, refl, arith, subst as transport}
use Rattle.std.proofs.lemmas.Option.{slice_get_read}
use Rattle.dart_ir.specs.Classes.{class_at}
use Rattle.class_size.specs.Bound.{AreBounds}
use Rattle.class_size.proofs.Bounded.{no_bounds, bounds_more}
use Rattle.class_size.proofs.bound.bounds_of.Goals as goal

pub loop-info-init : goal.loop-info-init
loop-info-init c = record {
  bounds = transport (AreBounds c.args.classes.now) (sym c.new-bounds.ensures.items) (no_bounds c.args.classes.now);
  size = ap length c.new-bounds.ensures.items;
}

pub loop-info-preserved : goal.loop-info-preserved
loop-info-preserved c =
    let i = c.info-item.result in
    let at : class_at c.args.classes.now (length c.loop-info.bounds.items) ≡ Some i =
    ap (slice_get c.args.classes.now.classes.items) c.loop-info.invariant.size
    ∙ ap (λ xs. slice_get xs c.loop-info.info-index) (sym c.deref-info-items.ensures.value)
    ∙ slice_get_read c.deref-info-items.result.now (length c.deref-info-items.result.now) c.loop-info.info-index i refl c.loop-info-test.true c.info-item.is in
    bounds_more c.args.classes.now c.loop-info.bounds.items c.class_bound.result i at c.loop-info.invariant.bounds
    (λ h. c.class_bound.ensures c.args.classes.now (transport (AreBounds c.args.classes.now) (sym c.deref.ensures.value) h))
    c.loop-info.info-index c.loop-info.invariant.size c.push.new.self.items c.in_ok-push.ensures.items
