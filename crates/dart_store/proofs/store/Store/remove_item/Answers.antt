use Rattle.std.proofs.Common.{◌∙◌, sym, ap, map, List}
use Rattle.dart_ir.specs.Object.{HeapObject}
use Rattle.dart_store.specs.Heap.{Heap, without_item_at, count_shown, numbers_from, without_item}
use Rattle.dart_store.specs.Pool.{stored_object}
use Rattle.dart_store.proofs.Numbers.{numbers_kept, shown_kept, removed_same}
use Rattle.dart_store.proofs.PoolLaws.{all_kept}
use Rattle.dart_store.proofs.store.Store.remove_item.Goals as goal

pub invariant_of-self : goal.invariant_of-self
invariant_of-self c =
    let i = c.self.invariant in
    let pool = c.self.inside.pool in
    let b = c.remove_at.ensures in
    let e = sym (b.0 pool) in
    let change = without_item c.args.index in
    let objects = map (stored_object pool) c.self.inside.objects.items in (
      i.0,
      i.1,
      i.2 ∙ sym (numbers_kept change (removed_same c.args.index) 0 c.args.r.0 objects) ∙ ap (numbers_from 0) e,
      i.3 ∙ sym (shown_kept change (removed_same c.args.index) c.args.r.0 objects) ∙ ap count_shown e,
      i.4,
      all_kept pool c.self.inside.objects.items c.remove_at.new.objects.items b.1 i.5,
    )

pub returns : goal.returns
returns c =
    let s = c.self.inside in
    let heap : List HeapObject → Heap = λ l. record { objects = l; statics = s.statics.items; used = s.used; limit = s.limit } in
    ap heap (c.remove_at.ensures.0 s.pool) ∙ ap (λ (h : Heap). without_item_at h c.args.r.0 c.args.index) c.self.view_is
