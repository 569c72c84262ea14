use Rattle.std.proofs.Common.{◌∙◌, sym, ap, map, List}
use Rattle.dart_ir.specs.Object.{HeapObject}
use Rattle.dart_store.specs.Heap.{Heap, with_field_at, count_shown, numbers_from, with_field}
use Rattle.dart_store.specs.Pool.{stored_object}
use Rattle.dart_store.proofs.Numbers.{numbers_kept, shown_kept, field_same}
use Rattle.dart_store.proofs.PoolLaws.{all_kept}
use Rattle.dart_store.proofs.store.Store.set_field.Goals as goal

pub invariant_of-self : goal.invariant_of-self
invariant_of-self c =
    let i = c.self.invariant in
    let pool = c.self.inside.pool in
    let b = c.put_field.ensures in
    let e = sym (b.0 pool) in
    let change = with_field c.args.index c.args.value in
    let objects = map (stored_object pool) c.self.inside.objects.items in (
      i.0,
      i.1,
      i.2 ∙ sym (numbers_kept change (field_same c.args.index c.args.value) 0 c.args.r.0 objects) ∙ ap (numbers_from 0) e,
      i.3 ∙ sym (shown_kept change (field_same c.args.index c.args.value) c.args.r.0 objects) ∙ ap count_shown e,
      i.4,
      all_kept pool c.self.inside.objects.items c.put_field.new.objects.items b.1 i.5,
    )

pub returns : goal.returns
returns c =
    let s = c.self.inside in
    let heap : List HeapObject → Heap = λ l. record { objects = l; statics = s.statics.items; used = s.used; limit = s.limit } in
    ap heap (c.put_field.ensures.0 s.pool) ∙ ap (λ (h : Heap). with_field_at h c.args.r.0 c.args.index c.args.value) c.self.view_is
