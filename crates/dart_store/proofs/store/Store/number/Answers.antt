use Rattle.std.proofs.Common.{◌≡◌, ◌+◌, ◌∙◌, sym, ap, map, take, length, arith, slice_index_or}
use Rattle.dart_store.specs.Heap.{Heap, number_at, count_shown}
use Rattle.dart_store.specs.Pool.{stored_object}
use Rattle.dart_store.proofs.Numbers.{number_there, numbers_count, all_shown}
use Rattle.dart_store.proofs.store.Store.number.Goals as goal

pub returns-then-at-len : goal.returns-then-at-len
returns-then-at-len c =
    let r = c.args.r.0 in
    let objects = map (stored_object c.self.inside.pool) c.self.inside.objects.items in
    let e = ap length c.self.invariant.2 ∙ numbers_count 0 objects in
    let there = number_there 0 objects r c.index.result.now (omega (arith, e, c.if-at-len.true, c.len.ensures)) in
    let plain : count_shown (take r objects) + 0 ≡ count_shown (take r objects) = omega arith in
    c.from.ensures ∙ c.index.ensures ∙ ap (λ (l : _). slice_index_or l r c.index.result.now) c.self.invariant.2 ∙ there ∙ plain
    ∙ ap (λ (h : Heap). number_at h r) c.self.view_is

pub returns-else-at-len : goal.returns-else-at-len
returns-else-at-len c =
    let r = c.args.r.0 in
    let objects = map (stored_object c.self.inside.pool) c.self.inside.objects.items in
    let e = ap length c.self.invariant.2 ∙ numbers_count 0 objects in
    c.self.invariant.3 ∙ sym (all_shown objects r (omega (arith, e, c.if-at-len.false, c.len.ensures)))
    ∙ ap (λ (h : Heap). number_at h r) c.self.view_is
