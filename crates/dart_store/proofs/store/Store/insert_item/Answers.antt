use Rattle.std.proofs.Common.{◌≡◌, ℕ, ◌+◌, ◌<◌, ◌≤◌, Bool, List, if◌then◌else◌, subst, ◌∙◌, sym, ap, map, rules, arith}
use Rattle.std.proofs.lemmas.Bool.{ltb-true, ltb-false}
use Rattle.std.specs.Prelude.{slice_get, Err}
use Rattle.dart_ir.specs.Object.{HeapObject}
use Rattle.dart_store.specs.Heap.{Heap, changed, item_cost, with_inserted_at, count_shown, numbers_from, with_inserted}
use Rattle.dart_store.specs.declared.store.StoreFault.TheVariants.{Full}
use Rattle.dart_store.specs.Pool.{stored_object}
use Rattle.dart_store.proofs.Numbers.{numbers_kept, shown_kept, inserted_same}
use Rattle.dart_store.proofs.PoolLaws.{all_kept}
use Rattle.dart_store.proofs.store.Store.insert_item.Goals as goal

pub invariant_of-self-then-branch : goal.invariant_of-self-then-branch
invariant_of-self-then-branch c =
    let i = c.self.invariant in
    let p = c.in_ok-insert_at.ensures.inserted in
    let pool = c.self.inside.pool in
    let e = sym (p.0.0 pool) in
    let change = with_inserted c.args.index c.args.value in
    let objects = map (stored_object pool) c.self.inside.objects.items in
    let room = p.2 c.if-branch.true in (
      (let l = ltb-true c.self.inside.used c.self.inside.limit room in omega arith),
      i.1,
      i.2 ∙ sym (numbers_kept change (inserted_same c.args.index c.args.value) 0 c.args.r.0 objects) ∙ ap (numbers_from 0) e,
      i.3 ∙ sym (shown_kept change (inserted_same c.args.index c.args.value) c.args.r.0 objects) ∙ ap count_shown e,
      (let l = i.4 in omega arith),
      all_kept pool c.self.inside.objects.items c.insert_at.new.objects.items p.0.1 i.5,
    )

pub invariant_of-self-else-branch : goal.invariant_of-self-else-branch
invariant_of-self-else-branch c =
    let i = c.self.invariant in
    let p = c.in_ok-insert_at.ensures.inserted in
    let pool = c.self.inside.pool in
    let e = sym (p.0.0 pool) in
    let change = with_inserted c.args.index c.args.value in
    let objects = map (stored_object pool) c.self.inside.objects.items in (
      i.0,
      i.1,
      i.2 ∙ sym (numbers_kept change (inserted_same c.args.index c.args.value) 0 c.args.r.0 objects) ∙ ap (numbers_from 0) e,
      i.3 ∙ sym (shown_kept change (inserted_same c.args.index c.args.value) c.args.r.0 objects) ∙ ap count_shown e,
      i.4,
      all_kept pool c.self.inside.objects.items c.insert_at.new.objects.items p.0.1 i.5,
    )

pub returns-in_err-insert_at-clause-full : goal.returns-in_err-insert_at-clause-full
returns-in_err-insert_at-clause-full c = λ h.
    let s = c.self.inside in
    let objects = map (stored_object s.pool) s.objects.items in
    let reason : c.insert_at.result ≡ Err Full = first_of (search rules, grind arith) in
    let f = c.insert_at.ensures.full reason in
    let much = ltb-false s.used s.limit f.1 in
    let cost = f.0 s.pool in
    let all : s.limit < s.used + item_cost (slice_get objects c.args.r.0) = omega arith in
    subst (λ (h : Heap). h.limit < h.used + item_cost (slice_get h.objects c.args.r.0)) c.self.view_is all

pub returns-then-branch-clause-inserted : goal.returns-then-branch-clause-inserted
returns-then-branch-clause-inserted c =
    let s = c.self.inside in
    let p = c.in_ok-insert_at.ensures.inserted in
    let objects = map (stored_object s.pool) s.objects.items in
    let heap : List HeapObject → ℕ → Heap = λ l n. record { objects = l; statics = s.statics.items; used = n; limit = s.limit } in
    let cost : item_cost (slice_get objects c.args.r.0) ≡ 1 = p.1 s.pool ∙ ap (λ (b : Bool). if b then 1 else 0) c.if-branch.true in
    let used : s.used + 1 ≡ s.used + item_cost (slice_get objects c.args.r.0) = ap (λ (k : ℕ). s.used + k) (sym cost) in
    ap (λ (l : List HeapObject). heap l (s.used + 1)) (p.0.0 s.pool) ∙ ap (λ (n : ℕ). heap (changed (with_inserted c.args.index c.args.value) c.args.r.0 objects) n) used
    ∙ ap (λ (h : Heap). with_inserted_at h c.args.r.0 c.args.index c.args.value) c.self.view_is

pub returns-else-branch-clause-inserted : goal.returns-else-branch-clause-inserted
returns-else-branch-clause-inserted c =
    let s = c.self.inside in
    let p = c.in_ok-insert_at.ensures.inserted in
    let objects = map (stored_object s.pool) s.objects.items in
    let heap : List HeapObject → ℕ → Heap = λ l n. record { objects = l; statics = s.statics.items; used = n; limit = s.limit } in
    let cost : item_cost (slice_get objects c.args.r.0) ≡ 0 = p.1 s.pool ∙ ap (λ (b : Bool). if b then 1 else 0) c.if-branch.false in
    let used : s.used ≡ s.used + item_cost (slice_get objects c.args.r.0) = (let none : s.used ≡ s.used + 0 = omega arith in none ∙ ap (λ (k : ℕ). s.used + k) (sym cost)) in
    ap (λ (l : List HeapObject). heap l s.used) (p.0.0 s.pool) ∙ ap (λ (n : ℕ). heap (changed (with_inserted c.args.index c.args.value) c.args.r.0 objects) n) used
    ∙ ap (λ (h : Heap). with_inserted_at h c.args.r.0 c.args.index c.args.value) c.self.view_is

pub returns-else-branch-clause-room : goal.returns-else-branch-clause-room
returns-else-branch-clause-room c =
    let s = c.self.inside in
    let p = c.in_ok-insert_at.ensures.inserted in
    let objects = map (stored_object s.pool) s.objects.items in
    let cost : item_cost (slice_get objects c.args.r.0) ≡ 0 = p.1 s.pool ∙ ap (λ (b : Bool). if b then 1 else 0) c.if-branch.false in
    let used : s.used ≡ s.used + item_cost (slice_get objects c.args.r.0) = (let none : s.used ≡ s.used + 0 = omega arith in none ∙ ap (λ (k : ℕ). s.used + k) (sym cost)) in
    subst (λ (h : Heap). h.used + item_cost (slice_get h.objects c.args.r.0) ≤ h.limit) c.self.view_is (subst (λ (n : ℕ). n ≤ s.limit) used c.self.invariant.0)
