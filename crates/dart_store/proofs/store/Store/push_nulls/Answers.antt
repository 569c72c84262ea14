use Rattle.std.proofs.Common.{◌≡◌, ℕ, ◌+◌, ◌*◌, ◌<◌, ◌≤◌, Bool, List, if◌then◌else◌, subst, ◌∙◌, ◌-◌, sym, ap, map, rules, arith}
use Rattle.std.proofs.lemmas.Bool.{leb-true, leb-false}
use Rattle.std.specs.Prelude.{slice_get, Err}
use Rattle.dart_ir.specs.Object.{HeapObject}
use Rattle.dart_store.specs.Heap.{Heap, changed, item_cost, with_nulls_at, count_shown, numbers_from, with_nulls}
use Rattle.dart_store.specs.declared.store.StoreFault.TheVariants.{Full}
use Rattle.dart_store.specs.Pool.{stored_object}
use Rattle.dart_store.proofs.Numbers.{numbers_kept, shown_kept, nulls_same}
use Rattle.dart_store.proofs.PoolLaws.{all_kept}
use Rattle.dart_store.proofs.store.Store.push_nulls.Goals as goal

pub invariant_of-self-then-branch : goal.invariant_of-self-then-branch
invariant_of-self-then-branch c =
    let i = c.self.invariant in
    let p = c.in_ok-grow_at.ensures.grown in
    let pool = c.self.inside.pool in
    let e = sym (p.0.0 pool) in
    let change = with_nulls c.args.count in
    let objects = map (stored_object pool) c.self.inside.objects.items in
    let room = p.2 c.if-branch.true in (
      (let l = leb-true c.args.count (c.self.inside.limit - c.self.inside.used) room in omega arith),
      i.1,
      i.2 ∙ sym (numbers_kept change (nulls_same c.args.count) 0 c.args.r.0 objects) ∙ ap (numbers_from 0) e,
      i.3 ∙ sym (shown_kept change (nulls_same c.args.count) c.args.r.0 objects) ∙ ap count_shown e,
      (let l = i.4 in omega arith),
      all_kept pool c.self.inside.objects.items c.grow_at.new.objects.items p.0.1 i.5,
    )

pub invariant_of-self-else-branch : goal.invariant_of-self-else-branch
invariant_of-self-else-branch c =
    let i = c.self.invariant in
    let p = c.in_ok-grow_at.ensures.grown in
    let pool = c.self.inside.pool in
    let e = sym (p.0.0 pool) in
    let change = with_nulls c.args.count in
    let objects = map (stored_object pool) c.self.inside.objects.items in (
      i.0,
      i.1,
      i.2 ∙ sym (numbers_kept change (nulls_same c.args.count) 0 c.args.r.0 objects) ∙ ap (numbers_from 0) e,
      i.3 ∙ sym (shown_kept change (nulls_same c.args.count) c.args.r.0 objects) ∙ ap count_shown e,
      i.4,
      all_kept pool c.self.inside.objects.items c.grow_at.new.objects.items p.0.1 i.5,
    )

pub returns-in_err-grow_at-clause-full : goal.returns-in_err-grow_at-clause-full
returns-in_err-grow_at-clause-full c = λ h.
    let s = c.self.inside in
    let objects = map (stored_object s.pool) s.objects.items in
    let reason : c.grow_at.result ≡ Err Full = first_of (search rules, grind arith) in
    let f = c.grow_at.ensures.full reason in
    let much = leb-false c.args.count (s.limit - s.used) f.1 in
    let within = c.self.invariant.0 in
    let more : s.used + c.args.count ≡ s.used + 1 * c.args.count = omega arith in
    let over : s.limit < s.used + c.args.count = omega arith in
    let all = subst (λ (n : ℕ). s.limit < n) (more ∙ ap (λ (k : ℕ). s.used + k * c.args.count) (sym (f.0 s.pool))) over in
    subst (λ (h : Heap). h.limit < h.used + item_cost (slice_get h.objects c.args.r.0) * c.args.count) c.self.view_is all

pub returns-then-branch-clause-pushed : goal.returns-then-branch-clause-pushed
returns-then-branch-clause-pushed c =
    let s = c.self.inside in
    let p = c.in_ok-grow_at.ensures.grown in
    let objects = map (stored_object s.pool) s.objects.items in
    let heap : List HeapObject → ℕ → Heap = λ l n. record { objects = l; statics = s.statics.items; used = n; limit = s.limit } in
    let cost : item_cost (slice_get objects c.args.r.0) ≡ 1 = p.1 s.pool ∙ ap (λ (b : Bool). if b then 1 else 0) c.if-branch.true in
    let used : s.used + c.args.count ≡ s.used + item_cost (slice_get objects c.args.r.0) * c.args.count = (let one : 1 * c.args.count ≡ c.args.count = omega arith in ap (λ (n : ℕ). s.used + n) (sym one ∙ ap (λ (k : ℕ). k * c.args.count) (sym cost))) in
    ap (λ (l : List HeapObject). heap l (s.used + c.args.count)) (p.0.0 s.pool) ∙ ap (λ (n : ℕ). heap (changed (with_nulls c.args.count) c.args.r.0 objects) n) used
    ∙ ap (λ (h : Heap). with_nulls_at h c.args.r.0 c.args.count) c.self.view_is

pub returns-else-branch-clause-pushed : goal.returns-else-branch-clause-pushed
returns-else-branch-clause-pushed c =
    let s = c.self.inside in
    let p = c.in_ok-grow_at.ensures.grown in
    let objects = map (stored_object s.pool) s.objects.items in
    let heap : List HeapObject → ℕ → Heap = λ l n. record { objects = l; statics = s.statics.items; used = n; limit = s.limit } in
    let cost : item_cost (slice_get objects c.args.r.0) ≡ 0 = p.1 s.pool ∙ ap (λ (b : Bool). if b then 1 else 0) c.if-branch.false in
    let used : s.used ≡ s.used + item_cost (slice_get objects c.args.r.0) * c.args.count = (let none : s.used ≡ s.used + 0 * c.args.count = omega arith in none ∙ ap (λ (k : ℕ). s.used + k * c.args.count) (sym cost)) in
    ap (λ (l : List HeapObject). heap l s.used) (p.0.0 s.pool) ∙ ap (λ (n : ℕ). heap (changed (with_nulls c.args.count) c.args.r.0 objects) n) used
    ∙ ap (λ (h : Heap). with_nulls_at h c.args.r.0 c.args.count) c.self.view_is

pub returns-else-branch-clause-room : goal.returns-else-branch-clause-room
returns-else-branch-clause-room c =
    let s = c.self.inside in
    let p = c.in_ok-grow_at.ensures.grown in
    let objects = map (stored_object s.pool) s.objects.items in
    let cost : item_cost (slice_get objects c.args.r.0) ≡ 0 = p.1 s.pool ∙ ap (λ (b : Bool). if b then 1 else 0) c.if-branch.false in
    let used : s.used ≡ s.used + item_cost (slice_get objects c.args.r.0) * c.args.count = (let none : s.used ≡ s.used + 0 * c.args.count = omega arith in none ∙ ap (λ (k : ℕ). s.used + k * c.args.count) (sym cost)) in
    subst (λ (h : Heap). h.used + item_cost (slice_get h.objects c.args.r.0) * c.args.count ≤ h.limit) c.self.view_is (subst (λ (n : ℕ). n ≤ s.limit) used c.self.invariant.0)
