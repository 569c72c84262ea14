use Rattle.std.proofs.Common.{◌≡◌, ◌+◌, ◌++◌, ◌∷◌, [], ◌∙◌, ℕ, List, length, map, refl, sym, take, ap, arith}
use Rattle.dart_ir.specs.Object.{HeapObject, heap_object}
use Rattle.dart_store.specs.Heap.{Heap, count_shown, numbers_from, with_object}
use Rattle.dart_store.specs.Pool.{stored_object}
use Rattle.dart_store.proofs.Numbers.{numbers_more, shown_more, numbers_count, shown_costs, map_count, before_last, failed, worked, if_failed}
use Rattle.dart_store.proofs.PoolLaws.{seen_same, fit_same, seen_added, fit_added}
use Rattle.dart_store.proofs.store.Store.add.Goals as goal

pub invariant_of-self-then-is_err : goal.invariant_of-self-then-is_err
invariant_of-self-then-is_err c =
    let i = c.self.invariant in
    let pool = c.self.inside.pool in
    let objects = c.self.inside.objects.items in
    let grown = c.keep.new.pool in
    let others = c.keep.ensures.others in
    let same = failed c.push_object.result c.push_object.ensures.err (sym c.if-is_err.true ∙ c.is_err.ensures.value) in
    let seen = sym (seen_same pool grown others objects c.push_object.new.objects.items i.5 same) in
    let count = ap length i.2 ∙ numbers_count 0 (map (stored_object pool) objects) ∙ map_count (stored_object pool) objects in
    let cut = before_last c.len-at.result c.self.inside.numbers.items c.self.inside.shown (omega (arith, count, c.len-at.ensures)) in (
      i.0,
      i.1,
      c.truncate.ensures.items ∙ ap (take c.len-at.result) c.in_ok-push_number.ensures.ok ∙ cut ∙ i.2 ∙ ap (numbers_from 0) seen,
      i.3 ∙ ap count_shown seen,
      i.4,
      fit_same pool grown others objects c.push_object.new.objects.items i.5 same,
    )

pub invariant_of-self-2 : goal.invariant_of-self-2
invariant_of-self-2 c =
    let i = c.self.invariant in
    let pool = c.self.inside.pool in
    let objects = c.self.inside.objects.items in
    let grown = c.keep.new.pool in
    let others = c.keep.ensures.others in
    let kept = c.in_ok-stored.ensures.kept in
    let before = map (stored_object pool) objects in
    let object = heap_object c.args.object in
    let more = worked c.push_object.result c.push_object.ensures.ok (sym c.if-is_err.false ∙ c.is_err.ensures.value) in
    let seen = sym (seen_added pool grown others objects c.push_object.new.objects.items c.in_ok-stored.stored object i.5 more kept.0) in
    let low = shown_costs object in
    let number : c.self.inside.shown ≡ count_shown before + 0 = (let s = i.3 in omega arith) in (
      (let r = c.if-cost-self.false in let u = i.0 in omega arith),
      i.1,
      c.in_ok-push_number.ensures.ok ∙ ap (λ (l : List ℕ). l ++ c.self.inside.shown ∷ []) i.2 ∙ ap (λ (n : ℕ). numbers_from 0 before ++ n ∷ []) number
          ∙ sym (numbers_more 0 before object) ∙ ap (numbers_from 0) seen,
      (let a = shown_more before object in let b = c.shown_behind-shown.ensures in let s = i.3 in
          let t : c.shown_behind-shown.result ≡ count_shown (before ++ object ∷ []) = omega arith in t ∙ ap count_shown seen),
      (let b = c.shown_behind-shown.ensures in let l = i.4 in let k = c.cost_of-cost.ensures in omega arith),
      fit_added pool grown others objects c.push_object.new.objects.items c.in_ok-stored.stored i.5 more kept.1,
    )

pub invariant_of-self : goal.invariant_of-self
invariant_of-self c =
    let i = c.self.invariant in
    let objects = c.self.inside.objects.items in
    let seen = sym (seen_same c.self.inside.pool c.keep.new.pool c.keep.ensures.others objects objects i.5 refl) in (
      i.0,
      i.1,
      i.2 ∙ ap (numbers_from 0) seen,
      i.3 ∙ ap count_shown seen,
      i.4,
      fit_same c.self.inside.pool c.keep.new.pool c.keep.ensures.others objects objects i.5 refl,
    )

pub returns-in_err-stored-clause-refused : goal.returns-in_err-stored-clause-refused
returns-in_err-stored-clause-refused c =
    let s = c.self.inside in
    let heap : List HeapObject → Heap = λ l. record { objects = l; statics = s.statics.items; used = s.used; limit = s.limit } in
    let seen = seen_same s.pool c.keep.new.pool c.keep.ensures.others s.objects.items s.objects.items c.self.invariant.5 refl in
    if_failed c.from_residual.result (ap heap seen ∙ c.self.view_is)

pub invariant_of-self-in_err-push_number : goal.invariant_of-self-in_err-push_number
invariant_of-self-in_err-push_number c =
    let i = c.self.invariant in
    let objects = c.self.inside.objects.items in
    let seen = sym (seen_same c.self.inside.pool c.keep.new.pool c.keep.ensures.others objects objects i.5 refl) in (
      i.0,
      i.1,
      c.in_err-push_number.ensures.err ∙ i.2 ∙ ap (numbers_from 0) seen,
      i.3 ∙ ap count_shown seen,
      i.4,
      fit_same c.self.inside.pool c.keep.new.pool c.keep.ensures.others objects objects i.5 refl,
    )

pub returns-in_err-push_number-clause-refused : goal.returns-in_err-push_number-clause-refused
returns-in_err-push_number-clause-refused c =
    let s = c.self.inside in
    let heap : List HeapObject → Heap = λ l. record { objects = l; statics = s.statics.items; used = s.used; limit = s.limit } in
    let seen = seen_same s.pool c.keep.new.pool c.keep.ensures.others s.objects.items s.objects.items c.self.invariant.5 refl in
    if_failed c.from_residual-in_err-push_number.result (ap heap seen ∙ c.self.view_is)

pub returns-then-is_err-clause-refused : goal.returns-then-is_err-clause-refused
returns-then-is_err-clause-refused c =
    let s = c.self.inside in
    let heap : List HeapObject → Heap = λ l. record { objects = l; statics = s.statics.items; used = s.used; limit = s.limit } in
    let same = failed c.push_object.result c.push_object.ensures.err (sym c.if-is_err.true ∙ c.is_err.ensures.value) in
    ap heap (seen_same s.pool c.keep.new.pool c.keep.ensures.others s.objects.items c.push_object.new.objects.items c.self.invariant.5 same) ∙ c.self.view_is

pub returns-clause-added : goal.returns-clause-added
returns-clause-added c =
    let s = c.self.inside in
    let before = map (stored_object s.pool) s.objects.items in
    let object = heap_object c.args.object in
    let kept = c.in_ok-stored.ensures.kept in
    let heap : List HeapObject → ℕ → Heap = λ l n. record { objects = l; statics = s.statics.items; used = n; limit = s.limit } in
    let more = worked c.push_object.result c.push_object.ensures.ok (sym c.if-is_err.false ∙ c.is_err.ensures.value) in
    let seen = seen_added s.pool c.keep.new.pool c.keep.ensures.others s.objects.items c.push_object.new.objects.items c.in_ok-stored.stored object c.self.invariant.5 more kept.0 in
    let count = map_count (stored_object s.pool) s.objects.items in
    let place : c.len-at.result ≡ length before = omega (arith, count, c.len-at.ensures) in (
      place ∙ ap (λ (h : Heap). length h.objects) c.self.view_is,
      ap (λ (l : List HeapObject). heap l (s.used + c.cost_of-cost.result)) seen
          ∙ ap (λ (n : ℕ). heap (before ++ object ∷ []) (s.used + n)) c.cost_of-cost.ensures
          ∙ ap (λ (h : Heap). with_object h object) c.self.view_is,
    )
