-- Natives of lists that move no item.
use Rattle.std.proofs.Common.{◌≡◌, ℕ, ◌+◌, List, [], ◌∷◌, Option, Some, None, Bool, true, false, refl, sym, subst, if◌then◌else◌}
use Rattle.std.specs.Prelude.{ℤ, pos, negsuc, nat_le}
use Rattle.dart_ir.specs.declared.kind.ThrowKind.{ThrowKind}
use Rattle.dart_ir.specs.declared.kind.ThrowKind.TheVariants.{ArgumentError, UnsupportedError, RangeError}
use Rattle.dart_ir.specs.declared.native.NativeId.{NativeId}
use Rattle.dart_ir.specs.declared.native.NativeId.TheVariants as n
use Rattle.dart_ir.specs.declared.value.Value.{Value}
use Rattle.dart_ir.specs.declared.value.Value.TheVariants as v
use Rattle.dart_ir.specs.Ty.{Ty}
use Rattle.dart_store.specs.Heap.{Heap}
use Rattle.native_base.specs.Plan.{Plan, needs, place, work}
use Rattle.native_number.specs.Number.{number_of}
use Rattle.native_list.specs.List.{count, new_list, nulls, item, item_set, unless_fixed, length_set, length_set_to, last_place, last_removed, added, of_list, list_native}

-- what follows moves nothing, so the whole doesn't
none : {A : Type 0} (kind : ThrowKind) (o : Option A) (go : A → Plan) → ((x : A) → work (go x) ≡ 0) → work (needs kind o go) ≡ 0
none kind (Some x) go h = h x
none kind None go h = refl

unless : (fixed : Bool) (plan : Plan) → work plan ≡ 0 → work (unless_fixed fixed plan) ≡ 0
unless true plan h = refl
unless false plan h = h

chosen : (b : Bool) (p q : Plan) → work p ≡ 0 → work q ≡ 0 → work (if b then p else q) ≡ 0
chosen true p q h k = h
chosen false p q h k = k

nulls_work : (types : List Ty) (z : ℤ) → work (nulls types z) ≡ 0
nulls_work types (pos n) = refl
nulls_work types (negsuc n) = refl

pub new_work : (types : List Ty) (x : Value) → work (new_list types x) ≡ 0
new_work types v.Null = refl
new_work types (v.Bool b) = refl
new_work types (v.Int high low) = nulls_work types _
new_work types (v.Literal i) = refl
new_work types (v.Code f) = refl
new_work types (v.At r) = refl

length_work : (h : Heap) (r : ℕ) (z : ℤ) → work (length_set h r z) ≡ 0
length_work h r (pos n) = chosen (nat_le n (count h r)) _ _ refl refl
length_work h r (negsuc n) = refl

pub still : (native : NativeId) → (native ≡ n.ListRemoveAt → ⊥) → (native ≡ n.ListInsert → ⊥) → (h : Heap) (r : ℕ) (fixed : Bool) (x y : Value) → work (of_list native h r fixed x y) ≡ 0
still n.ListRemoveAt a b h r fixed x y = absurd (a refl)
still n.ListInsert a b h r fixed x y = absurd (b refl)
still n.ListSetLength a b h r fixed x y =
    none _ (number_of x) (λ i. unless_fixed fixed (length_set h r i)) (λ i. unless fixed (length_set h r i) (length_work h r i))
still n.ListIndex a b h r fixed x y =
    none _ (number_of x) (item h r) (λ i. none _ (place (count h r) i) _ (λ k. refl))
still n.ListIndexSet a b h r fixed x y =
    none _ (number_of x) (item_set h r y) (λ i. none _ (place (count h r) i) _ (λ k. refl))
still n.ListAdd a b h r fixed x y = unless fixed (added h r x) refl
still n.ListRemoveLast a b h r fixed x y =
    unless fixed (last_removed h r) (none _ (last_place (count h r)) _ (λ k. refl))
still native a b h r fixed x y = refl

pub new_still : (native : NativeId) → native ≡ n.ListNew → (types : List Ty) (h : Heap) (this x y : Value) → 0 ≡ work (list_native native types h this x y)
new_still native e types h this x y =
    let P : NativeId → Type 0 = λ k. 0 ≡ work (list_native k types h this x y) in subst P (sym e) (sym (new_work types this))
