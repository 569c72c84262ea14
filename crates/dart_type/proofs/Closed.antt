-- Types without parameters, and what the answers on interned types say of them.
use Rattle.std.proofs.Common.{◌≡◌, ℕ, ◌↔◌, Bool, true, false, IsTrue, Result, IfOk, List, refl, ap, ◌∙◌, arith, subst as transport}
use Rattle.std.specs.declared.alloc.AllocError.{AllocError}
use Rattle.dart_ir.specs.Ty.{Ty, Tys, NamedTys, dynamic, bottom, void, class, parameter, function, nil, cons, unnamed, named}
use Rattle.dart_ir.specs.Classes.{IsFormed, AreFormed, AreNamedFormed}
use Rattle.dart_ir.specs.declared.class.Classes.{Classes}
use Rattle.dart_type.specs.declared.intern.Node.{Node}
use Rattle.dart_type.specs.Instance.{instance, instances, named_instances}
use Rattle.dart_type.specs.Relation.{Table, floor, IsMoreSpecific, IsSubtype, IsAssignable, to, from}
use Rattle.dart_type.specs.Intern.{read, types, Gives}
use Rattle.dart_type.proofs.Entered.{if_ok}

-- A type without parameters is its own instance.
mutual
  pub closed : (k : Classes) (t : Ty) → IsFormed k 0 t → instance nil t ≡ t
  closed k dynamic h = refl
  closed k bottom h = refl
  closed k void h = refl
  closed k (class c ts) h = ap (class c) (all_closed k ts h.2)
  closed k (parameter i) h = absurd (omega (arith, h))
  closed k (function r q o n) h = let a = closed k r h.0 in let b = all_closed k q h.1 in let c = all_closed k o h.2 in let d = named_closed k n h.3 in cc

  all_closed : (k : Classes) (ts : Tys) → AreFormed k 0 ts → instances nil ts ≡ ts
  all_closed k nil h = refl
  all_closed k (cons t ts) h = let a = closed k t h.0 in let b = all_closed k ts h.1 in cc

  named_closed : (k : Classes) (ts : NamedTys) → AreNamedFormed k 0 ts → named_instances nil ts ≡ ts
  named_closed k unnamed h = refl
  named_closed k (named x t ts) h = let a = closed k t h.0 in let b = named_closed k ts h.1 in cc

at_types : (k : Table) (b : Bool) (x y t s : Ty) → x ≡ t → y ≡ s → IsTrue b ↔ IsMoreSpecific k x y → IsTrue b ↔ IsMoreSpecific k t s
at_types k b x y t s e f h = transport (λ z. IsTrue b ↔ IsMoreSpecific k z s) e (transport (λ z. IsTrue b ↔ IsMoreSpecific k x z) f h)

module _ (k : Table) (c : Classes) (n0 n1 n2 : List Node) (i j : ℕ) (t s : Ty) (ft : IsFormed c 0 t) (fs : IsFormed c 0 s) (gi : Gives n0 n1 i (instance nil t)) (gj : Gives n1 n2 j (instance nil s)) where
  i_is : read (types n2) i ≡ t
  i_is = gj.grows.same i gi.listed ∙ gi.shows ∙ closed c t ft

  j_is : read (types n2) j ≡ s
  j_is = gj.shows ∙ closed c s fs

  pub specific_says : (r : Result Bool AllocError) → IfOk r (λ b. IsTrue b ↔ IsMoreSpecific k (read (types n2) i) (read (types n2) j)) → IfOk r (λ b. IsTrue b ↔ IsMoreSpecific k t s)
  specific_says r h =
      if_ok r (λ b. IsTrue b ↔ IsMoreSpecific k (read (types n2) i) (read (types n2) j)) (λ b. IsTrue b ↔ IsMoreSpecific k t s)
      (λ b w. at_types k b (read (types n2) i) (read (types n2) j) t s i_is j_is w) h

  pub subtype_says : (n3 : List Node) (low : ℕ) → Gives n2 n3 low (floor (read (types n2) i)) → (r : Result Bool AllocError)
      → IfOk r (λ b. IsTrue b ↔ IsMoreSpecific k (read (types n3) low) (read (types n3) j)) → IfOk r (λ b. IsTrue b ↔ IsSubtype k t s)
  subtype_says n3 low g r h =
      if_ok r (λ b. IsTrue b ↔ IsMoreSpecific k (read (types n3) low) (read (types n3) j)) (λ b. IsTrue b ↔ IsSubtype k t s)
      (λ b w. at_types k b (read (types n3) low) (read (types n3) j) (floor t) s (g.shows ∙ ap floor i_is) (g.grows.same j gj.listed ∙ j_is) w) h

pub assignable_to : (k : Table) (t s : Ty) (b : Bool) → b ≡ true → IsTrue b ↔ IsSubtype k t s → IsTrue true ↔ IsAssignable k t s
assignable_to k t s b e h = (λ z. to t s (h.0 e), λ a. refl)

other_way : (k : Table) (t s : Ty) (b d : Bool) → b ≡ false → IsTrue b ↔ IsSubtype k t s → IsTrue d ↔ IsSubtype k s t → IsAssignable k t s → IsTrue d
other_way k t s b d e h i (to _ _ w) = let z : b ≡ true = h.1 w in absurd (cc)
other_way k t s b d e h i (from _ _ w) = i.1 w

pub assignable_from : (k : Table) (t s : Ty) (b d : Bool) → b ≡ false → IsTrue b ↔ IsSubtype k t s → IsTrue d ↔ IsSubtype k s t → IsTrue d ↔ IsAssignable k t s
assignable_from k t s b d e h i = (λ z. from t s (i.0 z), other_way k t s b d e h i)
