-- Which classes of a table have a method `call`.
use Rattle.std.proofs.Common.{◌≡◌, ℕ, zero, suc, ◌<◌, ◌⊎◌, ◌&&◌, ◌||◌, ◌==◌, inl, inr, List, [], ◌∷◌, Bool, true, false, take, Option, Some, None, slice_get, arith, refl, ap, ◌∙◌}
use Rattle.std.proofs.lemmas.Bool.{eqb-true}
use Rattle.dart_ir.specs.Ty.{Ty, dynamic, bottom, void, class, parameter, function}
use Rattle.dart_ir.specs.Classes.{class_at, HasCall, HasCallAbove, IsEarlierClass}
use Rattle.dart_ir.specs.declared.class.ClassInfo.{ClassInfo}
use Rattle.dart_ir.specs.declared.class.Classes.{Classes}
use Rattle.class_table.specs.Rows.{callable_in, is_callable, any_callable}
use Rattle.class_table.proofs.Lists.{Each, slice_get_take, slice_get_in_take}

pub or_cases : (a b c : Bool) → (a || (b || c)) ≡ true → (a ≡ true) ⊎ ((b ≡ true) ⊎ (c ≡ true))
or_cases true b c h = inl refl
or_cases false true c h = inr (inl refl)
or_cases false false c h = inr (inr h)

pub or_true : (a b : Bool) → b ≡ true → (a || b) ≡ true
or_true true b h = refl
or_true false b h = h

pub and_both : (a b : Bool) → (a && b) ≡ true → (a ≡ true) × (b ≡ true)
and_both true b h = (refl, h)
and_both false b h = absurd (cc)

pub eqb_same : (m n : ℕ) → (m == n) ≡ true → m ≡ n
eqb_same m n h = eqb-true m n h

callable_type : (is : List ClassInfo) (t : Ty) → is_callable is t ≡ true → (e : ℕ) × (callable_in (slice_get is e) ≡ true)
callable_type is (class e ts) q = (e, q)
callable_type is dynamic q = absurd (cc)
callable_type is bottom q = absurd (cc)
callable_type is void q = absurd (cc)
callable_type is (parameter i) q = absurd (cc)
callable_type is (function r a o n) q = absurd (cc)

-- one of the types is callable
pub any_true : (is : List ClassInfo) (ts : List Ty) → any_callable is ts ≡ true → (e : ℕ) × (callable_in (slice_get is e) ≡ true)
any_true is [] q = absurd (cc)
any_true is (t ∷ ts) q = first (λ h. any_true is ts h) (is_callable is t) refl q
  where
    first : (any_callable is ts ≡ true → (e : ℕ) × (callable_in (slice_get is e) ≡ true)) → (b : Bool) → is_callable is t ≡ b → (b || any_callable is ts) ≡ true → (e : ℕ) × (callable_in (slice_get is e) ≡ true)
    first rest true r h = callable_type is t r
    first rest false r h = rest h

callable_some : (o : Option ClassInfo) → callable_in o ≡ true → (info : ClassInfo) × (o ≡ Some info) × (info.callable ≡ true)
callable_some None q = absurd (cc)
callable_some (Some info) q = (info, refl, q)

called_before : (is : List ClassInfo) (c e : ℕ) → callable_in (slice_get (take c is) e) ≡ true → (e < c) × (callable_in (slice_get is e) ≡ true)
called_before is c e q =
    let x = callable_some (slice_get (take c is) e) q in
    let r = slice_get_take is c e x.0 x.1 in
    (r.0, ap callable_in r.1 ∙ x.2)

module _ (is : List ClassInfo) (f : ℕ) (rule : (c : ℕ) (info : ClassInfo) → slice_get is c ≡ Some info → info.callable ≡ true → (f < c) ⊎ ((e : ℕ) × (callable_in (slice_get (take c is) e) ≡ true))) where
  -- class f stands before each callable class
  pub called_after : (n c : ℕ) → c < n → callable_in (slice_get is c) ≡ true → f < c
  called_after zero c l q = absurd (omega (arith, l))
  called_after (suc n) c l q =
      let x = callable_some (slice_get is c) q in
      elim (rule c x.0 x.1 x.2) [ inl m ↦ m | inr r ↦ let b = called_before is c r.0 r.1 in let m = called_after n r.0 (let k = b.0 in omega (arith, k, l)) b.1 in let k = b.0 in omega (arith, m, k) ]

has_callable : (o : Option ClassInfo) → HasCall o → callable_in o ≡ true
has_callable None h = absurd h
has_callable (Some info) h = h

-- a class above that is callable is so among the classes before
above_callable : (k : Classes) (c : ℕ) (t : Ty) → IsEarlierClass c t → HasCallAbove k t → is_callable (take c k.classes.items) t ≡ true
above_callable k c (class e ts) l h = ap callable_in (slice_get_in_take k.classes.items c e l.0) ∙ has_callable (class_at k e) h
above_callable k c dynamic l h = absurd h
above_callable k c bottom l h = absurd h
above_callable k c void l h = absurd h
above_callable k c (parameter i) l h = absurd h
above_callable k c (function r a o n) l h = absurd h

pub each_called : (k : Classes) (c : ℕ) (b : Bool) (ts : List Ty) → Each (IsEarlierClass c) ts → (any_callable (take c k.classes.items) ts ≡ true → b ≡ true) → Each (λ t. HasCallAbove k t → b ≡ true) ts
each_called k c b [] e f = tt
each_called k c b (t ∷ ts) e f =
    (λ h. f (ap (λ z. z || any_callable (take c k.classes.items) ts) (above_callable k c t e.0 h)), each_called k c b ts e.1 (λ q. f (or_true (is_callable (take c k.classes.items) t) _ q)))
