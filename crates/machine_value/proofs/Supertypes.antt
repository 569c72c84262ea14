-- Up the chain of a class, and down its mixins.
use Rattle.std.proofs.Common.{◌≡◌, ◌≢◌, ℕ, zero, suc, ◌-◌, List, [], ◌∷◌, length, slice_get, Option, Some, None, cond, nat_eq, refl, ap, ◌∙◌, arith}
use Rattle.std.proofs.lemmas.Bool.{eq-eqb}
use Rattle.std.proofs.lemmas.Option.{none-some, same_Some}
use Rattle.dart_ir.specs.Ty.{Ty, Tys, dynamic, bottom, void, class, parameter, function, of_list}
use Rattle.core_program.specs.Program.{Program}
use Rattle.evaluation.specs.Classes.{class_number, class_at, supertype, put_in, up_to, interfaces, first_type, mixed_in, type_list, arguments_in, arguments_at}
use Rattle.dart_type.specs.Instance.{instance}

one_less : (n : ℕ) → n ≡ suc n - 1
one_less n = omega arith

pub up_zero : (n : ℕ) (p : Program ℕ) (c : ℕ) (t : Option Ty) → n ≡ 0 → up_to n p c t ≡ None
up_zero zero p c t e = refl
up_zero (suc n) p c t e = absurd (omega arith)

pub up_none : (n : ℕ) (p : Program ℕ) (c : ℕ) (t : Option Ty) → class_number t ≡ None → up_to n p c t ≡ None
up_none zero p c t e = refl
up_none (suc n) p c None e = refl
up_none (suc n) p c (Some dynamic) e = refl
up_none (suc n) p c (Some bottom) e = refl
up_none (suc n) p c (Some void) e = refl
up_none (suc n) p c (Some (class k ts)) e = cc
up_none (suc n) p c (Some (parameter i)) e = refl
up_none (suc n) p c (Some (function r qs os ns)) e = refl

pub up_step : (n : ℕ) (p : Program ℕ) (c k : ℕ) (ts : Tys) → n ≢ 0 → up_to n p c (Some (class k ts))
    ≡ cond (nat_eq k c) (Some (class k ts)) (up_to (n - 1) p c (put_in ts (supertype (class_at p k))))
up_step zero p c k ts h = absurd (h refl)
up_step (suc n) p c k ts h =
    ap (λ m. cond (nat_eq k c) (Some (class k ts)) (up_to m p c (put_in ts (supertype (class_at p k))))) (one_less n)

pub mixed_zero : (n : ℕ) (p : Program ℕ) (c : ℕ) (t : Option Ty) → n ≡ 0 → mixed_in n p c t ≡ None
mixed_zero zero p c t e = refl
mixed_zero (suc n) p c t e = absurd (omega arith)

pub mixed_none : (n : ℕ) (p : Program ℕ) (c : ℕ) (t : Option Ty) → class_number t ≡ None → mixed_in n p c t ≡ None
mixed_none zero p c t e = refl
mixed_none (suc n) p c None e = refl
mixed_none (suc n) p c (Some dynamic) e = refl
mixed_none (suc n) p c (Some bottom) e = refl
mixed_none (suc n) p c (Some void) e = refl
mixed_none (suc n) p c (Some (class k ts)) e = cc
mixed_none (suc n) p c (Some (parameter i)) e = refl
mixed_none (suc n) p c (Some (function r qs os ns)) e = refl

pub mixed_step : (n : ℕ) (p : Program ℕ) (c k : ℕ) (ts : Tys) → n ≢ 0 → mixed_in n p c (Some (class k ts))
    ≡ cond (nat_eq k c) (Some (class k ts)) (mixed_in (n - 1) p c (put_in ts (first_type (interfaces (class_at p k)))))
mixed_step zero p c k ts h = absurd (h refl)
mixed_step (suc n) p c k ts h =
    ap (λ m. cond (nat_eq k c) (Some (class k ts)) (mixed_in m p c (put_in ts (first_type (interfaces (class_at p k)))))) (one_less n)

pub listed : (ts : List Ty) → type_list (of_list ts) ≡ ts
listed [] = refl
listed (t ∷ ts) = ap (λ l. t ∷ l) (listed ts)

pub arguments_some : (k : ℕ) (ts : List Ty) → arguments_in (Some (class k (of_list ts))) ≡ ts
arguments_some k ts = listed ts

pub arguments_none : (t : Option Ty) → class_number t ≡ None → arguments_in t ≡ []
arguments_none None e = refl
arguments_none (Some dynamic) e = refl
arguments_none (Some bottom) e = refl
arguments_none (Some void) e = refl
arguments_none (Some (class k ts)) e = cc
arguments_none (Some (parameter i)) e = refl
arguments_none (Some (function r qs os ns)) e = refl

-- the type arguments of an object at its own class
pub own_arguments : (p : Program ℕ) (k : ℕ) (ts : List Ty) → length p.classes ≢ 0 → arguments_at p k k (Some (class k (of_list ts))) ≡ ts
own_arguments p k ts h =
    ap (λ t. arguments_in (mixed_in (length p.classes) p k t)) (up_step (length p.classes) p k k (of_list ts) h ∙ ap (λ b. cond b (Some (class k (of_list ts))) (up_to (length p.classes - 1) p k (put_in (of_list ts) (supertype (class_at p k))))) (eq-eqb k k refl))
    ∙ ap arguments_in (mixed_step (length p.classes) p k k (of_list ts) h ∙ ap (λ b. cond b (Some (class k (of_list ts))) (mixed_in (length p.classes - 1) p k (put_in (of_list ts) (first_type (interfaces (class_at p k)))))) (eq-eqb k k refl))
    ∙ arguments_some k ts

-- the argument for a parameter, where there is one
pub argument_there : (ts : List Ty) (i : ℕ) (t : Ty) → slice_get ts i ≡ Some t → instance (of_list ts) (parameter i) ≡ t
argument_there [] i t e = absurd (none-some t e)
argument_there (t' ∷ ts) zero t e = same_Some t' t e
argument_there (t' ∷ ts) (suc i) t e = argument_there ts i t e
