-- Up the chain of a class.
use Rattle.std.proofs.Common.{◌≡◌, ◌≢◌, ℕ, zero, suc, ◌-◌, List, [], ◌∷◌, map, Option, Some, None, Bool, true, false, cond, refl, ap, ◌∙◌, arith}
use Rattle.std.specs.Prelude.{find, option_map}
use Rattle.std.specs.Option.{option_or}
use Rattle.std.proofs.lemmas.List.Folds.{find-append}
use Rattle.dart_ir.specs.declared.number.MemberId.{MemberId}
use Rattle.core_program.specs.Program.{Program}
use Rattle.evaluation.specs.Classes.{class_at, own_members, members_along, chain_within, superclass}

pub up_zero : (p : Program ℕ) (c : Option ℕ) (q : ℕ → Bool) → find q (members_along p (chain_within 0 p c)) ≡ None
up_zero p c q = refl

pub up_none : (n : ℕ) (p : Program ℕ) (q : ℕ → Bool) → find q (members_along p (chain_within n p None)) ≡ None
up_none zero p q = refl
up_none (suc n) p q = refl

pub up_some : (n : ℕ) (p : Program ℕ) (c : ℕ) (q : ℕ → Bool) → n ≢ 0 → find q (members_along p (chain_within n p (Some c)))
    ≡ option_or (find q (own_members (class_at p c))) (find q (members_along p (chain_within (n - 1) p (superclass p c))))
up_some zero p c q h = absurd (h refl)
up_some (suc n) p c q h =
    find-append q (own_members (class_at p c)) (members_along p (chain_within n p (superclass p c)))
    ∙ ap (λ m. option_or (find q (own_members (class_at p c))) (find q (members_along p (chain_within m p (superclass p c))))) (let e : n ≡ suc n - 1 = omega arith in e)

number_here : (b : Bool) (m : MemberId) (x : Option ℕ) (y : Option MemberId) → x ≡ option_map (λ (m : MemberId). m.0) y → cond b (Some m.0) x ≡ option_map (λ (m : MemberId). m.0) (cond b (Some m) y)
number_here true m x y e = refl
number_here false m x y e = e

pub find_numbers : (q : ℕ → Bool) (ms : List MemberId) → find q (map (λ (m : MemberId). m.0) ms) ≡ option_map (λ (m : MemberId). m.0) (find (λ (m : MemberId). q m.0) ms)
find_numbers q [] = refl
find_numbers q (m ∷ ms) = number_here (q m.0) m _ _ (find_numbers q ms)
