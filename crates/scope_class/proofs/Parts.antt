-- What stands before the first item that passes a test.
use Rattle.std.proofs.Common.{◌≡◌, ◌∙◌, ℕ, inl, inr, Bool, cond, true≢false, List, length, take, Some, None, is_some, sym, ap}
use Rattle.std.specs.Prelude.{nat_lt}
use Rattle.std.specs.List.{before_first, position, position_or_len}
use Rattle.std.proofs.lemmas.Bool.{cases_lt}
use Rattle.std.proofs.lemmas.Bool.Decides.{Decides-ltb}
use Rattle.std.proofs.lemmas.List.{take_all}
use Rattle.std.proofs.lemmas.Option.{cond_some}

-- where none passes, that is all
pub before-none : {X : Type 0} (test : X → Bool) (xs : List X) → None ≡ position test xs → xs ≡ before_first test xs
before-none test xs none = sym (take_all (position_or_len test xs) xs (elim (cases_lt (position_or_len test xs) (length xs)) [
  | inl less ↦ absurd (true≢false (sym (ap is_some (none ∙ ap (λ b. cond b (Some (position_or_len test xs)) None) ((Decides-ltb (position_or_len test xs) (length xs)).1 less)))))
  | inr past ↦ past
]))

-- and up to the first that does
pub before-some : {X : Type 0} (test : X → Bool) (xs : List X) (at : ℕ) → Some at ≡ position test xs → take at xs ≡ before_first test xs
before-some test xs at some = ap (λ n. take n xs) (sym (cond_some (nat_lt (position_or_len test xs) (length xs)) (position_or_len test xs) at (sym some)).1)
