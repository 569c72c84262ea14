-- How deep trees are: readers by the number of nodes that are left.
use Rattle.std.specs.Prelude.{ℕ, zero, suc, nat_lt, Bool}

-- this many nodes stand above one another, or fewer than that
abbrev pub is_below : {A : Type 0} → (A → ℕ) → ℕ → A → Bool
is_below height n a = nat_lt (height a) n

-- what is made with at most so many nodes above one another: each step has one more
abbrev pub stage {ℓ} : {S : Type ℓ} → S → (ℕ → S → S) → ℕ → S
stage bottom step zero = bottom
stage bottom step (suc n) = step n (stage bottom step n)
