-- Operators of two tokens whose first token is an operator too: the first token alone is half an operator.
-- A tree is read together with the half behind it; a level that takes the half goes on from there,
-- and elsewhere the half is refused where it ends.
use Rattle.std.specs.Prelude.{ℕ, Bool, true, false, not, List, Option, Some, None, ◌⊎◌}
use Rattle.std.proofs.Common.{inl, inr}
use Rattle.grammar_laws.specs.Readers.{Reader, mapped, checked, continued_by}

-- a tree, and the half operator that was read behind it or none
abbrev pub Pending : Type 0 → Type 0 → Type 0
Pending A H = A × Option H

abbrev pub has_half : {A H : Type 0} → Pending A H → Bool
has_half (a, None) = false
has_half (a, Some h) = true

abbrev pub no_half : {A H : Type 0} → Pending A H → Bool
no_half x = not (has_half x)

abbrev pub whole_part : {A H : Type 0} → Pending A H → A
whole_part x = x.0

abbrev pub with_none : {A H : Type 0} → A → Pending A H
with_none a = (a, None)

-- where the half has no use: it is refused where it ends
abbrev pub strict : {Token A H : Type 0} → Reader Token (Pending A H) → Reader Token A
strict p = mapped whole_part (checked no_half p)

-- by the half behind the first tree
abbrev pub by_half {ℓ} : {A H : Type 0} {X : Type ℓ} → X → X → Pending A H → X
by_half with without (a, None) = without
by_half with without (a, Some h) = with

-- what stands behind the half, or what begins with another operator
abbrev pub behind_half : {Token A H B C : Type 0} → Reader Token B → Reader Token C → Pending A H → Reader Token (B ⊎ C)
behind_half s r = by_half (mapped (λ b. inl b) s) (mapped (λ c. inr c) r)

-- the level that takes the half: behind one the operand is read at once; behind none another operator may stand
abbrev pub taken : {Token : Type 0} → (Token → ℕ) → {A H B C : Type 0} → (Pending A H → Bool) → (Pending A H → Bool) → List ℕ → List ℕ → Reader Token (Pending A H) → Reader Token B → Reader Token C → Reader Token (Pending A H × Option (B ⊎ C))
taken class_of needs may first_s first_r p s r = continued_by class_of needs may (by_half first_s first_r) p (behind_half s r)

abbrev pub either_spelling : {Token B C : Type 0} → (B → List Token) → (C → List Token) → B ⊎ C → List Token
either_spelling f g (inl b) = f b
either_spelling f g (inr c) = g c

abbrev pub LeftFit : {B C : Type 0} → (B → Type 0) → B ⊎ C → Type 0
LeftFit F (inl b) = F b
LeftFit F (inr c) = ⊥

abbrev pub RightFit : {B C : Type 0} → (C → Type 0) → B ⊎ C → Type 0
RightFit F (inl b) = ⊥
RightFit F (inr c) = F c

-- an operand behind a half, and an operator with its operand behind none
abbrev pub TakenFit : {A H B C : Type 0} → (B → Type 0) → (C → Type 0) → Pending A H → B ⊎ C → Type 0
TakenFit F G = by_half (LeftFit F) (RightFit G)

abbrev pub after_either : {B C : Type 0} → (B → List ℕ) → (C → List ℕ) → B ⊎ C → List ℕ
after_either f g (inl b) = f b
after_either f g (inr c) = g c
