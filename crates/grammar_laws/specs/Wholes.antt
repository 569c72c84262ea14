-- What a reader says of a whole list: its tree, or the first token with which the list is no front.
use Rattle.std.specs.Prelude.{◌≡◌, ℕ, ◌+◌, ◌-◌, ◌<◌, ◌≤◌, List, [], ◌∷◌, length, take, Result, Ok, Err}
use Rattle.grammar_laws.specs.Readers.{Outcome, Reader}
use Rattle.grammar_laws.specs.Fronts.{Front}

-- the list has the tokens of this well-formed tree
abbrev pub IsWhole : {Token A : Type 0} → (A → List Token) → (A → Type 0) → List Token → A → Type 0
IsWhole spelling Fits ts a = Fits a × (ts ≡ spelling a)

-- the list is a front up to here, and with the next token, if there is one, it is none
pub record FirstBad {Token : Type 0} (front : Front Token) (ts : List Token) (at : ℕ) : Type 0 where
  pub within : at ≤ length ts
  pub fronts : (i : ℕ) → i ≤ at → front (take i ts)
  pub bad : at < length ts → front (take (at + 1) ts) → ⊥

abbrev pub answer_of : {Token A : Type 0} → ℕ → Outcome Token A → Result A ℕ
answer_of count (Ok (a, [])) = Ok a
answer_of count (Ok (a, (t ∷ rest))) = Err (count - length (t ∷ rest))
answer_of count (Err rest) = Err (count - length rest)

-- the tree that the whole list spells, or the place where it stops to be a front
abbrev pub answer : {Token A : Type 0} → Reader Token A → List Token → Result A ℕ
answer read ts = answer_of (length ts) (read ts)

-- the only tree of the list, or no tree and the first bad place
abbrev pub IsAnswer : {Token A : Type 0} → (A → List Token) → (A → Type 0) → Front Token → List Token → Result A ℕ → Type 0
IsAnswer {A = A} spelling Fits front ts (Ok a) = IsWhole spelling Fits ts a × ((b : A) → IsWhole spelling Fits ts b → b ≡ a)
IsAnswer {A = A} spelling Fits front ts (Err at) = FirstBad front ts at × ((b : A) → IsWhole spelling Fits ts b → ⊥)
