-- Lists that a loop reads turn by turn, whatever stands in them. Means of proof: no public contract cites them.
use Rattle.std.specs.Prelude.{◌≡◌, ℕ, ◌≤◌, max, List, [], ◌∷◌, ◌++◌, map, Option, Ok, ◌⊎◌}
use Rattle.std.proofs.Common.{inl}
use Rattle.dart_token.specs.declared.token.Token.{Token}
use Rattle.grammar_laws.specs.Readers.{Reader, Outcome, and_then, mapped, followed, prepend, many_turns, always, is_left, separator_or, split}
use Rattle.token_codes.specs.Codes.{class_of}

-- the lists that a loop makes: something stands first, and each item, which one of these codes begins, makes a list longer
pub record Growing (F Y L : Type 0) : Type 0 where
  pub codes : List ℕ
  pub item : Reader Token Y
  pub give : F → List Y → L
  pub snoc : L → Y → L
  pub high : L → ℕ
  pub tall : Y → ℕ
  pub grows : (first : F) (items : List Y) (y : Y) → give first (items ++ y ∷ []) ≡ snoc (give first items) y
  pub taller : (l : L) (y : Y) → high (snoc l y) ≡ max (high l) (tall y)

-- what is given where these items are read
abbrev pub given : {Y L : Type 0} → (List Y → L) → Outcome Token (List Y) → Outcome Token L
given give o = and_then o (λ items rest. Ok (give items, rest))

-- this list was read, and so many turns are left
pub record SoFar {F Y L : Type 0} (g : Growing F Y L) (depth : ℕ) (whole : Outcome Token L) (list : L) (highest left : ℕ) (rest : List Token) : Type 0 where
  pub first : F
  pub items : List Y
  pub same : list ≡ g.give first items
  pub high : highest ≡ g.high list
  pub low : highest ≤ depth
  pub read : whole ≡ given (g.give first) (prepend items (many_turns class_of always g.codes g.item left rest))

-- ---- lists that may end in a separator

abbrev pub pair_or_half : {S A : Type 0} → List ℕ → Reader Token S → Reader Token A → Reader Token ((S × A) ⊎ S)
pair_or_half begins s p = mapped separator_or (followed class_of always begins s p)

abbrev pub trail : {S A L : Type 0} → (List (S × A) → L) → List ((S × A) ⊎ S) → L × Option S
trail give found = (give (split found).0, (split found).1)

abbrev pub whole_item : {S A : Type 0} → S × A → (S × A) ⊎ S
whole_item x = inl x

-- the same of a list whose last separator may have no item behind it; `item` of the list is not asked for
pub record TrailSoFar {F S A L : Type 0} (g : Growing F (S × A) L) (begins : List ℕ) (s : Reader Token S) (p : Reader Token A) (depth : ℕ) (whole : Outcome Token (L × Option S)) (list : L) (highest left : ℕ) (rest : List Token) : Type 0 where
  pub first : F
  pub items : List (S × A)
  pub same : list ≡ g.give first items
  pub high : highest ≡ g.high list
  pub low : highest ≤ depth
  pub read : whole ≡ given (trail (g.give first)) (prepend (map whole_item items) (many_turns class_of is_left g.codes (pair_or_half begins s p) left rest))
