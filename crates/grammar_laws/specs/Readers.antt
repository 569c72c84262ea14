-- Readers: deterministic parsers on lists of tokens, and how larger ones are made of smaller ones.
-- A token's class is a number, its code; which token comes next is asked by lists of codes.
use Rattle.std.specs.Prelude.{ℕ, zero, suc, nat_lt, Bool, true, false, if◌then◌else◌, ◌||◌, ◌&&◌, List, [], ◌∷◌, ◌++◌, length, Option, Some, None, Result, Ok, Err, ◌⊎◌}
use Rattle.std.proofs.Common.{inl, inr}
use Rattle.grammar_laws.specs.Codes.{has}

-- what was read and the tokens after it, or the tokens from the first one on with which nothing begins
abbrev pub Outcome : Type 0 → Type 0 → Type 0
Outcome Token A = Result (A × List Token) (List Token)

abbrev pub Reader : Type 0 → Type 0 → Type 0
Reader Token A = List Token → Outcome Token A

abbrev pub and_then : {Token A B : Type 0} → Outcome Token A → (A → Reader Token B) → Outcome Token B
and_then (Ok x) f = f x.0 x.1
and_then (Err rest) f = Err rest

-- the next token's code is one of these
abbrev pub starts : {Token : Type 0} → (Token → ℕ) → List ℕ → List Token → Bool
starts class_of codes [] = false
starts class_of codes (t ∷ ts) = has codes (class_of t)

-- the next token's code is one of the first, and the code of the token behind it one of the second
abbrev pub starts_two : {Token : Type 0} → (Token → ℕ) → List ℕ → List ℕ → List Token → Bool
starts_two class_of codes seconds [] = false
starts_two class_of codes seconds (t ∷ []) = false
starts_two class_of codes seconds (t ∷ u ∷ ts) = has codes (class_of t) && has seconds (class_of u)

-- ---- one after the other

-- reads nothing, whatever comes
abbrev pub nothing : {Token A : Type 0} → Reader Token A
nothing ts = Err ts

-- the same, with what was read put into another shape
abbrev pub mapped : {Token A B : Type 0} → (A → B) → Reader Token A → Reader Token B
mapped f p ts = and_then (p ts) (λ a rest. Ok (f a, rest))

-- two in a row, where the second may depend on what the first read
abbrev pub both_by : {Token A B : Type 0} → Reader Token A → (A → Reader Token B) → Reader Token (A × B)
both_by p q ts = and_then (p ts) (λ a mid. and_then (q a mid) (λ b rest. Ok ((a, b), rest)))

-- two in a row
abbrev pub both : {Token A B : Type 0} → Reader Token A → Reader Token B → Reader Token (A × B)
both p q = both_by p (λ _. q)

-- this if the condition holds, and else nothing at all
abbrev pub when : {Token B : Type 0} → Bool → Reader Token B → Reader Token (Option B)
when c q ts = if c then and_then (q ts) (λ b rest. Ok (Some b, rest)) else Ok (None, ts)

-- what was read, unless it is refused where it ends
abbrev pub checked : {Token A : Type 0} → (A → Bool) → Reader Token A → Reader Token A
checked good p ts = and_then (p ts) (λ a rest. if good a then Ok (a, rest) else Err rest)

abbrev pub always : {A : Type 0} → A → Bool
always a = true

abbrev pub never : {A : Type 0} → A → Bool
never a = false

module _ {Token : Type 0} (class_of : Token → ℕ) where
  -- one token, whose code is one of these
  abbrev pub one : List ℕ → Reader Token Token
  one codes [] = Err []
  one codes (t ∷ ts) = if has codes (class_of t) then Ok (t, ts) else Err (t ∷ ts)

  -- this where one of its first tokens comes, and else nothing at all
  abbrev pub option : {B : Type 0} → List ℕ → Reader Token B → Reader Token (Option B)
  option first q ts = when (starts class_of first ts) q ts

  -- the first, and then the second: where the first needs it, and where it may follow and one of its first tokens comes
  abbrev pub continued_by : {A B : Type 0} → (A → Bool) → (A → Bool) → (A → List ℕ) → Reader Token A → (A → Reader Token B) → Reader Token (A × Option B)
  continued_by needs may first p q = both_by p (λ a ts. when (needs a || (may a && starts class_of (first a) ts)) (q a) ts)

  -- the same where the second does not depend on the first
  abbrev pub continued : {A B : Type 0} → (A → Bool) → (A → Bool) → List ℕ → Reader Token A → Reader Token B → Reader Token (A × Option B)
  continued needs may first p q = continued_by needs may (λ _. first) p (λ _. q)

  -- the first, and then the second where it may follow and one of its first tokens comes
  abbrev pub followed : {A B : Type 0} → (A → Bool) → List ℕ → Reader Token A → Reader Token B → Reader Token (A × Option B)
  followed may first p q = continued never may first p q

-- ---- lists

abbrev pub cons_to : {Token A : Type 0} → A → Outcome Token (List A) → Outcome Token (List A)
cons_to a o = and_then o (λ more rest. Ok (a ∷ more, rest))

-- what a loop found before goes in front of what is still to come
abbrev pub prepend : {Token A : Type 0} → List A → Outcome Token (List A) → Outcome Token (List A)
prepend found o = and_then o (λ more rest. Ok (found ++ more, rest))

module _ {Token : Type 0} (class_of : Token → ℕ) {A : Type 0} (may : A → Bool) (first : List ℕ) (p : Reader Token A) where
  -- items while one of their first tokens comes and the item before allows another; the number bounds the turns
  abbrev pub many_turns : ℕ → Reader Token (List A)
  many_turns zero ts = Ok ([], ts)
  many_turns (suc n) ts = if starts class_of first ts then and_then (p ts) (λ a mid. cons_to a (if may a then many_turns n mid else Ok ([], mid))) else Ok ([], ts)

  -- any number of items: a list of tokens has no more items than tokens
  abbrev pub many : Reader Token (List A)
  many ts = many_turns (length ts) ts

  -- one item or more
  abbrev pub some : Reader Token (List A)
  some ts = and_then (p ts) (λ a mid. cons_to a (if may a then many mid else Ok ([], mid)))

module _ {Token : Type 0} (class_of : Token → ℕ) {State A : Type 0} (first : State → List ℕ) (p : State → Reader Token A) (may : State → A → Bool) (step : State → A → State) where
  -- items that change a state, on which the next item depends
  abbrev pub many_from_turns : ℕ → State → Reader Token (List A)
  many_from_turns zero s ts = Ok ([], ts)
  many_from_turns (suc n) s ts = if starts class_of (first s) ts then and_then (p s ts) (λ a mid. cons_to a (if may s a then many_from_turns n (step s a) mid else Ok ([], mid))) else Ok ([], ts)

  abbrev pub many_from : State → Reader Token (List A)
  many_from s ts = many_from_turns (length ts) s ts

  abbrev pub some_from : State → Reader Token (List A)
  some_from s ts = and_then (p s ts) (λ a mid. cons_to a (if may s a then many_from (step s a) mid else Ok ([], mid)))

-- one item, and others behind separators
abbrev pub separated : {Token : Type 0} → (Token → ℕ) → {A S : Type 0} → List ℕ → Reader Token A → Reader Token S → Reader Token (A × List (S × A))
separated class_of first_s p s = both p (many class_of always first_s (both s p))

abbrev pub is_left : {B H : Type 0} → B ⊎ H → Bool
is_left (inl b) = true
is_left (inr h) = false

-- the whole items of a list of which the last may be half an item, and that half
abbrev pub split : {B H : Type 0} → List (B ⊎ H) → List B × Option H
split [] = ([], None)
split (inl b ∷ more) = (b ∷ (split more).0, (split more).1)
split (inr h ∷ more) = ([], Some h)

-- items, of which the last may be half an item
abbrev pub ended : {Token : Type 0} → (Token → ℕ) → {B H : Type 0} → List ℕ → Reader Token (B ⊎ H) → Reader Token (List B × Option H)
ended class_of first p = mapped split (many class_of is_left first p)

-- the same with one item or half at least
abbrev pub some_ended : {Token : Type 0} → (Token → ℕ) → {B H : Type 0} → List ℕ → Reader Token (B ⊎ H) → Reader Token (List B × Option H)
some_ended class_of first p = mapped split (some class_of is_left first p)

abbrev pub separator_or : {S A : Type 0} → S × Option A → (S × A) ⊎ S
separator_or (s, None) = inr s
separator_or (s, Some a) = inl (s, a)

-- items that separators begin, and one more separator or none
abbrev pub trailed : {Token : Type 0} → (Token → ℕ) → {A S : Type 0} → List ℕ → List ℕ → Reader Token S → Reader Token A → Reader Token (List (S × A) × Option S)
trailed class_of first_s first_p s p = ended class_of first_s (mapped separator_or (followed class_of always first_p s p))

-- ---- one of two

-- by what comes next
abbrev pub either : {Token A : Type 0} → (List Token → Bool) → Reader Token A → Reader Token A → Reader Token A
either test p q ts = if test ts then p ts else q ts

-- by the next token
abbrev pub by_first : {Token A : Type 0} → (Token → ℕ) → List ℕ → Reader Token A → Reader Token A → Reader Token A
by_first class_of first p q = either (starts class_of first) p q

-- by the next two tokens
abbrev pub by_two : {Token A : Type 0} → (Token → ℕ) → List ℕ → List ℕ → Reader Token A → Reader Token A → Reader Token A
by_two class_of codes seconds p q = either (starts_two class_of codes seconds) p q

-- the first, or else the second, or else the fault that comes later
abbrev pub farther : {Token A : Type 0} → Outcome Token A → Outcome Token A → Outcome Token A
farther (Ok x) r = Ok x
farther (Err d) (Ok y) = Ok y
farther (Err d) (Err e) = if nat_lt (length d) (length e) then Err d else Err e

-- a second try
abbrev pub tried : {Token A : Type 0} → Reader Token A → Reader Token A → Reader Token A
tried p q ts = farther (p ts) (q ts)

-- the first, or else the second where the first came no farther, or else the fault that comes later
abbrev pub deeper : {Token A : Type 0} → Outcome Token A → Outcome Token A → Outcome Token A
deeper (Ok x) r = Ok x
deeper (Err d) (Ok y) = if nat_lt (length d) (length y.1) then Err d else Ok y
deeper (Err d) (Err e) = if nat_lt (length d) (length e) then Err d else Err e

-- a second try where the first may go on behind a whole of the second
abbrev pub sought : {Token A : Type 0} → Reader Token A → Reader Token A → Reader Token A
sought p q ts = deeper (p ts) (q ts)
