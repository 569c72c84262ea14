-- What a reader gives, step by step: for the code that reads as it does, one branch at a time.
use Rattle.std.proofs.Common.{◌≡◌, ℕ, Bool, true, false, ◌||◌, ◌&&◌, ◌⊎◌, inl, inr, List, Option, Some, None, Ok, Err, refl}
use Rattle.grammar_laws.specs.Readers.{Reader, starts, mapped, both_by, checked, option, continued_by, followed, either}
use Rattle.grammar_laws.proofs.Codes.{and_true, or_left, or_right, neither}

not_both : (a b : Bool) → (a ≡ false) ⊎ (b ≡ false) → (a && b) ≡ false
not_both true b (inl e) = absurd cc
not_both true b (inr e) = e
not_both false b e = refl

module _ {Token A B : Type 0} (f : A → B) (p : Reader Token A) where
  pub mapped_fails : (ts rest : List Token) → p ts ≡ Err rest → mapped f p ts ≡ Err rest
  mapped_fails ts rest e = rw e refl

  pub mapped_gives : (ts rest : List Token) (a : A) → p ts ≡ Ok (a, rest) → mapped f p ts ≡ Ok (f a, rest)
  mapped_gives ts rest a e = rw e refl

module _ {Token A : Type 0} (good : A → Bool) (p : Reader Token A) where
  pub checked_fails : (ts rest : List Token) → p ts ≡ Err rest → checked good p ts ≡ Err rest
  checked_fails ts rest e = rw e refl

  pub checked_refuses : (ts rest : List Token) (a : A) → p ts ≡ Ok (a, rest) → good a ≡ false → checked good p ts ≡ Err rest
  checked_refuses ts rest a e bad = rw (e, bad) refl

  pub checked_gives : (ts rest : List Token) (a : A) → p ts ≡ Ok (a, rest) → good a ≡ true → checked good p ts ≡ Ok (a, rest)
  checked_gives ts rest a e ok = rw (e, ok) refl

module _ {Token A B : Type 0} (p : Reader Token A) (q : A → Reader Token B) where
  pub both_fails : (ts rest : List Token) → p ts ≡ Err rest → both_by p q ts ≡ Err rest
  both_fails ts rest e = rw e refl

  pub both_second_fails : (ts mid rest : List Token) (a : A) → p ts ≡ Ok (a, mid) → q a mid ≡ Err rest → both_by p q ts ≡ Err rest
  both_second_fails ts mid rest a e f = rw (e, f) refl

  pub both_gives : (ts mid rest : List Token) (a : A) (b : B) → p ts ≡ Ok (a, mid) → q a mid ≡ Ok (b, rest) → both_by p q ts ≡ Ok ((a, b), rest)
  both_gives ts mid rest a b e f = rw (e, f) refl

module _ {Token : Type 0} (class_of : Token → ℕ) {B : Type 0} (first : List ℕ) (q : Reader Token B) where
  pub option_absent : (ts : List Token) → starts class_of first ts ≡ false → option class_of first q ts ≡ Ok (None, ts)
  option_absent ts off = rw off refl

  pub option_fails : (ts rest : List Token) → starts class_of first ts ≡ true → q ts ≡ Err rest → option class_of first q ts ≡ Err rest
  option_fails ts rest on e = rw (on, e) refl

  pub option_gives : (ts rest : List Token) (b : B) → starts class_of first ts ≡ true → q ts ≡ Ok (b, rest) → option class_of first q ts ≡ Ok (Some b, rest)
  option_gives ts rest b on e = rw (on, e) refl

-- a first, and a second where it must or may follow
module _ {Token : Type 0} (class_of : Token → ℕ) {A B : Type 0} (needs may : A → Bool) (first : A → List ℕ) (p : Reader Token A) (q : A → Reader Token B) where
  abbrev read : Reader Token (A × Option B)
  read = continued_by class_of needs may first p q

  pub continued_fails : (ts rest : List Token) → p ts ≡ Err rest → continued_by class_of needs may first p q ts ≡ Err rest
  continued_fails ts rest e = rw e refl

  pub continued_stops : (ts mid : List Token) (a : A) → p ts ≡ Ok (a, mid) → needs a ≡ false → (may a ≡ false) ⊎ (starts class_of (first a) mid ≡ false) → continued_by class_of needs may first p q ts ≡ Ok ((a, None), mid)
  continued_stops ts mid a e free off = rw (e, neither (needs a) _ free (not_both (may a) (starts class_of (first a) mid) off)) refl

  -- the second is read
  abbrev pub Goes : A → List Token → Type 0
  Goes a mid = (needs a ≡ true) ⊎ ((may a ≡ true) × (starts class_of (first a) mid ≡ true))

  goes : (a : A) (mid : List Token) → Goes a mid → (needs a || (may a && starts class_of (first a) mid)) ≡ true
  goes a mid (inl n) = or_left (needs a) _ n
  goes a mid (inr w) = or_right (needs a) _ (and_true (may a) _ w.0 w.1)

  pub continued_second_fails : (ts mid rest : List Token) (a : A) → p ts ≡ Ok (a, mid) → Goes a mid → q a mid ≡ Err rest → continued_by class_of needs may first p q ts ≡ Err rest
  continued_second_fails ts mid rest a e on f = rw (e, goes a mid on, f) refl

  pub continued_gives : (ts mid rest : List Token) (a : A) (b : B) → p ts ≡ Ok (a, mid) → Goes a mid → q a mid ≡ Ok (b, rest) → continued_by class_of needs may first p q ts ≡ Ok ((a, Some b), rest)
  continued_gives ts mid rest a b e on f = rw (e, goes a mid on, f) refl

-- a first, and a second where it may follow
module _ {Token : Type 0} (class_of : Token → ℕ) {A B : Type 0} (may : A → Bool) (first : List ℕ) (p : Reader Token A) (q : Reader Token B) where
  pub followed_fails : (ts rest : List Token) → p ts ≡ Err rest → followed class_of may first p q ts ≡ Err rest
  followed_fails ts rest e = rw e refl

  pub followed_stops : (ts mid : List Token) (a : A) → p ts ≡ Ok (a, mid) → (may a ≡ false) ⊎ (starts class_of first mid ≡ false) → followed class_of may first p q ts ≡ Ok ((a, None), mid)
  followed_stops ts mid a e off = rw (e, not_both (may a) (starts class_of first mid) off) refl

  pub followed_second_fails : (ts mid rest : List Token) (a : A) → p ts ≡ Ok (a, mid) → may a ≡ true → starts class_of first mid ≡ true → q mid ≡ Err rest → followed class_of may first p q ts ≡ Err rest
  followed_second_fails ts mid rest a e m on f = rw (e, and_true (may a) _ m on, f) refl

  pub followed_gives : (ts mid rest : List Token) (a : A) (b : B) → p ts ≡ Ok (a, mid) → may a ≡ true → starts class_of first mid ≡ true → q mid ≡ Ok (b, rest) → followed class_of may first p q ts ≡ Ok ((a, Some b), rest)
  followed_gives ts mid rest a b e m on f = rw (e, and_true (may a) _ m on, f) refl

module _ {Token A : Type 0} (test : List Token → Bool) (p q : Reader Token A) where
  pub either_first : (ts : List Token) → test ts ≡ true → either test p q ts ≡ p ts
  either_first ts on = rw on refl

  pub either_second : (ts : List Token) → test ts ≡ false → either test p q ts ≡ q ts
  either_second ts off = rw off refl
