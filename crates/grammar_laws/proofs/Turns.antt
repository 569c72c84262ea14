-- The turns of a list's reader beside a loop that counts up: `at` turns of `n` are made, and `found` is what they read.
use Rattle.std.proofs.Common.{◌≡◌, ℕ, suc, ◌+◌, ◌-◌, ◌<◌, ◌≤◌, Bool, true, false, List, [], ◌∷◌, ◌++◌, Ok, Err, refl, ap, ◌∙◌, append_assoc, arith}
use Rattle.std.proofs.lemmas.List.{append-nil}
use Rattle.grammar_laws.specs.Readers.{Outcome, Reader, starts, cons_to, prepend, many_turns, many_from_turns}
use Rattle.grammar_laws.proofs.Cuts.{gave}

one_less : (n at : ℕ) → at < n → n - at ≡ suc (n - (at + 1))
one_less n at below = omega arith

none_left : (n at : ℕ) → n ≤ at → n - at ≡ 0
none_left n at over = omega arith

pub prepend_none : {Token A : Type 0} (o : Outcome Token (List A)) → o ≡ prepend [] o
prepend_none (Ok x) = refl
prepend_none (Err rest) = refl

pub prepend_one : {Token A : Type 0} (found : List A) (a : A) (o : Outcome Token (List A)) → prepend found (cons_to a o) ≡ prepend (found ++ a ∷ []) o
prepend_one found a (Ok x) = rw append_assoc refl
prepend_one found a (Err rest) = refl

pub prepend_end : {Token A : Type 0} (found : List A) (rest : List Token) → prepend found (gave [] rest) ≡ gave found rest
prepend_end found rest = ap (λ (l : List _). gave l rest) (append-nil found)

-- ---- items that change a state

module _ {Token : Type 0} (class_of : Token → ℕ) {State A : Type 0} (first : State → List ℕ) (p : State → Reader Token A) (may : State → A → Bool) (step : State → A → State) where
  abbrev turns : ℕ → State → Reader Token (List A)
  turns = many_from_turns class_of first p may step

  -- no turn is left
  pub from_over : (n at : ℕ) (s : State) (found : List A) (ts : List Token) → n ≤ at → prepend found (many_from_turns class_of first p may step (n - at) s ts) ≡ Ok (found, ts)
  from_over n at s found ts over = ap (λ (k : ℕ). prepend found (turns k s ts)) (none_left n at over) ∙ prepend_end found ts

  -- no item begins
  pub from_stops : (n at : ℕ) (s : State) (found : List A) (ts : List Token) → at < n → starts class_of (first s) ts ≡ false → prepend found (many_from_turns class_of first p may step (n - at) s ts) ≡ Ok (found, ts)
  from_stops n at s found ts below off = rw (one_less n at below, off) (prepend_end found ts)

  pub from_fails : (n at : ℕ) (s : State) (found : List A) (ts rest : List Token) → at < n → starts class_of (first s) ts ≡ true → p s ts ≡ Err rest → prepend found (many_from_turns class_of first p may step (n - at) s ts) ≡ Err rest
  from_fails n at s found ts rest below on e = rw (one_less n at below, on, e) refl

  -- an item that allows another
  pub from_more : (n at : ℕ) (s : State) (found : List A) (ts mid : List Token) (a : A) → at < n → starts class_of (first s) ts ≡ true → p s ts ≡ Ok (a, mid) → may s a ≡ true →
      prepend found (many_from_turns class_of first p may step (n - at) s ts) ≡ prepend (found ++ a ∷ []) (many_from_turns class_of first p may step (n - (at + 1)) (step s a) mid)
  from_more n at s found ts mid a below on e m = rw (one_less n at below, on, e, m) (prepend_one found a (turns (n - (at + 1)) (step s a) mid))

  -- an item that allows none behind it
  pub from_last : (n at : ℕ) (s : State) (found : List A) (ts mid : List Token) (a : A) → at < n → starts class_of (first s) ts ≡ true → p s ts ≡ Ok (a, mid) → may s a ≡ false →
      prepend found (many_from_turns class_of first p may step (n - at) s ts) ≡ Ok (found ++ a ∷ [], mid)
  from_last n at s found ts mid a below on e m = rw (one_less n at below, on, e, m) refl

-- ---- items that change none

module _ {Token : Type 0} (class_of : Token → ℕ) {A : Type 0} (may : A → Bool) (first : List ℕ) (p : Reader Token A) where
  abbrev plain_turns : ℕ → Reader Token (List A)
  plain_turns = many_turns class_of may first p

  pub many_over : (n at : ℕ) (found : List A) (ts : List Token) → n ≤ at → prepend found (many_turns class_of may first p (n - at) ts) ≡ Ok (found, ts)
  many_over n at found ts over = ap (λ (k : ℕ). prepend found (plain_turns k ts)) (none_left n at over) ∙ prepend_end found ts

  pub many_stops : (n at : ℕ) (found : List A) (ts : List Token) → at < n → starts class_of first ts ≡ false → prepend found (many_turns class_of may first p (n - at) ts) ≡ Ok (found, ts)
  many_stops n at found ts below off = rw (one_less n at below, off) (prepend_end found ts)

  pub many_fails : (n at : ℕ) (found : List A) (ts rest : List Token) → at < n → starts class_of first ts ≡ true → p ts ≡ Err rest → prepend found (many_turns class_of may first p (n - at) ts) ≡ Err rest
  many_fails n at found ts rest below on e = rw (one_less n at below, on, e) refl

  pub many_more : (n at : ℕ) (found : List A) (ts mid : List Token) (a : A) → at < n → starts class_of first ts ≡ true → p ts ≡ Ok (a, mid) → may a ≡ true →
      prepend found (many_turns class_of may first p (n - at) ts) ≡ prepend (found ++ a ∷ []) (many_turns class_of may first p (n - (at + 1)) mid)
  many_more n at found ts mid a below on e m = rw (one_less n at below, on, e, m) (prepend_one found a (plain_turns (n - (at + 1)) mid))

  pub many_last : (n at : ℕ) (found : List A) (ts mid : List Token) (a : A) → at < n → starts class_of first ts ≡ true → p ts ≡ Ok (a, mid) → may a ≡ false →
      prepend found (many_turns class_of may first p (n - at) ts) ≡ Ok (found ++ a ∷ [], mid)
  many_last n at found ts mid a below on e m = rw (one_less n at below, on, e, m) refl
