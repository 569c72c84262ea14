-- What a relation owes for each word of the grammar's phrases: with it a walk over the productions is written once.
use Rattle.std.proofs.Common.{◌≡◌, ℕ, zero, suc, max, ◌≤◌, Bool, List, [], Option, flat_map}
use Rattle.grammar_laws.specs.Fronts.{Front, Either, EitherFit, Alone, both_spelling, option_spelling}
use Rattle.dart_base.specs.declared.place.Place.{Place}
use Rattle.dart_token.specs.declared.token.Token.{Token}
use Rattle.dart_tree.specs.Depth.{height_if, highest}
use Rattle.dart_syntax.specs.Phrases.{Phrase, exactly, no_room, seq, seq_if, seq_by, opt, many, some_if, either, rather, perhaps, made, such, such_tokens}
use Rattle.dart_syntax.specs.Leaves.{sign, sign_tokens}
use Rattle.syntax_measures.specs.Relations.{Relation}
use Rattle.syntax_measures.proofs.BracketKinds.{Bracket, left_sign, right_sign, Single}

-- no node
abbrev pub flat : {A : Type 0} → A → ℕ
flat a = 0

abbrev pub higher : {A B : Type 0} → (A → ℕ) → (B → ℕ) → A × B → ℕ
higher f g x = max (f x.0) (g x.1)

-- one of two, of which the second is any
abbrev pub widened : {A : Type 0} → Phrase A → (A → Type 0) → Front Token → Phrase A
widened p Others other = record { spelling = p.spelling; Fits = EitherFit p.Fits Others; front = Either p.front other }

-- R is the relation where the second phrase has room for so many nodes, and C the same of what ends with the bracket that closes
-- one before it; Pair tells which depths the two phrases have
pub record Walk (R : ℕ → Relation) (C : Bracket → ℕ → Relation) (Pair : ℕ → ℕ → Type 0) : Type 1 where
  -- what does not depend on the depth
  pub same : {m : ℕ} {A : Type 0} {f : A → ℕ} {t : A → List Token} (p : Phrase A) → ((a : A) → p.Fits a → f a ≡ 0) → Single t p → R m A f t p p
  -- what has no room
  pub empty : {m : ℕ} {A : Type 0} {f : A → ℕ} {t : A → List Token} {q : Phrase A} → ((a : A) → t a ≡ q.spelling a) → q.front [] → R m A f t (no_room t) q
  -- one after the other
  pub both : {m : ℕ} {A B : Type 0} {f : A → ℕ} {g : B → ℕ} {t : A → List Token} {u : B → List Token} {p q : Phrase A} {r s : Phrase B} → R m A f t p q → R m B g u r s → R m (A × B) (higher f g) (both_spelling t u) (seq p r) (seq q s)
  pub both_if : {m : ℕ} {A B : Type 0} {f : A → ℕ} {g : B → ℕ} {t : A → List Token} {u : B → List Token} {p q : Phrase A} {r s : Phrase B} (may : A → Bool) → R m A f t p q → R m B g u r s → R m (A × B) (higher f g) (both_spelling t u) (seq_if may p r) (seq_if may q s)
  pub both_by : {m : ℕ} {A B : Type 0} {f : A → ℕ} {g : B → ℕ} {t : A → List Token} {p q : Phrase A} {r s : A → Phrase B} (u : B → List Token) → R m A f t p q → ((a : A) → R m B g u (r a) (s a)) → R m (A × B) (higher f g) (both_spelling t u) (seq_by u p r) (seq_by u q s)
  pub maybe : {m : ℕ} {A : Type 0} {f : A → ℕ} {t : A → List Token} {p q : Phrase A} → R m A f t p q → R m (Option A) (height_if f) (option_spelling t) (opt p) (opt q)
  pub all : {m : ℕ} {A : Type 0} {f : A → ℕ} {t : A → List Token} {p q : Phrase A} → R m A f t p q → R m (List A) (highest f) (flat_map t) (many p) (many q)
  pub some : {m : ℕ} {A : Type 0} {f : A → ℕ} {t : A → List Token} {p q : Phrase A} (may : A → Bool) → R m A f t p q → R m (List A) (highest f) (flat_map t) (some_if may p) (some_if may q)
  pub none : {m : ℕ} {A : Type 0} {f : A → ℕ} {t : A → List Token} {p q : Phrase A} → R m A f t p q → R m (List A) (highest f) (flat_map t) (exactly (flat_map p.spelling) []) (exactly (flat_map q.spelling) [])
  -- alternatives
  pub one : {m : ℕ} {A : Type 0} {f : A → ℕ} {t : A → List Token} {p q r s : Phrase A} → R m A f t p q → R m A f t r s → R m A f t (either p r) (either q s)
  pub first : {m : ℕ} {A : Type 0} {f : A → ℕ} {t : A → List Token} {p q r s : Phrase A} → ((a : A) → r.Fits a → Alone p.spelling p.Fits a → Alone q.spelling q.Fits a) → R m A f t p q → R m A f t r s → R m A f t (rather p r) (rather q s)
  pub or_none : {m : ℕ} {A : Type 0} {f : A → ℕ} {t : A → List Token} {p q : Phrase A} (a : A) → f a ≡ 0 → t a ≡ [] → R m A f t p q → R m A f t (perhaps a p) (perhaps a q)
  -- trees
  pub make : {m : ℕ} {A B : Type 0} {f : A → ℕ} {t : A → List Token} {p q : Phrase A} (tokens : B → List Token) (height_of : B → ℕ) (tree : A → B) → R m A f t p q → ((a : A) → tokens (tree a) ≡ t a) → ((a : A) → height_of (tree a) ≡ f a) → R m B height_of tokens (made tokens tree p) (made tokens tree q)
  pub good : {m : ℕ} {A : Type 0} {f : A → ℕ} {t : A → List Token} {p q : Phrase A} (test : A → Bool) → R m A f t p q → R m A f t (such test p) (such test q)
  pub good_tokens : {m : ℕ} {A : Type 0} {f : A → ℕ} {t : A → List Token} {p q : Phrase A} (test : List Token → Bool) → ((a : A) → p.spelling a ≡ q.spelling a) → R m A f t p q → R m A f t (such_tokens test p) (such_tokens test q)
  -- with a node more
  pub node : {m : ℕ} {A : Type 0} {f : A → ℕ} {t : A → List Token} {p q : Phrase A} → R m A f t p q → R (suc m) A (λ a. suc (f a)) t p q
  -- of the same heights
  pub rated : {m : ℕ} {A : Type 0} {f g : A → ℕ} {t : A → List Token} {p q : Phrase A} → ((a : A) → f a ≡ g a) → R m A f t p q → R m A g t p q
  -- brackets
  pub right : {m : ℕ} (b : Bracket) → C b m Place flat (sign_tokens (right_sign b)) (sign (right_sign b)) (sign (right_sign b))
  pub right_then : {m : ℕ} (b : Bracket) {B : Type 0} {g : B → ℕ} {u : B → List Token} {r s : Phrase B} → R m B g u r s → C b m (Place × B) (λ x. g x.1) (both_spelling (sign_tokens (right_sign b)) u) (seq (sign (right_sign b)) r) (seq (sign (right_sign b)) s)
  pub closing : {m : ℕ} {b : Bracket} {A B : Type 0} {f : A → ℕ} {g : B → ℕ} {t : A → List Token} {u : B → List Token} {p q : Phrase A} {r s : Phrase B} → R m A f t p q → C b m B g u r s → C b m (A × B) (higher f g) (both_spelling t u) (seq p r) (seq q s)
  pub left : {m : ℕ} (b : Bracket) {B : Type 0} {g : B → ℕ} {u : B → List Token} {r s : Phrase B} → C b m B g u r s → R m (Place × B) (λ x. g x.1) (both_spelling (sign_tokens (left_sign b)) u) (seq (sign (left_sign b)) r) (seq (sign (left_sign b)) s)
  pub closing_rated : {m : ℕ} {b : Bracket} {A : Type 0} {f g : A → ℕ} {t : A → List Token} {p q : Phrase A} → ((a : A) → f a ≡ g a) → C b m A f t p q → C b m A g t p q
  -- where one of the two has no room
  pub under : {n m : ℕ} → Pair (suc n) (suc m) → Pair n m
  pub wide : {m k : ℕ} {A : Type 0} {f : A → ℕ} {t : A → List Token} {p q : Phrase A} (Others : A → Type 0) (other : Front Token) → Pair zero (suc m) → R k A f t p q → R k A f t p (widened q Others other)
  pub narrow : {n : ℕ} {A : Type 0} {f : A → ℕ} {t : A → List Token} {p q : Phrase A} (Others : A → Type 0) (other : Front Token) → Pair (suc n) zero → R zero A f t p q → ((a : A) → Others a → f a ≤ 0 → ⊥) → R zero A f t (widened p Others other) q
  pub high : {n : ℕ} {A : Type 0} {f : A → ℕ} {t : A → List Token} {p q : Phrase A} → Pair (suc n) zero → ((a : A) → p.Fits a → f a ≤ 0 → ⊥) → R zero A f t p q
