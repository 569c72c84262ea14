-- What follows for each relation that a walk carries.
use Rattle.std.proofs.Common.{◌≡◌, ℕ, arith, Bool, true, List, [], ◌∷◌, Option, None, Some, refl, sym, ap, ◌∙◌, flat_map, inl, subst}
use Rattle.grammar_laws.specs.Fronts.{both_spelling, option_spelling}
use Rattle.dart_base.specs.declared.place.Place.{Place}
use Rattle.dart_token.specs.declared.token.Token.{Token}
use Rattle.dart_token.specs.declared.sign.Sign.{Sign}
use Rattle.dart_token.specs.declared.sign.Sign.TheVariants as signs
use Rattle.dart_token.specs.declared.word.Word.{Word}
use Rattle.dart_tree.specs.declared.identifier.Identifier.{Identifier}
use Rattle.dart_tree.specs.declared.identifier.Identifier.TheVariants as i
use Rattle.dart_tree.specs.declared.identifier.DotName.{DotName}
use Rattle.dart_tree.specs.LeafTokens.{identifier_tokens, dot_name_tokens}
use Rattle.dart_tree.specs.Depth.{height_if, highest}
use Rattle.dart_syntax.specs.Phrases.{Phrase, exactly, no_room, seq, seq_if, opt, many}
use Rattle.dart_syntax.specs.Leaves.{sign, sign_tokens, word, word_tokens, named, named_tokens, identifier, dot_name, commas}
use Rattle.dart_syntax.specs.Agreement.{Agrees}
use Rattle.dart_syntax.proofs.AgreeingTypes.{commas_tokens}
use Rattle.syntax_measures.specs.Relations.{Relation}
use Rattle.syntax_measures.proofs.BracketKinds.{Bracket, left_sign, right_sign, is_plain, Plain, Single, single_leaf}
use Rattle.syntax_measures.proofs.Walk.{Walk, flat, higher}

flat_if : {A : Type 0} (x : Option A) → height_if (flat {A = A}) x ≡ 0
flat_if None = refl
flat_if (Some x) = refl

flat_all : {A : Type 0} (xs : List A) → highest (flat {A = A}) xs ≡ 0
flat_all [] = refl
flat_all (x ∷ xs) = omega (arith, flat_all xs)

pub one_name_plain : (x : Identifier) → Plain (identifier_tokens x)
one_name_plain (i.Name place text) = (refl, tt)
one_name_plain (i.Get place) = (refl, tt)
one_name_plain (i.Set place) = (refl, tt)

single_empty : {A : Type 0} (t : A → List Token) (a : A) → t a ≡ [] → Single t (exactly t a)
single_empty t a none = record {
  spells = λ b. refl;
  plain = λ b is. subst Plain (sym (ap t is ∙ none)) tt;
  begun = λ ts e. inl e;
}

-- from what has no room, to a phrase of these tokens
pub emptied : {R : ℕ → Relation} {C : Bracket → ℕ → Relation} {Pair : ℕ → ℕ → Type 0} (W : Walk R C Pair) {m : ℕ} {A : Type 0} {f : A → ℕ} {t : A → List Token} {q : Phrase A} → Agrees t q → R m A f t (no_room t) q
emptied W Q = W.empty (λ a. sym (Q.spells a)) Q.none

module _ {R : ℕ → Relation} {C : Bracket → ℕ → Relation} {Pair : ℕ → ℕ → Type 0} (W : Walk R C Pair) {m : ℕ} where
  -- ---- single tokens, and none
  pub the_empty : {A : Type 0} {f : A → ℕ} (t : A → List Token) (a : A) → f a ≡ 0 → t a ≡ [] → R m A f t (exactly t a) (exactly t a)
  the_empty {f = f} t a low none = W.same (exactly t a) (λ b is. ap f is ∙ low) (single_empty t a none)

  pub the_sign : (which : Sign) → is_plain which ≡ true → R m Place flat (sign_tokens which) (sign which) (sign which)
  the_sign which plain = W.same (sign which) (λ p fits. refl) (single_leaf (sign_tokens which) (λ p. (plain, tt)))

  pub the_word : (which : Word) → R m Place flat (word_tokens which) (word which) (word which)
  the_word which = W.same (word which) (λ p fits. refl) (single_leaf (word_tokens which) (λ p. (refl, tt)))

  pub the_name : (text : List ℕ) → R m Place flat (named_tokens text) (named text) (named text)
  the_name text = W.same (named text) (λ p fits. refl) (single_leaf (named_tokens text) (λ p. (refl, tt)))

  pub an_identifier : R m Identifier flat identifier_tokens identifier identifier
  an_identifier = W.same identifier (λ x fits. refl) (single_leaf identifier_tokens one_name_plain)

  pub a_dot_name : R m DotName flat dot_name_tokens dot_name dot_name
  a_dot_name = W.make dot_name_tokens flat _ (W.rated (λ x. refl) (W.both (the_sign signs.Dot refl) an_identifier)) (λ x. refl) (λ x. refl)

  -- ---- where one of two is no node, or both are none
  module _ {A B : Type 0} {t : A → List Token} {u : B → List Token} {p q : Phrase A} {r s : Phrase B} where
    pub after : {g : B → ℕ} → R m A flat t p q → R m B g u r s → R m (A × B) (λ x. g x.1) (both_spelling t u) (seq p r) (seq q s)
    after P Q = W.rated (λ x. omega arith) (W.both P Q)

    pub before : {f : A → ℕ} → R m A f t p q → R m B flat u r s → R m (A × B) (λ x. f x.0) (both_spelling t u) (seq p r) (seq q s)
    before P Q = W.rated (λ x. omega arith) (W.both P Q)

    pub before_if : {f : A → ℕ} (may : A → Bool) → R m A f t p q → R m B flat u r s → R m (A × B) (λ x. f x.0) (both_spelling t u) (seq_if may p r) (seq_if may q s)
    before_if may P Q = W.rated (λ x. omega arith) (W.both_if may P Q)

    pub closing_after : {b : Bracket} {g : B → ℕ} → R m A flat t p q → C b m B g u r s → C b m (A × B) (λ x. g x.1) (both_spelling t u) (seq p r) (seq q s)
    closing_after P Q = W.closing_rated (λ x. omega arith) (W.closing P Q)

  module _ {A : Type 0} {t : A → List Token} {p q : Phrase A} where
    pub maybe_flat : R m A flat t p q → R m (Option A) flat (option_spelling t) (opt p) (opt q)
    maybe_flat P = W.rated flat_if (W.maybe P)

    pub all_flat : R m A flat t p q → R m (List A) flat (flat_map t) (many p) (many q)
    all_flat P = W.rated flat_all (W.all P)

    pub closed : (b : Bracket) {f : A → ℕ} → R m A f t p q → C b m (A × Place) (λ x. f x.0) (both_spelling t (sign_tokens (right_sign b))) (seq p (sign (right_sign b))) (seq q (sign (right_sign b)))
    closed b P = W.closing_rated (λ x. omega arith) (W.closing P (W.right b))

    pub enclosed : (b : Bracket) {f : A → ℕ} → R m A f t p q → R m (Place × (A × Place)) (λ x. f x.1.0) (both_spelling (sign_tokens (left_sign b)) (both_spelling t (sign_tokens (right_sign b)))) (seq (sign (left_sign b)) (seq p (sign (right_sign b)))) (seq (sign (left_sign b)) (seq q (sign (right_sign b))))
    enclosed b P = W.left b (closed b P)

    -- items with commas between them
    pub with_commas : {f : A → ℕ} → R m A f t p q → R m (A × List (Place × A)) (higher f (highest (λ x. f x.1))) (commas_tokens t) (commas p) (commas q)
    with_commas P = W.both P (W.all (after (the_sign signs.Comma refl) P))
