-- That a tree has as many parentheses that open as that close, in order, goes with the words of the phrases.
use Rattle.std.proofs.Common.{◌≡◌, ℕ, suc, arith, Bool, List, [], ◌∷◌, ◌++◌, Option, None, Some, inl, inr, refl, sym, ap, ◌∙◌, subst, flat_map, true}
use Rattle.std.specs.List.{AllByRecursion}
use Rattle.grammar_laws.specs.Fronts.{Made, EachFit, OptionFit, option_spelling, both_spelling}
use Rattle.dart_token.specs.declared.token.Token.{Token}
use Rattle.dart_token.specs.declared.token.TokenKind.{TokenKind}
use Rattle.dart_token.specs.declared.token.TokenKind.TheVariants as tk
use Rattle.dart_token.specs.declared.sign.Sign.{Sign}
use Rattle.dart_token.specs.declared.sign.Sign.TheVariants as s
use Rattle.dart_syntax.specs.Leaves.{sign, sign_tokens}
use Rattle.dart_syntax.specs.Phrases.{Phrase, either, rather, perhaps, seq}
use Rattle.syntax_measures.specs.Relations.{Relation}
use Rattle.syntax_measures.proofs.Walk.{Walk}
use Rattle.syntax_measures.proofs.Scanning.{State, inside, scan, scan_append, Balanced, balanced_append, Closing, kind_class, sign_class, no_parenthesis, plain_stays, plain_word}
use Rattle.syntax_measures.proofs.BracketKinds.{Bracket, parentheses, squares, braces, left_sign, right_sign, is_plain, is_plain_kind, Plain}

-- these tokens of each tree that fits are balanced
pub record Balances {A : Type 0} (tokens : A → List Token) (p : Phrase A) : Type 0 where
  pub within : (a : A) → p.Fits a → Balanced (tokens a)

-- only parentheses count
abbrev pub ClosingOf : Bracket → List Token → Type 0
ClosingOf parentheses = Closing
ClosingOf squares = Balanced
ClosingOf braces = Balanced

-- these close a bracket that was open before
pub record Closes (b : Bracket) {A : Type 0} (tokens : A → List Token) (p : Phrase A) : Type 0 where
  pub within : (a : A) → p.Fits a → ClosingOf b (tokens a)

abbrev pub balances : ℕ → Relation
balances n A height_of tokens p q = Balances tokens p

abbrev pub closes : Bracket → ℕ → Relation
closes b n A height_of tokens p q = Closes b tokens p

nothing_balanced : (ts : List Token) → ts ≡ [] → Balanced ts
nothing_balanced ts is k = ap (λ (l : List Token). scan (inside k) l) is

module _ {A : Type 0} {t : A → List Token} {p : Phrase A} (P : Balances t p) where
  maybe_balanced : (x : Option A) → OptionFit p.Fits x → Balanced (option_spelling t x)
  maybe_balanced None fits = nothing_balanced [] refl
  maybe_balanced (Some a) fits = P.within a fits

  all_balanced : (xs : List A) → AllByRecursion p.Fits xs → Balanced (flat_map t xs)
  all_balanced [] fits = nothing_balanced [] refl
  all_balanced (x ∷ xs) fits = balanced_append (t x) (flat_map t xs) (P.within x fits.0) (all_balanced xs fits.1)

  some_balanced : (may : A → Bool) (xs : List A) → EachFit p.Fits may xs → Balanced (flat_map t xs)
  some_balanced may [] fits = nothing_balanced [] refl
  some_balanced may (x ∷ xs) fits = balanced_append (t x) (flat_map t xs) (P.within x fits.0) (some_balanced may xs fits.2)

  or_none_balanced : (a : A) → t a ≡ [] → (b : A) → (perhaps a p).Fits b → Balanced (t b)
  or_none_balanced a empty b (inl is) = nothing_balanced (t b) (ap t is ∙ empty)
  or_none_balanced a empty b (inr fits) = P.within b fits

module _ {A : Type 0} {t : A → List Token} {p q : Phrase A} (P : Balances t p) (Q : Balances t q) where
  one_balanced : (a : A) → (either p q).Fits a → Balanced (t a)
  one_balanced a (inl fits) = P.within a fits
  one_balanced a (inr fits) = Q.within a fits

  first_balanced : (a : A) → (rather p q).Fits a → Balanced (t a)
  first_balanced a (inl fits) = P.within a fits
  first_balanced a (inr fits) = Q.within a fits.0

made_balanced : {A B : Type 0} {t : A → List Token} {p : Phrase A} (tokens : B → List Token) (tree : A → B) → Balances t p → ((a : A) → tokens (tree a) ≡ t a) → (b : B) → Made tree p.Fits b → Balanced (tokens b)
made_balanced tokens tree P said b (a, fits, is) = subst (λ c. Balanced (tokens c)) is (subst Balanced (sym (said a)) (P.within a fits))

closing_append : (xs ys : List Token) → Balanced xs → Closing ys → Closing (xs ++ ys)
closing_append xs ys X Y k = scan_append (inside (suc k)) xs ys ∙ ap (λ (z : State). scan z ys) (X (suc k)) ∙ Y k

-- ---- tokens that are no brackets

plain_sign : (x : Sign) → is_plain x ≡ true → no_parenthesis (sign_class x) ≡ true
plain_sign s.LeftParenthesis plain = absurd cc
plain_sign s.RightParenthesis plain = absurd cc
plain_sign x plain = refl

plain_kind : (kind : TokenKind) → is_plain_kind kind ≡ true → no_parenthesis (kind_class kind) ≡ true
plain_kind (tk.Sign x) plain = plain_sign x plain
plain_kind (tk.Word x) plain = plain_word x
plain_kind kind plain = refl

plain_balanced : (ts : List Token) → Plain ts → Balanced ts
plain_balanced [] plain k = refl
plain_balanced (t ∷ ts) plain k = ap (λ (z : State). scan z ts) (plain_stays k (kind_class t.kind) (plain_kind t.kind plain.0)) ∙ plain_balanced ts plain.1 k

-- ---- brackets

right_closes : (b : Bracket) → Closes b (sign_tokens (right_sign b)) (sign (right_sign b))
right_closes parentheses = record { within = λ x fits k. refl }
right_closes squares = record { within = λ x fits k. refl }
right_closes braces = record { within = λ x fits k. refl }

module _ {B : Type 0} {u : B → List Token} {r : Phrase B} where
  then_closes : (b : Bracket) → Balances u r → Closes b (both_spelling (sign_tokens (right_sign b)) u) (seq (sign (right_sign b)) r)
  then_closes parentheses Q = record { within = λ x fits k. Q.within x.1 fits.1 k }
  then_closes squares Q = record { within = λ x fits k. Q.within x.1 fits.1 k }
  then_closes braces Q = record { within = λ x fits k. Q.within x.1 fits.1 k }

  left_balances : (b : Bracket) → Closes b u r → Balances (both_spelling (sign_tokens (left_sign b)) u) (seq (sign (left_sign b)) r)
  left_balances parentheses Q = record { within = λ x fits k. Q.within x.1 fits.1 k }
  left_balances squares Q = record { within = λ x fits k. Q.within x.1 fits.1 k }
  left_balances braces Q = record { within = λ x fits k. Q.within x.1 fits.1 k }

closing_append_of : (b : Bracket) (xs ys : List Token) → Balanced xs → ClosingOf b ys → ClosingOf b (xs ++ ys)
closing_append_of parentheses xs ys X Y = closing_append xs ys X Y
closing_append_of squares xs ys X Y = balanced_append xs ys X Y
closing_append_of braces xs ys X Y = balanced_append xs ys X Y

pub balances_walk : Walk balances closes (λ n m. n ≡ m)
balances_walk = record {
  same = λ {t = t} p rated single. record { within = λ a fits. plain_balanced (t a) (single.plain a fits) };
  empty = λ said none. record { within = λ a fits. absurd fits };
  both = λ {t = t} {u = u} P Q. record { within = λ x fits. balanced_append (t x.0) (u x.1) (P.within x.0 fits.0) (Q.within x.1 fits.1) };
  both_if = λ {t = t} {u = u} may P Q. record { within = λ x fits. balanced_append (t x.0) (u x.1) (P.within x.0 fits.0.0) (Q.within x.1 fits.1) };
  both_by = λ {t = t} u P Q. record { within = λ x fits. balanced_append (t x.0) (u x.1) (P.within x.0 fits.0) ((Q x.0).within x.1 fits.1) };
  maybe = λ P. record { within = maybe_balanced P };
  all = λ P. record { within = all_balanced P };
  some = λ may P. record { within = λ xs fits. some_balanced P may xs fits.1 };
  none = λ {t = t} P. record { within = λ xs is. nothing_balanced (flat_map t xs) (ap (flat_map t) is) };
  one = λ P Q. record { within = one_balanced P Q };
  first = λ still P Q. record { within = first_balanced P Q };
  or_none = λ a e empty P. record { within = or_none_balanced P a empty };
  make = λ tokens height_of tree P said rated. record { within = made_balanced tokens tree P said };
  good = λ test P. record { within = λ a fits. P.within a fits.0 };
  good_tokens = λ test same P. record { within = λ a fits. P.within a fits.0 };
  node = λ P. record { within = P.within };
  rated = λ e P. record { within = P.within };
  right = right_closes;
  right_then = λ b Q. then_closes b Q;
  closing = λ {b = b} {t = t} {u = u} P Q. record { within = λ x fits. closing_append_of b (t x.0) (u x.1) (P.within x.0 fits.0) (Q.within x.1 fits.1) };
  left = λ b Q. left_balances b Q;
  closing_rated = λ e P. record { within = P.within };
  under = λ e. omega arith;
  wide = λ Others other e P. absurd (omega arith);
  narrow = λ Others other e P high. absurd (omega arith);
  high = λ e high. absurd (omega arith);
}
