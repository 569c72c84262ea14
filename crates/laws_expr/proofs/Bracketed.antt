-- Parameters, and expressions in parentheses, go exactly as far as the bracket that closes the one that they begin with.
use Rattle.std.proofs.Common.{◌≡◌, ℕ, zero, suc, true, List, [], ◌++◌, inl, inr, refl, sym, ap, ◌∙◌, subst, append_assoc}
use Rattle.std.proofs.lemmas.List.{append-nil}
use Rattle.dart_token.specs.declared.token.Token.{Token}
use Rattle.dart_token.specs.declared.sign.Sign.{Sign}
use Rattle.dart_token.specs.declared.sign.Sign.TheVariants as s
use Rattle.dart_tree.specs.declared.parameter.BracketKind.{BracketKind}
use Rattle.dart_tree.specs.declared.parameter.BracketKind.TheVariants as b
use Rattle.dart_tree.specs.Tree as t
use Rattle.dart_tree.specs.Tree.{Expr, Primary}
use Rattle.dart_tree.specs.Tokens.{expr_tokens, primary_tokens, parameters_tokens, parameter_list_tokens}
use Rattle.grammar_laws.specs.Fronts.{Made, both_spelling}
use Rattle.dart_syntax.specs.Phrases.{Phrase, ◌~◌, seq, either, made, made₃}
use Rattle.dart_syntax.specs.Leaves.{sign, sign_tokens}
use Rattle.dart_syntax.specs.Statements.{StmtNodes, bracketed_over, parameters_over, nodes_over, within}
use Rattle.dart_syntax.proofs.AgreeingExpressions.{said_sign}
use Rattle.syntax_readers.specs.Combinators.{behind_open, behind_brackets}
use Rattle.syntax_measures.specs.Relations.{StmtsRelate}
use Rattle.syntax_measures.proofs.BracketKinds.{Bracket, parentheses, left_sign, right_sign, is_plain}
use Rattle.syntax_measures.proofs.WalkStatements.{walk_no_or_required, walk_required_before, walk_optional}
use Rattle.laws_expr.proofs.Enclosed.{Encloses, spelled_even, encloses, encloses_walk, right_step, within_encloses}

-- from behind an opening bracket to behind the one that closes it
pub record Ends {A : Type 0} (tokens : A → List Token) (p : Phrase A) : Type 0 where
  pub ends : (a : A) → p.Fits a → (rest : List Token) → behind_open 1 (tokens a ++ rest) ≡ rest
  pub begins : (ts : List Token) → p.front ts → behind_open 1 ts ≡ []

-- the same with the opening bracket
pub record Bracketed {A : Type 0} (tokens : A → List Token) (p : Phrase A) : Type 0 where
  pub ends : (a : A) → p.Fits a → (rest : List Token) → behind_brackets (tokens a ++ rest) ≡ rest
  pub begins : (ts : List Token) → p.front ts → behind_brackets ts ≡ []

module _ (b : Bracket) where
  right_begins : (ts : List Token) → (sign (right_sign b)).front ts → behind_open 1 ts ≡ []
  right_begins ts (inl is) = ap (behind_open 1) is
  right_begins ts (inr (place, is)) = ap (behind_open 1) is ∙ right_step b place 0 []

  right_ends : Ends (sign_tokens (right_sign b)) (sign (right_sign b))
  right_ends = record { ends = λ place fits rest. right_step b place 0 rest; begins = right_begins }

  module _ {B : Type 0} {u : B → List Token} {r : Phrase B} (Q : Ends u r) where
    left_begins : (ts : List Token) → (seq (sign (left_sign b)) r).front ts → behind_brackets ts ≡ []
    left_begins ts (inl (inl is)) = ap behind_brackets is
    left_begins ts (inl (inr (place, is))) = ap behind_brackets is
    left_begins ts (inr (place, more, at, on, e, f)) = ap behind_brackets e ∙ Q.begins more f

    left_bracketed : Bracketed (both_spelling (sign_tokens (left_sign b)) u) (seq (sign (left_sign b)) r)
    left_bracketed = record { ends = λ x fits rest. Q.ends x.1 fits.1 rest; begins = left_begins }

module _ {A B : Type 0} {t : A → List Token} {u : B → List Token} {p : Phrase A} {r : Phrase B} (P : Encloses t p) (Q : Ends u r) where
  seq_begins : (ts : List Token) → (seq p r).front ts → behind_open 1 ts ≡ []
  seq_begins ts (inl f) = ap (behind_open 1) (sym (append-nil ts)) ∙ (P.begins ts f 0).1 []
  seq_begins ts (inr (a, rest, fits, on, e, f)) = ap (behind_open 1) e ∙ spelled_even P a fits 0 rest ∙ Q.begins rest f

  seq_ends : Ends (both_spelling t u) (seq p r)
  seq_ends = record { ends = λ x fits rest. ap (behind_open 1) (append_assoc (t x.0) (u x.1) rest) ∙ P.within x.0 fits.0 0 (u x.1 ++ rest) ∙ Q.ends x.1 fits.1 rest; begins = seq_begins }

made_ended : {A B : Type 0} (tokens : B → List Token) (f : A → B) (Fits : A → Type 0) → ((a : A) → Fits a → (rest : List Token) → behind_brackets (tokens (f a) ++ rest) ≡ rest) → (b : B) → Made f Fits b → (rest : List Token) → behind_brackets (tokens b ++ rest) ≡ rest
made_ended tokens f Fits ends b (a, fits, is) rest = subst (λ c. behind_brackets (tokens c ++ rest) ≡ rest) is (ends a fits rest)

module _ {A B : Type 0} {t : A → List Token} {p : Phrase A} (tokens : B → List Token) (f : A → B) (P : Bracketed t p) (said : (a : A) → p.Fits a → tokens (f a) ≡ t a) where
  made_bracketed : Bracketed tokens (made tokens f p)
  made_bracketed = record { ends = made_ended tokens f p.Fits (λ a fits rest. ap (λ (m : List Token). behind_brackets (m ++ rest)) (said a fits) ∙ P.ends a fits rest); begins = P.begins }

module _ {A : Type 0} {tokens : A → List Token} {p q : Phrase A} (P : Bracketed tokens p) (Q : Bracketed tokens q) where
  one_ended : (a : A) → (either p q).Fits a → (rest : List Token) → behind_brackets (tokens a ++ rest) ≡ rest
  one_ended a (inl fits) rest = P.ends a fits rest
  one_ended a (inr fits) rest = Q.ends a fits rest

  one_begun : (ts : List Token) → (either p q).front ts → behind_brackets ts ≡ []
  one_begun ts (inl f) = P.begins ts f
  one_begun ts (inr f) = Q.begins ts f

  either_bracketed : Bracketed tokens (either p q)
  either_bracketed = record { ends = one_ended; begins = one_begun }

-- ---- expressions in parentheses

abbrev pub parenthesized_of : Phrase Expr → Phrase Primary
parenthesized_of expr = made₃ primary_tokens t.parenthesized (sign s.LeftParenthesis ~ expr ~ sign s.RightParenthesis)

pub parenthesized_bracketed : {expr : Phrase Expr} → Encloses expr_tokens expr → Bracketed primary_tokens (parenthesized_of expr)
unfolding primary_tokens
parenthesized_bracketed X = made_bracketed primary_tokens _ (left_bracketed parentheses (seq_ends X (right_ends parentheses))) (λ x fits. refl)

-- ---- parameters (9.2 Formal Parameters)

module _ (n : ℕ) {inner : StmtNodes} (I : StmtsRelate (encloses n) inner inner) where
  optional_bracketed : (kind : BracketKind) (before : Sign) → is_plain before ≡ true → Bracketed parameters_tokens (bracketed_over inner kind before)
  unfolding parameters_tokens
  optional_bracketed kind before plain = made_bracketed parameters_tokens _ (left_bracketed parentheses (seq_ends (walk_required_before encloses_walk {m = n} I) (seq_ends (walk_optional encloses_walk {m = n} I kind before plain) (right_ends parentheses)))) (λ x fits. simp (said_sign, append_assoc))

  parameters_over_bracketed : Bracketed parameters_tokens (parameters_over inner)
  unfolding parameters_tokens parameter_list_tokens
  parameters_over_bracketed = either_bracketed
      (made_bracketed parameters_tokens _ (left_bracketed parentheses (seq_ends (walk_no_or_required encloses_walk {m = n} I) (right_ends parentheses))) (λ x fits. refl))
      (either_bracketed (optional_bracketed b.Square s.Assign refl) (optional_bracketed b.Curly s.Colon refl))

pub parameters_bracketed : (n : ℕ) → Bracketed parameters_tokens (within n).nodes.expr_nodes.parameters
unfolding within nodes_over
parameters_bracketed zero = record { ends = λ a fits. absurd fits; begins = λ ts is. ap behind_brackets is }
parameters_bracketed (suc n) = parameters_over_bracketed n (within_encloses n).nodes
