-- Arguments and parameters behind a name go exactly as far as the parenthesis that closes them.
use Rattle.std.proofs.Common.{◌≡◌, ℕ, zero, suc, true, List, inl, inr, refl, ap, ◌∙◌, subst, append_assoc}
use Rattle.grammar_laws.specs.Fronts.{Made, both_spelling}
use Rattle.dart_token.specs.declared.token.Token.{Token}
use Rattle.dart_token.specs.declared.sign.Sign.{Sign}
use Rattle.dart_token.specs.declared.sign.Sign.TheVariants as s
use Rattle.dart_tree.specs.declared.parameter.BracketKind.{BracketKind}
use Rattle.dart_tree.specs.declared.parameter.BracketKind.TheVariants as b
use Rattle.dart_tree.specs.Tokens.{arguments_tokens, parameters_tokens, parameter_list_tokens}
use Rattle.dart_syntax.specs.Phrases.{Phrase, seq, either, made}
use Rattle.dart_syntax.specs.Leaves.{sign, sign_tokens}
use Rattle.dart_syntax.specs.Expressions.{ExprNodes, arguments_over}
use Rattle.dart_syntax.specs.Statements.{StmtNodes, bracketed_over, parameters_over, nodes_over, within}
use Rattle.dart_syntax.proofs.AgreeingExpressions.{said_sign}
use Rattle.syntax_measures.specs.Relations.{ExprsRelate, StmtsRelate, WithinRelate}
use Rattle.syntax_measures.proofs.Scanning.{State, inside, named, called, scan, scan_append}
use Rattle.syntax_measures.proofs.WalkExpressions.{walk_argument_items}
use Rattle.syntax_measures.proofs.WalkStatements.{walk_no_or_required, walk_required_before, walk_optional}
use Rattle.syntax_measures.proofs.WalkStages.{still_at_same, walk_within}
use Rattle.syntax_measures.proofs.Balances.{Balances, balances, balances_walk}
use Rattle.syntax_measures.proofs.BracketKinds.{is_plain}

-- what stands within a depth is balanced
within_balances : (n : ℕ) → WithinRelate (balances n) (within n) (within n)
within_balances n = walk_within balances_walk still_at_same n n refl

-- from behind a name and `(` to behind the `)` for it
pub record Ends {A : Type 0} (tokens : A → List Token) (p : Phrase A) : Type 0 where
  pub call : (a : A) → p.Fits a → scan (inside 0) (tokens a) ≡ called

-- the same with the `(`
pub record Calls {A : Type 0} (tokens : A → List Token) (p : Phrase A) : Type 0 where
  pub call : (a : A) → p.Fits a → scan named (tokens a) ≡ called

seq_ends : {A B : Type 0} {f : A → List Token} {g : B → List Token} {p : Phrase A} {q : Phrase B} → Balances f p → Ends g q → Ends (both_spelling f g) (seq p q)
seq_ends {A} {B} {f} {g} P Q = record { call = λ x fits. scan_append (inside 0) (f x.0) (g x.1) ∙ ap (λ (z : State). scan z (g x.1)) (P.within x.0 fits.0 0) ∙ Q.call x.1 fits.1 }

right_ends : Ends (sign_tokens s.RightParenthesis) (sign s.RightParenthesis)
right_ends = record { call = λ x fits. refl }

left_calls : {B : Type 0} {g : B → List Token} {q : Phrase B} → Ends g q → Calls (both_spelling (sign_tokens s.LeftParenthesis) g) (seq (sign s.LeftParenthesis) q)
left_calls Q = record { call = λ x fits. Q.call x.1 fits.1 }

made_called : {A B : Type 0} (tokens : B → List Token) (f : A → B) (Fits : A → Type 0) → ((a : A) → Fits a → scan named (tokens (f a)) ≡ called) → (b : B) → Made f Fits b → scan named (tokens b) ≡ called
made_called tokens f Fits call b (a, fits, is) = subst (λ c. scan named (tokens c) ≡ called) is (call a fits)

module _ {A B : Type 0} {g : A → List Token} {p : Phrase A} (tokens : B → List Token) (f : A → B) (P : Calls g p) (said : (a : A) → p.Fits a → tokens (f a) ≡ g a) where
  made_calls : Calls tokens (made tokens f p)
  made_calls = record { call = made_called tokens f p.Fits (λ a fits. ap (λ (l : List Token). scan named l) (said a fits) ∙ P.call a fits) }

module _ {A : Type 0} {tokens : A → List Token} {p q : Phrase A} (P : Calls tokens p) (Q : Calls tokens q) where
  one_called : (a : A) → (either p q).Fits a → scan named (tokens a) ≡ called
  one_called a (inl fits) = P.call a fits
  one_called a (inr fits) = Q.call a fits

  either_calls : Calls tokens (either p q)
  either_calls = record { call = one_called }

-- ---- arguments and parameters

arguments_over_call : (n : ℕ) {inner : ExprNodes} → ExprsRelate (balances n) inner inner → Calls arguments_tokens (arguments_over inner)
unfolding arguments_tokens
arguments_over_call n I = made_calls arguments_tokens _ (left_calls (seq_ends (walk_argument_items balances_walk {m = n} I) right_ends)) (λ x fits. refl)

module _ (n : ℕ) {inner : StmtNodes} (I : StmtsRelate (balances n) inner inner) where
  bracketed_call : (kind : BracketKind) (before : Sign) → is_plain before ≡ true → Calls parameters_tokens (bracketed_over inner kind before)
  unfolding parameters_tokens
  bracketed_call kind before plain = made_calls parameters_tokens _ (left_calls (seq_ends (walk_required_before balances_walk {m = n} I) (seq_ends (walk_optional balances_walk {m = n} I kind before plain) right_ends))) (λ x fits. simp (said_sign, append_assoc))

  parameters_over_call : Calls parameters_tokens (parameters_over inner)
  unfolding parameters_tokens parameter_list_tokens
  parameters_over_call = either_calls
      (made_calls parameters_tokens _ (left_calls (seq_ends (walk_no_or_required balances_walk {m = n} I) right_ends)) (λ x fits. refl))
      (either_calls (bracketed_call b.Square s.Assign refl) (bracketed_call b.Curly s.Colon refl))

pub arguments_call : (n : ℕ) → Calls arguments_tokens (within n).nodes.expr_nodes.arguments
unfolding within nodes_over
arguments_call zero = record { call = λ a fits. absurd fits }
arguments_call (suc n) = arguments_over_call n (within_balances n).nodes.expr_nodes

pub parameters_call : (n : ℕ) → Calls parameters_tokens (within n).nodes.expr_nodes.parameters
unfolding within nodes_over
parameters_call zero = record { call = λ a fits. absurd fits }
parameters_call (suc n) = parameters_over_call n (within_balances n).nodes
