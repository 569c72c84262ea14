-- The laws of the readers of statements that hold no statements, and of what stands in parentheses and behind `catch`.
use Rattle.std.proofs.Common.{◌≡◌, ℕ, true, false, List, [], ◌++◌, Option, None, Some, inl, inr, refl, sym, subst}
use Rattle.dart_base.specs.declared.place.Place.{Place}
use Rattle.dart_token.specs.declared.token.Token.{Token}
use Rattle.dart_token.specs.declared.sign.Sign.{Sign}
use Rattle.dart_token.specs.declared.sign.Sign.TheVariants as s
use Rattle.dart_token.specs.declared.word.Word.{Word}
use Rattle.dart_token.specs.declared.word.Word.TheVariants as w
use Rattle.dart_tree.specs.declared.identifier.Identifier.{Identifier}
use Rattle.dart_tree.specs.declared.identifier.CommaName.{CommaName}
use Rattle.dart_tree.specs.declared.statement.Catch.{Catch}
use Rattle.dart_tree.specs.declared.statement.Jump.TheVariants as j
use Rattle.dart_tree.specs.LeafTokens.{catch_tokens}
use Rattle.dart_tree.specs.Tree as t
use Rattle.dart_tree.specs.Tree.{Expr, Stmt, Value}
use Rattle.dart_tree.specs.Tokens.{expr_tokens, stmt_tokens, value_tokens}
use Rattle.grammar_laws.specs.Codes.{Apart, Within, nowhere, after_option}
use Rattle.grammar_laws.specs.Readers.{Reader, mapped, both, option}
use Rattle.grammar_laws.specs.Fronts.{OptionFit, option_spelling}
use Rattle.grammar_laws.proofs.Codes.{apart, apart_none, apart_smaller, within_self, within_then, within_left, within_right}
use Rattle.grammar_laws.proofs.Restated.{made_laws, mapped_laws, refront}
use Rattle.grammar_laws.proofs.Combined.{both_laws, both_any_laws}
use Rattle.grammar_laws.proofs.Followed.{option_laws}
use Rattle.grammar_laws.proofs.Chosen.{by_first_laws}
use Rattle.dart_syntax.specs.Phrases.{Phrase, ◌~◌, opt, made}
use Rattle.dart_syntax.specs.Agreement.{Agrees}
use Rattle.dart_syntax.specs.Leaves as l
use Rattle.dart_syntax.specs.Expressions as g
use Rattle.dart_syntax.specs.Statements as p
use Rattle.dart_syntax.specs.Statements.{within}
use Rattle.token_codes.specs.Codes.{class_of, names, these, this_word}
use Rattle.token_codes.specs.Leaves.{sign, word, identifier}
use Rattle.token_codes.specs.Reads.{Reads}
use Rattle.token_codes.proofs.Leaves.{sign_reads, word_reads, identifier_reads, comma_name_reads}
use Rattle.syntax_readers.specs.Combinators.{made₃}
use Rattle.syntax_readers.specs.Primaries.{expr_first, maybe_expr, value_of}
use Rattle.syntax_readers.specs.Statements as i
use Rattle.syntax_readers.specs.Statements.{jump_first}
use Rattle.laws_expr.specs.Nexts.{after_expr}
use Rattle.laws_expr.proofs.Behind.{behind_exprs, under_expr}

-- ---- an expression or none

abbrev pub behind_value : List ℕ
behind_value = expr_first ++ behind_exprs

abbrev value_first : List ℕ
value_first = expr_first ++ these s.Semicolon

module _ {expr : Reader Token Expr} {q : Phrase Expr} (E : Reads expr q expr_first after_expr false) (A : Agrees expr_tokens q) where
  value_forth : (x : Option Expr) → OptionFit q.Fits x → (g.maybe_expr q).Fits (value_of x) × (value_tokens (value_of x) ≡ option_spelling q.spelling x) × Within (after_option expr_first after_expr x) behind_value
  unfolding value_tokens
  value_forth None fits = (inl refl, refl, within_left expr_first behind_exprs)
  value_forth (Some x) fits = (inr (x, fits, refl), sym (A.spells x), within_then (under_expr x) (within_right expr_first behind_exprs))

  value_back : (v : Value) → (g.maybe_expr q).Fits v → (x : Option Expr) × OptionFit q.Fits x × (value_of x ≡ v)
  value_back v (inl is) = (None, tt, sym is)
  value_back v (inr (x, fits, is)) = (Some x, fits, is)

  value_into : (ts : List Token) → (g.maybe_expr q).front ts → q.front ts
  value_into ts (inl is) = subst q.front (sym is) E.none
  value_into ts (inr f) = f

  pub maybe_laws : Reads (maybe_expr expr) (g.maybe_expr q) expr_first (λ v. behind_value) true
  unfolding maybe_expr
  maybe_laws = refront (mapped_laws (option_laws E) value_of value_tokens {Fits_q = (g.maybe_expr q).Fits} (λ v. behind_value) value_forth value_back) (λ ts f. inr f) value_into

  -- ( expression )
  pub condition_laws : Reads (i.condition_over expr) (l.sign s.LeftParenthesis ~ q ~ l.sign s.RightParenthesis) (these s.LeftParenthesis) nowhere false
  unfolding i.condition_over
  condition_laws = both_laws (sign_reads s.LeftParenthesis) (both_laws E (sign_reads s.RightParenthesis) (λ x fits. apart_smaller (under_expr x) (apart refl))) (λ place fits. apart_none expr_first)

  -- an expression and the sign behind it
  pub before_sign_laws : (which : Sign) → Apart behind_exprs (these which) → Reads (both expr (sign which)) (q ~ l.sign which) expr_first nowhere false
  before_sign_laws which off = both_laws E (sign_reads which) (λ x fits. apart_smaller (under_expr x) off)

  -- ---- jumps

  abbrev to_return : Place × (Value × Place) → Stmt
  to_return x = t.return_stmt x.0 x.1.0 x.1.1

  return_laws : Reads (made₃ t.return_stmt (both (word w.Return) (both (maybe_expr expr) (sign s.Semicolon)))) (made stmt_tokens to_return (l.word w.Return ~ g.maybe_expr q ~ l.sign s.Semicolon)) (this_word w.Return) nowhere false
  unfolding stmt_tokens
  return_laws = made_laws (both_laws (word_reads w.Return) (both_any_laws maybe_laws (sign_reads s.Semicolon) (λ v fits. apart refl)) (λ place fits. apart_none value_first)) to_return stmt_tokens nowhere (λ x fits. refl) (λ x fits. within_self [])

-- a word, a name or none, and a semicolon
module _ (which : Word) (make : Place × (Option Identifier × Place) → Stmt) (said : (x : Place × (Option Identifier × Place)) → stmt_tokens (make x) ≡ (l.word which ~ opt l.identifier ~ l.sign s.Semicolon).spelling x) where
  name_apart : (x : Option Identifier) → Apart (after_option names nowhere x) (these s.Semicolon)
  name_apart None = apart refl
  name_apart (Some x) = apart_none (these s.Semicolon)

  named_laws : Reads (mapped make (both (word which) (both (option class_of names identifier) (sign s.Semicolon)))) (made stmt_tokens make (l.word which ~ opt l.identifier ~ l.sign s.Semicolon)) (this_word which) nowhere false
  named_laws = made_laws (both_laws (word_reads which) (both_any_laws (option_laws identifier_reads) (sign_reads s.Semicolon) (λ x fits. name_apart x)) (λ place fits. apart_none (names ++ these s.Semicolon))) make stmt_tokens nowhere (λ x fits. said x) (λ x fits. within_self [])

abbrev to_break : Place × (Option Identifier × Place) → Stmt
to_break x = t.jump (j.Break x.0 x.1.0 x.1.1)

abbrev to_continue : Place × (Option Identifier × Place) → Stmt
to_continue x = t.jump (j.Continue x.0 x.1.0 x.1.1)

abbrev to_rethrow : Place × Place → Stmt
to_rethrow x = t.jump (j.Rethrow x.0 x.1)

break_said : (x : Place × (Option Identifier × Place)) → stmt_tokens (to_break x) ≡ (l.word w.Break ~ opt l.identifier ~ l.sign s.Semicolon).spelling x
unfolding stmt_tokens
break_said x = refl

continue_said : (x : Place × (Option Identifier × Place)) → stmt_tokens (to_continue x) ≡ (l.word w.Continue ~ opt l.identifier ~ l.sign s.Semicolon).spelling x
unfolding stmt_tokens
continue_said x = refl

rethrow_laws : Reads (mapped to_rethrow (both (word w.Rethrow) (sign s.Semicolon))) (made stmt_tokens to_rethrow (l.word w.Rethrow ~ l.sign s.Semicolon)) (this_word w.Rethrow) nowhere false
unfolding stmt_tokens
rethrow_laws = made_laws (both_laws (word_reads w.Rethrow) (sign_reads s.Semicolon) (λ place fits. apart_none (these s.Semicolon))) to_rethrow stmt_tokens nowhere (λ x fits. refl) (λ x fits. within_self [])

pub jump_laws : (expr : Reader Token Expr) (here : p.StmtNodes) → Reads expr here.expr_nodes.expr expr_first after_expr false → Agrees expr_tokens here.expr_nodes.expr → Reads (i.jump expr) (p.jump_of here) jump_first nowhere false
unfolding i.jump
jump_laws expr here E A = by_first_laws (return_laws E A) (by_first_laws (named_laws w.Break to_break break_said) (by_first_laws (named_laws w.Continue to_continue continue_said) rethrow_laws (apart refl)) (apart refl)) (apart refl)

-- ---- catch ( id [, id] ) (17.11 Try)

abbrev to_catch : Place × (Place × (Identifier × (Option CommaName × Place))) → Catch
to_catch x = record { word = x.0; opening = x.1.0; exception = x.1.1.0; trace = x.1.1.1.0; closing = x.1.1.1.1 }

trace_apart : (x : Option CommaName) → Apart (after_option (these s.Comma) nowhere x) (these s.RightParenthesis)
trace_apart None = apart refl
trace_apart (Some x) = apart_none (these s.RightParenthesis)

abbrev behind_name : List ℕ
behind_name = these s.Comma ++ these s.RightParenthesis

pub catch_laws : (nodes : p.StmtNodes) → Reads i.catch_over (p.catch_over nodes) (this_word w.Catch) nowhere false
unfolding i.catch_over
catch_laws nodes = made_laws (both_laws (word_reads w.Catch) (both_laws (sign_reads s.LeftParenthesis) (both_laws identifier_reads (both_any_laws (option_laws comma_name_reads) (sign_reads s.RightParenthesis) (λ x fits. trace_apart x))
    (λ name fits. apart_none behind_name)) (λ place fits. apart_none names)) (λ place fits. apart_none (these s.LeftParenthesis))) to_catch catch_tokens nowhere (λ x fits. refl) (λ x fits. within_self [])
