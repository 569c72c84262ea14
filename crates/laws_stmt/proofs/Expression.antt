-- The law of expression statements, whose reader is asked only where no brace comes (ECMA-408, 17.2 Expression Statements).
use Rattle.std.proofs.Common.{◌≡◌, ℕ, Bool, true, false, List, [], ◌∷◌, ◌++◌, Err, ◌⊎◌, inl, inr, refl, ap, sym, subst}
use Rattle.std.specs.Str.{bytes_eq}
use Rattle.dart_base.specs.declared.place.Place.{Place}
use Rattle.dart_token.specs.declared.token.Token.{Token}
use Rattle.dart_token.specs.declared.token.TokenKind.{TokenKind}
use Rattle.dart_token.specs.declared.token.TokenKind.TheVariants as tk
use Rattle.dart_token.specs.declared.token.Quote.TheVariants as q
use Rattle.dart_token.specs.declared.sign.Sign.{Sign}
use Rattle.dart_token.specs.declared.sign.Sign.TheVariants as s
use Rattle.dart_token.specs.declared.word.Word.{Word}
use Rattle.dart_token.specs.declared.word.Word.TheVariants as w
use Rattle.dart_token.specs.Sign.{sign_text}
use Rattle.dart_token.specs.Word.{word_text}
use Rattle.dart_tree.specs.Tree as t
use Rattle.dart_tree.specs.Tree.{Expr, Stmt, Value}
use Rattle.dart_tree.specs.Tokens.{expr_tokens, stmt_tokens}
use Rattle.grammar_laws.specs.Codes.{has, nowhere}
use Rattle.grammar_laws.specs.Readers.{Reader, either, nothing, starts}
use Rattle.grammar_laws.proofs.Codes.{apart, clash, has_cases, inside, not_true, within_self, within_none}
use Rattle.grammar_laws.proofs.Restated.{made_laws, restated}
use Rattle.grammar_laws.proofs.Combined.{both_any_laws}
use Rattle.dart_syntax.specs.Phrases.{Phrase, ◌~◌, made}
use Rattle.dart_syntax.specs.Agreement.{Agrees}
use Rattle.dart_syntax.specs.Leaves as l
use Rattle.dart_syntax.specs.Leaves.{is_no_brace, begins_with_no_brace}
use Rattle.dart_syntax.specs.Expressions as g
use Rattle.dart_syntax.specs.Statements as p
use Rattle.token_codes.specs.Codes.{class_of, kind_code, code_of_name, names, own_or_odd, sign_code, word_code, these}
use Rattle.token_codes.specs.Reads.{Reads}
use Rattle.token_codes.proofs.Leaves.{sign_reads, name_has}
use Rattle.syntax_readers.specs.Primaries.{expr_first}
use Rattle.syntax_readers.specs.Statements as i
use Rattle.laws_expr.specs.Nexts.{after_expr}
use Rattle.laws_expr.proofs.Tokens.{refuses}
use Rattle.laws_expr.proofs.Guarded.{guarded_laws, GuardedFit, guarded_front}
use Rattle.laws_stmt.specs.Statements.{unbraced_first}
use Rattle.laws_stmt.proofs.Jumps.{maybe_laws}

-- ---- a token with a brace's code is a brace, and no token with another one of these is

own_is : (b : Bool) (c : ℕ) → has (these s.LeftBrace) (own_or_odd b c) ≡ true → has (these s.LeftBrace) c ≡ true
own_is true c e = e
own_is false c e = absurd cc

word_off : (x : Word) → has (these s.LeftBrace) (word_code x) ≡ true → ⊥
word_off w.Assert e = absurd cc
word_off w.Break e = absurd cc
word_off w.Case e = absurd cc
word_off w.Catch e = absurd cc
word_off w.Class e = absurd cc
word_off w.Const e = absurd cc
word_off w.Continue e = absurd cc
word_off w.Default e = absurd cc
word_off w.Do e = absurd cc
word_off w.Else e = absurd cc
word_off w.Enum e = absurd cc
word_off w.Extends e = absurd cc
word_off w.False e = absurd cc
word_off w.Final e = absurd cc
word_off w.Finally e = absurd cc
word_off w.For e = absurd cc
word_off w.If e = absurd cc
word_off w.In e = absurd cc
word_off w.Is e = absurd cc
word_off w.New e = absurd cc
word_off w.Null e = absurd cc
word_off w.Rethrow e = absurd cc
word_off w.Return e = absurd cc
word_off w.Super e = absurd cc
word_off w.Switch e = absurd cc
word_off w.This e = absurd cc
word_off w.Throw e = absurd cc
word_off w.True e = absurd cc
word_off w.Try e = absurd cc
word_off w.Var e = absurd cc
word_off w.Void e = absurd cc
word_off w.While e = absurd cc
word_off w.With e = absurd cc
word_off w.Abstract e = absurd cc
word_off w.As e = absurd cc
word_off w.Deferred e = absurd cc
word_off w.Dynamic e = absurd cc
word_off w.Export e = absurd cc
word_off w.External e = absurd cc
word_off w.Factory e = absurd cc
word_off w.Get e = absurd cc
word_off w.Implements e = absurd cc
word_off w.Import e = absurd cc
word_off w.Library e = absurd cc
word_off w.Operator e = absurd cc
word_off w.Part e = absurd cc
word_off w.Set e = absurd cc
word_off w.Static e = absurd cc
word_off w.Typedef e = absurd cc

sign_is : (x : Sign) → has (these s.LeftBrace) (sign_code x) ≡ true → is_no_brace (tk.Sign x) ≡ false
sign_is s.LeftParenthesis e = absurd cc
sign_is s.RightParenthesis e = absurd cc
sign_is s.LeftBracket e = absurd cc
sign_is s.RightBracket e = absurd cc
sign_is s.LeftBrace e = refl
sign_is s.RightBrace e = absurd cc
sign_is s.Semicolon e = absurd cc
sign_is s.Comma e = absurd cc
sign_is s.Dot e = absurd cc
sign_is s.DotDot e = absurd cc
sign_is s.Colon e = absurd cc
sign_is s.Question e = absurd cc
sign_is s.AtSign e = absurd cc
sign_is s.Assign e = absurd cc
sign_is s.Arrow e = absurd cc
sign_is s.EqualEqual e = absurd cc
sign_is s.NotEqual e = absurd cc
sign_is s.Less e = absurd cc
sign_is s.Greater e = absurd cc
sign_is s.LessEqual e = absurd cc
sign_is s.GreaterEqual e = absurd cc
sign_is s.ShiftLeft e = absurd cc
sign_is s.Plus e = absurd cc
sign_is s.Minus e = absurd cc
sign_is s.Star e = absurd cc
sign_is s.Slash e = absurd cc
sign_is s.TildeSlash e = absurd cc
sign_is s.Percent e = absurd cc
sign_is s.Ampersand e = absurd cc
sign_is s.Bar e = absurd cc
sign_is s.Caret e = absurd cc
sign_is s.Tilde e = absurd cc
sign_is s.Bang e = absurd cc
sign_is s.AndAnd e = absurd cc
sign_is s.OrOr e = absurd cc
sign_is s.PlusPlus e = absurd cc
sign_is s.MinusMinus e = absurd cc
sign_is s.PlusAssign e = absurd cc
sign_is s.MinusAssign e = absurd cc
sign_is s.StarAssign e = absurd cc
sign_is s.SlashAssign e = absurd cc
sign_is s.TildeSlashAssign e = absurd cc
sign_is s.PercentAssign e = absurd cc
sign_is s.AmpersandAssign e = absurd cc
sign_is s.BarAssign e = absurd cc
sign_is s.CaretAssign e = absurd cc
sign_is s.ShiftLeftAssign e = absurd cc

brace_is : (k : TokenKind) (text : List ℕ) → has (these s.LeftBrace) (kind_code k text) ≡ true → is_no_brace k ≡ false
brace_is tk.Identifier text e = absurd ((apart {xs = names} {ys = these s.LeftBrace} refl).never_both (code_of_name text) (name_has text) e)
brace_is (tk.Word x) text e = absurd (word_off x (own_is (bytes_eq text (word_text x)) (word_code x) e))
brace_is tk.Integer text e = absurd cc
brace_is tk.Whole text e = absurd cc
brace_is (tk.Head q.Single) text e = absurd cc
brace_is (tk.Head q.Double) text e = absurd cc
brace_is tk.Middle text e = absurd cc
brace_is tk.Tail text e = absurd cc
brace_is (tk.Sign x) text e = sign_is x (own_is (bytes_eq text (sign_text x)) (sign_code x) e)

no_odd : (b : Bool) → has unbraced_first (own_or_odd b (sign_code s.LeftBrace)) ≡ true → ⊥
no_odd true e = absurd cc
no_odd false e = absurd cc

other_sign : (x : Sign) (text : List ℕ) → has unbraced_first (kind_code (tk.Sign x) text) ≡ true → is_no_brace (tk.Sign x) ≡ true
other_sign s.LeftParenthesis text e = refl
other_sign s.RightParenthesis text e = refl
other_sign s.LeftBracket text e = refl
other_sign s.RightBracket text e = refl
other_sign s.LeftBrace text e = absurd (no_odd (bytes_eq text (sign_text s.LeftBrace)) e)
other_sign s.RightBrace text e = refl
other_sign s.Semicolon text e = refl
other_sign s.Comma text e = refl
other_sign s.Dot text e = refl
other_sign s.DotDot text e = refl
other_sign s.Colon text e = refl
other_sign s.Question text e = refl
other_sign s.AtSign text e = refl
other_sign s.Assign text e = refl
other_sign s.Arrow text e = refl
other_sign s.EqualEqual text e = refl
other_sign s.NotEqual text e = refl
other_sign s.Less text e = refl
other_sign s.Greater text e = refl
other_sign s.LessEqual text e = refl
other_sign s.GreaterEqual text e = refl
other_sign s.ShiftLeft text e = refl
other_sign s.Plus text e = refl
other_sign s.Minus text e = refl
other_sign s.Star text e = refl
other_sign s.Slash text e = refl
other_sign s.TildeSlash text e = refl
other_sign s.Percent text e = refl
other_sign s.Ampersand text e = refl
other_sign s.Bar text e = refl
other_sign s.Caret text e = refl
other_sign s.Tilde text e = refl
other_sign s.Bang text e = refl
other_sign s.AndAnd text e = refl
other_sign s.OrOr text e = refl
other_sign s.PlusPlus text e = refl
other_sign s.MinusMinus text e = refl
other_sign s.PlusAssign text e = refl
other_sign s.MinusAssign text e = refl
other_sign s.StarAssign text e = refl
other_sign s.SlashAssign text e = refl
other_sign s.TildeSlashAssign text e = refl
other_sign s.PercentAssign text e = refl
other_sign s.AmpersandAssign text e = refl
other_sign s.BarAssign text e = refl
other_sign s.CaretAssign text e = refl
other_sign s.ShiftLeftAssign text e = refl

other_is : (k : TokenKind) (text : List ℕ) → has unbraced_first (kind_code k text) ≡ true → is_no_brace k ≡ true
other_is tk.Identifier text e = refl
other_is (tk.Word x) text e = refl
other_is tk.Integer text e = refl
other_is tk.Whole text e = refl
other_is (tk.Head x) text e = refl
other_is tk.Middle text e = refl
other_is tk.Tail text e = refl
other_is (tk.Sign x) text e = other_sign x text e

abbrev first : List ℕ
first = expr_first ++ these s.Semicolon

led : (ts : List Token) → starts class_of unbraced_first ts ≡ true → begins_with_no_brace ts ≡ true
unfolding class_of
led [] on = refl
led (u ∷ ts) on = other_is u.kind u.lexeme on

unled : (u : Token) (ts : List Token) → has first (class_of u) ≡ true → begins_with_no_brace (u ∷ ts) ≡ true → starts class_of unbraced_first (u ∷ ts) ≡ true
unfolding class_of
unled u ts on free = elim (has_cases unbraced_first (these s.LeftBrace) (class_of u) ((inside {xs = first} {ys = unbraced_first ++ these s.LeftBrace} refl).in_second (class_of u) on)) [
  | inl h ↦ h
  | inr h ↦ clash (is_no_brace u.kind) free (brace_is u.kind u.lexeme h)
]

-- ---- [expression] ;

module _ (expr : Reader Token Expr) (here : p.StmtNodes) (E : Reads expr here.expr_nodes.expr expr_first after_expr false) (A : Agrees expr_tokens here.expr_nodes.expr) where
  abbrev to_stmt : Value × Place → Stmt
  to_stmt x = t.expression_stmt x.0 x.1

  abbrev Plain : Phrase Stmt
  Plain = made stmt_tokens to_stmt (g.maybe_expr here.expr_nodes.expr ~ l.sign s.Semicolon)

  plain_laws : Reads (i.expression_stmt expr) Plain first nowhere false
  unfolding i.expression_stmt stmt_tokens
  plain_laws = made_laws (both_any_laws (maybe_laws E A) (sign_reads s.Semicolon) (λ v fits. apart refl)) to_stmt stmt_tokens nowhere (λ x fits. refl) (λ x fits. within_self [])

  -- what begins with none of these and no brace is refused
  pub expression_refused : (ts : List Token) → starts class_of (these s.LeftBrace) ts ≡ false → starts class_of unbraced_first ts ≡ false →
      i.expression_stmt expr ts ≡ Err ts
  expression_refused ts no_brace off = refuses plain_laws ts (of ts no_brace off) where
    brace_or : (c : ℕ) → has first c ≡ true → (has unbraced_first c ≡ true) ⊎ (has (these s.LeftBrace) c ≡ true)
    brace_or c on = has_cases unbraced_first (these s.LeftBrace) c ((inside {xs = first} {ys = unbraced_first ++ these s.LeftBrace} refl).in_second c on)

    of : (ts : List Token) → starts class_of (these s.LeftBrace) ts ≡ false → starts class_of unbraced_first ts ≡ false → starts class_of first ts ≡ false
    of [] no_brace off = refl
    of (u ∷ ts) no_brace off = not_true (has first (class_of u)) (λ on. elim (brace_or (class_of u) on) as (λ _. ⊥) [
      | inl h ↦ clash (has unbraced_first (class_of u)) h off
      | inr h ↦ clash (has (these s.LeftBrace) (class_of u)) h no_brace
    ])

  forth : (a : Stmt) → GuardedFit plain_laws unbraced_first a → (p.expression_of here).Fits a
  forth a (fits, on) = (fits, led (stmt_tokens a) on)

  started : (a : Stmt) (m : List Token) → Plain.Fits a → stmt_tokens a ≡ m → begins_with_no_brace m ≡ true → starts class_of unbraced_first m ≡ true
  started a [] fits is free = clash false (plain_laws.empties a fits is) refl
  started a (u ∷ m) fits is free = unled u m (plain_laws.firsts u m (subst Plain.front is (plain_laws.whole a fits))) free

  back : (a : Stmt) → (p.expression_of here).Fits a → GuardedFit plain_laws unbraced_first a
  back a (fits, free) = (fits, started a (stmt_tokens a) fits refl free)

  out : (ts : List Token) → guarded_front plain_laws unbraced_first ts → (p.expression_of here).front ts
  out ts (inl e) = (subst Plain.front (sym e) plain_laws.none, ap begins_with_no_brace e)
  out ts (inr (f, on)) = (f, led ts on)

  into : (ts : List Token) → (p.expression_of here).front ts → guarded_front plain_laws unbraced_first ts
  into [] f = inl refl
  into (u ∷ ts) (f, free) = inr (f, unled u ts (plain_laws.firsts u ts f) free)

  pub expression_laws : Reads (either (starts class_of unbraced_first) (i.expression_stmt expr) nothing) (p.expression_of here) unbraced_first nowhere false
  expression_laws = restated (guarded_laws plain_laws unbraced_first) forth back out into (within_self unbraced_first) (λ x fits. within_none []) (λ h. h)
