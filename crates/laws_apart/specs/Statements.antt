-- That no list of tokens leaves a choice between declarations and expression statements, or between the kinds of heads of `for`.
use Rattle.std.specs.Prelude.{◌≡◌, ℕ, true, List, [], ◌∷◌, ◌++◌}
use Rattle.dart_token.specs.declared.token.Token.{Token}
use Rattle.dart_token.specs.declared.sign.Sign.TheVariants as s
use Rattle.dart_token.specs.declared.word.Word.TheVariants as w
use Rattle.dart_tree.specs.Tokens.{stmt_tokens}
use Rattle.dart_tree.specs.Tree.{Stmt, Value, Variables}
use Rattle.dart_tree.specs.Types.{VariableKind}
use Rattle.dart_tree.specs.declared.identifier.Identifier.{Identifier}
use Rattle.dart_base.specs.declared.place.Place.{Place}
use Rattle.grammar_laws.specs.Codes.{has}
use Rattle.dart_syntax.specs.Phrases.{Phrase, ◌~◌, ◌<|>◌}
use Rattle.dart_syntax.specs.Leaves as l
use Rattle.dart_syntax.specs.Expressions as g
use Rattle.dart_syntax.specs.Statements as p
use Rattle.dart_syntax.specs.Statements.{within}
use Rattle.token_codes.specs.Codes.{class_of, names, sign_code, word_code, these, this_word}
use Rattle.syntax_readers.specs.Types.{type_first}
use Rattle.laws_stmt.specs.Besides.{kind_name_of}

-- what stands behind `on` and a type in a part of a `try`
abbrev pub body_codes : List ℕ
body_codes = word_code w.Catch ∷ sign_code s.LeftBrace ∷ []

-- behind `on` and a type's name the type goes on, or the part
abbrev pub behind_on_name : List ℕ
behind_on_name = sign_code s.Less ∷ sign_code s.Dot ∷ body_codes

-- of declarations and expression statements: no list of tokens is one and begins the other past that, and none is both; neither begins with
-- a label, nor as another part of a `try` does
pub record ApartAt (n : ℕ) : Type 0 where
  pub over_declaration : (a : Stmt) (t : Token) (ts : List Token) → (p.declaration_of (within n).nodes).Fits a → (p.expression_of (within n).nodes).front
      (stmt_tokens a ++ t ∷ ts) → ⊥
  pub over_expression : (b : Stmt) (t : Token) (ts : List Token) → (p.expression_of (within n).nodes).Fits b → (p.declaration_of (within n).nodes).front
      (stmt_tokens b ++ t ∷ ts) → ⊥
  pub never_both : (a b : Stmt) → (p.declaration_of (within n).nodes).Fits a → (p.expression_of (within n).nodes).Fits b → stmt_tokens a ≡ stmt_tokens b → ⊥
  pub no_label : (a c : Token) (ts : List Token) → has names (class_of a) ≡ true → has (these s.Colon) (class_of c) ≡ true →
      (p.declaration_of (within n).nodes <|> p.expression_of (within n).nodes).front (a ∷ c ∷ ts) → ⊥
  pub no_part : (a b c : Token) (ts : List Token) → has names (class_of a) ≡ true → has type_first (class_of b) ≡ true → has behind_on_name
      (class_of c) ≡ true →
      (p.declaration_of (within n).nodes <|> p.expression_of (within n).nodes).front (a ∷ b ∷ c ∷ ts) → ⊥

-- at every depth
abbrev pub StatementsApart : Type 0
StatementsApart = (n : ℕ) → ApartAt n

-- ---- `for` (17.6 For)

-- an expression or none, and its semicolon
abbrev pub start_of : ℕ → Phrase (Value × Place)
start_of n = g.maybe_expr (within n).nodes.expr_nodes.expr ~ l.sign s.Semicolon

-- the three kinds of heads: no list of tokens begins one and is more than another
pub record HeadsApartAt (n : ℕ) : Type 0 where
  pub variables_in : (x : VariableKind × Identifier) (u : Token) (ts : List Token) → (kind_name_of n).Fits x → has (this_word w.In) (class_of u) ≡ true →
      (within n).nodes.variables.front ((kind_name_of n).spelling x ++ u ∷ ts) → ⊥
  pub value_in : (x : VariableKind × Identifier) (u : Token) (ts : List Token) → (kind_name_of n).Fits x → has (this_word w.In) (class_of u) ≡ true →
      (start_of n).front ((kind_name_of n).spelling x ++ u ∷ ts) → ⊥
  pub kind_variables : (v : Variables) (ts : List Token) → (within n).nodes.variables.Fits v → (kind_name_of n).front
      ((within n).nodes.variables.spelling v ++ ts) → ⊥
  pub kind_value : (x : Value × Place) (ts : List Token) → (start_of n).Fits x → (kind_name_of n).front ((start_of n).spelling x ++ ts) → ⊥
  pub value_variables : (v : Variables) (ts : List Token) → (within n).nodes.variables.Fits v → (start_of n).front
      ((within n).nodes.variables.spelling v ++ ts) → ⊥
  pub variables_value : (x : Value × Place) (ts : List Token) → (start_of n).Fits x → (within n).nodes.variables.front ((start_of n).spelling x ++ ts) → ⊥

-- at every depth
abbrev pub HeadsApart : Type 0
HeadsApart = (n : ℕ) → HeadsApartAt n
