-- What is proved of all that statements are made of beside statements, which holds statements in its blocks alone.
use Rattle.std.specs.Prelude.{◌≡◌, ℕ, ◌≤◌, true, false, List, ◌∷◌, ◌++◌, Err}
use Rattle.dart_token.specs.declared.token.Token.{Token}
use Rattle.dart_token.specs.declared.sign.Sign.TheVariants as s
use Rattle.dart_token.specs.declared.word.Word.TheVariants as w
use Rattle.dart_tree.specs.Tree as t
use Rattle.dart_tree.specs.Types.{VariableKind}
use Rattle.dart_tree.specs.declared.identifier.Identifier.{Identifier}
use Rattle.grammar_laws.specs.Codes.{Apart, nowhere}
use Rattle.grammar_laws.specs.Readers.{both, either, starts, nothing}
use Rattle.dart_syntax.specs.Phrases.{Phrase, ◌~◌, ◌<|>◌, perhaps}
use Rattle.dart_syntax.specs.Leaves as l
use Rattle.dart_syntax.specs.Types.{without_kind, kind_over}
use Rattle.dart_syntax.specs.Expressions as g
use Rattle.dart_syntax.specs.Statements as p
use Rattle.dart_syntax.specs.Statements.{within}
use Rattle.token_codes.specs.Codes.{class_of, names, word_code, these, this_word}
use Rattle.token_codes.specs.Leaves.{sign, identifier}
use Rattle.token_codes.specs.Reads.{Reads}
use Rattle.syntax_readers.specs.Types.{type_first}
use Rattle.syntax_readers.specs.Primaries.{expr_first, maybe_expr}
use Rattle.syntax_readers.specs.Parameters.{maybe_kind}
use Rattle.syntax_readers.specs.Statements as i
use Rattle.syntax_readers.specs.Statements.{stage, closed, jump_first, declaration_first}
use Rattle.laws_stmt.specs.Statements.{BlockReadAt, unbraced_first, variable_first}

-- ---- statements that hold no statements

-- declarations (17.3 Local Variable Declaration, 17.4 Local Function Declaration), jumps (17.10, 17.12, 17.14, 17.15), and expression
-- statements (17.2), whose reader is asked only where one of their first tokens comes, and refuses what begins with none and no brace
pub record SinglesReadAt (n : ℕ) : Type 0 where
  pub declaration : Reads (i.declaration (stage n).nodes) (p.declaration_of (within n).nodes) declaration_first nowhere false
  pub jump : Reads (i.jump (closed (stage n).nodes.exprs)) (p.jump_of (within n).nodes) jump_first nowhere false
  pub expression : Reads (either (starts class_of unbraced_first) (i.expression_stmt (closed (stage n).nodes.exprs)) nothing) (p.expression_of (within n).nodes)
      unbraced_first nowhere false
  pub refused : (ts : List Token) → starts class_of (these s.LeftBrace) ts ≡ false → starts class_of unbraced_first ts ≡ false →
      i.expression_stmt (closed (stage n).nodes.exprs) ts ≡ Err ts

-- ---- heads of statements

-- an expression in parentheses
abbrev pub ConditionReadAt : ℕ → Type 0
ConditionReadAt n = Reads (i.condition_over (closed (stage n).nodes.exprs)) (p.condition_over (within n)) (these s.LeftParenthesis) nowhere false

-- the expression behind `case`, and its colon (17.9 Switch)
abbrev pub CaseReadAt : ℕ → Type 0
CaseReadAt n = Reads (both (closed (stage n).nodes.exprs) (sign s.Colon)) ((within n).nodes.expr_nodes.expr ~ l.sign s.Colon) expr_first nowhere false

-- `catch` with its names (17.11 Try)
abbrev pub CatchReadAt : ℕ → Type 0
CatchReadAt n = Reads (stage n).nodes.catch_clause (within n).nodes.catch_clause (this_word w.Catch) nowhere false

-- ---- `for` (17.6 For)

-- a variable's kind or none, and its name
abbrev pub kind_name_of : ℕ → Phrase (VariableKind × Identifier)
kind_name_of n = (without_kind <|> kind_over (within n).nodes.expr_nodes.type) ~ l.identifier

-- what begins a kind or a name
abbrev pub kind_first : List ℕ
kind_first = word_code w.Var ∷ word_code w.Final ∷ type_first ++ names

-- what may go on behind an expression or none, and behind a list of expressions or none, stays apart from the sign behind it
pub record ForPartsReadAt (n : ℕ) : Type 0 where
  pub behind_value : List ℕ
  pub value : Reads (maybe_expr (closed (stage n).nodes.exprs)) (g.maybe_expr (within n).nodes.expr_nodes.expr) expr_first (λ x. behind_value) true
  pub value_off : Apart behind_value (these s.Semicolon)
  pub behind_updates : List ℕ
  pub updates : Reads (i.updates_over (closed (stage n).nodes.exprs)) (perhaps t.no_items (g.plain_list (within n).nodes.expr_nodes.expr)) expr_first
      (λ x. behind_updates) true
  pub updates_off : Apart behind_updates (these s.RightParenthesis)
  pub variables : Reads (stage n).nodes.variables (within n).nodes.variables variable_first nowhere false
  -- in expression )
  pub iterated : Reads (both (closed (stage n).nodes.exprs) (sign s.RightParenthesis)) ((within n).nodes.expr_nodes.expr ~ l.sign s.RightParenthesis)
      expr_first nowhere false
  -- a variable's kind or none, and its name
  pub behind_name : List ℕ
  pub kind_name : Reads (both (maybe_kind (stage n).nodes.exprs.type) identifier) (kind_name_of n) kind_first (λ x. behind_name) false
  pub kind_off : Apart behind_name (this_word w.In)

-- ---- all of it

pub record BesidesReadAt (n : ℕ) : Type 0 where
  pub singles : SinglesReadAt n
  pub for_parts : ForPartsReadAt n
  pub condition : ConditionReadAt n
  pub case_value : CaseReadAt n
  pub catch_clause : CatchReadAt n

-- at each depth, where those of blocks hold up to there
abbrev pub BesidesRead : Type 0
BesidesRead = (n : ℕ) → ((m : ℕ) → m ≤ n → BlockReadAt m) → BesidesReadAt n
