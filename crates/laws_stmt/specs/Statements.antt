-- What is proved of the readers of statements.
use Rattle.std.specs.Prelude.{ℕ, suc, ◌<◌, ◌≤◌, false, List, [], ◌∷◌, ◌++◌}
use Rattle.dart_token.specs.declared.sign.Sign.TheVariants as s
use Rattle.dart_token.specs.declared.word.Word.TheVariants as w
use Rattle.grammar_laws.specs.Codes.{nowhere}
use Rattle.grammar_laws.specs.Readers.{either, starts, nothing}
use Rattle.dart_syntax.specs.Statements as p
use Rattle.dart_syntax.specs.Statements.{within}
use Rattle.token_codes.specs.Codes.{class_of, names, atoms, creations, sign_codes, sign_code, word_code, these, this_word}
use Rattle.token_codes.specs.Reads.{Reads}
use Rattle.syntax_readers.specs.Primaries.{expr_first, string_first}
use Rattle.syntax_readers.specs.Types.{type_first, behind_type_name}
use Rattle.syntax_readers.specs.Parameters.{body, parameter_first}
use Rattle.syntax_readers.specs.Statements as i
use Rattle.syntax_readers.specs.Statements.{stage, closed, jump_first, declaration, declaration_first}
use Rattle.laws_expr.specs.Nexts.{after_expr}
use Rattle.laws_expr.specs.Statements.{OthersReadAt, ExpressionsReadAt}

-- what is asked of expressions
abbrev pub ExpressionRead : ℕ → Type 0
ExpressionRead n = Reads (closed (stage n).nodes.exprs) (within n).nodes.expr_nodes.expr expr_first after_expr false

-- what begins an expression statement: an expression that begins with no brace, or its semicolon
abbrev pub unbraced_first : List ℕ
unbraced_first = word_code w.Throw ∷ atoms ++ string_first ++ creations ++ word_code w.Super
    ∷ sign_codes (s.LeftParenthesis ∷ s.LeftBracket ∷ s.Less ∷ s.Minus ∷ s.Tilde ∷ s.Bang ∷ s.PlusPlus ∷ s.MinusMinus ∷ s.Semicolon ∷ [])

-- `return`, `break`, `continue` and `rethrow` (17.10, 17.12, 17.14, 17.15), a condition, and `catch`, which is a node (17.11);
-- expression statements, whose reader is asked only where one of their first tokens comes (17.2)
pub record JumpsReadAt (n : ℕ) : Type 0 where
  pub jump : Reads (i.jump (closed (stage n).nodes.exprs)) (p.jump_of (within n).nodes) jump_first nowhere false
  pub condition : Reads (i.condition_over (closed (stage n).nodes.exprs)) (p.condition_over (within n)) (these s.LeftParenthesis) nowhere false
  pub catch_clause : Reads (stage (suc n)).nodes.catch_clause (within (suc n)).nodes.catch_clause (this_word w.Catch) nowhere false
  pub expression : Reads (either (starts class_of unbraced_first) (i.expression_stmt (closed (stage n).nodes.exprs)) nothing) (p.expression_of (within n).nodes) unbraced_first nowhere false

abbrev pub JumpsRead : Type 0
JumpsRead = (n : ℕ) → ExpressionRead n → JumpsReadAt n

-- ---- parameters (9.2 Formal Parameters)

-- what may go on behind one: behind its name a type's name would go on, or its own parameters begin
abbrev pub behind_parameter : List ℕ
behind_parameter = behind_type_name ++ these s.LeftParenthesis

-- a parameter with n nodes, and parameters in their parentheses with one more
pub record ParametersReadAt (n : ℕ) : Type 0 where
  pub parameter : Reads (stage n).nodes.parameter (within n).nodes.parameter parameter_first (λ x. behind_parameter) false
  pub parameters : Reads (stage (suc n)).nodes.exprs.parameters (within (suc n)).nodes.expr_nodes.parameters (these s.LeftParenthesis) nowhere false

-- at each depth, where those of parameters and blocks hold at the smaller ones
abbrev pub ParametersRead : Type 0
ParametersRead = (n : ℕ) → ((m : ℕ) → m < n → OthersReadAt m) → ParametersReadAt n

-- ---- variables, functions in functions and their bodies (8 Variables, 17.4 Local Function Declaration, 9 Functions), and
-- either of the first two, as a statement (17.3 Local Variable Declaration)

-- what begins variables, and a function in a function
abbrev pub variable_first : List ℕ
variable_first = word_code w.Const ∷ word_code w.Var ∷ word_code w.Final ∷ type_first

abbrev pub function_first : List ℕ
function_first = word_code w.Void ∷ type_first ++ names

-- with one node more than what stands inside; a body is as deep as that
pub record DeclaredReadAt (n : ℕ) : Type 0 where
  pub variables : Reads (stage (suc n)).nodes.variables (within (suc n)).nodes.variables variable_first nowhere false
  pub local_function : Reads (stage (suc n)).nodes.local_function (within (suc n)).nodes.local_function function_first nowhere false
  pub body : Reads (body (stage n).nodes.exprs) (p.body_of (within n).nodes.expr_nodes) (sign_code s.Semicolon ∷ sign_code s.Arrow ∷ sign_code s.LeftBrace ∷ []) nowhere false
  pub declaration : Reads (declaration (stage (suc n)).nodes) (p.declaration_of (within (suc n)).nodes) declaration_first nowhere false

-- at each depth, where those of parameters and blocks hold up to there
abbrev pub DeclaredRead : Type 0
DeclaredRead = (n : ℕ) → ((m : ℕ) → m ≤ n → OthersReadAt m) → DeclaredReadAt n

-- ---- what is left: blocks (17.1 Blocks)

abbrev pub BlockReadAt : ℕ → Type 0
BlockReadAt n = Reads (stage n).nodes.exprs.block (within n).nodes.expr_nodes.block (these s.LeftBrace) nowhere false

-- at each depth, where those of blocks hold at the smaller ones
pub record ReadOverBlocksAt (n : ℕ) : Type 0 where
  pub expressions : ExpressionsReadAt n
  pub parameters : ParametersReadAt n
  pub others : BlockReadAt n → OthersReadAt n
  pub declared : BlockReadAt n → DeclaredReadAt n

abbrev pub ReadOverBlocks : Type 0
ReadOverBlocks = (n : ℕ) → ((m : ℕ) → m < n → BlockReadAt m) → ReadOverBlocksAt n
