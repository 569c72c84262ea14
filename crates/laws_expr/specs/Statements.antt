-- What is claimed of the readers of expressions, and what they ask of those of parameters and blocks.
use Rattle.std.specs.Prelude.{ℕ, zero, suc, ◌<◌, ◌≤◌, length, false, List, [], ◌∷◌, ◌++◌}
use Rattle.dart_token.specs.declared.sign.Sign.TheVariants as s
use Rattle.dart_tree.specs.Tree as t
use Rattle.dart_tree.specs.Tree.{Primary, Operand, Cascades}
use Rattle.dart_tree.specs.Tokens.{primary_tokens, operand_tokens, cascades_tokens}
use Rattle.grammar_laws.specs.Codes as c
use Rattle.grammar_laws.specs.Fronts.{both_spelling}
use Rattle.grammar_laws.specs.Halves.{strict}
use Rattle.dart_syntax.specs.Phrases.{Phrase, ◌~◌, ◌<|>◌, such, opt, made, made₄, no_room}
use Rattle.dart_syntax.specs.Leaves.{creation, dot_name}
use Rattle.dart_syntax.specs.Expressions as p
use Rattle.dart_syntax.specs.Expressions.{rows, to_cascades, type_takes_names}
use Rattle.dart_syntax.specs.Statements.{within}
use Rattle.token_codes.specs.Codes.{names, creations, these, sign_codes}
use Rattle.token_codes.specs.Reads.{Reads}
use Rattle.syntax_readers.specs.Types.{type_first}
use Rattle.syntax_readers.specs.Primaries as i
use Rattle.syntax_readers.specs.Primaries.{operand_first, expr_first}
use Rattle.syntax_readers.specs.Levels.{whole}
use Rattle.syntax_readers.specs.Expressions as r
use Rattle.syntax_readers.specs.Statements.{stage, closed}
use Rattle.laws_type.specs.Nexts.{after_type}
use Rattle.laws_expr.specs.Nexts.{after_expr, after_without, after_operand, after_primary, loosest, after_cascade, after_cascaded, after_strings}

-- ---- literals of lists and maps, and of functions, with at most so many nodes above one another

abbrev pub collections_over : p.ExprNodes → Phrase Primary
collections_over inner = p.list_over inner <|> p.map_over inner

unfoldable pub collections_within : ℕ → Phrase Primary
collections_within zero = no_room primary_tokens
collections_within (suc n) = collections_over (within n).nodes.expr_nodes

unfoldable pub functions_within : ℕ → Phrase Primary
functions_within zero = no_room primary_tokens
functions_within (suc n) = p.function_literal_over (within n).nodes.expr_nodes

-- a conditional expression and cascades behind it, as an initialiser has it
abbrev pub cascaded_over : p.ExprNodes → p.Levels → Phrase (Operand × Cascades)
cascaded_over inner levels = made (both_spelling operand_tokens cascades_tokens)
    (λ x. (x.0, to_cascades x.1)) (p.cascaded_over inner levels)

-- newExpression | constObjectExpression
abbrev pub objects_over : p.ExprNodes → Phrase Primary
objects_over here = made₄ primary_tokens t.new_object
    (creation ~ such type_takes_names (here.type ~ opt dot_name ~ here.arguments))

-- what begins a list or a map
abbrev pub collection_first : List ℕ
collection_first = sign_codes (s.LeftBracket ∷ s.LeftBrace ∷ s.Less ∷ [])

-- ---- the claims

-- of parameters and blocks (ECMA-408, 9.2 Formal Parameters, 17.1 Blocks)
pub record OthersReadAt (n : ℕ) : Type 0 where
  pub parameters : Reads (stage n).nodes.exprs.parameters (within n).nodes.expr_nodes.parameters
      (these s.LeftParenthesis) c.nowhere false
  pub block : Reads (stage n).nodes.exprs.block (within n).nodes.expr_nodes.block
      (these s.LeftBrace) c.nowhere false

-- of expressions, and of the nodes that they are made of. Each reader is taken where half an operator behind it is refused;
-- `super` alone is no operand of a row
pub record ExpressionsReadAt (n : ℕ) : Type 0 where
  pub type : Reads (stage n).nodes.exprs.type (within n).nodes.expr_nodes.type type_first after_type false
  pub expr : Reads (closed (stage n).nodes.exprs) (within n).nodes.expr_nodes.expr
      expr_first after_expr false
  pub without : Reads (strict (stage n).nodes.exprs.without) (within n).nodes.expr_nodes.without
      expr_first after_without false
  pub cascade : Reads (strict (stage n).nodes.exprs.cascade) (within n).nodes.expr_nodes.cascade
      (these s.DotDot) after_cascade false
  pub collection : Reads (stage n).nodes.exprs.collection (collections_within n)
      collection_first c.nowhere false
  pub function : Reads (strict (stage n).nodes.exprs.function) (functions_within n)
      (these s.LeftParenthesis) after_primary false
  pub arguments : Reads (stage n).nodes.exprs.arguments (within n).nodes.expr_nodes.arguments
      (these s.LeftParenthesis) c.nowhere false
  pub target : Reads (strict (stage n).levels.target) (within n).levels.target
      operand_first (after_operand (loosest 0)) false
  pub row : (i : ℕ) → i ≤ length rows →
      Reads (strict (whole ((stage n).levels.row i))) ((within n).levels.row i)
      operand_first (after_operand (loosest i)) false
  pub cascaded : Reads (strict (r.cascaded_over (stage n).nodes.exprs (stage n).levels))
      (cascaded_over (within n).nodes.expr_nodes (within n).levels)
      operand_first after_cascaded false

-- ---- the productions that end in no operand, from the expressions and arguments inside

pub record InsideReadAt (n : ℕ) : Type 0 where
  pub expr : Reads (closed (stage n).nodes.exprs) (within n).nodes.expr_nodes.expr
      expr_first after_expr false
  pub arguments : Reads (stage n).nodes.exprs.arguments (within n).nodes.expr_nodes.arguments
      (these s.LeftParenthesis) c.nowhere false

-- strings (16.5), selectors (16.14 to 16.18), what a cascade begins with (16.17.2), `new` and `const` (16.12), lists and maps
-- (16.7, 16.8), and arguments (16.14.1); the last two are nodes, with one more above those inside
pub record ProductionsReadAt (n : ℕ) : Type 0 where
  pub strings : Reads (i.strings (closed (stage n).nodes.exprs))
      (p.strings (within n).nodes.expr_nodes.expr) i.string_first after_strings false
  pub selector : Reads (i.selector (stage n).nodes.exprs) (p.selector_of (within n).nodes.expr_nodes)
      i.selector_first c.nowhere false
  pub section : Reads (i.section_over (stage n).nodes.exprs) (p.section_over (within n).nodes.expr_nodes)
      (names ++ these s.LeftBracket) (λ x. i.selector_first) false
  pub object : Reads (i.object (stage n).nodes.exprs) (objects_over (within n).nodes.expr_nodes)
      creations c.nowhere false
  pub collection : Reads (stage (suc n)).nodes.exprs.collection (collections_within (suc n))
      collection_first c.nowhere false
  pub arguments : Reads (stage (suc n)).nodes.exprs.arguments (within (suc n)).nodes.expr_nodes.arguments
      (these s.LeftParenthesis) c.nowhere false

abbrev pub ProductionsRead : Type 0
ProductionsRead = (n : ℕ) → InsideReadAt n → ProductionsReadAt n

-- at each depth, where those of parameters and blocks hold at the smaller ones
abbrev pub ExpressionsRead : Type 0
ExpressionsRead = (n : ℕ) → ((m : ℕ) → m < n → OthersReadAt m) → ExpressionsReadAt n
