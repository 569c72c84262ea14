-- That the phrases and the trees speak of the same lists of tokens.
use Rattle.std.specs.Prelude.{◌≡◌, ℕ, List, [], ◌++◌}
use Rattle.grammar_laws.specs.Fronts.{both_spelling}
use Rattle.dart_base.specs.declared.place.Place.{Place}
use Rattle.dart_token.specs.declared.token.Token.{Token}
use Rattle.dart_token.specs.declared.sign.Sign.TheVariants as s
use Rattle.dart_tree.specs.LeafTokens.{type_tokens, type_list_tokens, type_arguments_tokens, result_tokens, kind_tokens, catch_tokens}
use Rattle.dart_tree.specs.Tree.{Value, ParameterKind, Selectors, Metadata}
use Rattle.dart_tree.specs.Tokens.{expr_tokens, operand_tokens, primary_tokens, selector_tokens, value_tokens, parameter_kind_tokens, stmt_tokens, arguments_tokens, parameters_tokens, variables_tokens, function_tokens, block_tokens, selectors_tokens, metadata_tokens}
use Rattle.dart_tree.specs.UnitTokens.{alias_tokens, accessor_tokens, constructor_tokens, member_tokens, class_tokens, enum_tokens, decl_tokens, directive_tokens, unit_tokens}
use Rattle.dart_syntax.specs.Phrases.{Phrase}
use Rattle.dart_syntax.specs.Leaves.{sign_tokens}
use Rattle.dart_syntax.specs.Types.{type_within, types, type_arguments, result_over, kind_over, variables_kind_over}
use Rattle.dart_syntax.specs.Expressions.{ExprNodes, Levels}
use Rattle.dart_syntax.specs.Statements.{StmtNodes, Within}
use Rattle.dart_syntax.specs.Declarations.{constructor_within, external_or_none, function_within, accessor_within, alias_within, member_within, class_within, enum_within, decl_within}
use Rattle.dart_syntax.specs.Units.{directive_within, part_of_over, library_over, imports_and_exports, part_over, unit_within}

-- the phrase is one of these tokens
pub record Agrees {A : Type 0} (tokens : A → List Token) (p : Phrase A) : Type 0 where
  -- its trees have them
  pub spells : (a : A) → p.spelling a ≡ tokens a
  -- those of a tree that fits are a list that begins one
  pub whole : (a : A) → p.Fits a → p.front (tokens a)
  -- so is the empty list
  pub none : p.front []
  -- and what such a list begins with
  pub closed : (x y : List Token) → p.front (x ++ y) → p.front x

-- types of every depth, and what is made of them (ECMA-408, 19.1 Static Types)
pub record TypesAgree (n : ℕ) : Type 0 where
  pub type : Agrees type_tokens (type_within n)
  pub list : Agrees type_list_tokens (types (type_within n))
  pub arguments : Agrees type_arguments_tokens (type_arguments (types (type_within n)))
  pub result : Agrees result_tokens (result_over (type_within n))
  pub kind : Agrees kind_tokens (kind_over (type_within n))
  pub variables_kind : Agrees kind_tokens (variables_kind_over (type_within n))

-- the tokens of a cascade's part, and of a parameter without its comma and default
abbrev pub section_tokens : Place × (Selectors × Value) → List Token
section_tokens = both_spelling (sign_tokens s.DotDot) (both_spelling selectors_tokens value_tokens)

abbrev pub bare_parameter_tokens : Metadata × ParameterKind → List Token
bare_parameter_tokens = both_spelling metadata_tokens parameter_kind_tokens

-- the nodes of one depth, and its levels of operators (16 Expressions)
pub record ExprsAgree (nodes : ExprNodes) : Type 0 where
  pub type : Agrees type_tokens nodes.type
  pub expr : Agrees expr_tokens nodes.expr
  pub without : Agrees expr_tokens nodes.without
  pub cascade : Agrees section_tokens nodes.cascade
  pub bare : Agrees operand_tokens nodes.bare
  pub literal : Agrees primary_tokens nodes.literal
  pub arguments : Agrees arguments_tokens nodes.arguments
  pub parameters : Agrees parameters_tokens nodes.parameters
  pub block : Agrees block_tokens nodes.block

pub record LevelsAgree (levels : Levels) : Type 0 where
  pub primary : Agrees primary_tokens levels.primary
  pub bracketed : Agrees selector_tokens levels.bracketed
  pub target : Agrees operand_tokens levels.target
  pub postfix : Agrees operand_tokens levels.postfix
  pub row : (i : ℕ) → Agrees operand_tokens (levels.row i)

-- the nodes of statements, and statements themselves (17 Statements)
pub record StmtsAgree (nodes : StmtNodes) : Type 0 where
  pub expr_nodes : ExprsAgree nodes.expr_nodes
  pub variables : Agrees variables_tokens nodes.variables
  pub local_function : Agrees function_tokens nodes.local_function
  pub parameter : Agrees bare_parameter_tokens nodes.parameter
  pub catch_clause : Agrees catch_tokens nodes.catch_clause
  pub compound : Agrees stmt_tokens nodes.compound

pub record WithinAgrees (stage : Within) : Type 0 where
  pub nodes : StmtsAgree stage.nodes
  pub levels : LevelsAgree stage.levels
  pub stmt : Agrees stmt_tokens stage.stmt

-- declarations, and what classes are made of, in a class of each name (18 Libraries and Scripts,
-- 10 Classes, 13 Enums)
pub record DeclarationsAgree (n : ℕ) : Type 0 where
  pub declaration : Agrees decl_tokens (decl_within n)
  pub class : Agrees class_tokens (class_within n)
  pub member : (class : List ℕ) → Agrees member_tokens (member_within n class)
  pub constructor : (class : List ℕ) → Agrees constructor_tokens (constructor_within class n)
  pub alias : Agrees alias_tokens (alias_within n)
  pub enum : Agrees enum_tokens (enum_within n)
  pub function : Agrees function_tokens (function_within external_or_none n)
  pub accessor : Agrees accessor_tokens (accessor_within external_or_none n)

-- units and their directives (18 Libraries and Scripts)
pub record UnitsAgree (n : ℕ) : Type 0 where
  pub unit : Agrees unit_tokens (unit_within n)
  pub part_of : Agrees directive_tokens (directive_within part_of_over n)
  pub library : Agrees directive_tokens (directive_within library_over n)
  pub import_or_export : Agrees directive_tokens (directive_within imports_and_exports n)
  pub part : Agrees directive_tokens (directive_within part_over n)
