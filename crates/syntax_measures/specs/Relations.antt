-- What is said of the phrases of two depths, production by production: one relation, at the height
-- and the tokens that each tree has in dart_tree.
use Rattle.std.specs.Prelude.{ℕ, suc, max, List, Some}
use Rattle.dart_base.specs.declared.place.Place.{Place}
use Rattle.dart_token.specs.declared.token.Token.{Token}
use Rattle.dart_tree.specs.declared.statement.Catch.{Catch}
use Rattle.dart_tree.specs.Types.{TypeNode, TypeList, TypeArguments, ResultType, VariableKind}
use Rattle.dart_tree.specs.Tree.{Expr, Operand, Primary, Selector, Value, ParameterKind, Stmt, Arguments, Parameters, Variables, Function, Block, Selectors, Metadata}
use Rattle.dart_tree.specs.Unit.{Constructor, Accessor, Member, Class, Enum, Alias, Decl, Directive, UnitTree}
use Rattle.dart_tree.specs.LeafTokens.{type_tokens, type_list_tokens, type_arguments_tokens, result_tokens, kind_tokens, catch_tokens}
use Rattle.dart_tree.specs.Tokens.{expr_tokens, operand_tokens, primary_tokens, selector_tokens, stmt_tokens, arguments_tokens, parameters_tokens, variables_tokens, function_tokens, block_tokens}
use Rattle.dart_tree.specs.UnitTokens.{alias_tokens, accessor_tokens, constructor_tokens, member_tokens, class_tokens, enum_tokens, decl_tokens, directive_tokens, unit_tokens}
use Rattle.dart_tree.specs.Depth as height
use Rattle.dart_tree.specs.Depth.{type_height, type_list_height, type_arguments_height, result_height, kind_height, catch_height, constructor_height, accessor_height, member_height, class_height, alias_height, decl_height, directive_height, unit_height}
use Rattle.dart_syntax.specs.Phrases.{Phrase}
use Rattle.dart_syntax.specs.Types.{types, type_arguments, result_over, kind_over, variables_kind_over}
use Rattle.dart_syntax.specs.Expressions.{ExprNodes, Levels}
use Rattle.dart_syntax.specs.Statements.{StmtNodes, Within}
use Rattle.dart_syntax.specs.Declarations.{constructor_within, external_or_none, function_within, accessor_within, alias_within, member_within, class_within, enum_within, decl_within}
use Rattle.dart_syntax.specs.Units.{directive_within, part_of_over, library_over, imports_and_exports, part_over, unit_within}
use Rattle.dart_syntax.specs.Agreement.{section_tokens, bare_parameter_tokens}

-- of trees of a type, with their heights and their tokens: said of two phrases of them
abbrev pub Relation : Type 1
Relation = (A : Type 0) → (A → ℕ) → (A → List Token) → Phrase A → Phrase A → Type 0

-- ---- what the trees have no height for

-- a result that is written
abbrev pub written_result_height : ResultType → ℕ
written_result_height x = result_height (Some x)

-- a `catch` that is written, which is a node
abbrev pub written_catch_height : Catch → ℕ
written_catch_height x = catch_height (Some x)

-- a cascade's part, which is a node
abbrev pub section_height : Place × (Selectors × Value) → ℕ
section_height (dots, (selectors, value)) =
    suc (max (height.selectors_height selectors) (height.value_height value))

-- a parameter without its comma and default, which is a node
abbrev pub bare_parameter_height : Metadata × ParameterKind → ℕ
bare_parameter_height (metadata, kind) =
    suc (max (height.metadata_height metadata) (height.parameter_kind_height kind))

-- an enum, which is a node with nothing inside
abbrev pub enum_height : Enum → ℕ
enum_height x = 1

-- ---- by production

-- types, and what is made of them (ECMA-408, 19.1 Static Types)
pub record TypesRelate (R : Relation) (p q : Phrase TypeNode) : Type 0 where
  pub type : R TypeNode type_height type_tokens p q
  pub list : R TypeList type_list_height type_list_tokens (types p) (types q)
  pub arguments : R TypeArguments type_arguments_height type_arguments_tokens
      (type_arguments (types p)) (type_arguments (types q))
  pub result : R ResultType written_result_height result_tokens (result_over p) (result_over q)
  pub kind : R VariableKind kind_height kind_tokens (kind_over p) (kind_over q)
  pub variables_kind : R VariableKind kind_height kind_tokens
      (variables_kind_over p) (variables_kind_over q)

-- the nodes of two depths (16 Expressions)
pub record ExprsRelate (R : Relation) (p q : ExprNodes) : Type 0 where
  pub type : R TypeNode type_height type_tokens p.type q.type
  pub expr : R Expr height.expr_height expr_tokens p.expr q.expr
  pub without : R Expr height.expr_height expr_tokens p.without q.without
  pub cascade : R (Place × (Selectors × Value)) section_height section_tokens p.cascade q.cascade
  pub bare : R Operand height.operand_height operand_tokens p.bare q.bare
  pub literal : R Primary height.primary_height primary_tokens p.literal q.literal
  pub arguments : R Arguments height.arguments_height arguments_tokens p.arguments q.arguments
  pub parameters : R Parameters height.parameters_height parameters_tokens p.parameters q.parameters
  pub block : R Block height.block_height block_tokens p.block q.block

-- the operands that are no deeper, with each row of operators
pub record LevelsRelate (R : Relation) (p q : Levels) : Type 0 where
  pub primary : R Primary height.primary_height primary_tokens p.primary q.primary
  pub bracketed : R Selector height.selector_height selector_tokens p.bracketed q.bracketed
  pub target : R Operand height.operand_height operand_tokens p.target q.target
  pub postfix : R Operand height.operand_height operand_tokens p.postfix q.postfix
  pub row : (i : ℕ) → R Operand height.operand_height operand_tokens (p.row i) (q.row i)

-- the nodes of statements, and statements themselves (17 Statements)
pub record StmtsRelate (R : Relation) (p q : StmtNodes) : Type 0 where
  pub expr_nodes : ExprsRelate R p.expr_nodes q.expr_nodes
  pub variables : R Variables height.variables_height variables_tokens p.variables q.variables
  pub local_function : R Function height.function_height function_tokens
      p.local_function q.local_function
  pub parameter : R (Metadata × ParameterKind) bare_parameter_height bare_parameter_tokens
      p.parameter q.parameter
  pub catch_clause : R Catch written_catch_height catch_tokens p.catch_clause q.catch_clause
  pub compound : R Stmt height.stmt_height stmt_tokens p.compound q.compound

pub record WithinRelate (R : Relation) (p q : Within) : Type 0 where
  pub nodes : StmtsRelate R p.nodes q.nodes
  pub levels : LevelsRelate R p.levels q.levels
  pub stmt : R Stmt height.stmt_height stmt_tokens p.stmt q.stmt

-- declarations, and what classes are made of, in a class of each name (18 Libraries and Scripts, 10
-- Classes)
pub record DeclarationsRelate (R : Relation) (n m : ℕ) : Type 0 where
  pub declaration : R Decl decl_height decl_tokens (decl_within n) (decl_within m)
  pub class : R Class class_height class_tokens (class_within n) (class_within m)
  pub member : (class : List ℕ) →
      R Member member_height member_tokens (member_within n class) (member_within m class)
  pub constructor : (class : List ℕ) → R Constructor constructor_height constructor_tokens
      (constructor_within class n) (constructor_within class m)
  pub alias : R Alias alias_height alias_tokens (alias_within n) (alias_within m)
  pub function : R Function height.function_height function_tokens
      (function_within external_or_none n) (function_within external_or_none m)
  pub accessor : R Accessor accessor_height accessor_tokens
      (accessor_within external_or_none n) (accessor_within external_or_none m)
  pub enum : R Enum enum_height enum_tokens (enum_within n) (enum_within m)

-- units and their directives (18 Libraries and Scripts)
pub record UnitsRelate (R : Relation) (n m : ℕ) : Type 0 where
  pub unit : R UnitTree unit_height unit_tokens (unit_within n) (unit_within m)
  pub part_of : R Directive directive_height directive_tokens
      (directive_within part_of_over n) (directive_within part_of_over m)
  pub library : R Directive directive_height directive_tokens
      (directive_within library_over n) (directive_within library_over m)
  pub import_or_export : R Directive directive_height directive_tokens
      (directive_within imports_and_exports n) (directive_within imports_and_exports m)
  pub part : R Directive directive_height directive_tokens
      (directive_within part_over n) (directive_within part_over m)
