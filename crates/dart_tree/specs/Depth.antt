-- How many nodes stand in one another: an expression is a node, and so is a level that has an operator, a postfix
-- expression that has a selector, `++` or `--`, and whatever else the grammar names, but not a declaration, a member or
-- a statement as such.
use Rattle.std.specs.Prelude.{ℕ, suc, max, List, [], ◌∷◌, Option, None, Some}
use Rattle.dart_tree.specs.declared.parameter.Parentheses.{Parentheses}
use Rattle.dart_tree.specs.declared.statement.Catch.{Catch}
use Rattle.dart_tree.specs.Types as y
use Rattle.dart_tree.specs.Tree as t
use Rattle.dart_tree.specs.Unit as u

abbrev mutual
  pub type_height : y.TypeNode → ℕ
  type_height (y.dynamic_type place) = 1
  type_height (y.named_type name member given) = suc (type_arguments_height given)

  pub type_arguments_height : y.TypeArguments → ℕ
  type_arguments_height y.no_types = 0
  type_arguments_height (y.listed_types opening listed closing) = type_list_height listed

  pub type_list_height : y.TypeList → ℕ
  type_list_height y.no_more_types = 0
  type_list_height (y.type_more comma argument rest) =
      max (type_height argument) (type_list_height rest)

abbrev pub type_option_height : Option y.TypeNode → ℕ
type_option_height None = 0
type_option_height (Some x) = type_height x

abbrev pub result_height : Option y.ResultType → ℕ
result_height None = 0
result_height (Some (y.void_result place)) = 0
result_height (Some (y.typed_result x)) = type_height x

abbrev pub kind_height : y.VariableKind → ℕ
kind_height y.no_kind = 0
kind_height (y.var_kind place) = 0
kind_height (y.final_kind place x) = type_option_height x
kind_height (y.const_kind place x) = type_option_height x
kind_height (y.typed_kind x) = type_height x

abbrev pub catch_height : Option Catch → ℕ
catch_height None = 0
catch_height (Some c) = 1

abbrev pub try_kind_height : y.TryKind → ℕ
try_kind_height (y.on_part place x c) = max (type_height x) (catch_height c)
try_kind_height (y.catch_part c) = 1
try_kind_height (y.finally_part place) = 0

-- the arguments of an annotation are a node where they are written
abbrev pub call_height : Option Parentheses → ℕ → ℕ
call_height None inside = 0
call_height (Some x) inside = suc inside

unfoldable mutual
  pub expr_height : t.Expr → ℕ
  expr_height (t.assign target operator value) =
      suc (max (operand_height target) (expr_height value))
  expr_height (t.plain operand cascades) =
      suc (max (operand_height operand) (cascades_height cascades))
  expr_height (t.throw word value) = suc (expr_height value)

  pub operand_height : t.Operand → ℕ
  operand_height (t.conditional condition question first colon second) =
      suc (max (operand_height condition) (max (expr_height first) (expr_height second)))
  operand_height (t.binary first more) = suc (max (operand_height first) (tails_height more))
  operand_height (t.is_type operand word bang of) =
      suc (max (operand_height operand) (type_height of))
  operand_height (t.as_type operand word of) = suc (max (operand_height operand) (type_height of))
  operand_height (t.prefix operator operand) = suc (operand_height operand)
  operand_height (t.postfix operand selectors operator) =
      suc (max (primary_height operand) (selectors_height selectors))
  operand_height (t.primary primary) = primary_height primary

  pub primary_height : t.Primary → ℕ
  primary_height (t.super_access word selector) = selector_height selector
  primary_height (t.bare_super word) = 1
  primary_height (t.atom atom) = 0
  primary_height (t.text pieces) = pieces_height pieces
  primary_height (t.list_literal types opening items comma closing) =
      suc (max (type_arguments_height types) (items_height items))
  primary_height (t.map_literal types opening entries comma closing) =
      suc (max (type_arguments_height types) (entries_height entries))
  primary_height (t.new_object creation class constructor arguments) =
      max (type_height class) (arguments_height arguments)
  primary_height (t.function_literal parameters body) =
      suc (max (parameters_height parameters) (body_height body))
  primary_height (t.parenthesized opening value closing) = expr_height value

  pub selector_height : t.Selector → ℕ
  selector_height (t.member dot name) = 0
  selector_height (t.index opening value closing) = expr_height value
  selector_height (t.call arguments) = arguments_height arguments

  pub value_height : t.Value → ℕ
  value_height t.omitted = 0
  value_height (t.given operator value) = expr_height value

  pub parameter_kind_height : t.ParameterKind → ℕ
  parameter_kind_height (t.plain_parameter kind this name) = kind_height kind
  parameter_kind_height (t.function_parameter result_type this name parameters) =
      max (result_height result_type) (parameters_height parameters)

  pub stmt_height : t.Stmt → ℕ
  stmt_height (t.labelled label statement) = stmt_height statement
  stmt_height (t.block_stmt block) = block_height block
  stmt_height (t.variables_stmt variables) = variables_height variables
  stmt_height (t.function_stmt function) = function_height function
  stmt_height (t.if_stmt word opening condition closing first) =
      suc (max (expr_height condition) (stmt_height first))
  stmt_height (t.if_else word opening condition closing first other second) =
      suc (max (expr_height condition) (max (stmt_height first) (stmt_height second)))
  stmt_height (t.loop loop) = loop_height loop
  stmt_height (t.switch_stmt word opening value closing left parts right) =
      suc (max (expr_height value) (switch_parts_height parts))
  stmt_height (t.try_stmt word block parts) =
      suc (max (block_height block) (try_parts_height parts))
  stmt_height (t.return_stmt word value semicolon) = value_height value
  stmt_height (t.jump jump) = 0
  stmt_height (t.expression_stmt value semicolon) = value_height value

  pub loop_height : t.Loop → ℕ
  loop_height (t.for_loop word opening start first_semicolon condition semicolon updates closing
      body) =
      suc (max (value_height start) (max (value_height condition)
      (max (items_height updates) (stmt_height body))))
  loop_height (t.for_variables word opening variables condition semicolon updates closing body) =
      suc (max (variables_height variables) (max (value_height condition)
      (max (items_height updates) (stmt_height body))))
  loop_height (t.for_in word opening kind name inside iterated closing body) =
      suc (max (kind_height kind) (max (expr_height iterated) (stmt_height body)))
  loop_height (t.while_loop word opening condition closing body) =
      suc (max (expr_height condition) (stmt_height body))
  loop_height (t.do_loop word body again opening condition closing semicolon) =
      suc (max (stmt_height body) (expr_height condition))

  pub body_height : t.Body → ℕ
  body_height (t.arrow_body arrow value semicolon) = expr_height value
  body_height (t.block_body block) = block_height block
  body_height (t.no_body semicolon) = 0

  pub arguments_height : t.Arguments → ℕ
  arguments_height (t.the_arguments opening items closing) = suc (items_height items)

  pub parameters_height : t.Parameters → ℕ
  parameters_height (t.the_parameters opening required brackets optional closing) =
      suc (max (parameter_list_height required) (parameter_list_height optional))

  -- a default stands beside its parameter, and not inside it
  pub parameter_height : t.Parameter → ℕ
  parameter_height (t.the_parameter comma metadata kind value) =
      max (suc (max (metadata_height metadata) (parameter_kind_height kind))) (value_height value)

  pub annotation_height : t.Annotation → ℕ
  annotation_height (t.the_annotation at name more call items) =
      call_height call (items_height items)

  pub variables_height : t.Variables → ℕ
  variables_height (t.the_variables kind name value more semicolon) =
      suc (max (kind_height kind) (max (value_height value) (more_variables_height more)))

  pub function_height : t.Function → ℕ
  function_height (t.the_function external result_type name parameters body) =
      suc (max (result_height result_type) (max (parameters_height parameters) (body_height body)))

  pub block_height : t.Block → ℕ
  block_height (t.the_block opening statements closing) = suc (stmts_height statements)

  pub tails_height : t.Tails → ℕ
  tails_height t.no_tails = 0
  tails_height (t.tail operator operand rest) = max (operand_height operand) (tails_height rest)

  pub pieces_height : t.Pieces → ℕ
  pieces_height t.no_pieces = 0
  pieces_height (t.piece kind place text value rest) = max (value_height value) (pieces_height rest)

  pub selectors_height : t.Selectors → ℕ
  selectors_height t.no_selectors = 0
  selectors_height (t.selector x rest) = max (selector_height x) (selectors_height rest)

  pub cascades_height : t.Cascades → ℕ
  cascades_height t.no_cascades = 0
  cascades_height (t.cascade dots selectors value rest) =
      max (suc (max (selectors_height selectors) (value_height value))) (cascades_height rest)

  pub items_height : t.Items → ℕ
  items_height t.no_items = 0
  items_height (t.item comma label value rest) = max (expr_height value) (items_height rest)

  pub entries_height : t.Entries → ℕ
  entries_height t.no_entries = 0
  entries_height (t.entry comma key colon value rest) =
      max (expr_height key) (max (expr_height value) (entries_height rest))

  pub parameter_list_height : t.ParameterList → ℕ
  parameter_list_height t.no_parameters = 0
  parameter_list_height (t.parameter x rest) = max (parameter_height x) (parameter_list_height rest)

  pub metadata_height : t.Metadata → ℕ
  metadata_height t.no_metadata = 0
  metadata_height (t.annotation x rest) = max (annotation_height x) (metadata_height rest)

  pub stmts_height : t.Stmts → ℕ
  stmts_height t.no_stmts = 0
  stmts_height (t.stmt x rest) = max (stmt_height x) (stmts_height rest)

  pub more_variables_height : t.MoreVariables → ℕ
  more_variables_height t.no_variables = 0
  more_variables_height (t.variable comma name value rest) =
      max (value_height value) (more_variables_height rest)

  pub switch_parts_height : t.SwitchParts → ℕ
  switch_parts_height t.no_switch_parts = 0
  switch_parts_height (t.switch_part labels word value colon statements rest) =
      max (value_height value) (max (stmts_height statements) (switch_parts_height rest))

  pub try_parts_height : t.TryParts → ℕ
  try_parts_height t.no_try_parts = 0
  try_parts_height (t.try_part kind block rest) =
      max (try_kind_height kind) (max (block_height block) (try_parts_height rest))

-- ---- declarations and units

abbrev pub height_if : {A : Type 0} → (A → ℕ) → Option A → ℕ
height_if f None = 0
height_if f (Some x) = f x

abbrev pub highest : {A : Type 0} → (A → ℕ) → List A → ℕ
highest f [] = 0
highest f (x ∷ xs) = max (f x) (highest f xs)

abbrev pub bound_height : u.Bound → ℕ
bound_height x = type_height x.bound

abbrev pub type_parameter_height : u.TypeParameter → ℕ
type_parameter_height x = max (metadata_height x.metadata) (height_if bound_height x.bound)

abbrev pub type_parameters_height : u.TypeParameters → ℕ
type_parameters_height x = highest type_parameter_height x.items

abbrev pub clause_height : u.TypeClause → ℕ
clause_height x = type_list_height x.types

abbrev pub superclass_height : u.Superclass → ℕ
superclass_height x = max (type_height x.superclass) (height_if clause_height x.mixins)

abbrev pub init_kind_height : u.InitKind → ℕ
init_kind_height (u.super_init place name given) = arguments_height given
init_kind_height (u.field_init this_dot name equals first more) =
    max (operand_height first) (cascades_height more)

abbrev pub init_height : u.Init → ℕ
init_height x = suc (init_kind_height x.kind)

abbrev pub initializers_height : u.Initializers → ℕ
initializers_height x = highest init_height x.items

abbrev pub constructor_height : u.Constructor → ℕ
constructor_height (u.generative constant name given inits inner) =
    suc (max (parameters_height given) (max (height_if initializers_height inits)
    (body_height inner)))
constructor_height (u.redirecting name given colon this other handed semicolon) =
    suc (max (parameters_height given) (arguments_height handed))
constructor_height (u.factory external word name given inner) =
    suc (max (parameters_height given) (body_height inner))
constructor_height (u.redirecting_factory external word name given equals target other semicolon) =
    suc (max (parameters_height given) (type_height target))

abbrev pub accessor_kind_height : u.AccessorKind → ℕ
accessor_kind_height (u.getter place name) = 0
accessor_kind_height (u.setter place name given) = parameters_height given

abbrev pub accessor_height : u.Accessor → ℕ
accessor_height x =
    suc (max (result_height x.result_type) (max (accessor_kind_height x.kind) (body_height x.body)))

-- an operator is a member, which has the depth of the class
abbrev pub operator_height : u.OperatorMember → ℕ
operator_height x =
    max (result_height x.result_type) (max (parameters_height x.parameters) (body_height x.body))

abbrev pub member_kind_height : u.MemberKind → ℕ
member_kind_height (u.constructor_member x) = constructor_height x
member_kind_height (u.function_member x) = function_height x
member_kind_height (u.accessor_member x) = accessor_height x
member_kind_height (u.variables_member x) = variables_height x
member_kind_height (u.operator_member x) = operator_height x

abbrev pub member_height : u.Member → ℕ
member_height x = max (metadata_height x.metadata) (member_kind_height x.kind)

abbrev pub class_kind_height : u.ClassKind → ℕ
class_kind_height (u.declared_class above interfaces opening members closing) =
    max (height_if superclass_height above) (max (height_if clause_height interfaces)
    (highest member_height members))
class_kind_height (u.mixed_class equals above mixins interfaces semicolon) =
    max (type_height above) (max (clause_height mixins) (height_if clause_height interfaces))

abbrev pub class_height : u.Class → ℕ
class_height x =
    suc (max (height_if type_parameters_height x.parameters) (class_kind_height x.kind))

abbrev pub alias_height : u.Alias → ℕ
alias_height x =
    suc (max (result_height x.result_type) (max (height_if type_parameters_height x.type_parameters)
    (parameters_height x.parameters)))

abbrev pub decl_kind_height : u.DeclKind → ℕ
decl_kind_height (u.class_decl x) = class_height x
decl_kind_height (u.alias_decl x) = alias_height x
decl_kind_height (u.function_decl x) = function_height x
decl_kind_height (u.accessor_decl x) = accessor_height x
decl_kind_height (u.variables_decl x) = variables_height x
decl_kind_height (u.enum_decl x) = 1

abbrev pub decl_height : u.Decl → ℕ
decl_height x = max (metadata_height x.metadata) (decl_kind_height x.kind)

abbrev pub uri_height : u.DirectiveKind → ℕ
uri_height (u.part_of_directive part place name more) = 0
uri_height (u.library_directive word name more) = 0
uri_height (u.import_directive word uri prefix combinators) = pieces_height uri
uri_height (u.export_directive word uri combinators) = pieces_height uri
uri_height (u.part_directive word uri) = pieces_height uri

abbrev pub directive_height : u.Directive → ℕ
directive_height x = suc (max (metadata_height x.metadata) (uri_height x.kind))

abbrev pub unit_height : u.UnitTree → ℕ
unit_height x =
    suc (max (highest directive_height x.directives) (highest decl_height x.declarations))
