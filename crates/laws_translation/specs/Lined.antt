-- A tree as it is once columns are forgotten, as the tree of a text that is read again has other columns.
use Rattle.std.specs.Prelude.{map}
use Rattle.core_program.specs.Alike.{line}
use Rattle.dart_tree.specs.UnitView.{maybe}
use Rattle.dart_tree.specs.Tree as t
use Rattle.laws_translation.specs.LinedLeaf as l

unfoldable mutual
  pub expr : t.Expr → t.Expr
  expr (t.assign target operator given) = t.assign (operand target) (l.operator operator) (expr given)
  expr (t.plain base more) = t.plain (operand base) (cascades more)
  expr (t.throw word given) = t.throw (line word) (expr given)

  pub operand : t.Operand → t.Operand
  operand (t.conditional condition question first colon second) =
      t.conditional (operand condition) (line question) (expr first) (line colon) (expr second)
  operand (t.binary first more) = t.binary (operand first) (tails more)
  operand (t.is_type base word bang of) = t.is_type (operand base) (line word) (maybe line bang) (l.type_node of)
  operand (t.as_type base word of) = t.as_type (operand base) (line word) (l.type_node of)
  operand (t.prefix operator base) = t.prefix (l.operator operator) (operand base)
  operand (t.postfix base more operator) = t.postfix (primary base) (selectors more) (maybe l.operator operator)
  operand (t.primary base) = t.primary (primary base)

  pub primary : t.Primary → t.Primary
  primary (t.super_access word next) = t.super_access (line word) (selector next)
  primary (t.bare_super word) = t.bare_super (line word)
  primary (t.atom atom) = t.atom (l.atom atom)
  primary (t.text all) = t.text (pieces all)
  primary (t.list_literal types opening all comma closing) =
      t.list_literal (l.type_arguments types) (line opening) (items all) (maybe line comma) (line closing)
  primary (t.map_literal types opening all comma closing) =
      t.map_literal (l.type_arguments types) (line opening) (entries all) (maybe line comma) (line closing)
  primary (t.new_object creation class constructor given) =
      t.new_object (l.creation creation) (l.type_node class) (maybe l.dot_name constructor) (arguments given)
  primary (t.function_literal given inner) = t.function_literal (parameters given) (body inner)
  primary (t.parenthesized opening given closing) = t.parenthesized (line opening) (expr given) (line closing)

  pub selector : t.Selector → t.Selector
  selector (t.member dot name) = t.member (maybe line dot) (l.identifier name)
  selector (t.index opening given closing) = t.index (line opening) (expr given) (line closing)
  selector (t.call given) = t.call (arguments given)

  pub value : t.Value → t.Value
  value t.omitted = t.omitted
  value (t.given operator given) = t.given (maybe l.operator operator) (expr given)

  pub parameter_kind : t.ParameterKind → t.ParameterKind
  parameter_kind (t.plain_parameter kind this_dot name) =
      t.plain_parameter (l.variable_kind kind) (maybe l.this_dot this_dot) (l.identifier name)
  parameter_kind (t.function_parameter result this_dot name inner) =
      t.function_parameter (maybe l.result_type result) (maybe l.this_dot this_dot) (l.identifier name) (parameters inner)

  pub stmt : t.Stmt → t.Stmt
  stmt (t.labelled label statement) = t.labelled (l.label label) (stmt statement)
  stmt (t.block_stmt inside) = t.block_stmt (block inside)
  stmt (t.variables_stmt declared) = t.variables_stmt (variables declared)
  stmt (t.function_stmt made) = t.function_stmt (function made)
  stmt (t.if_stmt word opening condition closing first) =
      t.if_stmt (line word) (line opening) (expr condition) (line closing) (stmt first)
  stmt (t.if_else word opening condition closing first other second) =
      t.if_else (line word) (line opening) (expr condition) (line closing) (stmt first) (line other) (stmt second)
  stmt (t.loop again) = t.loop (loop again)
  stmt (t.switch_stmt word opening given closing left parts right) =
      t.switch_stmt (line word) (line opening) (expr given) (line closing) (line left) (switch_parts parts) (line right)
  stmt (t.try_stmt word inside parts) = t.try_stmt (line word) (block inside) (try_parts parts)
  stmt (t.return_stmt word term semicolon) = t.return_stmt (line word) (value term) (line semicolon)
  stmt (t.jump jump) = t.jump (l.jump jump)
  stmt (t.expression_stmt term semicolon) = t.expression_stmt (value term) (line semicolon)

  pub loop : t.Loop → t.Loop
  loop (t.for_loop word opening start first_semicolon condition semicolon updates closing inner) =
      t.for_loop (line word) (line opening) (value start) (line first_semicolon) (value condition) (line semicolon) (items updates)
      (line closing) (stmt inner)
  loop (t.for_variables word opening declared condition semicolon updates closing inner) =
      t.for_variables (line word) (line opening) (variables declared) (value condition) (line semicolon) (items updates) (line closing)
      (stmt inner)
  loop (t.for_in word opening kind name inside iterated closing inner) =
      t.for_in (line word) (line opening) (l.variable_kind kind) (l.identifier name) (line inside) (expr iterated) (line closing)
      (stmt inner)
  loop (t.while_loop word opening condition closing inner) =
      t.while_loop (line word) (line opening) (expr condition) (line closing) (stmt inner)
  loop (t.do_loop word inner again opening condition closing semicolon) =
      t.do_loop (line word) (stmt inner) (line again) (line opening) (expr condition) (line closing) (line semicolon)

  pub body : t.Body → t.Body
  body (t.arrow_body arrow given semicolon) = t.arrow_body (line arrow) (expr given) (maybe line semicolon)
  body (t.block_body inside) = t.block_body (block inside)
  body (t.no_body semicolon) = t.no_body (line semicolon)

  pub arguments : t.Arguments → t.Arguments
  arguments (t.the_arguments opening all closing) = t.the_arguments (line opening) (items all) (line closing)

  pub parameters : t.Parameters → t.Parameters
  parameters (t.the_parameters opening required brackets optional closing) =
      t.the_parameters (line opening) (parameter_list required) (maybe l.brackets brackets) (parameter_list optional) (line closing)

  pub parameter : t.Parameter → t.Parameter
  parameter (t.the_parameter comma annotations kind term) =
      t.the_parameter (maybe line comma) (metadata annotations) (parameter_kind kind) (value term)

  pub annotation : t.Annotation → t.Annotation
  annotation (t.the_annotation at name more call all) =
      t.the_annotation (line at) (l.identifier name) (map l.dot_name more) (maybe l.parentheses call) (items all)

  pub variables : t.Variables → t.Variables
  variables (t.the_variables kind name term more semicolon) =
      t.the_variables (l.variable_kind kind) (l.identifier name) (value term) (more_variables more) (line semicolon)

  pub function : t.Function → t.Function
  function (t.the_function external result_type name given inner) =
      t.the_function (maybe line external) (maybe l.result_type result_type) (l.identifier name) (parameters given) (body inner)

  pub block : t.Block → t.Block
  block (t.the_block opening statements closing) = t.the_block (line opening) (stmts statements) (line closing)

  pub tails : t.Tails → t.Tails
  tails t.no_tails = t.no_tails
  tails (t.tail operator base rest) = t.tail (l.operator operator) (operand base) (tails rest)

  pub pieces : t.Pieces → t.Pieces
  pieces t.no_pieces = t.no_pieces
  pieces (t.piece kind place text term rest) = t.piece kind (line place) text (value term) (pieces rest)

  pub selectors : t.Selectors → t.Selectors
  selectors t.no_selectors = t.no_selectors
  selectors (t.selector x rest) = t.selector (selector x) (selectors rest)

  pub cascades : t.Cascades → t.Cascades
  cascades t.no_cascades = t.no_cascades
  cascades (t.cascade dots more term rest) = t.cascade (line dots) (selectors more) (value term) (cascades rest)

  pub items : t.Items → t.Items
  items t.no_items = t.no_items
  items (t.item comma label given rest) = t.item (maybe line comma) (maybe l.label label) (expr given) (items rest)

  pub entries : t.Entries → t.Entries
  entries t.no_entries = t.no_entries
  entries (t.entry comma key colon given rest) = t.entry (maybe line comma) (expr key) (line colon) (expr given) (entries rest)

  pub parameter_list : t.ParameterList → t.ParameterList
  parameter_list t.no_parameters = t.no_parameters
  parameter_list (t.parameter x rest) = t.parameter (parameter x) (parameter_list rest)

  pub metadata : t.Metadata → t.Metadata
  metadata t.no_metadata = t.no_metadata
  metadata (t.annotation x rest) = t.annotation (annotation x) (metadata rest)

  pub stmts : t.Stmts → t.Stmts
  stmts t.no_stmts = t.no_stmts
  stmts (t.stmt x rest) = t.stmt (stmt x) (stmts rest)

  pub more_variables : t.MoreVariables → t.MoreVariables
  more_variables t.no_variables = t.no_variables
  more_variables (t.variable comma name term rest) = t.variable (line comma) (l.identifier name) (value term) (more_variables rest)

  pub switch_parts : t.SwitchParts → t.SwitchParts
  switch_parts t.no_switch_parts = t.no_switch_parts
  switch_parts (t.switch_part labels word term colon statements rest) =
      t.switch_part (map l.label labels) (line word) (value term) (line colon) (stmts statements) (switch_parts rest)

  pub try_parts : t.TryParts → t.TryParts
  try_parts t.no_try_parts = t.no_try_parts
  try_parts (t.try_part kind inside rest) = t.try_part (l.try_kind kind) (block inside) (try_parts rest)
