-- A tree without the annotations that change nothing in production mode (ECMA-408, 19.1 Static
-- Types): the types of variables and parameters and the results of functions. Where none of `var`,
-- `final` and `const` would be left before a variable, `var` stands at the place of its name.
use Rattle.std.specs.Prelude.{None}
use Rattle.dart_tree.specs.declared.identifier.Identifier.{Identifier}
use Rattle.dart_tree.specs.Places.{place_of}
use Rattle.dart_tree.specs.Types as y
use Rattle.dart_tree.specs.Tree as t

-- before the variable of this name
abbrev pub variable_kind : Identifier → y.VariableKind → y.VariableKind
variable_kind name y.no_kind = y.no_kind
variable_kind name (y.var_kind place) = y.var_kind place
variable_kind name (y.final_kind place of) = y.final_kind place None
variable_kind name (y.const_kind place of) = y.const_kind place None
variable_kind name (y.typed_kind of) = y.var_kind (place_of name)

-- before a parameter, where nothing need stand
abbrev pub parameter_type : y.VariableKind → y.VariableKind
parameter_type y.no_kind = y.no_kind
parameter_type (y.var_kind place) = y.var_kind place
parameter_type (y.final_kind place of) = y.final_kind place None
parameter_type (y.const_kind place of) = y.const_kind place None
parameter_type (y.typed_kind of) = y.no_kind

unfoldable mutual
  pub expr : t.Expr → t.Expr
  expr (t.assign target operator given) = t.assign (operand target) operator (expr given)
  expr (t.plain base more) = t.plain (operand base) (cascades more)
  expr (t.throw word given) = t.throw word (expr given)

  pub operand : t.Operand → t.Operand
  operand (t.conditional condition question first colon second) =
      t.conditional (operand condition) question (expr first) colon (expr second)
  operand (t.binary first more) = t.binary (operand first) (tails more)
  operand (t.is_type base word bang of) = t.is_type (operand base) word bang of
  operand (t.as_type base word of) = t.as_type (operand base) word of
  operand (t.prefix operator base) = t.prefix operator (operand base)
  operand (t.postfix base more operator) = t.postfix (primary base) (selectors more) operator
  operand (t.primary base) = t.primary (primary base)

  pub primary : t.Primary → t.Primary
  primary (t.super_access word next) = t.super_access word (selector next)
  primary (t.bare_super word) = t.bare_super word
  primary (t.atom atom) = t.atom atom
  primary (t.text all) = t.text (pieces all)
  primary (t.list_literal types opening all comma closing) =
      t.list_literal types opening (items all) comma closing
  primary (t.map_literal types opening all comma closing) =
      t.map_literal types opening (entries all) comma closing
  primary (t.new_object creation class constructor given) =
      t.new_object creation class constructor (arguments given)
  primary (t.function_literal given inner) = t.function_literal (parameters given) (body inner)
  primary (t.parenthesized opening given closing) = t.parenthesized opening (expr given) closing

  pub selector : t.Selector → t.Selector
  selector (t.member dot name) = t.member dot name
  selector (t.index opening given closing) = t.index opening (expr given) closing
  selector (t.call given) = t.call (arguments given)

  pub value : t.Value → t.Value
  value t.omitted = t.omitted
  value (t.given operator given) = t.given operator (expr given)

  pub parameter_kind : t.ParameterKind → t.ParameterKind
  parameter_kind (t.plain_parameter kind this_dot name) =
      t.plain_parameter (parameter_type kind) this_dot name
  parameter_kind (t.function_parameter result_type this_dot name given) =
      t.plain_parameter y.no_kind this_dot name

  pub stmt : t.Stmt → t.Stmt
  stmt (t.labelled label statement) = t.labelled label (stmt statement)
  stmt (t.block_stmt inside) = t.block_stmt (block inside)
  stmt (t.variables_stmt declared) = t.variables_stmt (variables declared)
  stmt (t.function_stmt made) = t.function_stmt (function made)
  stmt (t.if_stmt word opening condition closing first) =
      t.if_stmt word opening (expr condition) closing (stmt first)
  stmt (t.if_else word opening condition closing first other second) =
      t.if_else word opening (expr condition) closing (stmt first) other (stmt second)
  stmt (t.loop again) = t.loop (loop again)
  stmt (t.switch_stmt word opening given closing left parts right) =
      t.switch_stmt word opening (expr given) closing left (switch_parts parts) right
  stmt (t.try_stmt word inside parts) = t.try_stmt word (block inside) (try_parts parts)
  stmt (t.return_stmt word term semicolon) = t.return_stmt word (value term) semicolon
  stmt (t.jump jump) = t.jump jump
  stmt (t.expression_stmt term semicolon) = t.expression_stmt (value term) semicolon

  pub loop : t.Loop → t.Loop
  loop (t.for_loop word opening start first_semicolon condition semicolon updates closing inner) =
      t.for_loop word opening (value start) first_semicolon (value condition) semicolon
      (items updates) closing (stmt inner)
  loop (t.for_variables word opening declared condition semicolon updates closing inner) =
      t.for_variables word opening (variables declared) (value condition) semicolon
      (items updates) closing (stmt inner)
  loop (t.for_in word opening kind name inside iterated closing inner) =
      t.for_in word opening (variable_kind name kind) name inside (expr iterated) closing
      (stmt inner)
  loop (t.while_loop word opening condition closing inner) =
      t.while_loop word opening (expr condition) closing (stmt inner)
  loop (t.do_loop word inner again opening condition closing semicolon) =
      t.do_loop word (stmt inner) again opening (expr condition) closing semicolon

  pub body : t.Body → t.Body
  body (t.arrow_body arrow given semicolon) = t.arrow_body arrow (expr given) semicolon
  body (t.block_body inside) = t.block_body (block inside)
  body (t.no_body semicolon) = t.no_body semicolon

  pub arguments : t.Arguments → t.Arguments
  arguments (t.the_arguments opening all closing) = t.the_arguments opening (items all) closing

  pub parameters : t.Parameters → t.Parameters
  parameters (t.the_parameters opening required brackets optional closing) =
      t.the_parameters opening (parameter_list required) brackets (parameter_list optional) closing

  pub parameter : t.Parameter → t.Parameter
  parameter (t.the_parameter comma annotations kind term) =
      t.the_parameter comma (metadata annotations) (parameter_kind kind) (value term)

  pub annotation : t.Annotation → t.Annotation
  annotation (t.the_annotation at name more call all) =
      t.the_annotation at name more call (items all)

  pub variables : t.Variables → t.Variables
  variables (t.the_variables kind name term more semicolon) =
      t.the_variables (variable_kind name kind) name (value term) (more_variables more) semicolon

  pub function : t.Function → t.Function
  function (t.the_function external result_type name given inner) =
      t.the_function external None name (parameters given) (body inner)

  pub block : t.Block → t.Block
  block (t.the_block opening statements closing) = t.the_block opening (stmts statements) closing

  pub tails : t.Tails → t.Tails
  tails t.no_tails = t.no_tails
  tails (t.tail operator base rest) = t.tail operator (operand base) (tails rest)

  pub pieces : t.Pieces → t.Pieces
  pieces t.no_pieces = t.no_pieces
  pieces (t.piece kind place text term rest) = t.piece kind place text (value term) (pieces rest)

  pub selectors : t.Selectors → t.Selectors
  selectors t.no_selectors = t.no_selectors
  selectors (t.selector x rest) = t.selector (selector x) (selectors rest)

  pub cascades : t.Cascades → t.Cascades
  cascades t.no_cascades = t.no_cascades
  cascades (t.cascade dots more term rest) =
      t.cascade dots (selectors more) (value term) (cascades rest)

  pub items : t.Items → t.Items
  items t.no_items = t.no_items
  items (t.item comma label given rest) = t.item comma label (expr given) (items rest)

  pub entries : t.Entries → t.Entries
  entries t.no_entries = t.no_entries
  entries (t.entry comma key colon given rest) =
      t.entry comma (expr key) colon (expr given) (entries rest)

  pub parameter_list : t.ParameterList → t.ParameterList
  parameter_list t.no_parameters = t.no_parameters
  parameter_list (t.parameter x rest) = t.parameter (parameter x) (parameter_list rest)

  pub metadata : t.Metadata → t.Metadata
  metadata t.no_metadata = t.no_metadata
  metadata (t.annotation x rest) = t.annotation (annotation x) (metadata rest)

  pub stmts : t.Stmts → t.Stmts
  stmts t.no_stmts = t.no_stmts
  stmts (t.stmt x rest) = t.stmt (stmt x) (stmts rest)

  pub more_variables : t.MoreVariables → t.MoreVariables
  more_variables t.no_variables = t.no_variables
  more_variables (t.variable comma name term rest) =
      t.variable comma name (value term) (more_variables rest)

  pub switch_parts : t.SwitchParts → t.SwitchParts
  switch_parts t.no_switch_parts = t.no_switch_parts
  switch_parts (t.switch_part labels word term colon statements rest) =
      t.switch_part labels word (value term) colon (stmts statements) (switch_parts rest)

  pub try_parts : t.TryParts → t.TryParts
  try_parts t.no_try_parts = t.no_try_parts
  try_parts (t.try_part kind inside rest) = t.try_part kind (block inside) (try_parts rest)
