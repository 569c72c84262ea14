-- The tree that a value of the code is.
use Rattle.std.specs.Prelude.{Option, Some, None}
use Rattle.std.specs.Global.{Box}
use Rattle.dart_tree.specs.declared.types.TypeNode.{TypeNode}
use Rattle.dart_tree.specs.declared.types.TypeNode.TheVariants as tn
use Rattle.dart_tree.specs.declared.types.TypeArguments.{TypeArguments, Row_of-TypeArgument}
use Rattle.dart_tree.specs.declared.types.TypeArguments.{end_of-TypeArgument, more_of-TypeArgument}
use Rattle.dart_tree.specs.declared.types.TypeArguments.TheVariants as ta
use Rattle.dart_tree.specs.declared.types.ResultType.{ResultType}
use Rattle.dart_tree.specs.declared.types.ResultType.TheVariants as rt
use Rattle.dart_tree.specs.declared.parameter.VariableKind.{VariableKind}
use Rattle.dart_tree.specs.declared.parameter.VariableKind.TheVariants as vk
use Rattle.dart_tree.specs.declared.statement.TryKind.{TryKind}
use Rattle.dart_tree.specs.declared.statement.TryKind.TheVariants as tk
use Rattle.dart_tree.specs.Tree as t
use Rattle.dart_tree.specs.Types as y
use Rattle.dart_tree.specs.declared.expression.Expr.{Expr}
use Rattle.dart_tree.specs.declared.expression.Expr.TheVariants as e
use Rattle.dart_tree.specs.declared.expression.Operand.{Operand}
use Rattle.dart_tree.specs.declared.expression.Operand.TheVariants as o
use Rattle.dart_tree.specs.declared.expression.Primary.{Primary}
use Rattle.dart_tree.specs.declared.expression.Primary.TheVariants as p
use Rattle.dart_tree.specs.declared.expression.Selector.{Selector}
use Rattle.dart_tree.specs.declared.expression.Selector.TheVariants as s
use Rattle.dart_tree.specs.declared.expression.Value.{Value}
use Rattle.dart_tree.specs.declared.expression.Value.TheVariants as v
use Rattle.dart_tree.specs.declared.parameter.ParameterKind.{ParameterKind}
use Rattle.dart_tree.specs.declared.parameter.ParameterKind.TheVariants as k
use Rattle.dart_tree.specs.declared.statement.Stmt.{Stmt}
use Rattle.dart_tree.specs.declared.statement.Stmt.TheVariants as st
use Rattle.dart_tree.specs.declared.statement.Loop.{Loop}
use Rattle.dart_tree.specs.declared.statement.Loop.TheVariants as l
use Rattle.dart_tree.specs.declared.statement.Body.{Body}
use Rattle.dart_tree.specs.declared.statement.Body.TheVariants as b
use Rattle.dart_tree.specs.declared.expression.Arguments.{Arguments, Arguments'}
use Rattle.dart_tree.specs.declared.parameter.Parameters.{Parameters, Parameters'}
use Rattle.dart_tree.specs.declared.parameter.Parameter.{Parameter, Parameter'}
use Rattle.dart_tree.specs.declared.parameter.Annotation.{Annotation, Annotation'}
use Rattle.dart_tree.specs.declared.statement.Variables.{Variables, Variables'}
use Rattle.dart_tree.specs.declared.statement.Function.{Function, Function'}
use Rattle.dart_tree.specs.declared.expression.Operand.{Row_of-Tail, end_of-Tail, more_of-Tail}
use Rattle.dart_tree.specs.declared.expression.Primary.{Row_of-StringPiece, end_of-StringPiece}
use Rattle.dart_tree.specs.declared.expression.Primary.{more_of-StringPiece}
use Rattle.dart_tree.specs.declared.expression.Operand.{Row_of-Selector, end_of-Selector}
use Rattle.dart_tree.specs.declared.expression.Operand.{more_of-Selector}
use Rattle.dart_tree.specs.declared.expression.Expr.{Row_of-Cascade, end_of-Cascade}
use Rattle.dart_tree.specs.declared.expression.Expr.{more_of-Cascade}
use Rattle.dart_tree.specs.declared.expression.Primary.{Row_of-Item, end_of-Item, more_of-Item}
use Rattle.dart_tree.specs.declared.expression.Primary.{Row_of-Entry, end_of-Entry, more_of-Entry}
use Rattle.dart_tree.specs.declared.parameter.Parameters.{Row_of-Parameter, end_of-Parameter}
use Rattle.dart_tree.specs.declared.parameter.Parameters.{more_of-Parameter}
use Rattle.dart_tree.specs.declared.parameter.Parameter.{Row_of-Annotation, end_of-Annotation}
use Rattle.dart_tree.specs.declared.parameter.Parameter.{more_of-Annotation}
use Rattle.dart_tree.specs.declared.statement.Stmt.{Row_of-Stmt, end_of-Stmt, more_of-Stmt}
use Rattle.dart_tree.specs.declared.statement.Variables.{Row_of-Variable, end_of-Variable}
use Rattle.dart_tree.specs.declared.statement.Variables.{more_of-Variable}
use Rattle.dart_tree.specs.declared.statement.Stmt.{Row_of-SwitchPart, end_of-SwitchPart}
use Rattle.dart_tree.specs.declared.statement.Stmt.{more_of-SwitchPart}
use Rattle.dart_tree.specs.declared.statement.Stmt.{Row_of-TryPart, end_of-TryPart, more_of-TryPart}

abbrev mutual
  pub type_node : TypeNode → y.TypeNode
  type_node (tn.Dynamic p) = y.dynamic_type p
  type_node (tn.Named name dot arguments) = y.named_type name dot (type_arguments arguments)

  pub type_arguments : TypeArguments → y.TypeArguments
  type_arguments ta.Omitted = y.no_types
  type_arguments (ta.Listed' opening _ row closing) = y.listed_types opening (type_list row) closing

  pub type_list : {m : _} → Row_of-TypeArgument m → y.TypeList
  type_list end_of-TypeArgument = y.no_more_types
  type_list (more_of-TypeArgument comma x rest) = y.type_more comma (type_node x) (type_list rest)

abbrev pub type_option : Option (Box TypeNode) → Option y.TypeNode
type_option None = None
type_option (Some x) = Some (type_node x.value)

abbrev pub result_type : ResultType → y.ResultType
result_type (rt.Void p) = y.void_result p
result_type (rt.Typed x) = y.typed_result (type_node x.value)

abbrev pub result_option : Option ResultType → Option y.ResultType
result_option None = None
result_option (Some x) = Some (result_type x)

abbrev pub variable_kind : VariableKind → y.VariableKind
variable_kind vk.Omitted = y.no_kind
variable_kind (vk.Var p) = y.var_kind p
variable_kind (vk.Final p x) = y.final_kind p (type_option x)
variable_kind (vk.Const p x) = y.const_kind p (type_option x)
variable_kind (vk.Typed x) = y.typed_kind (type_node x.value)

abbrev pub try_kind : TryKind → y.TryKind
try_kind (tk.On p x c) = y.on_part p (type_node x) c
try_kind (tk.Catch c) = y.catch_part c
try_kind (tk.Finally p) = y.finally_part p

unfoldable mutual
  pub expr : Expr → t.Expr
  expr (e.Assign' target operator _ given) = t.assign (operand target) operator (expr given)
  expr (e.Plain' base _ more) = t.plain (operand base) (cascades more)
  expr (e.Throw' word _ given) = t.throw word (expr given)

  pub operand : Operand → t.Operand
  operand (o.Conditional' _ condition question _ first colon _ second) =
      t.conditional (operand condition) question (expr first) colon (expr second)
  operand (o.Binary' _ first _ more) = t.binary (operand first) (tails more)
  operand (o.Is' _ base word bang of) = t.is_type (operand base) word bang (type_node of.value)
  operand (o.As' _ base word of) = t.as_type (operand base) word (type_node of.value)
  operand (o.Prefix' operator _ base) = t.prefix operator (operand base)
  operand (o.Postfix' _ base _ more operator) = t.postfix (primary base) (selectors more) operator
  operand (o.Primary base) = t.primary (primary base)

  pub primary : Primary → t.Primary
  primary (p.Super' word _ next) = t.super_access word (selector next)
  primary (p.BareSuper word) = t.bare_super word
  primary (p.Atom atom) = t.atom atom
  primary (p.Text' _ all) = t.text (pieces all)
  primary (p.List' kinds opening _ all comma closing) =
      t.list_literal (type_arguments kinds.value) opening (items all) comma closing
  primary (p.Map' kinds opening _ all comma closing) =
      t.map_literal (type_arguments kinds.value) opening (entries all) comma closing
  primary (p.New' creation class constructor _ given) =
      t.new_object creation (type_node class.value) constructor.value (arguments given)
  primary (p.Function' _ given inner) = t.function_literal (parameters given) (body inner)
  primary (p.Parenthesized' opening _ given closing) = t.parenthesized opening (expr given) closing

  pub selector : Selector → t.Selector
  selector (s.Member dot name) = t.member dot name
  selector (s.Index' opening _ given closing) = t.index opening (expr given) closing
  selector (s.Call given) = t.call (arguments given)

  pub value : Value → t.Value
  value v.Omitted = t.omitted
  value (v.Given' operator _ given) = t.given operator (expr given)

  pub parameter_kind : ParameterKind → t.ParameterKind
  parameter_kind (k.Plain kind this_dot name) = t.plain_parameter (variable_kind kind) this_dot name
  parameter_kind (k.Function' result_type this_dot name _ given) =
      t.function_parameter (result_option result_type) this_dot name (parameters given)

  pub stmt : Stmt → t.Stmt
  stmt (st.Labelled' labels _ statement) = t.with_labels labels.items (stmt statement)
  stmt (st.Block' block_opening _ block_statements block_closing) =
      t.block_stmt (t.the_block block_opening (stmts block_statements) block_closing)
  stmt (st.Variables declared) = t.variables_stmt (variables declared)
  stmt (st.Function' _ made) = t.function_stmt (function made)
  stmt (st.If' word opening condition closing _ first) =
      t.if_stmt word opening (expr condition) closing (stmt first)
  stmt (st.IfElse' word opening condition closing _ first other _ second) =
      t.if_else word opening (expr condition) closing (stmt first) other (stmt second)
  stmt (st.Loop' _ again) = t.loop (loop again)
  stmt (st.Switch' word opening given closing left _ parts right) =
      t.switch_stmt word opening (expr given) closing left (switch_parts parts) right
  stmt (st.Try' word block_opening _ block_statements block_closing _ parts) =
      t.try_stmt word (t.the_block block_opening (stmts block_statements) block_closing)
      (try_parts parts)
  stmt (st.Return word given semicolon) = t.return_stmt word (value given) semicolon
  stmt (st.Jump jump) = t.jump jump
  stmt (st.Expression given semicolon) = t.expression_stmt (value given) semicolon

  pub loop : Loop → t.Loop
  loop (l.For' word opening start first_semicolon condition semicolon _ updates closing _ inner) =
      t.for_loop word opening (value start) first_semicolon (value condition) semicolon
      (items updates) closing (stmt inner)
  loop (l.ForVariables' word opening declared condition semicolon _ updates closing _ inner) =
      t.for_variables word opening (variables declared) (value condition) semicolon
      (items updates) closing (stmt inner)
  loop (l.ForIn' word opening kind name inside iterated closing _ inner) =
      t.for_in word opening (variable_kind kind) name inside (expr iterated) closing (stmt inner)
  loop (l.While' word opening condition closing _ inner) =
      t.while_loop word opening (expr condition) closing (stmt inner)
  loop (l.Do' word _ inner again opening condition closing semicolon) =
      t.do_loop word (stmt inner) again opening (expr condition) closing semicolon

  pub body : Body → t.Body
  body (b.Arrow' arrow _ given semicolon) = t.arrow_body arrow (expr given) semicolon
  body (b.Block' block_opening _ block_statements block_closing) =
      t.block_body (t.the_block block_opening (stmts block_statements) block_closing)
  body (b.Omitted semicolon) = t.no_body semicolon

  pub arguments : Arguments → t.Arguments
  arguments (Arguments' opening _ all closing) = t.the_arguments opening (items all) closing

  pub parameters : Parameters → t.Parameters
  parameters (Parameters' opening _ required brackets _ optional closing) =
      t.the_parameters opening (parameter_list required) brackets (parameter_list optional) closing

  pub parameter : Parameter → t.Parameter
  parameter (Parameter' comma _ annotations kind given) =
      t.the_parameter comma (metadata annotations) (parameter_kind kind) (value given)

  pub annotation : Annotation → t.Annotation
  annotation (Annotation' at name more call _ all) =
      t.the_annotation at name more.items call (items all)

  pub variables : Variables → t.Variables
  variables (Variables' kind name given _ more semicolon) =
      t.the_variables (variable_kind kind) name (value given) (more_variables more) semicolon

  pub function : Function → t.Function
  function (Function' external result_type name given inner) =
      t.the_function external (result_option result_type) name (parameters given) (body inner)

  pub tails : {m : _} → Row_of-Tail m → t.Tails
  tails end_of-Tail = t.no_tails
  tails (more_of-Tail operator base rest) = t.tail operator (operand base) (tails rest)

  pub pieces : {m : _} → Row_of-StringPiece m → t.Pieces
  pieces end_of-StringPiece = t.no_pieces
  pieces (more_of-StringPiece kind place text given rest) =
      t.piece kind place text (value given) (pieces rest)

  pub selectors : {m : _} → Row_of-Selector m → t.Selectors
  selectors end_of-Selector = t.no_selectors
  selectors (more_of-Selector x rest) = t.selector (selector x) (selectors rest)

  pub cascades : {m : _} → Row_of-Cascade m → t.Cascades
  cascades end_of-Cascade = t.no_cascades
  cascades (more_of-Cascade dots _ more given rest) =
      t.cascade dots (selectors more) (value given) (cascades rest)

  pub items : {m : _} → Row_of-Item m → t.Items
  items end_of-Item = t.no_items
  items (more_of-Item comma label given rest) = t.item comma label (expr given) (items rest)

  pub entries : {m : _} → Row_of-Entry m → t.Entries
  entries end_of-Entry = t.no_entries
  entries (more_of-Entry comma key colon given rest) =
      t.entry comma (expr key) colon (expr given) (entries rest)

  pub parameter_list : {m : _} → Row_of-Parameter m → t.ParameterList
  parameter_list end_of-Parameter = t.no_parameters
  parameter_list (more_of-Parameter x rest) = t.parameter (parameter x) (parameter_list rest)

  pub metadata : {m : _} → Row_of-Annotation m → t.Metadata
  metadata end_of-Annotation = t.no_metadata
  metadata (more_of-Annotation x rest) = t.annotation (annotation x) (metadata rest)

  pub stmts : {m : _} → Row_of-Stmt m → t.Stmts
  stmts end_of-Stmt = t.no_stmts
  stmts (more_of-Stmt x rest) = t.stmt (stmt x) (stmts rest)

  pub more_variables : {m : _} → Row_of-Variable m → t.MoreVariables
  more_variables end_of-Variable = t.no_variables
  more_variables (more_of-Variable comma name given rest) =
      t.variable comma name (value given) (more_variables rest)

  pub switch_parts : {m : _} → Row_of-SwitchPart m → t.SwitchParts
  switch_parts end_of-SwitchPart = t.no_switch_parts
  switch_parts (more_of-SwitchPart labels word given colon _ inner rest) =
      t.switch_part labels.items word (value given) colon (stmts inner) (switch_parts rest)

  pub try_parts : {m : _} → Row_of-TryPart m → t.TryParts
  try_parts end_of-TryPart = t.no_try_parts
  try_parts (more_of-TryPart kind block_opening _ block_statements block_closing rest) =
      t.try_part (try_kind kind) (t.the_block block_opening (stmts block_statements) block_closing)
      (try_parts rest)
