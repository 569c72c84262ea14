-- The place of the last token of a tree. What may spell no token gives the place before it.
use Rattle.std.specs.Prelude.{Option, None, Some}
use Rattle.dart_base.specs.declared.place.Place.{Place}
use Rattle.dart_tree.specs.declared.identifier.Identifier.{Identifier}
use Rattle.dart_tree.specs.declared.identifier.Identifier.TheVariants as i
use Rattle.dart_tree.specs.declared.identifier.DotName.{DotName}
use Rattle.dart_tree.specs.declared.operator.Operator.{Operator}
use Rattle.dart_tree.specs.declared.operator.Operator.TheVariants as o
use Rattle.dart_tree.specs.declared.expression.Atom.{Atom}
use Rattle.dart_tree.specs.declared.expression.Atom.TheVariants as a
use Rattle.dart_tree.specs.declared.statement.Jump.{Jump}
use Rattle.dart_tree.specs.declared.statement.Jump.TheVariants as j
use Rattle.dart_tree.specs.Types as y
use Rattle.dart_tree.specs.Tree as t

abbrev pub identifier_place : Identifier → Place
identifier_place (i.Name place text) = place
identifier_place (i.Get place) = place
identifier_place (i.Set place) = place

abbrev pub operator_last : Operator → Place
operator_last (o.Sign place sign) = place
operator_last (o.ShiftRight first second) = second
operator_last (o.ShiftRightAssign first second) = second

abbrev pub maybe_operator_last : Place → Option Operator → Place
maybe_operator_last before None = before
maybe_operator_last before (Some operator) = operator_last operator

abbrev pub atom_place : Atom → Place
atom_place (a.This place) = place
atom_place (a.Null place) = place
atom_place (a.True place) = place
atom_place (a.False place) = place
atom_place (a.Integer place text) = place
atom_place (a.Name name) = identifier_place name

abbrev pub qualified_last : Identifier → Option DotName → Place
qualified_last name None = identifier_place name
qualified_last name (Some member) = identifier_place member.name

abbrev pub type_last : y.TypeNode → Place
type_last (y.dynamic_type place) = place
type_last (y.named_type name member y.no_types) = qualified_last name member
type_last (y.named_type name member (y.listed_types opening listed closing)) = closing

abbrev pub jump_last : Jump → Place
jump_last (j.Break word label semicolon) = semicolon
jump_last (j.Continue word label semicolon) = semicolon
jump_last (j.Rethrow word semicolon) = semicolon

abbrev pub arguments_last : t.Arguments → Place
arguments_last (t.the_arguments opening items closing) = closing

abbrev pub block_last : t.Block → Place
block_last (t.the_block opening statements closing) = closing

abbrev pub variables_last : t.Variables → Place
variables_last (t.the_variables kind name value more semicolon) = semicolon

abbrev pub selector_last : t.Selector → Place
selector_last (t.member dot name) = identifier_place name
selector_last (t.index opening value closing) = closing
selector_last (t.call arguments) = arguments_last arguments

unfoldable pub selectors_last : Place → t.Selectors → Place
selectors_last before t.no_selectors = before
selectors_last before (t.selector x rest) = selectors_last (selector_last x) rest

-- what has no semicolon, as in a function literal, ends with what stands before it
abbrev pub end_or : Option Place → Place → Place
end_or None before = before
end_or (Some semicolon) before = semicolon

unfoldable mutual
  pub expr_last : Place → t.Expr → Place
  expr_last before (t.assign target operator value) = expr_last (operator_last operator) value
  expr_last before (t.plain operand cascades) = cascades_last (operand_last before operand) cascades
  expr_last before (t.throw word value) = expr_last word value

  pub operand_last : Place → t.Operand → Place
  operand_last before (t.conditional condition question first colon second) =
      expr_last colon second
  operand_last before (t.binary first more) = tails_last (operand_last before first) more
  operand_last before (t.is_type operand word bang of) = type_last of
  operand_last before (t.as_type operand word of) = type_last of
  operand_last before (t.prefix operator operand) = operand_last (operator_last operator) operand
  operand_last before (t.postfix operand selectors operator) =
      maybe_operator_last (selectors_last (primary_last before operand) selectors) operator
  operand_last before (t.primary operand) = primary_last before operand

  pub primary_last : Place → t.Primary → Place
  primary_last before (t.super_access word selector) = selector_last selector
  primary_last before (t.bare_super word) = word
  primary_last before (t.atom atom) = atom_place atom
  primary_last before (t.text pieces) = pieces_last before pieces
  primary_last before (t.list_literal types opening items comma closing) = closing
  primary_last before (t.map_literal types opening listed comma closing) = closing
  primary_last before (t.new_object creation class constructor arguments) =
      arguments_last arguments
  primary_last before (t.function_literal parameters body) = body_last body
  primary_last before (t.parenthesized opening value closing) = closing

  pub value_last : Place → t.Value → Place
  value_last before t.omitted = before
  value_last before (t.given operator value) = expr_last before value

  pub tails_last : Place → t.Tails → Place
  tails_last before t.no_tails = before
  tails_last before (t.tail operator operand rest) =
      tails_last (operand_last (operator_last operator) operand) rest

  pub pieces_last : Place → t.Pieces → Place
  pieces_last before t.no_pieces = before
  pieces_last before (t.piece kind place text value rest) = pieces_last (value_last place value) rest

  pub cascades_last : Place → t.Cascades → Place
  cascades_last before t.no_cascades = before
  cascades_last before (t.cascade dots selectors value rest) =
      cascades_last (value_last (selectors_last dots selectors) value) rest

  pub body_last : t.Body → Place
  body_last (t.arrow_body arrow value semicolon) = end_or semicolon (expr_last arrow value)
  body_last (t.block_body block) = block_last block
  body_last (t.no_body semicolon) = semicolon

abbrev pub function_last : t.Function → Place
function_last (t.the_function external result_type name parameters body) = body_last body

abbrev pub try_parts_last : Place → t.TryParts → Place
try_parts_last before t.no_try_parts = before
try_parts_last before (t.try_part kind block rest) = try_parts_last (block_last block) rest

unfoldable mutual
  pub stmt_last : t.Stmt → Place
  stmt_last (t.labelled label statement) = stmt_last statement
  stmt_last (t.block_stmt block) = block_last block
  stmt_last (t.variables_stmt variables) = variables_last variables
  stmt_last (t.function_stmt function) = function_last function
  stmt_last (t.if_stmt word opening condition closing first) = stmt_last first
  stmt_last (t.if_else word opening condition closing first other second) = stmt_last second
  stmt_last (t.loop loop) = loop_last loop
  stmt_last (t.switch_stmt word opening value closing left parts right) = right
  stmt_last (t.try_stmt word block parts) = try_parts_last (block_last block) parts
  stmt_last (t.return_stmt word value semicolon) = semicolon
  stmt_last (t.jump jump) = jump_last jump
  stmt_last (t.expression_stmt value semicolon) = semicolon

  pub loop_last : t.Loop → Place
  loop_last (t.for_loop word opening start first condition second updates closing body) =
      stmt_last body
  loop_last (t.for_variables word opening variables condition semicolon updates closing body) =
      stmt_last body
  loop_last (t.for_in word opening kind name inside iterated closing body) = stmt_last body
  loop_last (t.while_loop word opening condition closing body) = stmt_last body
  loop_last (t.do_loop word body again opening condition closing semicolon) = semicolon

unfoldable pub stmts_last : Place → t.Stmts → Place
stmts_last before t.no_stmts = before
stmts_last before (t.stmt x rest) = stmts_last (stmt_last x) rest
