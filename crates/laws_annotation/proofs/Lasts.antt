-- Erasure keeps the place of a tree's last token.
use Rattle.std.proofs.Common.{◌≡◌, refl}
use Rattle.dart_base.specs.declared.place.Place.{Place}
use Rattle.dart_tree.specs.Tree as t
use Rattle.dart_erase.specs.Erased as erased
use Rattle.scope_declared.specs.Last.{selectors_last, selector_last, expr_last, operand_last, primary_last, value_last, tails_last, pieces_last, cascades_last, body_last, block_last, arguments_last, try_parts_last, stmt_last, loop_last, stmts_last, variables_last, function_last, operator_last, maybe_operator_last, end_or}

arguments_end : (x : t.Arguments) → arguments_last (erased.arguments x) ≡ arguments_last x
unfolding erased.arguments
arguments_end (t.the_arguments opening all closing) = refl

selector_end : (x : t.Selector) → selector_last (erased.selector x) ≡ selector_last x
unfolding erased.selector
selector_end (t.member dot name) = refl
selector_end (t.index opening given closing) = refl
selector_end (t.call given) = arguments_end given

selectors_end : (before : Place) (x : t.Selectors) → selectors_last before (erased.selectors x) ≡ selectors_last before x
unfolding erased.selectors selectors_last
selectors_end before t.no_selectors = refl
selectors_end before (t.selector x rest) = λ i. selectors_end (selector_end x i) rest i

pub block_end : (x : t.Block) → block_last (erased.block x) ≡ block_last x
unfolding erased.block
block_end (t.the_block opening statements closing) = refl

pub variables_end : (x : t.Variables) → variables_last (erased.variables x) ≡ variables_last x
unfolding erased.variables
variables_end (t.the_variables kind name value more semicolon) = refl

mutual
  unfolding erased.expr erased.operand erased.primary erased.value erased.tails erased.pieces erased.cascades erased.body expr_last operand_last primary_last value_last tails_last pieces_last cascades_last body_last

  expr_end : (before : Place) (x : t.Expr) → expr_last before (erased.expr x) ≡ expr_last before x
  expr_end before (t.assign target operator given) = expr_end (operator_last operator) given
  expr_end before (t.plain base more) = λ i. cascades_end (operand_end before base i) more i
  expr_end before (t.throw word given) = expr_end word given

  operand_end : (before : Place) (x : t.Operand) → operand_last before (erased.operand x) ≡ operand_last before x
  operand_end before (t.conditional condition question first colon second) = expr_end colon second
  operand_end before (t.binary first more) = λ i. tails_end (operand_end before first i) more i
  operand_end before (t.is_type base word bang of) = refl
  operand_end before (t.as_type base word of) = refl
  operand_end before (t.prefix operator base) = operand_end (operator_last operator) base
  operand_end before (t.postfix base more operator) = λ i. maybe_operator_last (selectors_end (primary_end before base i) more i) operator
  operand_end before (t.primary base) = primary_end before base

  primary_end : (before : Place) (x : t.Primary) → primary_last before (erased.primary x) ≡ primary_last before x
  primary_end before (t.super_access word next) = selector_end next
  primary_end before (t.bare_super word) = refl
  primary_end before (t.atom atom) = refl
  primary_end before (t.text all) = pieces_end before all
  primary_end before (t.list_literal types opening all comma closing) = refl
  primary_end before (t.map_literal types opening all comma closing) = refl
  primary_end before (t.new_object creation class constructor given) = arguments_end given
  primary_end before (t.function_literal given inner) = body_end inner
  primary_end before (t.parenthesized opening given closing) = refl

  pub value_end : (before : Place) (x : t.Value) → value_last before (erased.value x) ≡ value_last before x
  value_end before t.omitted = refl
  value_end before (t.given operator given) = expr_end before given

  tails_end : (before : Place) (x : t.Tails) → tails_last before (erased.tails x) ≡ tails_last before x
  tails_end before t.no_tails = refl
  tails_end before (t.tail operator base rest) = λ i. tails_end (operand_end (operator_last operator) base i) rest i

  pieces_end : (before : Place) (x : t.Pieces) → pieces_last before (erased.pieces x) ≡ pieces_last before x
  pieces_end before t.no_pieces = refl
  pieces_end before (t.piece kind place text term rest) = λ i. pieces_end (value_end place term i) rest i

  cascades_end : (before : Place) (x : t.Cascades) → cascades_last before (erased.cascades x) ≡ cascades_last before x
  cascades_end before t.no_cascades = refl
  cascades_end before (t.cascade dots more term rest) = λ i. cascades_end (value_end (selectors_end dots more i) term i) rest i

  pub body_end : (x : t.Body) → body_last (erased.body x) ≡ body_last x
  body_end (t.arrow_body arrow given semicolon) = λ i. end_or semicolon (expr_end arrow given i)
  body_end (t.block_body inside) = block_end inside
  body_end (t.no_body semicolon) = refl

pub function_end : (x : t.Function) → function_last (erased.function x) ≡ function_last x
unfolding erased.function
function_end (t.the_function external result_type name given inner) = body_end inner

try_parts_end : (before : Place) (x : t.TryParts) → try_parts_last before (erased.try_parts x) ≡ try_parts_last before x
unfolding erased.try_parts
try_parts_end before t.no_try_parts = refl
try_parts_end before (t.try_part kind inside rest) = λ i. try_parts_end (block_end inside i) rest i

mutual
  unfolding erased.stmt erased.loop stmt_last loop_last

  pub stmt_end : (x : t.Stmt) → stmt_last (erased.stmt x) ≡ stmt_last x
  stmt_end (t.labelled label statement) = stmt_end statement
  stmt_end (t.block_stmt inside) = block_end inside
  stmt_end (t.variables_stmt declared) = variables_end declared
  stmt_end (t.function_stmt made) = function_end made
  stmt_end (t.if_stmt word opening condition closing first) = stmt_end first
  stmt_end (t.if_else word opening condition closing first other second) = stmt_end second
  stmt_end (t.loop again) = loop_end again
  stmt_end (t.switch_stmt word opening given closing left parts right) = refl
  stmt_end (t.try_stmt word inside parts) = λ i. try_parts_end (block_end inside i) parts i
  stmt_end (t.return_stmt word term semicolon) = refl
  stmt_end (t.jump jump) = refl
  stmt_end (t.expression_stmt term semicolon) = refl

  loop_end : (x : t.Loop) → loop_last (erased.loop x) ≡ loop_last x
  loop_end (t.for_loop word opening start first condition second updates closing inner) = stmt_end inner
  loop_end (t.for_variables word opening declared condition semicolon updates closing inner) = stmt_end inner
  loop_end (t.for_in word opening kind name inside iterated closing inner) = stmt_end inner
  loop_end (t.while_loop word opening condition closing inner) = stmt_end inner
  loop_end (t.do_loop word inner again opening condition closing semicolon) = refl

pub stmts_end : (before : Place) (x : t.Stmts) → stmts_last before (erased.stmts x) ≡ stmts_last before x
unfolding erased.stmts stmts_last
stmts_end before t.no_stmts = refl
stmts_end before (t.stmt x rest) = λ i. stmts_end (stmt_end x i) rest i
