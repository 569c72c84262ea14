-- The tree that each constructor of the code makes.
use Rattle.std.proofs.Common.{◌≡◌, refl, sym, ap, ◌∙◌, Vec, Box, Global, Option}
use mathlib.Core.Former.{Count}
use Rattle.dart_base.specs.declared.place.Place.{Place}
use Rattle.dart_tree.specs.declared.expression.Expr.{Expr}
use Rattle.dart_tree.specs.declared.expression.Expr.TheVariants as e
use Rattle.dart_tree.specs.declared.expression.Operand.{Operand}
use Rattle.dart_tree.specs.declared.expression.Operand.TheVariants as o
use Rattle.dart_tree.specs.declared.expression.Primary.{Primary}
use Rattle.dart_tree.specs.declared.expression.Primary.TheVariants as p
use Rattle.dart_tree.specs.declared.expression.Selector.{Selector}
use Rattle.dart_tree.specs.declared.expression.Selector.TheVariants as s
use Rattle.dart_tree.specs.declared.expression.Value.{Value}
use Rattle.dart_tree.specs.declared.expression.Value.TheVariants as v
use Rattle.dart_tree.specs.declared.parameter.ParameterKind.TheVariants as k
use Rattle.dart_tree.specs.declared.statement.Stmt.{Stmt}
use Rattle.dart_tree.specs.declared.statement.Stmt.TheVariants as st
use Rattle.dart_tree.specs.declared.statement.Loop.{Loop}
use Rattle.dart_tree.specs.declared.statement.Loop.TheVariants as l
use Rattle.dart_tree.specs.declared.statement.Body.{Body}
use Rattle.dart_tree.specs.declared.statement.Body.TheVariants as b
use Rattle.dart_tree.specs.declared.expression.Arguments.{Arguments, Arguments', out-Arguments, outs-Arguments'}
use Rattle.dart_tree.specs.declared.parameter.Parameters.{Parameters, Parameters', out-Parameters, outs-Parameters'}
use Rattle.dart_tree.specs.declared.parameter.Parameter.{Parameter, Parameter', out-Parameter, outs-Parameter'}
use Rattle.dart_tree.specs.declared.parameter.Annotation.{Annotation, Annotation', out-Annotation, outs-Annotation'}
use Rattle.dart_tree.specs.declared.statement.Variables.{Variables, Variables', out-Variables, outs-Variables'}
use Rattle.dart_tree.specs.declared.statement.Function.{Function, Function', out-Function, outs-Function'}
use Rattle.dart_tree.specs.declared.expression.Operand.{Row_of-Tail, end_of-Tail, more_of-Tail, items-the_row-Tail, items_hidden-the_row-Tail-2}
use Rattle.dart_tree.specs.declared.expression.Primary.{Row_of-StringPiece, end_of-StringPiece, more_of-StringPiece, items-the_row-StringPiece, items_hidden-the_row-StringPiece-3}
use Rattle.dart_tree.specs.declared.expression.Operand.{Row_of-Selector, end_of-Selector, more_of-Selector, items-the_row-Selector, items_hidden-the_row-Selector-0, items_shown-the_row-Selector-0}
use Rattle.dart_tree.specs.declared.expression.Expr.{Row_of-Cascade, end_of-Cascade, more_of-Cascade, items-the_row-Cascade, items_hidden-the_row-Cascade-1}
use Rattle.dart_tree.specs.declared.expression.Primary.{Row_of-Item, end_of-Item, more_of-Item, items-the_row-Item, items_hidden-the_row-Item-4, items_shown-the_row-Item-4}
use Rattle.dart_tree.specs.declared.expression.Primary.{Row_of-Entry, end_of-Entry, more_of-Entry, items-the_row-Entry, items_hidden-the_row-Entry-5}
use Rattle.dart_tree.specs.declared.parameter.Parameters.{Row_of-Parameter, end_of-Parameter, more_of-Parameter, items-the_row-Parameter, items_shown-the_row-Parameter-10}
use Rattle.dart_tree.specs.declared.parameter.Parameter.{Row_of-Annotation, end_of-Annotation, more_of-Annotation, items-the_row-Annotation, items_shown-the_row-Annotation-9}
use Rattle.dart_tree.specs.declared.statement.Stmt.{Row_of-Stmt, end_of-Stmt, more_of-Stmt, items-the_row-Stmt, items_hidden-the_row-Stmt-6, items_shown-the_row-Stmt-6}
use Rattle.dart_tree.specs.declared.statement.Variables.{Row_of-Variable, end_of-Variable, more_of-Variable, items-the_row-Variable, items_shown-the_row-Variable-11}
use Rattle.dart_tree.specs.declared.statement.Stmt.{Row_of-SwitchPart, end_of-SwitchPart, more_of-SwitchPart, items-the_row-SwitchPart, items_hidden-the_row-SwitchPart-7}
use Rattle.dart_tree.specs.declared.statement.Stmt.{Row_of-TryPart, end_of-TryPart, more_of-TryPart, items-the_row-TryPart, items_hidden-the_row-TryPart-8}
use Rattle.dart_tree.specs.declared.statement.Block.{Block}
use Rattle.dart_tree.specs.declared.expression.Tail.{Tail}
use Rattle.dart_tree.specs.declared.expression.StringPiece.{StringPiece}
use Rattle.dart_tree.specs.declared.expression.Cascade.{Cascade}
use Rattle.dart_tree.specs.declared.expression.Item.{Item}
use Rattle.dart_tree.specs.declared.expression.Entry.{Entry}
use Rattle.dart_tree.specs.declared.statement.SwitchPart.{SwitchPart}
use Rattle.dart_tree.specs.declared.statement.TryPart.{TryPart}
use Rattle.dart_tree.specs.declared.types.TypeArguments.{Row_of-TypeArgument, end_of-TypeArgument, more_of-TypeArgument, items-the_row-TypeArgument, items_hidden-the_row-TypeArgument-0}
use Rattle.dart_tree.specs.declared.types.TypeArguments.TheVariants as ta
use Rattle.dart_tree.specs.declared.types.TypeArgument.{TypeArgument}
use Rattle.dart_tree.specs.Types as y
use Rattle.dart_tree.specs.declared.operator.Operator.{Operator}
use Rattle.dart_tree.specs.declared.identifier.Identifier.{Identifier}
use Rattle.dart_tree.specs.declared.identifier.DotName.{DotName}
use Rattle.dart_tree.specs.declared.identifier.Label.{Label}
use Rattle.dart_tree.specs.declared.expression.Atom.{Atom}
use Rattle.dart_tree.specs.declared.expression.Creation.{Creation}
use Rattle.dart_tree.specs.declared.parameter.ThisDot.{ThisDot}
use Rattle.dart_tree.specs.declared.statement.Jump.{Jump}
use Rattle.dart_tree.specs.declared.types.TypeNode.{TypeNode}
use Rattle.dart_tree.specs.declared.types.TypeArguments.{TypeArguments}
use Rattle.dart_tree.specs.declared.types.ResultType.{ResultType}
use Rattle.dart_tree.specs.declared.parameter.VariableKind.{VariableKind}
use Rattle.dart_tree.specs.declared.expression.Expr.TheBlock.{shown-the_row-Selector-0, shown-the_row-Stmt-6, shown-the_row-Parameter-10}
use Rattle.dart_tree.specs.Tree as t
use Rattle.dart_tree.specs.View as view
use Rattle.dart_tree.specs.Lists.{block_of, type_list_of, tails_of, pieces_of, selectors_of, cascades_of, items_of, entries_of, parameter_list_of, metadata_of, stmts_of, more_variables_of, switch_parts_of, try_parts_of}

type_list_row : (n : _) (row : Row_of-TypeArgument n) → view.type_list row ≡ type_list_of (items-the_row-TypeArgument n row)
type_list_row n end_of-TypeArgument = refl
type_list_row n (more_of-TypeArgument comma x rest) = ap (y.type_more comma (view.type_node x)) (type_list_row _ rest)

abbrev row_types : TypeArguments → (n : Count) × Row_of-TypeArgument n
row_types (ta.Listed' opening n row closing) = (_, row)
row_types _ = (_, end_of-TypeArgument)

pub view_listed_types : (opening : Place) (listed : Vec TypeArgument Global) (closing : Place) → view.type_arguments (ta.Listed opening listed closing) ≡ y.listed_types opening (type_list_of listed.items) closing
view_listed_types opening listed closing =
    let row = row_types (ta.Listed opening listed closing) in
    ap (λ (x : y.TypeList). y.listed_types opening x closing) (type_list_row row.0 row.1 ∙ ap type_list_of (items_hidden-the_row-TypeArgument-0 listed))

selectors_row : (n : _) (row : Row_of-Selector n) → view.selectors row ≡ selectors_of (items-the_row-Selector n row)
unfolding view.selectors
selectors_row n end_of-Selector = refl
selectors_row n (more_of-Selector x rest) = ap (t.selector (view.selector x)) (selectors_row _ rest)

tails_row : (n : _) (row : Row_of-Tail n) → view.tails row ≡ tails_of (items-the_row-Tail n row)
unfolding view.tails
tails_row n end_of-Tail = refl
tails_row n (more_of-Tail operator operand rest) = ap (t.tail operator (view.operand operand)) (tails_row _ rest)

pieces_row : (n : _) (row : Row_of-StringPiece n) → view.pieces row ≡ pieces_of (items-the_row-StringPiece n row)
unfolding view.pieces
pieces_row n end_of-StringPiece = refl
pieces_row n (more_of-StringPiece kind place text given rest) = ap (t.piece kind place text (view.value given)) (pieces_row _ rest)

items_row : (n : _) (row : Row_of-Item n) → view.items row ≡ items_of (items-the_row-Item n row)
unfolding view.items
items_row n end_of-Item = refl
items_row n (more_of-Item comma label given rest) = ap (t.item comma label (view.expr given)) (items_row _ rest)

entries_row : (n : _) (row : Row_of-Entry n) → view.entries row ≡ entries_of (items-the_row-Entry n row)
unfolding view.entries
entries_row n end_of-Entry = refl
entries_row n (more_of-Entry comma key colon given rest) = ap (t.entry comma (view.expr key) colon (view.expr given)) (entries_row _ rest)

parameter_list_row : (n : _) (row : Row_of-Parameter n) → view.parameter_list row ≡ parameter_list_of (items-the_row-Parameter n row)
unfolding view.parameter_list
parameter_list_row n end_of-Parameter = refl
parameter_list_row n (more_of-Parameter x rest) = ap (t.parameter (view.parameter x)) (parameter_list_row _ rest)

metadata_row : (n : _) (row : Row_of-Annotation n) → view.metadata row ≡ metadata_of (items-the_row-Annotation n row)
unfolding view.metadata
metadata_row n end_of-Annotation = refl
metadata_row n (more_of-Annotation x rest) = ap (t.annotation (view.annotation x)) (metadata_row _ rest)

more_variables_row : (n : _) (row : Row_of-Variable n) → view.more_variables row ≡ more_variables_of (items-the_row-Variable n row)
unfolding view.more_variables
more_variables_row n end_of-Variable = refl
more_variables_row n (more_of-Variable comma name given rest) = ap (t.variable comma name (view.value given)) (more_variables_row _ rest)

cascades_row : (n : _) (row : Row_of-Cascade n) → view.cascades row ≡ cascades_of (items-the_row-Cascade n row)
unfolding view.cascades
cascades_row n end_of-Cascade = refl
cascades_row n (more_of-Cascade dots m inner given rest) =
    ap (λ x. t.cascade dots x (view.value given) (view.cascades rest)) (selectors_row _ inner ∙ ap selectors_of (sym (items_shown-the_row-Selector-0 m inner))) ∙
    ap (t.cascade dots (selectors_of (shown-the_row-Selector-0 m inner).items) (view.value given)) (cascades_row _ rest)

stmts_row : (n : _) (row : Row_of-Stmt n) → view.stmts row ≡ stmts_of (items-the_row-Stmt n row)
unfolding view.stmts
stmts_row n end_of-Stmt = refl
stmts_row n (more_of-Stmt x rest) = ap (t.stmt (view.stmt x)) (stmts_row _ rest)

switch_parts_row : (n : _) (row : Row_of-SwitchPart n) → view.switch_parts row ≡ switch_parts_of (items-the_row-SwitchPart n row)
unfolding view.switch_parts
switch_parts_row n end_of-SwitchPart = refl
switch_parts_row n (more_of-SwitchPart labels word given colon m inner rest) =
    ap (λ x. t.switch_part labels.items word (view.value given) colon x (view.switch_parts rest)) (stmts_row _ inner ∙ ap stmts_of (sym (items_shown-the_row-Stmt-6 m inner))) ∙
    ap (t.switch_part labels.items word (view.value given) colon (stmts_of (shown-the_row-Stmt-6 m inner).items)) (switch_parts_row _ rest)

try_parts_row : (n : _) (row : Row_of-TryPart n) → view.try_parts row ≡ try_parts_of (items-the_row-TryPart n row)
unfolding view.try_parts
try_parts_row n end_of-TryPart = refl
try_parts_row n (more_of-TryPart kind opening m inner closing rest) =
    ap (λ x. t.try_part (view.try_kind kind) (t.the_block opening x closing) (view.try_parts rest)) (stmts_row _ inner ∙ ap stmts_of (sym (items_shown-the_row-Stmt-6 m inner))) ∙
    ap (t.try_part (view.try_kind kind) (t.the_block opening (stmts_of (shown-the_row-Stmt-6 m inner).items) closing)) (try_parts_row _ rest)

pub view_assign : (target : Operand) (operator : Operator) (given : Box Expr Global) → view.expr (e.Assign target operator given) ≡ t.assign (view.operand target) operator (view.expr given.value)
unfolding view.expr
view_assign target operator given = refl

abbrev row_plain_more : Expr → (n : Count) × Row_of-Cascade n
row_plain_more (e.Plain' first n_more row) = (_, row)
row_plain_more _ = (_, end_of-Cascade)

pub view_plain : (first : Operand) (more : Vec Cascade Global) → view.expr (e.Plain first more) ≡ t.plain (view.operand first) (cascades_of more.items)
unfolding view.expr
view_plain first more =
    let row_more = row_plain_more (e.Plain first more) in
    ap (λ (x : t.Cascades). t.plain (view.operand first) x) (cascades_row row_more.0 row_more.1 ∙ ap cascades_of (items_hidden-the_row-Cascade-1 more))

pub view_throw : (word : Place) (given : Box Expr Global) → view.expr (e.Throw word given) ≡ t.throw word (view.expr given.value)
unfolding view.expr
view_throw word given = refl

pub view_conditional : (condition : Box Operand Global) (question : Place) (first : Box Expr Global) (colon : Place) (second : Box Expr Global) → view.operand (o.Conditional condition question first colon second) ≡ t.conditional (view.operand condition.value) question (view.expr first.value) colon (view.expr second.value)
unfolding view.operand
view_conditional condition question first colon second = refl

abbrev row_binary_more : Operand → (n : Count) × Row_of-Tail n
row_binary_more (o.Binary' b_first first n_more row) = (_, row)
row_binary_more _ = (_, end_of-Tail)

pub view_binary : (first : Box Operand Global) (more : Vec Tail Global) → view.operand (o.Binary first more) ≡ t.binary (view.operand first.value) (tails_of more.items)
unfolding view.operand
view_binary first more =
    let row_more = row_binary_more (o.Binary first more) in
    ap (λ (x : t.Tails). t.binary (view.operand first.value) x) (tails_row row_more.0 row_more.1 ∙ ap tails_of (items_hidden-the_row-Tail-2 more))

pub view_is_type : (first : Box Operand Global) (word : Place) (bang : Option Place) (kind : Box TypeNode Global) → view.operand (o.Is first word bang kind) ≡ t.is_type (view.operand first.value) word bang (view.type_node kind.value)
unfolding view.operand
view_is_type first word bang kind = refl

pub view_as_type : (first : Box Operand Global) (word : Place) (kind : Box TypeNode Global) → view.operand (o.As first word kind) ≡ t.as_type (view.operand first.value) word (view.type_node kind.value)
unfolding view.operand
view_as_type first word kind = refl

pub view_prefix : (operator : Operator) (first : Box Operand Global) → view.operand (o.Prefix operator first) ≡ t.prefix operator (view.operand first.value)
unfolding view.operand
view_prefix operator first = refl

abbrev row_postfix_more : Operand → (n : Count) × Row_of-Selector n
row_postfix_more (o.Postfix' b_first first n_more row operator) = (_, row)
row_postfix_more _ = (_, end_of-Selector)

pub view_postfix : (first : Box Primary Global) (more : Vec Selector Global) (operator : Option Operator) → view.operand (o.Postfix first more operator) ≡ t.postfix (view.primary first.value) (selectors_of more.items) operator
unfolding view.operand
view_postfix first more operator =
    let row_more = row_postfix_more (o.Postfix first more operator) in
    ap (λ (x : t.Selectors). t.postfix (view.primary first.value) x operator) (selectors_row row_more.0 row_more.1 ∙ ap selectors_of (items_hidden-the_row-Selector-0 more))

pub view_primary : (base : Primary) → view.operand (o.Primary base) ≡ t.primary (view.primary base)
unfolding view.operand
view_primary base = refl

pub view_super_access : (word : Place) (next : Box Selector Global) → view.primary (p.Super word next) ≡ t.super_access word (view.selector next.value)
unfolding view.primary
view_super_access word next = refl

pub view_bare_super : (word : Place) → view.primary (p.BareSuper word) ≡ t.bare_super word
unfolding view.primary
view_bare_super word = refl

pub view_atom : (atom : Atom) → view.primary (p.Atom atom) ≡ t.atom atom
unfolding view.primary
view_atom atom = refl

abbrev row_text_all : Primary → (n : Count) × Row_of-StringPiece n
row_text_all (p.Text' n_all row) = (_, row)
row_text_all _ = (_, end_of-StringPiece)

pub view_text : (all : Vec StringPiece Global) → view.primary (p.Text all) ≡ t.text (pieces_of all.items)
unfolding view.primary
view_text all =
    let row_all = row_text_all (p.Text all) in
    ap (λ (x : t.Pieces). t.text x) (pieces_row row_all.0 row_all.1 ∙ ap pieces_of (items_hidden-the_row-StringPiece-3 all))

abbrev row_list_literal_all : Primary → (n : Count) × Row_of-Item n
row_list_literal_all (p.List' kinds opening n_all row comma closing) = (_, row)
row_list_literal_all _ = (_, end_of-Item)

pub view_list_literal : (kinds : Box TypeArguments Global) (opening : Place) (all : Vec Item Global) (comma : Option Place) (closing : Place) → view.primary (p.List kinds opening all comma closing) ≡ t.list_literal (view.type_arguments kinds.value) opening (items_of all.items) comma closing
unfolding view.primary
view_list_literal kinds opening all comma closing =
    let row_all = row_list_literal_all (p.List kinds opening all comma closing) in
    ap (λ (x : t.Items). t.list_literal (view.type_arguments kinds.value) opening x comma closing) (items_row row_all.0 row_all.1 ∙ ap items_of (items_hidden-the_row-Item-4 all))

abbrev row_map_literal_all : Primary → (n : Count) × Row_of-Entry n
row_map_literal_all (p.Map' kinds opening n_all row comma closing) = (_, row)
row_map_literal_all _ = (_, end_of-Entry)

pub view_map_literal : (kinds : Box TypeArguments Global) (opening : Place) (all : Vec Entry Global) (comma : Option Place) (closing : Place) → view.primary (p.Map kinds opening all comma closing) ≡ t.map_literal (view.type_arguments kinds.value) opening (entries_of all.items) comma closing
unfolding view.primary
view_map_literal kinds opening all comma closing =
    let row_all = row_map_literal_all (p.Map kinds opening all comma closing) in
    ap (λ (x : t.Entries). t.map_literal (view.type_arguments kinds.value) opening x comma closing) (entries_row row_all.0 row_all.1 ∙ ap entries_of (items_hidden-the_row-Entry-5 all))

pub view_new_object : (creation : Creation) (class : Box TypeNode Global) (constructor : Box (Option DotName) Global) (args : Box Arguments Global) → view.primary (p.New creation class constructor args) ≡ t.new_object creation (view.type_node class.value) constructor.value (view.arguments args.value)
unfolding view.primary
view_new_object creation class constructor args = refl

pub view_function_literal : (params : Box Parameters Global) (inner : Body) → view.primary (p.Function params inner) ≡ t.function_literal (view.parameters params.value) (view.body inner)
unfolding view.primary
view_function_literal params inner = refl

pub view_parenthesized : (opening : Place) (given : Box Expr Global) (closing : Place) → view.primary (p.Parenthesized opening given closing) ≡ t.parenthesized opening (view.expr given.value) closing
unfolding view.primary
view_parenthesized opening given closing = refl

pub view_member : (dot : Option Place) (name : Identifier) → view.selector (s.Member dot name) ≡ t.member dot name
unfolding view.selector
view_member dot name = refl

pub view_index : (opening : Place) (given : Box Expr Global) (closing : Place) → view.selector (s.Index opening given closing) ≡ t.index opening (view.expr given.value) closing
unfolding view.selector
view_index opening given closing = refl

pub view_call : (args : Arguments) → view.selector (s.Call args) ≡ t.call (view.arguments args)
unfolding view.selector
view_call args = refl

pub view_omitted : view.value v.Omitted ≡ t.omitted
unfolding view.value
view_omitted = refl

pub view_given : (operator : Option Operator) (given : Box Expr Global) → view.value (v.Given operator given) ≡ t.given operator (view.expr given.value)
unfolding view.value
view_given operator given = refl

pub view_plain_parameter : (kind : VariableKind) (this_dot : Option ThisDot) (name : Identifier) → view.parameter_kind (k.Plain kind this_dot name) ≡ t.plain_parameter (view.variable_kind kind) this_dot name
unfolding view.parameter_kind
view_plain_parameter kind this_dot name = refl

pub view_function_parameter : (result_type : Option ResultType) (this_dot : Option ThisDot) (name : Identifier) (params : Box Parameters Global) → view.parameter_kind (k.Function result_type this_dot name params) ≡ t.function_parameter (view.result_option result_type) this_dot name (view.parameters params.value)
unfolding view.parameter_kind
view_function_parameter result_type this_dot name params = refl

pub view_labelled : (labels : Vec Label Global) (next : Box Stmt Global) → view.stmt (st.Labelled labels next) ≡ t.with_labels labels.items (view.stmt next.value)
unfolding view.stmt
view_labelled labels next = refl

abbrev row_block_stmt_inside : Stmt → (n : Count) × Row_of-Stmt n
row_block_stmt_inside (st.Block' o_inside n_inside row c_inside) = (_, row)
row_block_stmt_inside _ = (_, end_of-Stmt)

pub view_block_stmt : (inside : Block) → view.stmt (st.Block inside) ≡ t.block_stmt (block_of inside)
unfolding view.stmt
view_block_stmt inside =
    let row_inside = row_block_stmt_inside (st.Block inside) in
    ap (λ (x : t.Stmts). t.block_stmt (t.the_block inside.opening x inside.closing)) (stmts_row row_inside.0 row_inside.1 ∙ ap stmts_of (items_hidden-the_row-Stmt-6 inside.statements))

pub view_variables_stmt : (declared : Variables) → view.stmt (st.Variables declared) ≡ t.variables_stmt (view.variables declared)
unfolding view.stmt
view_variables_stmt declared = refl

pub view_function_stmt : (made : Box Function Global) → view.stmt (st.Function made) ≡ t.function_stmt (view.function made.value)
unfolding view.stmt
view_function_stmt made = refl

pub view_if_stmt : (word : Place) (opening : Place) (condition : Expr) (closing : Place) (first : Box Stmt Global) → view.stmt (st.If word opening condition closing first) ≡ t.if_stmt word opening (view.expr condition) closing (view.stmt first.value)
unfolding view.stmt
view_if_stmt word opening condition closing first = refl

pub view_if_else : (word : Place) (opening : Place) (condition : Expr) (closing : Place) (first : Box Stmt Global) (other : Place) (second : Box Stmt Global) → view.stmt (st.IfElse word opening condition closing first other second) ≡ t.if_else word opening (view.expr condition) closing (view.stmt first.value) other (view.stmt second.value)
unfolding view.stmt
view_if_else word opening condition closing first other second = refl

pub view_loop : (again : Box Loop Global) → view.stmt (st.Loop again) ≡ t.loop (view.loop again.value)
unfolding view.stmt
view_loop again = refl

abbrev row_switch_stmt_parts : Stmt → (n : Count) × Row_of-SwitchPart n
row_switch_stmt_parts (st.Switch' word opening given closing left n_parts row right) = (_, row)
row_switch_stmt_parts _ = (_, end_of-SwitchPart)

pub view_switch_stmt : (word : Place) (opening : Place) (given : Expr) (closing : Place) (left : Place) (parts : Vec SwitchPart Global) (right : Place) → view.stmt (st.Switch word opening given closing left parts right) ≡ t.switch_stmt word opening (view.expr given) closing left (switch_parts_of parts.items) right
unfolding view.stmt
view_switch_stmt word opening given closing left parts right =
    let row_parts = row_switch_stmt_parts (st.Switch word opening given closing left parts right) in
    ap (λ (x : t.SwitchParts). t.switch_stmt word opening (view.expr given) closing left x right) (switch_parts_row row_parts.0 row_parts.1 ∙ ap switch_parts_of (items_hidden-the_row-SwitchPart-7 parts))

abbrev row_try_stmt_inside : Stmt → (n : Count) × Row_of-Stmt n
row_try_stmt_inside (st.Try' word o_inside n_inside row c_inside n_parts parts) = (_, row)
row_try_stmt_inside _ = (_, end_of-Stmt)

abbrev row_try_stmt_parts : Stmt → (n : Count) × Row_of-TryPart n
row_try_stmt_parts (st.Try' word o_inside n_inside inside c_inside n_parts row) = (_, row)
row_try_stmt_parts _ = (_, end_of-TryPart)

pub view_try_stmt : (word : Place) (inside : Block) (parts : Vec TryPart Global) → view.stmt (st.Try word inside parts) ≡ t.try_stmt word (block_of inside) (try_parts_of parts.items)
unfolding view.stmt
view_try_stmt word inside parts =
    let row_inside = row_try_stmt_inside (st.Try word inside parts) in
    let row_parts = row_try_stmt_parts (st.Try word inside parts) in
    ap (λ (x : t.Stmts). t.try_stmt word (t.the_block inside.opening x inside.closing) (view.try_parts row_parts.1)) (stmts_row row_inside.0 row_inside.1 ∙ ap stmts_of (items_hidden-the_row-Stmt-6 inside.statements)) ∙
    ap (λ (x : t.TryParts). t.try_stmt word (t.the_block inside.opening (stmts_of inside.statements.items) inside.closing) x) (try_parts_row row_parts.0 row_parts.1 ∙ ap try_parts_of (items_hidden-the_row-TryPart-8 parts))

pub view_return_stmt : (word : Place) (given : Value) (semicolon : Place) → view.stmt (st.Return word given semicolon) ≡ t.return_stmt word (view.value given) semicolon
unfolding view.stmt
view_return_stmt word given semicolon = refl

pub view_jump : (jump : Jump) → view.stmt (st.Jump jump) ≡ t.jump jump
unfolding view.stmt
view_jump jump = refl

pub view_expression_stmt : (given : Value) (semicolon : Place) → view.stmt (st.Expression given semicolon) ≡ t.expression_stmt (view.value given) semicolon
unfolding view.stmt
view_expression_stmt given semicolon = refl

abbrev row_for_loop_updates : Loop → (n : Count) × Row_of-Item n
row_for_loop_updates (l.For' word opening start first_semicolon condition semicolon n_updates row closing b_inner inner) = (_, row)
row_for_loop_updates _ = (_, end_of-Item)

pub view_for_loop : (word : Place) (opening : Place) (start : Value) (first_semicolon : Place) (condition : Value) (semicolon : Place) (updates : Vec Item Global) (closing : Place) (inner : Box Stmt Global) → view.loop (l.For word opening start first_semicolon condition semicolon updates closing inner) ≡ t.for_loop word opening (view.value start) first_semicolon (view.value condition) semicolon (items_of updates.items) closing (view.stmt inner.value)
unfolding view.loop
view_for_loop word opening start first_semicolon condition semicolon updates closing inner =
    let row_updates = row_for_loop_updates (l.For word opening start first_semicolon condition semicolon updates closing inner) in
    ap (λ (x : t.Items). t.for_loop word opening (view.value start) first_semicolon (view.value condition) semicolon x closing (view.stmt inner.value)) (items_row row_updates.0 row_updates.1 ∙ ap items_of (items_hidden-the_row-Item-4 updates))

abbrev row_for_variables_updates : Loop → (n : Count) × Row_of-Item n
row_for_variables_updates (l.ForVariables' word opening declared condition semicolon n_updates row closing b_inner inner) = (_, row)
row_for_variables_updates _ = (_, end_of-Item)

pub view_for_variables : (word : Place) (opening : Place) (declared : Variables) (condition : Value) (semicolon : Place) (updates : Vec Item Global) (closing : Place) (inner : Box Stmt Global) → view.loop (l.ForVariables word opening declared condition semicolon updates closing inner) ≡ t.for_variables word opening (view.variables declared) (view.value condition) semicolon (items_of updates.items) closing (view.stmt inner.value)
unfolding view.loop
view_for_variables word opening declared condition semicolon updates closing inner =
    let row_updates = row_for_variables_updates (l.ForVariables word opening declared condition semicolon updates closing inner) in
    ap (λ (x : t.Items). t.for_variables word opening (view.variables declared) (view.value condition) semicolon x closing (view.stmt inner.value)) (items_row row_updates.0 row_updates.1 ∙ ap items_of (items_hidden-the_row-Item-4 updates))

pub view_for_in : (word : Place) (opening : Place) (kind : VariableKind) (name : Identifier) (inside : Place) (iterated : Expr) (closing : Place) (inner : Box Stmt Global) → view.loop (l.ForIn word opening kind name inside iterated closing inner) ≡ t.for_in word opening (view.variable_kind kind) name inside (view.expr iterated) closing (view.stmt inner.value)
unfolding view.loop
view_for_in word opening kind name inside iterated closing inner = refl

pub view_while_loop : (word : Place) (opening : Place) (condition : Expr) (closing : Place) (inner : Box Stmt Global) → view.loop (l.While word opening condition closing inner) ≡ t.while_loop word opening (view.expr condition) closing (view.stmt inner.value)
unfolding view.loop
view_while_loop word opening condition closing inner = refl

pub view_do_loop : (word : Place) (inner : Box Stmt Global) (again : Place) (opening : Place) (condition : Expr) (closing : Place) (semicolon : Place) → view.loop (l.Do word inner again opening condition closing semicolon) ≡ t.do_loop word (view.stmt inner.value) again opening (view.expr condition) closing semicolon
unfolding view.loop
view_do_loop word inner again opening condition closing semicolon = refl

pub view_arrow_body : (arrow : Place) (given : Box Expr Global) (semicolon : Option Place) → view.body (b.Arrow arrow given semicolon) ≡ t.arrow_body arrow (view.expr given.value) semicolon
unfolding view.body
view_arrow_body arrow given semicolon = refl

abbrev row_block_body_inside : Body → (n : Count) × Row_of-Stmt n
row_block_body_inside (b.Block' o_inside n_inside row c_inside) = (_, row)
row_block_body_inside _ = (_, end_of-Stmt)

pub view_block_body : (inside : Block) → view.body (b.Block inside) ≡ t.block_body (block_of inside)
unfolding view.body
view_block_body inside =
    let row_inside = row_block_body_inside (b.Block inside) in
    ap (λ (x : t.Stmts). t.block_body (t.the_block inside.opening x inside.closing)) (stmts_row row_inside.0 row_inside.1 ∙ ap stmts_of (items_hidden-the_row-Stmt-6 inside.statements))

pub view_no_body : (semicolon : Place) → view.body (b.Omitted semicolon) ≡ t.no_body semicolon
unfolding view.body
view_no_body semicolon = refl

pub view_the_arguments : (a : Arguments) → view.arguments a ≡ t.the_arguments (out-Arguments a).opening (items_of (out-Arguments a).items.items) (out-Arguments a).closing
unfolding view.arguments
view_the_arguments (Arguments' opening n_all row_all closing) = rw (outs-Arguments' opening n_all row_all closing) (
    ap (λ (x : t.Items). t.the_arguments opening x closing) (items_row _ row_all ∙ ap items_of (sym (items_shown-the_row-Item-4 n_all row_all))))

pub view_the_parameters : (a : Parameters) → view.parameters a ≡ t.the_parameters (out-Parameters a).opening (parameter_list_of (out-Parameters a).required.items) (out-Parameters a).brackets (parameter_list_of (out-Parameters a).optional.items) (out-Parameters a).closing
unfolding view.parameters
view_the_parameters (Parameters' opening n_required row_required brackets n_optional row_optional closing) = rw (outs-Parameters' opening n_required row_required brackets n_optional row_optional closing) (
    ap (λ (x : t.ParameterList). t.the_parameters opening x brackets (view.parameter_list row_optional) closing) (parameter_list_row _ row_required ∙ ap parameter_list_of (sym (items_shown-the_row-Parameter-10 n_required row_required))) ∙
    ap (λ (x : t.ParameterList). t.the_parameters opening (parameter_list_of (shown-the_row-Parameter-10 n_required row_required).items) brackets x closing) (parameter_list_row _ row_optional ∙ ap parameter_list_of (sym (items_shown-the_row-Parameter-10 n_optional row_optional))))

pub view_the_parameter : (a : Parameter) → view.parameter a ≡ t.the_parameter (out-Parameter a).comma (metadata_of (out-Parameter a).metadata.items) (view.parameter_kind (out-Parameter a).kind) (view.value (out-Parameter a).value)
unfolding view.parameter
view_the_parameter (Parameter' comma n_metadata row_metadata kind given) = rw (outs-Parameter' comma n_metadata row_metadata kind given) (
    ap (λ (x : t.Metadata). t.the_parameter comma x (view.parameter_kind kind) (view.value given)) (metadata_row _ row_metadata ∙ ap metadata_of (sym (items_shown-the_row-Annotation-9 n_metadata row_metadata))))

pub view_the_annotation : (a : Annotation) → view.annotation a ≡ t.the_annotation (out-Annotation a).at (out-Annotation a).name (out-Annotation a).more.items (out-Annotation a).call (items_of (out-Annotation a).items.items)
unfolding view.annotation
view_the_annotation (Annotation' sign name more call n_all row_all) = rw (outs-Annotation' sign name more call n_all row_all) (
    ap (λ (x : t.Items). t.the_annotation sign name more.items call x) (items_row _ row_all ∙ ap items_of (sym (items_shown-the_row-Item-4 n_all row_all))))

pub view_the_variables : (a : Variables) → view.variables a ≡ t.the_variables (view.variable_kind (out-Variables a).kind) (out-Variables a).name (view.value (out-Variables a).value) (more_variables_of (out-Variables a).more.items) (out-Variables a).semicolon
unfolding view.variables
view_the_variables (Variables' kind name given n_more row_more semicolon) = rw (outs-Variables' kind name given n_more row_more semicolon) (
    ap (λ (x : t.MoreVariables). t.the_variables (view.variable_kind kind) name (view.value given) x semicolon) (more_variables_row _ row_more ∙ ap more_variables_of (sym (items_shown-the_row-Variable-11 n_more row_more))))

pub view_the_function : (a : Function) → view.function a ≡ t.the_function (out-Function a).external (view.result_option (out-Function a).result_type) (out-Function a).name (view.parameters (out-Function a).parameters) (view.body (out-Function a).body)
unfolding view.function
view_the_function (Function' external result_type name params inner) = rw (outs-Function' external result_type name params inner) (
    refl)
