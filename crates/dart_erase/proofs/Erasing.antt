-- What erasure makes of each constructor of the code.
use Rattle.std.proofs.Common.{◌≡◌, List, [], ◌∷◌, refl, ap, ◌∙◌, Vec, Box, Global, Option, None}
use Rattle.dart_base.specs.declared.place.Place.{Place}
use Rattle.dart_tree.specs.declared.expression.Expr.{Expr}
use Rattle.dart_tree.specs.declared.expression.Expr.TheVariants as e
use Rattle.dart_tree.specs.declared.expression.Operand.{Operand}
use Rattle.dart_tree.specs.declared.expression.Operand.TheVariants as o
use Rattle.dart_tree.specs.declared.expression.Primary.{Primary}
use Rattle.dart_tree.specs.declared.expression.Primary.TheVariants as p
use Rattle.dart_tree.specs.declared.expression.Selector.{Selector}
use Rattle.dart_tree.specs.declared.expression.Selector.TheVariants as s
use Rattle.dart_tree.specs.declared.expression.Value.{Value}
use Rattle.dart_tree.specs.declared.expression.Value.TheVariants as v
use Rattle.dart_tree.specs.declared.parameter.ParameterKind.TheVariants as k
use Rattle.dart_tree.specs.declared.statement.Stmt.{Stmt}
use Rattle.dart_tree.specs.declared.statement.Stmt.TheVariants as st
use Rattle.dart_tree.specs.declared.statement.Loop.{Loop}
use Rattle.dart_tree.specs.declared.statement.Loop.TheVariants as l
use Rattle.dart_tree.specs.declared.statement.Body.{Body}
use Rattle.dart_tree.specs.declared.statement.Body.TheVariants as b
use Rattle.dart_tree.specs.declared.expression.Arguments.{Arguments, out-Arguments}
use Rattle.dart_tree.specs.declared.parameter.Parameters.{Parameters, out-Parameters}
use Rattle.dart_tree.specs.declared.parameter.Parameter.{Parameter, out-Parameter}
use Rattle.dart_tree.specs.declared.parameter.Annotation.{Annotation, out-Annotation}
use Rattle.dart_tree.specs.declared.statement.Variables.{Variables, out-Variables}
use Rattle.dart_tree.specs.declared.statement.Function.{Function, out-Function}
use Rattle.dart_tree.specs.declared.statement.Block.{Block}
use Rattle.dart_tree.specs.declared.expression.Tail.{Tail}
use Rattle.dart_tree.specs.declared.expression.StringPiece.{StringPiece}
use Rattle.dart_tree.specs.declared.expression.Cascade.{Cascade}
use Rattle.dart_tree.specs.declared.expression.Item.{Item}
use Rattle.dart_tree.specs.declared.expression.Entry.{Entry}
use Rattle.dart_tree.specs.declared.statement.Variable.{Variable}
use Rattle.dart_tree.specs.declared.statement.SwitchPart.{SwitchPart}
use Rattle.dart_tree.specs.declared.statement.TryPart.{TryPart}
use Rattle.dart_tree.specs.declared.operator.Operator.{Operator}
use Rattle.dart_tree.specs.declared.identifier.Identifier.{Identifier}
use Rattle.dart_tree.specs.declared.identifier.DotName.{DotName}
use Rattle.dart_tree.specs.declared.identifier.Label.{Label}
use Rattle.dart_tree.specs.declared.expression.Atom.{Atom}
use Rattle.dart_tree.specs.declared.expression.Creation.{Creation}
use Rattle.dart_tree.specs.declared.parameter.ThisDot.{ThisDot}
use Rattle.dart_tree.specs.declared.statement.Jump.{Jump}
use Rattle.dart_tree.specs.declared.types.TypeNode.{TypeNode}
use Rattle.dart_tree.specs.declared.types.TypeArguments.{TypeArguments}
use Rattle.dart_tree.specs.declared.types.ResultType.{ResultType}
use Rattle.dart_tree.specs.declared.parameter.VariableKind.{VariableKind}
use Rattle.dart_tree.specs.Types as y
use Rattle.dart_tree.specs.Tree as t
use Rattle.dart_tree.specs.View as view
use Rattle.dart_erase.specs.Erased as erased
use Rattle.dart_tree.specs.Lists.{block_of, tails_of, pieces_of, selectors_of, cascades_of, items_of, entries_of, parameter_list_of, metadata_of, stmts_of, more_variables_of, switch_parts_of, try_parts_of}
use Rattle.dart_tree.proofs.Rows.{view_assign, view_plain, view_throw, view_conditional, view_binary, view_is_type, view_as_type, view_prefix, view_postfix, view_primary, view_super_access, view_bare_super, view_atom, view_text, view_list_literal, view_map_literal, view_new_object, view_function_literal, view_parenthesized, view_member, view_index, view_call, view_omitted, view_given, view_plain_parameter, view_function_parameter, view_labelled, view_block_stmt, view_variables_stmt, view_function_stmt, view_if_stmt, view_if_else, view_loop, view_switch_stmt, view_try_stmt, view_return_stmt, view_jump, view_expression_stmt, view_for_loop, view_for_variables, view_for_in, view_while_loop, view_do_loop, view_arrow_body, view_block_body, view_no_body, view_the_arguments, view_the_parameters, view_the_parameter, view_the_annotation, view_the_variables, view_the_function}

pub erasing_assign : (target : Operand) (operator : Operator) (given : Box Expr Global) → erased.expr (view.expr (e.Assign target operator given)) ≡ t.assign (erased.operand (view.operand target)) operator (erased.expr (view.expr given.value))
unfolding erased.expr
erasing_assign target operator given = ap erased.expr (view_assign target operator given)

pub erasing_plain : (first : Operand) (more : Vec Cascade Global) → erased.expr (view.expr (e.Plain first more)) ≡ t.plain (erased.operand (view.operand first)) (erased.cascades (cascades_of more.items))
unfolding erased.expr
erasing_plain first more = ap erased.expr (view_plain first more)

pub erasing_throw : (word : Place) (given : Box Expr Global) → erased.expr (view.expr (e.Throw word given)) ≡ t.throw word (erased.expr (view.expr given.value))
unfolding erased.expr
erasing_throw word given = ap erased.expr (view_throw word given)

pub erasing_conditional : (condition : Box Operand Global) (question : Place) (first : Box Expr Global) (colon : Place) (second : Box Expr Global) → erased.operand (view.operand (o.Conditional condition question first colon second)) ≡ t.conditional (erased.operand (view.operand condition.value)) question (erased.expr (view.expr first.value)) colon (erased.expr (view.expr second.value))
unfolding erased.operand
erasing_conditional condition question first colon second = ap erased.operand (view_conditional condition question first colon second)

pub erasing_binary : (first : Box Operand Global) (more : Vec Tail Global) → erased.operand (view.operand (o.Binary first more)) ≡ t.binary (erased.operand (view.operand first.value)) (erased.tails (tails_of more.items))
unfolding erased.operand
erasing_binary first more = ap erased.operand (view_binary first more)

pub erasing_is_type : (first : Box Operand Global) (word : Place) (bang : Option Place) (kind : Box TypeNode Global) → erased.operand (view.operand (o.Is first word bang kind)) ≡ t.is_type (erased.operand (view.operand first.value)) word bang (view.type_node kind.value)
unfolding erased.operand
erasing_is_type first word bang kind = ap erased.operand (view_is_type first word bang kind)

pub erasing_as_type : (first : Box Operand Global) (word : Place) (kind : Box TypeNode Global) → erased.operand (view.operand (o.As first word kind)) ≡ t.as_type (erased.operand (view.operand first.value)) word (view.type_node kind.value)
unfolding erased.operand
erasing_as_type first word kind = ap erased.operand (view_as_type first word kind)

pub erasing_prefix : (operator : Operator) (first : Box Operand Global) → erased.operand (view.operand (o.Prefix operator first)) ≡ t.prefix operator (erased.operand (view.operand first.value))
unfolding erased.operand
erasing_prefix operator first = ap erased.operand (view_prefix operator first)

pub erasing_postfix : (first : Box Primary Global) (more : Vec Selector Global) (operator : Option Operator) → erased.operand (view.operand (o.Postfix first more operator)) ≡ t.postfix (erased.primary (view.primary first.value)) (erased.selectors (selectors_of more.items)) operator
unfolding erased.operand
erasing_postfix first more operator = ap erased.operand (view_postfix first more operator)

pub erasing_primary : (base : Primary) → erased.operand (view.operand (o.Primary base)) ≡ t.primary (erased.primary (view.primary base))
unfolding erased.operand
erasing_primary base = ap erased.operand (view_primary base)

pub erasing_super_access : (word : Place) (next : Box Selector Global) → erased.primary (view.primary (p.Super word next)) ≡ t.super_access word (erased.selector (view.selector next.value))
unfolding erased.primary
erasing_super_access word next = ap erased.primary (view_super_access word next)

pub erasing_bare_super : (word : Place) → erased.primary (view.primary (p.BareSuper word)) ≡ t.bare_super word
unfolding erased.primary
erasing_bare_super word = ap erased.primary (view_bare_super word)

pub erasing_atom : (atom : Atom) → erased.primary (view.primary (p.Atom atom)) ≡ t.atom atom
unfolding erased.primary
erasing_atom atom = ap erased.primary (view_atom atom)

pub erasing_text : (all : Vec StringPiece Global) → erased.primary (view.primary (p.Text all)) ≡ t.text (erased.pieces (pieces_of all.items))
unfolding erased.primary
erasing_text all = ap erased.primary (view_text all)

pub erasing_list_literal : (kinds : Box TypeArguments Global) (opening : Place) (all : Vec Item Global) (comma : Option Place) (closing : Place) → erased.primary (view.primary (p.List kinds opening all comma closing)) ≡ t.list_literal (view.type_arguments kinds.value) opening (erased.items (items_of all.items)) comma closing
unfolding erased.primary
erasing_list_literal kinds opening all comma closing = ap erased.primary (view_list_literal kinds opening all comma closing)

pub erasing_map_literal : (kinds : Box TypeArguments Global) (opening : Place) (all : Vec Entry Global) (comma : Option Place) (closing : Place) → erased.primary (view.primary (p.Map kinds opening all comma closing)) ≡ t.map_literal (view.type_arguments kinds.value) opening (erased.entries (entries_of all.items)) comma closing
unfolding erased.primary
erasing_map_literal kinds opening all comma closing = ap erased.primary (view_map_literal kinds opening all comma closing)

pub erasing_new_object : (creation : Creation) (class : Box TypeNode Global) (constructor : Box (Option DotName) Global) (args : Box Arguments Global) → erased.primary (view.primary (p.New creation class constructor args)) ≡ t.new_object creation (view.type_node class.value) constructor.value (erased.arguments (view.arguments args.value))
unfolding erased.primary
erasing_new_object creation class constructor args = ap erased.primary (view_new_object creation class constructor args)

pub erasing_function_literal : (params : Box Parameters Global) (inner : Body) → erased.primary (view.primary (p.Function params inner)) ≡ t.function_literal (erased.parameters (view.parameters params.value)) (erased.body (view.body inner))
unfolding erased.primary
erasing_function_literal params inner = ap erased.primary (view_function_literal params inner)

pub erasing_parenthesized : (opening : Place) (given : Box Expr Global) (closing : Place) → erased.primary (view.primary (p.Parenthesized opening given closing)) ≡ t.parenthesized opening (erased.expr (view.expr given.value)) closing
unfolding erased.primary
erasing_parenthesized opening given closing = ap erased.primary (view_parenthesized opening given closing)

pub erasing_member : (dot : Option Place) (name : Identifier) → erased.selector (view.selector (s.Member dot name)) ≡ t.member dot name
unfolding erased.selector
erasing_member dot name = ap erased.selector (view_member dot name)

pub erasing_index : (opening : Place) (given : Box Expr Global) (closing : Place) → erased.selector (view.selector (s.Index opening given closing)) ≡ t.index opening (erased.expr (view.expr given.value)) closing
unfolding erased.selector
erasing_index opening given closing = ap erased.selector (view_index opening given closing)

pub erasing_call : (args : Arguments) → erased.selector (view.selector (s.Call args)) ≡ t.call (erased.arguments (view.arguments args))
unfolding erased.selector
erasing_call args = ap erased.selector (view_call args)

pub erasing_omitted : erased.value (view.value v.Omitted) ≡ t.omitted
unfolding erased.value
erasing_omitted = ap erased.value view_omitted

pub erasing_given : (operator : Option Operator) (given : Box Expr Global) → erased.value (view.value (v.Given operator given)) ≡ t.given operator (erased.expr (view.expr given.value))
unfolding erased.value
erasing_given operator given = ap erased.value (view_given operator given)

pub erasing_plain_parameter : (kind : VariableKind) (this_dot : Option ThisDot) (name : Identifier) → erased.parameter_kind (view.parameter_kind (k.Plain kind this_dot name)) ≡ t.plain_parameter (erased.parameter_type (view.variable_kind kind)) this_dot name
unfolding erased.parameter_kind
erasing_plain_parameter kind this_dot name = ap erased.parameter_kind (view_plain_parameter kind this_dot name)

pub erasing_function_parameter : (result_type : Option ResultType) (this_dot : Option ThisDot) (name : Identifier) (params : Box Parameters Global) → erased.parameter_kind (view.parameter_kind (k.Function result_type this_dot name params)) ≡ t.plain_parameter y.no_kind this_dot name
unfolding erased.parameter_kind
erasing_function_parameter result_type this_dot name params = ap erased.parameter_kind (view_function_parameter result_type this_dot name params)

erasing_labels : (labels : List Label) (next : t.Stmt) → erased.stmt (t.with_labels labels next) ≡ t.with_labels labels (erased.stmt next)
unfolding erased.stmt
erasing_labels [] next = refl
erasing_labels (label ∷ labels) next = ap (t.labelled label) (erasing_labels labels next)

pub erasing_labelled : (labels : Vec Label Global) (next : Box Stmt Global) → erased.stmt (view.stmt (st.Labelled labels next)) ≡ t.with_labels labels.items (erased.stmt (view.stmt next.value))
erasing_labelled labels next = ap erased.stmt (view_labelled labels next) ∙ erasing_labels labels.items (view.stmt next.value)

pub erasing_block_stmt : (inside : Block) → erased.stmt (view.stmt (st.Block inside)) ≡ t.block_stmt (erased.block (block_of inside))
unfolding erased.stmt
erasing_block_stmt inside = ap erased.stmt (view_block_stmt inside)

pub erasing_variables_stmt : (declared : Variables) → erased.stmt (view.stmt (st.Variables declared)) ≡ t.variables_stmt (erased.variables (view.variables declared))
unfolding erased.stmt
erasing_variables_stmt declared = ap erased.stmt (view_variables_stmt declared)

pub erasing_function_stmt : (made : Box Function Global) → erased.stmt (view.stmt (st.Function made)) ≡ t.function_stmt (erased.function (view.function made.value))
unfolding erased.stmt
erasing_function_stmt made = ap erased.stmt (view_function_stmt made)

pub erasing_if_stmt : (word : Place) (opening : Place) (condition : Expr) (closing : Place) (first : Box Stmt Global) → erased.stmt (view.stmt (st.If word opening condition closing first)) ≡ t.if_stmt word opening (erased.expr (view.expr condition)) closing (erased.stmt (view.stmt first.value))
unfolding erased.stmt
erasing_if_stmt word opening condition closing first = ap erased.stmt (view_if_stmt word opening condition closing first)

pub erasing_if_else : (word : Place) (opening : Place) (condition : Expr) (closing : Place) (first : Box Stmt Global) (other : Place) (second : Box Stmt Global) → erased.stmt (view.stmt (st.IfElse word opening condition closing first other second)) ≡ t.if_else word opening (erased.expr (view.expr condition)) closing (erased.stmt (view.stmt first.value)) other (erased.stmt (view.stmt second.value))
unfolding erased.stmt
erasing_if_else word opening condition closing first other second = ap erased.stmt (view_if_else word opening condition closing first other second)

pub erasing_loop : (again : Box Loop Global) → erased.stmt (view.stmt (st.Loop again)) ≡ t.loop (erased.loop (view.loop again.value))
unfolding erased.stmt
erasing_loop again = ap erased.stmt (view_loop again)

pub erasing_switch_stmt : (word : Place) (opening : Place) (given : Expr) (closing : Place) (left : Place) (parts : Vec SwitchPart Global) (right : Place) → erased.stmt (view.stmt (st.Switch word opening given closing left parts right)) ≡ t.switch_stmt word opening (erased.expr (view.expr given)) closing left (erased.switch_parts (switch_parts_of parts.items)) right
unfolding erased.stmt
erasing_switch_stmt word opening given closing left parts right = ap erased.stmt (view_switch_stmt word opening given closing left parts right)

pub erasing_try_stmt : (word : Place) (inside : Block) (parts : Vec TryPart Global) → erased.stmt (view.stmt (st.Try word inside parts)) ≡ t.try_stmt word (erased.block (block_of inside)) (erased.try_parts (try_parts_of parts.items))
unfolding erased.stmt
erasing_try_stmt word inside parts = ap erased.stmt (view_try_stmt word inside parts)

pub erasing_return_stmt : (word : Place) (given : Value) (semicolon : Place) → erased.stmt (view.stmt (st.Return word given semicolon)) ≡ t.return_stmt word (erased.value (view.value given)) semicolon
unfolding erased.stmt
erasing_return_stmt word given semicolon = ap erased.stmt (view_return_stmt word given semicolon)

pub erasing_jump : (jump : Jump) → erased.stmt (view.stmt (st.Jump jump)) ≡ t.jump jump
unfolding erased.stmt
erasing_jump jump = ap erased.stmt (view_jump jump)

pub erasing_expression_stmt : (given : Value) (semicolon : Place) → erased.stmt (view.stmt (st.Expression given semicolon)) ≡ t.expression_stmt (erased.value (view.value given)) semicolon
unfolding erased.stmt
erasing_expression_stmt given semicolon = ap erased.stmt (view_expression_stmt given semicolon)

pub erasing_for_loop : (word : Place) (opening : Place) (start : Value) (first_semicolon : Place) (condition : Value) (semicolon : Place) (updates : Vec Item Global) (closing : Place) (inner : Box Stmt Global) → erased.loop (view.loop (l.For word opening start first_semicolon condition semicolon updates closing inner)) ≡ t.for_loop word opening (erased.value (view.value start)) first_semicolon (erased.value (view.value condition)) semicolon (erased.items (items_of updates.items)) closing (erased.stmt (view.stmt inner.value))
unfolding erased.loop
erasing_for_loop word opening start first_semicolon condition semicolon updates closing inner = ap erased.loop (view_for_loop word opening start first_semicolon condition semicolon updates closing inner)

pub erasing_for_variables : (word : Place) (opening : Place) (declared : Variables) (condition : Value) (semicolon : Place) (updates : Vec Item Global) (closing : Place) (inner : Box Stmt Global) → erased.loop (view.loop (l.ForVariables word opening declared condition semicolon updates closing inner)) ≡ t.for_variables word opening (erased.variables (view.variables declared)) (erased.value (view.value condition)) semicolon (erased.items (items_of updates.items)) closing (erased.stmt (view.stmt inner.value))
unfolding erased.loop
erasing_for_variables word opening declared condition semicolon updates closing inner = ap erased.loop (view_for_variables word opening declared condition semicolon updates closing inner)

pub erasing_for_in : (word : Place) (opening : Place) (kind : VariableKind) (name : Identifier) (inside : Place) (iterated : Expr) (closing : Place) (inner : Box Stmt Global) → erased.loop (view.loop (l.ForIn word opening kind name inside iterated closing inner)) ≡ t.for_in word opening (erased.variable_kind name (view.variable_kind kind)) name inside (erased.expr (view.expr iterated)) closing (erased.stmt (view.stmt inner.value))
unfolding erased.loop
erasing_for_in word opening kind name inside iterated closing inner = ap erased.loop (view_for_in word opening kind name inside iterated closing inner)

pub erasing_while_loop : (word : Place) (opening : Place) (condition : Expr) (closing : Place) (inner : Box Stmt Global) → erased.loop (view.loop (l.While word opening condition closing inner)) ≡ t.while_loop word opening (erased.expr (view.expr condition)) closing (erased.stmt (view.stmt inner.value))
unfolding erased.loop
erasing_while_loop word opening condition closing inner = ap erased.loop (view_while_loop word opening condition closing inner)

pub erasing_do_loop : (word : Place) (inner : Box Stmt Global) (again : Place) (opening : Place) (condition : Expr) (closing : Place) (semicolon : Place) → erased.loop (view.loop (l.Do word inner again opening condition closing semicolon)) ≡ t.do_loop word (erased.stmt (view.stmt inner.value)) again opening (erased.expr (view.expr condition)) closing semicolon
unfolding erased.loop
erasing_do_loop word inner again opening condition closing semicolon = ap erased.loop (view_do_loop word inner again opening condition closing semicolon)

pub erasing_arrow_body : (arrow : Place) (given : Box Expr Global) (semicolon : Option Place) → erased.body (view.body (b.Arrow arrow given semicolon)) ≡ t.arrow_body arrow (erased.expr (view.expr given.value)) semicolon
unfolding erased.body
erasing_arrow_body arrow given semicolon = ap erased.body (view_arrow_body arrow given semicolon)

pub erasing_block_body : (inside : Block) → erased.body (view.body (b.Block inside)) ≡ t.block_body (erased.block (block_of inside))
unfolding erased.body
erasing_block_body inside = ap erased.body (view_block_body inside)

pub erasing_no_body : (semicolon : Place) → erased.body (view.body (b.Omitted semicolon)) ≡ t.no_body semicolon
unfolding erased.body
erasing_no_body semicolon = ap erased.body (view_no_body semicolon)

pub erasing_the_arguments : (a : Arguments) → erased.arguments (view.arguments a) ≡ t.the_arguments (out-Arguments a).opening (erased.items (items_of (out-Arguments a).items.items)) (out-Arguments a).closing
unfolding erased.arguments
erasing_the_arguments a = ap erased.arguments (view_the_arguments a)

pub erasing_the_parameters : (a : Parameters) → erased.parameters (view.parameters a) ≡ t.the_parameters (out-Parameters a).opening (erased.parameter_list (parameter_list_of (out-Parameters a).required.items)) (out-Parameters a).brackets (erased.parameter_list (parameter_list_of (out-Parameters a).optional.items)) (out-Parameters a).closing
unfolding erased.parameters
erasing_the_parameters a = ap erased.parameters (view_the_parameters a)

pub erasing_the_parameter : (a : Parameter) → erased.parameter (view.parameter a) ≡ t.the_parameter (out-Parameter a).comma (erased.metadata (metadata_of (out-Parameter a).metadata.items)) (erased.parameter_kind (view.parameter_kind (out-Parameter a).kind)) (erased.value (view.value (out-Parameter a).value))
unfolding erased.parameter
erasing_the_parameter a = ap erased.parameter (view_the_parameter a)

pub erasing_the_annotation : (a : Annotation) → erased.annotation (view.annotation a) ≡ t.the_annotation (out-Annotation a).at (out-Annotation a).name (out-Annotation a).more.items (out-Annotation a).call (erased.items (items_of (out-Annotation a).items.items))
unfolding erased.annotation
erasing_the_annotation a = ap erased.annotation (view_the_annotation a)

pub erasing_the_variables : (a : Variables) → erased.variables (view.variables a) ≡ t.the_variables (erased.variable_kind (out-Variables a).name (view.variable_kind (out-Variables a).kind)) (out-Variables a).name (erased.value (view.value (out-Variables a).value)) (erased.more_variables (more_variables_of (out-Variables a).more.items)) (out-Variables a).semicolon
unfolding erased.variables
erasing_the_variables a = ap erased.variables (view_the_variables a)

pub erasing_the_function : (a : Function) → erased.function (view.function a) ≡ t.the_function (out-Function a).external None (out-Function a).name (erased.parameters (view.parameters (out-Function a).parameters)) (erased.body (view.body (out-Function a).body))
unfolding erased.function
erasing_the_function a = ap erased.function (view_the_function a)

pub erasing_the_block : (x : Block) → erased.block (block_of x) ≡ t.the_block x.opening (erased.stmts (stmts_of x.statements.items)) x.closing
unfolding erased.block
erasing_the_block x = refl

pub none_tails : tails_of [] ≡ erased.tails (tails_of [])
unfolding erased.tails
none_tails = refl

pub each_tails : (x y0 : Tail) → y0.operator ≡ x.operator → (view.operand y0.operand) ≡ (erased.operand (view.operand x.operand)) → (rest more : List Tail) → tails_of more ≡ erased.tails (tails_of rest) → tails_of (y0 ∷ more) ≡ erased.tails (tails_of (x ∷ rest))
unfolding erased.tails
each_tails x y0 e0 e1 rest more e = rw (e0, e1, e) refl

pub none_pieces : pieces_of [] ≡ erased.pieces (pieces_of [])
unfolding erased.pieces
none_pieces = refl

pub each_pieces : (x y0 : StringPiece) → y0.kind ≡ x.kind → y0.place ≡ x.place → y0.text ≡ x.text → (view.value y0.value) ≡ (erased.value (view.value x.value)) → (rest more : List StringPiece) → pieces_of more ≡ erased.pieces (pieces_of rest) → pieces_of (y0 ∷ more) ≡ erased.pieces (pieces_of (x ∷ rest))
unfolding erased.pieces
each_pieces x y0 e0 e1 e2 e3 rest more e = rw (e0, e1, e2, e3, e) refl

pub none_selectors : selectors_of [] ≡ erased.selectors (selectors_of [])
unfolding erased.selectors
none_selectors = refl

pub each_selectors : (x y0 : Selector) → view.selector y0 ≡ erased.selector (view.selector x) → (rest more : List Selector) → selectors_of more ≡ erased.selectors (selectors_of rest) → selectors_of (y0 ∷ more) ≡ erased.selectors (selectors_of (x ∷ rest))
unfolding erased.selectors
each_selectors x y0 e0 rest more e = rw (e0, e) refl

pub none_cascades : cascades_of [] ≡ erased.cascades (cascades_of [])
unfolding erased.cascades
none_cascades = refl

pub each_cascades : (x y0 : Cascade) → y0.dots ≡ x.dots → (selectors_of y0.selectors.items) ≡ (erased.selectors (selectors_of x.selectors.items)) → (view.value y0.value) ≡ (erased.value (view.value x.value)) → (rest more : List Cascade) → cascades_of more ≡ erased.cascades (cascades_of rest) → cascades_of (y0 ∷ more) ≡ erased.cascades (cascades_of (x ∷ rest))
unfolding erased.cascades
each_cascades x y0 e0 e1 e2 rest more e = rw (e0, e1, e2, e) refl

pub none_items : items_of [] ≡ erased.items (items_of [])
unfolding erased.items
none_items = refl

pub each_items : (x y0 : Item) → y0.comma ≡ x.comma → y0.label ≡ x.label → (view.expr y0.value) ≡ (erased.expr (view.expr x.value)) → (rest more : List Item) → items_of more ≡ erased.items (items_of rest) → items_of (y0 ∷ more) ≡ erased.items (items_of (x ∷ rest))
unfolding erased.items
each_items x y0 e0 e1 e2 rest more e = rw (e0, e1, e2, e) refl

pub none_entries : entries_of [] ≡ erased.entries (entries_of [])
unfolding erased.entries
none_entries = refl

pub each_entries : (x y0 : Entry) → y0.comma ≡ x.comma → (view.expr y0.key) ≡ (erased.expr (view.expr x.key)) → y0.colon ≡ x.colon → (view.expr y0.value) ≡ (erased.expr (view.expr x.value)) → (rest more : List Entry) → entries_of more ≡ erased.entries (entries_of rest) → entries_of (y0 ∷ more) ≡ erased.entries (entries_of (x ∷ rest))
unfolding erased.entries
each_entries x y0 e0 e1 e2 e3 rest more e = rw (e0, e1, e2, e3, e) refl

pub none_parameter_list : parameter_list_of [] ≡ erased.parameter_list (parameter_list_of [])
unfolding erased.parameter_list
none_parameter_list = refl

pub each_parameter_list : (x y0 : Parameter) → view.parameter y0 ≡ erased.parameter (view.parameter x) → (rest more : List Parameter) → parameter_list_of more ≡ erased.parameter_list (parameter_list_of rest) → parameter_list_of (y0 ∷ more) ≡ erased.parameter_list (parameter_list_of (x ∷ rest))
unfolding erased.parameter_list
each_parameter_list x y0 e0 rest more e = rw (e0, e) refl

pub none_metadata : metadata_of [] ≡ erased.metadata (metadata_of [])
unfolding erased.metadata
none_metadata = refl

pub each_metadata : (x y0 : Annotation) → view.annotation y0 ≡ erased.annotation (view.annotation x) → (rest more : List Annotation) → metadata_of more ≡ erased.metadata (metadata_of rest) → metadata_of (y0 ∷ more) ≡ erased.metadata (metadata_of (x ∷ rest))
unfolding erased.metadata
each_metadata x y0 e0 rest more e = rw (e0, e) refl

pub none_stmts : stmts_of [] ≡ erased.stmts (stmts_of [])
unfolding erased.stmts
none_stmts = refl

pub each_stmts : (x y0 : Stmt) → view.stmt y0 ≡ erased.stmt (view.stmt x) → (rest more : List Stmt) → stmts_of more ≡ erased.stmts (stmts_of rest) → stmts_of (y0 ∷ more) ≡ erased.stmts (stmts_of (x ∷ rest))
unfolding erased.stmts
each_stmts x y0 e0 rest more e = rw (e0, e) refl

pub none_more_variables : more_variables_of [] ≡ erased.more_variables (more_variables_of [])
unfolding erased.more_variables
none_more_variables = refl

pub each_more_variables : (x y0 : Variable) → y0.comma ≡ x.comma → y0.name ≡ x.name → (view.value y0.value) ≡ (erased.value (view.value x.value)) → (rest more : List Variable) → more_variables_of more ≡ erased.more_variables (more_variables_of rest) → more_variables_of (y0 ∷ more) ≡ erased.more_variables (more_variables_of (x ∷ rest))
unfolding erased.more_variables
each_more_variables x y0 e0 e1 e2 rest more e = rw (e0, e1, e2, e) refl

pub none_switch_parts : switch_parts_of [] ≡ erased.switch_parts (switch_parts_of [])
unfolding erased.switch_parts
none_switch_parts = refl

pub each_switch_parts : (x y0 : SwitchPart) → y0.labels.items ≡ x.labels.items → y0.word ≡ x.word → (view.value y0.value) ≡ (erased.value (view.value x.value)) → y0.colon ≡ x.colon → (stmts_of y0.statements.items) ≡ (erased.stmts (stmts_of x.statements.items)) → (rest more : List SwitchPart) → switch_parts_of more ≡ erased.switch_parts (switch_parts_of rest) → switch_parts_of (y0 ∷ more) ≡ erased.switch_parts (switch_parts_of (x ∷ rest))
unfolding erased.switch_parts
each_switch_parts x y0 e0 e1 e2 e3 e4 rest more e = rw (e0, e1, e2, e3, e4, e) refl

pub none_try_parts : try_parts_of [] ≡ erased.try_parts (try_parts_of [])
unfolding erased.try_parts
none_try_parts = refl

pub each_try_parts : (x y0 : TryPart) → (view.try_kind y0.kind) ≡ (view.try_kind x.kind) → (block_of y0.block) ≡ (erased.block (block_of x.block)) → (rest more : List TryPart) → try_parts_of more ≡ erased.try_parts (try_parts_of rest) → try_parts_of (y0 ∷ more) ≡ erased.try_parts (try_parts_of (x ∷ rest))
unfolding erased.try_parts
each_try_parts x y0 e0 e1 rest more e = rw (e0, e1, e) refl
