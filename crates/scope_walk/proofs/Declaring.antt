-- What each constructor of the code declares.
use Rattle.std.proofs.Common.{◌≡◌, ◌∙◌, ℕ, List, [], ◌∷◌, ◌++◌, refl, ap, append_assoc, rules, Vec, Box, Global, Option}
use Rattle.dart_base.specs.declared.place.Place.{Place}
use Rattle.dart_tree.specs.declared.expression.Expr.{Expr}
use Rattle.dart_tree.specs.declared.expression.Expr.TheVariants as e
use Rattle.dart_tree.specs.declared.expression.Operand.{Operand}
use Rattle.dart_tree.specs.declared.expression.Operand.TheVariants as o
use Rattle.dart_tree.specs.declared.expression.Primary.{Primary}
use Rattle.dart_tree.specs.declared.expression.Primary.TheVariants as p
use Rattle.dart_tree.specs.declared.expression.Selector.{Selector}
use Rattle.dart_tree.specs.declared.expression.Selector.TheVariants as s
use Rattle.dart_tree.specs.declared.expression.Value.{Value}
use Rattle.dart_tree.specs.declared.expression.Value.TheVariants as v
use Rattle.dart_tree.specs.declared.statement.Stmt.{Stmt}
use Rattle.dart_tree.specs.declared.statement.Stmt.TheVariants as st
use Rattle.dart_tree.specs.declared.statement.Loop.{Loop}
use Rattle.dart_tree.specs.declared.statement.Loop.TheVariants as l
use Rattle.dart_tree.specs.declared.statement.Body.{Body}
use Rattle.dart_tree.specs.declared.statement.Body.TheVariants as b
use Rattle.dart_tree.specs.declared.expression.Arguments.{Arguments, out-Arguments}
use Rattle.dart_tree.specs.declared.parameter.Parameters.{Parameters, out-Parameters}
use Rattle.dart_tree.specs.declared.parameter.Parameter.{Parameter, out-Parameter}
use Rattle.dart_tree.specs.declared.parameter.Annotation.{Annotation, out-Annotation}
use Rattle.dart_tree.specs.declared.statement.Variables.{Variables, out-Variables}
use Rattle.dart_tree.specs.declared.statement.Function.{Function, out-Function}
use Rattle.dart_tree.specs.declared.statement.Block.{Block}
use Rattle.dart_tree.specs.declared.expression.Tail.{Tail}
use Rattle.dart_tree.specs.declared.expression.StringPiece.{StringPiece}
use Rattle.dart_tree.specs.declared.expression.Cascade.{Cascade}
use Rattle.dart_tree.specs.declared.expression.Item.{Item}
use Rattle.dart_tree.specs.declared.expression.Entry.{Entry}
use Rattle.dart_tree.specs.declared.statement.Variable.{Variable}
use Rattle.dart_tree.specs.declared.statement.SwitchPart.{SwitchPart}
use Rattle.dart_tree.specs.declared.statement.TryPart.{TryPart}
use Rattle.dart_tree.specs.declared.operator.Operator.{Operator}
use Rattle.dart_tree.specs.declared.identifier.Identifier.{Identifier}
use Rattle.dart_tree.specs.declared.identifier.DotName.{DotName}
use Rattle.dart_tree.specs.declared.identifier.Label.{Label}
use Rattle.dart_tree.specs.declared.expression.Atom.{Atom}
use Rattle.dart_tree.specs.declared.expression.Creation.{Creation}
use Rattle.dart_tree.specs.declared.parameter.ThisDot.{ThisDot}
use Rattle.dart_tree.specs.declared.statement.Jump.{Jump}
use Rattle.dart_tree.specs.declared.types.TypeNode.{TypeNode}
use Rattle.dart_tree.specs.declared.types.TypeArguments.{TypeArguments}
use Rattle.dart_tree.specs.declared.types.ResultType.{ResultType}
use Rattle.dart_tree.specs.declared.parameter.VariableKind.{VariableKind}
use Rattle.dart_tree.specs.Lists.{block_of, tails_of, pieces_of, selectors_of, cascades_of, items_of, entries_of, parameter_list_of, metadata_of, stmts_of, more_variables_of, switch_parts_of, try_parts_of}
use Rattle.dart_tree.specs.Tree as t
use Rattle.dart_tree.specs.View as view
use Rattle.dart_tree.proofs.Rows.{view_assign, view_plain, view_throw, view_conditional, view_binary, view_is_type, view_as_type, view_prefix, view_postfix, view_primary, view_super_access, view_bare_super, view_atom, view_text, view_list_literal, view_map_literal, view_new_object, view_function_literal, view_parenthesized, view_member, view_index, view_call, view_omitted, view_given, view_block_stmt, view_variables_stmt, view_function_stmt, view_if_stmt, view_if_else, view_loop, view_switch_stmt, view_try_stmt, view_return_stmt, view_jump, view_expression_stmt, view_for_loop, view_for_variables, view_for_in, view_while_loop, view_do_loop, view_arrow_body, view_block_body, view_no_body, view_the_arguments, view_the_parameters, view_the_variables, view_the_function, view_labelled, view_the_parameter}
use Rattle.scope_declared.specs.declared.declaration.Scope.{Scope}
use Rattle.scope_declared.specs.declared.declaration.Extent.{Extent}
use Rattle.scope_declared.specs.declared.declaration.DeclaredKind.TheVariants as k
use Rattle.scope_declared.specs.Last.{identifier_place, value_last, body_last, block_last, stmts_last}
use Rattle.scope_declared.specs.Making.{behind, of_identifier, of_literal, formal_declared, for_in_declared, catch_declared}
use Rattle.scope_declared.specs.TreeDeclared.{scope_to, parameters_place, arguments_declares, block_declares, body_declares, cascades_declares, entries_declares, expr_declares, items_declares, local_function_declares, loop_declares, more_variables_declares, operand_declares, parameter_list_declares, parameters_declares, pieces_declares, primary_declares, selector_declares, selectors_declares, stmt_declares, stmts_declares, switch_parts_declares, tails_declares, try_parts_declares, value_declares, variables_declares}

pub declares_assign : (number : List ℕ → ℕ) (target : Operand) (operator : Operator) (given : Box Expr Global) → expr_declares number (view.expr (e.Assign target operator given)) ≡ operand_declares number (view.operand target) ++ expr_declares number (view.expr given.value)
unfolding expr_declares
declares_assign number target operator given = ap (expr_declares number) (view_assign target operator given)

pub declares_plain : (number : List ℕ → ℕ) (first : Operand) (more : Vec Cascade Global) → expr_declares number (view.expr (e.Plain first more)) ≡ operand_declares number (view.operand first) ++ cascades_declares number (cascades_of more.items)
unfolding expr_declares
declares_plain number first more = ap (expr_declares number) (view_plain first more)

pub declares_throw : (number : List ℕ → ℕ) (word : Place) (given : Box Expr Global) → expr_declares number (view.expr (e.Throw word given)) ≡ expr_declares number (view.expr given.value)
unfolding expr_declares
declares_throw number word given = ap (expr_declares number) (view_throw word given)

pub declares_conditional : (number : List ℕ → ℕ) (condition : Box Operand Global) (question : Place) (first : Box Expr Global) (colon : Place) (second : Box Expr Global) → operand_declares number (view.operand (o.Conditional condition question first colon second)) ≡ operand_declares number (view.operand condition.value) ++ (expr_declares number (view.expr first.value) ++ expr_declares number (view.expr second.value))
unfolding operand_declares
declares_conditional number condition question first colon second = ap (operand_declares number) (view_conditional condition question first colon second)

pub declares_binary : (number : List ℕ → ℕ) (first : Box Operand Global) (more : Vec Tail Global) → operand_declares number (view.operand (o.Binary first more)) ≡ operand_declares number (view.operand first.value) ++ tails_declares number (tails_of more.items)
unfolding operand_declares
declares_binary number first more = ap (operand_declares number) (view_binary first more)

pub declares_is_type : (number : List ℕ → ℕ) (first : Box Operand Global) (word : Place) (bang : Option Place) (kind : Box TypeNode Global) → operand_declares number (view.operand (o.Is first word bang kind)) ≡ operand_declares number (view.operand first.value)
unfolding operand_declares
declares_is_type number first word bang kind = ap (operand_declares number) (view_is_type first word bang kind)

pub declares_as_type : (number : List ℕ → ℕ) (first : Box Operand Global) (word : Place) (kind : Box TypeNode Global) → operand_declares number (view.operand (o.As first word kind)) ≡ operand_declares number (view.operand first.value)
unfolding operand_declares
declares_as_type number first word kind = ap (operand_declares number) (view_as_type first word kind)

pub declares_prefix : (number : List ℕ → ℕ) (operator : Operator) (first : Box Operand Global) → operand_declares number (view.operand (o.Prefix operator first)) ≡ operand_declares number (view.operand first.value)
unfolding operand_declares
declares_prefix number operator first = ap (operand_declares number) (view_prefix operator first)

pub declares_postfix : (number : List ℕ → ℕ) (first : Box Primary Global) (more : Vec Selector Global) (operator : Option Operator) → operand_declares number (view.operand (o.Postfix first more operator)) ≡ primary_declares number (view.primary first.value) ++ selectors_declares number (selectors_of more.items)
unfolding operand_declares
declares_postfix number first more operator = ap (operand_declares number) (view_postfix first more operator)

pub declares_primary : (number : List ℕ → ℕ) (base : Primary) → operand_declares number (view.operand (o.Primary base)) ≡ primary_declares number (view.primary base)
unfolding operand_declares
declares_primary number base = ap (operand_declares number) (view_primary base)

pub declares_super_access : (number : List ℕ → ℕ) (word : Place) (next : Box Selector Global) → primary_declares number (view.primary (p.Super word next)) ≡ selector_declares number (view.selector next.value)
unfolding primary_declares
declares_super_access number word next = ap (primary_declares number) (view_super_access word next)

pub declares_bare_super : (number : List ℕ → ℕ) (word : Place) → primary_declares number (view.primary (p.BareSuper word)) ≡ []
unfolding primary_declares
declares_bare_super number word = ap (primary_declares number) (view_bare_super word)

pub declares_atom : (number : List ℕ → ℕ) (atom : Atom) → primary_declares number (view.primary (p.Atom atom)) ≡ []
unfolding primary_declares
declares_atom number atom = ap (primary_declares number) (view_atom atom)

pub declares_text : (number : List ℕ → ℕ) (all : Vec StringPiece Global) → primary_declares number (view.primary (p.Text all)) ≡ pieces_declares number (pieces_of all.items)
unfolding primary_declares
declares_text number all = ap (primary_declares number) (view_text all)

pub declares_list_literal : (number : List ℕ → ℕ) (kinds : Box TypeArguments Global) (opening : Place) (all : Vec Item Global) (comma : Option Place) (closing : Place) → primary_declares number (view.primary (p.List kinds opening all comma closing)) ≡ items_declares number (items_of all.items)
unfolding primary_declares
declares_list_literal number kinds opening all comma closing = ap (primary_declares number) (view_list_literal kinds opening all comma closing)

pub declares_map_literal : (number : List ℕ → ℕ) (kinds : Box TypeArguments Global) (opening : Place) (all : Vec Entry Global) (comma : Option Place) (closing : Place) → primary_declares number (view.primary (p.Map kinds opening all comma closing)) ≡ entries_declares number (entries_of all.items)
unfolding primary_declares
declares_map_literal number kinds opening all comma closing = ap (primary_declares number) (view_map_literal kinds opening all comma closing)

pub declares_new_object : (number : List ℕ → ℕ) (creation : Creation) (class : Box TypeNode Global) (constructor : Box (Option DotName) Global) (args : Box Arguments Global) → primary_declares number (view.primary (p.New creation class constructor args)) ≡ arguments_declares number (view.arguments args.value)
unfolding primary_declares
declares_new_object number creation class constructor args = ap (primary_declares number) (view_new_object creation class constructor args)

pub declares_function_literal : (number : List ℕ → ℕ) (params : Box Parameters Global) (inner : Body) → primary_declares number (view.primary (p.Function params inner)) ≡ of_literal (out-Parameters params.value).opening ∷ (parameters_declares number (body_last (view.body inner)) (view.parameters params.value) ++ body_declares number (view.body inner))
unfolding primary_declares
declares_function_literal number params inner = ap (primary_declares number) (view_function_literal params inner) ∙ ap (λ (x : t.Parameters). of_literal (parameters_place x) ∷ (parameters_declares number (body_last (view.body inner)) (view.parameters params.value) ++ body_declares number (view.body inner))) (view_the_parameters params.value)

pub declares_parenthesized : (number : List ℕ → ℕ) (opening : Place) (given : Box Expr Global) (closing : Place) → primary_declares number (view.primary (p.Parenthesized opening given closing)) ≡ expr_declares number (view.expr given.value)
unfolding primary_declares
declares_parenthesized number opening given closing = ap (primary_declares number) (view_parenthesized opening given closing)

pub declares_member : (number : List ℕ → ℕ) (dot : Option Place) (name : Identifier) → selector_declares number (view.selector (s.Member dot name)) ≡ []
unfolding selector_declares
declares_member number dot name = ap (selector_declares number) (view_member dot name)

pub declares_index : (number : List ℕ → ℕ) (opening : Place) (given : Box Expr Global) (closing : Place) → selector_declares number (view.selector (s.Index opening given closing)) ≡ expr_declares number (view.expr given.value)
unfolding selector_declares
declares_index number opening given closing = ap (selector_declares number) (view_index opening given closing)

pub declares_call : (number : List ℕ → ℕ) (args : Arguments) → selector_declares number (view.selector (s.Call args)) ≡ arguments_declares number (view.arguments args)
unfolding selector_declares
declares_call number args = ap (selector_declares number) (view_call args)

pub declares_omitted : (number : List ℕ → ℕ) → value_declares number (view.value v.Omitted) ≡ []
unfolding value_declares
declares_omitted number = ap (value_declares number) (view_omitted)

pub declares_given : (number : List ℕ → ℕ) (operator : Option Operator) (given : Box Expr Global) → value_declares number (view.value (v.Given operator given)) ≡ expr_declares number (view.expr given.value)
unfolding value_declares
declares_given number operator given = ap (value_declares number) (view_given operator given)

pub declares_block_stmt : (number : List ℕ → ℕ) (scope : Scope) (inside : Block) → stmt_declares number scope (view.stmt (st.Block inside)) ≡ block_declares number (block_of inside)
unfolding stmt_declares
declares_block_stmt number scope inside = ap (stmt_declares number scope) (view_block_stmt inside)

pub declares_variables_stmt : (number : List ℕ → ℕ) (scope : Scope) (declared : Variables) → stmt_declares number scope (view.stmt (st.Variables declared)) ≡ variables_declares number scope (view.variables declared)
unfolding stmt_declares
declares_variables_stmt number scope declared = ap (stmt_declares number scope) (view_variables_stmt declared)

pub declares_function_stmt : (number : List ℕ → ℕ) (scope : Scope) (made : Box Function Global) → stmt_declares number scope (view.stmt (st.Function made)) ≡ local_function_declares number scope (view.function made.value)
unfolding stmt_declares
declares_function_stmt number scope made = ap (stmt_declares number scope) (view_function_stmt made)

pub declares_if_stmt : (number : List ℕ → ℕ) (scope : Scope) (word : Place) (opening : Place) (condition : Expr) (closing : Place) (first : Box Stmt Global) → stmt_declares number scope (view.stmt (st.If word opening condition closing first)) ≡ expr_declares number (view.expr condition) ++ stmt_declares number (scope_to closing (view.stmt first.value)) (view.stmt first.value)
unfolding stmt_declares
declares_if_stmt number scope word opening condition closing first = ap (stmt_declares number scope) (view_if_stmt word opening condition closing first)

pub declares_if_else : (number : List ℕ → ℕ) (scope : Scope) (word : Place) (opening : Place) (condition : Expr) (closing : Place) (first : Box Stmt Global) (other : Place) (second : Box Stmt Global) → stmt_declares number scope (view.stmt (st.IfElse word opening condition closing first other second)) ≡ expr_declares number (view.expr condition) ++ (stmt_declares number (scope_to closing (view.stmt first.value)) (view.stmt first.value) ++ stmt_declares number (scope_to other (view.stmt second.value)) (view.stmt second.value))
unfolding stmt_declares
declares_if_else number scope word opening condition closing first other second = ap (stmt_declares number scope) (view_if_else word opening condition closing first other second)

pub declares_loop : (number : List ℕ → ℕ) (scope : Scope) (again : Box Loop Global) → stmt_declares number scope (view.stmt (st.Loop again)) ≡ loop_declares number (view.loop again.value)
unfolding stmt_declares
declares_loop number scope again = ap (stmt_declares number scope) (view_loop again)

pub declares_switch_stmt : (number : List ℕ → ℕ) (scope : Scope) (word : Place) (opening : Place) (given : Expr) (closing : Place) (left : Place) (parts : Vec SwitchPart Global) (right : Place) → stmt_declares number scope (view.stmt (st.Switch word opening given closing left parts right)) ≡ expr_declares number (view.expr given) ++ switch_parts_declares number (switch_parts_of parts.items)
unfolding stmt_declares
declares_switch_stmt number scope word opening given closing left parts right = ap (stmt_declares number scope) (view_switch_stmt word opening given closing left parts right)

pub declares_try_stmt : (number : List ℕ → ℕ) (scope : Scope) (word : Place) (inside : Block) (parts : Vec TryPart Global) → stmt_declares number scope (view.stmt (st.Try word inside parts)) ≡ block_declares number (block_of inside) ++ try_parts_declares number (try_parts_of parts.items)
unfolding stmt_declares
declares_try_stmt number scope word inside parts = ap (stmt_declares number scope) (view_try_stmt word inside parts)

pub declares_return_stmt : (number : List ℕ → ℕ) (scope : Scope) (word : Place) (given : Value) (semicolon : Place) → stmt_declares number scope (view.stmt (st.Return word given semicolon)) ≡ value_declares number (view.value given)
unfolding stmt_declares
declares_return_stmt number scope word given semicolon = ap (stmt_declares number scope) (view_return_stmt word given semicolon)

pub declares_jump : (number : List ℕ → ℕ) (scope : Scope) (jump : Jump) → stmt_declares number scope (view.stmt (st.Jump jump)) ≡ []
unfolding stmt_declares
declares_jump number scope jump = ap (stmt_declares number scope) (view_jump jump)

pub declares_expression_stmt : (number : List ℕ → ℕ) (scope : Scope) (given : Value) (semicolon : Place) → stmt_declares number scope (view.stmt (st.Expression given semicolon)) ≡ value_declares number (view.value given)
unfolding stmt_declares
declares_expression_stmt number scope given semicolon = ap (stmt_declares number scope) (view_expression_stmt given semicolon)

pub declares_for_loop : (number : List ℕ → ℕ) (word : Place) (opening : Place) (start : Value) (first_semicolon : Place) (condition : Value) (semicolon : Place) (updates : Vec Item Global) (closing : Place) (inner : Box Stmt Global) → loop_declares number (view.loop (l.For word opening start first_semicolon condition semicolon updates closing inner)) ≡ value_declares number (view.value start) ++ (value_declares number (view.value condition) ++ (items_declares number (items_of updates.items) ++ stmt_declares number (scope_to closing (view.stmt inner.value)) (view.stmt inner.value)))
unfolding loop_declares
declares_for_loop number word opening start first_semicolon condition semicolon updates closing inner = ap (loop_declares number) (view_for_loop word opening start first_semicolon condition semicolon updates closing inner)

pub declares_for_variables : (number : List ℕ → ℕ) (word : Place) (opening : Place) (declared : Variables) (condition : Value) (semicolon : Place) (updates : Vec Item Global) (closing : Place) (inner : Box Stmt Global) → loop_declares number (view.loop (l.ForVariables word opening declared condition semicolon updates closing inner)) ≡ variables_declares number (scope_to opening (view.stmt inner.value)) (view.variables declared) ++ (value_declares number (view.value condition) ++ (items_declares number (items_of updates.items) ++ stmt_declares number (scope_to closing (view.stmt inner.value)) (view.stmt inner.value)))
unfolding loop_declares
declares_for_variables number word opening declared condition semicolon updates closing inner = ap (loop_declares number) (view_for_variables word opening declared condition semicolon updates closing inner)

pub declares_for_in : (number : List ℕ → ℕ) (word : Place) (opening : Place) (kind : VariableKind) (name : Identifier) (inside : Place) (iterated : Expr) (closing : Place) (inner : Box Stmt Global) → loop_declares number (view.loop (l.ForIn word opening kind name inside iterated closing inner)) ≡ for_in_declared number (behind closing (scope_to opening (view.stmt inner.value))) (view.variable_kind kind) name ++ (expr_declares number (view.expr iterated) ++ stmt_declares number (scope_to closing (view.stmt inner.value)) (view.stmt inner.value))
unfolding loop_declares
declares_for_in number word opening kind name inside iterated closing inner = ap (loop_declares number) (view_for_in word opening kind name inside iterated closing inner)

pub declares_while_loop : (number : List ℕ → ℕ) (word : Place) (opening : Place) (condition : Expr) (closing : Place) (inner : Box Stmt Global) → loop_declares number (view.loop (l.While word opening condition closing inner)) ≡ expr_declares number (view.expr condition) ++ stmt_declares number (scope_to closing (view.stmt inner.value)) (view.stmt inner.value)
unfolding loop_declares
declares_while_loop number word opening condition closing inner = ap (loop_declares number) (view_while_loop word opening condition closing inner)

pub declares_do_loop : (number : List ℕ → ℕ) (word : Place) (inner : Box Stmt Global) (again : Place) (opening : Place) (condition : Expr) (closing : Place) (semicolon : Place) → loop_declares number (view.loop (l.Do word inner again opening condition closing semicolon)) ≡ stmt_declares number (scope_to word (view.stmt inner.value)) (view.stmt inner.value) ++ expr_declares number (view.expr condition)
unfolding loop_declares
declares_do_loop number word inner again opening condition closing semicolon = ap (loop_declares number) (view_do_loop word inner again opening condition closing semicolon)

pub declares_arrow_body : (number : List ℕ → ℕ) (arrow : Place) (given : Box Expr Global) (semicolon : Option Place) → body_declares number (view.body (b.Arrow arrow given semicolon)) ≡ expr_declares number (view.expr given.value)
unfolding body_declares
declares_arrow_body number arrow given semicolon = ap (body_declares number) (view_arrow_body arrow given semicolon)

pub declares_block_body : (number : List ℕ → ℕ) (inside : Block) → body_declares number (view.body (b.Block inside)) ≡ block_declares number (block_of inside)
unfolding body_declares
declares_block_body number inside = ap (body_declares number) (view_block_body inside)

pub declares_no_body : (number : List ℕ → ℕ) (semicolon : Place) → body_declares number (view.body (b.Omitted semicolon)) ≡ []
unfolding body_declares
declares_no_body number semicolon = ap (body_declares number) (view_no_body semicolon)

pub declares_the_arguments : (number : List ℕ → ℕ) (a : Arguments) → arguments_declares number (view.arguments a) ≡ items_declares number (items_of (out-Arguments a).items.items)
unfolding arguments_declares
declares_the_arguments number a = ap (arguments_declares number) (view_the_arguments a)

pub declares_the_parameters : (number : List ℕ → ℕ) (last : Place) (a : Parameters) → parameters_declares number last (view.parameters a) ≡ parameter_list_declares number (record { scope = (out-Parameters a).opening; after = (out-Parameters a).closing; last = last }) (parameter_list_of (out-Parameters a).required.items) ++ parameter_list_declares number (record { scope = (out-Parameters a).opening; after = (out-Parameters a).closing; last = last }) (parameter_list_of (out-Parameters a).optional.items)
unfolding parameters_declares
declares_the_parameters number last a = ap (parameters_declares number last) (view_the_parameters a)

pub declares_the_variables : (number : List ℕ → ℕ) (scope : Scope) (a : Variables) → variables_declares number scope (view.variables a) ≡ of_identifier number (behind (value_last (identifier_place (out-Variables a).name) (view.value (out-Variables a).value)) scope) k.LocalVariable (out-Variables a).name ∷ (value_declares number (view.value (out-Variables a).value) ++ more_variables_declares number scope (more_variables_of (out-Variables a).more.items))
unfolding variables_declares
declares_the_variables number scope a = ap (variables_declares number scope) (view_the_variables a)

pub declares_the_function : (number : List ℕ → ℕ) (scope : Scope) (a : Function) → local_function_declares number scope (view.function a) ≡ of_identifier number (behind (identifier_place (out-Function a).name) scope) k.LocalFunction (out-Function a).name ∷ (parameters_declares number (body_last (view.body (out-Function a).body)) (view.parameters (out-Function a).parameters) ++ body_declares number (view.body (out-Function a).body))
unfolding local_function_declares
declares_the_function number scope a = ap (local_function_declares number scope) (view_the_function a)

labels_declare : (number : List ℕ → ℕ) (scope : Scope) (labels : List Label) (inner : t.Stmt) → stmt_declares number scope (t.with_labels labels inner) ≡ stmt_declares number scope inner
unfolding stmt_declares
labels_declare number scope [] inner = refl
labels_declare number scope (x ∷ more) inner = labels_declare number scope more inner

pub declares_labelled : (number : List ℕ → ℕ) (scope : Scope) (labels : Vec Label Global) (next : Box Stmt Global) → stmt_declares number scope (view.stmt (st.Labelled labels next)) ≡ stmt_declares number scope (view.stmt next.value)
declares_labelled number scope labels next = ap (stmt_declares number scope) (view_labelled labels next) ∙ labels_declare number scope labels.items (view.stmt next.value)

pub declares_the_block : (number : List ℕ → ℕ) (x : Block) → block_declares number (block_of x) ≡ stmts_declares number (record { place = x.opening; last = x.closing }) (stmts_of x.statements.items)
unfolding block_declares
declares_the_block number x = refl

pub none_tails : (number : List ℕ → ℕ) → tails_declares number (tails_of []) ≡ []
unfolding tails_declares
none_tails number = refl

pub more_tails : (number : List ℕ → ℕ) (x : Tail) (rest : List Tail) → tails_declares number (tails_of (x ∷ rest)) ≡ (operand_declares number (view.operand x.operand)) ++ tails_declares number (tails_of rest)
unfolding tails_declares
more_tails number x rest = refl

pub none_pieces : (number : List ℕ → ℕ) → pieces_declares number (pieces_of []) ≡ []
unfolding pieces_declares
none_pieces number = refl

pub more_pieces : (number : List ℕ → ℕ) (x : StringPiece) (rest : List StringPiece) → pieces_declares number (pieces_of (x ∷ rest)) ≡ (value_declares number (view.value x.value)) ++ pieces_declares number (pieces_of rest)
unfolding pieces_declares
more_pieces number x rest = refl

pub none_selectors : (number : List ℕ → ℕ) → selectors_declares number (selectors_of []) ≡ []
unfolding selectors_declares
none_selectors number = refl

pub more_selectors : (number : List ℕ → ℕ) (x : Selector) (rest : List Selector) → selectors_declares number (selectors_of (x ∷ rest)) ≡ (selector_declares number (view.selector x)) ++ selectors_declares number (selectors_of rest)
unfolding selectors_declares
more_selectors number x rest = refl

pub none_cascades : (number : List ℕ → ℕ) → cascades_declares number (cascades_of []) ≡ []
unfolding cascades_declares
none_cascades number = refl

pub more_cascades : (number : List ℕ → ℕ) (x : Cascade) (rest : List Cascade) → cascades_declares number (cascades_of (x ∷ rest)) ≡ ((selectors_declares number (selectors_of x.selectors.items)) ++ (value_declares number (view.value x.value))) ++ cascades_declares number (cascades_of rest)
unfolding cascades_declares
more_cascades number x rest = search (rules, append_assoc)

pub none_items : (number : List ℕ → ℕ) → items_declares number (items_of []) ≡ []
unfolding items_declares
none_items number = refl

pub more_items : (number : List ℕ → ℕ) (x : Item) (rest : List Item) → items_declares number (items_of (x ∷ rest)) ≡ (expr_declares number (view.expr x.value)) ++ items_declares number (items_of rest)
unfolding items_declares
more_items number x rest = refl

pub none_entries : (number : List ℕ → ℕ) → entries_declares number (entries_of []) ≡ []
unfolding entries_declares
none_entries number = refl

pub more_entries : (number : List ℕ → ℕ) (x : Entry) (rest : List Entry) → entries_declares number (entries_of (x ∷ rest)) ≡ ((expr_declares number (view.expr x.key)) ++ (expr_declares number (view.expr x.value))) ++ entries_declares number (entries_of rest)
unfolding entries_declares
more_entries number x rest = search (rules, append_assoc)

pub none_parameter_list : (number : List ℕ → ℕ) (extent : Extent) → parameter_list_declares number extent (parameter_list_of []) ≡ []
unfolding parameter_list_declares
none_parameter_list number extent = refl

pub more_parameter_list : (number : List ℕ → ℕ) (extent : Extent) (x : Parameter) (rest : List Parameter) → parameter_list_declares number extent (parameter_list_of (x ∷ rest)) ≡ (formal_declared number extent (view.parameter_kind (out-Parameter x).kind) ∷ (value_declares number (view.value (out-Parameter x).value))) ++ parameter_list_declares number extent (parameter_list_of rest)
unfolding parameter_list_declares
more_parameter_list number extent x rest = ap (λ (p : t.Parameter). parameter_list_declares number extent (t.parameter p (parameter_list_of rest))) (view_the_parameter x)

pub none_stmts : (number : List ℕ → ℕ) (scope : Scope) → stmts_declares number scope (stmts_of []) ≡ []
unfolding stmts_declares
none_stmts number scope = refl

pub more_stmts : (number : List ℕ → ℕ) (scope : Scope) (x : Stmt) (rest : List Stmt) → stmts_declares number scope (stmts_of (x ∷ rest)) ≡ (stmt_declares number scope (view.stmt x)) ++ stmts_declares number scope (stmts_of rest)
unfolding stmts_declares
more_stmts number scope x rest = refl

pub none_more_variables : (number : List ℕ → ℕ) (scope : Scope) → more_variables_declares number scope (more_variables_of []) ≡ []
unfolding more_variables_declares
none_more_variables number scope = refl

pub more_more_variables : (number : List ℕ → ℕ) (scope : Scope) (x : Variable) (rest : List Variable) → more_variables_declares number scope (more_variables_of (x ∷ rest)) ≡ (of_identifier number (behind (value_last (identifier_place x.name) (view.value x.value)) scope) k.LocalVariable x.name ∷ value_declares number (view.value x.value)) ++ more_variables_declares number scope (more_variables_of rest)
unfolding more_variables_declares
more_more_variables number scope x rest = refl

pub none_switch_parts : (number : List ℕ → ℕ) → switch_parts_declares number (switch_parts_of []) ≡ []
unfolding switch_parts_declares
none_switch_parts number = refl

pub more_switch_parts : (number : List ℕ → ℕ) (x : SwitchPart) (rest : List SwitchPart) → switch_parts_declares number (switch_parts_of (x ∷ rest)) ≡ ((value_declares number (view.value x.value)) ++ (stmts_declares number (record { place = x.colon; last = stmts_last x.colon (stmts_of x.statements.items) }) (stmts_of x.statements.items))) ++ switch_parts_declares number (switch_parts_of rest)
unfolding switch_parts_declares
more_switch_parts number x rest = search (rules, append_assoc)

pub none_try_parts : (number : List ℕ → ℕ) → try_parts_declares number (try_parts_of []) ≡ []
unfolding try_parts_declares
none_try_parts number = refl

pub more_try_parts : (number : List ℕ → ℕ) (x : TryPart) (rest : List TryPart) → try_parts_declares number (try_parts_of (x ∷ rest)) ≡ ((catch_declared number (block_last (block_of x.block)) (view.try_kind x.kind)) ++ (block_declares number (block_of x.block))) ++ try_parts_declares number (try_parts_of rest)
unfolding try_parts_declares
more_try_parts number x rest = search (rules, append_assoc)
