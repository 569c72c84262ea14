-- The last token of each constructor of the code, and loops that go along lists to the last token.
use Rattle.std.proofs.Common.{◌≡◌, ◌∙◌, ℕ, suc, ◌+◌, ◌<◌, ◌≤◌, List, [], ◌∷◌, refl, sym, ap, subst, length, get_or, drop, add-one, drop-cons, Vec, Box, Global, Option, Some, None}
use Rattle.std.proofs.lemmas.List.{drop_all}
use Rattle.dart_base.specs.declared.place.Place.{Place}
use Rattle.dart_tree.specs.declared.expression.Expr.{Expr}
use Rattle.dart_tree.specs.declared.expression.Expr.TheVariants as e
use Rattle.dart_tree.specs.declared.expression.Operand.{Operand}
use Rattle.dart_tree.specs.declared.expression.Operand.TheVariants as o
use Rattle.dart_tree.specs.declared.expression.Primary.{Primary}
use Rattle.dart_tree.specs.declared.expression.Primary.TheVariants as p
use Rattle.dart_tree.specs.declared.expression.Selector.{Selector}
use Rattle.dart_tree.specs.declared.expression.Selector.TheVariants as s
use Rattle.dart_tree.specs.declared.expression.Value.{Value}
use Rattle.dart_tree.specs.declared.expression.Value.TheVariants as v
use Rattle.dart_tree.specs.declared.parameter.ParameterKind.TheVariants as k
use Rattle.dart_tree.specs.declared.statement.Stmt.{Stmt}
use Rattle.dart_tree.specs.declared.statement.Stmt.TheVariants as st
use Rattle.dart_tree.specs.declared.statement.Loop.{Loop}
use Rattle.dart_tree.specs.declared.statement.Loop.TheVariants as l
use Rattle.dart_tree.specs.declared.statement.Body.{Body}
use Rattle.dart_tree.specs.declared.statement.Body.TheVariants as b
use Rattle.dart_tree.specs.declared.expression.Arguments.{Arguments, out-Arguments}
use Rattle.dart_tree.specs.declared.parameter.Parameters.{Parameters, out-Parameters}
use Rattle.dart_tree.specs.declared.parameter.Parameter.{Parameter, out-Parameter}
use Rattle.dart_tree.specs.declared.parameter.Annotation.{Annotation, out-Annotation}
use Rattle.dart_tree.specs.declared.statement.Variables.{Variables, out-Variables}
use Rattle.dart_tree.specs.declared.statement.Function.{Function, out-Function}
use Rattle.dart_tree.specs.declared.statement.Block.{Block}
use Rattle.dart_tree.specs.declared.expression.Tail.{Tail}
use Rattle.dart_tree.specs.declared.expression.StringPiece.{StringPiece}
use Rattle.dart_tree.specs.declared.expression.Cascade.{Cascade}
use Rattle.dart_tree.specs.declared.expression.Item.{Item}
use Rattle.dart_tree.specs.declared.expression.Entry.{Entry}
use Rattle.dart_tree.specs.declared.statement.Variable.{Variable}
use Rattle.dart_tree.specs.declared.statement.SwitchPart.{SwitchPart}
use Rattle.dart_tree.specs.declared.statement.TryPart.{TryPart}
use Rattle.dart_tree.specs.declared.operator.Operator.{Operator}
use Rattle.dart_tree.specs.declared.identifier.Identifier.{Identifier}
use Rattle.dart_tree.specs.declared.identifier.DotName.{DotName}
use Rattle.dart_tree.specs.declared.identifier.Label.{Label}
use Rattle.dart_tree.specs.declared.expression.Atom.{Atom}
use Rattle.dart_tree.specs.declared.expression.Creation.{Creation}
use Rattle.dart_tree.specs.declared.parameter.ThisDot.{ThisDot}
use Rattle.dart_tree.specs.declared.statement.Jump.{Jump}
use Rattle.dart_tree.specs.declared.types.TypeNode.{TypeNode}
use Rattle.dart_tree.specs.declared.types.TypeArguments.{TypeArguments}
use Rattle.dart_tree.specs.declared.types.ResultType.{ResultType}
use Rattle.dart_tree.specs.declared.parameter.VariableKind.{VariableKind}
use Rattle.dart_tree.specs.Lists.{block_of, tails_of, pieces_of, selectors_of, cascades_of, items_of, entries_of, parameter_list_of, metadata_of, stmts_of, more_variables_of, switch_parts_of, try_parts_of}
use Rattle.dart_tree.specs.Tree as t
use Rattle.dart_tree.specs.View as view
use Rattle.dart_tree.proofs.Rows.{view_assign, view_plain, view_throw, view_conditional, view_binary, view_is_type, view_as_type, view_prefix, view_postfix, view_primary, view_super_access, view_bare_super, view_atom, view_text, view_list_literal, view_map_literal, view_new_object, view_function_literal, view_parenthesized, view_member, view_index, view_call, view_omitted, view_given, view_block_stmt, view_variables_stmt, view_function_stmt, view_if_stmt, view_if_else, view_loop, view_switch_stmt, view_try_stmt, view_return_stmt, view_jump, view_expression_stmt, view_for_loop, view_for_variables, view_for_in, view_while_loop, view_do_loop, view_arrow_body, view_block_body, view_no_body, view_the_arguments, view_the_variables, view_the_function, view_labelled}
use Rattle.scope_declared.specs.Last.{arguments_last, atom_place, block_last, body_last, cascades_last, end_or, expr_last, function_last, identifier_place, jump_last, loop_last, maybe_operator_last, operand_last, operator_last, pieces_last, primary_last, selector_last, selectors_last, stmt_last, stmts_last, tails_last, try_parts_last, type_last, value_last, variables_last}

module _ {A : Type 0} (F : Place → List A → Place) (f : A → Place) (more : (before : Place) (x : A) (rest : List A) → F before (x ∷ rest) ≡ F (f x) rest) where
  pub turn : (xs ys : List A) (i : ℕ) (x : A) (last last2 all : Place) → ys ≡ xs → i < length ys → x ≡ get_or ys i x → F last (drop i xs) ≡ all → last2 ≡ f x → F last2 (drop (i + 1) xs) ≡ all
  turn xs ys i x last last2 all same below is inv step = ap (λ (o : Place). F o (drop (i + 1) xs)) step ∙ sym (more last x (drop (i + 1) xs)) ∙ ap (F last) (sym cut) ∙ inv where
    below2 : i < length xs
    below2 = let P : List A → Type 0 = λ l. i < length l in subst P same below

    cut : drop i xs ≡ x ∷ drop (i + 1) xs
    cut = drop-cons xs i x below2 ∙ ap (λ (y : A). y ∷ drop (suc i) xs) (sym (is ∙ ap (λ (l : List A). get_or l i x) same)) ∙ ap (λ (n : ℕ). x ∷ drop n xs) (sym (add-one i))

pub over : {A : Type 0} (F : Place → List A → Place) → ((before : Place) → F before [] ≡ before) → (xs ys : List A) (i : ℕ) (last all : Place) → ys ≡ xs → length ys ≤ i → F last (drop i xs) ≡ all → last ≡ all
over {A = A} F none xs ys i last all same past inv = sym (none last) ∙ ap (F last) (sym (drop_all i xs past2)) ∙ inv where
  past2 : length xs ≤ i
  past2 = let P : List A → Type 0 = λ l. length l ≤ i in subst P same past

pub last_assign : (before : Place) (target : Operand) (operator : Operator) (given : Box Expr Global) → expr_last before (view.expr (e.Assign target operator given)) ≡ expr_last (operator_last operator) (view.expr given.value)
unfolding expr_last
last_assign before target operator given = ap (expr_last before) (view_assign target operator given)

pub last_plain : (before : Place) (first : Operand) (more : Vec Cascade Global) → expr_last before (view.expr (e.Plain first more)) ≡ cascades_last (operand_last before (view.operand first)) (cascades_of more.items)
unfolding expr_last
last_plain before first more = ap (expr_last before) (view_plain first more)

pub last_throw : (before : Place) (word : Place) (given : Box Expr Global) → expr_last before (view.expr (e.Throw word given)) ≡ expr_last word (view.expr given.value)
unfolding expr_last
last_throw before word given = ap (expr_last before) (view_throw word given)

pub last_conditional : (before : Place) (condition : Box Operand Global) (question : Place) (first : Box Expr Global) (colon : Place) (second : Box Expr Global) → operand_last before (view.operand (o.Conditional condition question first colon second)) ≡ expr_last colon (view.expr second.value)
unfolding operand_last
last_conditional before condition question first colon second = ap (operand_last before) (view_conditional condition question first colon second)

pub last_binary : (before : Place) (first : Box Operand Global) (more : Vec Tail Global) → operand_last before (view.operand (o.Binary first more)) ≡ tails_last (operand_last before (view.operand first.value)) (tails_of more.items)
unfolding operand_last
last_binary before first more = ap (operand_last before) (view_binary first more)

pub last_is_type : (before : Place) (first : Box Operand Global) (word : Place) (bang : Option Place) (kind : Box TypeNode Global) → operand_last before (view.operand (o.Is first word bang kind)) ≡ type_last (view.type_node kind.value)
unfolding operand_last
last_is_type before first word bang kind = ap (operand_last before) (view_is_type first word bang kind)

pub last_as_type : (before : Place) (first : Box Operand Global) (word : Place) (kind : Box TypeNode Global) → operand_last before (view.operand (o.As first word kind)) ≡ type_last (view.type_node kind.value)
unfolding operand_last
last_as_type before first word kind = ap (operand_last before) (view_as_type first word kind)

pub last_prefix : (before : Place) (operator : Operator) (first : Box Operand Global) → operand_last before (view.operand (o.Prefix operator first)) ≡ operand_last (operator_last operator) (view.operand first.value)
unfolding operand_last
last_prefix before operator first = ap (operand_last before) (view_prefix operator first)

pub last_postfix : (before : Place) (first : Box Primary Global) (more : Vec Selector Global) (operator : Option Operator) → operand_last before (view.operand (o.Postfix first more operator)) ≡ maybe_operator_last (selectors_last (primary_last before (view.primary first.value)) (selectors_of more.items)) operator
unfolding operand_last
last_postfix before first more operator = ap (operand_last before) (view_postfix first more operator)

pub last_primary : (before : Place) (base : Primary) → operand_last before (view.operand (o.Primary base)) ≡ primary_last before (view.primary base)
unfolding operand_last
last_primary before base = ap (operand_last before) (view_primary base)

pub last_super_access : (before : Place) (word : Place) (next : Box Selector Global) → primary_last before (view.primary (p.Super word next)) ≡ selector_last (view.selector next.value)
unfolding primary_last
last_super_access before word next = ap (primary_last before) (view_super_access word next)

pub last_bare_super : (before : Place) (word : Place) → primary_last before (view.primary (p.BareSuper word)) ≡ word
unfolding primary_last
last_bare_super before word = ap (primary_last before) (view_bare_super word)

pub last_atom : (before : Place) (atom : Atom) → primary_last before (view.primary (p.Atom atom)) ≡ atom_place atom
unfolding primary_last
last_atom before atom = ap (primary_last before) (view_atom atom)

pub last_text : (before : Place) (all : Vec StringPiece Global) → primary_last before (view.primary (p.Text all)) ≡ pieces_last before (pieces_of all.items)
unfolding primary_last
last_text before all = ap (primary_last before) (view_text all)

pub last_list_literal : (before : Place) (kinds : Box TypeArguments Global) (opening : Place) (all : Vec Item Global) (comma : Option Place) (closing : Place) → primary_last before (view.primary (p.List kinds opening all comma closing)) ≡ closing
unfolding primary_last
last_list_literal before kinds opening all comma closing = ap (primary_last before) (view_list_literal kinds opening all comma closing)

pub last_map_literal : (before : Place) (kinds : Box TypeArguments Global) (opening : Place) (all : Vec Entry Global) (comma : Option Place) (closing : Place) → primary_last before (view.primary (p.Map kinds opening all comma closing)) ≡ closing
unfolding primary_last
last_map_literal before kinds opening all comma closing = ap (primary_last before) (view_map_literal kinds opening all comma closing)

pub last_new_object : (before : Place) (creation : Creation) (class : Box TypeNode Global) (constructor : Box (Option DotName) Global) (args : Box Arguments Global) → primary_last before (view.primary (p.New creation class constructor args)) ≡ arguments_last (view.arguments args.value)
unfolding primary_last
last_new_object before creation class constructor args = ap (primary_last before) (view_new_object creation class constructor args)

pub last_function_literal : (before : Place) (params : Box Parameters Global) (inner : Body) → primary_last before (view.primary (p.Function params inner)) ≡ body_last (view.body inner)
unfolding primary_last
last_function_literal before params inner = ap (primary_last before) (view_function_literal params inner)

pub last_parenthesized : (before : Place) (opening : Place) (given : Box Expr Global) (closing : Place) → primary_last before (view.primary (p.Parenthesized opening given closing)) ≡ closing
unfolding primary_last
last_parenthesized before opening given closing = ap (primary_last before) (view_parenthesized opening given closing)

pub last_member : (dot : Option Place) (name : Identifier) → selector_last (view.selector (s.Member dot name)) ≡ identifier_place name
last_member dot name = ap selector_last (view_member dot name)

pub last_index : (opening : Place) (given : Box Expr Global) (closing : Place) → selector_last (view.selector (s.Index opening given closing)) ≡ closing
last_index opening given closing = ap selector_last (view_index opening given closing)

pub last_call : (args : Arguments) → selector_last (view.selector (s.Call args)) ≡ arguments_last (view.arguments args)
last_call args = ap selector_last (view_call args)

pub last_omitted : (before : Place) → value_last before (view.value v.Omitted) ≡ before
unfolding value_last
last_omitted before = ap (value_last before) (view_omitted)

pub last_given : (before : Place) (operator : Option Operator) (given : Box Expr Global) → value_last before (view.value (v.Given operator given)) ≡ expr_last before (view.expr given.value)
unfolding value_last
last_given before operator given = ap (value_last before) (view_given operator given)

pub last_block_stmt : (inside : Block) → stmt_last (view.stmt (st.Block inside)) ≡ block_last (block_of inside)
unfolding stmt_last
last_block_stmt inside = ap stmt_last (view_block_stmt inside)

pub last_variables_stmt : (declared : Variables) → stmt_last (view.stmt (st.Variables declared)) ≡ variables_last (view.variables declared)
unfolding stmt_last
last_variables_stmt declared = ap stmt_last (view_variables_stmt declared)

pub last_function_stmt : (made : Box Function Global) → stmt_last (view.stmt (st.Function made)) ≡ function_last (view.function made.value)
unfolding stmt_last
last_function_stmt made = ap stmt_last (view_function_stmt made)

pub last_if_stmt : (word : Place) (opening : Place) (condition : Expr) (closing : Place) (first : Box Stmt Global) → stmt_last (view.stmt (st.If word opening condition closing first)) ≡ stmt_last (view.stmt first.value)
unfolding stmt_last
last_if_stmt word opening condition closing first = ap stmt_last (view_if_stmt word opening condition closing first)

pub last_if_else : (word : Place) (opening : Place) (condition : Expr) (closing : Place) (first : Box Stmt Global) (other : Place) (second : Box Stmt Global) → stmt_last (view.stmt (st.IfElse word opening condition closing first other second)) ≡ stmt_last (view.stmt second.value)
unfolding stmt_last
last_if_else word opening condition closing first other second = ap stmt_last (view_if_else word opening condition closing first other second)

pub last_loop : (again : Box Loop Global) → stmt_last (view.stmt (st.Loop again)) ≡ loop_last (view.loop again.value)
unfolding stmt_last
last_loop again = ap stmt_last (view_loop again)

pub last_switch_stmt : (word : Place) (opening : Place) (given : Expr) (closing : Place) (left : Place) (parts : Vec SwitchPart Global) (right : Place) → stmt_last (view.stmt (st.Switch word opening given closing left parts right)) ≡ right
unfolding stmt_last
last_switch_stmt word opening given closing left parts right = ap stmt_last (view_switch_stmt word opening given closing left parts right)

pub last_try_stmt : (word : Place) (inside : Block) (parts : Vec TryPart Global) → stmt_last (view.stmt (st.Try word inside parts)) ≡ try_parts_last (block_last (block_of inside)) (try_parts_of parts.items)
unfolding stmt_last
last_try_stmt word inside parts = ap stmt_last (view_try_stmt word inside parts)

pub last_return_stmt : (word : Place) (given : Value) (semicolon : Place) → stmt_last (view.stmt (st.Return word given semicolon)) ≡ semicolon
unfolding stmt_last
last_return_stmt word given semicolon = ap stmt_last (view_return_stmt word given semicolon)

pub last_jump : (jump : Jump) → stmt_last (view.stmt (st.Jump jump)) ≡ jump_last jump
unfolding stmt_last
last_jump jump = ap stmt_last (view_jump jump)

pub last_expression_stmt : (given : Value) (semicolon : Place) → stmt_last (view.stmt (st.Expression given semicolon)) ≡ semicolon
unfolding stmt_last
last_expression_stmt given semicolon = ap stmt_last (view_expression_stmt given semicolon)

pub last_for_loop : (word : Place) (opening : Place) (start : Value) (first_semicolon : Place) (condition : Value) (semicolon : Place) (updates : Vec Item Global) (closing : Place) (inner : Box Stmt Global) → loop_last (view.loop (l.For word opening start first_semicolon condition semicolon updates closing inner)) ≡ stmt_last (view.stmt inner.value)
unfolding loop_last
last_for_loop word opening start first_semicolon condition semicolon updates closing inner = ap loop_last (view_for_loop word opening start first_semicolon condition semicolon updates closing inner)

pub last_for_variables : (word : Place) (opening : Place) (declared : Variables) (condition : Value) (semicolon : Place) (updates : Vec Item Global) (closing : Place) (inner : Box Stmt Global) → loop_last (view.loop (l.ForVariables word opening declared condition semicolon updates closing inner)) ≡ stmt_last (view.stmt inner.value)
unfolding loop_last
last_for_variables word opening declared condition semicolon updates closing inner = ap loop_last (view_for_variables word opening declared condition semicolon updates closing inner)

pub last_for_in : (word : Place) (opening : Place) (kind : VariableKind) (name : Identifier) (inside : Place) (iterated : Expr) (closing : Place) (inner : Box Stmt Global) → loop_last (view.loop (l.ForIn word opening kind name inside iterated closing inner)) ≡ stmt_last (view.stmt inner.value)
unfolding loop_last
last_for_in word opening kind name inside iterated closing inner = ap loop_last (view_for_in word opening kind name inside iterated closing inner)

pub last_while_loop : (word : Place) (opening : Place) (condition : Expr) (closing : Place) (inner : Box Stmt Global) → loop_last (view.loop (l.While word opening condition closing inner)) ≡ stmt_last (view.stmt inner.value)
unfolding loop_last
last_while_loop word opening condition closing inner = ap loop_last (view_while_loop word opening condition closing inner)

pub last_do_loop : (word : Place) (inner : Box Stmt Global) (again : Place) (opening : Place) (condition : Expr) (closing : Place) (semicolon : Place) → loop_last (view.loop (l.Do word inner again opening condition closing semicolon)) ≡ semicolon
unfolding loop_last
last_do_loop word inner again opening condition closing semicolon = ap loop_last (view_do_loop word inner again opening condition closing semicolon)

pub last_arrow_body : (arrow : Place) (given : Box Expr Global) (semicolon : Option Place) → body_last (view.body (b.Arrow arrow given semicolon)) ≡ end_or semicolon (expr_last arrow (view.expr given.value))
unfolding body_last
last_arrow_body arrow given semicolon = ap body_last (view_arrow_body arrow given semicolon)

pub last_block_body : (inside : Block) → body_last (view.body (b.Block inside)) ≡ block_last (block_of inside)
unfolding body_last
last_block_body inside = ap body_last (view_block_body inside)

pub last_no_body : (semicolon : Place) → body_last (view.body (b.Omitted semicolon)) ≡ semicolon
unfolding body_last
last_no_body semicolon = ap body_last (view_no_body semicolon)

pub last_the_arguments : (a : Arguments) → arguments_last (view.arguments a) ≡ (out-Arguments a).closing
last_the_arguments a = ap arguments_last (view_the_arguments a)

pub last_the_variables : (a : Variables) → variables_last (view.variables a) ≡ (out-Variables a).semicolon
last_the_variables a = ap variables_last (view_the_variables a)

pub last_the_function : (a : Function) → function_last (view.function a) ≡ body_last (view.body (out-Function a).body)
last_the_function a = ap function_last (view_the_function a)

labels_last : (labels : List Label) (inner : t.Stmt) → stmt_last (t.with_labels labels inner) ≡ stmt_last inner
unfolding stmt_last
labels_last [] inner = refl
labels_last (x ∷ more) inner = labels_last more inner

pub last_labelled : (labels : Vec Label Global) (next : Box Stmt Global) → stmt_last (view.stmt (st.Labelled labels next)) ≡ stmt_last (view.stmt next.value)
last_labelled labels next = ap stmt_last (view_labelled labels next) ∙ labels_last labels.items (view.stmt next.value)

pub more_tails : (before : Place) (x : Tail) (rest : List Tail) → tails_last before (tails_of (x ∷ rest)) ≡ tails_last (operand_last (operator_last x.operator) (view.operand x.operand)) (tails_of rest)
unfolding tails_last
more_tails before x rest = refl

pub none_tails : (before : Place) → tails_last before (tails_of []) ≡ before
unfolding tails_last
none_tails before = refl

pub more_pieces : (before : Place) (x : StringPiece) (rest : List StringPiece) → pieces_last before (pieces_of (x ∷ rest)) ≡ pieces_last (value_last x.place (view.value x.value)) (pieces_of rest)
unfolding pieces_last
more_pieces before x rest = refl

pub none_pieces : (before : Place) → pieces_last before (pieces_of []) ≡ before
unfolding pieces_last
none_pieces before = refl

pub more_selectors : (before : Place) (x : Selector) (rest : List Selector) → selectors_last before (selectors_of (x ∷ rest)) ≡ selectors_last (selector_last (view.selector x)) (selectors_of rest)
unfolding selectors_last
more_selectors before x rest = refl

pub none_selectors : (before : Place) → selectors_last before (selectors_of []) ≡ before
unfolding selectors_last
none_selectors before = refl

pub more_cascades : (before : Place) (x : Cascade) (rest : List Cascade) → cascades_last before (cascades_of (x ∷ rest)) ≡ cascades_last (value_last (selectors_last x.dots (selectors_of x.selectors.items)) (view.value x.value)) (cascades_of rest)
unfolding cascades_last
more_cascades before x rest = refl

pub none_cascades : (before : Place) → cascades_last before (cascades_of []) ≡ before
unfolding cascades_last
none_cascades before = refl

pub more_try_parts : (before : Place) (x : TryPart) (rest : List TryPart) → try_parts_last before (try_parts_of (x ∷ rest)) ≡ try_parts_last (x.block.closing) (try_parts_of rest)
more_try_parts before x rest = refl

pub none_try_parts : (before : Place) → try_parts_last before (try_parts_of []) ≡ before
none_try_parts before = refl

pub more_stmts : (before : Place) (x : Stmt) (rest : List Stmt) → stmts_last before (stmts_of (x ∷ rest)) ≡ stmts_last (stmt_last (view.stmt x)) (stmts_of rest)
unfolding stmts_last
more_stmts before x rest = refl

pub none_stmts : (before : Place) → stmts_last before (stmts_of []) ≡ before
unfolding stmts_last
none_stmts before = refl
