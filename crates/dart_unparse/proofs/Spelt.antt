-- The tokens that each constructor of the code spells.
use Rattle.std.proofs.Common.{◌≡◌, ◌∙◌, List, [], ◌∷◌, ◌++◌, refl, ap, append_assoc, rules, Vec, Box, Global, Option}
use Rattle.dart_base.specs.declared.place.Place.{Place}
use Rattle.dart_token.specs.declared.sign.Sign.TheVariants as sg
use Rattle.dart_token.specs.declared.word.Word.TheVariants as w
use Rattle.dart_tree.specs.declared.expression.Expr.{Expr}
use Rattle.dart_tree.specs.declared.expression.Expr.TheVariants as e
use Rattle.dart_tree.specs.declared.expression.Operand.{Operand}
use Rattle.dart_tree.specs.declared.expression.Operand.TheVariants as o
use Rattle.dart_tree.specs.declared.expression.Primary.{Primary}
use Rattle.dart_tree.specs.declared.expression.Primary.TheVariants as p
use Rattle.dart_tree.specs.declared.expression.Selector.{Selector}
use Rattle.dart_tree.specs.declared.expression.Selector.TheVariants as s
use Rattle.dart_tree.specs.declared.expression.Value.{Value}
use Rattle.dart_tree.specs.declared.expression.Value.TheVariants as v
use Rattle.dart_tree.specs.declared.parameter.ParameterKind.TheVariants as k
use Rattle.dart_tree.specs.declared.statement.Stmt.{Stmt}
use Rattle.dart_tree.specs.declared.statement.Stmt.TheVariants as st
use Rattle.dart_tree.specs.declared.statement.Loop.{Loop}
use Rattle.dart_tree.specs.declared.statement.Loop.TheVariants as l
use Rattle.dart_tree.specs.declared.statement.Body.{Body}
use Rattle.dart_tree.specs.declared.statement.Body.TheVariants as b
use Rattle.dart_tree.specs.declared.expression.Arguments.{Arguments, out-Arguments}
use Rattle.dart_tree.specs.declared.parameter.Parameters.{Parameters, out-Parameters}
use Rattle.dart_tree.specs.declared.parameter.Parameter.{Parameter, out-Parameter}
use Rattle.dart_tree.specs.declared.parameter.Annotation.{Annotation, out-Annotation}
use Rattle.dart_tree.specs.declared.statement.Variables.{Variables, out-Variables}
use Rattle.dart_tree.specs.declared.statement.Function.{Function, out-Function}
use Rattle.dart_tree.specs.declared.statement.Block.{Block}
use Rattle.dart_tree.specs.declared.expression.Tail.{Tail}
use Rattle.dart_tree.specs.declared.expression.StringPiece.{StringPiece}
use Rattle.dart_tree.specs.declared.expression.Cascade.{Cascade}
use Rattle.dart_tree.specs.declared.expression.Item.{Item}
use Rattle.dart_tree.specs.declared.expression.Entry.{Entry}
use Rattle.dart_tree.specs.declared.statement.Variable.{Variable}
use Rattle.dart_tree.specs.declared.statement.SwitchPart.{SwitchPart}
use Rattle.dart_tree.specs.declared.statement.TryPart.{TryPart}
use Rattle.dart_tree.specs.declared.operator.Operator.{Operator}
use Rattle.dart_tree.specs.declared.identifier.Identifier.{Identifier}
use Rattle.dart_tree.specs.declared.identifier.DotName.{DotName}
use Rattle.dart_tree.specs.declared.identifier.Label.{Label}
use Rattle.dart_tree.specs.declared.expression.Atom.{Atom}
use Rattle.dart_tree.specs.declared.expression.Creation.{Creation}
use Rattle.dart_tree.specs.declared.parameter.ThisDot.{ThisDot}
use Rattle.dart_tree.specs.declared.statement.Jump.{Jump}
use Rattle.dart_tree.specs.declared.types.TypeNode.{TypeNode}
use Rattle.dart_tree.specs.declared.types.TypeArguments.{TypeArguments}
use Rattle.dart_tree.specs.declared.types.ResultType.{ResultType}
use Rattle.dart_tree.specs.declared.parameter.VariableKind.{VariableKind}
use Rattle.dart_tree.specs.Tree as t
use Rattle.dart_tree.specs.View as view
use Rattle.dart_tree.specs.Lists.{block_of, tails_of, pieces_of, selectors_of, cascades_of, items_of, entries_of, parameter_list_of, metadata_of, stmts_of, more_variables_of, switch_parts_of, try_parts_of}
use Rattle.dart_tree.specs.LeafTokens.{sign_at, word_at, creation_token, maybe_sign, maybe_word, operator_tokens, maybe_operator, maybe_dot_name, dot_names_tokens, identifier_tokens, atom_tokens, maybe_this, maybe_label, labels_tokens, jump_tokens, piece_token, opening_bracket, closing_bracket, opening_parenthesis, closing_parenthesis, type_tokens, type_arguments_tokens, maybe_result, kind_tokens, try_kind_tokens}
use Rattle.dart_tree.specs.Tokens.{switch_word, primary_tokens, loop_tokens, expr_tokens, operand_tokens, selector_tokens, value_tokens, parameter_kind_tokens, stmt_tokens, body_tokens, arguments_tokens, parameters_tokens, parameter_tokens, annotation_tokens, variables_tokens, function_tokens, block_tokens, tails_tokens, pieces_tokens, selectors_tokens, cascades_tokens, items_tokens, entries_tokens, parameter_list_tokens, metadata_tokens, stmts_tokens, more_variables_tokens, switch_parts_tokens, try_parts_tokens}
use Rattle.dart_tree.proofs.Rows.{view_assign, view_plain, view_throw, view_conditional, view_binary, view_is_type, view_as_type, view_prefix, view_postfix, view_primary, view_super_access, view_bare_super, view_atom, view_text, view_list_literal, view_map_literal, view_new_object, view_function_literal, view_parenthesized, view_member, view_index, view_call, view_omitted, view_given, view_plain_parameter, view_function_parameter, view_labelled, view_block_stmt, view_variables_stmt, view_function_stmt, view_if_stmt, view_if_else, view_loop, view_switch_stmt, view_try_stmt, view_return_stmt, view_jump, view_expression_stmt, view_for_loop, view_for_variables, view_for_in, view_while_loop, view_do_loop, view_arrow_body, view_block_body, view_no_body, view_the_arguments, view_the_parameters, view_the_parameter, view_the_annotation, view_the_variables, view_the_function}

pub spelt_assign : (target : Operand) (operator : Operator) (given : Box Expr Global) → expr_tokens (view.expr (e.Assign target operator given)) ≡ operand_tokens (view.operand target) ++ (operator_tokens operator ++ expr_tokens (view.expr given.value))
unfolding expr_tokens
spelt_assign target operator given = ap expr_tokens (view_assign target operator given)

pub spelt_plain : (first : Operand) (more : Vec Cascade Global) → expr_tokens (view.expr (e.Plain first more)) ≡ operand_tokens (view.operand first) ++ cascades_tokens (cascades_of more.items)
unfolding expr_tokens
spelt_plain first more = ap expr_tokens (view_plain first more)

pub spelt_throw : (word : Place) (given : Box Expr Global) → expr_tokens (view.expr (e.Throw word given)) ≡ word_at word w.Throw ∷ (expr_tokens (view.expr given.value))
unfolding expr_tokens
spelt_throw word given = ap expr_tokens (view_throw word given)

pub spelt_conditional : (condition : Box Operand Global) (question : Place) (first : Box Expr Global) (colon : Place) (second : Box Expr Global) → operand_tokens (view.operand (o.Conditional condition question first colon second)) ≡ operand_tokens (view.operand condition.value) ++ (sign_at question sg.Question ∷ (expr_tokens (view.expr first.value) ++ (sign_at colon sg.Colon ∷ (expr_tokens (view.expr second.value)))))
unfolding operand_tokens
spelt_conditional condition question first colon second = ap operand_tokens (view_conditional condition question first colon second)

pub spelt_binary : (first : Box Operand Global) (more : Vec Tail Global) → operand_tokens (view.operand (o.Binary first more)) ≡ operand_tokens (view.operand first.value) ++ tails_tokens (tails_of more.items)
unfolding operand_tokens
spelt_binary first more = ap operand_tokens (view_binary first more)

pub spelt_is_type : (first : Box Operand Global) (word : Place) (bang : Option Place) (kind : Box TypeNode Global) → operand_tokens (view.operand (o.Is first word bang kind)) ≡ operand_tokens (view.operand first.value) ++ (word_at word w.Is ∷ (maybe_sign bang sg.Bang ++ type_tokens (view.type_node kind.value)))
unfolding operand_tokens
spelt_is_type first word bang kind = ap operand_tokens (view_is_type first word bang kind)

pub spelt_as_type : (first : Box Operand Global) (word : Place) (kind : Box TypeNode Global) → operand_tokens (view.operand (o.As first word kind)) ≡ operand_tokens (view.operand first.value) ++ (word_at word w.As ∷ (type_tokens (view.type_node kind.value)))
unfolding operand_tokens
spelt_as_type first word kind = ap operand_tokens (view_as_type first word kind)

pub spelt_prefix : (operator : Operator) (first : Box Operand Global) → operand_tokens (view.operand (o.Prefix operator first)) ≡ operator_tokens operator ++ operand_tokens (view.operand first.value)
unfolding operand_tokens
spelt_prefix operator first = ap operand_tokens (view_prefix operator first)

pub spelt_postfix : (first : Box Primary Global) (more : Vec Selector Global) (operator : Option Operator) → operand_tokens (view.operand (o.Postfix first more operator)) ≡ primary_tokens (view.primary first.value) ++ (selectors_tokens (selectors_of more.items) ++ maybe_operator operator)
unfolding operand_tokens
spelt_postfix first more operator = ap operand_tokens (view_postfix first more operator)

pub spelt_primary : (base : Primary) → operand_tokens (view.operand (o.Primary base)) ≡ primary_tokens (view.primary base)
unfolding operand_tokens
spelt_primary base = ap operand_tokens (view_primary base)

pub spelt_super_access : (word : Place) (next : Box Selector Global) → primary_tokens (view.primary (p.Super word next)) ≡ word_at word w.Super ∷ (selector_tokens (view.selector next.value))
unfolding primary_tokens
spelt_super_access word next = ap primary_tokens (view_super_access word next)

pub spelt_bare_super : (word : Place) → primary_tokens (view.primary (p.BareSuper word)) ≡ word_at word w.Super ∷ []
unfolding primary_tokens
spelt_bare_super word = ap primary_tokens (view_bare_super word)

pub spelt_atom : (atom : Atom) → primary_tokens (view.primary (p.Atom atom)) ≡ atom_tokens atom
unfolding primary_tokens
spelt_atom atom = ap primary_tokens (view_atom atom)

pub spelt_text : (all : Vec StringPiece Global) → primary_tokens (view.primary (p.Text all)) ≡ pieces_tokens (pieces_of all.items)
unfolding primary_tokens
spelt_text all = ap primary_tokens (view_text all)

pub spelt_list_literal : (kinds : Box TypeArguments Global) (opening : Place) (all : Vec Item Global) (comma : Option Place) (closing : Place) → primary_tokens (view.primary (p.List kinds opening all comma closing)) ≡ type_arguments_tokens (view.type_arguments kinds.value) ++ (sign_at opening sg.LeftBracket ∷ (items_tokens (items_of all.items) ++ (maybe_sign comma sg.Comma ++ (sign_at closing sg.RightBracket ∷ []))))
unfolding primary_tokens
spelt_list_literal kinds opening all comma closing = ap primary_tokens (view_list_literal kinds opening all comma closing)

pub spelt_map_literal : (kinds : Box TypeArguments Global) (opening : Place) (all : Vec Entry Global) (comma : Option Place) (closing : Place) → primary_tokens (view.primary (p.Map kinds opening all comma closing)) ≡ type_arguments_tokens (view.type_arguments kinds.value) ++ (sign_at opening sg.LeftBrace ∷ (entries_tokens (entries_of all.items) ++ (maybe_sign comma sg.Comma ++ (sign_at closing sg.RightBrace ∷ []))))
unfolding primary_tokens
spelt_map_literal kinds opening all comma closing = ap primary_tokens (view_map_literal kinds opening all comma closing)

pub spelt_new_object : (creation : Creation) (class : Box TypeNode Global) (constructor : Box (Option DotName) Global) (args : Box Arguments Global) → primary_tokens (view.primary (p.New creation class constructor args)) ≡ creation_token creation ∷ (type_tokens (view.type_node class.value) ++ (maybe_dot_name constructor.value ++ arguments_tokens (view.arguments args.value)))
unfolding primary_tokens
spelt_new_object creation class constructor args = ap primary_tokens (view_new_object creation class constructor args)

pub spelt_function_literal : (params : Box Parameters Global) (inner : Body) → primary_tokens (view.primary (p.Function params inner)) ≡ parameters_tokens (view.parameters params.value) ++ body_tokens (view.body inner)
unfolding primary_tokens
spelt_function_literal params inner = ap primary_tokens (view_function_literal params inner)

pub spelt_parenthesized : (opening : Place) (given : Box Expr Global) (closing : Place) → primary_tokens (view.primary (p.Parenthesized opening given closing)) ≡ sign_at opening sg.LeftParenthesis ∷ (expr_tokens (view.expr given.value) ++ (sign_at closing sg.RightParenthesis ∷ []))
unfolding primary_tokens
spelt_parenthesized opening given closing = ap primary_tokens (view_parenthesized opening given closing)

pub spelt_member : (dot : Option Place) (name : Identifier) → selector_tokens (view.selector (s.Member dot name)) ≡ maybe_sign dot sg.Dot ++ identifier_tokens name
unfolding selector_tokens
spelt_member dot name = ap selector_tokens (view_member dot name)

pub spelt_index : (opening : Place) (given : Box Expr Global) (closing : Place) → selector_tokens (view.selector (s.Index opening given closing)) ≡ sign_at opening sg.LeftBracket ∷ (expr_tokens (view.expr given.value) ++ (sign_at closing sg.RightBracket ∷ []))
unfolding selector_tokens
spelt_index opening given closing = ap selector_tokens (view_index opening given closing)

pub spelt_call : (args : Arguments) → selector_tokens (view.selector (s.Call args)) ≡ arguments_tokens (view.arguments args)
unfolding selector_tokens
spelt_call args = ap selector_tokens (view_call args)

pub spelt_omitted : value_tokens (view.value v.Omitted) ≡ []
unfolding value_tokens
spelt_omitted = ap value_tokens view_omitted

pub spelt_given : (operator : Option Operator) (given : Box Expr Global) → value_tokens (view.value (v.Given operator given)) ≡ maybe_operator operator ++ expr_tokens (view.expr given.value)
unfolding value_tokens
spelt_given operator given = ap value_tokens (view_given operator given)

pub spelt_plain_parameter : (kind : VariableKind) (this_dot : Option ThisDot) (name : Identifier) → parameter_kind_tokens (view.parameter_kind (k.Plain kind this_dot name)) ≡ kind_tokens (view.variable_kind kind) ++ (maybe_this this_dot ++ identifier_tokens name)
unfolding parameter_kind_tokens
spelt_plain_parameter kind this_dot name = ap parameter_kind_tokens (view_plain_parameter kind this_dot name)

pub spelt_function_parameter : (result_type : Option ResultType) (this_dot : Option ThisDot) (name : Identifier) (params : Box Parameters Global) → parameter_kind_tokens (view.parameter_kind (k.Function result_type this_dot name params)) ≡ maybe_result (view.result_option result_type) ++ (maybe_this this_dot ++ (identifier_tokens name ++ parameters_tokens (view.parameters params.value)))
unfolding parameter_kind_tokens
spelt_function_parameter result_type this_dot name params = ap parameter_kind_tokens (view_function_parameter result_type this_dot name params)

spelt_labels : (labels : List Label) (next : t.Stmt) → stmt_tokens (t.with_labels labels next) ≡ labels_tokens labels ++ stmt_tokens next
unfolding stmt_tokens
spelt_labels [] next = refl
spelt_labels (label ∷ labels) next = simp (spelt_labels labels next, append_assoc)

pub spelt_labelled : (labels : Vec Label Global) (next : Box Stmt Global) → stmt_tokens (view.stmt (st.Labelled labels next)) ≡ labels_tokens labels.items ++ stmt_tokens (view.stmt next.value)
spelt_labelled labels next = ap stmt_tokens (view_labelled labels next) ∙ spelt_labels labels.items (view.stmt next.value)

pub spelt_block_stmt : (inside : Block) → stmt_tokens (view.stmt (st.Block inside)) ≡ block_tokens (block_of inside)
unfolding stmt_tokens
spelt_block_stmt inside = ap stmt_tokens (view_block_stmt inside)

pub spelt_variables_stmt : (declared : Variables) → stmt_tokens (view.stmt (st.Variables declared)) ≡ variables_tokens (view.variables declared)
unfolding stmt_tokens
spelt_variables_stmt declared = ap stmt_tokens (view_variables_stmt declared)

pub spelt_function_stmt : (made : Box Function Global) → stmt_tokens (view.stmt (st.Function made)) ≡ function_tokens (view.function made.value)
unfolding stmt_tokens
spelt_function_stmt made = ap stmt_tokens (view_function_stmt made)

pub spelt_if_stmt : (word : Place) (opening : Place) (condition : Expr) (closing : Place) (first : Box Stmt Global) → stmt_tokens (view.stmt (st.If word opening condition closing first)) ≡ word_at word w.If ∷ sign_at opening sg.LeftParenthesis ∷ (expr_tokens (view.expr condition) ++ (sign_at closing sg.RightParenthesis ∷ (stmt_tokens (view.stmt first.value))))
unfolding stmt_tokens
spelt_if_stmt word opening condition closing first = ap stmt_tokens (view_if_stmt word opening condition closing first)

pub spelt_if_else : (word : Place) (opening : Place) (condition : Expr) (closing : Place) (first : Box Stmt Global) (other : Place) (second : Box Stmt Global) → stmt_tokens (view.stmt (st.IfElse word opening condition closing first other second)) ≡ word_at word w.If ∷ sign_at opening sg.LeftParenthesis ∷ (expr_tokens (view.expr condition) ++ (sign_at closing sg.RightParenthesis ∷ (stmt_tokens (view.stmt first.value) ++ (word_at other w.Else ∷ (stmt_tokens (view.stmt second.value))))))
unfolding stmt_tokens
spelt_if_else word opening condition closing first other second = ap stmt_tokens (view_if_else word opening condition closing first other second)

pub spelt_loop : (again : Box Loop Global) → stmt_tokens (view.stmt (st.Loop again)) ≡ loop_tokens (view.loop again.value)
unfolding stmt_tokens
spelt_loop again = ap stmt_tokens (view_loop again)

pub spelt_switch_stmt : (word : Place) (opening : Place) (given : Expr) (closing : Place) (left : Place) (parts : Vec SwitchPart Global) (right : Place) → stmt_tokens (view.stmt (st.Switch word opening given closing left parts right)) ≡ word_at word w.Switch ∷ sign_at opening sg.LeftParenthesis ∷ (expr_tokens (view.expr given) ++ (sign_at closing sg.RightParenthesis ∷ sign_at left sg.LeftBrace ∷ (switch_parts_tokens (switch_parts_of parts.items) ++ (sign_at right sg.RightBrace ∷ []))))
unfolding stmt_tokens
spelt_switch_stmt word opening given closing left parts right = ap stmt_tokens (view_switch_stmt word opening given closing left parts right)

pub spelt_try_stmt : (word : Place) (inside : Block) (parts : Vec TryPart Global) → stmt_tokens (view.stmt (st.Try word inside parts)) ≡ word_at word w.Try ∷ (block_tokens (block_of inside) ++ try_parts_tokens (try_parts_of parts.items))
unfolding stmt_tokens
spelt_try_stmt word inside parts = ap stmt_tokens (view_try_stmt word inside parts)

pub spelt_return_stmt : (word : Place) (given : Value) (semicolon : Place) → stmt_tokens (view.stmt (st.Return word given semicolon)) ≡ word_at word w.Return ∷ (value_tokens (view.value given) ++ (sign_at semicolon sg.Semicolon ∷ []))
unfolding stmt_tokens
spelt_return_stmt word given semicolon = ap stmt_tokens (view_return_stmt word given semicolon)

pub spelt_jump : (jump : Jump) → stmt_tokens (view.stmt (st.Jump jump)) ≡ jump_tokens jump
unfolding stmt_tokens
spelt_jump jump = ap stmt_tokens (view_jump jump)

pub spelt_expression_stmt : (given : Value) (semicolon : Place) → stmt_tokens (view.stmt (st.Expression given semicolon)) ≡ value_tokens (view.value given) ++ (sign_at semicolon sg.Semicolon ∷ [])
unfolding stmt_tokens
spelt_expression_stmt given semicolon = ap stmt_tokens (view_expression_stmt given semicolon)

pub spelt_for_loop : (word : Place) (opening : Place) (start : Value) (first_semicolon : Place) (condition : Value) (semicolon : Place) (updates : Vec Item Global) (closing : Place) (inner : Box Stmt Global) → loop_tokens (view.loop (l.For word opening start first_semicolon condition semicolon updates closing inner)) ≡ word_at word w.For ∷ sign_at opening sg.LeftParenthesis ∷ (value_tokens (view.value start) ++ (sign_at first_semicolon sg.Semicolon ∷ (value_tokens (view.value condition) ++ (sign_at semicolon sg.Semicolon ∷ (items_tokens (items_of updates.items) ++ (sign_at closing sg.RightParenthesis ∷ (stmt_tokens (view.stmt inner.value))))))))
unfolding loop_tokens
spelt_for_loop word opening start first_semicolon condition semicolon updates closing inner = ap loop_tokens (view_for_loop word opening start first_semicolon condition semicolon updates closing inner)

pub spelt_for_variables : (word : Place) (opening : Place) (declared : Variables) (condition : Value) (semicolon : Place) (updates : Vec Item Global) (closing : Place) (inner : Box Stmt Global) → loop_tokens (view.loop (l.ForVariables word opening declared condition semicolon updates closing inner)) ≡ word_at word w.For ∷ sign_at opening sg.LeftParenthesis ∷ (variables_tokens (view.variables declared) ++ (value_tokens (view.value condition) ++ (sign_at semicolon sg.Semicolon ∷ (items_tokens (items_of updates.items) ++ (sign_at closing sg.RightParenthesis ∷ (stmt_tokens (view.stmt inner.value)))))))
unfolding loop_tokens
spelt_for_variables word opening declared condition semicolon updates closing inner = ap loop_tokens (view_for_variables word opening declared condition semicolon updates closing inner)

pub spelt_for_in : (word : Place) (opening : Place) (kind : VariableKind) (name : Identifier) (inside : Place) (iterated : Expr) (closing : Place) (inner : Box Stmt Global) → loop_tokens (view.loop (l.ForIn word opening kind name inside iterated closing inner)) ≡ word_at word w.For ∷ sign_at opening sg.LeftParenthesis ∷ (kind_tokens (view.variable_kind kind) ++ (identifier_tokens name ++ (word_at inside w.In ∷ (expr_tokens (view.expr iterated) ++ (sign_at closing sg.RightParenthesis ∷ (stmt_tokens (view.stmt inner.value)))))))
unfolding loop_tokens
spelt_for_in word opening kind name inside iterated closing inner = ap loop_tokens (view_for_in word opening kind name inside iterated closing inner)

pub spelt_while_loop : (word : Place) (opening : Place) (condition : Expr) (closing : Place) (inner : Box Stmt Global) → loop_tokens (view.loop (l.While word opening condition closing inner)) ≡ word_at word w.While ∷ sign_at opening sg.LeftParenthesis ∷ (expr_tokens (view.expr condition) ++ (sign_at closing sg.RightParenthesis ∷ (stmt_tokens (view.stmt inner.value))))
unfolding loop_tokens
spelt_while_loop word opening condition closing inner = ap loop_tokens (view_while_loop word opening condition closing inner)

pub spelt_do_loop : (word : Place) (inner : Box Stmt Global) (again : Place) (opening : Place) (condition : Expr) (closing : Place) (semicolon : Place) → loop_tokens (view.loop (l.Do word inner again opening condition closing semicolon)) ≡ word_at word w.Do ∷ (stmt_tokens (view.stmt inner.value) ++ (word_at again w.While ∷ sign_at opening sg.LeftParenthesis ∷ (expr_tokens (view.expr condition) ++ (sign_at closing sg.RightParenthesis ∷ sign_at semicolon sg.Semicolon ∷ []))))
unfolding loop_tokens
spelt_do_loop word inner again opening condition closing semicolon = ap loop_tokens (view_do_loop word inner again opening condition closing semicolon)

pub spelt_arrow_body : (arrow : Place) (given : Box Expr Global) (semicolon : Option Place) → body_tokens (view.body (b.Arrow arrow given semicolon)) ≡ sign_at arrow sg.Arrow ∷ (expr_tokens (view.expr given.value) ++ maybe_sign semicolon sg.Semicolon)
unfolding body_tokens
spelt_arrow_body arrow given semicolon = ap body_tokens (view_arrow_body arrow given semicolon)

pub spelt_block_body : (inside : Block) → body_tokens (view.body (b.Block inside)) ≡ block_tokens (block_of inside)
unfolding body_tokens
spelt_block_body inside = ap body_tokens (view_block_body inside)

pub spelt_no_body : (semicolon : Place) → body_tokens (view.body (b.Omitted semicolon)) ≡ sign_at semicolon sg.Semicolon ∷ []
unfolding body_tokens
spelt_no_body semicolon = ap body_tokens (view_no_body semicolon)

pub spelt_the_arguments : (a : Arguments) → arguments_tokens (view.arguments a) ≡ sign_at (out-Arguments a).opening sg.LeftParenthesis ∷ (items_tokens (items_of (out-Arguments a).items.items) ++ (sign_at (out-Arguments a).closing sg.RightParenthesis ∷ []))
unfolding arguments_tokens
spelt_the_arguments a = ap arguments_tokens (view_the_arguments a)

pub spelt_the_parameters : (a : Parameters) → parameters_tokens (view.parameters a) ≡ sign_at (out-Parameters a).opening sg.LeftParenthesis ∷ (parameter_list_tokens (parameter_list_of (out-Parameters a).required.items) ++ (opening_bracket (out-Parameters a).brackets ++ (parameter_list_tokens (parameter_list_of (out-Parameters a).optional.items) ++ (closing_bracket (out-Parameters a).brackets ++ sign_at (out-Parameters a).closing sg.RightParenthesis ∷ []))))
unfolding parameters_tokens
spelt_the_parameters a = ap parameters_tokens (view_the_parameters a)

pub spelt_the_parameter : (a : Parameter) → parameter_tokens (view.parameter a) ≡ maybe_sign (out-Parameter a).comma sg.Comma ++ (metadata_tokens (metadata_of (out-Parameter a).metadata.items) ++ (parameter_kind_tokens (view.parameter_kind (out-Parameter a).kind) ++ value_tokens (view.value (out-Parameter a).value)))
unfolding parameter_tokens
spelt_the_parameter a = ap parameter_tokens (view_the_parameter a)

pub spelt_the_annotation : (a : Annotation) → annotation_tokens (view.annotation a) ≡ sign_at (out-Annotation a).at sg.AtSign ∷ (identifier_tokens (out-Annotation a).name ++ (dot_names_tokens (out-Annotation a).more.items ++ (opening_parenthesis (out-Annotation a).call ++ (items_tokens (items_of (out-Annotation a).items.items) ++ closing_parenthesis (out-Annotation a).call))))
unfolding annotation_tokens
spelt_the_annotation a = ap annotation_tokens (view_the_annotation a)

pub spelt_the_variables : (a : Variables) → variables_tokens (view.variables a) ≡ kind_tokens (view.variable_kind (out-Variables a).kind) ++ (identifier_tokens (out-Variables a).name ++ (value_tokens (view.value (out-Variables a).value) ++ (more_variables_tokens (more_variables_of (out-Variables a).more.items) ++ (sign_at (out-Variables a).semicolon sg.Semicolon ∷ []))))
unfolding variables_tokens
spelt_the_variables a = ap variables_tokens (view_the_variables a)

pub spelt_the_function : (a : Function) → function_tokens (view.function a) ≡ maybe_word (out-Function a).external w.External ++ (maybe_result (view.result_option (out-Function a).result_type) ++ (identifier_tokens (out-Function a).name ++ (parameters_tokens (view.parameters (out-Function a).parameters) ++ body_tokens (view.body (out-Function a).body))))
unfolding function_tokens
spelt_the_function a = ap function_tokens (view_the_function a)

pub spelt_the_block : (x : Block) → block_tokens (block_of x) ≡ sign_at x.opening sg.LeftBrace ∷ (stmts_tokens (stmts_of x.statements.items) ++ sign_at x.closing sg.RightBrace ∷ [])
unfolding block_tokens
spelt_the_block x = refl

pub none_tails : tails_tokens (tails_of []) ≡ []
unfolding tails_tokens
none_tails = refl

pub more_tails : (x : Tail) (rest : List Tail) → tails_tokens (tails_of (x ∷ rest)) ≡ (operator_tokens x.operator ++ operand_tokens (view.operand x.operand)) ++ tails_tokens (tails_of rest)
unfolding tails_tokens
more_tails x rest = search (rules, append_assoc)

pub none_pieces : pieces_tokens (pieces_of []) ≡ []
unfolding pieces_tokens
none_pieces = refl

pub more_pieces : (x : StringPiece) (rest : List StringPiece) → pieces_tokens (pieces_of (x ∷ rest)) ≡ (piece_token x.kind x.place x.text ∷ (value_tokens (view.value x.value))) ++ pieces_tokens (pieces_of rest)
unfolding pieces_tokens
more_pieces x rest = search rules

pub none_selectors : selectors_tokens (selectors_of []) ≡ []
unfolding selectors_tokens
none_selectors = refl

pub more_selectors : (x : Selector) (rest : List Selector) → selectors_tokens (selectors_of (x ∷ rest)) ≡ (selector_tokens (view.selector x)) ++ selectors_tokens (selectors_of rest)
unfolding selectors_tokens
more_selectors x rest = refl

pub none_cascades : cascades_tokens (cascades_of []) ≡ []
unfolding cascades_tokens
none_cascades = refl

pub more_cascades : (x : Cascade) (rest : List Cascade) → cascades_tokens (cascades_of (x ∷ rest)) ≡ (sign_at x.dots sg.DotDot ∷ (selectors_tokens (selectors_of x.selectors.items) ++ value_tokens (view.value x.value))) ++ cascades_tokens (cascades_of rest)
unfolding cascades_tokens
more_cascades x rest = search (rules, append_assoc)

pub none_items : items_tokens (items_of []) ≡ []
unfolding items_tokens
none_items = refl

pub more_items : (x : Item) (rest : List Item) → items_tokens (items_of (x ∷ rest)) ≡ (maybe_sign x.comma sg.Comma ++ (maybe_label x.label ++ expr_tokens (view.expr x.value))) ++ items_tokens (items_of rest)
unfolding items_tokens
more_items x rest = search (rules, append_assoc)

pub none_entries : entries_tokens (entries_of []) ≡ []
unfolding entries_tokens
none_entries = refl

pub more_entries : (x : Entry) (rest : List Entry) → entries_tokens (entries_of (x ∷ rest)) ≡ (maybe_sign x.comma sg.Comma ++ (expr_tokens (view.expr x.key) ++ (sign_at x.colon sg.Colon ∷ (expr_tokens (view.expr x.value))))) ++ entries_tokens (entries_of rest)
unfolding entries_tokens
more_entries x rest = search (rules, append_assoc)

pub none_parameter_list : parameter_list_tokens (parameter_list_of []) ≡ []
unfolding parameter_list_tokens
none_parameter_list = refl

pub more_parameter_list : (x : Parameter) (rest : List Parameter) → parameter_list_tokens (parameter_list_of (x ∷ rest)) ≡ (parameter_tokens (view.parameter x)) ++ parameter_list_tokens (parameter_list_of rest)
unfolding parameter_list_tokens
more_parameter_list x rest = refl

pub none_metadata : metadata_tokens (metadata_of []) ≡ []
unfolding metadata_tokens
none_metadata = refl

pub more_metadata : (x : Annotation) (rest : List Annotation) → metadata_tokens (metadata_of (x ∷ rest)) ≡ (annotation_tokens (view.annotation x)) ++ metadata_tokens (metadata_of rest)
unfolding metadata_tokens
more_metadata x rest = refl

pub none_stmts : stmts_tokens (stmts_of []) ≡ []
unfolding stmts_tokens
none_stmts = refl

pub more_stmts : (x : Stmt) (rest : List Stmt) → stmts_tokens (stmts_of (x ∷ rest)) ≡ (stmt_tokens (view.stmt x)) ++ stmts_tokens (stmts_of rest)
unfolding stmts_tokens
more_stmts x rest = refl

pub none_more_variables : more_variables_tokens (more_variables_of []) ≡ []
unfolding more_variables_tokens
none_more_variables = refl

pub more_more_variables : (x : Variable) (rest : List Variable) → more_variables_tokens (more_variables_of (x ∷ rest)) ≡ (sign_at x.comma sg.Comma ∷ (identifier_tokens x.name ++ value_tokens (view.value x.value))) ++ more_variables_tokens (more_variables_of rest)
unfolding more_variables_tokens
more_more_variables x rest = search (rules, append_assoc)

pub none_switch_parts : switch_parts_tokens (switch_parts_of []) ≡ []
unfolding switch_parts_tokens
none_switch_parts = refl

pub more_switch_parts : (x : SwitchPart) (rest : List SwitchPart) → switch_parts_tokens (switch_parts_of (x ∷ rest)) ≡ (labels_tokens x.labels.items ++ (word_at x.word (switch_word (view.value x.value)) ∷ (value_tokens (view.value x.value) ++ (sign_at x.colon sg.Colon ∷ (stmts_tokens (stmts_of x.statements.items)))))) ++ switch_parts_tokens (switch_parts_of rest)
unfolding switch_parts_tokens
more_switch_parts x rest = search (rules, append_assoc)

pub none_try_parts : try_parts_tokens (try_parts_of []) ≡ []
unfolding try_parts_tokens
none_try_parts = refl

pub more_try_parts : (x : TryPart) (rest : List TryPart) → try_parts_tokens (try_parts_of (x ∷ rest)) ≡ (try_kind_tokens (view.try_kind x.kind) ++ block_tokens (block_of x.block)) ++ try_parts_tokens (try_parts_of rest)
unfolding try_parts_tokens
more_try_parts x rest = search (rules, append_assoc)
