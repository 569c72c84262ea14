-- What is found on the lists: the readers compute.
use Rattle.std.proofs.Common.{◌≡◌, [], ◌∷◌, None, Ok, Err, refl}
use Rattle.dart_token.specs.declared.sign.Sign.TheVariants as s
use Rattle.dart_tree.specs.LeafTokens.{sign_at}
use Rattle.dart_tree.specs.Depth as height
use Rattle.dart_syntax.specs.Edges as edge
use Rattle.dart_syntax.specs.Syntax.{left_out}
use Rattle.token_codes.specs.Codes as c
use Rattle.token_codes.specs.Leaves as l
use Rattle.syntax_readers.specs.Declarations as mdeclarations
use Rattle.syntax_readers.specs.Expressions as mexpressions
use Rattle.syntax_readers.specs.Levels as mlevels
use Rattle.syntax_readers.specs.Parameters as mparameters
use Rattle.syntax_readers.specs.Primaries as mprimaries
use Rattle.syntax_readers.specs.Statements as mstatements
use Rattle.syntax_readers.specs.Types as mtypes
use Rattle.syntax_readers.specs.Units as munits
use Rattle.syntax_readers.specs.Units.{unit_reader}
use Rattle.syntax_readers.specs.Examples.{at, tested_body, stepped_call, compared_body, of_x, alone, compared_literal, TestOpens, CallIsNoTarget, EqualityIsSpent}

tested_has_all : left_out tested_body ≡ None
unfolding left_out
tested_has_all = refl

tested_within_12 : unit_reader 12 tested_body ≡ Err (sign_at (at 13) s.Semicolon ∷ [])
unfolding c.class_of l.sign l.word l.signed l.one_of l.creation l.identifier l.plain_identifier l.contextual l.named l.dot_name l.label l.comma_name l.this_dot l.atom l.piece l.head mdeclarations.bound mdeclarations.type_parameters mdeclarations.mixins mdeclarations.interfaces mdeclarations.superclass mdeclarations.alias_over mdeclarations.alias mdeclarations.external_or_none mdeclarations.accessor_kind mdeclarations.accessor_over mdeclarations.operator_signs_of mdeclarations.operator_name mdeclarations.operator_member mdeclarations.constructor_name mdeclarations.init_over mdeclarations.init mdeclarations.initializers mdeclarations.block_or_none mdeclarations.generative_with mdeclarations.with_initializers mdeclarations.with_own_body mdeclarations.generative mdeclarations.constant mdeclarations.redirecting mdeclarations.factory mdeclarations.redirecting_factory mdeclarations.constructor_over mdeclarations.constructor mdeclarations.function mdeclarations.accessor mdeclarations.callable mdeclarations.callable_or_variables mdeclarations.static_member mdeclarations.external_static_member mdeclarations.plain_member mdeclarations.other_member mdeclarations.constructor_member mdeclarations.member mdeclarations.declared_class mdeclarations.mixed_class mdeclarations.class_kind mdeclarations.class_header mdeclarations.class_over mdeclarations.enum mdeclarations.typed_decl mdeclarations.decl_kind mexpressions.assignment_operator mexpressions.assignment mexpressions.cascade_over mexpressions.cascades mexpressions.opened mexpressions.assigned_or_cascaded mexpressions.throw mexpressions.expr_over mexpressions.without_over mexpressions.cascaded_over mlevels.selected mlevels.target mlevels.postfix mlevels.whole mlevels.prefixed mlevels.unary mlevels.chain mlevels.once mlevels.shift_operator mlevels.shift_tails mlevels.shift mlevels.compared_with mlevels.relational mlevels.conditional mlevels.row_over mlevels.rows_over mlevels.levels_over mlevels.flat_levels mparameters.after_sign mparameters.metadata mparameters.arrow_body mparameters.whole_body mparameters.body mparameters.maybe_kind mparameters.parameter_type mparameters.parameter_head mparameters.parameter_kind mparameters.parameter_over mparameters.optional_as mparameters.optional_over mparameters.required mparameters.parameters_over mparameters.more_variables mparameters.variables_over mparameters.function_over mprimaries.maybe_expr mprimaries.whole_text mprimaries.parted_text mprimaries.one_string mprimaries.strings mprimaries.named_argument mprimaries.argument mprimaries.argument_list mprimaries.arguments_over mprimaries.list_items mprimaries.entry mprimaries.map_entries mprimaries.list_over mprimaries.map_over mprimaries.collection_over mprimaries.literal_body mprimaries.function_literal_over mprimaries.index mprimaries.member mprimaries.selector mprimaries.selectors mprimaries.section_over mprimaries.super mprimaries.object mprimaries.parenthesized mprimaries.parenthesis mprimaries.primary mstatements.on_type mstatements.block_over mstatements.condition_over mstatements.if_over mstatements.updates_over mstatements.for_loop_over mstatements.for_variables_over mstatements.for_in_over mstatements.for_over mstatements.while_over mstatements.do_over mstatements.part_over mstatements.switch_over mstatements.catch_over mstatements.try_part_over mstatements.finally_over mstatements.try_parts_over mstatements.try_over mstatements.compound_over mstatements.jump mstatements.expression_stmt mstatements.declaration mstatements.other_stmt mstatements.unlabelled mstatements.stmt_of mstatements.nodes_over mstatements.stage mtypes.types mtypes.two_types mtypes.type_arguments mtypes.type_over mtypes.type_reader mtypes.result mtypes.result_before_name mtypes.type_before_name mtypes.kind mtypes.variables_kind munits.dotted munits.combinator_as munits.combinators munits.prefix munits.part_of munits.library munits.import munits.export munits.part munits.directive munits.part_or_header munits.item_behind munits.item munits.unit_over munits.unit_reader height.primary_height edge.operand_takes
tested_within_12 = refl

tested_within_13 : unit_reader 13 tested_body ≡ Err (sign_at (at 13) s.Semicolon ∷ [])
unfolding c.class_of l.sign l.word l.signed l.one_of l.creation l.identifier l.plain_identifier l.contextual l.named l.dot_name l.label l.comma_name l.this_dot l.atom l.piece l.head mdeclarations.bound mdeclarations.type_parameters mdeclarations.mixins mdeclarations.interfaces mdeclarations.superclass mdeclarations.alias_over mdeclarations.alias mdeclarations.external_or_none mdeclarations.accessor_kind mdeclarations.accessor_over mdeclarations.operator_signs_of mdeclarations.operator_name mdeclarations.operator_member mdeclarations.constructor_name mdeclarations.init_over mdeclarations.init mdeclarations.initializers mdeclarations.block_or_none mdeclarations.generative_with mdeclarations.with_initializers mdeclarations.with_own_body mdeclarations.generative mdeclarations.constant mdeclarations.redirecting mdeclarations.factory mdeclarations.redirecting_factory mdeclarations.constructor_over mdeclarations.constructor mdeclarations.function mdeclarations.accessor mdeclarations.callable mdeclarations.callable_or_variables mdeclarations.static_member mdeclarations.external_static_member mdeclarations.plain_member mdeclarations.other_member mdeclarations.constructor_member mdeclarations.member mdeclarations.declared_class mdeclarations.mixed_class mdeclarations.class_kind mdeclarations.class_header mdeclarations.class_over mdeclarations.enum mdeclarations.typed_decl mdeclarations.decl_kind mexpressions.assignment_operator mexpressions.assignment mexpressions.cascade_over mexpressions.cascades mexpressions.opened mexpressions.assigned_or_cascaded mexpressions.throw mexpressions.expr_over mexpressions.without_over mexpressions.cascaded_over mlevels.selected mlevels.target mlevels.postfix mlevels.whole mlevels.prefixed mlevels.unary mlevels.chain mlevels.once mlevels.shift_operator mlevels.shift_tails mlevels.shift mlevels.compared_with mlevels.relational mlevels.conditional mlevels.row_over mlevels.rows_over mlevels.levels_over mlevels.flat_levels mparameters.after_sign mparameters.metadata mparameters.arrow_body mparameters.whole_body mparameters.body mparameters.maybe_kind mparameters.parameter_type mparameters.parameter_head mparameters.parameter_kind mparameters.parameter_over mparameters.optional_as mparameters.optional_over mparameters.required mparameters.parameters_over mparameters.more_variables mparameters.variables_over mparameters.function_over mprimaries.maybe_expr mprimaries.whole_text mprimaries.parted_text mprimaries.one_string mprimaries.strings mprimaries.named_argument mprimaries.argument mprimaries.argument_list mprimaries.arguments_over mprimaries.list_items mprimaries.entry mprimaries.map_entries mprimaries.list_over mprimaries.map_over mprimaries.collection_over mprimaries.literal_body mprimaries.function_literal_over mprimaries.index mprimaries.member mprimaries.selector mprimaries.selectors mprimaries.section_over mprimaries.super mprimaries.object mprimaries.parenthesized mprimaries.parenthesis mprimaries.primary mstatements.on_type mstatements.block_over mstatements.condition_over mstatements.if_over mstatements.updates_over mstatements.for_loop_over mstatements.for_variables_over mstatements.for_in_over mstatements.for_over mstatements.while_over mstatements.do_over mstatements.part_over mstatements.switch_over mstatements.catch_over mstatements.try_part_over mstatements.finally_over mstatements.try_parts_over mstatements.try_over mstatements.compound_over mstatements.jump mstatements.expression_stmt mstatements.declaration mstatements.other_stmt mstatements.unlabelled mstatements.stmt_of mstatements.nodes_over mstatements.stage mtypes.types mtypes.two_types mtypes.type_arguments mtypes.type_over mtypes.type_reader mtypes.result mtypes.result_before_name mtypes.type_before_name mtypes.kind mtypes.variables_kind munits.dotted munits.combinator_as munits.combinators munits.prefix munits.part_of munits.library munits.import munits.export munits.part munits.directive munits.part_or_header munits.item_behind munits.item munits.unit_over munits.unit_reader height.primary_height edge.operand_takes
tested_within_13 = refl

stepped_has_all : left_out stepped_call ≡ None
unfolding left_out
stepped_has_all = refl

stepped_within_12 : unit_reader 12 stepped_call ≡ Err (sign_at (at 12) s.Semicolon ∷ [])
unfolding c.class_of l.sign l.word l.signed l.one_of l.creation l.identifier l.plain_identifier l.contextual l.named l.dot_name l.label l.comma_name l.this_dot l.atom l.piece l.head mdeclarations.bound mdeclarations.type_parameters mdeclarations.mixins mdeclarations.interfaces mdeclarations.superclass mdeclarations.alias_over mdeclarations.alias mdeclarations.external_or_none mdeclarations.accessor_kind mdeclarations.accessor_over mdeclarations.operator_signs_of mdeclarations.operator_name mdeclarations.operator_member mdeclarations.constructor_name mdeclarations.init_over mdeclarations.init mdeclarations.initializers mdeclarations.block_or_none mdeclarations.generative_with mdeclarations.with_initializers mdeclarations.with_own_body mdeclarations.generative mdeclarations.constant mdeclarations.redirecting mdeclarations.factory mdeclarations.redirecting_factory mdeclarations.constructor_over mdeclarations.constructor mdeclarations.function mdeclarations.accessor mdeclarations.callable mdeclarations.callable_or_variables mdeclarations.static_member mdeclarations.external_static_member mdeclarations.plain_member mdeclarations.other_member mdeclarations.constructor_member mdeclarations.member mdeclarations.declared_class mdeclarations.mixed_class mdeclarations.class_kind mdeclarations.class_header mdeclarations.class_over mdeclarations.enum mdeclarations.typed_decl mdeclarations.decl_kind mexpressions.assignment_operator mexpressions.assignment mexpressions.cascade_over mexpressions.cascades mexpressions.opened mexpressions.assigned_or_cascaded mexpressions.throw mexpressions.expr_over mexpressions.without_over mexpressions.cascaded_over mlevels.selected mlevels.target mlevels.postfix mlevels.whole mlevels.prefixed mlevels.unary mlevels.chain mlevels.once mlevels.shift_operator mlevels.shift_tails mlevels.shift mlevels.compared_with mlevels.relational mlevels.conditional mlevels.row_over mlevels.rows_over mlevels.levels_over mlevels.flat_levels mparameters.after_sign mparameters.metadata mparameters.arrow_body mparameters.whole_body mparameters.body mparameters.maybe_kind mparameters.parameter_type mparameters.parameter_head mparameters.parameter_kind mparameters.parameter_over mparameters.optional_as mparameters.optional_over mparameters.required mparameters.parameters_over mparameters.more_variables mparameters.variables_over mparameters.function_over mprimaries.maybe_expr mprimaries.whole_text mprimaries.parted_text mprimaries.one_string mprimaries.strings mprimaries.named_argument mprimaries.argument mprimaries.argument_list mprimaries.arguments_over mprimaries.list_items mprimaries.entry mprimaries.map_entries mprimaries.list_over mprimaries.map_over mprimaries.collection_over mprimaries.literal_body mprimaries.function_literal_over mprimaries.index mprimaries.member mprimaries.selector mprimaries.selectors mprimaries.section_over mprimaries.super mprimaries.object mprimaries.parenthesized mprimaries.parenthesis mprimaries.primary mstatements.on_type mstatements.block_over mstatements.condition_over mstatements.if_over mstatements.updates_over mstatements.for_loop_over mstatements.for_variables_over mstatements.for_in_over mstatements.for_over mstatements.while_over mstatements.do_over mstatements.part_over mstatements.switch_over mstatements.catch_over mstatements.try_part_over mstatements.finally_over mstatements.try_parts_over mstatements.try_over mstatements.compound_over mstatements.jump mstatements.expression_stmt mstatements.declaration mstatements.other_stmt mstatements.unlabelled mstatements.stmt_of mstatements.nodes_over mstatements.stage mtypes.types mtypes.two_types mtypes.type_arguments mtypes.type_over mtypes.type_reader mtypes.result mtypes.result_before_name mtypes.type_before_name mtypes.kind mtypes.variables_kind munits.dotted munits.combinator_as munits.combinators munits.prefix munits.part_of munits.library munits.import munits.export munits.part munits.directive munits.part_or_header munits.item_behind munits.item munits.unit_over munits.unit_reader height.primary_height edge.operand_takes
stepped_within_12 = refl

stepped_within_13 : unit_reader 13 stepped_call ≡ Err (sign_at (at 12) s.Semicolon ∷ [])
unfolding c.class_of l.sign l.word l.signed l.one_of l.creation l.identifier l.plain_identifier l.contextual l.named l.dot_name l.label l.comma_name l.this_dot l.atom l.piece l.head mdeclarations.bound mdeclarations.type_parameters mdeclarations.mixins mdeclarations.interfaces mdeclarations.superclass mdeclarations.alias_over mdeclarations.alias mdeclarations.external_or_none mdeclarations.accessor_kind mdeclarations.accessor_over mdeclarations.operator_signs_of mdeclarations.operator_name mdeclarations.operator_member mdeclarations.constructor_name mdeclarations.init_over mdeclarations.init mdeclarations.initializers mdeclarations.block_or_none mdeclarations.generative_with mdeclarations.with_initializers mdeclarations.with_own_body mdeclarations.generative mdeclarations.constant mdeclarations.redirecting mdeclarations.factory mdeclarations.redirecting_factory mdeclarations.constructor_over mdeclarations.constructor mdeclarations.function mdeclarations.accessor mdeclarations.callable mdeclarations.callable_or_variables mdeclarations.static_member mdeclarations.external_static_member mdeclarations.plain_member mdeclarations.other_member mdeclarations.constructor_member mdeclarations.member mdeclarations.declared_class mdeclarations.mixed_class mdeclarations.class_kind mdeclarations.class_header mdeclarations.class_over mdeclarations.enum mdeclarations.typed_decl mdeclarations.decl_kind mexpressions.assignment_operator mexpressions.assignment mexpressions.cascade_over mexpressions.cascades mexpressions.opened mexpressions.assigned_or_cascaded mexpressions.throw mexpressions.expr_over mexpressions.without_over mexpressions.cascaded_over mlevels.selected mlevels.target mlevels.postfix mlevels.whole mlevels.prefixed mlevels.unary mlevels.chain mlevels.once mlevels.shift_operator mlevels.shift_tails mlevels.shift mlevels.compared_with mlevels.relational mlevels.conditional mlevels.row_over mlevels.rows_over mlevels.levels_over mlevels.flat_levels mparameters.after_sign mparameters.metadata mparameters.arrow_body mparameters.whole_body mparameters.body mparameters.maybe_kind mparameters.parameter_type mparameters.parameter_head mparameters.parameter_kind mparameters.parameter_over mparameters.optional_as mparameters.optional_over mparameters.required mparameters.parameters_over mparameters.more_variables mparameters.variables_over mparameters.function_over mprimaries.maybe_expr mprimaries.whole_text mprimaries.parted_text mprimaries.one_string mprimaries.strings mprimaries.named_argument mprimaries.argument mprimaries.argument_list mprimaries.arguments_over mprimaries.list_items mprimaries.entry mprimaries.map_entries mprimaries.list_over mprimaries.map_over mprimaries.collection_over mprimaries.literal_body mprimaries.function_literal_over mprimaries.index mprimaries.member mprimaries.selector mprimaries.selectors mprimaries.section_over mprimaries.super mprimaries.object mprimaries.parenthesized mprimaries.parenthesis mprimaries.primary mstatements.on_type mstatements.block_over mstatements.condition_over mstatements.if_over mstatements.updates_over mstatements.for_loop_over mstatements.for_variables_over mstatements.for_in_over mstatements.for_over mstatements.while_over mstatements.do_over mstatements.part_over mstatements.switch_over mstatements.catch_over mstatements.try_part_over mstatements.finally_over mstatements.try_parts_over mstatements.try_over mstatements.compound_over mstatements.jump mstatements.expression_stmt mstatements.declaration mstatements.other_stmt mstatements.unlabelled mstatements.stmt_of mstatements.nodes_over mstatements.stage mtypes.types mtypes.two_types mtypes.type_arguments mtypes.type_over mtypes.type_reader mtypes.result mtypes.result_before_name mtypes.type_before_name mtypes.kind mtypes.variables_kind munits.dotted munits.combinator_as munits.combinators munits.prefix munits.part_of munits.library munits.import munits.export munits.part munits.directive munits.part_or_header munits.item_behind munits.item munits.unit_over munits.unit_reader height.primary_height edge.operand_takes
stepped_within_13 = refl

compared_has_all : left_out compared_body ≡ None
unfolding left_out
compared_has_all = refl

compared_within_12 : unit_reader 12 compared_body ≡ Ok (of_x (alone compared_literal), [])
unfolding c.class_of l.sign l.word l.signed l.one_of l.creation l.identifier l.plain_identifier l.contextual l.named l.dot_name l.label l.comma_name l.this_dot l.atom l.piece l.head mdeclarations.bound mdeclarations.type_parameters mdeclarations.mixins mdeclarations.interfaces mdeclarations.superclass mdeclarations.alias_over mdeclarations.alias mdeclarations.external_or_none mdeclarations.accessor_kind mdeclarations.accessor_over mdeclarations.operator_signs_of mdeclarations.operator_name mdeclarations.operator_member mdeclarations.constructor_name mdeclarations.init_over mdeclarations.init mdeclarations.initializers mdeclarations.block_or_none mdeclarations.generative_with mdeclarations.with_initializers mdeclarations.with_own_body mdeclarations.generative mdeclarations.constant mdeclarations.redirecting mdeclarations.factory mdeclarations.redirecting_factory mdeclarations.constructor_over mdeclarations.constructor mdeclarations.function mdeclarations.accessor mdeclarations.callable mdeclarations.callable_or_variables mdeclarations.static_member mdeclarations.external_static_member mdeclarations.plain_member mdeclarations.other_member mdeclarations.constructor_member mdeclarations.member mdeclarations.declared_class mdeclarations.mixed_class mdeclarations.class_kind mdeclarations.class_header mdeclarations.class_over mdeclarations.enum mdeclarations.typed_decl mdeclarations.decl_kind mexpressions.assignment_operator mexpressions.assignment mexpressions.cascade_over mexpressions.cascades mexpressions.opened mexpressions.assigned_or_cascaded mexpressions.throw mexpressions.expr_over mexpressions.without_over mexpressions.cascaded_over mlevels.selected mlevels.target mlevels.postfix mlevels.whole mlevels.prefixed mlevels.unary mlevels.chain mlevels.once mlevels.shift_operator mlevels.shift_tails mlevels.shift mlevels.compared_with mlevels.relational mlevels.conditional mlevels.row_over mlevels.rows_over mlevels.levels_over mlevels.flat_levels mparameters.after_sign mparameters.metadata mparameters.arrow_body mparameters.whole_body mparameters.body mparameters.maybe_kind mparameters.parameter_type mparameters.parameter_head mparameters.parameter_kind mparameters.parameter_over mparameters.optional_as mparameters.optional_over mparameters.required mparameters.parameters_over mparameters.more_variables mparameters.variables_over mparameters.function_over mprimaries.maybe_expr mprimaries.whole_text mprimaries.parted_text mprimaries.one_string mprimaries.strings mprimaries.named_argument mprimaries.argument mprimaries.argument_list mprimaries.arguments_over mprimaries.list_items mprimaries.entry mprimaries.map_entries mprimaries.list_over mprimaries.map_over mprimaries.collection_over mprimaries.literal_body mprimaries.function_literal_over mprimaries.index mprimaries.member mprimaries.selector mprimaries.selectors mprimaries.section_over mprimaries.super mprimaries.object mprimaries.parenthesized mprimaries.parenthesis mprimaries.primary mstatements.on_type mstatements.block_over mstatements.condition_over mstatements.if_over mstatements.updates_over mstatements.for_loop_over mstatements.for_variables_over mstatements.for_in_over mstatements.for_over mstatements.while_over mstatements.do_over mstatements.part_over mstatements.switch_over mstatements.catch_over mstatements.try_part_over mstatements.finally_over mstatements.try_parts_over mstatements.try_over mstatements.compound_over mstatements.jump mstatements.expression_stmt mstatements.declaration mstatements.other_stmt mstatements.unlabelled mstatements.stmt_of mstatements.nodes_over mstatements.stage mtypes.types mtypes.two_types mtypes.type_arguments mtypes.type_over mtypes.type_reader mtypes.result mtypes.result_before_name mtypes.type_before_name mtypes.kind mtypes.variables_kind munits.dotted munits.combinator_as munits.combinators munits.prefix munits.part_of munits.library munits.import munits.export munits.part munits.directive munits.part_or_header munits.item_behind munits.item munits.unit_over munits.unit_reader height.primary_height edge.operand_takes
compared_within_12 = refl

pub test_opens : TestOpens
test_opens = rw (tested_has_all, tested_within_12, tested_within_13) refl

pub call_is_no_target : CallIsNoTarget
call_is_no_target = rw (stepped_has_all, stepped_within_12, stepped_within_13) refl

pub equality_is_spent : EqualityIsSpent
equality_is_spent = rw (compared_has_all, compared_within_12) refl
