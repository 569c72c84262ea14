-- The readers of generative constructors and of members stop too early in some lists that are neither (ECMA-408, 10.6.1 Generative Constructors):
-- `a() : a = (a) { { { } } } ,`. The first try reads the block as the body of a function literal, where it stands two nodes deeper than as the
-- constructor's own, so that its third brace is too deep at this depth; the second does not take it for the constructor's own, since a comma
-- stands behind it. So both stop at that brace, although the constructor goes on to the comma, and there are no `Laws` of these readers here, wherever
-- there are of initialisers, parameters and blocks. No tree is refused or misread for that (`generatives_found`).
use Rattle.std.proofs.Common.{◌≡◌, ℕ, false, List, [], ◌∷◌, ◌++◌, None, Some, Ok, Err, inl, refl, sym, subst, arith}
use Rattle.std.specs.Prelude.{codes}
use Rattle.dart_base.specs.declared.place.Place.{Place}
use Rattle.dart_token.specs.declared.token.Token.{Token}
use Rattle.dart_token.specs.declared.token.TokenKind.TheVariants as tk
use Rattle.dart_token.specs.declared.sign.Sign.TheVariants as s
use Rattle.dart_tree.specs.declared.declaration.Modifier.TheVariants as m
use Rattle.dart_tree.specs.declared.expression.Atom.TheVariants as a
use Rattle.dart_tree.specs.declared.identifier.Identifier.TheVariants as i
use Rattle.dart_tree.specs.Depth as height
use Rattle.dart_tree.specs.LeafTokens.{sign_at}
use Rattle.dart_tree.specs.Tree as t
use Rattle.dart_tree.specs.Tree.{Operand, Parameters, Block}
use Rattle.dart_tree.specs.Tokens.{operand_tokens}
use Rattle.dart_tree.specs.Unit as d
use Rattle.dart_tree.specs.Unit.{InitKind, Constructor, Member}
use Rattle.dart_tree.specs.UnitTokens.{constructor_tokens, member_tokens}
use Rattle.grammar_laws.specs.Codes.{nowhere}
use Rattle.grammar_laws.proofs.Joints.{beyond}
use Rattle.dart_syntax.specs.Phrases.{Phrase}
use Rattle.dart_syntax.specs.Edges as edge
use Rattle.dart_syntax.specs.Statements.{within}
use Rattle.dart_syntax.specs.Declarations as g
use Rattle.token_codes.specs.Codes as c
use Rattle.token_codes.specs.Codes.{these}
use Rattle.token_codes.specs.Leaves as l
use Rattle.token_codes.specs.Reads.{Reads}
use Rattle.syntax_readers.specs.Declarations as mdeclarations
use Rattle.syntax_readers.specs.Expressions as mexpressions
use Rattle.syntax_readers.specs.Levels as mlevels
use Rattle.syntax_readers.specs.Parameters as mparameters
use Rattle.syntax_readers.specs.Primaries as mprimaries
use Rattle.syntax_readers.specs.Statements as mstatements
use Rattle.syntax_readers.specs.Statements.{stage}
use Rattle.syntax_readers.specs.Types as mtypes
use Rattle.laws_unit.specs.Statements.{MembersReadAt}

module _ (o : Place) where
  abbrev class : List ℕ
  class = codes "a"

  abbrev name : Token
  name = record { kind = tk.Identifier; place = o; lexeme = class }

  abbrev left : Token
  left = sign_at o s.LeftBrace

  abbrev right : Token
  right = sign_at o s.RightBrace

  -- a = ( a )
  abbrev equation : List Token
  equation = name ∷ sign_at o s.Assign ∷ sign_at o s.LeftParenthesis ∷ name ∷ sign_at o s.RightParenthesis ∷ []

  -- a ( ) : a = ( a ) { {
  abbrev before : List Token
  before = name ∷ sign_at o s.LeftParenthesis ∷ sign_at o s.RightParenthesis ∷ sign_at o s.Colon ∷ (equation ++ left ∷ left ∷ [])

  abbrev closing : List Token
  closing = right ∷ right ∷ right ∷ []

  -- { } } } ,
  abbrev behind : List Token
  behind = left ∷ (closing ++ sign_at o s.Comma ∷ [])

  abbrev whole : List Token
  whole = before ++ behind

  -- ---- the trees

  abbrev given : Parameters
  given = t.the_parameters o t.no_parameters None t.no_parameters o

  abbrev block_of : t.Stmts → Block
  block_of x = t.the_block o x o

  abbrev nested : Block → t.Stmts
  nested x = t.stmt (t.block_stmt x) t.no_stmts

  abbrev block : Block
  block = block_of (nested (block_of (nested (block_of t.no_stmts))))

  abbrev named : Operand
  named = t.primary (t.atom (a.Name (i.Name o class)))

  abbrev init_tree : InitKind
  init_tree = d.field_init None (i.Name o class) o (t.primary (t.parenthesized o (t.plain named t.no_cascades) o)) t.no_cascades

  abbrev tree : Constructor
  tree = d.generative None (record { class = i.Name o class; name = None }) given (Some (record { colon = o; items = record { comma = None; kind = init_tree } ∷ [] })) (t.block_body block)

  abbrev member_tree : Member
  member_tree = record { metadata = t.no_metadata; modifier = m.Omitted; kind = d.constructor_member tree }

  -- ---- what the readers give

  read_given : (stage 4).nodes.exprs.parameters (sign_at o s.LeftParenthesis ∷ sign_at o s.RightParenthesis ∷ []) ≡ Ok (given, [])
  unfolding c.class_of l.sign l.word l.signed l.one_of l.creation l.identifier l.plain_identifier l.contextual l.named l.dot_name l.label l.comma_name l.this_dot l.atom l.piece l.head mdeclarations.bound mdeclarations.type_parameters mdeclarations.mixins mdeclarations.interfaces mdeclarations.superclass mdeclarations.alias_over mdeclarations.alias mdeclarations.external_or_none mdeclarations.accessor_kind mdeclarations.accessor_over mdeclarations.operator_signs_of mdeclarations.operator_name mdeclarations.operator_member mdeclarations.constructor_name mdeclarations.init_over mdeclarations.init mdeclarations.initializers mdeclarations.block_or_none mdeclarations.generative_with mdeclarations.with_initializers mdeclarations.with_own_body mdeclarations.generative mdeclarations.constant mdeclarations.redirecting mdeclarations.factory mdeclarations.redirecting_factory mdeclarations.constructor_over mdeclarations.constructor mdeclarations.function mdeclarations.accessor mdeclarations.callable mdeclarations.callable_or_variables mdeclarations.static_member mdeclarations.external_static_member mdeclarations.plain_member mdeclarations.other_member mdeclarations.constructor_member mdeclarations.member mdeclarations.declared_class mdeclarations.mixed_class mdeclarations.class_kind mdeclarations.class_header mdeclarations.class_over mdeclarations.enum mdeclarations.typed_decl mdeclarations.decl_kind mexpressions.assignment_operator mexpressions.assignment mexpressions.cascade_over mexpressions.cascades mexpressions.opened mexpressions.assigned_or_cascaded mexpressions.throw mexpressions.expr_over mexpressions.without_over mexpressions.cascaded_over mlevels.selected mlevels.target mlevels.postfix mlevels.whole mlevels.prefixed mlevels.unary mlevels.chain mlevels.once mlevels.shift_operator mlevels.shift_tails mlevels.shift mlevels.compared_with mlevels.relational mlevels.conditional mlevels.row_over mlevels.rows_over mlevels.levels_over mlevels.flat_levels mparameters.after_sign mparameters.metadata mparameters.arrow_body mparameters.whole_body mparameters.body mparameters.maybe_kind mparameters.parameter_type mparameters.parameter_head mparameters.parameter_kind mparameters.parameter_over mparameters.optional_as mparameters.optional_over mparameters.required mparameters.parameters_over mparameters.more_variables mparameters.variables_over mparameters.function_over mprimaries.maybe_expr mprimaries.whole_text mprimaries.parted_text mprimaries.one_string mprimaries.strings mprimaries.named_argument mprimaries.argument mprimaries.argument_list mprimaries.arguments_over mprimaries.list_items mprimaries.entry mprimaries.map_entries mprimaries.list_over mprimaries.map_over mprimaries.collection_over mprimaries.literal_body mprimaries.function_literal_over mprimaries.index mprimaries.member mprimaries.selector mprimaries.selectors mprimaries.section_over mprimaries.super mprimaries.object mprimaries.parenthesized mprimaries.parenthesis mprimaries.primary mstatements.on_type mstatements.block_over mstatements.condition_over mstatements.if_over mstatements.updates_over mstatements.for_loop_over mstatements.for_variables_over mstatements.for_in_over mstatements.for_over mstatements.while_over mstatements.do_over mstatements.part_over mstatements.switch_over mstatements.catch_over mstatements.try_part_over mstatements.finally_over mstatements.try_parts_over mstatements.try_over mstatements.compound_over mstatements.jump mstatements.expression_stmt mstatements.declaration mstatements.other_stmt mstatements.unlabelled mstatements.stmt_of mstatements.nodes_over mstatements.stage mtypes.types mtypes.two_types mtypes.type_arguments mtypes.type_over mtypes.type_reader mtypes.result mtypes.result_before_name mtypes.type_before_name mtypes.kind mtypes.variables_kind height.primary_height edge.operand_takes mstatements.open_try
  read_given = refl

  read_block : (stage 4).nodes.exprs.block (left ∷ left ∷ left ∷ closing) ≡ Ok (block, [])
  unfolding c.class_of l.sign l.word l.signed l.one_of l.creation l.identifier l.plain_identifier l.contextual l.named l.dot_name l.label l.comma_name l.this_dot l.atom l.piece l.head mdeclarations.bound mdeclarations.type_parameters mdeclarations.mixins mdeclarations.interfaces mdeclarations.superclass mdeclarations.alias_over mdeclarations.alias mdeclarations.external_or_none mdeclarations.accessor_kind mdeclarations.accessor_over mdeclarations.operator_signs_of mdeclarations.operator_name mdeclarations.operator_member mdeclarations.constructor_name mdeclarations.init_over mdeclarations.init mdeclarations.initializers mdeclarations.block_or_none mdeclarations.generative_with mdeclarations.with_initializers mdeclarations.with_own_body mdeclarations.generative mdeclarations.constant mdeclarations.redirecting mdeclarations.factory mdeclarations.redirecting_factory mdeclarations.constructor_over mdeclarations.constructor mdeclarations.function mdeclarations.accessor mdeclarations.callable mdeclarations.callable_or_variables mdeclarations.static_member mdeclarations.external_static_member mdeclarations.plain_member mdeclarations.other_member mdeclarations.constructor_member mdeclarations.member mdeclarations.declared_class mdeclarations.mixed_class mdeclarations.class_kind mdeclarations.class_header mdeclarations.class_over mdeclarations.enum mdeclarations.typed_decl mdeclarations.decl_kind mexpressions.assignment_operator mexpressions.assignment mexpressions.cascade_over mexpressions.cascades mexpressions.opened mexpressions.assigned_or_cascaded mexpressions.throw mexpressions.expr_over mexpressions.without_over mexpressions.cascaded_over mlevels.selected mlevels.target mlevels.postfix mlevels.whole mlevels.prefixed mlevels.unary mlevels.chain mlevels.once mlevels.shift_operator mlevels.shift_tails mlevels.shift mlevels.compared_with mlevels.relational mlevels.conditional mlevels.row_over mlevels.rows_over mlevels.levels_over mlevels.flat_levels mparameters.after_sign mparameters.metadata mparameters.arrow_body mparameters.whole_body mparameters.body mparameters.maybe_kind mparameters.parameter_type mparameters.parameter_head mparameters.parameter_kind mparameters.parameter_over mparameters.optional_as mparameters.optional_over mparameters.required mparameters.parameters_over mparameters.more_variables mparameters.variables_over mparameters.function_over mprimaries.maybe_expr mprimaries.whole_text mprimaries.parted_text mprimaries.one_string mprimaries.strings mprimaries.named_argument mprimaries.argument mprimaries.argument_list mprimaries.arguments_over mprimaries.list_items mprimaries.entry mprimaries.map_entries mprimaries.list_over mprimaries.map_over mprimaries.collection_over mprimaries.literal_body mprimaries.function_literal_over mprimaries.index mprimaries.member mprimaries.selector mprimaries.selectors mprimaries.section_over mprimaries.super mprimaries.object mprimaries.parenthesized mprimaries.parenthesis mprimaries.primary mstatements.on_type mstatements.block_over mstatements.condition_over mstatements.if_over mstatements.updates_over mstatements.for_loop_over mstatements.for_variables_over mstatements.for_in_over mstatements.for_over mstatements.while_over mstatements.do_over mstatements.part_over mstatements.switch_over mstatements.catch_over mstatements.try_part_over mstatements.finally_over mstatements.try_parts_over mstatements.try_over mstatements.compound_over mstatements.jump mstatements.expression_stmt mstatements.declaration mstatements.other_stmt mstatements.unlabelled mstatements.stmt_of mstatements.nodes_over mstatements.stage mtypes.types mtypes.two_types mtypes.type_arguments mtypes.type_over mtypes.type_reader mtypes.result mtypes.result_before_name mtypes.type_before_name mtypes.kind mtypes.variables_kind height.primary_height edge.operand_takes mstatements.open_try
  read_block = refl

  read_init : mdeclarations.init 4 equation ≡ Ok (init_tree, [])
  unfolding c.class_of l.sign l.word l.signed l.one_of l.creation l.identifier l.plain_identifier l.contextual l.named l.dot_name l.label l.comma_name l.this_dot l.atom l.piece l.head mdeclarations.bound mdeclarations.type_parameters mdeclarations.mixins mdeclarations.interfaces mdeclarations.superclass mdeclarations.alias_over mdeclarations.alias mdeclarations.external_or_none mdeclarations.accessor_kind mdeclarations.accessor_over mdeclarations.operator_signs_of mdeclarations.operator_name mdeclarations.operator_member mdeclarations.constructor_name mdeclarations.init_over mdeclarations.init mdeclarations.initializers mdeclarations.block_or_none mdeclarations.generative_with mdeclarations.with_initializers mdeclarations.with_own_body mdeclarations.generative mdeclarations.constant mdeclarations.redirecting mdeclarations.factory mdeclarations.redirecting_factory mdeclarations.constructor_over mdeclarations.constructor mdeclarations.function mdeclarations.accessor mdeclarations.callable mdeclarations.callable_or_variables mdeclarations.static_member mdeclarations.external_static_member mdeclarations.plain_member mdeclarations.other_member mdeclarations.constructor_member mdeclarations.member mdeclarations.declared_class mdeclarations.mixed_class mdeclarations.class_kind mdeclarations.class_header mdeclarations.class_over mdeclarations.enum mdeclarations.typed_decl mdeclarations.decl_kind mexpressions.assignment_operator mexpressions.assignment mexpressions.cascade_over mexpressions.cascades mexpressions.opened mexpressions.assigned_or_cascaded mexpressions.throw mexpressions.expr_over mexpressions.without_over mexpressions.cascaded_over mlevels.selected mlevels.target mlevels.postfix mlevels.whole mlevels.prefixed mlevels.unary mlevels.chain mlevels.once mlevels.shift_operator mlevels.shift_tails mlevels.shift mlevels.compared_with mlevels.relational mlevels.conditional mlevels.row_over mlevels.rows_over mlevels.levels_over mlevels.flat_levels mparameters.after_sign mparameters.metadata mparameters.arrow_body mparameters.whole_body mparameters.body mparameters.maybe_kind mparameters.parameter_type mparameters.parameter_head mparameters.parameter_kind mparameters.parameter_over mparameters.optional_as mparameters.optional_over mparameters.required mparameters.parameters_over mparameters.more_variables mparameters.variables_over mparameters.function_over mprimaries.maybe_expr mprimaries.whole_text mprimaries.parted_text mprimaries.one_string mprimaries.strings mprimaries.named_argument mprimaries.argument mprimaries.argument_list mprimaries.arguments_over mprimaries.list_items mprimaries.entry mprimaries.map_entries mprimaries.list_over mprimaries.map_over mprimaries.collection_over mprimaries.literal_body mprimaries.function_literal_over mprimaries.index mprimaries.member mprimaries.selector mprimaries.selectors mprimaries.section_over mprimaries.super mprimaries.object mprimaries.parenthesized mprimaries.parenthesis mprimaries.primary mstatements.on_type mstatements.block_over mstatements.condition_over mstatements.if_over mstatements.updates_over mstatements.for_loop_over mstatements.for_variables_over mstatements.for_in_over mstatements.for_over mstatements.while_over mstatements.do_over mstatements.part_over mstatements.switch_over mstatements.catch_over mstatements.try_part_over mstatements.finally_over mstatements.try_parts_over mstatements.try_over mstatements.compound_over mstatements.jump mstatements.expression_stmt mstatements.declaration mstatements.other_stmt mstatements.unlabelled mstatements.stmt_of mstatements.nodes_over mstatements.stage mtypes.types mtypes.two_types mtypes.type_arguments mtypes.type_over mtypes.type_reader mtypes.result mtypes.result_before_name mtypes.type_before_name mtypes.kind mtypes.variables_kind height.primary_height edge.operand_takes mstatements.open_try
  read_init = refl

  stops_early : mdeclarations.generative (stage 4).nodes.exprs (mdeclarations.init 4) class whole ≡ Err behind
  unfolding c.class_of l.sign l.word l.signed l.one_of l.creation l.identifier l.plain_identifier l.contextual l.named l.dot_name l.label l.comma_name l.this_dot l.atom l.piece l.head mdeclarations.bound mdeclarations.type_parameters mdeclarations.mixins mdeclarations.interfaces mdeclarations.superclass mdeclarations.alias_over mdeclarations.alias mdeclarations.external_or_none mdeclarations.accessor_kind mdeclarations.accessor_over mdeclarations.operator_signs_of mdeclarations.operator_name mdeclarations.operator_member mdeclarations.constructor_name mdeclarations.init_over mdeclarations.init mdeclarations.initializers mdeclarations.block_or_none mdeclarations.generative_with mdeclarations.with_initializers mdeclarations.with_own_body mdeclarations.generative mdeclarations.constant mdeclarations.redirecting mdeclarations.factory mdeclarations.redirecting_factory mdeclarations.constructor_over mdeclarations.constructor mdeclarations.function mdeclarations.accessor mdeclarations.callable mdeclarations.callable_or_variables mdeclarations.static_member mdeclarations.external_static_member mdeclarations.plain_member mdeclarations.other_member mdeclarations.constructor_member mdeclarations.member mdeclarations.declared_class mdeclarations.mixed_class mdeclarations.class_kind mdeclarations.class_header mdeclarations.class_over mdeclarations.enum mdeclarations.typed_decl mdeclarations.decl_kind mexpressions.assignment_operator mexpressions.assignment mexpressions.cascade_over mexpressions.cascades mexpressions.opened mexpressions.assigned_or_cascaded mexpressions.throw mexpressions.expr_over mexpressions.without_over mexpressions.cascaded_over mlevels.selected mlevels.target mlevels.postfix mlevels.whole mlevels.prefixed mlevels.unary mlevels.chain mlevels.once mlevels.shift_operator mlevels.shift_tails mlevels.shift mlevels.compared_with mlevels.relational mlevels.conditional mlevels.row_over mlevels.rows_over mlevels.levels_over mlevels.flat_levels mparameters.after_sign mparameters.metadata mparameters.arrow_body mparameters.whole_body mparameters.body mparameters.maybe_kind mparameters.parameter_type mparameters.parameter_head mparameters.parameter_kind mparameters.parameter_over mparameters.optional_as mparameters.optional_over mparameters.required mparameters.parameters_over mparameters.more_variables mparameters.variables_over mparameters.function_over mprimaries.maybe_expr mprimaries.whole_text mprimaries.parted_text mprimaries.one_string mprimaries.strings mprimaries.named_argument mprimaries.argument mprimaries.argument_list mprimaries.arguments_over mprimaries.list_items mprimaries.entry mprimaries.map_entries mprimaries.list_over mprimaries.map_over mprimaries.collection_over mprimaries.literal_body mprimaries.function_literal_over mprimaries.index mprimaries.member mprimaries.selector mprimaries.selectors mprimaries.section_over mprimaries.super mprimaries.object mprimaries.parenthesized mprimaries.parenthesis mprimaries.primary mstatements.on_type mstatements.block_over mstatements.condition_over mstatements.if_over mstatements.updates_over mstatements.for_loop_over mstatements.for_variables_over mstatements.for_in_over mstatements.for_over mstatements.while_over mstatements.do_over mstatements.part_over mstatements.switch_over mstatements.catch_over mstatements.try_part_over mstatements.finally_over mstatements.try_parts_over mstatements.try_over mstatements.compound_over mstatements.jump mstatements.expression_stmt mstatements.declaration mstatements.other_stmt mstatements.unlabelled mstatements.stmt_of mstatements.nodes_over mstatements.stage mtypes.types mtypes.two_types mtypes.type_arguments mtypes.type_over mtypes.type_reader mtypes.result mtypes.result_before_name mtypes.type_before_name mtypes.kind mtypes.variables_kind height.primary_height edge.operand_takes mstatements.open_try
  stops_early = refl

  member_stops_early : mdeclarations.member 5 class whole ≡ Err behind
  unfolding c.class_of l.sign l.word l.signed l.one_of l.creation l.identifier l.plain_identifier l.contextual l.named l.dot_name l.label l.comma_name l.this_dot l.atom l.piece l.head mdeclarations.bound mdeclarations.type_parameters mdeclarations.mixins mdeclarations.interfaces mdeclarations.superclass mdeclarations.alias_over mdeclarations.alias mdeclarations.external_or_none mdeclarations.accessor_kind mdeclarations.accessor_over mdeclarations.operator_signs_of mdeclarations.operator_name mdeclarations.operator_member mdeclarations.constructor_name mdeclarations.init_over mdeclarations.init mdeclarations.initializers mdeclarations.block_or_none mdeclarations.generative_with mdeclarations.with_initializers mdeclarations.with_own_body mdeclarations.generative mdeclarations.constant mdeclarations.redirecting mdeclarations.factory mdeclarations.redirecting_factory mdeclarations.constructor_over mdeclarations.constructor mdeclarations.function mdeclarations.accessor mdeclarations.callable mdeclarations.callable_or_variables mdeclarations.static_member mdeclarations.external_static_member mdeclarations.plain_member mdeclarations.other_member mdeclarations.constructor_member mdeclarations.member mdeclarations.declared_class mdeclarations.mixed_class mdeclarations.class_kind mdeclarations.class_header mdeclarations.class_over mdeclarations.enum mdeclarations.typed_decl mdeclarations.decl_kind mexpressions.assignment_operator mexpressions.assignment mexpressions.cascade_over mexpressions.cascades mexpressions.opened mexpressions.assigned_or_cascaded mexpressions.throw mexpressions.expr_over mexpressions.without_over mexpressions.cascaded_over mlevels.selected mlevels.target mlevels.postfix mlevels.whole mlevels.prefixed mlevels.unary mlevels.chain mlevels.once mlevels.shift_operator mlevels.shift_tails mlevels.shift mlevels.compared_with mlevels.relational mlevels.conditional mlevels.row_over mlevels.rows_over mlevels.levels_over mlevels.flat_levels mparameters.after_sign mparameters.metadata mparameters.arrow_body mparameters.whole_body mparameters.body mparameters.maybe_kind mparameters.parameter_type mparameters.parameter_head mparameters.parameter_kind mparameters.parameter_over mparameters.optional_as mparameters.optional_over mparameters.required mparameters.parameters_over mparameters.more_variables mparameters.variables_over mparameters.function_over mprimaries.maybe_expr mprimaries.whole_text mprimaries.parted_text mprimaries.one_string mprimaries.strings mprimaries.named_argument mprimaries.argument mprimaries.argument_list mprimaries.arguments_over mprimaries.list_items mprimaries.entry mprimaries.map_entries mprimaries.list_over mprimaries.map_over mprimaries.collection_over mprimaries.literal_body mprimaries.function_literal_over mprimaries.index mprimaries.member mprimaries.selector mprimaries.selectors mprimaries.section_over mprimaries.super mprimaries.object mprimaries.parenthesized mprimaries.parenthesis mprimaries.primary mstatements.on_type mstatements.block_over mstatements.condition_over mstatements.if_over mstatements.updates_over mstatements.for_loop_over mstatements.for_variables_over mstatements.for_in_over mstatements.for_over mstatements.while_over mstatements.do_over mstatements.part_over mstatements.switch_over mstatements.catch_over mstatements.try_part_over mstatements.finally_over mstatements.try_parts_over mstatements.try_over mstatements.compound_over mstatements.jump mstatements.expression_stmt mstatements.declaration mstatements.other_stmt mstatements.unlabelled mstatements.stmt_of mstatements.nodes_over mstatements.stage mtypes.types mtypes.two_types mtypes.type_arguments mtypes.type_over mtypes.type_reader mtypes.result mtypes.result_before_name mtypes.type_before_name mtypes.kind mtypes.variables_kind height.primary_height edge.operand_takes mstatements.open_try
  member_stops_early = refl

  spells : constructor_tokens tree ≡ (before ++ left ∷ []) ++ closing
  unfolding operand_tokens
  spells = refl

  member_spells : member_tokens member_tree ≡ (before ++ left ∷ []) ++ closing
  unfolding operand_tokens
  member_spells = refl

  -- ---- no laws

  module _ {first_init : List ℕ} {next_init : InitKind → List ℕ} (I : Reads (mdeclarations.init 4) (g.init_within 4) first_init next_init false)
      (P : Reads (stage 4).nodes.exprs.parameters (within 4).nodes.expr_nodes.parameters (these s.LeftParenthesis) nowhere false)
      (B : Reads (stage 4).nodes.exprs.block (within 4).nodes.expr_nodes.block (these s.LeftBrace) nowhere false) where
    abbrev Whole : Phrase Constructor
    Whole = g.generative_over (within 4).nodes (g.init_within 4) class

    fits : Whole.Fits tree
    fits =
        let x = I.sound equation init_tree [] read_init in
        let y = P.sound (sign_at o s.LeftParenthesis ∷ sign_at o s.RightParenthesis ∷ []) given [] read_given in
        let z = B.sound (left ∷ left ∷ left ∷ closing) block [] read_block in (
          (record { class = i.Name o class; name = None }, (given, (Some (record { colon = o; items = record { comma = None; kind = init_tree } ∷ [] }), t.block_body block))),
          (((i.Name o class, None), ((o, tt, refl), tt), refl), (y.0, (((o, (init_tree, [])), (tt, (x.0, tt)), refl), inl (block, z.0, refl)))),
          refl,
        )

    pub no_constructor_laws : {first : List ℕ} {next : Constructor → List ℕ} → Reads (mdeclarations.generative (stage 4).nodes.exprs (mdeclarations.init 4) class) Whole first next false → ⊥
    no_constructor_laws L =
        let stuck = L.fault whole behind stops_early in
        beyond L stuck.0 behind before (closing ++ sign_at o s.Comma ∷ []) left (sym stuck.1) (omega arith)
        (L.closed (before ++ left ∷ []) closing (subst Whole.front spells (L.whole tree fits))) stuck.3

    member_fits : (g.member_within 5 class).Fits member_tree
    member_fits = ((t.no_metadata, (m.Omitted, d.constructor_member tree)), (([], tt, refl), inl (refl, (tree, inl fits, refl))), refl)

    pub no_members : MembersReadAt 5 → ⊥
    no_members M =
        let stuck = (M class).fault whole behind member_stops_early in
        beyond (M class) stuck.0 behind before (closing ++ sign_at o s.Comma ∷ []) left (sym stuck.1) (omega arith)
        ((M class).closed (before ++ left ∷ []) closing (subst (g.member_within 5 class).front member_spells ((M class).whole member_tree member_fits))) stuck.3
