-- Erasure makes no tree deeper.
use Rattle.std.proofs.Common.{◌≤◌, ℕ, suc, max, arith, List, [], ◌∷◌, map, Option, None, Some}
use Rattle.dart_tree.specs.declared.identifier.Identifier.{Identifier}
use Rattle.dart_tree.specs.declared.parameter.Parentheses.{Parentheses}
use Rattle.dart_tree.specs.Types as y
use Rattle.dart_tree.specs.Tree as t
use Rattle.dart_tree.specs.Unit as u
use Rattle.dart_tree.specs.UnitView.{maybe}
use Rattle.dart_erase.specs.Erased as erased
use Rattle.dart_erase.specs.UnitErased as of_unit
use Rattle.dart_tree.specs.Depth as height
use Rattle.dart_tree.specs.Depth.{type_height, type_arguments_height, kind_height, try_kind_height, call_height}

same : (n : ℕ) → n ≤ n
same n = omega arith

least : (n : ℕ) → 0 ≤ n
least n = omega arith

up : {a b : ℕ} → a ≤ b → suc a ≤ suc b
up h = omega arith

mono : {a b m n : ℕ} → a ≤ b → m ≤ n → max a m ≤ max b n
mono h k = omega arith

shallow_kind : (name : Identifier) (k : y.VariableKind) → kind_height (erased.variable_kind name k) ≤ kind_height k
shallow_kind name y.no_kind = same 0
shallow_kind name (y.var_kind place) = same 0
shallow_kind name (y.final_kind place x) = least _
shallow_kind name (y.const_kind place x) = least _
shallow_kind name (y.typed_kind x) = least _

shallow_parameter_type : (k : y.VariableKind) → kind_height (erased.parameter_type k) ≤ kind_height k
shallow_parameter_type y.no_kind = same 0
shallow_parameter_type (y.var_kind place) = same 0
shallow_parameter_type (y.final_kind place x) = least _
shallow_parameter_type (y.const_kind place x) = least _
shallow_parameter_type (y.typed_kind x) = least _

call_up : {a b : ℕ} (call : Option Parentheses) → a ≤ b → call_height call a ≤ call_height call b
call_up None h = same 0
call_up (Some x) h = up h

mutual
  unfolding erased.primary erased.loop erased.expr erased.operand erased.selector erased.value erased.parameter_kind erased.stmt erased.body erased.arguments erased.parameters erased.parameter erased.annotation erased.variables erased.function erased.block erased.tails erased.pieces erased.selectors erased.cascades erased.items erased.entries erased.parameter_list erased.metadata erased.stmts erased.more_variables erased.switch_parts erased.try_parts height.primary_height height.loop_height height.expr_height height.operand_height height.selector_height height.value_height height.parameter_kind_height height.stmt_height height.body_height height.arguments_height height.parameters_height height.parameter_height height.annotation_height height.variables_height height.function_height height.block_height height.tails_height height.pieces_height height.selectors_height height.cascades_height height.items_height height.entries_height height.parameter_list_height height.metadata_height height.stmts_height height.more_variables_height height.switch_parts_height height.try_parts_height

  pub shallow_expr : (x : t.Expr) → height.expr_height (erased.expr x) ≤ height.expr_height x
  shallow_expr (t.assign target operator given) = up (mono (shallow_operand target) (shallow_expr given))
  shallow_expr (t.plain base more) = up (mono (shallow_operand base) (shallow_cascades more))
  shallow_expr (t.throw word given) = up (shallow_expr given)

  pub shallow_operand : (x : t.Operand) → height.operand_height (erased.operand x) ≤ height.operand_height x
  shallow_operand (t.conditional condition question first colon second) = up (mono (shallow_operand condition) (mono (shallow_expr first) (shallow_expr second)))
  shallow_operand (t.binary first more) = up (mono (shallow_operand first) (shallow_tails more))
  shallow_operand (t.is_type base word bang of) = up (mono (shallow_operand base) (same (type_height of)))
  shallow_operand (t.as_type base word of) = up (mono (shallow_operand base) (same (type_height of)))
  shallow_operand (t.prefix operator base) = up (shallow_operand base)
  shallow_operand (t.postfix base more operator) = up (mono (shallow_primary base) (shallow_selectors more))
  shallow_operand (t.primary base) = shallow_primary base

  pub shallow_primary : (x : t.Primary) → height.primary_height (erased.primary x) ≤ height.primary_height x
  shallow_primary (t.super_access word next) = shallow_selector next
  shallow_primary (t.bare_super word) = same 1
  shallow_primary (t.atom atom) = same 0
  shallow_primary (t.text all) = shallow_pieces all
  shallow_primary (t.list_literal kinds opening all comma closing) = up (mono (same (type_arguments_height kinds)) (shallow_items all))
  shallow_primary (t.map_literal kinds opening all comma closing) = up (mono (same (type_arguments_height kinds)) (shallow_entries all))
  shallow_primary (t.new_object creation class constructor given) = mono (same (type_height class)) (shallow_arguments given)
  shallow_primary (t.function_literal given inner) = up (mono (shallow_parameters given) (shallow_body inner))
  shallow_primary (t.parenthesized opening given closing) = shallow_expr given

  pub shallow_selector : (x : t.Selector) → height.selector_height (erased.selector x) ≤ height.selector_height x
  shallow_selector (t.member dot name) = same 0
  shallow_selector (t.index opening given closing) = shallow_expr given
  shallow_selector (t.call given) = shallow_arguments given

  pub shallow_value : (x : t.Value) → height.value_height (erased.value x) ≤ height.value_height x
  shallow_value t.omitted = same 0
  shallow_value (t.given operator given) = shallow_expr given

  pub shallow_parameter_kind : (x : t.ParameterKind) → height.parameter_kind_height (erased.parameter_kind x) ≤ height.parameter_kind_height x
  shallow_parameter_kind (t.plain_parameter kind this_dot name) = shallow_parameter_type kind
  shallow_parameter_kind (t.function_parameter result_type this_dot name given) = least _

  pub shallow_stmt : (x : t.Stmt) → height.stmt_height (erased.stmt x) ≤ height.stmt_height x
  shallow_stmt (t.labelled label statement) = shallow_stmt statement
  shallow_stmt (t.block_stmt inside) = shallow_block inside
  shallow_stmt (t.variables_stmt declared) = shallow_variables declared
  shallow_stmt (t.function_stmt made) = shallow_function made
  shallow_stmt (t.if_stmt word opening condition closing first) = up (mono (shallow_expr condition) (shallow_stmt first))
  shallow_stmt (t.if_else word opening condition closing first other second) = up (mono (shallow_expr condition) (mono (shallow_stmt first) (shallow_stmt second)))
  shallow_stmt (t.loop again) = shallow_loop again
  shallow_stmt (t.switch_stmt word opening given closing left parts right) = up (mono (shallow_expr given) (shallow_switch_parts parts))
  shallow_stmt (t.try_stmt word inside parts) = up (mono (shallow_block inside) (shallow_try_parts parts))
  shallow_stmt (t.return_stmt word term semicolon) = shallow_value term
  shallow_stmt (t.jump jump) = same 0
  shallow_stmt (t.expression_stmt term semicolon) = shallow_value term

  pub shallow_loop : (x : t.Loop) → height.loop_height (erased.loop x) ≤ height.loop_height x
  shallow_loop (t.for_loop word opening start first_semicolon condition semicolon updates closing inner) = up (mono (shallow_value start) (mono (shallow_value condition) (mono (shallow_items updates) (shallow_stmt inner))))
  shallow_loop (t.for_variables word opening declared condition semicolon updates closing inner) = up (mono (shallow_variables declared) (mono (shallow_value condition) (mono (shallow_items updates) (shallow_stmt inner))))
  shallow_loop (t.for_in word opening kind name inside iterated closing inner) = up (mono (shallow_kind name kind) (mono (shallow_expr iterated) (shallow_stmt inner)))
  shallow_loop (t.while_loop word opening condition closing inner) = up (mono (shallow_expr condition) (shallow_stmt inner))
  shallow_loop (t.do_loop word inner again opening condition closing semicolon) = up (mono (shallow_stmt inner) (shallow_expr condition))

  pub shallow_body : (x : t.Body) → height.body_height (erased.body x) ≤ height.body_height x
  shallow_body (t.arrow_body arrow given semicolon) = shallow_expr given
  shallow_body (t.block_body inside) = shallow_block inside
  shallow_body (t.no_body semicolon) = same 0

  pub shallow_arguments : (x : t.Arguments) → height.arguments_height (erased.arguments x) ≤ height.arguments_height x
  shallow_arguments (t.the_arguments opening all closing) = up (shallow_items all)

  pub shallow_parameters : (x : t.Parameters) → height.parameters_height (erased.parameters x) ≤ height.parameters_height x
  shallow_parameters (t.the_parameters opening required brackets optional closing) = up (mono (shallow_parameter_list required) (shallow_parameter_list optional))

  pub shallow_parameter : (x : t.Parameter) → height.parameter_height (erased.parameter x) ≤ height.parameter_height x
  shallow_parameter (t.the_parameter comma annotations kind term) = mono (up (mono (shallow_metadata annotations) (shallow_parameter_kind kind))) (shallow_value term)

  pub shallow_annotation : (x : t.Annotation) → height.annotation_height (erased.annotation x) ≤ height.annotation_height x
  shallow_annotation (t.the_annotation at name more call all) = call_up call (shallow_items all)

  pub shallow_variables : (x : t.Variables) → height.variables_height (erased.variables x) ≤ height.variables_height x
  shallow_variables (t.the_variables kind name term more semicolon) = up (mono (shallow_kind name kind) (mono (shallow_value term) (shallow_more_variables more)))

  pub shallow_function : (x : t.Function) → height.function_height (erased.function x) ≤ height.function_height x
  shallow_function (t.the_function external result_type name given inner) = up (mono (least _) (mono (shallow_parameters given) (shallow_body inner)))

  pub shallow_block : (x : t.Block) → height.block_height (erased.block x) ≤ height.block_height x
  shallow_block (t.the_block opening statements closing) = up (shallow_stmts statements)

  pub shallow_tails : (x : t.Tails) → height.tails_height (erased.tails x) ≤ height.tails_height x
  shallow_tails t.no_tails = same 0
  shallow_tails (t.tail operator base rest) = mono (shallow_operand base) (shallow_tails rest)

  pub shallow_pieces : (x : t.Pieces) → height.pieces_height (erased.pieces x) ≤ height.pieces_height x
  shallow_pieces t.no_pieces = same 0
  shallow_pieces (t.piece kind place text term rest) = mono (shallow_value term) (shallow_pieces rest)

  pub shallow_selectors : (x : t.Selectors) → height.selectors_height (erased.selectors x) ≤ height.selectors_height x
  shallow_selectors t.no_selectors = same 0
  shallow_selectors (t.selector x rest) = mono (shallow_selector x) (shallow_selectors rest)

  pub shallow_cascades : (x : t.Cascades) → height.cascades_height (erased.cascades x) ≤ height.cascades_height x
  shallow_cascades t.no_cascades = same 0
  shallow_cascades (t.cascade dots more term rest) = mono (up (mono (shallow_selectors more) (shallow_value term))) (shallow_cascades rest)

  pub shallow_items : (x : t.Items) → height.items_height (erased.items x) ≤ height.items_height x
  shallow_items t.no_items = same 0
  shallow_items (t.item comma label given rest) = mono (shallow_expr given) (shallow_items rest)

  pub shallow_entries : (x : t.Entries) → height.entries_height (erased.entries x) ≤ height.entries_height x
  shallow_entries t.no_entries = same 0
  shallow_entries (t.entry comma key colon given rest) = mono (shallow_expr key) (mono (shallow_expr given) (shallow_entries rest))

  pub shallow_parameter_list : (x : t.ParameterList) → height.parameter_list_height (erased.parameter_list x) ≤ height.parameter_list_height x
  shallow_parameter_list t.no_parameters = same 0
  shallow_parameter_list (t.parameter x rest) = mono (shallow_parameter x) (shallow_parameter_list rest)

  pub shallow_metadata : (x : t.Metadata) → height.metadata_height (erased.metadata x) ≤ height.metadata_height x
  shallow_metadata t.no_metadata = same 0
  shallow_metadata (t.annotation x rest) = mono (shallow_annotation x) (shallow_metadata rest)

  pub shallow_stmts : (x : t.Stmts) → height.stmts_height (erased.stmts x) ≤ height.stmts_height x
  shallow_stmts t.no_stmts = same 0
  shallow_stmts (t.stmt x rest) = mono (shallow_stmt x) (shallow_stmts rest)

  pub shallow_more_variables : (x : t.MoreVariables) → height.more_variables_height (erased.more_variables x) ≤ height.more_variables_height x
  shallow_more_variables t.no_variables = same 0
  shallow_more_variables (t.variable comma name term rest) = mono (shallow_value term) (shallow_more_variables rest)

  pub shallow_switch_parts : (x : t.SwitchParts) → height.switch_parts_height (erased.switch_parts x) ≤ height.switch_parts_height x
  shallow_switch_parts t.no_switch_parts = same 0
  shallow_switch_parts (t.switch_part labels word term colon statements rest) = mono (shallow_value term) (mono (shallow_stmts statements) (shallow_switch_parts rest))

  pub shallow_try_parts : (x : t.TryParts) → height.try_parts_height (erased.try_parts x) ≤ height.try_parts_height x
  shallow_try_parts t.no_try_parts = same 0
  shallow_try_parts (t.try_part kind inside rest) = mono (same (try_kind_height kind)) (mono (shallow_block inside) (shallow_try_parts rest))

shallow_all : {A : Type 0} (h : A → ℕ) (f : A → A) → ((x : A) → h (f x) ≤ h x) → (xs : List A) → height.highest h (map f xs) ≤ height.highest h xs
shallow_all h f each [] = same 0
shallow_all h f each (x ∷ xs) = mono (each x) (shallow_all h f each xs)

shallow_maybe : {A : Type 0} (h : A → ℕ) (f : A → A) → ((x : A) → h (f x) ≤ h x) → (x : Option A) → height.height_if h (maybe f x) ≤ height.height_if h x
shallow_maybe h f each None = same 0
shallow_maybe h f each (Some x) = each x

shallow_type_parameter : (x : u.TypeParameter) → height.type_parameter_height (of_unit.type_parameter x) ≤ height.type_parameter_height x
shallow_type_parameter x = mono (shallow_metadata x.metadata) (same _)

shallow_type_parameters : (x : u.TypeParameters) → height.type_parameters_height (of_unit.type_parameters x) ≤ height.type_parameters_height x
shallow_type_parameters x = shallow_all height.type_parameter_height of_unit.type_parameter shallow_type_parameter x.items

shallow_init_kind : (x : u.InitKind) → height.init_kind_height (of_unit.init_kind x) ≤ height.init_kind_height x
shallow_init_kind (u.super_init place name given) = shallow_arguments given
shallow_init_kind (u.field_init this_dot name equals first more) = mono (shallow_operand first) (shallow_cascades more)

shallow_init : (x : u.Init) → height.init_height (of_unit.init x) ≤ height.init_height x
shallow_init x = up (shallow_init_kind x.kind)

shallow_initializers : (x : u.Initializers) → height.initializers_height (of_unit.initializers x) ≤ height.initializers_height x
shallow_initializers x = shallow_all height.init_height of_unit.init shallow_init x.items

shallow_constructor : (x : u.Constructor) → height.constructor_height (of_unit.constructor x) ≤ height.constructor_height x
shallow_constructor (u.generative constant name given inits inner) = up (mono (shallow_parameters given) (mono (shallow_maybe height.initializers_height of_unit.initializers shallow_initializers inits) (shallow_body inner)))
shallow_constructor (u.redirecting name given colon this other handed semicolon) = up (mono (shallow_parameters given) (shallow_arguments handed))
shallow_constructor (u.factory external word name given inner) = up (mono (shallow_parameters given) (shallow_body inner))
shallow_constructor (u.redirecting_factory external word name given equals target other semicolon) = up (mono (shallow_parameters given) (same _))

shallow_accessor_kind : (x : u.AccessorKind) → height.accessor_kind_height (of_unit.accessor_kind x) ≤ height.accessor_kind_height x
shallow_accessor_kind (u.getter place name) = same 0
shallow_accessor_kind (u.setter place name given) = shallow_parameters given

shallow_accessor : (x : u.Accessor) → height.accessor_height (of_unit.accessor x) ≤ height.accessor_height x
shallow_accessor x = up (mono (least _) (mono (shallow_accessor_kind x.kind) (shallow_body x.body)))

shallow_operator : (x : u.OperatorMember) → height.operator_height (of_unit.operator_member x) ≤ height.operator_height x
shallow_operator x = mono (least _) (mono (shallow_parameters x.parameters) (shallow_body x.body))

shallow_member_kind : (x : u.MemberKind) → height.member_kind_height (of_unit.member_kind x) ≤ height.member_kind_height x
shallow_member_kind (u.constructor_member x) = shallow_constructor x
shallow_member_kind (u.function_member x) = shallow_function x
shallow_member_kind (u.accessor_member x) = shallow_accessor x
shallow_member_kind (u.variables_member x) = shallow_variables x
shallow_member_kind (u.operator_member x) = shallow_operator x

shallow_member : (x : u.Member) → height.member_height (of_unit.member x) ≤ height.member_height x
shallow_member x = mono (shallow_metadata x.metadata) (shallow_member_kind x.kind)

shallow_class_kind : (x : u.ClassKind) → height.class_kind_height (of_unit.class_kind x) ≤ height.class_kind_height x
shallow_class_kind (u.declared_class above interfaces opening members closing) = mono (same _) (mono (same _) (shallow_all height.member_height of_unit.member shallow_member members))
shallow_class_kind (u.mixed_class equals above mixins interfaces semicolon) = same _

shallow_class : (x : u.Class) → height.class_height (of_unit.class x) ≤ height.class_height x
shallow_class x = up (mono (shallow_maybe height.type_parameters_height of_unit.type_parameters shallow_type_parameters x.parameters) (shallow_class_kind x.kind))

shallow_alias : (x : u.Alias) → height.alias_height (of_unit.alias x) ≤ height.alias_height x
shallow_alias x = up (mono (least _) (mono (shallow_maybe height.type_parameters_height of_unit.type_parameters shallow_type_parameters x.type_parameters) (shallow_parameters x.parameters)))

shallow_decl_kind : (x : u.DeclKind) → height.decl_kind_height (of_unit.decl_kind x) ≤ height.decl_kind_height x
shallow_decl_kind (u.class_decl x) = shallow_class x
shallow_decl_kind (u.alias_decl x) = shallow_alias x
shallow_decl_kind (u.function_decl x) = shallow_function x
shallow_decl_kind (u.accessor_decl x) = shallow_accessor x
shallow_decl_kind (u.variables_decl x) = shallow_variables x
shallow_decl_kind (u.enum_decl x) = same 1

shallow_decl : (x : u.Decl) → height.decl_height (of_unit.decl x) ≤ height.decl_height x
shallow_decl x = mono (shallow_metadata x.metadata) (shallow_decl_kind x.kind)

shallow_uri : (x : u.DirectiveKind) → height.uri_height (of_unit.directive_kind x) ≤ height.uri_height x
shallow_uri (u.part_of_directive part of name more) = same 0
shallow_uri (u.library_directive word name more) = same 0
shallow_uri (u.import_directive word uri prefix combinators) = shallow_pieces uri
shallow_uri (u.export_directive word uri combinators) = shallow_pieces uri
shallow_uri (u.part_directive word uri) = shallow_pieces uri

shallow_directive : (x : u.Directive) → height.directive_height (of_unit.directive x) ≤ height.directive_height x
shallow_directive x = up (mono (shallow_metadata x.metadata) (shallow_uri x.kind))

pub shallow_unit : (x : u.UnitTree) → height.unit_height (of_unit.unit x) ≤ height.unit_height x
shallow_unit x = up (mono (shallow_all height.directive_height of_unit.directive shallow_directive x.directives) (shallow_all height.decl_height of_unit.decl shallow_decl x.declarations))
