-- The tokens of an erased unit are tokens of the unit, in order and each at its place, and `var` before some of them.
use Rattle.std.proofs.Common.{List, [], ◌∷◌, ◌++◌, map, flat_map, Option, None, Some}
use Rattle.dart_token.specs.declared.token.Token.{Token}
use Rattle.dart_tree.specs.declared.identifier.Identifier.{Identifier}
use Rattle.dart_tree.specs.declared.identifier.Identifier.TheVariants as i
use Rattle.dart_tree.specs.Places.{place_of}
use Rattle.dart_tree.specs.Types as y
use Rattle.dart_tree.specs.Tree as t
use Rattle.dart_tree.specs.Unit as u
use Rattle.dart_tree.specs.UnitView.{maybe}
use Rattle.dart_erase.specs.Erased as erased
use Rattle.dart_erase.specs.UnitErased as of_unit
use Rattle.dart_erase.specs.Thinned.{Thinned, nothing, keeps, drops, puts_var}
use Rattle.dart_token.specs.declared.sign.Sign.TheVariants as s
use Rattle.dart_token.specs.declared.word.Word.TheVariants as w
use Rattle.dart_tree.specs.LeafTokens.{maybe_sign, maybe_word, operator_tokens, maybe_operator, maybe_dot_name, dot_names_tokens, identifier_tokens, atom_tokens, maybe_this, label_tokens, maybe_label, labels_tokens, jump_tokens, opening_bracket, closing_bracket, opening_parenthesis, closing_parenthesis, type_tokens, maybe_type, type_arguments_tokens, maybe_result, kind_tokens, try_kind_tokens}
use Rattle.dart_tree.specs.UnitTokens as ut
use Rattle.dart_tree.specs.Tokens.{primary_tokens, loop_tokens, expr_tokens, operand_tokens, selector_tokens, value_tokens, parameter_kind_tokens, stmt_tokens, body_tokens, arguments_tokens, parameters_tokens, parameter_tokens, annotation_tokens, variables_tokens, function_tokens, block_tokens, tails_tokens, pieces_tokens, selectors_tokens, cascades_tokens, items_tokens, entries_tokens, parameter_list_tokens, metadata_tokens, stmts_tokens, more_variables_tokens, switch_parts_tokens, try_parts_tokens}

kept : (xs : List Token) → Thinned xs xs
kept [] = nothing
kept (x ∷ xs) = keeps x (kept xs)

gone : (xs : List Token) → Thinned xs []
gone [] = nothing
gone (x ∷ xs) = drops x (gone xs)

app : {a b m n : List Token} → Thinned a b → Thinned m n → Thinned (a ++ m) (b ++ n)
app nothing k = k
app (keeps x h) k = keeps x (app h k)
app (drops x h) k = drops x (app h k)
app (puts_var x h) k = puts_var x (app h k)

app_end : {a b : List Token} → Thinned a b → (m : List Token) → Thinned (a ++ m) b
app_end nothing m = gone m
app_end (keeps x h) m = keeps x (app_end h m)
app_end (drops x h) m = drops x (app_end h m)
app_end (puts_var x h) m = puts_var x (app_end h m)

-- in front of what is kept
before : {a b : List Token} (xs : List Token) → Thinned a b → Thinned (xs ++ a) b
before [] h = h
before (x ∷ xs) h = drops x (before xs h)

put_var : {a b : List Token} (name : Identifier) → Thinned a b → Thinned (identifier_tokens name ++ a) (kind_tokens (y.var_kind (place_of name)) ++ (identifier_tokens name ++ b))
put_var (i.Name place text) h = puts_var _ h
put_var (i.Get place) h = puts_var _ h
put_var (i.Set place) h = puts_var _ h

thin_declared : {a b : List Token} (name : Identifier) (k : y.VariableKind) → Thinned a b → Thinned (kind_tokens k ++ (identifier_tokens name ++ a)) (kind_tokens (erased.variable_kind name k) ++ (identifier_tokens name ++ b))
thin_declared name y.no_kind h = app (kept (identifier_tokens name)) h
thin_declared name (y.var_kind place) h = keeps _ (app (kept (identifier_tokens name)) h)
thin_declared name (y.final_kind place x) h = keeps _ (before (maybe_type x) (app (kept (identifier_tokens name)) h))
thin_declared name (y.const_kind place x) h = keeps _ (before (maybe_type x) (app (kept (identifier_tokens name)) h))
thin_declared name (y.typed_kind x) h = before (type_tokens x) (put_var name h)

thin_parameter_type : (k : y.VariableKind) → Thinned (kind_tokens k) (kind_tokens (erased.parameter_type k))
thin_parameter_type y.no_kind = nothing
thin_parameter_type (y.var_kind place) = kept _
thin_parameter_type (y.final_kind place x) = keeps _ (gone _)
thin_parameter_type (y.const_kind place x) = keeps _ (gone _)
thin_parameter_type (y.typed_kind x) = gone _

mutual
  unfolding erased.primary erased.loop erased.expr erased.operand erased.selector erased.value erased.parameter_kind erased.stmt erased.body erased.arguments erased.parameters erased.parameter erased.annotation erased.variables erased.function erased.block erased.tails erased.pieces erased.selectors erased.cascades erased.items erased.entries erased.parameter_list erased.metadata erased.stmts erased.more_variables erased.switch_parts erased.try_parts primary_tokens loop_tokens expr_tokens operand_tokens selector_tokens value_tokens parameter_kind_tokens stmt_tokens body_tokens arguments_tokens parameters_tokens parameter_tokens annotation_tokens variables_tokens function_tokens block_tokens tails_tokens pieces_tokens selectors_tokens cascades_tokens items_tokens entries_tokens parameter_list_tokens metadata_tokens stmts_tokens more_variables_tokens switch_parts_tokens try_parts_tokens

  pub thin_expr : (x : t.Expr) → Thinned (expr_tokens x) (expr_tokens (erased.expr x))
  thin_expr (t.assign target operator given) = app (thin_operand target) (app (kept (operator_tokens operator)) (thin_expr given))
  thin_expr (t.plain base more) = app (thin_operand base) (thin_cascades more)
  thin_expr (t.throw word given) = keeps _ (thin_expr given)

  pub thin_operand : (x : t.Operand) → Thinned (operand_tokens x) (operand_tokens (erased.operand x))
  thin_operand (t.conditional condition question first colon second) = app (thin_operand condition) (keeps _ (app (thin_expr first) (keeps _ (thin_expr second))))
  thin_operand (t.binary first more) = app (thin_operand first) (thin_tails more)
  thin_operand (t.is_type base word bang of) = app (thin_operand base) (keeps _ (app (kept (maybe_sign bang s.Bang)) (kept (type_tokens of))))
  thin_operand (t.as_type base word of) = app (thin_operand base) (keeps _ (kept (type_tokens of)))
  thin_operand (t.prefix operator base) = app (kept (operator_tokens operator)) (thin_operand base)
  thin_operand (t.postfix base more operator) = app (thin_primary base) (app (thin_selectors more) (kept (maybe_operator operator)))
  thin_operand (t.primary base) = thin_primary base

  pub thin_primary : (x : t.Primary) → Thinned (primary_tokens x) (primary_tokens (erased.primary x))
  thin_primary (t.super_access word next) = keeps _ (thin_selector next)
  thin_primary (t.bare_super word) = keeps _ nothing
  thin_primary (t.atom atom) = kept (atom_tokens atom)
  thin_primary (t.text all) = thin_pieces all
  thin_primary (t.list_literal kinds opening all comma closing) = app (kept (type_arguments_tokens kinds)) (keeps _ (app (thin_items all) (app (kept (maybe_sign comma s.Comma)) (keeps _ nothing))))
  thin_primary (t.map_literal kinds opening all comma closing) = app (kept (type_arguments_tokens kinds)) (keeps _ (app (thin_entries all) (app (kept (maybe_sign comma s.Comma)) (keeps _ nothing))))
  thin_primary (t.new_object creation class constructor given) = keeps _ (app (kept (type_tokens class)) (app (kept (maybe_dot_name constructor)) (thin_arguments given)))
  thin_primary (t.function_literal given inner) = app (thin_parameters given) (thin_body inner)
  thin_primary (t.parenthesized opening given closing) = keeps _ (app (thin_expr given) (keeps _ nothing))

  pub thin_selector : (x : t.Selector) → Thinned (selector_tokens x) (selector_tokens (erased.selector x))
  thin_selector (t.member dot name) = app (kept (maybe_sign dot s.Dot)) (kept (identifier_tokens name))
  thin_selector (t.index opening given closing) = keeps _ (app (thin_expr given) (keeps _ nothing))
  thin_selector (t.call given) = thin_arguments given

  pub thin_value : (x : t.Value) → Thinned (value_tokens x) (value_tokens (erased.value x))
  thin_value t.omitted = nothing
  thin_value (t.given operator given) = app (kept (maybe_operator operator)) (thin_expr given)

  pub thin_parameter_kind : (x : t.ParameterKind) → Thinned (parameter_kind_tokens x) (parameter_kind_tokens (erased.parameter_kind x))
  thin_parameter_kind (t.plain_parameter kind this_dot name) = app (thin_parameter_type kind) (app (kept (maybe_this this_dot)) (kept (identifier_tokens name)))
  thin_parameter_kind (t.function_parameter result_type this_dot name given) = app (gone (maybe_result result_type)) (app (kept (maybe_this this_dot)) (app_end (kept (identifier_tokens name)) (parameters_tokens given)))

  pub thin_stmt : (x : t.Stmt) → Thinned (stmt_tokens x) (stmt_tokens (erased.stmt x))
  thin_stmt (t.labelled label statement) = app (kept (label_tokens label)) (thin_stmt statement)
  thin_stmt (t.block_stmt inside) = thin_block inside
  thin_stmt (t.variables_stmt declared) = thin_variables declared
  thin_stmt (t.function_stmt made) = thin_function made
  thin_stmt (t.if_stmt word opening condition closing first) = keeps _ (keeps _ (app (thin_expr condition) (keeps _ (thin_stmt first))))
  thin_stmt (t.if_else word opening condition closing first other second) = keeps _ (keeps _ (app (thin_expr condition) (keeps _ (app (thin_stmt first) (keeps _ (thin_stmt second))))))
  thin_stmt (t.loop again) = thin_loop again
  thin_stmt (t.switch_stmt word opening given closing left parts right) = keeps _ (keeps _ (app (thin_expr given) (keeps _ (keeps _ (app (thin_switch_parts parts) (keeps _ nothing))))))
  thin_stmt (t.try_stmt word inside parts) = keeps _ (app (thin_block inside) (thin_try_parts parts))
  thin_stmt (t.return_stmt word term semicolon) = keeps _ (app (thin_value term) (keeps _ nothing))
  thin_stmt (t.jump jump) = kept (jump_tokens jump)
  thin_stmt (t.expression_stmt term semicolon) = app (thin_value term) (keeps _ nothing)

  pub thin_loop : (x : t.Loop) → Thinned (loop_tokens x) (loop_tokens (erased.loop x))
  thin_loop (t.for_loop word opening start first_semicolon condition semicolon updates closing inner) = keeps _ (keeps _ (app (thin_value start) (keeps _ (app (thin_value condition) (keeps _ (app (thin_items updates) (keeps _ (thin_stmt inner))))))))
  thin_loop (t.for_variables word opening declared condition semicolon updates closing inner) = keeps _ (keeps _ (app (thin_variables declared) (app (thin_value condition) (keeps _ (app (thin_items updates) (keeps _ (thin_stmt inner)))))))
  thin_loop (t.for_in word opening kind name inside iterated closing inner) = keeps _ (keeps _ (thin_declared name kind (keeps _ (app (thin_expr iterated) (keeps _ (thin_stmt inner))))))
  thin_loop (t.while_loop word opening condition closing inner) = keeps _ (keeps _ (app (thin_expr condition) (keeps _ (thin_stmt inner))))
  thin_loop (t.do_loop word inner again opening condition closing semicolon) = keeps _ (app (thin_stmt inner) (keeps _ (keeps _ (app (thin_expr condition) (keeps _ (keeps _ nothing))))))

  pub thin_body : (x : t.Body) → Thinned (body_tokens x) (body_tokens (erased.body x))
  thin_body (t.arrow_body arrow given semicolon) = keeps _ (app (thin_expr given) (kept (maybe_sign semicolon s.Semicolon)))
  thin_body (t.block_body inside) = thin_block inside
  thin_body (t.no_body semicolon) = keeps _ nothing

  pub thin_arguments : (x : t.Arguments) → Thinned (arguments_tokens x) (arguments_tokens (erased.arguments x))
  thin_arguments (t.the_arguments opening all closing) = keeps _ (app (thin_items all) (keeps _ nothing))

  pub thin_parameters : (x : t.Parameters) → Thinned (parameters_tokens x) (parameters_tokens (erased.parameters x))
  thin_parameters (t.the_parameters opening required brackets optional closing) = keeps _ (app (thin_parameter_list required) (app (kept (opening_bracket brackets)) (app (thin_parameter_list optional) (app (kept (closing_bracket brackets)) (keeps _ nothing)))))

  pub thin_parameter : (x : t.Parameter) → Thinned (parameter_tokens x) (parameter_tokens (erased.parameter x))
  thin_parameter (t.the_parameter comma annotations kind term) = app (kept (maybe_sign comma s.Comma)) (app (thin_metadata annotations) (app (thin_parameter_kind kind) (thin_value term)))

  pub thin_annotation : (x : t.Annotation) → Thinned (annotation_tokens x) (annotation_tokens (erased.annotation x))
  thin_annotation (t.the_annotation at name more call all) = keeps _ (app (kept (identifier_tokens name)) (app (kept (dot_names_tokens more)) (app (kept (opening_parenthesis call)) (app (thin_items all) (kept (closing_parenthesis call))))))

  pub thin_variables : (x : t.Variables) → Thinned (variables_tokens x) (variables_tokens (erased.variables x))
  thin_variables (t.the_variables kind name term more semicolon) = thin_declared name kind (app (thin_value term) (app (thin_more_variables more) (keeps _ nothing)))

  pub thin_function : (x : t.Function) → Thinned (function_tokens x) (function_tokens (erased.function x))
  thin_function (t.the_function external result_type name given inner) = app (kept (maybe_word external w.External)) (app (gone (maybe_result result_type)) (app (kept (identifier_tokens name)) (app (thin_parameters given) (thin_body inner))))

  pub thin_block : (x : t.Block) → Thinned (block_tokens x) (block_tokens (erased.block x))
  thin_block (t.the_block opening statements closing) = keeps _ (app (thin_stmts statements) (keeps _ nothing))

  pub thin_tails : (x : t.Tails) → Thinned (tails_tokens x) (tails_tokens (erased.tails x))
  thin_tails t.no_tails = nothing
  thin_tails (t.tail operator base rest) = app (kept (operator_tokens operator)) (app (thin_operand base) (thin_tails rest))

  pub thin_pieces : (x : t.Pieces) → Thinned (pieces_tokens x) (pieces_tokens (erased.pieces x))
  thin_pieces t.no_pieces = nothing
  thin_pieces (t.piece kind place text term rest) = keeps _ (app (thin_value term) (thin_pieces rest))

  pub thin_selectors : (x : t.Selectors) → Thinned (selectors_tokens x) (selectors_tokens (erased.selectors x))
  thin_selectors t.no_selectors = nothing
  thin_selectors (t.selector x rest) = app (thin_selector x) (thin_selectors rest)

  pub thin_cascades : (x : t.Cascades) → Thinned (cascades_tokens x) (cascades_tokens (erased.cascades x))
  thin_cascades t.no_cascades = nothing
  thin_cascades (t.cascade dots more term rest) = keeps _ (app (thin_selectors more) (app (thin_value term) (thin_cascades rest)))

  pub thin_items : (x : t.Items) → Thinned (items_tokens x) (items_tokens (erased.items x))
  thin_items t.no_items = nothing
  thin_items (t.item comma label given rest) = app (kept (maybe_sign comma s.Comma)) (app (kept (maybe_label label)) (app (thin_expr given) (thin_items rest)))

  pub thin_entries : (x : t.Entries) → Thinned (entries_tokens x) (entries_tokens (erased.entries x))
  thin_entries t.no_entries = nothing
  thin_entries (t.entry comma key colon given rest) = app (kept (maybe_sign comma s.Comma)) (app (thin_expr key) (keeps _ (app (thin_expr given) (thin_entries rest))))

  pub thin_parameter_list : (x : t.ParameterList) → Thinned (parameter_list_tokens x) (parameter_list_tokens (erased.parameter_list x))
  thin_parameter_list t.no_parameters = nothing
  thin_parameter_list (t.parameter x rest) = app (thin_parameter x) (thin_parameter_list rest)

  pub thin_metadata : (x : t.Metadata) → Thinned (metadata_tokens x) (metadata_tokens (erased.metadata x))
  thin_metadata t.no_metadata = nothing
  thin_metadata (t.annotation x rest) = app (thin_annotation x) (thin_metadata rest)

  pub thin_stmts : (x : t.Stmts) → Thinned (stmts_tokens x) (stmts_tokens (erased.stmts x))
  thin_stmts t.no_stmts = nothing
  thin_stmts (t.stmt x rest) = app (thin_stmt x) (thin_stmts rest)

  pub thin_more_variables : (x : t.MoreVariables) → Thinned (more_variables_tokens x) (more_variables_tokens (erased.more_variables x))
  thin_more_variables t.no_variables = nothing
  thin_more_variables (t.variable comma name term rest) = keeps _ (app (kept (identifier_tokens name)) (app (thin_value term) (thin_more_variables rest)))

  pub thin_switch_parts : (x : t.SwitchParts) → Thinned (switch_parts_tokens x) (switch_parts_tokens (erased.switch_parts x))
  thin_switch_parts t.no_switch_parts = nothing
  thin_switch_parts (t.switch_part labels word t.omitted colon statements rest) = app (kept (labels_tokens labels)) (keeps _ (keeps _ (app (thin_stmts statements) (thin_switch_parts rest))))
  thin_switch_parts (t.switch_part labels word (t.given operator x) colon statements rest) = app (kept (labels_tokens labels)) (keeps _ (app (app (kept (maybe_operator operator)) (thin_expr x)) (keeps _ (app (thin_stmts statements) (thin_switch_parts rest)))))

  pub thin_try_parts : (x : t.TryParts) → Thinned (try_parts_tokens x) (try_parts_tokens (erased.try_parts x))
  thin_try_parts t.no_try_parts = nothing
  thin_try_parts (t.try_part kind inside rest) = app (kept (try_kind_tokens kind)) (app (thin_block inside) (thin_try_parts rest))

thin_all : {A : Type 0} (h : A → List Token) (f : A → A) → ((x : A) → Thinned (h x) (h (f x))) → (xs : List A) → Thinned (flat_map h xs) (flat_map h (map f xs))
thin_all h f each [] = nothing
thin_all h f each (x ∷ xs) = app (each x) (thin_all h f each xs)

thin_maybe : {A : Type 0} (h : A → List Token) (f : A → A) → ((x : A) → Thinned (h x) (h (f x))) → (x : Option A) → Thinned (ut.tokens_if h x) (ut.tokens_if h (maybe f x))
thin_maybe h f each None = nothing
thin_maybe h f each (Some x) = each x

thin_type_parameter : (x : u.TypeParameter) → Thinned (ut.type_parameter_tokens x) (ut.type_parameter_tokens (of_unit.type_parameter x))
thin_type_parameter x = app (kept (maybe_sign x.comma s.Comma)) (app (thin_metadata x.metadata) (app (kept (identifier_tokens x.name)) (kept (ut.tokens_if ut.bound_tokens x.bound))))

thin_type_parameters : (x : u.TypeParameters) → Thinned (ut.type_parameters_tokens x) (ut.type_parameters_tokens (of_unit.type_parameters x))
thin_type_parameters x = keeps _ (app (thin_all ut.type_parameter_tokens of_unit.type_parameter thin_type_parameter x.items) (keeps _ nothing))

thin_init_kind : (x : u.InitKind) → Thinned (ut.init_kind_tokens x) (ut.init_kind_tokens (of_unit.init_kind x))
thin_init_kind (u.super_init place name given) = keeps _ (app (kept (maybe_dot_name name)) (thin_arguments given))
thin_init_kind (u.field_init this_dot name equals first more) = app (kept (maybe_this this_dot)) (app (kept (identifier_tokens name)) (keeps _ (app (thin_operand first) (thin_cascades more))))

thin_init : (x : u.Init) → Thinned (ut.init_tokens x) (ut.init_tokens (of_unit.init x))
thin_init x = app (kept (maybe_sign x.comma s.Comma)) (thin_init_kind x.kind)

thin_initializers : (x : u.Initializers) → Thinned (ut.initializers_tokens x) (ut.initializers_tokens (of_unit.initializers x))
thin_initializers x = keeps _ (thin_all ut.init_tokens of_unit.init thin_init x.items)

thin_constructor : (x : u.Constructor) → Thinned (ut.constructor_tokens x) (ut.constructor_tokens (of_unit.constructor x))
thin_constructor (u.generative constant name given inits inner) = app (kept (maybe_word constant w.Const)) (app (kept (ut.constructor_name_tokens name)) (app (thin_parameters given) (app (thin_maybe ut.initializers_tokens of_unit.initializers thin_initializers inits) (thin_body inner))))
thin_constructor (u.redirecting name given colon this other handed semicolon) = app (kept (ut.constructor_name_tokens name)) (app (thin_parameters given) (keeps _ (keeps _ (app (kept (maybe_dot_name other)) (app (thin_arguments handed) (keeps _ nothing))))))
thin_constructor (u.factory external word name given inner) = app (kept (maybe_word external w.External)) (keeps _ (app (kept (ut.constructor_name_tokens name)) (app (thin_parameters given) (thin_body inner))))
thin_constructor (u.redirecting_factory external word name given equals target other semicolon) = app (kept (maybe_word external w.External)) (keeps _ (app (kept (ut.constructor_name_tokens name)) (app (thin_parameters given) (keeps _ (app (kept (type_tokens target)) (app (kept (maybe_dot_name other)) (keeps _ nothing)))))))

thin_accessor_kind : (x : u.AccessorKind) → Thinned (ut.accessor_kind_tokens x) (ut.accessor_kind_tokens (of_unit.accessor_kind x))
thin_accessor_kind (u.getter place name) = kept _
thin_accessor_kind (u.setter place name given) = keeps _ (app (kept (identifier_tokens name)) (thin_parameters given))

thin_accessor : (x : u.Accessor) → Thinned (ut.accessor_tokens x) (ut.accessor_tokens (of_unit.accessor x))
thin_accessor x = app (kept (maybe_word x.external w.External)) (app (gone (maybe_result x.result_type)) (app (thin_accessor_kind x.kind) (thin_body x.body)))

thin_operator_member : (x : u.OperatorMember) → Thinned (ut.operator_member_tokens x) (ut.operator_member_tokens (of_unit.operator_member x))
thin_operator_member x = app (kept (maybe_word x.external w.External)) (app (gone (maybe_result x.result_type)) (keeps _ (app (kept (ut.operator_name_tokens x.name)) (app (thin_parameters x.parameters) (thin_body x.body)))))

thin_member_kind : (x : u.MemberKind) → Thinned (ut.member_kind_tokens x) (ut.member_kind_tokens (of_unit.member_kind x))
thin_member_kind (u.constructor_member x) = thin_constructor x
thin_member_kind (u.function_member x) = thin_function x
thin_member_kind (u.accessor_member x) = thin_accessor x
thin_member_kind (u.variables_member x) = thin_variables x
thin_member_kind (u.operator_member x) = thin_operator_member x

thin_member : (x : u.Member) → Thinned (ut.member_tokens x) (ut.member_tokens (of_unit.member x))
thin_member x = app (thin_metadata x.metadata) (app (kept (ut.modifier_tokens x.modifier)) (thin_member_kind x.kind))

thin_class_kind : (x : u.ClassKind) → Thinned (ut.class_kind_tokens x) (ut.class_kind_tokens (of_unit.class_kind x))
thin_class_kind (u.declared_class above interfaces opening members closing) = app (kept (ut.tokens_if ut.superclass_tokens above)) (app (kept (ut.tokens_if (ut.clause_tokens w.Implements) interfaces)) (keeps _ (app (thin_all ut.member_tokens of_unit.member thin_member members) (keeps _ nothing))))
thin_class_kind (u.mixed_class equals above mixins interfaces semicolon) = kept _

thin_class : (x : u.Class) → Thinned (ut.class_tokens x) (ut.class_tokens (of_unit.class x))
thin_class x = app (kept (maybe_word x.abstracted w.Abstract)) (keeps _ (app (kept (identifier_tokens x.name)) (app (thin_maybe ut.type_parameters_tokens of_unit.type_parameters thin_type_parameters x.parameters) (thin_class_kind x.kind))))

thin_alias : (x : u.Alias) → Thinned (ut.alias_tokens x) (ut.alias_tokens (of_unit.alias x))
thin_alias x = keeps _ (app (gone (maybe_result x.result_type)) (app (kept (identifier_tokens x.name)) (app (thin_maybe ut.type_parameters_tokens of_unit.type_parameters thin_type_parameters x.type_parameters) (app (thin_parameters x.parameters) (keeps _ nothing)))))

thin_decl_kind : (x : u.DeclKind) → Thinned (ut.decl_kind_tokens x) (ut.decl_kind_tokens (of_unit.decl_kind x))
thin_decl_kind (u.class_decl x) = thin_class x
thin_decl_kind (u.alias_decl x) = thin_alias x
thin_decl_kind (u.function_decl x) = thin_function x
thin_decl_kind (u.accessor_decl x) = thin_accessor x
thin_decl_kind (u.variables_decl x) = thin_variables x
thin_decl_kind (u.enum_decl x) = kept _

thin_decl : (x : u.Decl) → Thinned (ut.decl_tokens x) (ut.decl_tokens (of_unit.decl x))
thin_decl x = app (thin_metadata x.metadata) (thin_decl_kind x.kind)

thin_directive_kind : (x : u.DirectiveKind) → Thinned (ut.directive_kind_tokens x) (ut.directive_kind_tokens (of_unit.directive_kind x))
thin_directive_kind (u.part_of_directive part of name more) = kept _
thin_directive_kind (u.library_directive word name more) = kept _
thin_directive_kind (u.import_directive word uri prefix combinators) = keeps _ (app (thin_pieces uri) (app (kept (ut.tokens_if ut.prefix_tokens prefix)) (kept (flat_map ut.combinator_tokens combinators))))
thin_directive_kind (u.export_directive word uri combinators) = keeps _ (app (thin_pieces uri) (kept (flat_map ut.combinator_tokens combinators)))
thin_directive_kind (u.part_directive word uri) = keeps _ (thin_pieces uri)

thin_directive : (x : u.Directive) → Thinned (ut.directive_tokens x) (ut.directive_tokens (of_unit.directive x))
thin_directive x = app (thin_metadata x.metadata) (app (thin_directive_kind x.kind) (keeps _ nothing))

pub thin_unit : (x : u.UnitTree) → Thinned (ut.unit_tokens x) (ut.unit_tokens (of_unit.unit x))
thin_unit x = app (thin_all ut.directive_tokens of_unit.directive thin_directive x.directives) (thin_all ut.decl_tokens of_unit.decl thin_decl x.declarations)
