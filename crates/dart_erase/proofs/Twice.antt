-- Erasing twice is erasing once.
use Rattle.std.proofs.Common.{◌≡◌, refl, ap, ◌∙◌, List, [], ◌∷◌, map, Option, None, Some}
use Rattle.dart_tree.specs.declared.identifier.Identifier.{Identifier}
use Rattle.dart_tree.specs.Types as y
use Rattle.dart_tree.specs.Tree as t
use Rattle.dart_tree.specs.Unit as u
use Rattle.dart_tree.specs.UnitView.{maybe}
use Rattle.dart_erase.specs.Erased as erased
use Rattle.dart_erase.specs.UnitErased as of_unit

twice_kind : (name : Identifier) (k : y.VariableKind) → erased.variable_kind name (erased.variable_kind name k) ≡ erased.variable_kind name k
twice_kind name y.no_kind = refl
twice_kind name (y.var_kind place) = refl
twice_kind name (y.final_kind place x) = refl
twice_kind name (y.const_kind place x) = refl
twice_kind name (y.typed_kind x) = refl

twice_parameter_type : (k : y.VariableKind) → erased.parameter_type (erased.parameter_type k) ≡ erased.parameter_type k
twice_parameter_type y.no_kind = refl
twice_parameter_type (y.var_kind place) = refl
twice_parameter_type (y.final_kind place x) = refl
twice_parameter_type (y.const_kind place x) = refl
twice_parameter_type (y.typed_kind x) = refl

mutual
  unfolding erased.primary erased.loop erased.expr erased.operand erased.selector erased.value erased.parameter_kind erased.stmt erased.body erased.arguments erased.parameters erased.parameter erased.annotation erased.variables erased.function erased.block erased.tails erased.pieces erased.selectors erased.cascades erased.items erased.entries erased.parameter_list erased.metadata erased.stmts erased.more_variables erased.switch_parts erased.try_parts

  pub twice_expr : (x : t.Expr) → erased.expr (erased.expr x) ≡ erased.expr x
  twice_expr (t.assign target operator given) = ap (λ z. t.assign z operator (erased.expr (erased.expr given))) (twice_operand target) ∙ ap (λ z. t.assign (erased.operand target) operator z) (twice_expr given)
  twice_expr (t.plain base more) = ap (λ z. t.plain z (erased.cascades (erased.cascades more))) (twice_operand base) ∙ ap (λ z. t.plain (erased.operand base) z) (twice_cascades more)
  twice_expr (t.throw word given) = ap (λ z. t.throw word z) (twice_expr given)

  pub twice_operand : (x : t.Operand) → erased.operand (erased.operand x) ≡ erased.operand x
  twice_operand (t.conditional condition question first colon second) = ap (λ z. t.conditional z question (erased.expr (erased.expr first)) colon (erased.expr (erased.expr second))) (twice_operand condition) ∙ ap (λ z. t.conditional (erased.operand condition) question z colon (erased.expr (erased.expr second))) (twice_expr first) ∙ ap (λ z. t.conditional (erased.operand condition) question (erased.expr first) colon z) (twice_expr second)
  twice_operand (t.binary first more) = ap (λ z. t.binary z (erased.tails (erased.tails more))) (twice_operand first) ∙ ap (λ z. t.binary (erased.operand first) z) (twice_tails more)
  twice_operand (t.is_type base word bang of) = ap (λ z. t.is_type z word bang of) (twice_operand base)
  twice_operand (t.as_type base word of) = ap (λ z. t.as_type z word of) (twice_operand base)
  twice_operand (t.prefix operator base) = ap (λ z. t.prefix operator z) (twice_operand base)
  twice_operand (t.postfix base more operator) = ap (λ z. t.postfix z (erased.selectors (erased.selectors more)) operator) (twice_primary base) ∙ ap (λ z. t.postfix (erased.primary base) z operator) (twice_selectors more)
  twice_operand (t.primary base) = ap (λ z. t.primary z) (twice_primary base)

  pub twice_primary : (x : t.Primary) → erased.primary (erased.primary x) ≡ erased.primary x
  twice_primary (t.super_access word next) = ap (λ z. t.super_access word z) (twice_selector next)
  twice_primary (t.bare_super word) = refl
  twice_primary (t.atom atom) = refl
  twice_primary (t.text all) = ap (λ z. t.text z) (twice_pieces all)
  twice_primary (t.list_literal types opening all comma closing) = ap (λ z. t.list_literal types opening z comma closing) (twice_items all)
  twice_primary (t.map_literal types opening all comma closing) = ap (λ z. t.map_literal types opening z comma closing) (twice_entries all)
  twice_primary (t.new_object creation class constructor given) = ap (λ z. t.new_object creation class constructor z) (twice_arguments given)
  twice_primary (t.function_literal given inner) = ap (λ z. t.function_literal z (erased.body (erased.body inner))) (twice_parameters given) ∙ ap (λ z. t.function_literal (erased.parameters given) z) (twice_body inner)
  twice_primary (t.parenthesized opening given closing) = ap (λ z. t.parenthesized opening z closing) (twice_expr given)

  pub twice_selector : (x : t.Selector) → erased.selector (erased.selector x) ≡ erased.selector x
  twice_selector (t.member dot name) = refl
  twice_selector (t.index opening given closing) = ap (λ z. t.index opening z closing) (twice_expr given)
  twice_selector (t.call given) = ap (λ z. t.call z) (twice_arguments given)

  pub twice_value : (x : t.Value) → erased.value (erased.value x) ≡ erased.value x
  twice_value t.omitted = refl
  twice_value (t.given operator given) = ap (λ z. t.given operator z) (twice_expr given)

  pub twice_parameter_kind : (x : t.ParameterKind) → erased.parameter_kind (erased.parameter_kind x) ≡ erased.parameter_kind x
  twice_parameter_kind (t.plain_parameter kind this_dot name) = ap (λ z. t.plain_parameter z this_dot name) (twice_parameter_type kind)
  twice_parameter_kind (t.function_parameter result_type this_dot name given) = refl

  pub twice_stmt : (x : t.Stmt) → erased.stmt (erased.stmt x) ≡ erased.stmt x
  twice_stmt (t.labelled label statement) = ap (λ z. t.labelled label z) (twice_stmt statement)
  twice_stmt (t.block_stmt inside) = ap (λ z. t.block_stmt z) (twice_block inside)
  twice_stmt (t.variables_stmt declared) = ap (λ z. t.variables_stmt z) (twice_variables declared)
  twice_stmt (t.function_stmt made) = ap (λ z. t.function_stmt z) (twice_function made)
  twice_stmt (t.if_stmt word opening condition closing first) = ap (λ z. t.if_stmt word opening z closing (erased.stmt (erased.stmt first))) (twice_expr condition) ∙ ap (λ z. t.if_stmt word opening (erased.expr condition) closing z) (twice_stmt first)
  twice_stmt (t.if_else word opening condition closing first other second) = ap (λ z. t.if_else word opening z closing (erased.stmt (erased.stmt first)) other (erased.stmt (erased.stmt second))) (twice_expr condition) ∙ ap (λ z. t.if_else word opening (erased.expr condition) closing z other (erased.stmt (erased.stmt second))) (twice_stmt first) ∙ ap (λ z. t.if_else word opening (erased.expr condition) closing (erased.stmt first) other z) (twice_stmt second)
  twice_stmt (t.loop again) = ap (λ z. t.loop z) (twice_loop again)
  twice_stmt (t.switch_stmt word opening given closing left parts right) = ap (λ z. t.switch_stmt word opening z closing left (erased.switch_parts (erased.switch_parts parts)) right) (twice_expr given) ∙ ap (λ z. t.switch_stmt word opening (erased.expr given) closing left z right) (twice_switch_parts parts)
  twice_stmt (t.try_stmt word inside parts) = ap (λ z. t.try_stmt word z (erased.try_parts (erased.try_parts parts))) (twice_block inside) ∙ ap (λ z. t.try_stmt word (erased.block inside) z) (twice_try_parts parts)
  twice_stmt (t.return_stmt word term semicolon) = ap (λ z. t.return_stmt word z semicolon) (twice_value term)
  twice_stmt (t.jump jump) = refl
  twice_stmt (t.expression_stmt term semicolon) = ap (λ z. t.expression_stmt z semicolon) (twice_value term)

  pub twice_loop : (x : t.Loop) → erased.loop (erased.loop x) ≡ erased.loop x
  twice_loop (t.for_loop word opening start first_semicolon condition semicolon updates closing inner) = ap (λ z. t.for_loop word opening z first_semicolon (erased.value (erased.value condition)) semicolon (erased.items (erased.items updates)) closing (erased.stmt (erased.stmt inner))) (twice_value start) ∙ ap (λ z. t.for_loop word opening (erased.value start) first_semicolon z semicolon (erased.items (erased.items updates)) closing (erased.stmt (erased.stmt inner))) (twice_value condition) ∙ ap (λ z. t.for_loop word opening (erased.value start) first_semicolon (erased.value condition) semicolon z closing (erased.stmt (erased.stmt inner))) (twice_items updates) ∙ ap (λ z. t.for_loop word opening (erased.value start) first_semicolon (erased.value condition) semicolon (erased.items updates) closing z) (twice_stmt inner)
  twice_loop (t.for_variables word opening declared condition semicolon updates closing inner) = ap (λ z. t.for_variables word opening z (erased.value (erased.value condition)) semicolon (erased.items (erased.items updates)) closing (erased.stmt (erased.stmt inner))) (twice_variables declared) ∙ ap (λ z. t.for_variables word opening (erased.variables declared) z semicolon (erased.items (erased.items updates)) closing (erased.stmt (erased.stmt inner))) (twice_value condition) ∙ ap (λ z. t.for_variables word opening (erased.variables declared) (erased.value condition) semicolon z closing (erased.stmt (erased.stmt inner))) (twice_items updates) ∙ ap (λ z. t.for_variables word opening (erased.variables declared) (erased.value condition) semicolon (erased.items updates) closing z) (twice_stmt inner)
  twice_loop (t.for_in word opening kind name inside iterated closing inner) = ap (λ z. t.for_in word opening z name inside (erased.expr (erased.expr iterated)) closing (erased.stmt (erased.stmt inner))) (twice_kind name kind) ∙ ap (λ z. t.for_in word opening (erased.variable_kind name kind) name inside z closing (erased.stmt (erased.stmt inner))) (twice_expr iterated) ∙ ap (λ z. t.for_in word opening (erased.variable_kind name kind) name inside (erased.expr iterated) closing z) (twice_stmt inner)
  twice_loop (t.while_loop word opening condition closing inner) = ap (λ z. t.while_loop word opening z closing (erased.stmt (erased.stmt inner))) (twice_expr condition) ∙ ap (λ z. t.while_loop word opening (erased.expr condition) closing z) (twice_stmt inner)
  twice_loop (t.do_loop word inner again opening condition closing semicolon) = ap (λ z. t.do_loop word z again opening (erased.expr (erased.expr condition)) closing semicolon) (twice_stmt inner) ∙ ap (λ z. t.do_loop word (erased.stmt inner) again opening z closing semicolon) (twice_expr condition)

  pub twice_body : (x : t.Body) → erased.body (erased.body x) ≡ erased.body x
  twice_body (t.arrow_body arrow given semicolon) = ap (λ z. t.arrow_body arrow z semicolon) (twice_expr given)
  twice_body (t.block_body inside) = ap (λ z. t.block_body z) (twice_block inside)
  twice_body (t.no_body semicolon) = refl

  pub twice_arguments : (x : t.Arguments) → erased.arguments (erased.arguments x) ≡ erased.arguments x
  twice_arguments (t.the_arguments opening all closing) = ap (λ z. t.the_arguments opening z closing) (twice_items all)

  pub twice_parameters : (x : t.Parameters) → erased.parameters (erased.parameters x) ≡ erased.parameters x
  twice_parameters (t.the_parameters opening required brackets optional closing) = ap (λ z. t.the_parameters opening z brackets (erased.parameter_list (erased.parameter_list optional)) closing) (twice_parameter_list required) ∙ ap (λ z. t.the_parameters opening (erased.parameter_list required) brackets z closing) (twice_parameter_list optional)

  pub twice_parameter : (x : t.Parameter) → erased.parameter (erased.parameter x) ≡ erased.parameter x
  twice_parameter (t.the_parameter comma annotations kind term) = ap (λ z. t.the_parameter comma z (erased.parameter_kind (erased.parameter_kind kind)) (erased.value (erased.value term))) (twice_metadata annotations) ∙ ap (λ z. t.the_parameter comma (erased.metadata annotations) z (erased.value (erased.value term))) (twice_parameter_kind kind) ∙ ap (λ z. t.the_parameter comma (erased.metadata annotations) (erased.parameter_kind kind) z) (twice_value term)

  pub twice_annotation : (x : t.Annotation) → erased.annotation (erased.annotation x) ≡ erased.annotation x
  twice_annotation (t.the_annotation at name more call all) = ap (λ z. t.the_annotation at name more call z) (twice_items all)

  pub twice_variables : (x : t.Variables) → erased.variables (erased.variables x) ≡ erased.variables x
  twice_variables (t.the_variables kind name term more semicolon) = ap (λ z. t.the_variables z name (erased.value (erased.value term)) (erased.more_variables (erased.more_variables more)) semicolon) (twice_kind name kind) ∙ ap (λ z. t.the_variables (erased.variable_kind name kind) name z (erased.more_variables (erased.more_variables more)) semicolon) (twice_value term) ∙ ap (λ z. t.the_variables (erased.variable_kind name kind) name (erased.value term) z semicolon) (twice_more_variables more)

  pub twice_function : (x : t.Function) → erased.function (erased.function x) ≡ erased.function x
  twice_function (t.the_function external result_type name given inner) = ap (λ z. t.the_function external None name z (erased.body (erased.body inner))) (twice_parameters given) ∙ ap (λ z. t.the_function external None name (erased.parameters given) z) (twice_body inner)

  pub twice_block : (x : t.Block) → erased.block (erased.block x) ≡ erased.block x
  twice_block (t.the_block opening statements closing) = ap (λ z. t.the_block opening z closing) (twice_stmts statements)

  pub twice_tails : (x : t.Tails) → erased.tails (erased.tails x) ≡ erased.tails x
  twice_tails t.no_tails = refl
  twice_tails (t.tail operator base rest) = ap (λ z. t.tail operator z (erased.tails (erased.tails rest))) (twice_operand base) ∙ ap (λ z. t.tail operator (erased.operand base) z) (twice_tails rest)

  pub twice_pieces : (x : t.Pieces) → erased.pieces (erased.pieces x) ≡ erased.pieces x
  twice_pieces t.no_pieces = refl
  twice_pieces (t.piece kind place text term rest) = ap (λ z. t.piece kind place text z (erased.pieces (erased.pieces rest))) (twice_value term) ∙ ap (λ z. t.piece kind place text (erased.value term) z) (twice_pieces rest)

  pub twice_selectors : (x : t.Selectors) → erased.selectors (erased.selectors x) ≡ erased.selectors x
  twice_selectors t.no_selectors = refl
  twice_selectors (t.selector x rest) = ap (λ z. t.selector z (erased.selectors (erased.selectors rest))) (twice_selector x) ∙ ap (λ z. t.selector (erased.selector x) z) (twice_selectors rest)

  pub twice_cascades : (x : t.Cascades) → erased.cascades (erased.cascades x) ≡ erased.cascades x
  twice_cascades t.no_cascades = refl
  twice_cascades (t.cascade dots more term rest) = ap (λ z. t.cascade dots z (erased.value (erased.value term)) (erased.cascades (erased.cascades rest))) (twice_selectors more) ∙ ap (λ z. t.cascade dots (erased.selectors more) z (erased.cascades (erased.cascades rest))) (twice_value term) ∙ ap (λ z. t.cascade dots (erased.selectors more) (erased.value term) z) (twice_cascades rest)

  pub twice_items : (x : t.Items) → erased.items (erased.items x) ≡ erased.items x
  twice_items t.no_items = refl
  twice_items (t.item comma label given rest) = ap (λ z. t.item comma label z (erased.items (erased.items rest))) (twice_expr given) ∙ ap (λ z. t.item comma label (erased.expr given) z) (twice_items rest)

  pub twice_entries : (x : t.Entries) → erased.entries (erased.entries x) ≡ erased.entries x
  twice_entries t.no_entries = refl
  twice_entries (t.entry comma key colon given rest) = ap (λ z. t.entry comma z colon (erased.expr (erased.expr given)) (erased.entries (erased.entries rest))) (twice_expr key) ∙ ap (λ z. t.entry comma (erased.expr key) colon z (erased.entries (erased.entries rest))) (twice_expr given) ∙ ap (λ z. t.entry comma (erased.expr key) colon (erased.expr given) z) (twice_entries rest)

  pub twice_parameter_list : (x : t.ParameterList) → erased.parameter_list (erased.parameter_list x) ≡ erased.parameter_list x
  twice_parameter_list t.no_parameters = refl
  twice_parameter_list (t.parameter x rest) = ap (λ z. t.parameter z (erased.parameter_list (erased.parameter_list rest))) (twice_parameter x) ∙ ap (λ z. t.parameter (erased.parameter x) z) (twice_parameter_list rest)

  pub twice_metadata : (x : t.Metadata) → erased.metadata (erased.metadata x) ≡ erased.metadata x
  twice_metadata t.no_metadata = refl
  twice_metadata (t.annotation x rest) = ap (λ z. t.annotation z (erased.metadata (erased.metadata rest))) (twice_annotation x) ∙ ap (λ z. t.annotation (erased.annotation x) z) (twice_metadata rest)

  pub twice_stmts : (x : t.Stmts) → erased.stmts (erased.stmts x) ≡ erased.stmts x
  twice_stmts t.no_stmts = refl
  twice_stmts (t.stmt x rest) = ap (λ z. t.stmt z (erased.stmts (erased.stmts rest))) (twice_stmt x) ∙ ap (λ z. t.stmt (erased.stmt x) z) (twice_stmts rest)

  pub twice_more_variables : (x : t.MoreVariables) → erased.more_variables (erased.more_variables x) ≡ erased.more_variables x
  twice_more_variables t.no_variables = refl
  twice_more_variables (t.variable comma name term rest) = ap (λ z. t.variable comma name z (erased.more_variables (erased.more_variables rest))) (twice_value term) ∙ ap (λ z. t.variable comma name (erased.value term) z) (twice_more_variables rest)

  pub twice_switch_parts : (x : t.SwitchParts) → erased.switch_parts (erased.switch_parts x) ≡ erased.switch_parts x
  twice_switch_parts t.no_switch_parts = refl
  twice_switch_parts (t.switch_part labels word term colon statements rest) = ap (λ z. t.switch_part labels word z colon (erased.stmts (erased.stmts statements)) (erased.switch_parts (erased.switch_parts rest))) (twice_value term) ∙ ap (λ z. t.switch_part labels word (erased.value term) colon z (erased.switch_parts (erased.switch_parts rest))) (twice_stmts statements) ∙ ap (λ z. t.switch_part labels word (erased.value term) colon (erased.stmts statements) z) (twice_switch_parts rest)

  pub twice_try_parts : (x : t.TryParts) → erased.try_parts (erased.try_parts x) ≡ erased.try_parts x
  twice_try_parts t.no_try_parts = refl
  twice_try_parts (t.try_part kind inside rest) = ap (λ z. t.try_part kind z (erased.try_parts (erased.try_parts rest))) (twice_block inside) ∙ ap (λ z. t.try_part kind (erased.block inside) z) (twice_try_parts rest)

twice_all : {A : Type 0} (f : A → A) → ((x : A) → f (f x) ≡ f x) → (xs : List A) → map f (map f xs) ≡ map f xs
twice_all f each [] = refl
twice_all f each (x ∷ xs) = ap (λ z. z ∷ map f (map f xs)) (each x) ∙ ap (λ z. f x ∷ z) (twice_all f each xs)

twice_maybe : {A : Type 0} (f : A → A) → ((x : A) → f (f x) ≡ f x) → (x : Option A) → maybe f (maybe f x) ≡ maybe f x
twice_maybe f each None = refl
twice_maybe f each (Some x) = ap (λ z. Some z) (each x)

twice_type_parameter : (x : u.TypeParameter) → of_unit.type_parameter (of_unit.type_parameter x) ≡ of_unit.type_parameter x
twice_type_parameter x = ap (λ (z : t.Metadata). let r : u.TypeParameter = record { comma = x.comma; metadata = z; name = x.name; bound = x.bound } in r) (twice_metadata x.metadata)

twice_type_parameters : (x : u.TypeParameters) → of_unit.type_parameters (of_unit.type_parameters x) ≡ of_unit.type_parameters x
twice_type_parameters x = ap (λ (z : List u.TypeParameter). let r : u.TypeParameters = record { opening = x.opening; items = z; closing = x.closing } in r) (twice_all of_unit.type_parameter twice_type_parameter x.items)

twice_init_kind : (x : u.InitKind) → of_unit.init_kind (of_unit.init_kind x) ≡ of_unit.init_kind x
twice_init_kind (u.super_init place name given) = ap (u.super_init place name) (twice_arguments given)
twice_init_kind (u.field_init this_dot name equals first cascades) = ap (λ z. u.field_init this_dot name equals z (erased.cascades (erased.cascades cascades))) (twice_operand first) ∙ ap (u.field_init this_dot name equals (erased.operand first)) (twice_cascades cascades)

twice_init : (x : u.Init) → of_unit.init (of_unit.init x) ≡ of_unit.init x
twice_init x = ap (λ (z : u.InitKind). let r : u.Init = record { comma = x.comma; kind = z } in r) (twice_init_kind x.kind)

twice_initializers : (x : u.Initializers) → of_unit.initializers (of_unit.initializers x) ≡ of_unit.initializers x
twice_initializers x = ap (λ (z : List u.Init). let r : u.Initializers = record { colon = x.colon; items = z } in r) (twice_all of_unit.init twice_init x.items)

twice_constructor : (x : u.Constructor) → of_unit.constructor (of_unit.constructor x) ≡ of_unit.constructor x
twice_constructor (u.generative constant name given inits body) = ap (λ z. u.generative constant name z (maybe of_unit.initializers (maybe of_unit.initializers inits)) (erased.body (erased.body body))) (twice_parameters given) ∙ ap (λ z. u.generative constant name (erased.parameters given) z (erased.body (erased.body body))) (twice_maybe of_unit.initializers twice_initializers inits) ∙ ap (u.generative constant name (erased.parameters given) (maybe of_unit.initializers inits)) (twice_body body)
twice_constructor (u.redirecting name given colon this other handed semicolon) = ap (λ z. u.redirecting name z colon this other (erased.arguments (erased.arguments handed)) semicolon) (twice_parameters given) ∙ ap (λ z. u.redirecting name (erased.parameters given) colon this other z semicolon) (twice_arguments handed)
twice_constructor (u.factory external word name given body) = ap (λ z. u.factory external word name z (erased.body (erased.body body))) (twice_parameters given) ∙ ap (u.factory external word name (erased.parameters given)) (twice_body body)
twice_constructor (u.redirecting_factory external word name given equals target other semicolon) = ap (λ z. u.redirecting_factory external word name z equals target other semicolon) (twice_parameters given)

twice_accessor_kind : (x : u.AccessorKind) → of_unit.accessor_kind (of_unit.accessor_kind x) ≡ of_unit.accessor_kind x
twice_accessor_kind (u.getter place name) = refl
twice_accessor_kind (u.setter place name given) = ap (u.setter place name) (twice_parameters given)

twice_accessor : (x : u.Accessor) → of_unit.accessor (of_unit.accessor x) ≡ of_unit.accessor x
twice_accessor x = ap (λ (z : u.AccessorKind). let r : u.Accessor = record { external = x.external; result_type = None; kind = z; body = erased.body (erased.body x.body) } in r) (twice_accessor_kind x.kind) ∙ ap (λ (z : t.Body). let r : u.Accessor = record { external = x.external; result_type = None; kind = of_unit.accessor_kind x.kind; body = z } in r) (twice_body x.body)

twice_operator_member : (x : u.OperatorMember) → of_unit.operator_member (of_unit.operator_member x) ≡ of_unit.operator_member x
twice_operator_member x = ap (λ (z : t.Parameters). let r : u.OperatorMember = record { external = x.external; result_type = None; word = x.word; name = x.name; parameters = z; body = erased.body (erased.body x.body) } in r) (twice_parameters x.parameters) ∙ ap (λ (z : t.Body). let r : u.OperatorMember = record { external = x.external; result_type = None; word = x.word; name = x.name; parameters = erased.parameters x.parameters; body = z } in r) (twice_body x.body)

twice_member_kind : (x : u.MemberKind) → of_unit.member_kind (of_unit.member_kind x) ≡ of_unit.member_kind x
twice_member_kind (u.constructor_member x) = ap u.constructor_member (twice_constructor x)
twice_member_kind (u.function_member x) = ap u.function_member (twice_function x)
twice_member_kind (u.accessor_member x) = ap u.accessor_member (twice_accessor x)
twice_member_kind (u.variables_member x) = ap u.variables_member (twice_variables x)
twice_member_kind (u.operator_member x) = ap u.operator_member (twice_operator_member x)

pub twice_member : (x : u.Member) → of_unit.member (of_unit.member x) ≡ of_unit.member x
twice_member x = ap (λ (z : t.Metadata). let r : u.Member = record { metadata = z; modifier = x.modifier; kind = of_unit.member_kind (of_unit.member_kind x.kind) } in r) (twice_metadata x.metadata) ∙ ap (λ (z : u.MemberKind). let r : u.Member = record { metadata = erased.metadata x.metadata; modifier = x.modifier; kind = z } in r) (twice_member_kind x.kind)

twice_class_kind : (x : u.ClassKind) → of_unit.class_kind (of_unit.class_kind x) ≡ of_unit.class_kind x
twice_class_kind (u.declared_class above interfaces opening members closing) = ap (λ z. u.declared_class above interfaces opening z closing) (twice_all of_unit.member twice_member members)
twice_class_kind (u.mixed_class equals above mixins interfaces semicolon) = refl

twice_class : (x : u.Class) → of_unit.class (of_unit.class x) ≡ of_unit.class x
twice_class x = ap (λ (z : Option u.TypeParameters). let r : u.Class = record { abstracted = x.abstracted; word = x.word; name = x.name; parameters = z; kind = of_unit.class_kind (of_unit.class_kind x.kind) } in r) (twice_maybe of_unit.type_parameters twice_type_parameters x.parameters) ∙ ap (λ (z : u.ClassKind). let r : u.Class = record { abstracted = x.abstracted; word = x.word; name = x.name; parameters = maybe of_unit.type_parameters x.parameters; kind = z } in r) (twice_class_kind x.kind)

twice_alias : (x : u.Alias) → of_unit.alias (of_unit.alias x) ≡ of_unit.alias x
twice_alias x = ap (λ (z : Option u.TypeParameters). let r : u.Alias = record { word = x.word; result_type = None; name = x.name; type_parameters = z; parameters = erased.parameters (erased.parameters x.parameters); semicolon = x.semicolon } in r) (twice_maybe of_unit.type_parameters twice_type_parameters x.type_parameters) ∙ ap (λ (z : t.Parameters). let r : u.Alias = record { word = x.word; result_type = None; name = x.name; type_parameters = maybe of_unit.type_parameters x.type_parameters; parameters = z; semicolon = x.semicolon } in r) (twice_parameters x.parameters)

twice_decl_kind : (x : u.DeclKind) → of_unit.decl_kind (of_unit.decl_kind x) ≡ of_unit.decl_kind x
twice_decl_kind (u.class_decl x) = ap u.class_decl (twice_class x)
twice_decl_kind (u.alias_decl x) = ap u.alias_decl (twice_alias x)
twice_decl_kind (u.function_decl x) = ap u.function_decl (twice_function x)
twice_decl_kind (u.accessor_decl x) = ap u.accessor_decl (twice_accessor x)
twice_decl_kind (u.variables_decl x) = ap u.variables_decl (twice_variables x)
twice_decl_kind (u.enum_decl x) = refl

twice_decl : (x : u.Decl) → of_unit.decl (of_unit.decl x) ≡ of_unit.decl x
twice_decl x = ap (λ (z : t.Metadata). let r : u.Decl = record { metadata = z; kind = of_unit.decl_kind (of_unit.decl_kind x.kind) } in r) (twice_metadata x.metadata) ∙ ap (λ (z : u.DeclKind). let r : u.Decl = record { metadata = erased.metadata x.metadata; kind = z } in r) (twice_decl_kind x.kind)

twice_directive_kind : (x : u.DirectiveKind) → of_unit.directive_kind (of_unit.directive_kind x) ≡ of_unit.directive_kind x
twice_directive_kind (u.part_of_directive part of name more) = refl
twice_directive_kind (u.library_directive word name more) = refl
twice_directive_kind (u.import_directive word uri prefix combinators) = ap (λ z. u.import_directive word z prefix combinators) (twice_pieces uri)
twice_directive_kind (u.export_directive word uri combinators) = ap (λ z. u.export_directive word z combinators) (twice_pieces uri)
twice_directive_kind (u.part_directive word uri) = ap (u.part_directive word) (twice_pieces uri)

twice_directive : (x : u.Directive) → of_unit.directive (of_unit.directive x) ≡ of_unit.directive x
twice_directive x = ap (λ (z : t.Metadata). let r : u.Directive = record { metadata = z; kind = of_unit.directive_kind (of_unit.directive_kind x.kind); semicolon = x.semicolon } in r) (twice_metadata x.metadata) ∙ ap (λ (z : u.DirectiveKind). let r : u.Directive = record { metadata = erased.metadata x.metadata; kind = z; semicolon = x.semicolon } in r) (twice_directive_kind x.kind)

pub twice_unit : (x : u.UnitTree) → of_unit.unit (of_unit.unit x) ≡ of_unit.unit x
twice_unit x = ap (λ (z : List u.Directive). let r : u.UnitTree = record { directives = z; declarations = map of_unit.decl (map of_unit.decl x.declarations) } in r) (twice_all of_unit.directive twice_directive x.directives) ∙ ap (λ (z : List u.Decl). let r : u.UnitTree = record { directives = map of_unit.directive x.directives; declarations = z } in r) (twice_all of_unit.decl twice_decl x.declarations)
