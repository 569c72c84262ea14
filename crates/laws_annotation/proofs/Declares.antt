-- Erasure keeps what expressions, statements and functions declare, and where that counts.
use Rattle.std.proofs.Common.{◌≡◌, refl, ℕ, List, ◌∷◌, ◌++◌}
use Rattle.dart_base.specs.declared.place.Place.{Place}
use Rattle.dart_tree.specs.declared.identifier.Identifier.{Identifier}
use Rattle.dart_tree.specs.Types as y
use Rattle.dart_tree.specs.Tree as t
use Rattle.dart_erase.specs.Erased as erased
use Rattle.scope_declared.specs.declared.declaration.Scope.{Scope}
use Rattle.scope_declared.specs.declared.declaration.Extent.{Extent}
use Rattle.scope_declared.specs.declared.declaration.DeclaredKind.TheVariants as k
use Rattle.scope_declared.specs.Last.{identifier_place}
use Rattle.scope_declared.specs.Making.{behind, of_identifier, of_literal, formal_declared, for_in_declared, catch_declared}
use Rattle.scope_declared.specs.TreeDeclared.{parameters_place, expr_declares, operand_declares, primary_declares, selector_declares, value_declares, arguments_declares, parameters_declares, body_declares, block_declares, stmt_declares, loop_declares, variables_declares, local_function_declares, tails_declares, pieces_declares, selectors_declares, cascades_declares, items_declares, entries_declares, parameter_list_declares, stmts_declares, more_variables_declares, switch_parts_declares, try_parts_declares}
use Rattle.laws_annotation.proofs.Lasts.{value_end, body_end, block_end, stmt_end, stmts_end}

place_same : (x : t.Parameters) → parameters_place (erased.parameters x) ≡ parameters_place x
unfolding erased.parameters
place_same (t.the_parameters opening required brackets optional closing) = refl

module _ (n : List ℕ → ℕ) where
  for_in_same : (extent : Extent) (name : Identifier) (kind : y.VariableKind) → for_in_declared n extent (erased.variable_kind name kind) name ≡ for_in_declared n extent kind name
  for_in_same extent name y.no_kind = refl
  for_in_same extent name (y.var_kind place) = refl
  for_in_same extent name (y.final_kind place of) = refl
  for_in_same extent name (y.const_kind place of) = refl
  for_in_same extent name (y.typed_kind of) = refl

  formal_same : (extent : Extent) (x : t.ParameterKind) → formal_declared n extent (erased.parameter_kind x) ≡ formal_declared n extent x
  unfolding erased.parameter_kind
  formal_same extent (t.plain_parameter kind this_dot name) = refl
  formal_same extent (t.function_parameter result_type this_dot name given) = refl

  mutual
    unfolding erased.expr erased.operand erased.primary erased.selector erased.value erased.stmt erased.loop erased.body erased.arguments erased.parameters erased.parameter erased.variables erased.function erased.block erased.tails erased.pieces erased.selectors erased.cascades erased.items erased.entries erased.parameter_list erased.stmts erased.more_variables erased.switch_parts erased.try_parts expr_declares operand_declares primary_declares selector_declares value_declares arguments_declares parameters_declares body_declares block_declares stmt_declares loop_declares variables_declares local_function_declares tails_declares pieces_declares selectors_declares cascades_declares items_declares entries_declares parameter_list_declares stmts_declares more_variables_declares switch_parts_declares try_parts_declares

    pub expr_same : (x : t.Expr) → expr_declares n (erased.expr x) ≡ expr_declares n x
    expr_same (t.assign target operator given) = λ i. operand_same target i ++ expr_same given i
    expr_same (t.plain base more) = λ i. operand_same base i ++ cascades_same more i
    expr_same (t.throw word given) = expr_same given

    pub operand_same : (x : t.Operand) → operand_declares n (erased.operand x) ≡ operand_declares n x
    operand_same (t.conditional condition question first colon second) = λ i. operand_same condition i ++ (expr_same first i ++ expr_same second i)
    operand_same (t.binary first more) = λ i. operand_same first i ++ tails_same more i
    operand_same (t.is_type base word bang of) = operand_same base
    operand_same (t.as_type base word of) = operand_same base
    operand_same (t.prefix operator base) = operand_same base
    operand_same (t.postfix base more operator) = λ i. primary_same base i ++ selectors_same more i
    operand_same (t.primary base) = primary_same base

    primary_same : (x : t.Primary) → primary_declares n (erased.primary x) ≡ primary_declares n x
    primary_same (t.super_access word next) = selector_same next
    primary_same (t.bare_super word) = refl
    primary_same (t.atom atom) = refl
    primary_same (t.text all) = pieces_same all
    primary_same (t.list_literal types opening all comma closing) = items_same all
    primary_same (t.map_literal types opening all comma closing) = entries_same all
    primary_same (t.new_object creation class constructor given) = arguments_same given
    primary_same (t.function_literal given inner) = λ i. of_literal (place_same given i) ∷ (parameters_same (body_end inner i) given i ++ body_same inner i)
    primary_same (t.parenthesized opening given closing) = expr_same given

    selector_same : (x : t.Selector) → selector_declares n (erased.selector x) ≡ selector_declares n x
    selector_same (t.member dot name) = refl
    selector_same (t.index opening given closing) = expr_same given
    selector_same (t.call given) = arguments_same given

    pub value_same : (x : t.Value) → value_declares n (erased.value x) ≡ value_declares n x
    value_same t.omitted = refl
    value_same (t.given operator given) = expr_same given

    pub arguments_same : (x : t.Arguments) → arguments_declares n (erased.arguments x) ≡ arguments_declares n x
    arguments_same (t.the_arguments opening all closing) = items_same all

    pub parameters_same : (last : Place) (x : t.Parameters) → parameters_declares n last (erased.parameters x) ≡ parameters_declares n last x
    parameters_same last (t.the_parameters opening required brackets optional closing) =
        λ i. parameter_list_same (record { scope = opening; after = closing; last = last }) required i ++
        parameter_list_same (record { scope = opening; after = closing; last = last }) optional i

    pub body_same : (x : t.Body) → body_declares n (erased.body x) ≡ body_declares n x
    body_same (t.arrow_body arrow given semicolon) = expr_same given
    body_same (t.block_body inside) = block_same inside
    body_same (t.no_body semicolon) = refl

    block_same : (x : t.Block) → block_declares n (erased.block x) ≡ block_declares n x
    block_same (t.the_block opening statements closing) = stmts_same (record { place = opening; last = closing }) statements

    stmt_same : (scope : Scope) (x : t.Stmt) → stmt_declares n scope (erased.stmt x) ≡ stmt_declares n scope x
    stmt_same scope (t.labelled label statement) = stmt_same scope statement
    stmt_same scope (t.block_stmt inside) = block_same inside
    stmt_same scope (t.variables_stmt declared) = variables_same scope declared
    stmt_same scope (t.function_stmt made) = local_function_same scope made
    stmt_same scope (t.if_stmt word opening condition closing first) = λ i. expr_same condition i ++ stmt_same (record { place = closing; last = stmt_end first i }) first i
    stmt_same scope (t.if_else word opening condition closing first other second) = λ i. expr_same condition i ++ (stmt_same (record { place = closing; last = stmt_end first i }) first i ++ stmt_same (record { place = other; last = stmt_end second i }) second i)
    stmt_same scope (t.loop again) = loop_same again
    stmt_same scope (t.switch_stmt word opening given closing left parts right) = λ i. expr_same given i ++ switch_parts_same parts i
    stmt_same scope (t.try_stmt word inside parts) = λ i. block_same inside i ++ try_parts_same parts i
    stmt_same scope (t.return_stmt word term semicolon) = value_same term
    stmt_same scope (t.jump jump) = refl
    stmt_same scope (t.expression_stmt term semicolon) = value_same term

    loop_same : (x : t.Loop) → loop_declares n (erased.loop x) ≡ loop_declares n x
    loop_same (t.for_loop word opening start first condition second updates closing inner) =
        λ i. value_same start i ++ (value_same condition i ++ (items_same updates i ++ stmt_same (record { place = closing; last = stmt_end inner i }) inner i))
    loop_same (t.for_variables word opening declared condition semicolon updates closing inner) =
        λ i. variables_same (record { place = opening; last = stmt_end inner i }) declared i ++
        (value_same condition i ++ (items_same updates i ++ stmt_same (record { place = closing; last = stmt_end inner i }) inner i))
    loop_same (t.for_in word opening kind name inside iterated closing inner) =
        λ i. for_in_same (behind closing (record { place = opening; last = stmt_end inner i })) name kind i ++
        (expr_same iterated i ++ stmt_same (record { place = closing; last = stmt_end inner i }) inner i)
    loop_same (t.while_loop word opening condition closing inner) = λ i. expr_same condition i ++ stmt_same (record { place = closing; last = stmt_end inner i }) inner i
    loop_same (t.do_loop word inner again opening condition closing semicolon) = λ i. stmt_same (record { place = word; last = stmt_end inner i }) inner i ++ expr_same condition i

    variables_same : (scope : Scope) (x : t.Variables) → variables_declares n scope (erased.variables x) ≡ variables_declares n scope x
    variables_same scope (t.the_variables kind name term more semicolon) =
        λ i. of_identifier n (behind (value_end (identifier_place name) term i) scope) k.LocalVariable name ∷
        (value_same term i ++ more_variables_same scope more i)

    local_function_same : (scope : Scope) (x : t.Function) → local_function_declares n scope (erased.function x) ≡ local_function_declares n scope x
    local_function_same scope (t.the_function external result_type name given inner) =
        λ i. of_identifier n (behind (identifier_place name) scope) k.LocalFunction name ∷
        (parameters_same (body_end inner i) given i ++ body_same inner i)

    tails_same : (x : t.Tails) → tails_declares n (erased.tails x) ≡ tails_declares n x
    tails_same t.no_tails = refl
    tails_same (t.tail operator base rest) = λ i. operand_same base i ++ tails_same rest i

    pieces_same : (x : t.Pieces) → pieces_declares n (erased.pieces x) ≡ pieces_declares n x
    pieces_same t.no_pieces = refl
    pieces_same (t.piece kind place text term rest) = λ i. value_same term i ++ pieces_same rest i

    selectors_same : (x : t.Selectors) → selectors_declares n (erased.selectors x) ≡ selectors_declares n x
    selectors_same t.no_selectors = refl
    selectors_same (t.selector x rest) = λ i. selector_same x i ++ selectors_same rest i

    pub cascades_same : (x : t.Cascades) → cascades_declares n (erased.cascades x) ≡ cascades_declares n x
    cascades_same t.no_cascades = refl
    cascades_same (t.cascade dots more term rest) = λ i. selectors_same more i ++ (value_same term i ++ cascades_same rest i)

    items_same : (x : t.Items) → items_declares n (erased.items x) ≡ items_declares n x
    items_same t.no_items = refl
    items_same (t.item comma label given rest) = λ i. expr_same given i ++ items_same rest i

    entries_same : (x : t.Entries) → entries_declares n (erased.entries x) ≡ entries_declares n x
    entries_same t.no_entries = refl
    entries_same (t.entry comma key colon given rest) = λ i. expr_same key i ++ (expr_same given i ++ entries_same rest i)

    parameter_list_same : (extent : Extent) (x : t.ParameterList) → parameter_list_declares n extent (erased.parameter_list x) ≡ parameter_list_declares n extent x
    parameter_list_same extent t.no_parameters = refl
    parameter_list_same extent (t.parameter (t.the_parameter comma before kind term) rest) =
        λ i. formal_same extent kind i ∷ (value_same term i ++ parameter_list_same extent rest i)

    stmts_same : (scope : Scope) (x : t.Stmts) → stmts_declares n scope (erased.stmts x) ≡ stmts_declares n scope x
    stmts_same scope t.no_stmts = refl
    stmts_same scope (t.stmt x rest) = λ i. stmt_same scope x i ++ stmts_same scope rest i

    more_variables_same : (scope : Scope) (x : t.MoreVariables) → more_variables_declares n scope (erased.more_variables x) ≡ more_variables_declares n scope x
    more_variables_same scope t.no_variables = refl
    more_variables_same scope (t.variable comma name term rest) =
        λ i. of_identifier n (behind (value_end (identifier_place name) term i) scope) k.LocalVariable name ∷
        (value_same term i ++ more_variables_same scope rest i)

    switch_parts_same : (x : t.SwitchParts) → switch_parts_declares n (erased.switch_parts x) ≡ switch_parts_declares n x
    switch_parts_same t.no_switch_parts = refl
    switch_parts_same (t.switch_part labels word term colon statements rest) =
        λ i. value_same term i ++ (stmts_same (record { place = colon; last = stmts_end colon statements i }) statements i ++ switch_parts_same rest i)

    try_parts_same : (x : t.TryParts) → try_parts_declares n (erased.try_parts x) ≡ try_parts_declares n x
    try_parts_same t.no_try_parts = refl
    try_parts_same (t.try_part kind inside rest) =
        λ i. catch_declared n (block_end inside i) kind ++ (block_same inside i ++ try_parts_same rest i)
