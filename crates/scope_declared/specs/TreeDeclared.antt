-- What expressions, statements and functions declare, in the order of their tokens, and where it counts (6.1 Scoping).
use Rattle.std.specs.Prelude.{ℕ, List, [], ◌∷◌, ◌++◌}
use Rattle.dart_base.specs.declared.place.Place.{Place}
use Rattle.dart_tree.specs.Tree as t
use Rattle.scope_declared.specs.declared.declaration.Scope.{Scope}
use Rattle.scope_declared.specs.declared.declaration.Extent.{Extent}
use Rattle.scope_declared.specs.declared.declaration.DeclaredKind.TheVariants as k
use Rattle.scope_declared.specs.declared.declaration.Declared.{Declared}
use Rattle.scope_declared.specs.Last.{identifier_place, value_last, body_last, block_last, stmt_last, stmts_last}
use Rattle.scope_declared.specs.Making.{behind, of_identifier, of_literal, formal_declared, for_in_declared, catch_declared}

-- the scope of what ends with a statement
abbrev pub scope_to : Place → t.Stmt → Scope
scope_to place x = record { place = place; last = stmt_last x }

abbrev pub parameters_place : t.Parameters → Place
parameters_place (t.the_parameters opening required brackets optional closing) = opening

module _ (number : List ℕ → ℕ) where
  unfoldable mutual
    pub expr_declares : t.Expr → List Declared
    expr_declares (t.assign target operator value) = operand_declares target ++ expr_declares value
    expr_declares (t.plain operand cascades) = operand_declares operand ++ cascades_declares cascades
    expr_declares (t.throw word value) = expr_declares value

    pub operand_declares : t.Operand → List Declared
    operand_declares (t.conditional condition question first colon second) =
        operand_declares condition ++ (expr_declares first ++ expr_declares second)
    operand_declares (t.binary first more) = operand_declares first ++ tails_declares more
    operand_declares (t.is_type operand word bang of) = operand_declares operand
    operand_declares (t.as_type operand word of) = operand_declares operand
    operand_declares (t.prefix operator operand) = operand_declares operand
    operand_declares (t.postfix operand selectors operator) =
        primary_declares operand ++ selectors_declares selectors
    operand_declares (t.primary operand) = primary_declares operand

    pub primary_declares : t.Primary → List Declared
    primary_declares (t.super_access word selector) = selector_declares selector
    primary_declares (t.bare_super word) = []
    primary_declares (t.atom atom) = []
    primary_declares (t.text pieces) = pieces_declares pieces
    primary_declares (t.list_literal types opening items comma closing) = items_declares items
    primary_declares (t.map_literal types opening entries comma closing) = entries_declares entries
    primary_declares (t.new_object creation class constructor arguments) =
        arguments_declares arguments
    primary_declares (t.function_literal parameters body) =
        of_literal (parameters_place parameters) ∷
        (parameters_declares (body_last body) parameters ++ body_declares body)
    primary_declares (t.parenthesized opening value closing) = expr_declares value

    pub selector_declares : t.Selector → List Declared
    selector_declares (t.member dot name) = []
    selector_declares (t.index opening value closing) = expr_declares value
    selector_declares (t.call arguments) = arguments_declares arguments

    pub value_declares : t.Value → List Declared
    value_declares t.omitted = []
    value_declares (t.given operator value) = expr_declares value

    pub arguments_declares : t.Arguments → List Declared
    arguments_declares (t.the_arguments opening items closing) = items_declares items

    -- a parameter counts behind the parameters, to the end of the function; what is declared in the parameters of a
    -- parameter or in metadata is no part of the unit
    pub parameters_declares : Place → t.Parameters → List Declared
    parameters_declares last (t.the_parameters opening required brackets optional closing) =
        parameter_list_declares (record { scope = opening; after = closing; last = last }) required ++
        parameter_list_declares (record { scope = opening; after = closing; last = last }) optional

    pub body_declares : t.Body → List Declared
    body_declares (t.arrow_body arrow value semicolon) = expr_declares value
    body_declares (t.block_body block) = block_declares block
    body_declares (t.no_body semicolon) = []

    pub block_declares : t.Block → List Declared
    block_declares (t.the_block opening statements closing) =
        stmts_declares (record { place = opening; last = closing }) statements

    pub stmt_declares : Scope → t.Stmt → List Declared
    stmt_declares scope (t.labelled label statement) = stmt_declares scope statement
    stmt_declares scope (t.block_stmt block) = block_declares block
    stmt_declares scope (t.variables_stmt variables) = variables_declares scope variables
    stmt_declares scope (t.function_stmt function) = local_function_declares scope function
    stmt_declares scope (t.if_stmt word opening condition closing first) =
        expr_declares condition ++ stmt_declares (scope_to closing first) first
    stmt_declares scope (t.if_else word opening condition closing first other second) =
        expr_declares condition ++ (stmt_declares (scope_to closing first) first ++
        stmt_declares (scope_to other second) second)
    stmt_declares scope (t.loop loop) = loop_declares loop
    stmt_declares scope (t.switch_stmt word opening value closing left parts right) =
        expr_declares value ++ switch_parts_declares parts
    stmt_declares scope (t.try_stmt word block parts) =
        block_declares block ++ try_parts_declares parts
    stmt_declares scope (t.return_stmt word value semicolon) = value_declares value
    stmt_declares scope (t.jump jump) = []
    stmt_declares scope (t.expression_stmt value semicolon) = value_declares value

    -- the variables of a loop are in a scope of their own, and so is its body
    pub loop_declares : t.Loop → List Declared
    loop_declares (t.for_loop word opening start first condition second updates closing body) =
        value_declares start ++ (value_declares condition ++ (items_declares updates ++
        stmt_declares (scope_to closing body) body))
    loop_declares (t.for_variables word opening variables condition semicolon updates closing body) =
        variables_declares (scope_to opening body) variables ++ (value_declares condition ++
        (items_declares updates ++ stmt_declares (scope_to closing body) body))
    loop_declares (t.for_in word opening kind name inside iterated closing body) =
        for_in_declared number (behind closing (scope_to opening body)) kind name ++
        (expr_declares iterated ++ stmt_declares (scope_to closing body) body)
    loop_declares (t.while_loop word opening condition closing body) =
        expr_declares condition ++ stmt_declares (scope_to closing body) body
    loop_declares (t.do_loop word body again opening condition closing semicolon) =
        stmt_declares (scope_to word body) body ++ expr_declares condition

    -- a variable counts behind its initialiser, or behind its name where it has none
    pub variables_declares : Scope → t.Variables → List Declared
    variables_declares scope (t.the_variables kind name value more semicolon) =
        of_identifier number (behind (value_last (identifier_place name) value) scope)
        k.LocalVariable name ∷
        (value_declares value ++ more_variables_declares scope more)

    -- a local function counts from its name on
    pub local_function_declares : Scope → t.Function → List Declared
    local_function_declares scope (t.the_function external result_type name parameters body) =
        of_identifier number (behind (identifier_place name) scope) k.LocalFunction name ∷
        (parameters_declares (body_last body) parameters ++ body_declares body)

    pub tails_declares : t.Tails → List Declared
    tails_declares t.no_tails = []
    tails_declares (t.tail operator operand rest) = operand_declares operand ++ tails_declares rest

    pub pieces_declares : t.Pieces → List Declared
    pieces_declares t.no_pieces = []
    pieces_declares (t.piece kind place text value rest) =
        value_declares value ++ pieces_declares rest

    pub selectors_declares : t.Selectors → List Declared
    selectors_declares t.no_selectors = []
    selectors_declares (t.selector x rest) = selector_declares x ++ selectors_declares rest

    pub cascades_declares : t.Cascades → List Declared
    cascades_declares t.no_cascades = []
    cascades_declares (t.cascade dots selectors value rest) =
        selectors_declares selectors ++ (value_declares value ++ cascades_declares rest)

    pub items_declares : t.Items → List Declared
    items_declares t.no_items = []
    items_declares (t.item comma label value rest) = expr_declares value ++ items_declares rest

    pub entries_declares : t.Entries → List Declared
    entries_declares t.no_entries = []
    entries_declares (t.entry comma key colon value rest) =
        expr_declares key ++ (expr_declares value ++ entries_declares rest)

    pub parameter_list_declares : Extent → t.ParameterList → List Declared
    parameter_list_declares extent t.no_parameters = []
    parameter_list_declares extent (t.parameter (t.the_parameter comma before kind value) rest) =
        formal_declared number extent kind ∷
        (value_declares value ++ parameter_list_declares extent rest)

    pub stmts_declares : Scope → t.Stmts → List Declared
    stmts_declares scope t.no_stmts = []
    stmts_declares scope (t.stmt x rest) = stmt_declares scope x ++ stmts_declares scope rest

    pub more_variables_declares : Scope → t.MoreVariables → List Declared
    more_variables_declares scope t.no_variables = []
    more_variables_declares scope (t.variable comma name value rest) =
        of_identifier number (behind (value_last (identifier_place name) value) scope)
        k.LocalVariable name ∷
        (value_declares value ++ more_variables_declares scope rest)

    pub switch_parts_declares : t.SwitchParts → List Declared
    switch_parts_declares t.no_switch_parts = []
    switch_parts_declares (t.switch_part labels word value colon statements rest) =
        value_declares value ++
        (stmts_declares (record { place = colon; last = stmts_last colon statements }) statements ++
        switch_parts_declares rest)

    -- the variables of a `catch` are in a scope round its block
    pub try_parts_declares : t.TryParts → List Declared
    try_parts_declares t.no_try_parts = []
    try_parts_declares (t.try_part kind block rest) =
        catch_declared number (block_last block) kind ++
        (block_declares block ++ try_parts_declares rest)
