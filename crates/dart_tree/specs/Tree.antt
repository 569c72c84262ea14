-- Expressions, parameters and statements without where they lie in memory.
use Rattle.std.specs.Prelude.{ℕ, List, Option, [], ◌∷◌}
use Rattle.dart_base.specs.declared.place.Place.{Place}
use Rattle.dart_tree.specs.declared.identifier.Identifier.{Identifier}
use Rattle.dart_tree.specs.declared.identifier.DotName.{DotName}
use Rattle.dart_tree.specs.declared.identifier.Label.{Label}
use Rattle.dart_tree.specs.declared.operator.Operator.{Operator}
use Rattle.dart_tree.specs.declared.expression.Atom.{Atom}
use Rattle.dart_tree.specs.declared.expression.Creation.{Creation}
use Rattle.dart_tree.specs.declared.expression.PieceKind.{PieceKind}
use Rattle.dart_tree.specs.declared.parameter.Brackets.{Brackets}
use Rattle.dart_tree.specs.declared.parameter.Parentheses.{Parentheses}
use Rattle.dart_tree.specs.declared.parameter.ThisDot.{ThisDot}
use Rattle.dart_tree.specs.declared.statement.Jump.{Jump}
use Rattle.dart_tree.specs.Types as y

mutual
  pub data Expr : Type 0 where
    assign : Operand → Operator → Expr → Expr
    plain : Operand → Cascades → Expr
    throw : Place → Expr → Expr

  pub data Operand : Type 0 where
    conditional : Operand → Place → Expr → Place → Expr → Operand
    binary : Operand → Tails → Operand
    is_type : Operand → Place → Option Place → y.TypeNode → Operand
    as_type : Operand → Place → y.TypeNode → Operand
    prefix : Operator → Operand → Operand
    postfix : Primary → Selectors → Option Operator → Operand
    primary : Primary → Operand

  pub data Primary : Type 0 where
    super_access : Place → Selector → Primary
    bare_super : Place → Primary
    atom : Atom → Primary
    text : Pieces → Primary
    list_literal : y.TypeArguments → Place → Items → Option Place → Place → Primary
    map_literal : y.TypeArguments → Place → Entries → Option Place → Place → Primary
    new_object : Creation → y.TypeNode → Option DotName → Arguments → Primary
    function_literal : Parameters → Body → Primary
    parenthesized : Place → Expr → Place → Primary

  pub data Selector : Type 0 where
    member : Option Place → Identifier → Selector
    index : Place → Expr → Place → Selector
    call : Arguments → Selector

  pub data Value : Type 0 where
    omitted : Value
    given : Option Operator → Expr → Value

  pub data ParameterKind : Type 0 where
    plain_parameter : y.VariableKind → Option ThisDot → Identifier → ParameterKind
    function_parameter :
        Option y.ResultType → Option ThisDot → Identifier → Parameters → ParameterKind

  pub data Stmt : Type 0 where
    labelled : Label → Stmt → Stmt
    block_stmt : Block → Stmt
    variables_stmt : Variables → Stmt
    function_stmt : Function → Stmt
    if_stmt : Place → Place → Expr → Place → Stmt → Stmt
    if_else : Place → Place → Expr → Place → Stmt → Place → Stmt → Stmt
    loop : Loop → Stmt
    switch_stmt : Place → Place → Expr → Place → Place → SwitchParts → Place → Stmt
    try_stmt : Place → Block → TryParts → Stmt
    return_stmt : Place → Value → Place → Stmt
    jump : Jump → Stmt
    expression_stmt : Value → Place → Stmt

  pub data Loop : Type 0 where
    for_loop : Place → Place → Value → Place → Value → Place → Items → Place → Stmt → Loop
    for_variables : Place → Place → Variables → Value → Place → Items → Place → Stmt → Loop
    for_in : Place → Place → y.VariableKind → Identifier → Place → Expr → Place → Stmt → Loop
    while_loop : Place → Place → Expr → Place → Stmt → Loop
    do_loop : Place → Stmt → Place → Place → Expr → Place → Place → Loop

  pub data Body : Type 0 where
    arrow_body : Place → Expr → Option Place → Body
    block_body : Block → Body
    no_body : Place → Body

  pub data Arguments : Type 0 where
    the_arguments : Place → Items → Place → Arguments

  pub data Parameters : Type 0 where
    the_parameters : Place → ParameterList → Option Brackets → ParameterList → Place → Parameters

  pub data Parameter : Type 0 where
    the_parameter : Option Place → Metadata → ParameterKind → Value → Parameter

  pub data Annotation : Type 0 where
    the_annotation : Place → Identifier → List DotName → Option Parentheses → Items → Annotation

  pub data Variables : Type 0 where
    the_variables : y.VariableKind → Identifier → Value → MoreVariables → Place → Variables

  pub data Function : Type 0 where
    the_function : Option Place → Option y.ResultType → Identifier → Parameters → Body → Function

  pub data Block : Type 0 where
    the_block : Place → Stmts → Place → Block

  pub data Tails : Type 0 where
    no_tails : Tails
    tail : Operator → Operand → Tails → Tails

  pub data Pieces : Type 0 where
    no_pieces : Pieces
    piece : PieceKind → Place → List ℕ → Value → Pieces → Pieces

  pub data Selectors : Type 0 where
    no_selectors : Selectors
    selector : Selector → Selectors → Selectors

  pub data Cascades : Type 0 where
    no_cascades : Cascades
    cascade : Place → Selectors → Value → Cascades → Cascades

  pub data Items : Type 0 where
    no_items : Items
    item : Option Place → Option Label → Expr → Items → Items

  pub data Entries : Type 0 where
    no_entries : Entries
    entry : Option Place → Expr → Place → Expr → Entries → Entries

  pub data ParameterList : Type 0 where
    no_parameters : ParameterList
    parameter : Parameter → ParameterList → ParameterList

  pub data Metadata : Type 0 where
    no_metadata : Metadata
    annotation : Annotation → Metadata → Metadata

  pub data Stmts : Type 0 where
    no_stmts : Stmts
    stmt : Stmt → Stmts → Stmts

  pub data MoreVariables : Type 0 where
    no_variables : MoreVariables
    variable : Place → Identifier → Value → MoreVariables → MoreVariables

  pub data SwitchParts : Type 0 where
    no_switch_parts : SwitchParts
    switch_part : List Label → Place → Value → Place → Stmts → SwitchParts → SwitchParts

  pub data TryParts : Type 0 where
    no_try_parts : TryParts
    try_part : y.TryKind → Block → TryParts → TryParts

-- the statement behind its labels (17.13 Labels)
abbrev pub with_labels : List Label → Stmt → Stmt
with_labels [] inner = inner
with_labels (x ∷ more) inner = labelled x (with_labels more inner)
