-- Parameters, functions, variables and statements, over the nodes that stand inside.
use Rattle.std.specs.Prelude.{ℕ, zero, suc, Bool, true, false, List, [], ◌∷◌, Option, None, Some}
use Rattle.dart_base.specs.declared.place.Place.{Place}
use Rattle.dart_token.specs.declared.sign.Sign.{Sign}
use Rattle.dart_token.specs.declared.sign.Sign.TheVariants as s
use Rattle.dart_token.specs.declared.word.Word.TheVariants as w
use Rattle.dart_tree.specs.declared.identifier.Identifier.{Identifier}
use Rattle.dart_tree.specs.declared.identifier.DotName.{DotName}
use Rattle.dart_tree.specs.declared.identifier.Label.{Label}
use Rattle.dart_tree.specs.declared.parameter.BracketKind.{BracketKind}
use Rattle.dart_tree.specs.declared.parameter.BracketKind.TheVariants as b
use Rattle.dart_tree.specs.declared.parameter.ThisDot.{ThisDot}
use Rattle.dart_tree.specs.declared.statement.Jump.TheVariants as j
use Rattle.dart_tree.specs.declared.statement.Catch.{Catch}
use Rattle.dart_tree.specs.LeafTokens.{type_tokens, left_of, right_of, catch_tokens, on_text}
use Rattle.dart_tree.specs.Types.{ResultType, VariableKind, on_part, catch_part, finally_part}
use Rattle.dart_tree.specs.Tree as t
use Rattle.dart_tree.specs.Tree.{Expr, Value, ParameterKind, Stmt, Loop, Body, Arguments, Parameters, Parameter, Annotation, Variables, Function, Block, Selectors, Items, ParameterList, Metadata, Stmts, MoreVariables, SwitchParts, TryParts}
use Rattle.dart_tree.specs.Tokens.{value_tokens, parameter_kind_tokens, stmt_tokens, loop_tokens, body_tokens, parameters_tokens, annotation_tokens, variables_tokens, function_tokens, block_tokens, parameter_list_tokens, metadata_tokens, switch_parts_tokens, try_parts_tokens, expr_tokens, operand_tokens, primary_tokens, arguments_tokens, selectors_tokens}
use Rattle.dart_syntax.specs.Phrases.{Phrase, ◌~◌, ◌<|>◌, seq_if, opt, many, some, rather, perhaps, made, made₂, made₃, made₄, made₅, made₈, made₉, such_tokens, no_room, exactly}
use Rattle.dart_syntax.specs.Leaves.{sign, word, named, identifier, dot_name, comma_name, label, this_dot_tokens, commas, begins_with_no_brace}
use Rattle.dart_syntax.specs.Types.{type_within, result_over, kind_over, variables_kind_over, without_kind, kind_leaves_name, result_leaves_name}
use Rattle.dart_syntax.specs.Expressions.{ExprNodes, Levels, maybe_expr, after_sign, plain_list, arguments_over, literal_over, cascade_over, expr_over, without_over, levels_over, flat_levels}

-- ---- the lists of the trees

abbrev pub to_metadata : List Annotation → Metadata
to_metadata [] = t.no_metadata
to_metadata (x ∷ more) = t.annotation x (to_metadata more)

abbrev pub to_annotation : Place × (Identifier × (List DotName × Option Arguments)) → Annotation
to_annotation (at, (name, (more, None))) = t.the_annotation at name more None t.no_items
to_annotation (at, (name, (more, Some (t.the_arguments opening items closing)))) =
    t.the_annotation at name more (Some (record { opening = opening; closing = closing })) items

abbrev pub more_required : List (Place × (Metadata × ParameterKind)) → ParameterList
more_required [] = t.no_parameters
more_required ((comma, (metadata, kind)) ∷ more) =
    t.parameter (t.the_parameter (Some comma) metadata kind t.omitted) (more_required more)

abbrev pub to_required : (Metadata × ParameterKind) × List (Place × (Metadata × ParameterKind)) →
    ParameterList
to_required ((metadata, kind), more) =
    t.parameter (t.the_parameter None metadata kind t.omitted) (more_required more)

abbrev pub more_optional : List (Place × ((Metadata × ParameterKind) × Value)) → ParameterList
more_optional [] = t.no_parameters
more_optional ((comma, ((metadata, kind), value)) ∷ more) =
    t.parameter (t.the_parameter (Some comma) metadata kind value) (more_optional more)

abbrev pub to_optional : ((Metadata × ParameterKind) × Value) ×
    List (Place × ((Metadata × ParameterKind) × Value)) → ParameterList
to_optional (((metadata, kind), value), more) =
    t.parameter (t.the_parameter None metadata kind value) (more_optional more)

-- required parameters with the comma behind them, and optional ones in their brackets
abbrev pub with_optional : BracketKind → Place × ((ParameterList × Option Place) ×
    ((Place × (ParameterList × Place)) × Place)) → Parameters
with_optional kind (opening, ((required, comma), ((left, (optional, right)), closing))) =
    t.the_parameters opening required
    (Some (record { comma = comma; kind = kind; opening = left; closing = right })) optional closing

abbrev pub more_variables : List (Place × (Identifier × Value)) → MoreVariables
more_variables [] = t.no_variables
more_variables ((comma, (name, value)) ∷ more) = t.variable comma name value (more_variables more)

-- a kind with the first variable's name, its value, and further variables
abbrev pub the_variables : VariableKind × Identifier → Value → List (Place × (Identifier × Value)) →
    Place → Variables
the_variables (kind, name) value more semicolon =
    t.the_variables kind name value (more_variables more) semicolon

-- a result with the function's name, its parameters and its body
abbrev pub the_function : Option Place → Option ResultType × Identifier → Parameters → Body →
    Function
the_function external (result, name) parameters body =
    t.the_function external result name parameters body

abbrev pub to_stmts : List Stmt → Stmts
to_stmts [] = t.no_stmts
to_stmts (x ∷ more) = t.stmt x (to_stmts more)

-- statements with a condition in its parentheses
abbrev pub an_if : Place → Place × (Expr × Place) → Stmt → Stmt
an_if word (opening, (condition, closing)) body = t.if_stmt word opening condition closing body

abbrev pub an_if_else : Place → Place × (Expr × Place) → Stmt × (Place × Stmt) → Stmt
an_if_else word (opening, (condition, closing)) (first, (other, second)) =
    t.if_else word opening condition closing first other second

abbrev pub a_while : Place → Place × (Expr × Place) → Stmt → Loop
a_while word (opening, (condition, closing)) body = t.while_loop word opening condition closing body

abbrev pub a_do : Place → Stmt → Place → Place × (Expr × Place) → Place → Loop
a_do word body again (opening, (condition, closing)) semicolon =
    t.do_loop word body again opening condition closing semicolon

abbrev pub a_switch : Place → Place × (Expr × Place) → Place → SwitchParts → Place → Stmt
a_switch word (opening, (value, closing)) left parts right =
    t.switch_stmt word opening value closing left parts right

-- a `default` part or none
abbrev pub to_default : Option (List Label × (Place × (Place × List Stmt))) → SwitchParts
to_default None = t.no_switch_parts
to_default (Some (labels, (word, (colon, stmts)))) =
    t.switch_part labels word t.omitted colon (to_stmts stmts) t.no_switch_parts

abbrev pub to_cases : List (List Label × (Place × (Expr × (Place × List Stmt)))) → SwitchParts →
    SwitchParts
to_cases [] rest = rest
to_cases ((labels, (word, (value, (colon, stmts)))) ∷ more) rest =
    t.switch_part labels word (t.given None value) colon (to_stmts stmts) (to_cases more rest)

abbrev pub to_finally : Option (Place × Block) → TryParts
to_finally None = t.no_try_parts
to_finally (Some (word, block)) = t.try_part (finally_part word) block t.no_try_parts

-- ---- an `else` belongs to the nearest `if`

-- the statement ends in no `if` without `else`
unfoldable mutual
  pub is_shut : Stmt → Bool
  is_shut (t.labelled name statement) = is_shut statement
  is_shut (t.if_stmt word opening condition closing first) = false
  is_shut (t.if_else word opening condition closing first other second) = is_shut second
  is_shut (t.loop loop) = is_shut_loop loop
  is_shut x = true

  pub is_shut_loop : Loop → Bool
  is_shut_loop (t.for_loop word opening start first condition second updates closing body) =
      is_shut body
  is_shut_loop (t.for_variables word opening variables condition semicolon updates closing body) =
      is_shut body
  is_shut_loop (t.for_in word opening kind name inside iterated closing body) = is_shut body
  is_shut_loop (t.while_loop word opening condition closing body) = is_shut body
  is_shut_loop (t.do_loop word body again opening condition closing semicolon) = true

-- ---- nodes that statements and declarations are made of, each no deeper than some number of nodes

pub record StmtNodes : Type 1 where
  pub expr_nodes : ExprNodes
  pub variables : Phrase Variables
  pub local_function : Phrase Function
  pub parameter : Phrase (Metadata × ParameterKind)
  pub catch_clause : Phrase Catch
  pub compound : Phrase Stmt

-- the nodes, and the operands and statements of the same depth
pub record Within : Type 1 where
  pub nodes : StmtNodes
  pub levels : Levels
  pub stmt : Phrase Stmt

-- ---- metadata and parameters

module _ (here : ExprNodes) where
  open here use {expr, arguments, block}

  -- metadata: {@ id {. id} [arguments]} (15 Metadata)
  abbrev pub metadata_of : Phrase Metadata
  metadata_of = made metadata_tokens to_metadata
      (many (made annotation_tokens to_annotation
      (sign s.AtSign ~ identifier ~ many dot_name ~ opt arguments)))

  abbrev pub this_dot : Phrase ThisDot
  this_dot = made₂ this_dot_tokens (λ word dot. record { this = word; dot = dot })
      (word w.This ~ sign s.Dot)

  -- functionBody: => expression ; | block (9 Functions)
  abbrev pub whole_body : Phrase Body
  whole_body =
      made₃ body_tokens (λ arrow value semicolon. t.arrow_body arrow value (Some semicolon))
      (sign s.Arrow ~ expr ~ sign s.Semicolon)
      <|> made body_tokens t.block_body block

  -- the same, or none: ;
  abbrev pub body_of : Phrase Body
  body_of = whole_body <|> made body_tokens t.no_body (sign s.Semicolon)

module _ (inner : StmtNodes) where
  open inner use {parameter}
  open inner.expr_nodes use {type, expr, parameters}

  -- normalFormalParameter: metadata ([finalConstVarOrType] [this .] id | [returnType] [this .] id
  --     formalParameterList) (9.2.1 Required Formals)
  abbrev pub parameter_over : Phrase (Metadata × ParameterKind)
  parameter_over = metadata_of inner.expr_nodes
      ~ (made₃ parameter_kind_tokens t.plain_parameter
      ((without_kind <|> kind_over type) ~ opt (this_dot inner.expr_nodes) ~ identifier)
      <|> made₄ parameter_kind_tokens t.function_parameter
      (opt (result_over type) ~ opt (this_dot inner.expr_nodes) ~ identifier ~ parameters))

  -- normalFormalParameters: normalFormalParameter {, normalFormalParameter}
  abbrev pub required_over : Phrase ParameterList
  required_over = made parameter_list_tokens to_required (commas parameter)

  -- the optional parameters in their brackets, with defaults behind this sign
  -- optionalPositionalFormalParameters: [ parameter [= expression] {, ..} ]
  -- namedFormalParameters: { parameter [: expression] {, ..} } (9.2.2 Optional Formals)
  abbrev pub optional_over : BracketKind → Sign → Phrase (Place × (ParameterList × Place))
  optional_over kind before = sign (left_of kind)
      ~ made parameter_list_tokens to_optional (commas (parameter ~ after_sign before expr))
      ~ sign (right_of kind)

  -- the required parameters and a comma, where others follow, or nothing
  abbrev pub required_before : Phrase (ParameterList × Option Place)
  required_before = perhaps (t.no_parameters, None)
      (made₂ (required_over ~ opt (sign s.Comma)).spelling
      (λ required comma. (required, Some comma))
      (required_over ~ sign s.Comma))

  abbrev pub bracketed_over : BracketKind → Sign → Phrase Parameters
  bracketed_over kind before = made parameters_tokens (with_optional kind)
      (sign s.LeftParenthesis ~ required_before ~ optional_over kind before
      ~ sign s.RightParenthesis)

  -- formalParameterList: ( [normalFormalParameters] ) | ( [normalFormalParameters ,]
  --     optionalFormalParameters ) (9.2 Formal Parameters)
  abbrev pub parameters_over : Phrase Parameters
  parameters_over =
      made₃ parameters_tokens
      (λ opening required closing. t.the_parameters opening required None t.no_parameters closing)
      (sign s.LeftParenthesis ~ perhaps t.no_parameters required_over ~ sign s.RightParenthesis)
      <|> bracketed_over b.Square s.Assign
      <|> bracketed_over b.Curly s.Colon

  -- variableDeclaration: finalConstVarOrType id [= expression] {, id [= expression]} ;
  -- (8 Variables)
  abbrev pub variables_over : Phrase Variables
  variables_over = made₄ variables_tokens the_variables
      (seq_if kind_leaves_name (variables_kind_over type) identifier
      ~ after_sign s.Assign expr
      ~ many (sign s.Comma ~ identifier ~ after_sign s.Assign expr)
      ~ sign s.Semicolon)

  -- functionSignature: [returnType] id formalParameterList, with this before it and this body
  -- behind it (9 Functions)
  abbrev pub function_over : Phrase (Option Place) → Phrase Body → Phrase Function
  function_over external body = made₄ function_tokens the_function
      (external ~ seq_if result_leaves_name (opt (result_over type)) identifier ~ parameters ~ body)

  abbrev pub no_external : Phrase (Option Place)
  no_external = exactly (opt (word w.External)).spelling None

  -- localFunctionDeclaration: functionSignature functionBody (17.4 Local Function Declaration)
  abbrev pub local_function_over : Phrase Function
  local_function_over = function_over no_external (whole_body inner.expr_nodes)

  -- catchPart: catch ( id [, id] ) (17.11 Try)
  abbrev pub catch_over : Phrase Catch
  catch_over = made₅ catch_tokens (λ word opening exception trace closing. record {
    word = word;
    opening = opening;
    exception = exception;
    trace = trace;
    closing = closing;
  })
      (word w.Catch ~ sign s.LeftParenthesis ~ identifier ~ opt comma_name
      ~ sign s.RightParenthesis)

-- ---- statements that hold statements

module _ (inner : Within) where
  open inner use {stmt}
  open inner.nodes use {variables, catch_clause}
  open inner.nodes.expr_nodes use {type, expr, block}

  -- ( expression )
  abbrev pub condition_over : Phrase (Place × (Expr × Place))
  condition_over = sign s.LeftParenthesis ~ expr ~ sign s.RightParenthesis

  -- block: { {statement} } (17.1 Blocks)
  abbrev pub block_over : Phrase Block
  block_over =
      made₃ block_tokens (λ opening stmts closing. t.the_block opening (to_stmts stmts) closing)
      (sign s.LeftBrace ~ many stmt ~ sign s.RightBrace)

  -- ifStatement: if ( expression ) statement [else statement] (17.5 If)
  abbrev pub if_over : Phrase Stmt
  if_over = made₃ stmt_tokens an_if (word w.If ~ condition_over ~ stmt)
      <|> made₃ stmt_tokens an_if_else
      (word w.If ~ condition_over ~ seq_if is_shut stmt (word w.Else ~ stmt))

  -- [expressionList] ) statement
  abbrev pub updates_over : Phrase (Items × (Place × Stmt))
  updates_over = perhaps t.no_items (plain_list expr) ~ sign s.RightParenthesis ~ stmt

  -- forStatement: for ( forInitializerStatement [expression] ; [expressionList] ) statement
  --     | for ( [finalConstVarOrType] id in expression ) statement (17.6 For)
  -- forInitializerStatement: [expression] ; | variableDeclaration
  abbrev pub for_over : Phrase Loop
  for_over =
      made₉ loop_tokens t.for_loop
      (word w.For ~ sign s.LeftParenthesis ~ maybe_expr expr ~ sign s.Semicolon
      ~ maybe_expr expr ~ sign s.Semicolon ~ updates_over)
      <|> made₈ loop_tokens t.for_variables
      (word w.For ~ sign s.LeftParenthesis ~ variables ~ maybe_expr expr ~ sign s.Semicolon
      ~ updates_over)
      <|> made₈ loop_tokens t.for_in
      (word w.For ~ sign s.LeftParenthesis ~ (without_kind <|> kind_over type) ~ identifier
      ~ word w.In ~ expr ~ sign s.RightParenthesis ~ stmt)

  -- whileStatement: while ( expression ) statement (17.7 While)
  abbrev pub while_over : Phrase Loop
  while_over = made₃ loop_tokens a_while (word w.While ~ condition_over ~ stmt)

  -- doStatement: do statement while ( expression ) ; (17.8 Do)
  abbrev pub do_over : Phrase Loop
  do_over = made₅ loop_tokens a_do
      (word w.Do ~ stmt ~ word w.While ~ condition_over ~ sign s.Semicolon)

  -- {switchCase} [defaultCase]
  -- switchCase: {label} case expression : {statement}, defaultCase: {label} default : {statement}
  abbrev pub switch_parts_over : Phrase SwitchParts
  switch_parts_over =
      made₂ switch_parts_tokens (λ cases default. to_cases cases (to_default default))
      (many (many label ~ word w.Case ~ expr ~ sign s.Colon ~ many stmt)
      ~ opt (many label ~ word w.Default ~ sign s.Colon ~ many stmt))

  -- switchStatement: switch ( expression ) { {switchCase} [defaultCase] } (17.9 Switch)
  abbrev pub switch_over : Phrase Stmt
  switch_over = made₅ stmt_tokens a_switch
      (word w.Switch ~ condition_over ~ sign s.LeftBrace ~ switch_parts_over ~ sign s.RightBrace)

  -- onPart: on type [catchPart] block | catchPart block
  abbrev pub try_part_over : Phrase TryParts
  try_part_over =
      made₄ try_parts_tokens
      (λ word of clause body. t.try_part (on_part word of clause) body t.no_try_parts)
      (named on_text ~ type ~ opt catch_clause ~ block)
      <|> made₂ try_parts_tokens (λ clause body. t.try_part (catch_part clause) body t.no_try_parts)
      (catch_clause ~ block)

abbrev pub append_parts : TryParts → TryParts → TryParts
append_parts t.no_try_parts rest = rest
append_parts (t.try_part kind block more) rest = t.try_part kind block (append_parts more rest)

abbrev pub join_parts : List TryParts → TryParts → TryParts
join_parts [] rest = rest
join_parts (x ∷ more) rest = append_parts x (join_parts more rest)

abbrev pub on_parts : TryParts × List TryParts → Option (Place × Block) → TryParts
on_parts (first, more) last = append_parts first (join_parts more (to_finally last))

module _ (inner : Within) where
  open inner.nodes.expr_nodes use {block}

  -- finallyPart: finally block
  abbrev pub finally_over : Phrase (Place × Block)
  finally_over = word w.Finally ~ block

  -- tryStatement: try block (onPart {onPart} [finallyPart] | finallyPart) (17.11 Try)
  abbrev pub try_over : Phrase Stmt
  try_over = made₃ stmt_tokens t.try_stmt
      (word w.Try ~ block
      ~ (made₂ try_parts_tokens on_parts (some (try_part_over inner) ~ opt finally_over)
      <|> made₂ try_parts_tokens
      (λ word body. t.try_part (finally_part word) body t.no_try_parts) finally_over))

  abbrev pub compound_over : Phrase Stmt
  compound_over = if_over inner
      <|> made stmt_tokens t.loop (for_over inner <|> while_over inner <|> do_over inner)
      <|> switch_over inner
      <|> try_over

-- ---- statements of the same depth

module _ (here : StmtNodes) where
  open here use {variables, local_function, compound}
  open here.expr_nodes use {expr, block}

  -- returnStatement: return [expression] ; (17.12), breakStatement: break [id] ; (17.14)
  -- continueStatement: continue [id] ; (17.15), rethrowStatement: rethrow ; (17.10)
  abbrev pub jump_of : Phrase Stmt
  jump_of = made₃ stmt_tokens t.return_stmt (word w.Return ~ maybe_expr expr ~ sign s.Semicolon)
      <|> made₃ stmt_tokens (λ word name semicolon. t.jump (j.Break word name semicolon))
      (word w.Break ~ opt identifier ~ sign s.Semicolon)
      <|> made₃ stmt_tokens (λ word name semicolon. t.jump (j.Continue word name semicolon))
      (word w.Continue ~ opt identifier ~ sign s.Semicolon)
      <|> made₂ stmt_tokens (λ word semicolon. t.jump (j.Rethrow word semicolon))
      (word w.Rethrow ~ sign s.Semicolon)

  -- expressionStatement: [expression] ; where the expression does not begin with a brace
  -- (17.2 Expression Statements)
  abbrev pub expression_of : Phrase Stmt
  expression_of = such_tokens begins_with_no_brace
      (made₂ stmt_tokens t.expression_stmt (maybe_expr expr ~ sign s.Semicolon))

  -- localVariableDeclaration | localFunctionDeclaration
  abbrev pub declaration_of : Phrase Stmt
  declaration_of =
      made stmt_tokens t.variables_stmt variables
      <|> made stmt_tokens t.function_stmt local_function

  abbrev pub other_statement_of : Phrase Stmt
  other_statement_of =
      made stmt_tokens t.block_stmt block <|> compound <|> jump_of <|> expression_of

  -- nonLabelledStatement, which is a declaration wherever the tokens can be read so (17 Statements)
  abbrev pub unlabelled_of : Phrase Stmt
  unlabelled_of = rather declaration_of other_statement_of

  -- statement: {label} nonLabelledStatement
  abbrev pub stmt_of : Phrase Stmt
  stmt_of = made₂ stmt_tokens t.with_labels (many label ~ unlabelled_of)

-- ---- the whole, by the number of nodes that may stand above one another

-- the nodes over what is one node less deep
unfoldable pub nodes_over : ℕ → Within → StmtNodes
nodes_over n inner = record {
  expr_nodes = record {
    type = type_within (suc n);
    expr = expr_over inner.nodes.expr_nodes inner.levels;
    without = without_over inner.nodes.expr_nodes inner.levels;
    cascade = cascade_over inner.nodes.expr_nodes;
    bare = made operand_tokens (λ word. t.primary (t.bare_super word)) (word w.Super);
    literal = literal_over inner.nodes.expr_nodes;
    arguments = arguments_over inner.nodes.expr_nodes;
    parameters = parameters_over inner.nodes;
    block = block_over inner;
  };
  variables = variables_over inner.nodes;
  local_function = local_function_over inner.nodes;
  parameter = parameter_over inner.nodes;
  catch_clause = catch_over inner.nodes;
  compound = compound_over inner;
}

abbrev pub no_nodes : StmtNodes
no_nodes = record {
  expr_nodes = record {
    type = no_room type_tokens;
    expr = no_room expr_tokens;
    without = no_room expr_tokens;
    cascade = no_room
        (sign s.DotDot ~ exactly selectors_tokens t.no_selectors
        ~ exactly value_tokens t.omitted).spelling;
    bare = no_room operand_tokens;
    literal = no_room primary_tokens;
    arguments = no_room arguments_tokens;
    parameters = no_room parameters_tokens;
    block = no_room block_tokens;
  };
  variables = no_room variables_tokens;
  local_function = no_room function_tokens;
  parameter =
      no_room (exactly metadata_tokens t.no_metadata ~ no_room parameter_kind_tokens).spelling;
  catch_clause = no_room catch_tokens;
  compound = no_room stmt_tokens;
}

-- the nodes, with the operands and statements that are no deeper
abbrev pub with_levels : StmtNodes → Levels → Within
with_levels here levels = record { nodes = here; levels = levels; stmt = stmt_of here }

-- what has at most so many nodes above one another
unfoldable pub within : ℕ → Within
within zero = with_levels no_nodes (flat_levels no_nodes.expr_nodes)
within (suc n) =
    let here = nodes_over n (within n) in
    with_levels here (levels_over here.expr_nodes (within n).nodes.expr_nodes (within n).levels)
