-- The tokens of a tree, in order, with their places.
use Rattle.std.specs.Prelude.{List, [], ◌∷◌, ◌++◌}
use Rattle.dart_token.specs.declared.token.Token.{Token}
use Rattle.dart_token.specs.declared.sign.Sign.TheVariants as s
use Rattle.dart_token.specs.declared.word.Word.TheVariants as w
use Rattle.dart_token.specs.declared.word.Word.{Word}
use Rattle.dart_tree.specs.LeafTokens.{sign_at, word_at, maybe_sign, maybe_word, operator_tokens}
use Rattle.dart_tree.specs.LeafTokens.{maybe_operator, maybe_dot_name, dot_names_tokens}
use Rattle.dart_tree.specs.LeafTokens.{identifier_tokens, atom_tokens, creation_token, maybe_this}
use Rattle.dart_tree.specs.LeafTokens.{label_tokens, maybe_label, labels_tokens, jump_tokens}
use Rattle.dart_tree.specs.LeafTokens.{piece_token, opening_bracket, closing_bracket}
use Rattle.dart_tree.specs.LeafTokens.{opening_parenthesis, closing_parenthesis, type_tokens}
use Rattle.dart_tree.specs.LeafTokens.{type_arguments_tokens, maybe_result, kind_tokens}
use Rattle.dart_tree.specs.LeafTokens.{try_kind_tokens}
use Rattle.dart_tree.specs.Tree as t
use Rattle.dart_tree.specs.Tree.{Expr, Operand, Primary, Selector, Value, ParameterKind, Stmt, Loop}
use Rattle.dart_tree.specs.Tree.{Body, Arguments, Parameters, Parameter, Annotation, Variables}
use Rattle.dart_tree.specs.Tree.{Function, Block, Tails, Pieces, Selectors, Cascades, Items}
use Rattle.dart_tree.specs.Tree.{Entries, ParameterList, Metadata, Stmts, MoreVariables}
use Rattle.dart_tree.specs.Tree.{SwitchParts, TryParts}

-- the word before a part of a switch
abbrev pub switch_word : Value → Word
switch_word t.omitted = w.Default
switch_word (t.given operator e) = w.Case

unfoldable mutual
  pub expr_tokens : Expr → List Token
  expr_tokens (t.assign target operator value) =
      operand_tokens target ++ (operator_tokens operator ++ expr_tokens value)
  expr_tokens (t.plain operand cascades) = operand_tokens operand ++ cascades_tokens cascades
  expr_tokens (t.throw word value) = word_at word w.Throw ∷ (expr_tokens value)

  pub operand_tokens : Operand → List Token
  operand_tokens (t.conditional condition question first colon second) =
      operand_tokens condition ++ (sign_at question s.Question ∷
      (expr_tokens first ++ (sign_at colon s.Colon ∷ (expr_tokens second))))
  operand_tokens (t.binary first more) = operand_tokens first ++ tails_tokens more
  operand_tokens (t.is_type operand word bang of) =
      operand_tokens operand ++ (word_at word w.Is ∷ (maybe_sign bang s.Bang ++ type_tokens of))
  operand_tokens (t.as_type operand word of) =
      operand_tokens operand ++ (word_at word w.As ∷ (type_tokens of))
  operand_tokens (t.prefix operator operand) = operator_tokens operator ++ operand_tokens operand
  operand_tokens (t.postfix operand selectors operator) =
      primary_tokens operand ++ (selectors_tokens selectors ++ maybe_operator operator)
  operand_tokens (t.primary primary) = primary_tokens primary

  pub primary_tokens : Primary → List Token
  primary_tokens (t.super_access word selector) = word_at word w.Super ∷ (selector_tokens selector)
  primary_tokens (t.bare_super word) = word_at word w.Super ∷ []
  primary_tokens (t.atom atom) = atom_tokens atom
  primary_tokens (t.text pieces) = pieces_tokens pieces
  primary_tokens (t.list_literal types opening items comma closing) =
      type_arguments_tokens types ++ (sign_at opening s.LeftBracket ∷
      (items_tokens items ++ (maybe_sign comma s.Comma ++ (sign_at closing s.RightBracket ∷ []))))
  primary_tokens (t.map_literal types opening entries comma closing) =
      type_arguments_tokens types ++ (sign_at opening s.LeftBrace ∷
      (entries_tokens entries ++ (maybe_sign comma s.Comma ++ (sign_at closing s.RightBrace ∷ []))))
  primary_tokens (t.new_object creation class constructor arguments) =
      creation_token creation ∷ (type_tokens class ++ (maybe_dot_name constructor ++
      arguments_tokens arguments))
  primary_tokens (t.function_literal parameters body) =
      parameters_tokens parameters ++ body_tokens body
  primary_tokens (t.parenthesized opening value closing) =
      sign_at opening s.LeftParenthesis ∷ (expr_tokens value ++
      (sign_at closing s.RightParenthesis ∷ []))

  pub selector_tokens : Selector → List Token
  selector_tokens (t.member dot name) = maybe_sign dot s.Dot ++ identifier_tokens name
  selector_tokens (t.index opening value closing) =
      sign_at opening s.LeftBracket ∷ (expr_tokens value ++ (sign_at closing s.RightBracket ∷ []))
  selector_tokens (t.call arguments) = arguments_tokens arguments

  pub value_tokens : Value → List Token
  value_tokens t.omitted = []
  value_tokens (t.given operator value) = maybe_operator operator ++ expr_tokens value

  pub parameter_kind_tokens : ParameterKind → List Token
  parameter_kind_tokens (t.plain_parameter kind this_dot name) =
      kind_tokens kind ++ (maybe_this this_dot ++ identifier_tokens name)
  parameter_kind_tokens (t.function_parameter result_type this_dot name parameters) =
      maybe_result result_type ++ (maybe_this this_dot ++
      (identifier_tokens name ++ parameters_tokens parameters))

  pub stmt_tokens : Stmt → List Token
  stmt_tokens (t.labelled label statement) = label_tokens label ++ stmt_tokens statement
  stmt_tokens (t.block_stmt block) = block_tokens block
  stmt_tokens (t.variables_stmt variables) = variables_tokens variables
  stmt_tokens (t.function_stmt function) = function_tokens function
  stmt_tokens (t.if_stmt word opening condition closing first) =
      word_at word w.If ∷ sign_at opening s.LeftParenthesis ∷
      (expr_tokens condition ++ (sign_at closing s.RightParenthesis ∷ (stmt_tokens first)))
  stmt_tokens (t.if_else word opening condition closing first other second) =
      word_at word w.If ∷ sign_at opening s.LeftParenthesis ∷
      (expr_tokens condition ++ (sign_at closing s.RightParenthesis ∷
      (stmt_tokens first ++ (word_at other w.Else ∷ (stmt_tokens second)))))
  stmt_tokens (t.loop loop) = loop_tokens loop
  stmt_tokens (t.switch_stmt word opening value closing left parts right) =
      word_at word w.Switch ∷ sign_at opening s.LeftParenthesis ∷
      (expr_tokens value ++ (sign_at closing s.RightParenthesis ∷ sign_at left s.LeftBrace ∷
      (switch_parts_tokens parts ++ (sign_at right s.RightBrace ∷ []))))
  stmt_tokens (t.try_stmt word block parts) =
      word_at word w.Try ∷ (block_tokens block ++ try_parts_tokens parts)
  stmt_tokens (t.return_stmt word value semicolon) =
      word_at word w.Return ∷ (value_tokens value ++ (sign_at semicolon s.Semicolon ∷ []))
  stmt_tokens (t.jump jump) = jump_tokens jump
  stmt_tokens (t.expression_stmt value semicolon) =
      value_tokens value ++ (sign_at semicolon s.Semicolon ∷ [])

  pub loop_tokens : Loop → List Token
  loop_tokens (t.for_loop word opening start first_semicolon condition semicolon updates closing
      body) =
      word_at word w.For ∷ sign_at opening s.LeftParenthesis ∷
      (value_tokens start ++ (sign_at first_semicolon s.Semicolon ∷
      (value_tokens condition ++ (sign_at semicolon s.Semicolon ∷
      (items_tokens updates ++ (sign_at closing s.RightParenthesis ∷ (stmt_tokens body)))))))
  loop_tokens (t.for_variables word opening variables condition semicolon updates closing body) =
      word_at word w.For ∷ sign_at opening s.LeftParenthesis ∷
      (variables_tokens variables ++ (value_tokens condition ++
      (sign_at semicolon s.Semicolon ∷ (items_tokens updates ++
      (sign_at closing s.RightParenthesis ∷ (stmt_tokens body))))))
  loop_tokens (t.for_in word opening kind name inside iterated closing body) =
      word_at word w.For ∷ sign_at opening s.LeftParenthesis ∷
      (kind_tokens kind ++ (identifier_tokens name ++ (word_at inside w.In ∷
      (expr_tokens iterated ++ (sign_at closing s.RightParenthesis ∷ (stmt_tokens body))))))
  loop_tokens (t.while_loop word opening condition closing body) =
      word_at word w.While ∷ sign_at opening s.LeftParenthesis ∷
      (expr_tokens condition ++ (sign_at closing s.RightParenthesis ∷ (stmt_tokens body)))
  loop_tokens (t.do_loop word body again opening condition closing semicolon) =
      word_at word w.Do ∷ (stmt_tokens body ++ (word_at again w.While ∷
      sign_at opening s.LeftParenthesis ∷ (expr_tokens condition ++
      (sign_at closing s.RightParenthesis ∷ sign_at semicolon s.Semicolon ∷ []))))

  pub body_tokens : Body → List Token
  body_tokens (t.arrow_body arrow value semicolon) =
      sign_at arrow s.Arrow ∷ (expr_tokens value ++ maybe_sign semicolon s.Semicolon)
  body_tokens (t.block_body block) = block_tokens block
  body_tokens (t.no_body semicolon) = sign_at semicolon s.Semicolon ∷ []

  pub arguments_tokens : Arguments → List Token
  arguments_tokens (t.the_arguments opening items closing) =
      sign_at opening s.LeftParenthesis ∷ (items_tokens items ++
      (sign_at closing s.RightParenthesis ∷ []))

  pub parameters_tokens : Parameters → List Token
  parameters_tokens (t.the_parameters opening required brackets optional closing) =
      sign_at opening s.LeftParenthesis ∷ (parameter_list_tokens required ++
      (opening_bracket brackets ++ (parameter_list_tokens optional ++
      (closing_bracket brackets ++ sign_at closing s.RightParenthesis ∷ []))))

  pub parameter_tokens : Parameter → List Token
  parameter_tokens (t.the_parameter comma metadata kind value) =
      maybe_sign comma s.Comma ++ (metadata_tokens metadata ++
      (parameter_kind_tokens kind ++ value_tokens value))

  pub annotation_tokens : Annotation → List Token
  annotation_tokens (t.the_annotation sign name more call items) =
      sign_at sign s.AtSign ∷ (identifier_tokens name ++
      (dot_names_tokens more ++ (opening_parenthesis call ++
      (items_tokens items ++ closing_parenthesis call))))

  pub variables_tokens : Variables → List Token
  variables_tokens (t.the_variables kind name value more semicolon) =
      kind_tokens kind ++ (identifier_tokens name ++ (value_tokens value ++
      (more_variables_tokens more ++ (sign_at semicolon s.Semicolon ∷ []))))

  pub function_tokens : Function → List Token
  function_tokens (t.the_function external result_type name parameters body) =
      maybe_word external w.External ++ (maybe_result result_type ++
      (identifier_tokens name ++ (parameters_tokens parameters ++ body_tokens body)))

  pub block_tokens : Block → List Token
  block_tokens (t.the_block opening statements closing) =
      sign_at opening s.LeftBrace ∷ (stmts_tokens statements ++ (sign_at closing s.RightBrace ∷ []))

  pub tails_tokens : Tails → List Token
  tails_tokens t.no_tails = []
  tails_tokens (t.tail operator operand rest) =
      operator_tokens operator ++ (operand_tokens operand ++ tails_tokens rest)

  pub pieces_tokens : Pieces → List Token
  pieces_tokens t.no_pieces = []
  pieces_tokens (t.piece kind place text value rest) =
      piece_token kind place text ∷ (value_tokens value ++ pieces_tokens rest)

  pub selectors_tokens : Selectors → List Token
  selectors_tokens t.no_selectors = []
  selectors_tokens (t.selector x rest) = selector_tokens x ++ selectors_tokens rest

  pub cascades_tokens : Cascades → List Token
  cascades_tokens t.no_cascades = []
  cascades_tokens (t.cascade dots selectors value rest) =
      sign_at dots s.DotDot ∷ (selectors_tokens selectors ++
      (value_tokens value ++ cascades_tokens rest))

  pub items_tokens : Items → List Token
  items_tokens t.no_items = []
  items_tokens (t.item comma label value rest) =
      maybe_sign comma s.Comma ++ (maybe_label label ++ (expr_tokens value ++ items_tokens rest))

  pub entries_tokens : Entries → List Token
  entries_tokens t.no_entries = []
  entries_tokens (t.entry comma key colon value rest) =
      maybe_sign comma s.Comma ++ (expr_tokens key ++ (sign_at colon s.Colon ∷
      (expr_tokens value ++ entries_tokens rest)))

  pub parameter_list_tokens : ParameterList → List Token
  parameter_list_tokens t.no_parameters = []
  parameter_list_tokens (t.parameter x rest) = parameter_tokens x ++ parameter_list_tokens rest

  pub metadata_tokens : Metadata → List Token
  metadata_tokens t.no_metadata = []
  metadata_tokens (t.annotation x rest) = annotation_tokens x ++ metadata_tokens rest

  pub stmts_tokens : Stmts → List Token
  stmts_tokens t.no_stmts = []
  stmts_tokens (t.stmt x rest) = stmt_tokens x ++ stmts_tokens rest

  pub more_variables_tokens : MoreVariables → List Token
  more_variables_tokens t.no_variables = []
  more_variables_tokens (t.variable comma name value rest) =
      sign_at comma s.Comma ∷ (identifier_tokens name ++
      (value_tokens value ++ more_variables_tokens rest))

  pub switch_parts_tokens : SwitchParts → List Token
  switch_parts_tokens t.no_switch_parts = []
  switch_parts_tokens (t.switch_part labels place value colon statements rest) =
      labels_tokens labels ++ word_at place (switch_word value) ∷
      (value_tokens value ++ sign_at colon s.Colon ∷ (stmts_tokens statements ++
      switch_parts_tokens rest))

  pub try_parts_tokens : TryParts → List Token
  try_parts_tokens t.no_try_parts = []
  try_parts_tokens (t.try_part kind block rest) =
      try_kind_tokens kind ++ (block_tokens block ++ try_parts_tokens rest)
