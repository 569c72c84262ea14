-- Expressions. `inner` has the nodes that stand inside, `here` the nodes of the same depth, and
-- `under` the levels that stand below an operator.
use Rattle.std.specs.Prelude.{ℕ, zero, suc, flat_map, length, Bool, true, false, List, [], ◌∷◌, Option, None, Some}
use Rattle.dart_base.specs.declared.place.Place.{Place}
use Rattle.dart_token.specs.declared.token.Quote.{Quote}
use Rattle.dart_token.specs.declared.sign.Sign.{Sign}
use Rattle.dart_token.specs.declared.sign.Sign.TheVariants as s
use Rattle.dart_token.specs.declared.word.Word.TheVariants as w
use Rattle.dart_tree.specs.declared.identifier.DotName.{DotName}
use Rattle.dart_tree.specs.declared.identifier.Label.{Label}
use Rattle.dart_tree.specs.declared.operator.Operator.{Operator}
use Rattle.dart_tree.specs.declared.operator.Operator.TheVariants as o
use Rattle.dart_tree.specs.declared.expression.Atom.TheVariants as a
use Rattle.dart_tree.specs.declared.expression.PieceKind.TheVariants as pk
use Rattle.dart_tree.specs.LeafTokens.{operator_tokens, piece_token, type_list_tokens}
use Rattle.dart_tree.specs.Types.{TypeNode, TypeArguments, named_type, no_types, type_more, no_more_types}
use Rattle.dart_tree.specs.Tree as t
use Rattle.dart_tree.specs.Tree.{Expr, Operand, Primary, Selector, Value, Body, Arguments, Parameters, Block, Tails, Pieces, Selectors, Cascades, Items, Entries}
use Rattle.dart_tree.specs.Tokens.{expr_tokens, operand_tokens, primary_tokens, selector_tokens, value_tokens, body_tokens, arguments_tokens, selectors_tokens, items_tokens, entries_tokens, pieces_tokens}
use Rattle.dart_syntax.specs.Phrases.{Phrase, ◌~◌, ◌<|>◌, seq_if, opt, many, some, some_if, perhaps, made, made₂, made₃, made₄, made₅, such, no_room, exactly, leaf}
use Rattle.dart_syntax.specs.Leaves.{sign, word, identifier, atom, creation, dot_name, label, piece, one_of, commas}
use Rattle.dart_syntax.specs.Types.{type_arguments, pair_of_types}
use Rattle.dart_syntax.specs.Levels.{sign_level}
use Rattle.dart_syntax.specs.Edges.{dots, question, compares, opens_dot, opens_nothing, leaves, leaves_less, primary_leaves, leaves_cascade}

-- ---- the lists of the trees

abbrev pub to_tails : List (Operator × Operand) → Tails
to_tails [] = t.no_tails
to_tails ((operator, x) ∷ more) = t.tail operator x (to_tails more)

abbrev pub to_selectors : List Selector → Selectors
to_selectors [] = t.no_selectors
to_selectors (x ∷ more) = t.selector x (to_selectors more)

abbrev pub one_or_more_selectors : Selector × List Selector → Selectors
one_or_more_selectors (first, more) = t.selector first (to_selectors more)

abbrev pub to_cascades : List (Place × (Selectors × Value)) → Cascades
to_cascades [] = t.no_cascades
to_cascades ((dots, (selectors, value)) ∷ more) = t.cascade dots selectors value (to_cascades more)

-- further expressions, and after them these items
abbrev pub more_items : List (Place × Expr) → Items → Items
more_items [] rest = rest
more_items ((comma, x) ∷ more) rest = t.item (Some comma) None x (more_items more rest)

abbrev pub more_named : List (Place × (Label × Expr)) → Items
more_named [] = t.no_items
more_named ((comma, (name, x)) ∷ more) = t.item (Some comma) (Some name) x (more_named more)

abbrev pub plain_items : Expr × List (Place × Expr) → Items
plain_items (first, more) = t.item None None first (more_items more t.no_items)

abbrev pub plain_then_named : (Expr × List (Place × Expr)) × List (Place × (Label × Expr)) → Items
plain_then_named ((first, more), named) =
    t.item None None first (more_items more (more_named named))

abbrev pub named_items : (Label × Expr) × List (Place × (Label × Expr)) → Items
named_items ((name, x), more) = t.item None (Some name) x (more_named more)

abbrev pub more_entries : List (Place × (Expr × (Place × Expr))) → Entries
more_entries [] = t.no_entries
more_entries ((comma, (key, (colon, value))) ∷ more) =
    t.entry (Some comma) key colon value (more_entries more)

abbrev pub to_entries : (Expr × (Place × Expr)) × List (Place × (Expr × (Place × Expr))) → Entries
to_entries ((key, (colon, value)), more) = t.entry None key colon value (more_entries more)

abbrev pub middles : List ((Place × List ℕ) × Expr) → Pieces → Pieces
middles [] rest = rest
middles (((place, text), x) ∷ more) rest =
    t.piece pk.Middle place text (t.given None x) (middles more rest)

-- a string with expressions: its head, its middles and its tail
abbrev pub whole_string : Place × List ℕ → Pieces
whole_string (place, text) = t.piece pk.Whole place text t.omitted t.no_pieces

abbrev pub string_parts : (Quote × (Place × List ℕ)) × Expr →
    List ((Place × List ℕ) × Expr) × (Place × List ℕ) → Pieces
string_parts ((quote, (place, text)), x) (more, (last, end)) =
    t.piece (pk.Head quote) place text (t.given None x)
    (middles more (t.piece pk.Tail last end t.omitted t.no_pieces))

abbrev pub append_pieces : Pieces → Pieces → Pieces
append_pieces t.no_pieces rest = rest
append_pieces (t.piece kind place text value more) rest =
    t.piece kind place text value (append_pieces more rest)

abbrev pub joined : List Pieces → Pieces
joined [] = t.no_pieces
joined (x ∷ more) = append_pieces x (joined more)

abbrev pub join_pieces : Pieces × List Pieces → Pieces
join_pieces (first, more) = append_pieces first (joined more)

-- a list's and a map's parts, with a comma at their end or none
abbrev pub a_list : TypeArguments → Place → Items × Option Place → Place → Primary
a_list types opening (items, comma) closing = t.list_literal types opening items comma closing

abbrev pub a_map : TypeArguments → Place → Entries × Option Place → Place → Primary
a_map types opening (entries, comma) closing = t.map_literal types opening entries comma closing

-- ---- assignable targets: id, e.id, e[i], and the same after super (16.32 Assignable Expressions)

abbrev pub assigns : Selector → Bool
assigns (t.call arguments) = false
assigns x = true

abbrev pub last_assigns : Bool → Selectors → Bool
last_assigns before t.no_selectors = before
last_assigns before (t.selector x rest) = last_assigns (assigns x) rest

abbrev pub primary_assigns : Primary → Bool
primary_assigns (t.atom (a.Name name)) = true
primary_assigns (t.super_access word selector) = assigns selector
primary_assigns x = false

abbrev pub ends_in_target : Primary × (Selector × List Selector) → Bool
ends_in_target (x, selectors) = last_assigns false (one_or_more_selectors selectors)

abbrev pub selectors_assign : Selectors → Bool
selectors_assign x = last_assigns false x

-- a constructor's name stands apart only where the type before it could not take it
abbrev pub type_takes_names : TypeNode × (Option DotName × Arguments) → Bool
type_takes_names (named_type name None no_types, (Some constructor, arguments)) = false
type_takes_names x = true

-- ---- what stands inside

-- the nodes that expressions are made of, each no deeper than some number of nodes
pub record ExprNodes : Type 1 where
  pub type : Phrase TypeNode
  pub expr : Phrase Expr
  pub without : Phrase Expr
  pub cascade : Phrase (Place × (Selectors × Value))
  pub bare : Phrase Operand
  pub literal : Phrase Primary
  pub arguments : Phrase Arguments
  pub parameters : Phrase Parameters
  pub block : Phrase Block

-- operands that are no deeper than that; `row` has them by level: unary expressions at 0, and above
-- them each level of operators, up to conditional expressions
pub record Levels : Type 1 where
  pub primary : Phrase Primary
  pub bracketed : Phrase Selector
  pub target : Phrase Operand
  pub postfix : Phrase Operand
  pub row : ℕ → Phrase Operand

-- an expression or none, and one after its sign or none
abbrev pub maybe_expr : Phrase Expr → Phrase Value
maybe_expr expr = perhaps t.omitted (made value_tokens (λ e. t.given None e) expr)

abbrev pub after_sign : Sign → Phrase Expr → Phrase Value
after_sign which expr = perhaps t.omitted
    (made₂ value_tokens (λ place e. t.given (Some (o.Sign place which)) e) (sign which ~ expr))

-- expressionList: expression {, expression}
abbrev pub plain_list : Phrase Expr → Phrase Items
plain_list expr = made items_tokens plain_items (commas expr)

-- a string: pieces with an expression after each head and each middle (16.5 Strings)
abbrev pub head : Phrase (Quote × (Place × List ℕ))
head = leaf (λ x. piece_token (pk.Head x.0) x.1.0 x.1.1 ∷ [])

abbrev pub one_string : Phrase Expr → Phrase Pieces
one_string expr = made pieces_tokens whole_string (piece pk.Whole)
    <|> made₂ pieces_tokens string_parts
    ((head ~ expr) ~ many (piece pk.Middle ~ expr) ~ piece pk.Tail)

-- stringLiteral: a string and its adjacent strings
abbrev pub strings : Phrase Expr → Phrase Pieces
strings expr = made pieces_tokens join_pieces (some (one_string expr))

-- . id
abbrev pub member : Phrase Selector
member = made₂ selector_tokens (λ dot name. t.member (Some dot) name) (sign s.Dot ~ identifier)

-- ---- the nodes, over those inside

module _ (inner : ExprNodes) where
  open inner use {type, expr, arguments, parameters, block}

  -- argumentList: expressionList {, namedArgument} | namedArgument {, namedArgument}, or nothing
  -- namedArgument: label expression
  abbrev pub argument_items : Phrase Items
  argument_items = perhaps t.no_items
      (made items_tokens plain_then_named (commas expr ~ many (sign s.Comma ~ label ~ expr))
      <|> made items_tokens named_items (commas (label ~ expr)))

  -- arguments: ( [argumentList] ) (16.14.1 Actual Argument List Evaluation)
  abbrev pub arguments_over : Phrase Arguments
  arguments_over = made₃ arguments_tokens t.the_arguments
      (sign s.LeftParenthesis ~ argument_items ~ sign s.RightParenthesis)

  -- listLiteral: [< type >] [ [expressionList [,]] ] (16.7 Lists)
  abbrev pub list_over : Phrase Primary
  list_over = made₄ primary_tokens a_list
      (type_arguments (made type_list_tokens (λ x. type_more None x no_more_types) type)
      ~ sign s.LeftBracket
      ~ perhaps (t.no_items, None) (plain_list expr ~ opt (sign s.Comma))
      ~ sign s.RightBracket)

  -- mapLiteralEntry {, mapLiteralEntry}, where mapLiteralEntry: expression : expression
  abbrev pub entries_over : Phrase Entries
  entries_over = made entries_tokens to_entries (commas (expr ~ sign s.Colon ~ expr))

  -- mapLiteral: [< type , type >] { [mapLiteralEntry {, mapLiteralEntry} [,]] } (16.8 Maps)
  abbrev pub map_over : Phrase Primary
  map_over = made₄ primary_tokens a_map
      (type_arguments (made type_list_tokens pair_of_types (type ~ sign s.Comma ~ type))
      ~ sign s.LeftBrace
      ~ perhaps (t.no_entries, None) (entries_over ~ opt (sign s.Comma))
      ~ sign s.RightBrace)

  -- functionExpressionBody: => expression | block
  abbrev pub literal_body_over : Phrase Body
  literal_body_over =
      made₂ body_tokens (λ arrow value. t.arrow_body arrow value None) (sign s.Arrow ~ expr)
      <|> made body_tokens t.block_body block

  -- functionExpression: formalParameterList functionExpressionBody (16.10 Function Expressions)
  abbrev pub function_literal_over : Phrase Primary
  function_literal_over = made₂ primary_tokens t.function_literal (parameters ~ literal_body_over)

  abbrev pub literal_over : Phrase Primary
  literal_over = list_over <|> map_over <|> function_literal_over

  -- [ expression ] | arguments
  abbrev pub bracketed_of : Phrase Selector
  bracketed_of =
      made₃ selector_tokens t.index (sign s.LeftBracket ~ expr ~ sign s.RightBracket)
      <|> made selector_tokens t.call arguments

  -- selector: . id | [ expression ] | arguments (16.14 to 16.18)
  abbrev pub selector_of : Phrase Selector
  selector_of = member <|> bracketed_of

  -- cascadeSelector {selector}, where cascadeSelector: id | [ expression ]
  abbrev pub section_over : Phrase Selectors
  section_over = made selectors_tokens one_or_more_selectors
      ((made selector_tokens (λ name. t.member None name) identifier
      <|> made₃ selector_tokens t.index (sign s.LeftBracket ~ expr ~ sign s.RightBracket))
      ~ many selector_of)

-- = *= /= ~/= %= += -= <<= &= ^= |=
abbrev pub assignment_signs : List Sign
assignment_signs =
    s.Assign ∷ s.StarAssign ∷ s.SlashAssign ∷ s.TildeSlashAssign ∷ s.PercentAssign ∷ s.PlusAssign
    ∷ s.MinusAssign ∷ s.ShiftLeftAssign ∷ s.AmpersandAssign ∷ s.CaretAssign ∷ s.BarAssign ∷ []

-- assignmentOperator: one of these, or > >= (16.19 Assignment)
abbrev pub assigning : Phrase Operator
assigning = one_of assignment_signs
    <|> made₂ operator_tokens o.ShiftRightAssign (sign s.Greater ~ sign s.GreaterEqual)

-- cascadeSection: .. cascadeSelector {selector} [assignmentOperator expressionWithoutCascade]
-- (16.17.2 Cascaded Invocations); an assignment wants a target
abbrev pub cascade_over : ExprNodes → Phrase (Place × (Selectors × Value))
cascade_over inner = sign s.DotDot
    ~ (section_over inner ~ exactly value_tokens t.omitted
    <|> seq_if selectors_assign (section_over inner)
    (made₂ value_tokens (λ operator e. t.given (Some operator) e) (assigning ~ inner.without)))

-- ---- the levels

module _ (here : ExprNodes) where
  open here use {type, expr, arguments, literal}

  -- primary: this | super selector | literal | id | listLiteral | mapLiteral | functionExpression
  --     | newExpression | constObjectExpression | ( expression )
  -- newExpression: new type [. id] arguments (16.12.1 New)
  -- constObjectExpression: const type [. id] arguments (16.12.2 Const)
  abbrev pub primary_of : Phrase Primary
  primary_of = made primary_tokens t.atom atom
      <|> made primary_tokens t.text (strings expr)
      <|> made₂ primary_tokens t.super_access (word w.Super ~ selector_of here)
      <|> made₄ primary_tokens t.new_object
      (creation ~ such type_takes_names (type ~ opt dot_name ~ arguments))
      <|> made₃ primary_tokens t.parenthesized
      (sign s.LeftParenthesis ~ expr ~ sign s.RightParenthesis)
      <|> literal

-- a node of one operator and its operand, and of operands with operators between them: one
-- operator, or any number
abbrev pub prefixed : Phrase Operator → Phrase Operand → Phrase Operand
prefixed operator operand = made₂ operand_tokens t.prefix (operator ~ operand)

abbrev pub once : (Operand → Bool) → Phrase Operand → Phrase Operator → Phrase Operand →
    Phrase Operand
once may first operator operand =
    made₃ operand_tokens (λ x sign y. t.binary x (t.tail sign y t.no_tails))
    (seq_if may first (operator ~ operand))

abbrev pub chain : ℕ → Phrase Operand → Phrase Operator → Phrase Operand → Phrase Operand
chain next first operator operand = made₂ operand_tokens (λ x more. t.binary x (to_tails more))
    (seq_if (leaves next) first (some_if (λ x. leaves next x.1) (operator ~ operand)))

-- shiftOperator: << | > > (16.26 Shift)
abbrev pub shifting : Phrase Operator
shifting = one_of (s.ShiftLeft ∷ [])
    <|> made₂ operator_tokens o.ShiftRight (sign s.Greater ~ sign s.Greater)

-- primary selector {selector}
abbrev pub selected_over : Levels → Phrase (Primary × (Selector × List Selector))
selected_over under =
    seq_if (primary_leaves opens_dot) under.primary (member ~ many (member <|> under.bracketed))
    <|> seq_if (primary_leaves opens_nothing) under.primary
    (under.bracketed ~ many (member <|> under.bracketed))

-- incrementOperator: ++ | --
abbrev pub steps : Phrase Operator
steps = one_of (s.PlusPlus ∷ s.MinusMinus ∷ [])

-- postfixExpression: primary {selector} | assignableExpression incrementOperator
-- (16.31 Postfix Expressions)
abbrev pub postfix_over : Levels → Phrase Operand
postfix_over under =
    made₂ operand_tokens (λ x more. t.postfix x (one_or_more_selectors more) None)
    (selected_over under)
    <|> made₂ operand_tokens (λ x operator. t.postfix x t.no_selectors (Some operator))
    (seq_if primary_assigns under.primary steps)
    <|> made₂ operand_tokens
    (λ x operator. t.postfix x.0 (one_or_more_selectors x.1) (Some operator))
    (seq_if ends_in_target (selected_over under) steps)

-- assignableExpression: id | primary {selector} (. id | [ expression ])
--     | super (. id | [ expression ]) (16.32 Assignable Expressions)
abbrev pub target_of : Phrase Primary → Levels → Phrase Operand
target_of primary under = made operand_tokens t.primary (such primary_assigns primary)
    <|> made₂ operand_tokens (λ x more. t.postfix x (one_or_more_selectors more) None)
    (such ends_in_target (selected_over under))

-- unaryExpression: (- | ~) unaryExpression | (- | ~) super | ! unaryExpression
--     | incrementOperator assignableExpression (16.29 Unary Expressions)
abbrev pub unary_over : Phrase Operand → Levels → Phrase Operand
unary_over bare under = prefixed (one_of (s.Minus ∷ s.Tilde ∷ [])) (under.row 0 <|> bare)
    <|> prefixed (one_of (s.Bang ∷ [])) (under.row 0)
    <|> prefixed steps under.target

-- relationalExpression: (bitwiseOrExpression | super) relationalOperator bitwiseOrExpression
--     | bitwiseOrExpression (is [!] type | as type) (16.24 Relational Expressions, 16.34 Type Test,
--     16.35 Type Cast); `<` behind a type's name opens its arguments
abbrev pub relational_over : ExprNodes → Phrase Operand → Phrase Operand
relational_over inner under =
    once leaves_less (under <|> inner.bare) (one_of (s.Less ∷ [])) under
    <|> once (leaves compares) (under <|> inner.bare)
    (one_of (s.Greater ∷ s.LessEqual ∷ s.GreaterEqual ∷ [])) under
    <|> made₄ operand_tokens t.is_type
    (seq_if (leaves compares) under (word w.Is ~ opt (sign s.Bang) ~ inner.type))
    <|> made₃ operand_tokens t.as_type (seq_if (leaves compares) under (word w.As ~ inner.type))

-- conditionalExpression: logicalOrExpression ? expressionWithoutCascade : expressionWithoutCascade
-- (16.20 Conditional)
abbrev pub conditional_over : ExprNodes → Phrase Operand → Phrase Operand
conditional_over inner under = made₅ operand_tokens t.conditional
    (seq_if (leaves question) under
    (sign s.Question ~ inner.without ~ sign s.Colon ~ inner.without))

-- ---- the rows of operators, from those that bind most tightly

pub data Row : Type 0 where
  -- any number of operators of these signs; `super` may be the first operand
  chained : Sign → List Sign → Row
  -- any number of `<<` and `> >`, likewise
  shifts : Row
  -- one operator of these signs, likewise
  single : Sign → List Sign → Row
  -- `<`, `>`, `<=`, `>=`, `is` and `as`
  comparison : Row
  -- any number of this sign, without `super`
  logical : Sign → Row
  -- `?` and `:`
  choice : Row
  no_row : Row

-- multiplicativeExpression, additiveExpression, shiftExpression, bitwiseAndExpression,
-- bitwiseXorExpression, bitwiseOrExpression, relationalExpression, equalityExpression,
-- logicalAndExpression, logicalOrExpression and conditionalExpression (16.28 back to 16.20)
abbrev pub rows : List Row
rows =
    chained s.Star (s.Slash ∷ s.TildeSlash ∷ s.Percent ∷ [])
    ∷ chained s.Plus (s.Minus ∷ [])
    ∷ shifts
    ∷ chained s.Ampersand []
    ∷ chained s.Caret []
    ∷ chained s.Bar []
    ∷ comparison
    ∷ single s.EqualEqual (s.NotEqual ∷ [])
    ∷ logical s.AndAnd
    ∷ logical s.OrOr
    ∷ choice
    ∷ []

abbrev pub row_at : List Row → ℕ → Row
row_at [] i = no_row
row_at (row ∷ more) zero = row
row_at (row ∷ more) (suc i) = row_at more i

-- a node with operators of a row, over operands that bind more tightly and are one node less deep
abbrev pub row_over : Row → ExprNodes → Phrase Operand → Phrase Operand
row_over (chained sign more) inner under =
    chain (sign_level sign) (under <|> inner.bare) (one_of (sign ∷ more)) under
row_over shifts inner under = chain (sign_level s.ShiftLeft) (under <|> inner.bare) shifting under
row_over (single sign more) inner under =
    once (leaves (sign_level sign)) (under <|> inner.bare) (one_of (sign ∷ more)) under
row_over comparison inner under = relational_over inner under
row_over (logical sign) inner under = chain (sign_level sign) under (one_of (sign ∷ [])) under
row_over choice inner under = conditional_over inner under
row_over no_row inner under = no_room operand_tokens

-- an operand of the row below, or a node with operators of this one
abbrev pub rows_over : Phrase Operand → ExprNodes → (ℕ → Phrase Operand) → ℕ → Phrase Operand
rows_over unary inner under zero = unary
rows_over unary inner under (suc i) =
    rows_over unary inner under i <|> row_over (row_at rows i) inner (under i)

-- conditionalExpression, with all that binds more tightly
abbrev pub conditional : Levels → Phrase Operand
conditional levels = levels.row (length rows)

-- the levels over the nodes of the same depth, and over the nodes and levels that are one node less
-- deep
abbrev pub levels_over : ExprNodes → ExprNodes → Levels → Levels
levels_over here inner under =
    let primary = primary_of here in
    let postfix = made operand_tokens t.primary primary <|> postfix_over under in
    record {
      primary = primary;
      bracketed = bracketed_of here;
      target = target_of primary under;
      postfix = postfix;
      row = rows_over (postfix <|> unary_over inner.bare under) inner under.row;
    }

-- where there is no room for a node: an operand is a primary
abbrev pub flat_levels : ExprNodes → Levels
flat_levels here =
    let primary = primary_of here in
    let operand = made operand_tokens t.primary primary in
    record {
      primary = primary;
      bracketed = bracketed_of here;
      target = made operand_tokens t.primary (such primary_assigns primary);
      postfix = operand;
      row = λ i. operand;
    }

-- ---- expressions

-- conditionalExpression {cascadeSection}
abbrev pub cascaded_over : ExprNodes → Levels →
    Phrase (Operand × List (Place × (Selectors × Value)))
cascaded_over inner levels = conditional levels ~ exactly (flat_map inner.cascade.spelling) []
    <|> seq_if (leaves dots) (conditional levels) (some_if leaves_cascade inner.cascade)

-- expression: assignableExpression assignmentOperator expression
--     | conditionalExpression {cascadeSection} | throw expression (16 Expressions)
abbrev pub expr_over : ExprNodes → Levels → Phrase Expr
expr_over inner levels = made₃ expr_tokens t.assign (levels.target ~ assigning ~ inner.expr)
    <|> made₂ expr_tokens (λ x cascades. t.plain x (to_cascades cascades))
    (cascaded_over inner levels)
    <|> made₂ expr_tokens t.throw (word w.Throw ~ inner.expr)

-- expressionWithoutCascade: assignableExpression assignmentOperator expressionWithoutCascade
--     | conditionalExpression | throw expression
abbrev pub without_over : ExprNodes → Levels → Phrase Expr
without_over inner levels = made₃ expr_tokens t.assign (levels.target ~ assigning ~ inner.without)
    <|> made expr_tokens (λ x. t.plain x t.no_cascades) (conditional levels)
    <|> made₂ expr_tokens t.throw (word w.Throw ~ inner.expr)
