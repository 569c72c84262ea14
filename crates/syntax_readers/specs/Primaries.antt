-- Readers of primaries: literals, strings, arguments, selectors, and what stands in brackets.
-- `inner` reads the nodes that
-- stand inside, `here` those of the same depth.
use Rattle.std.specs.Prelude.{ℕ, Bool, true, false, List, [], ◌∷◌, ◌++◌, Option, Some, None}
use Rattle.dart_base.specs.declared.place.Place.{Place}
use Rattle.dart_token.specs.declared.token.Token.{Token}
use Rattle.dart_token.specs.declared.sign.Sign.TheVariants as s
use Rattle.dart_token.specs.declared.word.Word.TheVariants as w
use Rattle.dart_tree.specs.declared.identifier.Label.{Label}
use Rattle.dart_tree.specs.Types.{TypeNode, type_more, no_more_types}
use Rattle.dart_tree.specs.Tree as t
use Rattle.dart_tree.specs.Tree.{Expr, Primary, Selector, Value, Body, Arguments, Parameters, Block, Pieces, Selectors, Items, Entries}
use Rattle.grammar_laws.specs.Readers.{Reader, always, mapped, both_by, starts, either, option, followed, many, some, many_from, trailed, by_first, by_two, tried, sought}
use Rattle.grammar_laws.specs.Halves.{strict}
use Rattle.dart_syntax.specs.Expressions.{one_or_more_selectors, more_items, more_entries, whole_string, string_parts, join_pieces, a_list, a_map}
use Rattle.token_codes.specs.Codes.{class_of, names, atoms, heads, creations, whole_code, middle_code, tail_code, sign_code, word_code, these, this_word}
use Rattle.token_codes.specs.Leaves.{sign, word, identifier, dot_name, label, atom, creation, piece, head}
use Rattle.syntax_readers.specs.Combinators.{◌~◌, made₂, made₃, made₄, past_name, behind_brackets, Open, with_half, shut}
use Rattle.syntax_readers.specs.Types.{two_types, type_arguments}

-- the readers of the nodes that expressions are made of, each no deeper than some number of nodes
pub record ExprReaders : Type 0 where
  pub type : Reader Token TypeNode
  pub expr : Reader Token (Open Expr)
  pub without : Reader Token (Open Expr)
  pub cascade : Reader Token (Open (Place × (Selectors × Value)))
  pub collection : Reader Token Primary
  pub function : Reader Token (Open Primary)
  pub arguments : Reader Token Arguments
  pub parameters : Reader Token Parameters
  pub block : Reader Token Block

-- what begins a string, an operand and an expression
abbrev pub string_first : List ℕ
string_first = whole_code ∷ heads

abbrev pub operand_first : List ℕ
operand_first = atoms ++ string_first ++ creations ++ word_code w.Super
    ∷ sign_code s.LeftParenthesis
    ∷ sign_code s.LeftBracket ∷ sign_code s.LeftBrace ∷ sign_code s.Less ∷ sign_code s.Minus
    ∷ sign_code s.Tilde
    ∷ sign_code s.Bang ∷ sign_code s.PlusPlus ∷ sign_code s.MinusMinus ∷ []

abbrev pub expr_first : List ℕ
expr_first = word_code w.Throw ∷ operand_first

-- an expression or none
abbrev pub value_of : Option Expr → Value
value_of None = t.omitted
value_of (Some e) = t.given None e

unfoldable pub maybe_expr : Reader Token Expr → Reader Token Value
maybe_expr expr = mapped value_of (option class_of expr_first expr)

-- ---- strings (16.5 Strings)

-- one without expressions, and one with an expression behind its head and behind each middle
unfoldable pub whole_text : Reader Token Pieces
whole_text = mapped whole_string (piece whole_code)

unfoldable pub parted_text : Reader Token Expr → Reader Token Pieces
parted_text expr = made₂ string_parts ((head ~ expr)
    ~ many class_of always (middle_code ∷ []) (piece middle_code ~ expr) ~ piece tail_code)

unfoldable pub one_string : Reader Token Expr → Reader Token Pieces
one_string expr = by_first class_of (whole_code ∷ []) whole_text (parted_text expr)

-- stringLiteral: a string and its adjacent strings
unfoldable pub strings : Reader Token Expr → Reader Token Pieces
strings expr = mapped join_pieces
    (one_string expr ~ many class_of always string_first (one_string expr))

-- ---- arguments

-- an expression, behind a label or not
abbrev pub Argument : Type 0
Argument = Option Label × Expr

abbrev pub is_labelled : Argument → Bool
is_labelled (None, e) = false
is_labelled (Some name, e) = true

abbrev pub more_arguments : List (Place × Argument) → Items
more_arguments [] = t.no_items
more_arguments ((comma, (name, e)) ∷ more) = t.item (Some comma) name e (more_arguments more)

abbrev pub to_arguments : Option (Argument × List (Place × Argument)) → Items
to_arguments None = t.no_items
to_arguments (Some ((name, e), more)) = t.item None name e (more_arguments more)

-- namedArgument: label expression
unfoldable pub named_argument : Reader Token Expr → Reader Token Argument
named_argument expr = made₂ (λ name e. (Some name, e)) (label ~ expr)

-- one of them; behind a named one only another may stand
unfoldable pub argument : Reader Token Expr → Bool → Reader Token Argument
argument expr true = named_argument expr
argument expr false = by_two class_of names (these s.Colon) (named_argument expr)
    (past_name (mapped (λ e. (None, e)) expr))

unfoldable pub argument_list : Reader Token Expr → Reader Token (Argument × List (Place × Argument))
argument_list expr = both_by (argument expr false) (λ x.
    many_from class_of (λ named. these s.Comma) (λ named. sign s.Comma ~ argument expr named)
    (λ named y. true) (λ named y. is_labelled y.1) (is_labelled x))

-- arguments: ( [argumentList] ) (16.14.1 Actual Argument List Evaluation)
unfoldable pub arguments_over : Reader Token Expr → Reader Token Arguments
arguments_over expr = made₃ (λ opening items closing. t.the_arguments opening
    (to_arguments items) closing)
    (sign s.LeftParenthesis ~ option class_of expr_first (argument_list expr)
    ~ sign s.RightParenthesis)

-- ---- lists and maps

abbrev pub to_list : Option (Expr × (List (Place × Expr) × Option Place)) → Items × Option Place
to_list None = (t.no_items, None)
to_list (Some (first, (more, comma))) = (t.item None None first (more_items more t.no_items), comma)

abbrev pub Entry : Type 0
Entry = Expr × (Place × Expr)

abbrev pub to_map : Option (Entry × (List (Place × Entry) × Option Place)) → Entries × Option Place
to_map None = (t.no_entries, None)
to_map (Some ((key, (colon, value)), (more, comma))) = (
  t.entry None key colon value
      (more_entries more),
  comma,
)

-- [expressionList [,]]
unfoldable pub list_items : Reader Token Expr → Reader Token (Items × Option Place)
list_items expr = mapped to_list (option class_of expr_first
    (expr ~ trailed class_of (these s.Comma) expr_first (sign s.Comma) expr))

-- mapLiteralEntry: expression : expression
unfoldable pub entry : Reader Token Expr → Reader Token Entry
entry expr = expr ~ sign s.Colon ~ expr

-- [mapLiteralEntry {, mapLiteralEntry} [,]]
unfoldable pub map_entries : Reader Token Expr → Reader Token (Entries × Option Place)
map_entries expr = mapped to_map (option class_of expr_first
    (entry expr ~ trailed class_of (these s.Comma) expr_first (sign s.Comma) (entry expr)))

-- listLiteral: [< type >] [ [expressionList [,]] ] (16.7 Lists)
unfoldable pub list_over : Reader Token TypeNode → Reader Token Expr → Reader Token Primary
list_over type expr = made₄ a_list
    (type_arguments (mapped (λ x. type_more None x no_more_types) type)
    ~ sign s.LeftBracket ~ list_items expr ~ sign s.RightBracket)

-- mapLiteral: [< type , type >] { [mapLiteralEntry {, mapLiteralEntry} [,]] } (16.8 Maps)
unfoldable pub map_over : Reader Token TypeNode → Reader Token Expr → Reader Token Primary
map_over type expr = made₄ a_map
    (type_arguments (two_types type) ~ sign s.LeftBrace ~ map_entries expr ~ sign s.RightBrace)

-- one of them: behind `<` both begin alike
unfoldable pub collection_over : Reader Token TypeNode → Reader Token Expr → Reader Token Primary
collection_over type expr = by_first class_of (these s.LeftBracket) (list_over type expr)
    (by_first class_of (these s.LeftBrace) (map_over type expr)
    (tried (list_over type expr) (map_over type expr)))

-- ---- function literals

-- functionExpressionBody: => expression | block
unfoldable pub literal_body : Reader Token (Open Expr) → Reader Token Block →
    Reader Token (Open Body)
literal_body expr block = by_first class_of (these s.Arrow)
    (made₂ (λ arrow. with_half (λ value. t.arrow_body arrow value None)) (sign s.Arrow ~ expr))
    (shut (mapped t.block_body block))

-- functionExpression: formalParameterList functionExpressionBody (16.10 Function Expressions)
unfoldable pub function_literal_over : ExprReaders → Reader Token (Open Primary)
function_literal_over inner = made₂ (λ parameters. with_half (t.function_literal parameters))
    (inner.parameters ~ literal_body inner.expr inner.block)

-- ---- selectors (16.14 to 16.18)

abbrev pub selector_first : List ℕ
selector_first = sign_code s.Dot ∷ sign_code s.LeftBracket ∷ sign_code s.LeftParenthesis ∷ []

-- [ expression ]
unfoldable pub index : Reader Token Expr → Reader Token Selector
index expr = made₃ t.index (sign s.LeftBracket ~ expr ~ sign s.RightBracket)

-- . id
unfoldable pub member : Reader Token Selector
member = made₂ (λ dot name. t.member (Some dot) name) (sign s.Dot ~ identifier)

-- selector: . id | [ expression ] | arguments
unfoldable pub selector : ExprReaders → Reader Token Selector
selector here = by_first class_of (these s.Dot) member
    (by_first class_of (these s.LeftBracket) (index (strict here.expr))
    (mapped t.call here.arguments))

unfoldable pub selectors : ExprReaders → Reader Token (List Selector)
selectors here = some class_of always selector_first (selector here)

-- cascadeSelector {selector}, where cascadeSelector: id | [ expression ]
unfoldable pub section_over : ExprReaders → Reader Token Selectors
section_over inner = mapped one_or_more_selectors
    (by_first class_of names (mapped (λ name. t.member None name) identifier)
    (index (strict inner.expr))
    ~ many class_of always selector_first (selector inner))

-- ---- primaries

-- `super` is an operand by itself where an operator follows
abbrev pub a_super : Place × Option Selector → Primary
a_super (word, None) = t.bare_super word
a_super (word, Some x) = t.super_access word x

unfoldable pub super : ExprReaders → Reader Token Primary
super here = mapped a_super (followed class_of always selector_first (word w.Super) (selector here))

-- newExpression: new type [. id] arguments (16.12.1 New)
-- constObjectExpression: const type [. id] arguments (16.12.2 Const)
unfoldable pub object : ExprReaders → Reader Token Primary
object here = made₄ t.new_object
    (creation ~ here.type ~ option class_of (these s.Dot) dot_name ~ here.arguments)

-- ( expression )
unfoldable pub parenthesized : Reader Token Expr → Reader Token Primary
parenthesized expr = made₃ t.parenthesized (sign s.LeftParenthesis ~ expr ~ sign s.RightParenthesis)

-- behind the bracket that closes comes the body of a function
abbrev pub body_comes : List Token → Bool
body_comes ts = starts class_of (sign_code s.Arrow ∷ sign_code s.LeftBrace ∷ []) ts

abbrev pub is_function : List Token → Bool
is_function ts = body_comes (behind_brackets ts)

-- a function literal, or an expression in parentheses
unfoldable pub parenthesis : ExprReaders → Reader Token (Open Primary)
parenthesis here = either is_function
    (sought here.function (shut (parenthesized (strict here.expr))))
    (tried (shut (parenthesized (strict here.expr))) here.function)

-- primary: this | super selector | literal | id | listLiteral | mapLiteral | functionExpression
--     | newExpression | constObjectExpression | ( expression ) (16 Expressions); and `super`
unfoldable pub primary : ExprReaders → Reader Token (Open Primary)
primary here = by_first class_of atoms (shut (mapped t.atom atom))
    (by_first class_of string_first (shut (mapped t.text (strings (strict here.expr))))
    (by_first class_of (this_word w.Super) (shut (super here))
    (by_first class_of creations (shut (object here))
    (by_first class_of (these s.LeftParenthesis) (parenthesis here) (shut here.collection)))))
