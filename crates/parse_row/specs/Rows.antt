-- What stands behind an operand of a row of operators: the reader of the next row, where that operand
-- was read.
use Rattle.std.specs.Prelude.{◌≡◌, ℕ, zero, suc, ◌≤◌, not, Bool, true, false, ◌&&◌, List, [], ◌∷◌, ◌++◌, Option, Some, None, Ok}
use Rattle.std.specs.Global.{Vec}
use Rattle.dart_base.specs.declared.place.Place.{Place}
use Rattle.dart_token.specs.declared.sign.Sign.{Sign}
use Rattle.dart_token.specs.declared.sign.Sign.TheVariants as s
use Rattle.dart_token.specs.declared.token.Token.{Token}
use Rattle.dart_token.specs.declared.word.Word.TheVariants as w
use Rattle.dart_tree.specs.declared.expression.Tail.{Tail}
use Rattle.dart_tree.specs.declared.operator.Operator.{Operator}
use Rattle.dart_tree.specs.declared.operator.Operator.TheVariants as o
use Rattle.dart_tree.specs.Depth as height
use Rattle.dart_tree.specs.Lists.{tails_of}
use Rattle.dart_tree.specs.Tree as t
use Rattle.dart_tree.specs.Tree.{Operand}
use Rattle.dart_tree.specs.View as view
use Rattle.dart_syntax.specs.Edges.{question, compares, leaves, leaves_less}
use Rattle.dart_syntax.specs.Expressions.{Row, chained, shifts, single, comparison, logical, choice, no_row, rows, row_at}
use Rattle.dart_syntax.specs.Levels.{sign_level}
use Rattle.grammar_laws.specs.Codes.{given}
use Rattle.grammar_laws.specs.Halves.{no_half, strict}
use Rattle.grammar_laws.specs.Readers.{Reader, Outcome, and_then, mapped, starts, option, some, some_from, many_turns, many_from_turns, prepend, either, by_first}
use Rattle.token_codes.specs.Codes.{class_of, sign_code, word_code, these, this_word, sign_codes}
use Rattle.token_codes.specs.Leaves.{sign, word, one_of}
use Rattle.syntax_readers.specs.Combinators.{◌~◌, always_gives, Open, with_half, halved}
use Rattle.syntax_readers.specs.Levels.{Item, to_tails, item_leaves, has_room, is_bare, whole, shift_codes, shift_operator, compare_codes, comparing, row_over}
use Rattle.syntax_readers.specs.Statements.{stage}
use Rattle.syntax_readers.specs.Types.{type_reader}
use Rattle.parse_nest.specs.Stages.{expr_at}
use Rattle.parse_unary.specs.Views.{row_reader}

-- ---- what stands behind an operand that was read

-- behind an operand of a row: what the next row gives
unfoldable pub behind : ℕ → ℕ → Open Operand → Reader Token (Open Operand)
behind zero row x = always_gives x
behind (suc n) row x = row_over (suc n) (stage n).nodes.exprs (row_at rows row) (always_gives x) (row_reader n row)

-- an operand of a row that is not `super` alone
unfoldable pub whole_row : ℕ → ℕ → Reader Token (Open Operand)
whole_row depth row = whole (row_reader depth row)

-- ---- rows of signs

abbrev pub signs_in : Row → List Sign
signs_in (chained sign more) = sign ∷ more
signs_in shifts = []
signs_in (single sign more) = sign ∷ more
signs_in comparison = []
signs_in (logical sign) = sign ∷ []
signs_in choice = []
signs_in no_row = []

-- how tightly they bind
abbrev pub binds_in : Row → ℕ
binds_in (chained sign more) = sign_level sign
binds_in shifts = 0
binds_in (single sign more) = sign_level sign
binds_in comparison = 0
binds_in (logical sign) = sign_level sign
binds_in choice = 0
binds_in no_row = 0

-- more than one of them may stand in a row
abbrev pub repeats_in : Row → Bool
repeats_in (single sign more) = false
repeats_in row = true

unfoldable pub row_signs : ℕ → List Sign
row_signs row = signs_in (row_at rows row)

unfoldable pub row_binds : ℕ → ℕ
row_binds row = binds_in (row_at rows row)

unfoldable pub row_repeats : ℕ → Bool
row_repeats row = repeats_in (row_at rows row)

abbrev pub row_codes : ℕ → List ℕ
row_codes row = sign_codes (row_signs row)

-- the first operand may stand before an operator that binds so
abbrev pub stands_before : ℕ → ℕ → Open Operand → Bool
stands_before next depth x = no_half x && has_room depth x && leaves next x.0

-- and another one behind an operand
abbrev pub repeats_behind : ℕ → Open Operand → Bool
repeats_behind row x = row_repeats row && (no_half x && leaves (row_binds row) x.0)

abbrev pub item_repeats : ℕ → Item → Bool
item_repeats row x = repeats_behind row x.1

unfoldable pub item : ℕ → ℕ → Reader Token Item
item depth row = one_of (row_signs row) ~ whole_row depth row

unfoldable pub tails_behind : ℕ → ℕ → Reader Token (Open t.Tails)
tails_behind depth row = mapped to_tails (some class_of (item_repeats row) (row_codes row) (item depth row))

-- the operators of the row with their operands behind the first operand, with room for so many nodes,
-- and under it for so many
unfoldable pub sign_row : ℕ → ℕ → ℕ → Open Operand → Reader Token (Open Operand)
sign_row depth under row x = either
    (λ ts. stands_before (row_binds row) depth x && starts class_of (row_codes row) ts)
    (mapped (with_half (t.binary x.0)) (tails_behind under row)) (always_gives x)

-- ---- shifts

-- the half behind an operand, which a `>` begins where it may stand there
abbrev pub half_behind : Bool → Option Place → Reader Token (Option Place)
half_behind may (Some greater) = always_gives (Some greater)
half_behind false None = always_gives None
half_behind true None = option class_of (these s.Greater) (sign s.Greater)

abbrev pub leaves_shift : Operand → Bool
leaves_shift x = leaves (sign_level s.ShiftLeft) x

-- an operand with the half behind it
unfoldable pub halved_row : ℕ → ℕ → Reader Token (Open Operand)
halved_row depth row = halved leaves_shift (whole_row depth row)

unfoldable pub shift_item : ℕ → ℕ → Option Place → Reader Token Item
shift_item depth row half = shift_operator half ~ halved_row depth row

abbrev pub shift_leaves : Option Place → Item → Bool
shift_leaves half x = item_leaves (sign_level s.ShiftLeft) x

abbrev pub shift_step : Option Place → Item → Option Place
shift_step half x = x.1.1

unfoldable pub shifts_behind : ℕ → ℕ → Option Place → Reader Token (Open t.Tails)
shifts_behind depth row half = mapped to_tails
    (some_from class_of shift_codes (shift_item depth row) shift_leaves shift_step half)

abbrev pub may_shift : ℕ → Operand → Bool
may_shift depth x = has_room depth (x, None) && leaves_shift x

unfoldable pub shift_from : ℕ → ℕ → ℕ → Operand → Option Place → Reader Token (Open Operand)
shift_from depth under row x half = either
    (λ ts. may_shift depth x && starts class_of (shift_codes half) ts)
    (mapped (with_half (t.binary x)) (shifts_behind under row half)) (always_gives (x, half))

unfoldable pub shift_row : ℕ → ℕ → ℕ → Open Operand → Reader Token (Open Operand)
shift_row depth under row x ts = and_then (half_behind (may_shift depth x.0) x.1 ts)
    (λ half rest. shift_from depth under row x.0 half rest)

-- ---- comparisons

abbrev pub order_codes : List ℕ
order_codes = sign_code s.Greater ∷ sign_code s.LessEqual ∷ sign_code s.GreaterEqual ∷ []

abbrev pub test_codes : List ℕ
test_codes = word_code w.Is ∷ word_code w.As ∷ []

-- what may stand behind an operand that has no half
abbrev pub codes_behind : Operand → List ℕ
codes_behind x =
    given (leaves_less x) (these s.Less)
    ++ given (leaves compares x) order_codes
    ++ given (leaves compares x && not (is_bare x)) test_codes

-- one operator with its operand
abbrev pub with_one : Operand → Operator → Operand → Operand
with_one x operator y = t.binary x (t.tail operator y t.no_tails)

unfoldable pub one_behind : ℕ → ℕ → Operand → Operator → Reader Token (Open Operand)
one_behind depth row x operator = mapped (with_half (with_one x operator)) (whole_row depth row)

unfoldable pub operator_behind : ℕ → ℕ → Operand → Reader Token (Open Operand)
operator_behind depth row x ts = and_then (one_of comparing ts) (λ operator rest. one_behind depth row x operator rest)

-- a test and a cast
unfoldable pub tested_behind : ℕ → Operand → Reader Token (Open Operand)
tested_behind depth x = mapped (λ y. (t.is_type x y.0 y.1.0 y.1.1, None))
    (word w.Is ~ option class_of (these s.Bang) (sign s.Bang) ~ type_reader depth)

unfoldable pub cast_behind : ℕ → Operand → Reader Token (Open Operand)
cast_behind depth x = mapped (λ y. (t.as_type x y.0 y.1, None)) (word w.As ~ type_reader depth)

unfoldable pub compare_behind : ℕ → ℕ → Operand → Option Place → Reader Token (Open Operand)
compare_behind depth row x (Some greater) = one_behind depth row x (o.Sign greater s.Greater)
compare_behind depth row x None = by_first class_of (this_word w.Is) (tested_behind depth x)
    (by_first class_of (this_word w.As) (cast_behind depth x) (operator_behind depth row x))

unfoldable pub compare_row : ℕ → ℕ → ℕ → Open Operand → Reader Token (Open Operand)
compare_row depth under row x = either (starts class_of (compare_codes depth x))
    (compare_behind under row x.0 x.1) (always_gives x)

-- ---- conditionals

unfoldable pub choice_behind : ℕ → Operand → Reader Token (Open Operand)
choice_behind depth x = mapped (λ y. with_half (t.conditional x y.0 y.1.0 y.1.1.0) y.1.1.1)
    (sign s.Question ~ strict (expr_at depth false) ~ sign s.Colon ~ expr_at depth false)

unfoldable pub choice_row : ℕ → ℕ → Open Operand → Reader Token (Open Operand)
choice_row depth under x = either
    (λ ts. stands_before question depth x && starts class_of (these s.Question) ts)
    (choice_behind under x.0) (always_gives x)

-- ---- what contracts see of operators with their operands

abbrev pub view_item : Tail × Option Place → Item
view_item x = (x.0.operator, (view.operand x.0.operand, x.1))

abbrev pub item_height : Item → ℕ
item_height x = height.operand_height x.1.0

abbrev pub view_tails : Vec Tail × Option Place → Open t.Tails
view_tails x = (tails_of x.0.items, x.1)

abbrev pub open_tails_height : Open t.Tails → ℕ
open_tails_height x = height.tails_height x.0

-- ---- operands behind which no operator of any row comes

-- what may begin an operator of a row
abbrev pub codes_in : Row → List ℕ
codes_in (chained sign more) = sign_codes (sign ∷ more)
codes_in shifts = sign_code s.ShiftLeft ∷ these s.Greater
codes_in (single sign more) = sign_codes (sign ∷ more)
codes_in comparison = sign_codes comparing ++ test_codes
codes_in (logical sign) = these sign
codes_in choice = these s.Question
codes_in no_row = []

abbrev pub codes_of : List Row → List ℕ
codes_of [] = []
codes_of (row ∷ more) = codes_in row ++ codes_of more

-- and one of any row
abbrev pub operator_codes : List ℕ
operator_codes = codes_of rows

-- each row gives the operand alone: it has no half of an operator and is not `super` alone, and no operator comes
abbrev pub passes_rows : Open Operand → List Token → Bool
passes_rows x ts = no_half x && not (is_bare x.0) && not (starts class_of operator_codes ts)

-- ---- means of proof: the same codes in four parts

abbrev pub sum_codes : List ℕ
sum_codes = sign_codes (s.Star ∷ s.Slash ∷ s.TildeSlash ∷ s.Percent ∷ s.Plus ∷ s.Minus ∷ [])

abbrev pub bit_codes : List ℕ
bit_codes = sign_codes (s.ShiftLeft ∷ s.Greater ∷ s.Ampersand ∷ s.Caret ∷ s.Bar ∷ [])

abbrev pub comparison_codes : List ℕ
comparison_codes = sign_codes comparing ++ test_codes

abbrev pub choice_codes : List ℕ
choice_codes = sign_codes (s.EqualEqual ∷ s.NotEqual ∷ s.AndAnd ∷ s.OrOr ∷ s.Question ∷ [])

-- ---- means of proof: lists that a loop reads turn by turn

-- these operators with their operands were read, of which the last has this half, and this is left
pub record TailsSoFar (depth : ℕ) (whole : Outcome Token (Open t.Tails)) (found : List Tail) (half : Option Place)
    (highest : ℕ) (left : Outcome Token (List Item)) : Type 0 where
  pub items : List Item
  pub same : to_tails items ≡ (tails_of found, half)
  pub high : highest ≡ height.tails_height (tails_of found)
  pub low : highest ≤ depth
  pub read : whole ≡ and_then (prepend items left) (λ l rest. Ok (to_tails l, rest))

-- what is left where another one may stand, and where none may
abbrev pub left_of : ℕ → ℕ → Bool → ℕ → Reader Token (List Item)
left_of depth row true n = many_turns class_of (item_repeats row) (row_codes row) (item depth row) n
left_of depth row false n = always_gives []

abbrev pub left_from : ℕ → ℕ → Bool → Option Place → ℕ → Reader Token (List Item)
left_from depth row true half n = many_from_turns class_of shift_codes (shift_item depth row) shift_leaves shift_step n half
left_from depth row false half n = always_gives []

-- an operand of this row was read
pub record Climbed (depth row : ℕ) (start : List Token) (x : Open Operand) (high : ℕ) (rest : List Token) : Type 0 where
  pub read : row_reader depth row start ≡ Ok (x, rest)
  pub tall : high ≡ height.operand_height x.0
  pub low : high ≤ depth
