-- Readers of operands, by rows of operators (ECMA-408, 16.20 to 16.31). `here` reads the operands
-- of the row before, which have
-- room for n nodes, and `lower` those of a row with room for one node less. A first operand may be
-- `super` alone.
use Rattle.std.specs.Prelude.{ℕ, zero, suc, Bool, true, false, not, ◌&&◌, if◌then◌else◌, List, [], ◌∷◌, ◌++◌, Option, Some, None}
use Rattle.dart_base.specs.declared.place.Place.{Place}
use Rattle.dart_token.specs.declared.token.Token.{Token}
use Rattle.dart_token.specs.declared.sign.Sign.{Sign}
use Rattle.dart_token.specs.declared.sign.Sign.TheVariants as s
use Rattle.dart_token.specs.declared.word.Word.TheVariants as w
use Rattle.dart_tree.specs.declared.operator.Operator.{Operator}
use Rattle.dart_tree.specs.declared.operator.Operator.TheVariants as o
use Rattle.dart_tree.specs.Depth.{operand_height, primary_height}
use Rattle.dart_tree.specs.Types.{TypeNode}
use Rattle.dart_tree.specs.Tree as t
use Rattle.dart_tree.specs.Tree.{Expr, Operand, Primary, Selector}
use Rattle.grammar_laws.specs.Codes.{given, is_empty}
use Rattle.grammar_laws.specs.Depth.{is_below}
use Rattle.grammar_laws.specs.Readers.{Reader, always, never, mapped, checked, option, followed, continued_by, some, some_from, by_first}
use Rattle.grammar_laws.specs.Halves.{no_half, strict}
use Rattle.dart_syntax.specs.Edges.{question, compares, opens_dot, opens_nothing, leaves, leaves_less, primary_leaves}
use Rattle.dart_syntax.specs.Expressions.{to_selectors, primary_assigns, selectors_assign, Row, chained, shifts, single, comparison, logical, choice, no_row, rows, row_at}
use Rattle.dart_syntax.specs.Levels.{sign_level}
use Rattle.token_codes.specs.Codes.{class_of, sign_code, word_code, these, this_word, sign_codes}
use Rattle.token_codes.specs.Leaves.{sign, word, signed, one_of}
use Rattle.syntax_readers.specs.Combinators.{◌~◌, made₂, made₃, Open, with_half, halved}
use Rattle.syntax_readers.specs.Primaries.{ExprReaders, operand_first, selectors, primary}

-- ---- postfix expressions and targets (16.31 Postfix Expressions, 16.32 Assignable Expressions)

-- an operand that an assignment, `++` or `--` may have
abbrev pub assigns : Operand → Bool
assigns (t.primary x) = primary_assigns x
assigns (t.postfix x selectors None) = selectors_assign selectors
assigns x = false

-- the selectors that may stand behind a primary
abbrev pub selects : ℕ → Open Primary → List ℕ
selects n (x, Some half) = []
selects n (x, None) = given (is_below primary_height n x)
    (given (primary_leaves opens_dot x) (these s.Dot)
    ++ given (primary_leaves opens_nothing x)
    (sign_code s.LeftBracket ∷ sign_code s.LeftParenthesis ∷ []))

abbrev pub selected_of : Open Primary × Option (List Selector) → Open Operand
selected_of (x, None) = with_half t.primary x
selected_of (x, Some selectors) = (t.postfix x.0 (to_selectors selectors) None, None)

-- primary {selector}
unfoldable pub selected : ℕ → Reader Token (Open Primary) → Reader Token (List Selector) →
    Reader Token (Open Operand)
selected n primary selectors = mapped selected_of
    (continued_by class_of never always (selects n) primary (λ x. selectors))

-- assignableExpression: id | primary {selector} (. id | [ expression ]) | super (. id | [
-- expression ])
unfoldable pub target : Reader Token (Open Operand) → Reader Token (Open Operand)
target selected = checked (λ x. assigns x.0) selected

-- incrementOperator: ++ | --
abbrev pub step_signs : List Sign
step_signs = s.PlusPlus ∷ s.MinusMinus ∷ []

-- it may stand behind this: with selectors the node is there already
abbrev pub steps_behind : ℕ → Open Operand → Bool
steps_behind n (t.primary x, half) = primary_assigns x && is_below primary_height n x
steps_behind n (x, half) = assigns x

abbrev pub stepped : Open Operand × Option Operator → Open Operand
stepped (x, None) = x
stepped ((t.primary x, half), Some operator) = (t.postfix x t.no_selectors (Some operator), None)
stepped ((t.postfix x selectors before, half), Some operator) =
    (t.postfix x selectors (Some operator), None)
stepped (x, Some operator) = x

-- postfixExpression: primary {selector} | assignableExpression incrementOperator
unfoldable pub postfix : ℕ → Reader Token (Open Operand) → Reader Token (Open Operand)
postfix n selected = mapped stepped
    (followed class_of (steps_behind n) (sign_codes step_signs) selected (one_of step_signs))

-- ---- unary expressions (16.29 Unary Expressions)

abbrev pub is_bare : Operand → Bool
is_bare (t.primary (t.bare_super word)) = true
is_bare x = false

-- not `super` alone
unfoldable pub whole : Reader Token (Open Operand) → Reader Token (Open Operand)
whole operand = checked (λ x. not (is_bare x.0)) operand

unfoldable pub prefixed : List Sign → Reader Token (Open Operand) → Reader Token (Open Operand)
prefixed signs operand = made₂ (λ operator. with_half (t.prefix operator)) (one_of signs ~ operand)

abbrev pub negating : List Sign
negating = s.Minus ∷ s.Tilde ∷ []

-- unaryExpression: (- | ~) unaryExpression | (- | ~) super | ! unaryExpression
--     | incrementOperator assignableExpression | postfixExpression
unfoldable pub unary : Reader Token (Open Operand) → Reader Token (Open Operand) →
    Reader Token (Open Operand) → Reader Token (Open Operand)
unary postfix lower target = by_first class_of (sign_codes negating) (prefixed negating lower)
    (by_first class_of (these s.Bang) (prefixed (s.Bang ∷ []) (whole lower))
    (by_first class_of (sign_codes step_signs) (prefixed step_signs target) postfix))

-- ---- rows of operators

-- an operator with its operand
abbrev pub Item : Type 0
Item = Operator × Open Operand

-- there is room for the operator's node, and what stands before it does not take what binds so
abbrev pub has_room : ℕ → Open Operand → Bool
has_room n x = is_below operand_height n x.0

abbrev pub item_leaves : ℕ → Item → Bool
item_leaves next x = leaves next x.1.0

-- operands in a row, of which the last may be open
abbrev pub to_tails : List Item → Open t.Tails
to_tails [] = (t.no_tails, None)
to_tails ((operator, (x, half)) ∷ more) =
    (t.tail operator x (to_tails more).0, if is_empty more then half else (to_tails more).1)

abbrev pub joined : Open Operand × Option (List Item) → Open Operand
joined (x, None) = x
joined (x, Some more) = with_half (t.binary x.0) (to_tails more)

-- operators of one sign, one of these, with operands between them
unfoldable pub chain : ℕ → ℕ → List Sign → Reader Token (Open Operand) → Reader Token (Open Operand) →
    Reader Token (Open Operand)
chain next n signs here lower = mapped joined (followed class_of
    (λ x. no_half x && has_room n x && leaves next x.0) (sign_codes signs) here
    (some class_of (λ x. no_half x.1 && item_leaves next x) (sign_codes signs)
    (one_of signs ~ whole lower)))

-- one operator at most, and from here on no `super` alone
abbrev pub joined_once : Open Operand × Option Item → Open Operand
joined_once (x, None) = x
joined_once (x, Some (operator, y)) = with_half (λ z. t.binary x.0 (t.tail operator z t.no_tails)) y

unfoldable pub once : ℕ → ℕ → List Sign → Reader Token (Open Operand) → Reader Token (Open Operand) →
    Reader Token (Open Operand)
once next n signs here lower = whole (mapped joined_once (followed class_of
    (λ x. no_half x && has_room n x && leaves next x.0)
    (sign_codes signs) here (one_of signs ~ whole lower)))

-- ---- shifts: << | > > (16.26 Shift)

-- behind a half the other half, and else `<<`
abbrev pub shift_codes : Option Place → List ℕ
shift_codes None = these s.ShiftLeft
shift_codes (Some greater) = these s.Greater

unfoldable pub shift_operator : Option Place → Reader Token Operator
shift_operator None = signed s.ShiftLeft
shift_operator (Some greater) = mapped (o.ShiftRight greater) (sign s.Greater)

unfoldable pub shift_tails : Option Place → Reader Token (Open Operand) → Reader Token (List Item)
shift_tails half lower = some_from class_of shift_codes
    (λ half. shift_operator half ~ halved (leaves (sign_level s.ShiftLeft)) (whole lower))
    (λ half x. item_leaves (sign_level s.ShiftLeft) x) (λ half x. x.1.1) half

unfoldable pub shift : ℕ → Reader Token (Open Operand) → Reader Token (Open Operand) →
    Reader Token (Open Operand)
shift n here lower = mapped joined
    (continued_by class_of never (λ x. has_room n x && leaves (sign_level s.ShiftLeft) x.0)
    (λ x. shift_codes x.1)
    (halved (λ x. is_below operand_height n x && leaves (sign_level s.ShiftLeft) x) here)
    (λ x. shift_tails x.1 lower))

-- ---- comparisons: < > <= >=, is [!] type, as type (16.24 Relational, 16.34 Type Test, 16.35 Type
-- Cast)

pub data Compared : Type 0 where
  compared : Operator → Open Operand → Compared
  tested : Place → Option Place → TypeNode → Compared
  cast : Place → TypeNode → Compared

abbrev pub joined_compared : Open Operand × Option Compared → Open Operand
joined_compared (x, None) = x
joined_compared (x, Some (compared operator y)) = with_half (λ z. t.binary x.0
    (t.tail operator z t.no_tails)) y
joined_compared (x, Some (tested word bang of)) = (t.is_type x.0 word bang of, None)
joined_compared (x, Some (cast word of)) = (t.as_type x.0 word of, None)

abbrev pub comparing : List Sign
comparing = s.Less ∷ s.Greater ∷ s.LessEqual ∷ s.GreaterEqual ∷ []

-- behind a half an operand, and else an operator: `<` behind a type's name opens its arguments, and
-- `super` alone is never
-- tested or cast
abbrev pub compare_codes : ℕ → Open Operand → List ℕ
compare_codes n (x, Some greater) = given (is_below operand_height n x
    && leaves compares x) operand_first
compare_codes n (x, None) = given (is_below operand_height n x)
    (given (leaves_less x) (these s.Less)
    ++ given (leaves compares x)
    (sign_code s.Greater ∷ sign_code s.LessEqual ∷ sign_code s.GreaterEqual ∷ [])
    ++ given (leaves compares x && not (is_bare x)) (word_code w.Is ∷ word_code w.As ∷ []))

unfoldable pub compared_with : Option Place → Reader Token TypeNode → Reader Token (Open Operand) →
    Reader Token Compared
compared_with (Some greater) type lower = mapped (compared (o.Sign greater s.Greater)) (whole lower)
compared_with None type lower =
    by_first class_of (this_word w.Is)
    (made₃ tested (word w.Is ~ option class_of (these s.Bang) (sign s.Bang) ~ type))
    (by_first class_of (this_word w.As) (made₂ cast (word w.As ~ type))
    (made₂ compared (one_of comparing ~ whole lower)))

unfoldable pub relational : ℕ → Reader Token TypeNode → Reader Token (Open Operand) →
    Reader Token (Open Operand) → Reader Token (Open Operand)
relational n type here lower = mapped joined_compared
    (continued_by class_of never always (compare_codes n) here (λ x. compared_with x.1 type lower))

-- ---- conditionalExpression: logicalOrExpression [? expressionWithoutCascade :
-- expressionWithoutCascade] (16.20)

abbrev pub joined_conditional : Open Operand × Option (Place × (Expr × (Place × Open Expr))) →
    Open Operand
joined_conditional (x, None) = x
joined_conditional (x, Some (mark, (first, (colon, second)))) = with_half
    (t.conditional x.0 mark first colon) second

unfoldable pub conditional : ℕ → Reader Token (Open Expr) → Reader Token (Open Operand) →
    Reader Token (Open Operand)
conditional n without here = mapped joined_conditional
    (followed class_of (λ x. no_half x && has_room n x && leaves question x.0)
    (these s.Question) here
    (sign s.Question ~ strict without ~ sign s.Colon ~ without))

-- ---- the rows, as the grammar numbers them

-- one row: what it adds to the row before
unfoldable pub row_over : ℕ → ExprReaders → Row → Reader Token (Open Operand) →
    Reader Token (Open Operand) → Reader Token (Open Operand)
row_over n inner (chained sign more) here lower = chain (sign_level sign) n (sign ∷ more) here lower
row_over n inner shifts here lower = shift n here lower
row_over n inner (single sign more) here lower = once (sign_level sign) n (sign ∷ more) here lower
row_over n inner comparison here lower = relational n inner.type here lower
row_over n inner (logical sign) here lower = chain (sign_level sign) n (sign ∷ []) here lower
row_over n inner choice here lower = conditional n inner.without here
row_over n inner no_row here lower = here

-- the rows up to one of this number, from unary expressions on
unfoldable pub rows_over : ℕ → ExprReaders → Reader Token (Open Operand) → (ℕ →
    Reader Token (Open Operand)) → ℕ → Reader Token (Open Operand)
rows_over n inner unary lower zero = unary
rows_over n inner unary lower (suc i) = row_over n inner (row_at rows i)
    (rows_over n inner unary lower i) (lower i)

-- the readers of targets and of each row, for operands with room for some number of nodes
pub record LevelReaders : Type 0 where
  pub target : Reader Token (Open Operand)
  pub row : ℕ → Reader Token (Open Operand)

-- for n nodes, over the nodes of the same depth, and over those and the rows of one node less
unfoldable pub levels_over : ℕ → ExprReaders → ExprReaders → LevelReaders → LevelReaders
levels_over n here inner lower =
    let first = selected n (primary here) (selectors inner) in
    record {
      target = target first;
      row = rows_over n inner (unary (postfix n first) (lower.row 0) lower.target) lower.row;
    }

-- where there is no room for a node: an operand is a primary
unfoldable pub flat_levels : ExprReaders → LevelReaders
flat_levels here =
    let first = mapped (with_half t.primary) (primary here) in
    record { target = target first; row = λ i. whole first }
