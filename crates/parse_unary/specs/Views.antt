-- What contracts see of operands up to unary expressions, and the readers of them by the number of nodes above one another.
use Rattle.std.specs.Prelude.{◌≡◌, ℕ, zero, suc, ◌+◌, ◌≤◌, Bool, false, List, [], ◌∷◌, ◌++◌, Option, None, Some, Result, Ok, Err}
use Rattle.std.specs.Global.{Vec}
use Rattle.dart_base.specs.declared.place.Place.{Place}
use Rattle.dart_token.specs.declared.sign.Sign.TheVariants as s
use Rattle.dart_token.specs.declared.token.Token.{Token}
use Rattle.dart_tree.specs.declared.expression.Operand.{Operand}
use Rattle.dart_tree.specs.declared.expression.Primary.{Primary}
use Rattle.dart_tree.specs.declared.expression.Selector.{Selector}
use Rattle.dart_tree.specs.declared.operator.Operator.{Operator}
use Rattle.dart_tree.specs.Depth as height
use Rattle.dart_tree.specs.Lists.{selectors_of}
use Rattle.dart_tree.specs.Tree as t
use Rattle.dart_tree.specs.View as view
use Rattle.dart_syntax.specs.Edges.{opens_dot, opens_nothing, primary_leaves}
use Rattle.dart_syntax.specs.Expressions.{selectors_assign}
use Rattle.grammar_laws.specs.Codes.{given}
use Rattle.grammar_laws.specs.Readers.{Reader, Outcome, mapped}
use Rattle.token_codes.specs.Codes.{sign_code, these}
use Rattle.token_cursor.specs.declared.error.ReadFault.{ReadFault}
use Rattle.token_cursor.specs.declared.error.ReadFault.TheVariants.{Stuck, Memory}
use Rattle.syntax_readers.specs.Combinators.{Open, with_half}
use Rattle.syntax_readers.specs.Levels.{selected}
use Rattle.syntax_readers.specs.Primaries.{primary, selectors}
use Rattle.syntax_readers.specs.Statements.{stage}
use Rattle.parse_nest.specs.Open.{opened, open_height}
use Rattle.parse_primary.specs.Views.{bare_room}

abbrev pub open_operand : Operand × Option Place → Open t.Operand
open_operand = opened view.operand

abbrev pub open_operand_height : Open t.Operand → ℕ
open_operand_height = open_height height.operand_height

-- operands up to a row of operators, from unary expressions at 0 on
abbrev pub row_reader : ℕ → ℕ → Reader Token (Open t.Operand)
row_reader n row = (stage n).levels.row row

-- what may be assigned
abbrev pub target_reader : ℕ → Reader Token (Open t.Operand)
target_reader n = (stage n).levels.target

-- a primary with selectors behind it; where there is no room for a node, a primary
abbrev pub selected_reader : ℕ → Reader Token (Open t.Operand)
selected_reader zero = mapped (with_half t.primary) (primary (stage zero).nodes.exprs)
selected_reader (suc n) = selected (suc n) (primary (stage (suc n)).nodes.exprs) (selectors (stage n).nodes.exprs)

-- the selectors that a primary does not take itself
abbrev pub left_to_selectors : t.Primary → List ℕ
left_to_selectors x = given (primary_leaves opens_dot x) (these s.Dot)
    ++ given (primary_leaves opens_nothing x) (sign_code s.LeftBracket ∷ sign_code s.LeftParenthesis ∷ [])

-- `super` alone is a node where there is room for none, too
abbrev pub operand_room : t.Operand → ℕ
operand_room (t.primary x) = bare_room x
operand_room x = 0

-- the operand of its parts
abbrev pub selected_view : (Primary × Option Place) × Option (Vec Selector) → Open t.Operand
selected_view (x, None) = (t.primary (view.primary x.0), x.1)
selected_view (x, Some more) = (t.postfix (view.primary x.0) (selectors_of more.items) None, None)

abbrev pub selected_height : (Primary × Option Place) × Option (Vec Selector) → ℕ
selected_height x = height.operand_height (selected_view x).0

abbrev pub GivesSelected : ℕ → Outcome Token (Open t.Operand) → Result (((Primary × Option Place) × Option (Vec Selector)) × ℕ) ReadFault → List Token → Type 0
GivesSelected depth outcome (Ok x) new =
    (outcome ≡ Ok (selected_view x.0, new)) × (x.1 ≡ selected_height x.0) × (x.1 ≤ depth + operand_room (selected_view x.0).0)
GivesSelected depth outcome (Err Stuck) new = outcome ≡ Err new
GivesSelected depth outcome (Err Memory) new = Unit {0}

-- whether what has these selectors and this operator behind it may be assigned
abbrev pub postfix_assigns : Option Operator → t.Selectors → Bool
postfix_assigns None l = selectors_assign l
postfix_assigns (Some operator) l = false
