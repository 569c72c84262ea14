-- What contracts see of the parts of primaries, and the readers of these parts.
use Rattle.std.specs.Prelude.{◌≡◌, ℕ, ◌+◌, ◌≤◌, List, ◌∷◌, map, Option, None, Some, Result, Ok, Err}
use Rattle.std.specs.Global.{Vec}
use Rattle.dart_base.specs.declared.place.Place.{Place}
use Rattle.dart_token.specs.declared.sign.Sign.TheVariants as s
use Rattle.dart_token.specs.declared.word.Word.TheVariants as w
use Rattle.dart_token.specs.declared.token.Token.{Token}
use Rattle.dart_tree.specs.declared.expression.Expr.{Expr}
use Rattle.dart_tree.specs.declared.expression.Item.{Item}
use Rattle.dart_tree.specs.declared.expression.Primary.{Primary}
use Rattle.dart_tree.specs.declared.expression.Selector.{Selector}
use Rattle.dart_tree.specs.declared.identifier.Label.{Label}
use Rattle.dart_tree.specs.declared.statement.Body.{Body}
use Rattle.dart_tree.specs.Depth as height
use Rattle.dart_tree.specs.Lists.{items_of, selectors_of}
use Rattle.dart_tree.specs.Tree as t
use Rattle.dart_tree.specs.View as view
use Rattle.dart_syntax.specs.Expressions.{to_selectors}
use Rattle.grammar_laws.specs.Readers.{Reader, mapped, many, always, option, by_first, followed, Outcome}
use Rattle.token_codes.specs.Codes.{class_of, these, names, creations}
use Rattle.token_codes.specs.Leaves.{sign, identifier, atom, word}
use Rattle.token_cursor.specs.declared.error.ReadFault.{ReadFault}
use Rattle.token_cursor.specs.declared.error.ReadFault.TheVariants.{Stuck, Memory}
use Rattle.syntax_readers.specs.Combinators.{◌~◌, made₂, made₃, Open, with_half, shut}
use Rattle.syntax_readers.specs.Primaries as p
use Rattle.syntax_readers.specs.Primaries.{Argument, to_arguments, argument_list, expr_first, selector_first, selector, index, strings, object, parenthesized, parenthesis}
use Rattle.parse_nest.specs.Open.{opened, open_height}
use Rattle.parse_nest.specs.Stages.{closed_at, exprs_at}

-- ---- arguments

abbrev pub view_items : Vec Item → t.Items
view_items v = items_of v.items

abbrev pub argument_of : Option Label × Expr → Argument
argument_of x = (x.0, view.expr x.1)

abbrev pub argument_height : Argument → ℕ
argument_height x = height.expr_height x.1

abbrev pub comma_argument_of : Place × (Option Label × Expr) → Place × Argument
comma_argument_of x = (x.0, argument_of x.1)

abbrev pub comma_argument_height : Place × Argument → ℕ
comma_argument_height x = argument_height x.1

abbrev pub unlabelled : Reader Token t.Expr → Reader Token Argument
unlabelled expr = mapped (λ e. (None, e)) expr

abbrev pub some_arguments : Reader Token t.Expr → Reader Token t.Items
some_arguments expr = mapped (λ x. to_arguments (Some x)) (argument_list expr)

abbrev pub maybe_arguments : Reader Token t.Expr → Reader Token t.Items
maybe_arguments expr = mapped to_arguments (option class_of expr_first (argument_list expr))

-- ---- selectors

abbrev pub view_selectors : Vec Selector → List t.Selector
view_selectors v = map view.selector v.items

abbrev pub selectors_high : List t.Selector → ℕ
selectors_high l = height.selectors_height (to_selectors l)

-- this one and those behind it
abbrev pub selectors_behind : ℕ → t.Selector → Reader Token (List t.Selector)
selectors_behind depth first = mapped (λ more. first ∷ more) (many class_of always selector_first (selector (exprs_at depth)))

-- what a cascade begins with
abbrev pub bare_member : Reader Token t.Selector
bare_member = mapped (λ name. t.member None name) identifier

abbrev pub section_start : ℕ → Reader Token t.Selector
section_start depth = by_first class_of names bare_member (index (closed_at depth))

abbrev pub view_section : Vec Selector → t.Selectors
view_section v = selectors_of v.items

-- ---- arguments in parentheses, of which the items are the list of a tree

abbrev pub arguments_of : Reader Token t.Expr → Reader Token t.Arguments
arguments_of expr = made₃ t.the_arguments (sign s.LeftParenthesis ~ maybe_arguments expr ~ sign s.RightParenthesis)

-- ---- function literals

abbrev pub open_body : Body × Option Place → Open t.Body
open_body = opened view.body

abbrev pub open_body_height : Open t.Body → ℕ
open_body_height = open_height height.body_height

abbrev pub open_primary : Primary × Option Place → Open t.Primary
open_primary = opened view.primary

abbrev pub open_primary_height : Open t.Primary → ℕ
open_primary_height = open_height height.primary_height

abbrev pub arrow_body : Reader Token (Open t.Expr) → Reader Token (Open t.Body)
arrow_body expr = made₂ (λ arrow. with_half (λ value. t.arrow_body arrow value None)) (sign s.Arrow ~ expr)

abbrev pub braced_body : Reader Token t.Block → Reader Token (Open t.Body)
braced_body block = shut (mapped t.block_body block)

-- ---- primaries, behind most of which no half of an operator stands

abbrev pub an_atom : Reader Token (Open t.Primary)
an_atom = shut (mapped t.atom atom)

abbrev pub a_text : ℕ → Reader Token (Open t.Primary)
a_text depth = shut (mapped t.text (strings (closed_at depth)))

abbrev pub an_object : ℕ → Reader Token (Open t.Primary)
an_object depth = shut (object (exprs_at depth))

abbrev pub closed_parenthesis : ℕ → Reader Token (Open t.Primary)
closed_parenthesis depth = shut (parenthesized (closed_at depth))

abbrev pub a_collection : ℕ → Reader Token (Open t.Primary)
a_collection depth = shut (exprs_at depth).collection

-- `super` with a selector, or alone
abbrev pub a_super : ℕ → Reader Token t.Primary
a_super depth = mapped p.a_super (followed class_of always selector_first (word w.Super) (selector (exprs_at depth)))

-- one that begins with none of the codes of atoms, strings and `super`
abbrev pub other_primary : ℕ → Reader Token (Open t.Primary)
other_primary depth = by_first class_of creations (an_object depth)
    (by_first class_of (these s.LeftParenthesis) (parenthesis (exprs_at depth)) (a_collection depth))

-- `super` alone is a node where there is room for none, too
abbrev pub bare_room : t.Primary → ℕ
bare_room (t.bare_super word) = 1
bare_room x = 0

abbrev pub GivesBare : ℕ → Outcome Token t.Primary → Result (Primary × ℕ) ReadFault → List Token → Type 0
GivesBare depth outcome (Ok x) new =
    (outcome ≡ Ok (view.primary x.0, new)) × (x.1 ≡ height.primary_height (view.primary x.0)) × (x.1 ≤ depth + bare_room (view.primary x.0))
GivesBare depth outcome (Err Stuck) new = outcome ≡ Err new
GivesBare depth outcome (Err Memory) new = Unit {0}

abbrev pub GivesPrimary : ℕ → Outcome Token (Open t.Primary) → Result ((Primary × Option Place) × ℕ) ReadFault → List Token → Type 0
GivesPrimary depth outcome (Ok x) new =
    (outcome ≡ Ok (open_primary x.0, new)) × (x.1 ≡ height.primary_height (view.primary x.0.0)) × (x.1 ≤ depth + bare_room (view.primary x.0.0))
GivesPrimary depth outcome (Err Stuck) new = outcome ≡ Err new
GivesPrimary depth outcome (Err Memory) new = Unit {0}
