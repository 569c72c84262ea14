-- Which trees of the code may be assigned, and which selectors stand behind them.
use Rattle.std.proofs.Common.{◌≡◌, ℕ, ◌-◌, ◌<◌, ◌≤◌, length, get_or, Bool, true, false, ◌||◌, ◌&&◌, List, [], ◌∷◌, Option, Some, None, refl, ap, ap₂, ◌∙◌, arith}
use Rattle.dart_base.specs.declared.place.Place.{Place}
use Rattle.dart_token.specs.declared.sign.Sign.TheVariants as s
use Rattle.dart_token.specs.declared.token.Token.{Token}
use Rattle.dart_tree.specs.declared.expression.Selector.{Selector}
use Rattle.dart_tree.specs.declared.operator.Operator.{Operator}
use Rattle.dart_tree.specs.Depth as height
use Rattle.dart_tree.specs.Lists.{selectors_of}
use Rattle.dart_tree.specs.Tree as t
use Rattle.dart_tree.specs.View as view
use Rattle.dart_syntax.specs.Edges.{primary_leaves, opens_dot, opens_nothing}
use Rattle.dart_syntax.specs.Expressions.{assigns, last_assigns, selectors_assign}
use Rattle.grammar_laws.specs.Codes.{given}
use Rattle.grammar_laws.specs.Depth.{is_below}
use Rattle.grammar_laws.specs.Readers.{starts}
use Rattle.grammar_laws.proofs.Codes.{not_true}
use Rattle.grammar_laws.proofs.Depth.{below_is}
use Rattle.parse_type.proofs.Looking.{starts_either}
use Rattle.syntax_readers.specs.Levels.{selects, assigns as operand_assigns}
use Rattle.token_codes.specs.Codes.{class_of, sign_code, these, sign_codes}
use Rattle.parse_unary.specs.Views.{left_to_selectors, postfix_assigns}

-- ---- the last selector tells

last_is : (before : Bool) (x : Selector) (xs : List Selector) (d : Selector) → last_assigns before (selectors_of (x ∷ xs)) ≡ assigns (view.selector (get_or (x ∷ xs) (length xs) d))
last_is before x [] d = refl
last_is before x (y ∷ ys) d = last_is (assigns (view.selector x)) y ys d

pub selectors_last : (xs : List Selector) (n : ℕ) (d : Selector) → 0 < length xs → n ≡ length xs - 1 → selectors_assign (selectors_of xs) ≡ assigns (view.selector (get_or xs n d))
selectors_last [] n d some e = absurd (omega arith)
selectors_last (x ∷ xs) n d some e =
    let k : length xs ≡ n = omega arith in
    last_is false x xs d ∙ ap (λ (m : ℕ). assigns (view.selector (get_or (x ∷ xs) m d))) k

pub no_selectors_assign : (xs : List Selector) → length xs ≡ 0 → selectors_assign (selectors_of xs) ≡ false
no_selectors_assign [] none = refl
no_selectors_assign (x ∷ xs) none = absurd (omega arith)

pub assigns_is : (x : t.Primary) (selectors : t.Selectors) (operator : Option Operator) → operand_assigns (t.postfix x selectors operator) ≡ postfix_assigns operator selectors
assigns_is x l None = refl
assigns_is x l (Some operator) = refl

-- ---- which selectors may stand behind a primary

both_true : (b : Bool) → b ≡ (b && true)
both_true true = refl
both_true false = refl

both_false : (b : Bool) → false ≡ (b && false)
both_false true = refl
both_false false = refl

given_starts : (may : Bool) (codes : List ℕ) (ts : List Token) → starts class_of (given may codes) ts ≡ (starts class_of codes ts && may)
given_starts true codes [] = refl
given_starts true codes (t ∷ ts) = both_true (starts class_of codes (t ∷ ts))
given_starts false codes [] = refl
given_starts false codes (t ∷ ts) = both_false (starts class_of codes (t ∷ ts))

pub left_is : (x : t.Primary) (ts : List Token) → starts class_of (left_to_selectors x) ts ≡ ((starts class_of (these s.Dot) ts && primary_leaves opens_dot x) || (starts class_of (sign_codes (s.LeftBracket ∷ s.LeftParenthesis ∷ [])) ts && primary_leaves opens_nothing x))
left_is x ts =
    starts_either (given (primary_leaves opens_dot x) (these s.Dot)) (given (primary_leaves opens_nothing x) (sign_code s.LeftBracket ∷ sign_code s.LeftParenthesis ∷ [])) ts
    ∙ ap₂ (λ (a b : Bool). a || b) (given_starts (primary_leaves opens_dot x) (these s.Dot) ts) (given_starts (primary_leaves opens_nothing x) (sign_code s.LeftBracket ∷ sign_code s.LeftParenthesis ∷ []) ts)

none_seen : (ts : List Token) → starts class_of [] ts ≡ false
none_seen [] = refl
none_seen (t ∷ ts) = refl

-- no selector behind the half of an operator, and none where there is no room for a node
pub high_selects : (n : ℕ) (x : t.Primary) (half : Option Place) (ts : List Token) → n ≤ height.primary_height x → starts class_of (selects n (x, half)) ts ≡ false
high_selects n x (Some half) ts high = none_seen ts
high_selects n x None ts high =
    rw (not_true (is_below height.primary_height n x) (λ h. let b = below_is height.primary_height n x h in omega arith)) (none_seen ts)
