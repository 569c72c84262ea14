-- The selectors of operands and cascades, as a list that each further one makes longer.
use Rattle.std.proofs.Common.{◌≡◌, ℕ, max, List, [], ◌∷◌, ◌++◌, Ok, Err, Some, refl, sym, ap, ◌∙◌, arith, map}
use Rattle.std.proofs.lemmas.List.{map-append}
use Rattle.std.specs.Global.{Vec}
use Rattle.std.specs.Prelude.{Result}
use Rattle.dart_base.specs.declared.place.Place.{Place}
use Rattle.dart_token.specs.declared.sign.Sign.TheVariants as s
use Rattle.dart_token.specs.declared.token.Token.{Token}
use Rattle.dart_tree.specs.declared.expression.Selector.{Selector}
use Rattle.dart_tree.specs.declared.identifier.Identifier.{Identifier}
use Rattle.dart_tree.specs.Depth as height
use Rattle.dart_tree.specs.Lists.{selectors_of}
use Rattle.dart_tree.specs.Tree as t
use Rattle.dart_tree.specs.View as view
use Rattle.dart_syntax.specs.Expressions.{to_selectors, one_or_more_selectors}
use Rattle.grammar_laws.specs.Readers.{Outcome, and_then, mapped, both, many, always}
use Rattle.grammar_laws.proofs.Cuts.{gave}
use Rattle.token_codes.specs.Codes.{class_of}
use Rattle.token_codes.specs.Leaves.{sign, identifier}
use Rattle.token_cursor.specs.declared.error.ReadFault.{ReadFault}
use Rattle.token_cursor.specs.declared.error.ReadFault.TheVariants.{Stuck, Memory}
use Rattle.token_cursor.specs.Gives.{Gives, GivesHigh}
use Rattle.syntax_readers.specs.Primaries.{ExprReaders, selector_first, member, selector, selectors, section_over}
use Rattle.parse_loop.specs.Lists.{Growing}
use Rattle.parse_primary.specs.Views.{view_selectors, selectors_high, selectors_behind, section_start, view_section}
use Rattle.parse_nest.specs.Stages.{exprs_at}

abbrev pub snoc_selector : List t.Selector → t.Selector → List t.Selector
snoc_selector l x = l ++ x ∷ []

abbrev pub selectors_height : List t.Selector → ℕ
selectors_height l = height.selectors_height (to_selectors l)

pub selector_taller : (l : List t.Selector) (x : t.Selector) → selectors_height (snoc_selector l x) ≡ max (selectors_height l) (height.selector_height x)
unfolding height.selectors_height
selector_taller [] x = omega arith
selector_taller (y ∷ l) x = let h = selector_taller l x in omega arith

pub selectors_grow : (first : t.Selector) (items : List t.Selector) (y : t.Selector) → first ∷ (items ++ y ∷ []) ≡ snoc_selector (first ∷ items) y
selectors_grow first items y = refl

abbrev pub selectors_list : ExprReaders → Growing t.Selector t.Selector (List t.Selector)
selectors_list here = record {
  codes = selector_first;
  item = selector here;
  give = λ first items. first ∷ items;
  snoc = snoc_selector;
  high = selectors_height;
  tall = height.selector_height;
  grows = selectors_grow;
  taller = selector_taller;
}

pub one_selector_height : (x : t.Selector) → selectors_height (x ∷ []) ≡ height.selector_height x
unfolding height.selectors_height
one_selector_height x = omega arith

pub selectors_pushed : (xs : List Selector) (x : Selector) → map view.selector (xs ++ x ∷ []) ≡ snoc_selector (map view.selector xs) (view.selector x)
selectors_pushed xs x = map-append view.selector xs (x ∷ [])

pub selectors_are : (xs : List Selector) → selectors_of xs ≡ to_selectors (map view.selector xs)
selectors_are [] = refl
selectors_are (x ∷ xs) = ap (t.selector (view.selector x)) (selectors_are xs)

-- those of a cascade
by_more : (a : t.Selector) (o : Outcome Token (List t.Selector)) →
    and_then {B = t.Selectors} (and_then {B = t.Selector × List t.Selector} o (λ b rest. Ok ((a, b), rest))) (λ x rest. Ok (one_or_more_selectors x, rest))
    ≡ and_then (and_then {B = List t.Selector} o (λ more rest. Ok (a ∷ more, rest))) (λ l rest. Ok (to_selectors l, rest))
by_more a (Ok x) = refl
by_more a (Err rest) = refl

pub section_is : (d : ℕ) (ts mid : List Token) (a : t.Selector) → section_start d ts ≡ Ok (a, mid) → section_over (exprs_at d) ts ≡ mapped to_selectors (selectors_behind d a) mid
unfolding section_over
section_is d ts mid a e = rw e (by_more a (many class_of always selector_first (selector (exprs_at d)) mid))

pub section_fails : (d : ℕ) (ts end : List Token) → section_start d ts ≡ Err end → section_over (exprs_at d) ts ≡ Err end
unfolding section_over
section_fails d ts end e = rw e refl

pub section_gives : (d : ℕ) (o : Outcome Token (List t.Selector)) (new : List Token) (result : Result (Vec Selector × ℕ) ReadFault) → GivesHigh view_selectors selectors_high d o result new → GivesHigh view_section height.selectors_height d (and_then o (λ l rest. Ok (to_selectors l, rest))) result new
section_gives d o new (Ok x) h = (rw h.0 (ap (λ (l : t.Selectors). gave l new) (sym (selectors_are x.0.items))), h.1 ∙ ap height.selectors_height (sym (selectors_are x.0.items)), h.2)
section_gives d o new (Err Stuck) h = rw h refl
section_gives d o new (Err Memory) h = tt

pub selectors_is : (d : ℕ) (ts mid : List Token) (a : t.Selector) → selector (exprs_at d) ts ≡ Ok (a, mid) → selectors (exprs_at d) ts ≡ selectors_behind d a mid
unfolding selectors
selectors_is d ts mid a e = rw e refl

pub selectors_fail : (d : ℕ) (ts end : List Token) → selector (exprs_at d) ts ≡ Err end → selectors (exprs_at d) ts ≡ Err end
unfolding selectors
selectors_fail d ts end e = rw e refl

-- ---- one selector

abbrev read_height : Outcome Token t.Selector → ℕ
read_height (Ok x) = height.selector_height x.0
read_height (Err rest) = 0

by_member : (o : Outcome Token (Place × Identifier)) (x : t.Selector) (new : List Token) → and_then {B = t.Selector} o (λ y rest. Ok (t.member (Some y.0) y.1, rest)) ≡ Ok (x, new) → height.selector_height x ≡ 0
unfolding height.selector_height
by_member (Ok y) x new e = sym (ap read_height e)
by_member (Err rest) x new e = absurd cc

-- a member has no nodes
pub member_gives : (d : ℕ) (ts new : List Token) (x : Selector) → member ts ≡ Ok (view.selector x, new) → GivesHigh view.selector height.selector_height d (member ts) (Ok (x, 0)) new
unfolding member
member_gives d ts new x e = (e, sym (by_member (both (sign s.Dot) identifier ts) (view.selector x) new e), omega arith)

pub member_stops : (d : ℕ) (ts end : List Token) (e : ReadFault) → Gives view.selector (member ts) (Err e) end → GivesHigh view.selector height.selector_height d (member ts) (Err e) end
member_stops d ts end Stuck h = h
member_stops d ts end Memory h = tt
