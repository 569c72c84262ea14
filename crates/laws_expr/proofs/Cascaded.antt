-- The laws of the readers of cascades, one behind another, and of a conditional expression with cascades behind it (ECMA-408, 16.17.2
-- Cascaded Invocations).
use Rattle.std.proofs.Common.{◌≡◌, ℕ, Bool, true, false, ◌&&◌, ◌||◌, if◌then◌else◌, List, [], ◌∷◌, ◌++◌, length, Option, None, Some, inl, inr, refl, ap, sym, ◌∙◌, subst, append_assoc, flat_map, arith}
use Rattle.std.proofs.lemmas.List.{append-nil}
use Rattle.std.specs.List.{AllByRecursion}
use Rattle.dart_base.specs.declared.place.Place.{Place}
use Rattle.dart_token.specs.declared.token.Token.{Token}
use Rattle.dart_token.specs.declared.sign.Sign.TheVariants as s
use Rattle.dart_tree.specs.LeafTokens.{sign_at}
use Rattle.dart_tree.specs.Tree as t
use Rattle.dart_tree.specs.Tree.{Operand, Selectors, Value, Cascades}
use Rattle.dart_tree.specs.Tokens.{operand_tokens, cascades_tokens, selectors_tokens, value_tokens}
use Rattle.grammar_laws.specs.Codes.{has, Apart, Within, given, is_empty, after_list, after_followed}
use Rattle.grammar_laws.specs.Readers.{always, some}
use Rattle.grammar_laws.specs.Halves.{no_half}
use Rattle.grammar_laws.specs.Fronts.{Front, Empty, Joint, Several, Either, EitherFit, BothFit, GoesOn, FollowedFit, SomeFit, EachFit, Made, both_spelling, joined_spelling, option_spelling}
use Rattle.grammar_laws.specs.Laws.{Laws}
use Rattle.grammar_laws.proofs.Codes.{apart, apart_union, apart_smaller, clash, or_right, within_none, within_then, within_union, within_given, within_self, within_left, within_right}
use Rattle.grammar_laws.proofs.Restated.{made_laws, refront}
use Rattle.grammar_laws.proofs.Followed.{followed_laws}
use Rattle.grammar_laws.proofs.Repeated.{some_laws}
use Rattle.dart_syntax.specs.Edges.{dots, question, opens_nothing, operand_takes, cascades_take, leaves, leaves_cascade}
use Rattle.dart_syntax.specs.Edges as edge
use Rattle.dart_syntax.specs.Agreement.{section_tokens}
use Rattle.dart_syntax.specs.Expressions as g
use Rattle.token_codes.specs.Codes.{class_of, sign_code, these}
use Rattle.syntax_readers.specs.Combinators.{Open, with_half}
use Rattle.syntax_readers.specs.Primaries.{ExprReaders, operand_first}
use Rattle.syntax_readers.specs.Expressions.{Cascade, to_cascades, cascades, with_cascades, cascaded_over}
use Rattle.syntax_readers.specs.Levels.{LevelReaders}
use Rattle.laws_expr.specs.Nexts.{Taking, nexts, taken, operand_alone, cascades_alone, after_operand, after_cascade, after_cascaded}
use Rattle.laws_expr.proofs.Behind.{cascades_alone_within}
use Rattle.laws_expr.proofs.Open.{OpenLaws, Settled, open_spelling, half_tokens, after_open, bare, tree, no_some, tree_fits}
use Rattle.laws_expr.proofs.Edges.{apart_but, within_at, taken_moves, cascades_moves}
use Rattle.laws_expr.proofs.Chain.{half_of, half_moves, half_operand, looser, looser_half, left_apart}
use Rattle.laws_expr.proofs.Cascades.{half_cascade}
use Rattle.laws_expr.proofs.Refined.{reads_half, sharp, sharp_within, sharp_stops, refined_laws}
use Rattle.laws_expr.proofs.Refusing.{last_cascade}
use Rattle.laws_expr.proofs.Sets.{given_misses, not_either, not_false}

-- what goes on behind cascades in the place of an expression
abbrev pub after_cascades : Cascades → List ℕ
after_cascades x = taken (λ next opens. cascades_take next opens dots x) ++ cascades_alone x

abbrev pub half_cascades : Cascades → List ℕ
half_cascades x = half_of (λ next opens. cascades_take next opens dots x) (cascades_alone x)

abbrev one_cascade : Place × (Selectors × Value) → Cascades
one_cascade x = t.cascade x.0 x.1.0 x.1.1 t.no_cascades

-- a cascade that leaves another does not take it
no_dots : (x : Place × (Selectors × Value)) → leaves_cascade x ≡ true → Apart (after_cascade x) (these s.DotDot)
no_dots x left =
    let takes : Taking = λ next opens. cascades_take next opens question (one_cascade x) in
    apart_union (apart_but 0 nexts (these s.DotDot) takes refl (off (cascades_take dots opens_nothing question (one_cascade x)) refl)) (apart_smaller (cascades_alone_within (one_cascade x)) (apart refl)) where
      off : (b : Bool) → cascades_take dots opens_nothing question (one_cascade x) ≡ b → cascades_take dots opens_nothing question (one_cascade x) ≡ false
      off false e = e
      off true e = clash (cascades_take dots opens_nothing edge.nowhere (one_cascade x)) (cascades_moves dots opens_nothing (one_cascade x) question edge.nowhere (inr (inl (omega arith))) e) (not_false (cascades_take dots opens_nothing edge.nowhere (one_cascade x)) left)

another : (x : Place × (Selectors × Value)) → cascades_take dots opens_nothing dots (one_cascade x) ≡ true
unfolding cascades_take
another (place, (behind, t.omitted)) = refl
another (place, (behind, t.given operator value)) = refl

last_on : (x : Place × (Selectors × Value)) → Within (after_cascade x ++ given (leaves_cascade x) (these s.DotDot)) (after_cascades (one_cascade x))
last_on x =
    let here : Taking = λ next opens. cascades_take next opens question (one_cascade x) in
    let takes : Taking = λ next opens. cascades_take next opens dots (one_cascade x) in
    let own : List ℕ = cascades_alone (one_cascade x) in
    within_union (within_union (within_then (taken_moves nexts here takes (λ n opens h. cascades_moves n opens (one_cascade x) question dots (inl (omega arith)) h)) (within_left (taken takes) own)) (within_right (taken takes) own))
    (within_given (leaves_cascade x) (λ e. within_then (within_at 0 nexts (these s.DotDot) takes refl (another x)) (within_left (taken takes) own)))

last_half_on : (x : Place × (Selectors × Value)) → Within (half_cascade x) (half_cascades (one_cascade x))
last_half_on x = half_moves (λ next opens. cascades_take next opens question (one_cascade x)) (λ next opens. cascades_take next opens dots (one_cascade x)) (cascades_alone (one_cascade x)) (λ n opens h. cascades_moves n opens (one_cascade x) question dots (inl (omega arith)) h)

-- ---- the list

abbrev pub drop : List (Open Cascade) → List (Place × (Selectors × Value))
drop [] = []
drop (x ∷ more) = x.0 ∷ drop more

abbrev pub keep : List (Place × (Selectors × Value)) → List (Open Cascade)
keep [] = []
keep (x ∷ more) = (x, None) ∷ keep more

-- with this half behind the last
abbrev pub keep_half : Option Place → List (Place × (Selectors × Value)) → List (Open Cascade)
keep_half h [] = []
keep_half h (x ∷ more) = (x, if is_empty more then h else None) ∷ keep_half h more

pub cascades_half : (h : Option Place) (x : Place × (Selectors × Value)) (more : List (Place × (Selectors × Value))) → to_cascades (keep_half h (x ∷ more)) ≡ (g.to_cascades (x ∷ more), h)
cascades_half h x [] = refl
cascades_half h x (y ∷ more) = ap (λ (z : Open Cascades). (t.cascade x.0 x.1.0 x.1.1 z.0, z.1)) (cascades_half h y more)

pub cascades_drop : (all : List (Open Cascade)) → g.to_cascades (drop all) ≡ (to_cascades all).0
cascades_drop [] = refl
cascades_drop (x ∷ more) = ap (t.cascade x.0.0 x.0.1.0 x.0.1.1) (cascades_drop more)

pub cascades_keep : (all : List (Place × (Selectors × Value))) → to_cascades (keep all) ≡ (g.to_cascades all, None)
cascades_keep [] = refl
cascades_keep (x ∷ []) = refl
cascades_keep (x ∷ y ∷ more) = ap (λ (z : Open Cascades). (t.cascade x.0 x.1.0 x.1.1 z.0, z.1)) (cascades_keep (y ∷ more))

pub empty_drop : (all : List (Open Cascade)) → is_empty (drop all) ≡ is_empty all
empty_drop [] = refl
empty_drop (x ∷ more) = refl

pub empty_keep : (all : List (Place × (Selectors × Value))) → is_empty (keep all) ≡ is_empty all
empty_keep [] = refl
empty_keep (x ∷ more) = refl

abbrev pub may_follow : Open Cascade → Bool
may_follow x = no_half x && leaves_cascade x.0

abbrev pub item_spell : Open Cascade → List Token
item_spell = open_spelling section_tokens

abbrev pub item_next : Open Cascade → List ℕ
item_next = after_open after_cascade half_cascade

regroup : (x : Place × (Selectors × Value)) (ts h : List Token) → (sign_at x.0 s.DotDot ∷ (selectors_tokens x.1.0 ++ (value_tokens x.1.1 ++ ts))) ++ h ≡ section_tokens x ++ (ts ++ h)
regroup x ts h = simp append_assoc

-- a cascade before others changes nothing
grow_on : (place : Place) (behind : Selectors) (value : Value) (p : Place) (b : Selectors) (v : Value) (m : Cascades) (h : Option Place) → Within (after_open after_cascades half_cascades (t.cascade p b v m, h)) (after_open after_cascades half_cascades (t.cascade place behind value (t.cascade p b v m), h))
unfolding cascades_take cascades_alone
grow_on place behind t.omitted p b v m None = within_self _
grow_on place behind t.omitted p b v m (Some g) = within_self _
grow_on place behind (t.given operator value) p b v m None = within_self _
grow_on place behind (t.given operator value) p b v m (Some g) = within_self _

abbrev pub half_cascaded : Operand × Cascades → List ℕ
half_cascaded (x, t.no_cascades) = half_operand dots x
half_cascaded (x, several) = half_cascades several

wrap_on : (x : Operand) (p : Place) (b : Selectors) (v : Value) (m : Cascades) (h : Option Place) → Within (after_open after_cascades half_cascades (t.cascade p b v m, h)) (after_open after_cascaded half_cascaded ((x, t.cascade p b v m), h))
wrap_on x p b v m None = within_self _
wrap_on x p b v m (Some g) = within_self _

abbrev pair_of : Operand → Cascades → Operand × Cascades
pair_of x c = (x, c)

abbrev open_pair : Operand → Cascades → Open (Operand × Cascades)
open_pair x c = ((x, c), None)

module _ (inner : ExprReaders) {C : Place × (Selectors × Value) → Type 0} {cfront : Front Token} (L : OpenLaws inner.cascade section_tokens C cfront (these s.DotDot) after_cascade half_cascade) where
  item_apart : (x : Open Cascade) → L.Fits x → may_follow x ≡ true → Apart (item_next x) (these s.DotDot)
  item_apart (x, None) fits on = no_dots x on
  item_apart (x, Some g) fits on = absurd cc

  pub cascades_laws : Laws class_of (cascades inner) (flat_map item_spell) (SomeFit L.Fits may_follow) (Several item_spell L.Fits may_follow cfront) (these s.DotDot) (after_list (these s.DotDot) may_follow item_next) false
  unfolding cascades
  cascades_laws = some_laws L.laws may_follow item_apart

  may_drop : (x : Open Cascade) (b : Bool) → (may_follow x || b) ≡ true → (leaves_cascade x.0 || b) ≡ true
  may_drop (x, None) b h = h
  may_drop (x, Some g) b h = or_right (leaves_cascade x) b h

  -- which lists of cascades are read
  pub each_drop : (all : List (Open Cascade)) → EachFit L.Fits may_follow all → EachFit C leaves_cascade (drop all)
  each_drop [] fits = tt
  each_drop (x ∷ more) fits = (tree_fits L x fits.0, ap (λ b. leaves_cascade x.0 || b) (empty_drop more) ∙ may_drop x (is_empty more) fits.1, each_drop more fits.2)

  pub each_keep : (all : List (Place × (Selectors × Value))) → EachFit C leaves_cascade all → EachFit L.Fits may_follow (keep all)
  each_keep [] fits = tt
  each_keep (x ∷ more) fits = (L.none_in x fits.0, ap (λ b. leaves_cascade x || b) (empty_keep more) ∙ fits.1, each_keep more fits.2)

  -- their tokens
  pub items_said : (all : List (Open Cascade)) → EachFit L.Fits may_follow all → cascades_tokens (to_cascades all).0 ++ option_spelling half_tokens (to_cascades all).1 ≡ flat_map item_spell all
  unfolding cascades_tokens
  items_said [] fits = refl
  items_said ((x, h) ∷ []) fits = simp (append_assoc, append-nil)
  items_said ((x, None) ∷ y ∷ more) fits =
      let all : Open Cascades = to_cascades (y ∷ more) in
      regroup x (cascades_tokens all.0) (option_spelling half_tokens all.1) ∙ ap (λ (m : List Token). section_tokens x ++ m) (items_said (y ∷ more) fits.2) ∙ ap (λ (m : List Token). m ++ flat_map item_spell (y ∷ more)) (sym (append-nil (section_tokens x)))
  items_said ((x, Some g) ∷ y ∷ more) fits = let bad : false ≡ true = fits.1 in absurd cc

  -- and what goes on behind them
  pub list_on : (all : List (Open Cascade)) → is_empty all ≡ false → EachFit L.Fits may_follow all → Within (after_list (these s.DotDot) may_follow item_next all) (after_open after_cascades half_cascades (to_cascades all))
  unfolding cascades_take cascades_alone
  list_on [] some fits = absurd cc
  list_on ((x, None) ∷ []) some fits = last_on x
  list_on ((x, Some g) ∷ []) some fits = within_union (last_half_on x) (within_none (half_cascades (one_cascade x)))
  list_on ((x, h) ∷ y ∷ more) some fits = within_then (list_on (y ∷ more) refl fits.2) (grow_on x.0 x.1.0 x.1.1 y.0.0 y.0.1.0 y.0.1.1 (to_cascades more).0 (if is_empty more then y.1 else (to_cascades more).1))

  pub go_drop : (all : List (Open Cascade)) → AllByRecursion (GoesOn L.Fits may_follow) all → AllByRecursion (GoesOn C leaves_cascade) (drop all) × (flat_map item_spell all ≡ flat_map section_tokens (drop all))
  go_drop [] go = (tt, refl)
  go_drop ((x, None) ∷ more) go = let k = go_drop more go.1 in (((L.none_out x go.0.0, go.0.1), k.0), ap (λ (m : List Token). m ++ flat_map item_spell more) (append-nil (section_tokens x)) ∙ ap (λ (m : List Token). section_tokens x ++ m) k.1)
  go_drop ((x, Some g) ∷ more) go = let bad : false ≡ true = go.0.1 in absurd cc

  pub go_keep : (all : List (Place × (Selectors × Value))) → AllByRecursion (GoesOn C leaves_cascade) all → AllByRecursion (GoesOn L.Fits may_follow) (keep all) × (flat_map section_tokens all ≡ flat_map item_spell (keep all))
  go_keep [] go = (tt, refl)
  go_keep (x ∷ more) go = let k = go_keep more go.1 in (((L.none_in x go.0.0, go.0.1), k.0), ap (λ (m : List Token). section_tokens x ++ m) k.1 ∙ ap (λ (m : List Token). m ++ flat_map item_spell (keep more)) (sym (append-nil (section_tokens x))))

  -- ---- a `>` behind cascades, as behind the last

  pub each_half : (h : Option Place) (x : Place × (Selectors × Value)) (more : List (Place × (Selectors × Value))) → EachFit C leaves_cascade (x ∷ more) → L.Fits (last_cascade x more, h) → EachFit L.Fits may_follow (keep_half h (x ∷ more))
  each_half h x [] fits last = (last, or_right (may_follow (x, h)) true refl, tt)
  each_half h x (y ∷ more) fits last = (L.none_in x fits.0, fits.1, each_half h y more fits.2 last)

  module _ (asks : Place × (Selectors × Value) → Bool) (settled : (x : Place × (Selectors × Value)) → C x → asks x ≡ true → Settled L x) where
    abbrev pub sharp_next : Open Cascade → List ℕ
    sharp_next = after_open (sharp L asks settled) half_cascade

    sharp_item : (x : Open Cascade) → L.Fits x → may_follow x ≡ true → Apart (sharp_next x) (these s.DotDot)
    sharp_item (x, None) fits on = apart_smaller (sharp_within L asks settled x) (no_dots x on)
    sharp_item (x, Some g) fits on = absurd cc

    pub sharp_cascades : Laws class_of (cascades inner) (flat_map item_spell) (SomeFit L.Fits may_follow) (Several item_spell L.Fits may_follow cfront) (these s.DotDot) (after_list (these s.DotDot) may_follow sharp_next) false
    unfolding cascades
    sharp_cascades = some_laws (refined_laws L asks settled) may_follow sharp_item

    pub last_stops : (x : Place × (Selectors × Value)) (more : List (Place × (Selectors × Value))) → asks (last_cascade x more) ≡ true → reads_half L (last_cascade x more) ≡ false → has (after_list (these s.DotDot) may_follow sharp_next (keep_half None (x ∷ more))) (sign_code s.Greater) ≡ false
    last_stops x [] on none = not_either (sharp L asks settled x) (given (may_follow (x, None)) (these s.DotDot)) (sign_code s.Greater) (sharp_stops L asks settled x on none) (given_misses (may_follow (x, None)) (these s.DotDot) (sign_code s.Greater) refl)
    last_stops x (y ∷ more) on none = last_stops y more on none

  -- ---- a conditional expression with cascades, as an initialiser has it

  module _ (levels : LevelReaders) {R : Operand → Type 0} {rfront : Front Token} (Row : OpenLaws (levels.row (length g.rows)) operand_tokens R rfront operand_first (after_operand question) (half_operand question))
      (rises : (x : Operand) → R x → operand_takes dots opens_nothing dots x ≡ true) where
    abbrev may : Open Operand → Bool
    may x = no_half x && leaves dots x.0

    row_apart : (x : Open Operand) → Row.Fits x → may x ≡ true → Apart (after_open (after_operand question) (half_operand question) x) (these s.DotDot)
    row_apart (x, None) fits on = left_apart dots question 0 (these s.DotDot) x (omega arith) refl (λ takes. refl) refl on
    row_apart (x, Some g) fits on = absurd cc

    abbrev PartsFit : Open Operand × Option (List (Open Cascade)) → Type 0
    PartsFit = FollowedFit Row.Fits may (SomeFit L.Fits may_follow)

    abbrev Of : Operand × Cascades → Type 0
    Of = Made (λ (x : Operand × List (Place × (Selectors × Value))). (x.0, g.to_cascades x.1)) (EitherFit (BothFit R (λ all. all ≡ [])) (BothFit (GoesOn R (leaves dots)) (SomeFit C leaves_cascade)))

    abbrev of_front : Front Token
    of_front = Either (Joint operand_tokens R always rfront Empty) (Joint operand_tokens R (leaves dots) rfront (Several section_tokens C leaves_cascade cfront))

    abbrev pair_tokens : Operand × Cascades → List Token
    pair_tokens = both_spelling operand_tokens cascades_tokens

    plain_of : (x : Operand) → R x → Of (x, t.no_cascades)
    plain_of x fits = ((x, []), inl (fits, refl), refl)

    several_of : (x : Operand) (all : List (Open Cascade)) → R x → leaves dots x ≡ true → SomeFit L.Fits may_follow all → Of (x, (to_cascades all).0)
    several_of x all fits on each = ((x, drop all), inr ((fits, on), (empty_drop all ∙ each.0, each_drop all each.1)), ap (λ (c : Cascades). pair_of x c) (cascades_drop all))

    none_in : (p : Operand × Cascades) → Of p → Made with_cascades PartsFit (p, None)
    none_in p (x, inl (fits, e), is) = (((x.0, None), None), (Row.none_in x.0 fits, tt), ap (λ (l : List (Place × (Selectors × Value))). open_pair x.0 (g.to_cascades l)) (sym e) ∙ ap bare is)
    none_in p (x, inr ((fits, on), (several, each)), is) = (((x.0, None), Some (keep x.1)), (Row.none_in x.0 fits, (on, (empty_keep x.1 ∙ several, each_keep x.1 each))), ap (with_half (pair_of x.0)) (cascades_keep x.1) ∙ ap bare is)

    none_out : (p : Operand × Cascades) → Made with_cascades PartsFit (p, None) → Of p
    none_out p (((x, None), None), fits, e) = subst Of (ap tree e) (plain_of x (Row.none_out x fits.0))
    none_out p (((x, Some g), None), fits, e) = no_some ((x, t.no_cascades), Some g) (p, None) e refl refl
    none_out p (((x, None), Some all), fits, e) = subst Of (ap tree e) (several_of x all (Row.none_out x fits.0) fits.1.0 fits.1.1)
    none_out p (((x, Some g), Some all), fits, e) = let bad : false ≡ true = fits.1.0 in absurd cc

    some_out : (p : Operand × Cascades) (g : Place) → Made with_cascades PartsFit (p, Some g) → Of p
    some_out p g (((x, None), None), fits, e) = no_some (p, Some g) ((x, t.no_cascades), None) (sym e) refl refl
    some_out p g (((x, Some h), None), fits, e) = subst Of (ap tree e) (plain_of x (Row.some_out x h fits.0))
    some_out p g (((x, None), Some all), fits, e) = subst Of (ap tree e) (several_of x all (Row.none_out x fits.0) fits.1.0 fits.1.1)
    some_out p g (((x, Some h), Some all), fits, e) = let bad : false ≡ true = fits.1.0 in absurd cc

    parts_said : (x : Open Operand × Option (List (Open Cascade))) → PartsFit x → open_spelling pair_tokens (with_cascades x) ≡ joined_spelling (open_spelling operand_tokens) (flat_map item_spell) x
    unfolding cascades_tokens
    parts_said ((x, h), None) fits = simp (append_assoc, append-nil)
    parts_said ((x, None), Some all) fits = append_assoc (operand_tokens x) (cascades_tokens (to_cascades all).0) (option_spelling half_tokens (to_cascades all).1) ∙ ap (λ (m : List Token). operand_tokens x ++ m) (items_said all fits.1.1.1) ∙ ap (λ (m : List Token). m ++ flat_map item_spell all) (sym (append-nil (operand_tokens x)))
    parts_said ((x, Some g), Some all) fits = let bad : false ≡ true = fits.1.0 in absurd cc

    some_on : (x : Operand) (all : List (Open Cascade)) → SomeFit L.Fits may_follow all → Within (after_list (these s.DotDot) may_follow item_next all) (after_open after_cascaded half_cascaded (with_cascades ((x, None), Some all)))
    some_on x [] fits = absurd cc
    some_on x (y ∷ more) fits = within_then (list_on (y ∷ more) fits.0 fits.1) (wrap_on x y.0.0 y.0.1.0 y.0.1.1 (to_cascades more).0 (if is_empty more then y.1 else (to_cascades more).1))

    parts_on : (x : Open Operand × Option (List (Open Cascade))) → PartsFit x → Within (after_followed (after_open (after_operand question) (half_operand question)) may (these s.DotDot) (after_list (these s.DotDot) may_follow item_next) x) (after_open after_cascaded half_cascaded (with_cascades x))
    parts_on ((x, None), None) fits =
        let takes : Taking = λ next opens. operand_takes next opens dots x in
        within_union (looser question dots x (omega arith)) (within_given (leaves dots x) (λ e. within_then (within_at 0 nexts (these s.DotDot) takes refl (rises x (Row.none_out x fits.0))) (within_left (taken takes) (operand_alone x))))
    parts_on ((x, Some g), None) fits = within_union (looser_half question dots x (omega arith)) (within_none (half_operand dots x))
    parts_on ((x, None), Some all) fits = some_on x all fits.1.1
    parts_on ((x, Some g), Some all) fits = let bad : false ≡ true = fits.1.0 in absurd cc

    out : (ts : List Token) → Joint (open_spelling operand_tokens) Row.Fits may rfront (Several item_spell L.Fits may_follow cfront) ts → of_front ts
    out ts (inl f) = inl (inl f)
    out ts (inr ((x, None), more, fits, on, e, (all, rest, go, e', f))) = let k = go_drop all go in inr (inr (x, more, Row.none_out x fits, on, e ∙ ap (λ (m : List Token). m ++ more) (append-nil (operand_tokens x)), (drop all, rest, k.0, e' ∙ ap (λ (m : List Token). m ++ rest) k.1, f)))
    out ts (inr ((x, Some g), more, fits, on, e, f)) = let bad : false ≡ true = on in absurd cc

    into : (ts : List Token) → of_front ts → Joint (open_spelling operand_tokens) Row.Fits may rfront (Several item_spell L.Fits may_follow cfront) ts
    into ts (inl (inl f)) = inl f
    into ts (inl (inr (x, more, fits, on, e, none))) = inl (subst rfront (sym (e ∙ ap (λ (m : List Token). operand_tokens x ++ m) none)) (Row.laws.whole (x, None) (Row.none_in x fits)))
    into ts (inr (inl f)) = inl f
    into ts (inr (inr (x, more, fits, on, e, (all, rest, go, e', f)))) = let k = go_keep all go in inr ((x, None), more, Row.none_in x fits, on, e ∙ ap (λ (m : List Token). m ++ more) (sym (append-nil (operand_tokens x))), (keep all, rest, k.0, e' ∙ ap (λ (m : List Token). m ++ rest) k.1, f))

    pub cascaded_laws : OpenLaws (cascaded_over inner levels) pair_tokens Of of_front operand_first after_cascaded half_cascaded
    unfolding cascaded_over
    cascaded_laws = record {
      Fits = Made with_cascades PartsFit;
      none_in = none_in;
      none_out = none_out;
      some_out = some_out;
      laws = refront (made_laws (followed_laws Row.laws cascades_laws may row_apart) with_cascades (open_spelling pair_tokens) (after_open after_cascaded half_cascaded) parts_said parts_on) out into;
    }
