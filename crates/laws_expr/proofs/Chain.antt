-- The law of a row of operators that stand behind one another (ECMA-408, 16.22 to 16.28), whatever its signs are.
use Rattle.std.proofs.Common.{◌≡◌, ℕ, suc, max, ◌≤◌, ◌<◌, Bool, true, false, not, ◌&&◌, ◌||◌, List, [], ◌∷◌, ◌++◌, Option, None, Some, Ok, inl, inr, refl, ap, sym, ◌∙◌, subst, append_assoc, flat_map, arith}
use Rattle.std.specs.Prelude.{nat_lt}
use Rattle.std.proofs.Math.Nat.{le-max_right, max-le}
use Rattle.std.proofs.lemmas.Bool.{ltb-true, lt-ltb}
use Rattle.std.proofs.lemmas.List.{append-nil}
use Rattle.std.specs.List.{AllByRecursion}
use Rattle.dart_base.specs.declared.place.Place.{Place}
use Rattle.dart_token.specs.declared.token.Token.{Token}
use Rattle.dart_token.specs.declared.sign.Sign.{Sign}
use Rattle.dart_token.specs.declared.sign.Sign.TheVariants as s
use Rattle.dart_tree.specs.declared.operator.Operator.{Operator}
use Rattle.dart_tree.specs.LeafTokens.{sign_at, operator_tokens}
use Rattle.dart_tree.specs.Depth.{operand_height}
use Rattle.dart_tree.specs.Types.{TypeNode}
use Rattle.dart_tree.specs.Tree as t
use Rattle.dart_tree.specs.Tree.{Operand, Tails}
use Rattle.dart_tree.specs.Tokens.{operand_tokens, tails_tokens}
use Rattle.grammar_laws.specs.Codes.{Apart, Within, nowhere, given, has, is_empty, disjoint, within, after_list, after_followed}
use Rattle.grammar_laws.specs.Readers.{Outcome, Reader, and_then, always, some, starts, when}
use Rattle.grammar_laws.specs.Halves.{no_half}
use Rattle.grammar_laws.specs.Fronts.{Front, Joint, Several, Either, EitherFit, BothFit, GoesOn, FollowedFit, SomeFit, EachFit, Made, both_spelling, joined_spelling, option_spelling}
use Rattle.grammar_laws.specs.Laws.{Laws}
use Rattle.grammar_laws.proofs.Codes.{apart, apart_none, apart_smaller, apart_union, and_both, and_true, and_false, or_left, or_right, not_true, clash, within_none, within_then, within_union, within_given, within_left, within_right}
use Rattle.grammar_laws.proofs.Depth.{below_is, is_below_by}
use Rattle.grammar_laws.proofs.Restated.{made_laws, refront}
use Rattle.grammar_laws.proofs.Combined.{both_laws}
use Rattle.grammar_laws.proofs.Followed.{followed_laws}
use Rattle.grammar_laws.proofs.Repeated.{some_laws}
use Rattle.grammar_laws.proofs.Cuts.{gave}
use Rattle.dart_syntax.specs.Edges.{repeats, binds_between, leaves, opens_nothing, compares, operand_takes, tails_take}
use Rattle.dart_syntax.specs.Edges as edge
use Rattle.dart_syntax.specs.Expressions as g
use Rattle.dart_syntax.specs.Levels.{level, sign_level}
use Rattle.token_codes.specs.Codes.{class_of, sign_code, these, sign_codes}
use Rattle.token_codes.specs.Leaves.{one_of}
use Rattle.syntax_readers.specs.Combinators.{◌~◌, Open, with_half}
use Rattle.syntax_readers.specs.Primaries.{operand_first}
use Rattle.syntax_readers.specs.Levels.{Item, has_room, item_leaves, to_tails, joined, whole, chain}
use Rattle.laws_expr.specs.Nexts.{Taking, nexts, taken, operand_alone, tails_alone, after_operand}
use Rattle.laws_expr.proofs.Behind.{alone, operand_alone_within}
use Rattle.laws_expr.proofs.Open.{OpenLaws, Settled, open_spelling, half_tokens, after_open, bare, tree, no_some, tree_fits}
use Rattle.laws_expr.proofs.Refined.{reads_half, half_read, sharp, sharp_within, sharp_apart, refined_laws}
use Rattle.laws_expr.proofs.Edges.{at, codes_at, others_apart, apart_but, within_at, taken_moves, operand_moves}
use Rattle.laws_expr.proofs.Sets.{given_more, not_false, not_either}
use Rattle.laws_expr.proofs.Tails.{plain_spell, drop, no_between, ending, keep, tails_drop, tails_keep, empty_drop, empty_keep, last_of, last_fits}

-- what may go on behind the half of an operator: its other half, an operand that is compared, or the rest of `> >=`
abbrev pub half_of : Taking → List ℕ → List ℕ
half_of takes own = given (takes (sign_level s.ShiftLeft) opens_nothing) (these s.Greater) ++ (given (takes compares opens_nothing) operand_first ++ given (has own (sign_code s.Assign)) (these s.GreaterEqual))

abbrev pub half_operand : ℕ → Operand → List ℕ
half_operand from x = half_of (λ next opens. operand_takes next opens from x) (operand_alone x)

pub half_moves : (takes takes' : Taking) (own : List ℕ) → ((n : ℕ) (opens : TypeNode → Bool) → takes n opens ≡ true → takes' n opens ≡ true) → Within (half_of takes own) (half_of takes' own)
half_moves takes takes' own on =
    let shifts : List ℕ = given (takes' (sign_level s.ShiftLeft) opens_nothing) (these s.Greater) in
    let compared : List ℕ = given (takes' compares opens_nothing) operand_first in
    let assigned : List ℕ = given (has own (sign_code s.Assign)) (these s.GreaterEqual) in
    within_union (within_then (given_more (takes (sign_level s.ShiftLeft) opens_nothing) (takes' (sign_level s.ShiftLeft) opens_nothing) (these s.Greater) (on (sign_level s.ShiftLeft) opens_nothing)) (within_left shifts (compared ++ assigned)))
    (within_then (within_union (within_then (given_more (takes compares opens_nothing) (takes' compares opens_nothing) operand_first (on compares opens_nothing)) (within_left compared assigned)) (within_right compared assigned)) (within_right shifts (compared ++ assigned)))

-- a looser place has all that a tighter one has
pub looser : (from to : ℕ) (x : Operand) → to ≤ from → Within (after_operand from x) (after_operand to x)
looser from to x le = within_union (within_then (taken_moves nexts (λ next opens. operand_takes next opens from x) (λ next opens. operand_takes next opens to x) (λ n opens h. operand_moves n opens x from to (inl le) h)) (within_left (taken (λ next opens. operand_takes next opens to x)) (operand_alone x)))
    (within_right (taken (λ next opens. operand_takes next opens to x)) (operand_alone x))

pub looser_half : (from to : ℕ) (x : Operand) → to ≤ from → Within (half_operand from x) (half_operand to x)
looser_half from to x le = half_moves (λ next opens. operand_takes next opens from x) (λ next opens. operand_takes next opens to x) (operand_alone x) (λ n opens h. operand_moves n opens x from to (inl le) h)

-- what a tree leaves does not go on in a tighter place
pub left_apart : (n from row : ℕ) (codes : List ℕ) (x : Operand) → n < from → others_apart row nexts codes ≡ true → ((takes : Taking) → at row nexts takes ≡ takes n opens_nothing) → disjoint alone codes ≡ true → leaves n x ≡ true → Apart (after_operand from x) codes
left_apart n from row codes x lt others here own left =
    apart_union (apart_but row nexts codes (λ next opens. operand_takes next opens from x) others (here (λ next opens. operand_takes next opens from x) ∙ off (operand_takes n opens_nothing from x) refl)) (apart_smaller (operand_alone_within x) (apart own)) where
      off : (b : Bool) → operand_takes n opens_nothing from x ≡ b → operand_takes n opens_nothing from x ≡ false
      off false e = e
      off true e = clash (operand_takes n opens_nothing edge.nowhere x) (operand_moves n opens_nothing x from edge.nowhere (inr (inl lt)) e) (not_false (operand_takes n opens_nothing edge.nowhere x) left)

-- behind the last operand of a row what goes on with the operand
pub last_takes : (loose : ℕ) (o : Operator) (x : Operand) → level o ≡ loose → (next : ℕ) (opens : TypeNode → Bool) → operand_takes next opens (suc loose) x ≡ true → tails_take next opens loose (t.tail o x t.no_tails) ≡ true
unfolding tails_take
last_takes loose o x e next opens h =
    let same : max loose (suc loose) ≡ suc loose = omega (arith, le-max_right loose (suc loose), max-le {a = loose} {b = suc loose} {k = suc loose} (omega arith) (omega arith)) in
    or_right (binds_between next opens loose (level o)) ((binds_between next opens loose (suc (level o)) && repeats (level o)) || operand_takes next opens (max loose (suc (level o))) x)
    (or_right (binds_between next opens loose (suc (level o)) && repeats (level o)) (operand_takes next opens (max loose (suc (level o))) x) (ap (λ (m : ℕ). operand_takes next opens m x) (ap (λ (m : ℕ). max loose (suc m)) e ∙ same) ∙ h))

-- ---- the row

abbrev item_spell : Item → List Token
item_spell = both_spelling operator_tokens (open_spelling operand_tokens)

module _ (loose : ℕ) (n : ℕ) (signs : List Sign) (row : ℕ)
    (others : others_apart row nexts (sign_codes signs) ≡ true) (own : within (sign_codes signs) (codes_at row nexts) ≡ true) (here_row : (takes : Taking) → at row nexts takes ≡ takes loose opens_nothing)
    (apart_alone : disjoint alone (sign_codes signs) ≡ true) (again : repeats loose ≡ true)
    {Of : Operator → Type 0} {ofront : Front Token} (O : Laws class_of (one_of signs) operator_tokens Of ofront (sign_codes signs) nowhere false) (leveled : (o : Operator) → Of o → level o ≡ loose)
    {here : Reader Token (Open Operand)} {F : Operand → Type 0} {front : Front Token} {first : List ℕ} (H : OpenLaws here operand_tokens F front first (after_operand (suc loose)) (half_operand (suc loose)))
    (lower : Reader Token (Open Operand)) {U : Operand → Type 0} {ufront : Front Token} {ufirst : List ℕ} (L : OpenLaws (whole lower) operand_tokens U ufront ufirst (after_operand (suc loose)) (half_operand (suc loose)))
    {D : Operand → Type 0} {dfront : Front Token}
    (down : (x : Operand) → F x → operand_height x < n → D x) (up : (x : Operand) → D x → F x × (operand_height x < n)) (rise : (ts : List Token) → dfront ts → front ts)
    (rises : (x : Operand) → F x → operand_takes loose opens_nothing loose x ≡ true) where
  abbrev codes : List ℕ
  codes = sign_codes signs

  abbrev may : Open Operand → Bool
  may x = no_half x && has_room n x && leaves loose x.0

  abbrev may_item : Item → Bool
  may_item x = no_half x.1 && item_leaves loose x

  abbrev ItemFits : Item → Type 0
  ItemFits = BothFit Of L.Fits

  abbrev PlainFits : Operator × Operand → Type 0
  PlainFits = BothFit Of U

  abbrev leaves_item : Operator × Operand → Bool
  leaves_item x = leaves loose x.1

  left : (x : Operand) → leaves loose x ≡ true → Apart (after_operand (suc loose) x) codes
  left x h = left_apart loose (suc loose) row codes x (omega arith) others here_row apart_alone h

  here_apart : (x : Open Operand) → H.Fits x → may x ≡ true → Apart (after_open (after_operand (suc loose)) (half_operand (suc loose)) x) codes
  here_apart (x, None) fits on = left x (and_both (has_room n (x, None)) (leaves loose x) on).1
  here_apart (x, Some greater) fits on = absurd cc

  item_apart : (x : Item) → ItemFits x → may_item x ≡ true → Apart (after_open (after_operand (suc loose)) (half_operand (suc loose)) x.1) codes
  item_apart (o, (x, None)) fits on = left x on
  item_apart (o, (x, Some greater)) fits on = absurd cc

  abbrev items_reader : Reader Token (List Item)
  items_reader = some class_of may_item codes (one_of signs ~ whole lower)

  abbrev ItemFront : Front Token
  ItemFront = Joint operator_tokens Of always ofront ufront

  items_laws : Laws class_of items_reader (flat_map item_spell) (SomeFit ItemFits may_item) (Several item_spell ItemFits may_item ItemFront) codes (after_list codes may_item (λ y. after_open (after_operand (suc loose)) (half_operand (suc loose)) y.1)) false
  items_laws = some_laws (both_laws O L.laws (λ o fits. apart_none ufirst)) may_item item_apart

  abbrev PartsFit : Open Operand × Option (List Item) → Type 0
  PartsFit = FollowedFit H.Fits may (SomeFit ItemFits may_item)

  -- ---- the grammar's node

  abbrev Node : Operand → Type 0
  Node = Made (λ (x : Operand × List (Operator × Operand)). t.binary x.0 (g.to_tails x.1)) (BothFit (GoesOn D (leaves loose)) (SomeFit PlainFits leaves_item))

  abbrev NodeFront : Front Token
  NodeFront = Joint operand_tokens D (leaves loose) dfront (Several plain_spell PlainFits leaves_item ItemFront)

  may_drop : (x : Item) (b : Bool) → (may_item x || b) ≡ true → (leaves loose x.1.0 || b) ≡ true
  may_drop (o, (x, None)) b h = h
  may_drop (o, (x, Some greater)) b h = or_right (leaves loose x) b h

  each_drop : (all : List Item) → EachFit ItemFits may_item all → EachFit PlainFits leaves_item (drop all)
  each_drop [] fits = tt
  each_drop (x ∷ more) fits = ((fits.0.0, tree_fits L x.1 fits.0.1), ap (λ b. leaves loose x.1.0 || b) (empty_drop more) ∙ may_drop x (is_empty more) fits.1, each_drop more fits.2)

  each_keep : (all : List (Operator × Operand)) → EachFit PlainFits leaves_item all → EachFit ItemFits may_item (keep no_between all)
  each_keep [] fits = tt
  each_keep (x ∷ more) fits = ((fits.0.0, L.none_in x.1 fits.0.1), ap (λ b. leaves loose x.1 || b) (empty_keep no_between more) ∙ fits.1, each_keep more fits.2)

  node_of : (x : Operand) (all : List Item) → H.Fits (x, None) → may (x, None) ≡ true → SomeFit ItemFits may_item all → Node (t.binary x (to_tails all).0)
  node_of x all fits on items =
      let w = and_both (has_room n (x, None)) (leaves loose x) on in
      let f : F x = H.none_out x fits in
      ((x, drop all), ((down x f (below_is operand_height n x w.0), w.1), (empty_drop all ∙ items.0, each_drop all items.1)), ap (t.binary x) (tails_drop all))

  none_in : (z : Operand) → EitherFit F Node z → Made joined PartsFit (z, None)
  none_in z (inl fits) = (((z, None), None), (H.none_in z fits, tt), refl)
  none_in z (inr ((x, all), ((d, on), (some, each)), e)) =
      let u = up x d in
      (((x, None), Some (keep no_between all)), (H.none_in x u.0, (and_true (has_room n (x, None)) (leaves loose x) (is_below_by operand_height n x u.1) on, (empty_keep no_between all ∙ some, each_keep all each))), ap (with_half (t.binary x)) (tails_keep no_between all some) ∙ ap bare e)

  none_out : (z : Operand) → Made joined PartsFit (z, None) → EitherFit F Node z
  none_out z (((x, None), None), fits, e) = inl (subst F (ap tree e) (H.none_out x fits.0))
  none_out z (((x, Some greater), None), fits, e) = no_some (x, Some greater) (z, None) e refl refl
  none_out z (((x, None), Some all), fits, e) = inr (subst Node (ap tree e) (node_of x all fits.0 fits.1.0 fits.1.1))
  none_out z (((x, Some greater), Some all), fits, e) = let bad : false ≡ true = fits.1.0 in absurd cc

  some_out : (z : Operand) (greater : Place) → Made joined PartsFit (z, Some greater) → EitherFit F Node z
  some_out z greater (((x, None), None), fits, e) = no_some (z, Some greater) (x, None) (sym e) refl refl
  some_out z greater (((x, Some other), None), fits, e) = inl (subst F (ap tree e) (H.some_out x other fits.0))
  some_out z greater (((x, None), Some all), fits, e) = inr (subst Node (ap tree e) (node_of x all fits.0 fits.1.0 fits.1.1))
  some_out z greater (((x, Some other), Some all), fits, e) = let bad : false ≡ true = fits.1.0 in absurd cc

  -- ---- the tokens

  items_said : (all : List Item) → EachFit ItemFits may_item all → tails_tokens (to_tails all).0 ++ option_spelling half_tokens (to_tails all).1 ≡ flat_map item_spell all
  unfolding tails_tokens
  items_said [] fits = refl
  items_said ((o, (x, h)) ∷ []) fits = simp (append_assoc, append-nil)
  items_said ((o, (x, None)) ∷ y ∷ more) fits =
      let own : List Token = operator_tokens o in
      let tails : Open Tails = to_tails (y ∷ more) in
      append_assoc own (operand_tokens x ++ tails_tokens tails.0) (option_spelling half_tokens tails.1)
      ∙ ap (λ (m : List Token). own ++ m) (append_assoc (operand_tokens x) (tails_tokens tails.0) (option_spelling half_tokens tails.1) ∙ ap (λ (m : List Token). operand_tokens x ++ m) (items_said (y ∷ more) fits.2))
      ∙ sym (append_assoc own (operand_tokens x ++ []) (flat_map item_spell (y ∷ more)) ∙ ap (λ (m : List Token). own ++ (m ++ flat_map item_spell (y ∷ more))) (append-nil (operand_tokens x)))
  items_said ((o, (x, Some greater)) ∷ y ∷ more) fits = let bad : false ≡ true = fits.1 in absurd cc

  parts_said : (x : Open Operand × Option (List Item)) → PartsFit x → open_spelling operand_tokens (joined x) ≡ joined_spelling (open_spelling operand_tokens) (flat_map item_spell) x
  unfolding operand_tokens
  parts_said (x, None) fits = sym (append-nil (open_spelling operand_tokens x))
  parts_said ((x, None), Some all) fits = append_assoc (operand_tokens x) (tails_tokens (to_tails all).0) (option_spelling half_tokens (to_tails all).1) ∙ ap (λ (m : List Token). operand_tokens x ++ m) (items_said all fits.1.1.1) ∙ ap (λ (m : List Token). m ++ flat_map item_spell all) (sym (append-nil (operand_tokens x)))
  parts_said ((x, Some greater), Some all) fits = let bad : false ≡ true = fits.1.0 in absurd cc

  -- ---- what goes on

  abbrev after_tails : Tails → List ℕ
  after_tails x = taken (λ next opens. tails_take next opens loose x) ++ tails_alone x

  abbrev half_tails : Tails → List ℕ
  half_tails x = half_of (λ next opens. tails_take next opens loose x) (tails_alone x)

  own_binds : (m : ℕ) → binds_between m opens_nothing m (suc m) ≡ true
  own_binds m = and_true (not (nat_lt m m)) (nat_lt m (suc m)) (not_below (nat_lt m m) refl) (lt-ltb m (suc m) (omega arith)) where
    not_below : (b : Bool) → nat_lt m m ≡ b → not b ≡ true
    not_below true e = absurd (omega (arith, ltb-true m m e))
    not_below false e = refl

  own_again : (o : Operator) (x : Operand) → level o ≡ loose → tails_take loose opens_nothing loose (t.tail o x t.no_tails) ≡ true
  unfolding tails_take
  own_again o x e =
      or_right (binds_between loose opens_nothing loose (level o)) ((binds_between loose opens_nothing loose (suc (level o)) && repeats (level o)) || operand_takes loose opens_nothing (max loose (suc (level o))) x)
      (or_left (binds_between loose opens_nothing loose (suc (level o)) && repeats (level o)) (operand_takes loose opens_nothing (max loose (suc (level o))) x)
      (ap (λ (m : ℕ). binds_between loose opens_nothing loose (suc m) && repeats m) e ∙ and_true (binds_between loose opens_nothing loose (suc loose)) (repeats loose) (own_binds loose) again))

  list_on : (all : List Item) → is_empty all ≡ false → EachFit ItemFits may_item all → Within (after_list codes may_item (λ (y : Item). after_open (after_operand (suc loose)) (half_operand (suc loose)) y.1) all) (after_open after_tails half_tails (to_tails all))
  unfolding tails_take tails_alone
  list_on [] some fits = absurd cc
  list_on ((o, (x, None)) ∷ []) some fits =
      let takes : Taking = λ next opens. tails_take next opens loose (t.tail o x t.no_tails) in
      within_union (within_union (within_then (taken_moves nexts (λ next opens. operand_takes next opens (suc loose) x) takes (last_takes loose o x (leveled o fits.0.0))) (within_left (taken takes) (operand_alone x))) (within_right (taken takes) (operand_alone x)))
      (within_given (leaves loose x) (λ e. within_then (within_at row nexts codes takes own (here_row takes ∙ own_again o x (leveled o fits.0.0))) (within_left (taken takes) (operand_alone x))))
  list_on ((o, (x, Some greater)) ∷ []) some fits =
      within_union (half_moves (λ next opens. operand_takes next opens (suc loose) x) (λ next opens. tails_take next opens loose (t.tail o x t.no_tails)) (operand_alone x) (last_takes loose o x (leveled o fits.0.0))) (within_none (half_of (λ next opens. tails_take next opens loose (t.tail o x t.no_tails)) (operand_alone x)))
  list_on ((o, (x, h)) ∷ y ∷ []) some fits = list_on (y ∷ []) refl fits.2
  list_on ((o, (x, h)) ∷ y ∷ z ∷ more) some fits = list_on (y ∷ z ∷ more) refl fits.2

  parts_on : (x : Open Operand × Option (List Item)) → PartsFit x → Within (after_followed (after_open (after_operand (suc loose)) (half_operand (suc loose))) may codes (after_list codes may_item (λ (y : Item). after_open (after_operand (suc loose)) (half_operand (suc loose)) y.1)) x) (after_open (after_operand loose) (half_operand loose) (joined x))
  unfolding operand_takes operand_alone
  parts_on ((x, None), None) fits =
      let takes : Taking = λ next opens. operand_takes next opens loose x in
      within_union (looser (suc loose) loose x (omega arith)) (within_given (may (x, None)) (λ e. within_then (within_at row nexts codes takes own (here_row takes ∙ rises x (H.none_out x fits.0))) (within_left (taken takes) (operand_alone x))))
  parts_on ((x, Some greater), None) fits = within_union (looser_half (suc loose) loose x (omega arith)) (within_none (half_operand loose x))
  parts_on ((x, None), Some all) fits = items_on (to_tails all) refl where
    items_on : (made : Open Tails) → made ≡ to_tails all → Within (after_list codes may_item (λ (y : Item). after_open (after_operand (suc loose)) (half_operand (suc loose)) y.1) all) (after_open (after_operand loose) (half_operand loose) (with_half (t.binary x) made))
    items_on (tails, None) e = subst (λ (z : Open Tails). Within (after_list codes may_item (λ (y : Item). after_open (after_operand (suc loose)) (half_operand (suc loose)) y.1) all) (after_open after_tails half_tails z)) (sym e) (list_on all fits.1.1.0 fits.1.1.1)
    items_on (tails, Some greater) e = subst (λ (z : Open Tails). Within (after_list codes may_item (λ (y : Item). after_open (after_operand (suc loose)) (half_operand (suc loose)) y.1) all) (after_open after_tails half_tails z)) (sym e) (list_on all fits.1.1.0 fits.1.1.1)
  parts_on ((x, Some greater), Some all) fits = let bad : false ≡ true = fits.1.0 in absurd cc

  -- ---- the fronts

  go_drop : (all : List Item) → AllByRecursion (GoesOn ItemFits may_item) all → AllByRecursion (GoesOn PlainFits leaves_item) (drop all) × (flat_map item_spell all ≡ flat_map plain_spell (drop all))
  go_drop [] go = (tt, refl)
  go_drop ((o, (x, None)) ∷ more) go =
      let w = go_drop more go.1 in
      ((((go.0.0.0, L.none_out x go.0.0.1), go.0.1), w.0), ap (λ (m : List Token). (operator_tokens o ++ m) ++ flat_map item_spell more) (append-nil (operand_tokens x)) ∙ ap (λ (m : List Token). (operator_tokens o ++ operand_tokens x) ++ m) w.1)
  go_drop ((o, (x, Some greater)) ∷ more) go = let bad : false ≡ true = go.0.1 in absurd cc

  go_keep : (all : List (Operator × Operand)) → AllByRecursion (GoesOn PlainFits leaves_item) all → AllByRecursion (GoesOn ItemFits may_item) (keep no_between all) × (flat_map plain_spell all ≡ flat_map item_spell (keep no_between all))
  go_keep [] go = (tt, refl)
  go_keep (x ∷ more) go =
      let w = go_keep more go.1 in
      ((((go.0.0.0, L.none_in x.1 go.0.0.1), go.0.1), w.0), ap (λ (m : List Token). (operator_tokens x.0 ++ operand_tokens x.1) ++ m) w.1 ∙ ap (λ (m : List Token). (operator_tokens x.0 ++ m) ++ flat_map item_spell (keep no_between more)) (sym (append-nil (operand_tokens x.1))))

  abbrev PartsFront : Front Token
  PartsFront = Joint (open_spelling operand_tokens) H.Fits may front (Several item_spell ItemFits may_item ItemFront)

  out : (ts : List Token) → PartsFront ts → Either front NodeFront ts
  out ts (inl f) = inl f
  out ts (inr ((x, None), more, fits, on, e, (all, rest, go, e', f))) =
      let w = and_both (has_room n (x, None)) (leaves loose x) on in
      let d = go_drop all go in
      inr (inr (x, more, down x (H.none_out x fits) (below_is operand_height n x w.0), w.1, e ∙ ap (λ (m : List Token). m ++ more) (append-nil (operand_tokens x)), (drop all, rest, d.0, e' ∙ ap (λ (m : List Token). m ++ rest) d.1, f)))
  out ts (inr ((x, Some greater), more, fits, on, e, h)) = let bad : false ≡ true = on in absurd cc

  into : (ts : List Token) → Either front NodeFront ts → PartsFront ts
  into ts (inl f) = inl f
  into ts (inr (inl f)) = inl (rise ts f)
  into ts (inr (inr (x, more, d, on, e, (all, rest, go, e', f)))) =
      let u = up x d in
      let k = go_keep all go in
      inr ((x, None), more, H.none_in x u.0, and_true (has_room n (x, None)) (leaves loose x) (is_below_by operand_height n x u.1) on, e ∙ ap (λ (m : List Token). m ++ more) (sym (append-nil (operand_tokens x))), (keep no_between all, rest, k.0, e' ∙ ap (λ (m : List Token). m ++ rest) k.1, f))

  pub chain_laws : OpenLaws (chain loose n signs here lower) operand_tokens (EitherFit F Node) (Either front NodeFront) first (after_operand loose) (half_operand loose)
  unfolding chain
  chain_laws = record {
    Fits = Made joined PartsFit;
    none_in = none_in;
    none_out = none_out;
    some_out = some_out;
    laws = refront (made_laws (followed_laws H.laws items_laws may here_apart) joined (open_spelling operand_tokens) (after_open (after_operand loose) (half_operand loose)) parts_said parts_on) out into;
  }

  -- ---- a `>` behind the row is given as a half, or stopped before, as behind the last operand

  no_greater : has codes (sign_code s.Greater) ≡ false
  no_greater = not_true (has codes (sign_code s.Greater)) (λ h. (apart {xs = alone} {ys = codes} apart_alone).never_both (sign_code s.Greater) refl h)

  abbrev stopped : Operand → Bool → List Token → Outcome Token (Open Operand)
  stopped x c mid = and_then (and_then (when c items_reader mid) (λ o z. Ok (((x, None), o), z))) (λ y z. Ok (joined y, z))

  pub operand_kept : (x : Operand) → ((g : Place) → H.Fits (x, Some g)) → (g : Place) → chain_laws.Fits (x, Some g)
  unfolding chain_laws
  operand_kept x known g = (((x, Some g), None), (known g, tt), refl)

  pub operand_settled : (x : Operand) → F x → Settled H x → Settled chain_laws x
  unfolding chain chain_laws class_of
  operand_settled x fits (inl known) = inl (λ g. (((x, Some g), None), (known g, tt), refl))
  operand_settled x fits (inr stays) = inr (λ g ts.
      ap (λ (r : Outcome Token (Open Operand)). and_then (and_then r (λ a mid. and_then (when (may a && starts class_of codes mid) items_reader mid) (λ o z. Ok ((a, o), z)))) (λ y z. Ok (joined y, z))) (stays g ts)
      ∙ ap (λ (c : Bool). stopped x c (sign_at g s.Greater ∷ ts)) (and_false (may (x, None)) (has codes (sign_code s.Greater)) no_greater))

  each_half : (h : Option Place) (x : Operand) (all : List (Operator × Operand)) → EachFit PlainFits leaves_item all → L.Fits (last_of x all, h) → EachFit ItemFits may_item (keep (ending h no_between) all)
  each_half h x [] fits last = tt
  each_half h x (y ∷ []) fits last = ((fits.0.0, last), or_right (may_item (y.0, (y.1, h))) true refl, tt)
  each_half h x (y ∷ z ∷ more) fits last = ((fits.0.0, L.none_in y.1 fits.0.1), fits.1, each_half h y.1 (z ∷ more) fits.2 last)

  module _ (asks : Operand → Bool) (settled : (x : Operand) → U x → asks x ≡ true → Settled L x) where
    abbrev next_low : Open Operand → List ℕ
    next_low = after_open (sharp L asks settled) (half_operand (suc loose))

    sharp_item : (x : Item) → ItemFits x → may_item x ≡ true → Apart (next_low x.1) codes
    sharp_item (o, (x, None)) fits on = apart_smaller (sharp_within L asks settled x) (left x on)
    sharp_item (o, (x, Some greater)) fits on = absurd cc

    sharp_items : Laws class_of items_reader (flat_map item_spell) (SomeFit ItemFits may_item) (Several item_spell ItemFits may_item ItemFront) codes (after_list codes may_item (λ y. next_low y.1)) false
    sharp_items = some_laws (both_laws O (refined_laws L asks settled) (λ o fits. apart_none ufirst)) may_item sharp_item

    given_none : (b : Bool) → has (given b codes) (sign_code s.Greater) ≡ false
    given_none true = no_greater
    given_none false = refl

    stop : (x : Operand) (all : List (Operator × Operand)) → is_empty all ≡ false → asks (last_of x all) ≡ true → reads_half L (last_of x all) ≡ false → has (after_list codes may_item (λ (y : Item). next_low y.1) (keep no_between all)) (sign_code s.Greater) ≡ false
    stop x [] some on none = absurd cc
    stop x (y ∷ []) some on none =
        not_either (sharp L asks settled y.1) (given (may_item (y.0, (y.1, None))) codes) (sign_code s.Greater)
        (not_true (has (sharp L asks settled y.1) (sign_code s.Greater)) (λ h. (sharp_apart L asks settled y.1 on none).never_both (sign_code s.Greater) h refl)) (given_none (may_item (y.0, (y.1, None))))
    stop x (y ∷ z ∷ more) some on none = stop y.1 (z ∷ more) refl on none

    node_parts : (x : Operand) (h : Option Place) (all : List (Operator × Operand)) → D x → leaves loose x ≡ true → SomeFit PlainFits leaves_item all → L.Fits (last_of x all, h) → PartsFit ((x, None), Some (keep (ending h no_between) all))
    node_parts x h all d on fits last = (H.none_in x (up x d).0, (and_true (has_room n (x, None)) (leaves loose x) (is_below_by operand_height n x (up x d).1) on, (empty_keep (ending h no_between) all ∙ fits.0, each_half h x all fits.1 last)))

    plain_parts : (x : Operand) (all : List (Operator × Operand)) → D x → leaves loose x ≡ true → SomeFit PlainFits leaves_item all → PartsFit ((x, None), Some (keep no_between all))
    plain_parts x all d on fits = (H.none_in x (up x d).0, (and_true (has_room n (x, None)) (leaves loose x) (is_below_by operand_height n x (up x d).1) on, (empty_keep no_between all ∙ fits.0, each_keep all fits.1)))

    stays_read : (x : Operand) (all : List (Operator × Operand)) → D x → leaves loose x ≡ true → SomeFit PlainFits leaves_item all → asks (last_of x all) ≡ true → reads_half L (last_of x all) ≡ false → (place : Place) (ts : List Token) →
        chain loose n signs here lower (open_spelling operand_tokens (t.binary x (g.to_tails all), None) ++ sign_at place s.Greater ∷ ts) ≡ Ok ((t.binary x (g.to_tails all), None), sign_at place s.Greater ∷ ts)
    unfolding chain class_of
    stays_read x all d on fits asked none place ts =
        let parts : Open Operand × Option (List Item) = ((x, None), Some (keep no_between all)) in
        let known : PartsFit ((x, None), Some (keep no_between all)) = plain_parts x all d on fits in
        let made : joined ((x, None), Some (keep no_between all)) ≡ (t.binary x (g.to_tails all), None) = ap (with_half (t.binary x)) (tails_keep no_between all fits.0) in
        ap (λ (m : List Token). chain loose n signs here lower (m ++ sign_at place s.Greater ∷ ts)) (ap (open_spelling operand_tokens) (sym made) ∙ parts_said ((x, None), Some (keep no_between all)) known)
        ∙ ap (λ (r : Outcome Token (Open Operand × Option (List Item))). and_then r (λ y z. Ok (joined y, z))) ((followed_laws H.laws sharp_items may here_apart).complete ((x, None), Some (keep no_between all)) (sign_at place s.Greater ∷ ts) known (stop x all fits.0 asked none))
        ∙ ap (λ (y : Open Operand). gave y (sign_at place s.Greater ∷ ts)) made

    pub node_settled : (x : Operand) (all : List (Operator × Operand)) → D x → leaves loose x ≡ true → SomeFit PlainFits leaves_item all → asks (last_of x all) ≡ true → Settled chain_laws (t.binary x (g.to_tails all))
    unfolding chain_laws
    node_settled x all d on fits asked = by_half (reads_half L (last_of x all)) refl where
      by_half : (b : Bool) → reads_half L (last_of x all) ≡ b → Settled chain_laws (t.binary x (g.to_tails all))
      by_half true e = inl (λ place. (((x, None), Some (keep (ending (Some place) no_between) all)), node_parts x (Some place) all d on fits (half_read L (last_of x all) (settled (last_of x all) (last_fits Of U leaves_item x all fits.0 fits.1) asked) e place), ap (with_half (t.binary x)) (tails_keep (ending (Some place) no_between) all fits.0)))
      by_half false e = inr (λ place ts. stays_read x all d on fits asked e place ts)
