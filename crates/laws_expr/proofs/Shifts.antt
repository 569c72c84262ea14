-- The law of the row of shifts (ECMA-408, 16.26 Shift): behind an operand stands `<<`, or the half of `> >` that was read with it and the other half.
use Rattle.std.proofs.Common.{◌≡◌, ℕ, suc, max, ◌<◌, Bool, true, false, ◌&&◌, ◌||◌, List, [], ◌∷◌, ◌++◌, Option, None, Some, Ok, ◌⊎◌, inl, inr, refl, ap, sym, ◌∙◌, subst, append_assoc, flat_map, arith}
use Rattle.std.proofs.lemmas.List.{append-nil}
use Rattle.std.specs.List.{AllByRecursion}
use Rattle.dart_base.specs.declared.place.Place.{Place}
use Rattle.dart_token.specs.declared.token.Token.{Token}
use Rattle.dart_token.specs.declared.sign.Sign.TheVariants as s
use Rattle.dart_tree.specs.declared.operator.Operator.{Operator}
use Rattle.dart_tree.specs.LeafTokens.{sign_at, operator_tokens}
use Rattle.dart_tree.specs.Depth.{operand_height}
use Rattle.dart_tree.specs.Types.{TypeNode}
use Rattle.dart_tree.specs.Tree as t
use Rattle.dart_tree.specs.Tree.{Operand, Tails}
use Rattle.dart_tree.specs.Tokens.{operand_tokens, tails_tokens}
use Rattle.grammar_laws.specs.Codes.{has, Apart, Within, given, is_empty, after_followed_by, after_list_from}
use Rattle.grammar_laws.specs.Readers.{Outcome, Reader, and_then, always, never, starts, when, continued_by}
use Rattle.grammar_laws.specs.Fronts.{Front, Joint, JointBy, Several, SeveralFrom, Either, EitherFit, BothFit, GoesOn, ContinuedFitBy, SomeFit, EachFit, SomeFitFrom, EachFitFrom, GoOnFrom, state_after, Made, both_spelling, joined_spelling, option_spelling}
use Rattle.grammar_laws.specs.Laws.{Laws}
use Rattle.grammar_laws.proofs.Codes.{apart, apart_none, apart_smaller, apart_union, and_both, and_true, and_false, not_true, clash, within_then, within_union, within_given, within_self, within_left, within_right, or_right}
use Rattle.grammar_laws.proofs.Cuts.{gave}
use Rattle.grammar_laws.proofs.Depth.{below_is, is_below_by}
use Rattle.grammar_laws.proofs.Restated.{made_laws, refront}
use Rattle.grammar_laws.proofs.Combined.{both_laws}
use Rattle.grammar_laws.proofs.Continued.{continued_by_laws}
use Rattle.grammar_laws.proofs.Stated.{some_from_laws}
use Rattle.grammar_laws.specs.Depth.{is_below}
use Rattle.dart_syntax.specs.Leaves as l
use Rattle.dart_syntax.specs.Edges.{repeats, binds_between, leaves, opens_nothing, compares, operand_takes, tails_take}
use Rattle.dart_syntax.specs.Edges as edge
use Rattle.dart_syntax.specs.Expressions as g
use Rattle.dart_syntax.specs.Levels.{level, sign_level}
use Rattle.token_codes.specs.Codes.{class_of, sign_code, these}
use Rattle.syntax_readers.specs.Combinators.{◌~◌, Open, with_half, halved}
use Rattle.syntax_readers.specs.Primaries.{operand_first}
use Rattle.syntax_readers.specs.Levels.{Item, has_room, item_leaves, to_tails, joined, whole, shift_codes, shift_operator, shift_tails, shift}
use Rattle.laws_expr.specs.Nexts.{Taking, nexts, taken, operand_alone, tails_alone, after_operand}
use Rattle.laws_expr.proofs.Open.{OpenLaws, Settled, open_spelling, half_tokens, after_open, bare, tree, no_some, tree_fits}
use Rattle.laws_expr.proofs.Edges.{within_at, taken_moves, operand_moves}
use Rattle.laws_expr.proofs.Chain.{half_of, half_operand, half_moves, looser, looser_half, left_apart, last_takes}
use Rattle.laws_expr.proofs.Halved.{halved_laws, halved_settled}
use Rattle.laws_expr.proofs.Refined.{reads_half, half_read, sharp, sharp_within, sharp_apart, refined_laws}
use Rattle.laws_expr.proofs.Sets.{given_off, not_false, not_either, given_more}
use Rattle.laws_expr.proofs.Tails.{plain_spell, drop, ending, keep, tails_drop, tails_keep, empty_drop, empty_keep, last_of, last_fits}
use Rattle.laws_expr.proofs.Divided.{second_tokens, first_half, ShiftFits, shift_front, shift_operator_laws, shift_said, shift_out, shift_of, shift_level}

abbrev shifts_at : ℕ
shifts_at = 9

abbrev operand_at : ℕ
operand_at = 10

-- ---- what goes on

left_off : (x : Operand) → leaves shifts_at x ≡ true → operand_takes shifts_at opens_nothing operand_at x ≡ false
left_off x left = off (operand_takes shifts_at opens_nothing operand_at x) refl where
  off : (b : Bool) → operand_takes shifts_at opens_nothing operand_at x ≡ b → operand_takes shifts_at opens_nothing operand_at x ≡ false
  off false e = e
  off true e = clash (operand_takes shifts_at opens_nothing edge.nowhere x) (operand_moves shifts_at opens_nothing x operand_at edge.nowhere (inr (inl (omega arith))) e) (not_false (operand_takes shifts_at opens_nothing edge.nowhere x) left)

no_left : (x : Operand) (b : Bool) → leaves shifts_at x ≡ true → Apart (after_operand operand_at x ++ given b (these s.Greater)) (these s.ShiftLeft)
no_left x b on = apart_union (left_apart shifts_at operand_at 10 (these s.ShiftLeft) x (omega arith) refl (λ takes. refl) refl on) (apart_smaller (within_given b (λ e. within_self (these s.Greater))) (apart refl))

no_greater : (x : Operand) → leaves shifts_at x ≡ true → Apart (half_operand operand_at x) (these s.Greater)
no_greater x on =
    apart_union (given_off (operand_takes shifts_at opens_nothing operand_at x) (these s.Greater) (these s.Greater) (left_off x on))
    (apart_union (apart_smaller (within_given (operand_takes compares opens_nothing operand_at x) (λ e. within_self operand_first)) (apart refl)) (apart_smaller (within_given (has (operand_alone x) (sign_code s.Assign)) (λ e. within_self (these s.GreaterEqual))) (apart refl)))

again : (x : Operator) (y : Operand) → level x ≡ shifts_at → tails_take shifts_at opens_nothing shifts_at (t.tail x y t.no_tails) ≡ true
unfolding tails_take
again x y e = subst (λ (m : ℕ). (binds_between shifts_at opens_nothing shifts_at m || ((binds_between shifts_at opens_nothing shifts_at (suc m) && repeats m) || operand_takes shifts_at opens_nothing (max shifts_at (suc m)) y)) ≡ true) (sym e) refl

-- the other half
shift_in : (takes : Taking) (own : List ℕ) (b : Bool) → (b ≡ true → takes 9 opens_nothing ≡ true) → Within (given b (these s.Greater)) (half_of takes own)
shift_in takes own b on = within_then (given_more b (takes (sign_level s.ShiftLeft) opens_nothing) (these s.Greater) on) (within_left (given (takes (sign_level s.ShiftLeft) opens_nothing) (these s.Greater)) (given (takes compares opens_nothing) operand_first ++ given (has own (sign_code s.Assign)) (these s.GreaterEqual)))

or_first : (b : Bool) → (b || false) ≡ true → b ≡ true
or_first true e = refl
or_first false e = absurd cc

-- ---- their tokens

abbrev item_spell : Item → List Token
item_spell = both_spelling second_tokens (open_spelling operand_tokens)

regroup : (a b c d e : List Token) → a ++ ((b ++ (c ++ d)) ++ e) ≡ (a ++ b) ++ (c ++ (d ++ e))
regroup a b c d e = simp append_assoc

abbrev before : List (Operator × Operand) → Option Place
before [] = None
before (x ∷ more) = first_half x.0

-- ---- the row

module _ (n : ℕ)
    {here : Reader Token (Open Operand)} {F : Operand → Type 0} {front : Front Token} {first : List ℕ} (H : OpenLaws here operand_tokens F front first (after_operand 10) (half_operand 10))
    (decide : (x : Operand) → F x → leaves 9 x ≡ true → Settled H x)
    (lower : Reader Token (Open Operand)) {U : Operand → Type 0} {ufront : Front Token} {ufirst : List ℕ} (L : OpenLaws (whole lower) operand_tokens U ufront ufirst (after_operand 10) (half_operand 10))
    (decide_low : (x : Operand) → U x → leaves 9 x ≡ true → Settled L x)
    {D : Operand → Type 0} {dfront : Front Token}
    (down : (x : Operand) → F x → operand_height x < n → D x) (up : (x : Operand) → D x → F x × (operand_height x < n)) (rise : (ts : List Token) → dfront ts → front ts)
    (rises : (x : Operand) → F x → operand_takes 9 opens_nothing 9 x ≡ true) where
  abbrev may_half : Operand → Bool
  may_half x = is_below operand_height n x && leaves 9 x

  abbrev leaves_shift : Operand → Bool
  leaves_shift x = leaves 9 x

  here_decided : (x : Operand) → F x → may_half x ≡ true → Settled H x
  here_decided x fits on = decide x fits (and_both (is_below operand_height n x) (leaves 9 x) on).1

  abbrev here_half : OpenLaws (halved may_half here) operand_tokens F (Joint operand_tokens F may_half front (l.sign s.Greater).front) first (λ x. after_operand 10 x ++ given (may_half x) (these s.Greater)) (half_operand 10)
  here_half = halved_laws H may_half here_decided

  abbrev low_half : OpenLaws (halved leaves_shift (whole lower)) operand_tokens U (Joint operand_tokens U leaves_shift ufront (l.sign s.Greater).front) ufirst (λ x. after_operand 10 x ++ given (leaves_shift x) (these s.Greater)) (half_operand 10)
  low_half = halved_laws L leaves_shift decide_low

  abbrev after_here : Open Operand → List ℕ
  after_here = after_open (λ x. after_operand 10 x ++ given (may_half x) (these s.Greater)) (half_operand 10)

  abbrev after_low : Open Operand → List ℕ
  after_low = after_open (λ x. after_operand 10 x ++ given (leaves_shift x) (these s.Greater)) (half_operand 10)

  here_in : (x : Operand) (h : Option Place) → F x → may_half x ≡ true → here_half.Fits (x, h)
  here_in x None fits on = here_half.none_in x fits
  here_in x (Some g) fits on = inr (fits, on)

  low_in : (x : Operand) (h : Option Place) → U x → leaves 9 x ≡ true → low_half.Fits (x, h)
  low_in x None fits on = low_half.none_in x fits
  low_in x (Some g) fits on = inr (fits, on)

  -- ---- operators with their operands

  abbrev may_item : Option Place → Item → Bool
  may_item h x = item_leaves 9 x

  abbrev step : Option Place → Item → Option Place
  step h x = x.1.1

  abbrev ItemFits : Option Place → Item → Type 0
  ItemFits h = BothFit (ShiftFits h) low_half.Fits

  abbrev low_front : Front Token
  low_front = Joint operand_tokens U leaves_shift ufront (l.sign s.Greater).front

  abbrev item_front : Option Place → Front Token
  item_front h = Joint second_tokens (ShiftFits h) always (shift_front h) low_front

  abbrev item_next : Item → List ℕ
  item_next x = after_low x.1

  abbrev item_reader : Option Place → Reader Token Item
  item_reader h = shift_operator h ~ halved leaves_shift (whole lower)

  item_laws : (h : Option Place) → Laws class_of (item_reader h) item_spell (ItemFits h) (item_front h) (shift_codes h) item_next false
  item_laws h = both_laws (shift_operator_laws h) low_half.laws (λ x fits. apart_none ufirst)

  item_apart : (h : Option Place) (x : Item) → ItemFits h x → may_item h x ≡ true → Apart (item_next x) (shift_codes (step h x))
  item_apart h (operator, (x, None)) fits on = no_left x (leaves 9 x) on
  item_apart h (operator, (x, Some g)) fits on = no_greater x on

  tails_laws : (h : Option Place) → Laws class_of (shift_tails h lower) (flat_map item_spell) (SomeFitFrom ItemFits may_item step h) (SeveralFrom item_spell ItemFits may_item step item_front h) (shift_codes h) (after_list_from shift_codes may_item step item_next h) false
  unfolding shift_tails
  tails_laws h = some_from_laws item_laws may_item step item_apart h

  -- ---- the parts

  abbrev may : Open Operand → Bool
  may x = has_room n x && leaves 9 x.0

  here_apart : (x : Open Operand) → here_half.Fits x → may x ≡ true → Apart (after_here x) (shift_codes x.1)
  here_apart (x, None) fits on = no_left x (may_half x) (and_both (has_room n (x, None)) (leaves 9 x) on).1
  here_apart (x, Some g) fits on = no_greater x (and_both (has_room n (x, Some g)) (leaves 9 x) on).1

  abbrev PartsFit : Open Operand × Option (List Item) → Type 0
  PartsFit = ContinuedFitBy here_half.Fits never may (λ (x : Open Operand). SomeFitFrom ItemFits may_item step x.1)

  abbrev PartsFront : Front Token
  PartsFront = JointBy (open_spelling operand_tokens) here_half.Fits may (Joint operand_tokens F may_half front (l.sign s.Greater).front) (λ (x : Open Operand). SeveralFrom item_spell ItemFits may_item step item_front x.1)

  abbrev after_parts : Open Operand × Option (List Item) → List ℕ
  after_parts = after_followed_by after_here may (λ (x : Open Operand). shift_codes x.1) (λ (x : Open Operand). after_list_from shift_codes may_item step item_next x.1)

  abbrev parts_reader : Reader Token (Open Operand × Option (List Item))
  parts_reader = continued_by class_of never may (λ (x : Open Operand). shift_codes x.1) (halved may_half here) (λ x. shift_tails x.1 lower)

  parts_laws : Laws class_of parts_reader (joined_spelling (open_spelling operand_tokens) (flat_map item_spell)) PartsFit PartsFront first after_parts false
  parts_laws = continued_by_laws here_half.laws (λ x fits. tails_laws x.1) never may (λ x e. absurd cc) here_apart

  -- ---- the grammar's node

  abbrev PlainFits : Operator × Operand → Type 0
  PlainFits = BothFit g.shifting.Fits U

  abbrev leaves_item : Operator × Operand → Bool
  leaves_item x = leaves 9 x.1

  abbrev Node : Operand → Type 0
  Node = Made (λ (x : Operand × List (Operator × Operand)). t.binary x.0 (g.to_tails x.1)) (BothFit (GoesOn D (leaves 9)) (SomeFit PlainFits leaves_item))

  abbrev ItemFront : Front Token
  ItemFront = Joint operator_tokens g.shifting.Fits always g.shifting.front ufront

  abbrev NodeFront : Front Token
  NodeFront = Joint operand_tokens D (leaves 9) dfront (Several plain_spell PlainFits leaves_item ItemFront)

  each_drop : (h : Option Place) (all : List Item) → EachFitFrom ItemFits may_item step h all → EachFit PlainFits leaves_item (drop all)
  each_drop h [] fits = tt
  each_drop h (x ∷ more) fits = ((shift_out h x.0 fits.0.0, tree_fits low_half x.1 fits.0.1), ap (λ b. leaves 9 x.1.0 || b) (empty_drop more) ∙ fits.1, each_drop x.1.1 more fits.2)

  before_in : (x : Operand) (more : List (Operator × Operand)) → U x → (leaves 9 x || is_empty more) ≡ true → low_half.Fits (x, before more)
  before_in x [] fits on = low_half.none_in x fits
  before_in x (y ∷ more) fits on = low_in x (first_half y.0) fits (or_first (leaves 9 x) on)

  each_keep : (all : List (Operator × Operand)) → EachFit PlainFits leaves_item all → EachFitFrom ItemFits may_item step (before all) (keep before all)
  each_keep [] fits = tt
  each_keep (x ∷ more) fits = ((shift_of x.0 fits.0.0, before_in x.1 more fits.0.1 fits.1), ap (λ b. leaves 9 x.1 || b) (empty_keep before more) ∙ fits.1, each_keep more fits.2)

  node_of : (x : Open Operand) (all : List Item) → here_half.Fits x → may x ≡ true → SomeFitFrom ItemFits may_item step x.1 all → Node (t.binary x.0 (to_tails all).0)
  node_of x all fits on items =
      let w = and_both (has_room n x) (leaves 9 x.0) on in
      ((x.0, drop all), ((down x.0 (tree_fits here_half x fits) (below_is operand_height n x.0 w.0), w.1), (empty_drop all ∙ items.0, each_drop x.1 all items.1)), ap (t.binary x.0) (tails_drop all))

  none_in : (z : Operand) → EitherFit F Node z → Made joined PartsFit (z, None)
  none_in z (inl fits) = (((z, None), None), (here_half.none_in z fits, refl), refl)
  none_in z (inr ((x, all), ((d, on), (some, each)), e)) =
      let u = up x d in
      let go : may_half x ≡ true = and_true (is_below operand_height n x) (leaves 9 x) (is_below_by operand_height n x u.1) on in
      (((x, before all), Some (keep before all)), (here_in x (before all) u.0 go, (go, (empty_keep before all ∙ some, each_keep all each))), ap (with_half (t.binary x)) (tails_keep before all some) ∙ ap bare e)

  none_out : (z : Operand) → Made joined PartsFit (z, None) → EitherFit F Node z
  none_out z (((x, None), None), fits, e) = inl (subst F (ap tree e) (tree_fits here_half (x, None) fits.0))
  none_out z (((x, Some g), None), fits, e) = no_some (x, Some g) (z, None) e refl refl
  none_out z ((x, Some all), fits, e) = inr (subst Node (ap tree e) (node_of x all fits.0 fits.1.0 fits.1.1))

  some_out : (z : Operand) (g : Place) → Made joined PartsFit (z, Some g) → EitherFit F Node z
  some_out z g (((x, None), None), fits, e) = no_some (z, Some g) (x, None) (sym e) refl refl
  some_out z g (((x, Some other), None), fits, e) = inl (subst F (ap tree e) (tree_fits here_half (x, Some other) fits.0))
  some_out z g ((x, Some all), fits, e) = inr (subst Node (ap tree e) (node_of x all fits.0 fits.1.0 fits.1.1))

  -- ---- the tokens

  items_said : (h : Option Place) (all : List Item) → is_empty all ≡ false → EachFitFrom ItemFits may_item step h all → option_spelling half_tokens h ++ flat_map item_spell all ≡ tails_tokens (to_tails all).0 ++ option_spelling half_tokens (to_tails all).1
  unfolding tails_tokens
  items_said h [] some fits = absurd cc
  items_said h ((x, (y, k)) ∷ []) some fits =
      let last : operator_tokens x ++ (operand_tokens y ++ (option_spelling half_tokens k ++ [])) ≡ (operator_tokens x ++ (operand_tokens y ++ [])) ++ option_spelling half_tokens k = simp (append_assoc, append-nil) in
      regroup (option_spelling half_tokens h) (second_tokens x) (operand_tokens y) (option_spelling half_tokens k) []
      ∙ ap (λ (m : List Token). m ++ (operand_tokens y ++ (option_spelling half_tokens k ++ []))) (shift_said h x fits.0.0)
      ∙ last
  items_said h ((x, (y, k)) ∷ z ∷ more) some fits =
      let tails : Open Tails = to_tails (z ∷ more) in
      regroup (option_spelling half_tokens h) (second_tokens x) (operand_tokens y) (option_spelling half_tokens k) (flat_map item_spell (z ∷ more))
      ∙ ap (λ (m : List Token). m ++ (operand_tokens y ++ (option_spelling half_tokens k ++ flat_map item_spell (z ∷ more)))) (shift_said h x fits.0.0)
      ∙ ap (λ (m : List Token). operator_tokens x ++ (operand_tokens y ++ m)) (items_said k (z ∷ more) refl fits.2)
      ∙ sym (append_assoc (operator_tokens x) (operand_tokens y ++ tails_tokens tails.0) (option_spelling half_tokens tails.1) ∙ ap (λ (m : List Token). operator_tokens x ++ m) (append_assoc (operand_tokens y) (tails_tokens tails.0) (option_spelling half_tokens tails.1)))

  parts_said : (x : Open Operand × Option (List Item)) → PartsFit x → open_spelling operand_tokens (joined x) ≡ joined_spelling (open_spelling operand_tokens) (flat_map item_spell) x
  unfolding operand_tokens
  parts_said (x, None) fits = sym (append-nil (open_spelling operand_tokens x))
  parts_said (x, Some all) fits =
      append_assoc (operand_tokens x.0) (tails_tokens (to_tails all).0) (option_spelling half_tokens (to_tails all).1) ∙ ap (λ (m : List Token). operand_tokens x.0 ++ m) (sym (items_said x.1 all fits.1.1.0 fits.1.1.1))
      ∙ sym (append_assoc (operand_tokens x.0) (option_spelling half_tokens x.1) (flat_map item_spell all))

  -- ---- what goes on behind them

  abbrev after_tails : Tails → List ℕ
  after_tails x = taken (λ next opens. tails_take next opens 9 x) ++ tails_alone x

  abbrev half_tails : Tails → List ℕ
  half_tails x = half_of (λ next opens. tails_take next opens 9 x) (tails_alone x)

  own_again : (h : Option Place) (x : Item) → ItemFits h x → tails_take 9 opens_nothing 9 (t.tail x.0 x.1.0 t.no_tails) ≡ true
  own_again h x fits = again x.0 x.1.0 (shift_level x.0 (shift_out h x.0 fits.0))

  last_on : (h : Option Place) (x : Item) → ItemFits h x → (next : ℕ) (opens : TypeNode → Bool) → operand_takes next opens 10 x.1.0 ≡ true → tails_take next opens 9 (t.tail x.0 x.1.0 t.no_tails) ≡ true
  last_on h x fits = last_takes 9 x.0 x.1.0 (shift_level x.0 (shift_out h x.0 fits.0))

  list_on : (h : Option Place) (all : List Item) → is_empty all ≡ false → EachFitFrom ItemFits may_item step h all → Within (after_list_from shift_codes may_item step item_next h all) (after_open after_tails half_tails (to_tails all))
  unfolding tails_take tails_alone
  list_on h [] some fits = absurd cc
  list_on h ((x, (y, None)) ∷ []) some fits =
      let takes : Taking = λ next opens. tails_take next opens 9 (t.tail x y t.no_tails) in
      let own : Within (these s.Greater) (taken takes) = within_at 10 nexts (these s.Greater) takes refl (own_again h (x, (y, None)) fits.0) in
      let left : Within (these s.ShiftLeft) (taken takes) = within_at 10 nexts (these s.ShiftLeft) takes refl (own_again h (x, (y, None)) fits.0) in
      within_union (within_union (within_union (within_then (taken_moves nexts (λ next opens. operand_takes next opens 10 y) takes (last_on h (x, (y, None)) fits.0)) (within_left (taken takes) (operand_alone y))) (within_right (taken takes) (operand_alone y)))
      (within_given (leaves 9 y) (λ e. within_then own (within_left (taken takes) (operand_alone y))))) (within_given (leaves 9 y) (λ e. within_then left (within_left (taken takes) (operand_alone y))))
  list_on h ((x, (y, Some g)) ∷ []) some fits =
      let takes : Taking = λ next opens. tails_take next opens 9 (t.tail x y t.no_tails) in
      within_union (half_moves (λ next opens. operand_takes next opens 10 y) takes (operand_alone y) (last_on h (x, (y, Some g)) fits.0)) (shift_in takes (operand_alone y) (leaves 9 y) (λ e. own_again h (x, (y, Some g)) fits.0))
  list_on h ((x, (y, k)) ∷ z ∷ []) some fits = list_on k (z ∷ []) refl fits.2
  list_on h ((x, (y, k)) ∷ z ∷ w ∷ more) some fits = list_on k (z ∷ w ∷ more) refl fits.2

  parts_on : (x : Open Operand × Option (List Item)) → PartsFit x → Within (after_parts x) (after_open (after_operand 9) (half_operand 9) (joined x))
  unfolding operand_takes operand_alone
  parts_on ((x, None), None) fits =
      let takes : Taking = λ next opens. operand_takes next opens 9 x in
      let on : takes 9 opens_nothing ≡ true = rises x (tree_fits here_half (x, None) fits.0) in
      within_union (within_union (looser 10 9 x (omega arith)) (within_given (may_half x) (λ e. within_then (within_at 10 nexts (these s.Greater) takes refl on) (within_left (taken takes) (operand_alone x)))))
      (within_given (may (x, None)) (λ e. within_then (within_at 10 nexts (these s.ShiftLeft) takes refl on) (within_left (taken takes) (operand_alone x))))
  parts_on ((x, Some g), None) fits =
      let takes : Taking = λ next opens. operand_takes next opens 9 x in
      within_union (looser_half 10 9 x (omega arith)) (shift_in takes (operand_alone x) (may (x, Some g)) (λ e. rises x (tree_fits here_half (x, Some g) fits.0)))
  parts_on ((x, h), Some all) fits = items_on (to_tails all) refl where
    items_on : (made : Open Tails) → made ≡ to_tails all → Within (after_list_from shift_codes may_item step item_next h all) (after_open (after_operand 9) (half_operand 9) (with_half (t.binary x) made))
    items_on (tails, None) e = subst (λ (z : Open Tails). Within (after_list_from shift_codes may_item step item_next h all) (after_open after_tails half_tails z)) (sym e) (list_on h all fits.1.1.0 fits.1.1.1)
    items_on (tails, Some g) e = subst (λ (z : Open Tails). Within (after_list_from shift_codes may_item step item_next h all) (after_open after_tails half_tails z)) (sym e) (list_on h all fits.1.1.0 fits.1.1.1)

  -- ---- the fronts

  abbrev Items : Front Token
  Items = Several plain_spell PlainFits leaves_item ItemFront

  alone_items : (ts : List Token) → ItemFront ts → Items ts
  alone_items ts f = ([], ts, tt, refl, f)

  one_more : (x : Operator) (y : Operand) (ts : List Token) → g.shifting.Fits x → U y → leaves 9 y ≡ true → Items ts → Items ((operator_tokens x ++ operand_tokens y) ++ ts)
  one_more x y ts known fits on (all, rest, go, e, f) = ((x, y) ∷ all, rest, (((known, fits), on), go), ap (λ (m : List Token). (operator_tokens x ++ operand_tokens y) ++ m) e ∙ sym (append_assoc (operator_tokens x ++ operand_tokens y) (flat_map plain_spell all) rest), f)

  -- `>` behind an operand begins `> >`
  half_begins : (ts : List Token) → (l.sign s.Greater).front ts → Items ts
  half_begins ts f = alone_items ts (inl (inr (inl f)))

  behind_half : (h : Option Place) (ts : List Token) → shift_front h ts → ItemFront (option_spelling half_tokens h ++ ts)
  behind_half None ts f = inl (inl f)
  behind_half (Some g) ts f = inl (inr (inr (g, ts, tt, refl, refl, f)))

  item_out : (h : Option Place) (ts : List Token) → item_front h ts → Items (option_spelling half_tokens h ++ ts)
  item_out h ts (inl f) = alone_items (option_spelling half_tokens h ++ ts) (behind_half h ts f)
  item_out h ts (inr (x, more, known, go, e, inl f)) =
      alone_items (option_spelling half_tokens h ++ ts) (inr (x, more, shift_out h x known, refl, ap (λ (m : List Token). option_spelling half_tokens h ++ m) e ∙ sym (append_assoc (option_spelling half_tokens h) (second_tokens x) more) ∙ ap (λ (m : List Token). m ++ more) (shift_said h x known), f))
  item_out h ts (inr (x, more, known, go, e, inr (y, rest, fits, on, e', f))) =
      subst Items (sym (ap (λ (m : List Token). option_spelling half_tokens h ++ m) (e ∙ ap (λ (m : List Token). second_tokens x ++ m) e') ∙ sym (append_assoc (option_spelling half_tokens h) (second_tokens x) (operand_tokens y ++ rest)) ∙ ap (λ (m : List Token). m ++ (operand_tokens y ++ rest)) (shift_said h x known) ∙ sym (append_assoc (operator_tokens x) (operand_tokens y) rest)))
      (one_more x y rest (shift_out h x known) fits on (half_begins rest f))

  items_out : (h : Option Place) (all : List Item) (rest : List Token) → GoOnFrom ItemFits may_item step h all → item_front (state_after step h all) rest → Items (option_spelling half_tokens h ++ (flat_map item_spell all ++ rest))
  items_out h [] rest go f = item_out h rest f
  items_out h ((x, (y, k)) ∷ more) rest go f =
      subst Items (sym (ap (λ (m : List Token). option_spelling half_tokens h ++ m) (append_assoc (second_tokens x ++ (operand_tokens y ++ option_spelling half_tokens k)) (flat_map item_spell more) rest)
      ∙ regroup (option_spelling half_tokens h) (second_tokens x) (operand_tokens y) (option_spelling half_tokens k) (flat_map item_spell more ++ rest) ∙ ap (λ (m : List Token). m ++ (operand_tokens y ++ (option_spelling half_tokens k ++ (flat_map item_spell more ++ rest)))) (shift_said h x go.0.0)
      ∙ sym (append_assoc (operator_tokens x) (operand_tokens y) (option_spelling half_tokens k ++ (flat_map item_spell more ++ rest)))))
      (one_more x y (option_spelling half_tokens k ++ (flat_map item_spell more ++ rest)) (shift_out h x go.0.0) (tree_fits low_half (y, k) go.0.1) go.1 (items_out k more rest go.2 f))

  out : (ts : List Token) → PartsFront ts → Either front NodeFront ts
  out ts (inl (inl f)) = inl f
  out ts (inl (inr (x, more, fits, on, e, f))) =
      let w = and_both (is_below operand_height n x) (leaves 9 x) on in
      inr (inr (x, more, down x fits (below_is operand_height n x w.0), w.1, e, half_begins more f))
  out ts (inr ((x, h), more, fits, on, e, (all, rest, go, e', f))) =
      let w = and_both (has_room n (x, h)) (leaves 9 x) on in
      inr (inr (x, option_spelling half_tokens h ++ more, down x (tree_fits here_half (x, h) fits) (below_is operand_height n x w.0), w.1, e ∙ append_assoc (operand_tokens x) (option_spelling half_tokens h) more, subst Items (ap (λ (m : List Token). option_spelling half_tokens h ++ m) (sym e')) (items_out h all rest go f)))

  -- what stands behind an operand: the half of an operator alone, or a half or none and items behind it
  abbrev Ahead : List Token → Type 0
  Ahead ts = (l.sign s.Greater).front ts ⊎ ((h : Option Place) × (more : List Token) × (ts ≡ option_spelling half_tokens h ++ more) × SeveralFrom item_spell ItemFits may_item step item_front h more)

  first_said : (x : Operator) → g.shifting.Fits x → option_spelling half_tokens (first_half x) ++ second_tokens x ≡ operator_tokens x
  first_said x known = shift_said (first_half x) x (shift_of x known)

  ahead_item : (ts : List Token) → ItemFront ts → Ahead ts
  ahead_item ts (inl (inl f)) = inr (None, ts, refl, ([], ts, tt, refl, inl f))
  ahead_item ts (inl (inr (inl f))) = inl f
  ahead_item ts (inl (inr (inr (g, more, at, go, e, f)))) = inr (Some g, more, e, ([], more, tt, refl, inl f))
  ahead_item ts (inr (x, more, known, go, e, f)) =
      inr (first_half x, second_tokens x ++ more, e ∙ ap (λ (m : List Token). m ++ more) (sym (first_said x known)) ∙ append_assoc (option_spelling half_tokens (first_half x)) (second_tokens x) more, ([], second_tokens x ++ more, tt, refl, inr (x, more, shift_of x known, refl, refl, inl f)))

  ahead_first : (x : Operator) (y : Operand) (ts : List Token) → g.shifting.Fits x → U y → leaves 9 y ≡ true → Ahead ts → Ahead ((operator_tokens x ++ operand_tokens y) ++ ts)
  ahead_first x y ts known fits on (inl f) =
      inr (
        first_half x,
        second_tokens x ++ (operand_tokens y ++ ts),
        append_assoc (operator_tokens x) (operand_tokens y) ts ∙ ap (λ (m : List Token). m ++ (operand_tokens y ++ ts)) (sym (first_said x known)) ∙ append_assoc (option_spelling half_tokens (first_half x)) (second_tokens x) (operand_tokens y ++ ts),
        ([], second_tokens x ++ (operand_tokens y ++ ts), tt, refl, inr (x, operand_tokens y ++ ts, shift_of x known, refl, refl, inr (y, ts, fits, on, refl, f))),
      )
  ahead_first x y ts known fits on (inr (h, more, e, (all, rest, go, e', f))) =
      inr (
        first_half x,
        second_tokens x ++ (operand_tokens y ++ (option_spelling half_tokens h ++ more)),
        append_assoc (operator_tokens x) (operand_tokens y) ts ∙ ap (λ (m : List Token). operator_tokens x ++ (operand_tokens y ++ m)) e ∙ ap (λ (m : List Token). m ++ (operand_tokens y ++ (option_spelling half_tokens h ++ more))) (sym (first_said x known)) ∙ append_assoc (option_spelling half_tokens (first_half x)) (second_tokens x) (operand_tokens y ++ (option_spelling half_tokens h ++ more)),
        ((x, (y, h)) ∷ all, rest, ((shift_of x known, low_in y h fits on), on, go), ap (λ (m : List Token). second_tokens x ++ (operand_tokens y ++ (option_spelling half_tokens h ++ m))) e' ∙ simp append_assoc, f),
      )

  ahead : (all : List (Operator × Operand)) (rest : List Token) → AllByRecursion (GoesOn PlainFits leaves_item) all → ItemFront rest → Ahead (flat_map plain_spell all ++ rest)
  ahead [] rest go f = ahead_item rest f
  ahead (x ∷ more) rest go f = subst Ahead (sym (append_assoc (operator_tokens x.0 ++ operand_tokens x.1) (flat_map plain_spell more) rest)) (ahead_first x.0 x.1 (flat_map plain_spell more ++ rest) go.0.0.0 go.0.0.1 go.0.1 (ahead more rest go.1 f))

  into_parts : (x : Operand) (ts more : List Token) → F x → may_half x ≡ true → ts ≡ operand_tokens x ++ more → Ahead more → PartsFront ts
  into_parts x ts more fits on e (inl f) = inl (inr (x, more, fits, on, e, f))
  into_parts x ts more fits on e (inr (h, rest, e', f)) = inr ((x, h), rest, here_in x h fits on, on, e ∙ ap (λ (m : List Token). operand_tokens x ++ m) e' ∙ sym (append_assoc (operand_tokens x) (option_spelling half_tokens h) rest), f)

  into : (ts : List Token) → Either front NodeFront ts → PartsFront ts
  into ts (inl f) = inl (inl f)
  into ts (inr (inl f)) = inl (inl (rise ts f))
  into ts (inr (inr (x, more, d, on, e, (all, rest, go, e', f)))) =
      let u = up x d in
      into_parts x ts more u.0 (and_true (is_below operand_height n x) (leaves 9 x) (is_below_by operand_height n x u.1) on) e (subst Ahead (sym e') (ahead all rest go f))

  pub shift_laws : OpenLaws (shift n here lower) operand_tokens (EitherFit F Node) (Either front NodeFront) first (after_operand 9) (half_operand 9)
  unfolding shift
  shift_laws = record {
    Fits = Made joined PartsFit;
    none_in = none_in;
    none_out = none_out;
    some_out = some_out;
    laws = refront (made_laws parts_laws joined (open_spelling operand_tokens) (after_open (after_operand 9) (half_operand 9)) parts_said parts_on) out into;
  }

  -- ---- a `>` behind the row is given as a half, or stopped before, as behind the last operand

  abbrev stopped : Operand → Bool → List Token → Outcome Token (Open Operand)
  stopped x c mid = and_then (and_then (when c (shift_tails None lower) mid) (λ o z. Ok (((x, None), o), z))) (λ y z. Ok (joined y, z))

  -- an operand with room for the node that leaves shifts is read with the half
  pub operand_kept : (x : Operand) → F x → may_half x ≡ true → (g : Place) → shift_laws.Fits (x, Some g)
  unfolding shift_laws
  operand_kept x fits on g = (((x, Some g), None), (here_in x (Some g) fits on, refl), refl)

  pub operand_settled : (x : Operand) → F x → Settled H x → Settled shift_laws x
  unfolding shift shift_laws class_of
  operand_settled x fits settled = elim (halved_settled H may_half here_decided x fits (λ off. settled)) as (λ _. Settled shift_laws x) [
    | inl known ↦ inl (λ place. (((x, Some place), None), (known place, refl), refl))
    | inr stays ↦ inr (λ place ts.
        ap (λ (r : Outcome Token (Open Operand)). and_then (and_then r (λ a mid. and_then (when (may a && starts class_of (shift_codes a.1) mid) (shift_tails a.1 lower) mid) (λ o z. Ok ((a, o), z)))) (λ y z. Ok (joined y, z))) (stays place ts)
        ∙ ap (λ (c : Bool). stopped x c (sign_at place s.Greater ∷ ts)) (and_false (may (x, None)) false refl))
  ]

  each_half : (h : Option Place) (x : Operand) (all : List (Operator × Operand)) → EachFit PlainFits leaves_item all → low_half.Fits (last_of x all, h) → EachFitFrom ItemFits may_item step (before all) (keep (ending h before) all)
  each_half h x [] fits last = tt
  each_half h x (y ∷ []) fits last = ((shift_of y.0 fits.0.0, last), or_right (leaves 9 y.1) true refl, tt)
  each_half h x (y ∷ z ∷ more) fits last = ((shift_of y.0 fits.0.0, low_in y.1 (first_half z.0) fits.0.1 (or_first (leaves 9 y.1) fits.1)), fits.1, each_half h y.1 (z ∷ more) fits.2 last)

  module _ (asks : Operand → Bool) (settled : (x : Operand) → U x → asks x ≡ true → Settled L x) where
    low_settled : (x : Operand) → U x → asks x ≡ true → Settled low_half x
    low_settled x fits asked = halved_settled L leaves_shift decide_low x fits (λ off. settled x fits asked)

    abbrev next_low : Open Operand → List ℕ
    next_low = after_open (sharp low_half asks low_settled) (half_operand 10)

    sharp_item : (h : Option Place) → Laws class_of (item_reader h) item_spell (ItemFits h) (item_front h) (shift_codes h) (λ x. next_low x.1) false
    sharp_item h = both_laws (shift_operator_laws h) (refined_laws low_half asks low_settled) (λ x fits. apart_none ufirst)

    sharp_off : (h : Option Place) (x : Item) → ItemFits h x → may_item h x ≡ true → Apart (next_low x.1) (shift_codes (step h x))
    sharp_off h (operator, (x, None)) fits on = apart_smaller (sharp_within low_half asks low_settled x) (no_left x (leaves 9 x) on)
    sharp_off h (operator, (x, Some k)) fits on = no_greater x on

    sharp_tails : (h : Option Place) → Laws class_of (shift_tails h lower) (flat_map item_spell) (SomeFitFrom ItemFits may_item step h) (SeveralFrom item_spell ItemFits may_item step item_front h) (shift_codes h) (after_list_from shift_codes may_item step (λ x. next_low x.1) h) false
    unfolding shift_tails
    sharp_tails h = some_from_laws sharp_item may_item step sharp_off h

    sharp_parts : Laws class_of parts_reader (joined_spelling (open_spelling operand_tokens) (flat_map item_spell)) PartsFit PartsFront first (after_followed_by after_here may (λ (x : Open Operand). shift_codes x.1) (λ (x : Open Operand). after_list_from shift_codes may_item step (λ y. next_low y.1) x.1)) false
    sharp_parts = continued_by_laws here_half.laws (λ x fits. sharp_tails x.1) never may (λ x e. absurd cc) here_apart

    given_left : (b : Bool) → has (given b (these s.ShiftLeft)) (sign_code s.Greater) ≡ false
    given_left true = refl
    given_left false = refl

    stop : (h : Option Place) (x : Operand) (all : List (Operator × Operand)) → is_empty all ≡ false → asks (last_of x all) ≡ true → reads_half low_half (last_of x all) ≡ false → has (after_list_from shift_codes may_item step (λ (y : Item). next_low y.1) h (keep before all)) (sign_code s.Greater) ≡ false
    stop h x [] e on none = absurd cc
    stop h x (y ∷ []) e on none =
        not_either (sharp low_half asks low_settled y.1) (given (leaves 9 y.1) (these s.ShiftLeft)) (sign_code s.Greater)
        (not_true (has (sharp low_half asks low_settled y.1) (sign_code s.Greater)) (λ k. (sharp_apart low_half asks low_settled y.1 on none).never_both (sign_code s.Greater) k refl)) (given_left (leaves 9 y.1))
    stop h x (y ∷ z ∷ more) e on none = stop (first_half z.0) y.1 (z ∷ more) refl on none

    may_go : (x : Operand) → D x → leaves 9 x ≡ true → may_half x ≡ true
    may_go x d on = and_true (is_below operand_height n x) (leaves 9 x) (is_below_by operand_height n x (up x d).1) on

    half_parts : (x : Operand) (h : Option Place) (all : List (Operator × Operand)) → D x → leaves 9 x ≡ true → SomeFit PlainFits leaves_item all → low_half.Fits (last_of x all, h) → PartsFit ((x, before all), Some (keep (ending h before) all))
    half_parts x h all d on fits last = (here_in x (before all) (up x d).0 (may_go x d on), (may_go x d on, (empty_keep (ending h before) all ∙ fits.0, each_half h x all fits.1 last)))

    plain_parts : (x : Operand) (all : List (Operator × Operand)) → D x → leaves 9 x ≡ true → SomeFit PlainFits leaves_item all → PartsFit ((x, before all), Some (keep before all))
    plain_parts x all d on fits = (here_in x (before all) (up x d).0 (may_go x d on), (may_go x d on, (empty_keep before all ∙ fits.0, each_keep all fits.1)))

    stays_read : (x : Operand) (all : List (Operator × Operand)) → D x → leaves 9 x ≡ true → SomeFit PlainFits leaves_item all → asks (last_of x all) ≡ true → reads_half low_half (last_of x all) ≡ false → (place : Place) (ts : List Token) →
        shift n here lower (open_spelling operand_tokens (t.binary x (g.to_tails all), None) ++ sign_at place s.Greater ∷ ts) ≡ Ok ((t.binary x (g.to_tails all), None), sign_at place s.Greater ∷ ts)
    unfolding shift class_of
    stays_read x all d on fits asked none place ts =
        let known : PartsFit ((x, before all), Some (keep before all)) = plain_parts x all d on fits in
        let made : joined ((x, before all), Some (keep before all)) ≡ (t.binary x (g.to_tails all), None) = ap (with_half (t.binary x)) (tails_keep before all fits.0) in
        ap (λ (m : List Token). shift n here lower (m ++ sign_at place s.Greater ∷ ts)) (ap (open_spelling operand_tokens) (sym made) ∙ parts_said ((x, before all), Some (keep before all)) known)
        ∙ ap (λ (r : Outcome Token (Open Operand × Option (List Item))). and_then r (λ y z. Ok (joined y, z))) (sharp_parts.complete ((x, before all), Some (keep before all)) (sign_at place s.Greater ∷ ts) known (stop (before all) x all fits.0 asked none))
        ∙ ap (λ (y : Open Operand). gave y (sign_at place s.Greater ∷ ts)) made

    pub node_settled : (x : Operand) (all : List (Operator × Operand)) → D x → leaves 9 x ≡ true → SomeFit PlainFits leaves_item all → asks (last_of x all) ≡ true → Settled shift_laws (t.binary x (g.to_tails all))
    unfolding shift_laws
    node_settled x all d on fits asked = by_half (reads_half low_half (last_of x all)) refl where
      by_half : (b : Bool) → reads_half low_half (last_of x all) ≡ b → Settled shift_laws (t.binary x (g.to_tails all))
      by_half true e = inl (λ place. (((x, before all), Some (keep (ending (Some place) before) all)), half_parts x (Some place) all d on fits (half_read low_half (last_of x all) (low_settled (last_of x all) (last_fits g.shifting.Fits U leaves_item x all fits.0 fits.1) asked) e place), ap (with_half (t.binary x)) (tails_keep (ending (Some place) before) all fits.0)))
      by_half false e = inr (λ place ts. stays_read x all d on fits asked e place ts)
