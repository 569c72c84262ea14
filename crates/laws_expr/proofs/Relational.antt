-- The law of the row of comparisons (ECMA-408, 16.24 Relational Expressions, 16.34 Type Test, 16.35 Type Cast): behind an operand stands an
-- operator with its operand or its type, or, behind the half that was read with it, an operand alone.
use Rattle.std.proofs.Common.{◌≡◌, ℕ, ◌<◌, Bool, true, false, not, if◌then◌else◌, ◌&&◌, List, [], ◌∷◌, ◌++◌, Option, None, Some, Ok, Err, ◌⊎◌, inl, inr, refl, ap, sym, ◌∙◌, subst, append_assoc, arith}
use Rattle.std.proofs.lemmas.List.{append-nil}
use Rattle.dart_base.specs.declared.place.Place.{Place}
use Rattle.dart_token.specs.declared.token.Token.{Token}
use Rattle.dart_token.specs.declared.sign.Sign.TheVariants as s
use Rattle.dart_token.specs.declared.word.Word.TheVariants as w
use Rattle.dart_tree.specs.declared.operator.Operator.{Operator}
use Rattle.dart_tree.specs.declared.operator.Operator.TheVariants as o
use Rattle.dart_tree.specs.LeafTokens.{sign_at, operator_tokens, type_tokens}
use Rattle.dart_tree.specs.Depth.{operand_height}
use Rattle.dart_tree.specs.Types.{TypeNode}
use Rattle.dart_tree.specs.Tree as t
use Rattle.dart_tree.specs.Tree.{Operand}
use Rattle.dart_tree.specs.Tokens.{operand_tokens, tails_tokens}
use Rattle.grammar_laws.specs.Codes.{has, Apart, Within, given, after_followed_by}
use Rattle.grammar_laws.specs.Readers.{Outcome, Reader, and_then, always, never, starts, when, nothing, continued_by}
use Rattle.grammar_laws.specs.Depth.{is_below}
use Rattle.grammar_laws.specs.Fronts.{Front, Joint, JointBy, Either, EitherFit, BothFit, GoesOn, ContinuedFitBy, OptionFit, Made, joined_spelling, option_spelling}
use Rattle.grammar_laws.specs.Laws.{Laws}
use Rattle.grammar_laws.proofs.Codes.{apart, apart_smaller, apart_union, and_both, and_true, clash, not_true, has_cases, has_given, given_has, inside, only_code, within_then, within_union, within_given, within_self, within_left, within_right}
use Rattle.grammar_laws.proofs.Depth.{below_is, is_below_by}
use Rattle.grammar_laws.proofs.Joints.{begins}
use Rattle.grammar_laws.proofs.Restated.{made_laws, refront, reread}
use Rattle.grammar_laws.proofs.Continued.{continued_by_laws}
use Rattle.dart_syntax.specs.Phrases.{Anything}
use Rattle.dart_syntax.specs.Leaves as l
use Rattle.dart_syntax.specs.Leaves.{sign_tokens, word_tokens}
use Rattle.dart_syntax.specs.Edges.{opens_less, opens_dot, opens_nothing, leaves, leaves_less, operand_takes}
use Rattle.dart_syntax.specs.Edges as edge
use Rattle.token_codes.specs.Codes.{class_of, sign_code, these, this_word}
use Rattle.token_codes.proofs.Leaves.{sign_reads, one_of_reads}
use Rattle.syntax_readers.specs.Combinators.{Open}
use Rattle.syntax_readers.specs.Primaries.{operand_first}
use Rattle.syntax_readers.specs.Types.{type_first}
use Rattle.syntax_readers.specs.Levels.{is_bare, whole, comparing, compared, tested, cast, joined_compared, compare_codes, compared_with, relational}
use Rattle.laws_type.specs.Nexts.{after_type}
use Rattle.laws_expr.specs.Nexts.{Taking, nexts, taken, operand_alone, after_operand}
use Rattle.laws_expr.proofs.Begun.{front_starts, none_or, either_map}
use Rattle.laws_expr.proofs.Behind.{operand_alone_within}
use Rattle.laws_expr.proofs.Open.{OpenLaws, Settled, stops_before, open_spelling, half_tokens, after_open, bare, tree, no_some, tree_fits}
use Rattle.laws_expr.proofs.Edges.{apart_but, within_at}
use Rattle.laws_expr.proofs.Chain.{half_of, half_operand, looser, looser_half, left_apart}
use Rattle.laws_expr.proofs.Refined.{reads_half, half_read, never_left, sharp, sharp_within, sharp_apart, refined_laws}
use Rattle.laws_expr.proofs.Guarded.{guarded, GuardedFit, guarded_front, guarded_laws}
use Rattle.grammar_laws.proofs.Cuts.{gave}
use Rattle.laws_expr.proofs.Comparing.{is_on, as_on, others, types, Lesser, Rest, comparing_level, Behind, spelled, after_behind, operators_front, tested_front, cast_front, compared_front, BehindFits, behind_front, behind_first, behind_reader, tested_laws, cast_laws, behind_laws, mix, rest_codes, rest_in, less_on, greater_on, others_on, types_on, item_node, is_node, as_node, join, item_on, left_off, type_closed, same_half, same_none, to_raw, same_bool, lesser_begins, rest_begins, word_begins, widen, less_known, rest_known, types_known, less_go, greater_go, others_go, types_go, RestOf, OthersOf, rest_firsts, others_firsts}
use Rattle.laws_expr.proofs.Sets.{swap, apart_when, given_off, not_false}

-- ---- the row

module _ (n : ℕ)
    {here : Reader Token (Open Operand)} {F : Operand → Type 0} {front : Front Token} {first : List ℕ} (H : OpenLaws here operand_tokens F front first (after_operand 6) (half_operand 6))
    (decide : (x : Operand) → F x → leaves 5 x ≡ true → Settled H x)
    {type : Reader Token TypeNode} {T : TypeNode → Type 0} {tfront : Front Token} (Types : Laws class_of type type_tokens T tfront type_first after_type false)
    (lower : Reader Token (Open Operand)) {U : Operand → Type 0} {ufront : Front Token} (L : OpenLaws (whole lower) operand_tokens U ufront operand_first (after_operand 6) (half_operand 6))
    {D E : Operand → Type 0} {dfront efront : Front Token}
    (down : (x : Operand) → F x → operand_height x < n → D x) (up : (x : Operand) → D x → F x × (operand_height x < n)) (rise : (ts : List Token) → dfront ts → front ts)
    (plain : (x : Operand) → D x → is_bare x ≡ false → E x) (of_plain : (x : Operand) → E x → D x × (is_bare x ≡ false)) (begun : (ts : List Token) → efront ts → dfront ts)
    (rises : (opens : TypeNode → Bool) (x : Operand) → F x → operand_takes 5 opens 5 x ≡ true) where
  abbrev room : Operand → Bool
  room x = is_below operand_height n x

  abbrev asks : Operand → Bool
  asks x = leaves 5 x

  abbrev keeps : Operand → Bool
  keeps x = reads_half H x

  abbrev alone_left : Operand → Bool
  alone_left x = leaves 5 x && not (keeps x)

  abbrev typed : Operand → Bool
  typed x = leaves 5 x && not (is_bare x)

  abbrev codes : Open Operand → List ℕ
  codes (x, Some g) = given (room x && leaves 5 x) operand_first
  codes (x, None) = mix (room x) (leaves_less x) (alone_left x) (leaves 5 x) (typed x)

  abbrev next_here : Open Operand → List ℕ
  next_here = after_open (sharp H asks decide) (half_operand 6)

  half_apart : (x : Operand) → leaves 5 x ≡ true → Apart (half_operand 6 x) operand_first
  half_apart x left =
      apart_union (apart_smaller (within_given (operand_takes 9 opens_nothing 6 x) (λ e. within_self (these s.Greater))) (apart refl))
      (apart_union (given_off (operand_takes 5 opens_nothing 6 x) operand_first operand_first (left_off opens_nothing x (not_false (operand_takes 5 opens_nothing edge.nowhere x) left))) (apart_smaller (within_given (has (operand_alone x) (sign_code s.Assign)) (λ e. within_self (these s.GreaterEqual))) (apart refl)))

  less_apart : (x : Operand) → leaves_less x ≡ true → Apart (after_operand 6 x) (these s.Less)
  less_apart x left =
      let off : operand_takes 5 opens_less 6 x ≡ false = left_off opens_less x (not_false (operand_takes 5 opens_less edge.nowhere x) left) in
      apart_union (apart_but 5 nexts (these s.Less) (λ next opens. operand_takes next opens 6 x) refl off) (apart_smaller (operand_alone_within x) (apart refl))

  codes_apart : (x : Open Operand) → H.Fits x → always x ≡ true → Apart (next_here x) (codes x)
  codes_apart (x, Some g) fits go = swap (apart_when (room x && leaves 5 x) (λ on. swap (half_apart x (and_both (room x) (leaves 5 x) on).1)))
  codes_apart (x, None) fits go =
      let within : Within (sharp H asks decide x) (after_operand 6 x) = sharp_within H asks decide x in
      swap (apart_when (room x) (λ low. apart_union (apart_when (leaves_less x) (λ left. swap (apart_smaller within (less_apart x left))))
      (apart_union (apart_when (alone_left x) (λ on. let w = and_both (leaves 5 x) (not (keeps x)) on in swap (sharp_apart H asks decide x w.0 (not_false (keeps x) w.1))))
      (apart_union (apart_when (leaves 5 x) (λ left. swap (apart_smaller within (left_apart 5 6 6 others x (omega arith) refl (λ takes. refl) refl left))))
      (apart_when (typed x) (λ on. swap (apart_smaller within (left_apart 5 6 6 types x (omega arith) refl (λ takes. refl) refl (and_both (leaves 5 x) (not (is_bare x)) on).0))))))))

  abbrev part : Option Place → Reader Token Behind
  part h = behind_reader Types lower L h

  abbrev part_laws : (h : Option Place) → Laws class_of (behind_reader Types lower L h) spelled (BehindFits Types lower L h) (behind_front Types lower L h) (behind_first Types lower L h) (after_behind (after_operand 6)) false
  part_laws h = behind_laws Types lower L h

  abbrev behind : Open Operand → Reader Token Behind
  behind x = guarded (part_laws x.1) (codes x)

  abbrev PartsFit : Open Operand × Option Behind → Type 0
  PartsFit = ContinuedFitBy H.Fits never always (λ (x : Open Operand). GuardedFit (part_laws x.1) (codes x))

  abbrev PartsFront : Front Token
  PartsFront = JointBy (open_spelling operand_tokens) H.Fits always front (λ (x : Open Operand). guarded_front (part_laws x.1) (codes x))

  abbrev after_parts : Open Operand × Option Behind → List ℕ
  after_parts = after_followed_by next_here always codes (λ x b. after_behind (after_operand 6) b)

  abbrev parts_reader : Reader Token (Open Operand × Option Behind)
  parts_reader = continued_by class_of never always codes here behind

  parts_laws : Laws class_of parts_reader (joined_spelling (open_spelling operand_tokens) spelled) PartsFit PartsFront first after_parts false
  parts_laws = continued_by_laws (refined_laws H asks decide) (λ x fits. guarded_laws (part_laws x.1) (codes x)) never always (λ x e. absurd cc) codes_apart

  -- ---- which trees

  abbrev LessNode : Operand → Type 0
  LessNode = Made item_node (BothFit (GoesOn D leaves_less) (BothFit Lesser U))

  abbrev RestNode : Operand → Type 0
  RestNode = Made item_node (BothFit (GoesOn D (leaves 5)) (BothFit Rest U))

  abbrev IsNode : Operand → Type 0
  IsNode = Made is_node (BothFit (GoesOn E (leaves 5)) (BothFit Anything (BothFit (OptionFit Anything) T)))

  abbrev AsNode : Operand → Type 0
  AsNode = Made as_node (BothFit (GoesOn E (leaves 5)) (BothFit Anything T))

  abbrev Node : Operand → Type 0
  Node = EitherFit LessNode (EitherFit RestNode (EitherFit IsNode AsNode))

  abbrev NodeFront : Front Token
  NodeFront = Either (Joint operand_tokens D leaves_less dfront (Joint operator_tokens Lesser always (l.one_of (s.Less ∷ [])).front ufront))
      (Either (Joint operand_tokens D (leaves 5) dfront (Joint operator_tokens Rest always (l.one_of (s.Greater ∷ s.LessEqual ∷ s.GreaterEqual ∷ [])).front ufront))
      (Either (Joint operand_tokens E (leaves 5) efront (Joint (word_tokens w.Is) Anything always (l.word w.Is).front (Joint (option_spelling (sign_tokens s.Bang)) (OptionFit Anything) always (l.sign s.Bang).front tfront)))
      (Joint operand_tokens E (leaves 5) efront (Joint (word_tokens w.As) Anything always (l.word w.As).front tfront))))

  below : (x : Operand) → F x → room x ≡ true → D x
  below x fits low = down x fits (below_is operand_height n x low)

  low : (x : Operand) → D x → room x ≡ true
  low x d = is_below_by operand_height n x (up x d).1

  -- the first token of what stands behind says what may stand there
  less_here : (x : Operand) (ts : List Token) → starts class_of (codes (x, None)) ts ≡ true → starts class_of (these s.Less) ts ≡ true → (room x ≡ true) × (leaves_less x ≡ true)
  less_here x = less_known (room x) (leaves_less x) (alone_left x) (leaves 5 x) (typed x)

  rest_here : (x : Operand) (ts : List Token) → starts class_of (codes (x, None)) ts ≡ true → starts class_of rest_codes ts ≡ true → (room x ≡ true) × (leaves 5 x ≡ true)
  rest_here x = rest_known (room x) (leaves_less x) (alone_left x) (leaves 5 x) (typed x) (λ e. (and_both (leaves 5 x) (not (keeps x)) e).0)

  types_here : (x : Operand) (ts : List Token) → starts class_of (codes (x, None)) ts ≡ true → starts class_of types ts ≡ true → (room x ≡ true) × ((leaves 5 x ≡ true) × (is_bare x ≡ false))
  types_here x ts on is =
      let k = types_known (room x) (leaves_less x) (alone_left x) (leaves 5 x) (typed x) ts on is in
      let v = and_both (leaves 5 x) (not (is_bare x)) k.1 in
      (k.0, (v.0, not_false (is_bare x) v.1))

  half_here : (x : Operand) (g : Place) (ts : List Token) → starts class_of (codes (x, Some g)) ts ≡ true → (room x ≡ true) × (leaves 5 x ≡ true)
  half_here x g [] on = absurd cc
  half_here x g (u ∷ ts) on = and_both (room x) (leaves 5 x) (given_has (room x && leaves 5 x) operand_first (class_of u) on).0

  node_of : (x : Operand) (h : Option Place) (b : Behind) → H.Fits (x, h) → BehindFits Types lower L h b → starts class_of (codes (x, h)) (spelled b) ≡ true → Node (join ((x, h), Some b)).0
  node_of x None (inl y) fits known on = absurd known
  node_of x (Some g) (inr c) fits known on = absurd known
  node_of x (Some g) (inl y) fits known on = let k = half_here x g (spelled (inl y)) on in inr (inl ((x, (o.Sign g s.Greater, y.0)), ((below x (tree_fits H (x, Some g) fits) k.0, k.1), (inl (g, tt, refl), tree_fits L y known)), refl))
  node_of x None (inr (compared op y)) fits (inl less, known) on = let k = less_here x (spelled (inr (compared op y))) on (lesser_begins op (open_spelling operand_tokens y) (inl less)) in inl ((x, (op, y.0)), ((below x (tree_fits H (x, None) fits) k.0, k.1), (inl less, tree_fits L y known)), refl)
  node_of x None (inr (compared op y)) fits (inr rest, known) on = let k = rest_here x (spelled (inr (compared op y))) on (rest_begins op (open_spelling operand_tokens y) rest) in inr (inl ((x, (op, y.0)), ((below x (tree_fits H (x, None) fits) k.0, k.1), (rest, tree_fits L y known)), refl))
  node_of x None (inr (tested place bang of)) fits known on = let k = types_here x (spelled (inr (tested place bang of))) on (widen (this_word w.Is) types (spelled (inr (tested place bang of))) (inside refl) (word_begins w.Is place (option_spelling (sign_tokens s.Bang) bang ++ type_tokens of))) in inr (inr (inl ((x, (place, (bang, of))), ((plain x (below x (tree_fits H (x, None) fits) k.0) k.1.1, k.1.0), (tt, (known.0, known.1))), refl)))
  node_of x None (inr (cast place of)) fits known on = let k = types_here x (spelled (inr (cast place of))) on (widen (this_word w.As) types (spelled (inr (cast place of))) (inside refl) (word_begins w.As place (type_tokens of))) in inr (inr (inr ((x, (place, of)), ((plain x (below x (tree_fits H (x, None) fits) k.0) k.1.1, k.1.0), (tt, known)), refl)))

  none_out : (z : Operand) → Made join PartsFit (z, None) → EitherFit F Node z
  none_out z (((x, None), None), fits, e) = inl (subst F (ap tree e) (H.none_out x fits.0))
  none_out z (((x, Some g), None), fits, e) = no_some (x, Some g) (z, None) e refl refl
  none_out z (((x, h), Some b), fits, e) = inr (subst Node (ap tree e) (node_of x h b fits.0 fits.1.1.0 fits.1.1.1))

  some_out : (z : Operand) (g : Place) → Made join PartsFit (z, Some g) → EitherFit F Node z
  some_out z g (((x, None), None), fits, e) = no_some (z, Some g) (x, None) (sym e) refl refl
  some_out z g (((x, Some other), None), fits, e) = inl (subst F (ap tree e) (H.some_out x other fits.0))
  some_out z g (((x, h), Some b), fits, e) = inr (subst Node (ap tree e) (node_of x h b fits.0 fits.1.1.0 fits.1.1.1))

  -- what may stand behind an operand that leaves it
  less_may : (x : Operand) → D x → leaves_less x ≡ true → (ts : List Token) → starts class_of (these s.Less) ts ≡ true → starts class_of (codes (x, None)) ts ≡ true
  less_may x d left = less_go (room x) (leaves_less x) (alone_left x) (leaves 5 x) (typed x) (low x d) left

  greater_may : (x : Operand) → D x → leaves 5 x ≡ true → keeps x ≡ false → (ts : List Token) → starts class_of (these s.Greater) ts ≡ true → starts class_of (codes (x, None)) ts ≡ true
  greater_may x d left none = greater_go (room x) (leaves_less x) (alone_left x) (leaves 5 x) (typed x) (low x d) (and_true (leaves 5 x) (not (keeps x)) left (ap not none))

  others_may : (x : Operand) → D x → leaves 5 x ≡ true → (ts : List Token) → starts class_of others ts ≡ true → starts class_of (codes (x, None)) ts ≡ true
  others_may x d left = others_go (room x) (leaves_less x) (alone_left x) (leaves 5 x) (typed x) (low x d) left

  types_may : (x : Operand) → E x → leaves 5 x ≡ true → (ts : List Token) → starts class_of types ts ≡ true → starts class_of (codes (x, None)) ts ≡ true
  types_may x e left = let d = of_plain x e in types_go (room x) (leaves_less x) (alone_left x) (leaves 5 x) (typed x) (low x d.0) (and_true (leaves 5 x) (not (is_bare x)) left (ap not d.1))

  half_go : (x : Operand) (g : Place) → D x → leaves 5 x ≡ true → (ts : List Token) → starts class_of operand_first ts ≡ true → starts class_of (codes (x, Some g)) ts ≡ true
  half_go x g d left [] is = absurd cc
  half_go x g d left (u ∷ ts) is = has_given (room x && leaves 5 x) operand_first (class_of u) (and_true (room x) (leaves 5 x) (low x d) left) is

  -- what goes on behind the parts, where this goes on behind an operand without a half
  abbrev after_last : (Operand → List ℕ) → Open Operand × Option Behind → List ℕ
  after_last next (x, None) = []
  after_last next (x, Some b) = after_behind next b

  -- the parts of a comparison with this half behind its last operand or none
  abbrev Compares : Operand → Operator → Operand → Option Place → Type 0
  Compares x op y k = (p : Open Operand × Option Behind) × PartsFit p × (join p ≡ (t.binary x (t.tail op y t.no_tails), k)) × ((next : Operand → List ℕ) → after_last next p ≡ after_open next (half_operand 6) (y, k))

  -- `>` with its operand, by whether the half was read
  greater_in : (x : Operand) (g : Place) (y : Operand) (k : Option Place) → D x → leaves 5 x ≡ true → L.Fits (y, k) → (b : Bool) → keeps x ≡ b → Compares x (o.Sign g s.Greater) y k
  greater_in x g y k d left fits true e =
      (((x, Some g), Some (inl (y, k))), (half_read H x (decide x (up x d).0 left) e g, (refl, (fits, half_go x g d left (open_spelling operand_tokens (y, k)) starts_open))), refl, λ next. refl) where
        starts_open : starts class_of operand_first (open_spelling operand_tokens (y, k)) ≡ true
        starts_open = ap (starts class_of operand_first) (sym (append-nil (open_spelling operand_tokens (y, k)))) ∙ begins L.laws (y, k) [] fits
  greater_in x g y k d left fits false e =
      (((x, None), Some (inr (compared (o.Sign g s.Greater) (y, k)))), (H.none_in x (up x d).0, (refl, ((inr (inl (g, tt, refl)), fits), greater_may x d left e (spelled (inr (compared (o.Sign g s.Greater) (y, k)))) (begins (sign_reads s.Greater) g (open_spelling operand_tokens (y, k)) tt)))), refl, λ next. refl)

  others_in : (x : Operand) (op : Operator) (y : Operand) (k : Option Place) → D x → leaves 5 x ≡ true → L.Fits (y, k) → (l.one_of (s.LessEqual ∷ s.GreaterEqual ∷ [])).Fits op → Compares x op y k
  others_in x op y k d left fits known =
      (((x, None), Some (inr (compared op (y, k)))), (H.none_in x (up x d).0, (refl, ((inr (inr known), fits), others_may x d left (spelled (inr (compared op (y, k)))) (begins (one_of_reads (s.LessEqual ∷ s.GreaterEqual ∷ []) (apart refl, (apart refl, tt))) op (open_spelling operand_tokens (y, k)) known)))), refl, λ next. refl)

  rest_in_all : (x : Operand) (op : Operator) (y : Operand) (k : Option Place) → D x → leaves 5 x ≡ true → Rest op → L.Fits (y, k) → Compares x op y k
  rest_in_all x op y k d left (inl (g, at, is)) fits = subst (λ (p : Operator). Compares x p y k) is (greater_in x g y k d left fits (keeps x) refl)
  rest_in_all x op y k d left (inr known) fits = others_in x op y k d left fits known

  less_in_all : (x : Operand) (op : Operator) (y : Operand) (k : Option Place) → D x → leaves_less x ≡ true → Lesser op → L.Fits (y, k) → Compares x op y k
  less_in_all x op y k d left known fits =
      (((x, None), Some (inr (compared op (y, k)))), (H.none_in x (up x d).0, (refl, ((only_less op known, fits), less_may x d left (spelled (inr (compared op (y, k)))) (lesser_begins op (open_spelling operand_tokens (y, k)) known)))), refl, λ next. refl) where
        only_less : (op : Operator) → Lesser op → (l.one_of comparing).Fits op
        only_less op (inl known) = inl known
        only_less op (inr none) = absurd none

  none_in : (z : Operand) → EitherFit F Node z → Made join PartsFit (z, None)
  none_in z (inl fits) = (((z, None), None), (H.none_in z fits, refl), refl)
  none_in z (inr (inl ((x, (op, y)), ((d, left), (known, fits)), e))) = let p = less_in_all x op y None d left known (L.none_in y fits) in subst (λ (v : Operand). Made join PartsFit (v, None)) e (p.0, p.1, p.2)
  none_in z (inr (inr (inl ((x, (op, y)), ((d, left), (known, fits)), e)))) = let p = rest_in_all x op y None d left known (L.none_in y fits) in subst (λ (v : Operand). Made join PartsFit (v, None)) e (p.0, p.1, p.2)
  none_in z (inr (inr (inr (inl ((x, (place, (bang, of))), ((e, left), (at, (banged, fits))), is))))) =
      (((x, None), Some (inr (tested place bang of))), (H.none_in x (up x (of_plain x e).0).0, (refl, ((banged, fits), types_may x e left (spelled (inr (tested place bang of))) (widen (this_word w.Is) types (spelled (inr (tested place bang of))) (inside refl) (word_begins w.Is place (option_spelling (sign_tokens s.Bang) bang ++ type_tokens of)))))), ap bare is)
  none_in z (inr (inr (inr (inr ((x, (place, of)), ((e, left), (at, fits)), is))))) =
      (((x, None), Some (inr (cast place of))), (H.none_in x (up x (of_plain x e).0).0, (refl, (fits, types_may x e left (spelled (inr (cast place of))) (widen (this_word w.As) types (spelled (inr (cast place of))) (inside refl) (word_begins w.As place (type_tokens of)))))), ap bare is)

  -- ---- the tokens, and what goes on

  parts_said : (p : Open Operand × Option Behind) → PartsFit p → open_spelling operand_tokens (join p) ≡ joined_spelling (open_spelling operand_tokens) spelled p
  unfolding operand_tokens tails_tokens
  parts_said (x, None) fits = sym (append-nil (open_spelling operand_tokens x))
  parts_said ((x, None), Some (inl y)) fits = absurd fits.1.1.0
  parts_said ((x, Some g), Some (inr c)) fits = absurd fits.1.1.0
  parts_said ((x, Some g), Some (inl (y, k))) fits = simp (append_assoc, append-nil)
  parts_said ((x, None), Some (inr (compared op (y, k)))) fits = simp (append_assoc, append-nil)
  parts_said ((x, None), Some (inr (tested place None of))) fits = simp (append_assoc, append-nil)
  parts_said ((x, None), Some (inr (tested place (Some bang) of))) fits = simp (append_assoc, append-nil)
  parts_said ((x, None), Some (inr (cast place of))) fits = simp (append_assoc, append-nil)

  compared_in : (takes : Taking) (own : List ℕ) (b : Bool) → takes 5 opens_nothing ≡ true → Within (given b operand_first) (half_of takes own)
  compared_in takes own b on =
      let shifts : List ℕ = given (takes 9 opens_nothing) (these s.Greater) in
      let assigned : List ℕ = given (has own (sign_code s.Assign)) (these s.GreaterEqual) in
      within_given b (λ e. within_then (given_true (takes 5 opens_nothing) on) (within_then (within_left (given (takes 5 opens_nothing) operand_first) assigned) (within_right shifts (given (takes 5 opens_nothing) operand_first ++ assigned)))) where
        given_true : (b : Bool) → b ≡ true → Within operand_first (given b operand_first)
        given_true true e = within_self operand_first
        given_true false e = absurd cc

  codes_on : (x : Operand) → F x → Within (codes (x, None)) (after_operand 5 x)
  codes_on x fits =
      let takes : Taking = λ next opens. operand_takes next opens 5 x in
      let less : Within (these s.Less) (taken takes) = within_at 5 nexts (these s.Less) takes refl (rises opens_less x fits) in
      let greater : Within (these s.Greater) (taken takes) = within_at 6 nexts (these s.Greater) takes refl (rises opens_nothing x fits) in
      let other : Within others (taken takes) = within_at 6 nexts others takes refl (rises opens_nothing x fits) in
      let words : Within types (taken takes) = within_at 6 nexts types takes refl (rises opens_nothing x fits) in
      within_then (within_given (room x) (λ e. within_union (within_given (leaves_less x) (λ e. less)) (within_union (within_given (alone_left x) (λ e. greater)) (within_union (within_given (leaves 5 x) (λ e. other)) (within_given (typed x) (λ e. words)))))) (within_left (taken takes) (operand_alone x))

  parts_on : (p : Open Operand × Option Behind) → PartsFit p → Within (after_parts p) (after_open (after_operand 5) (half_operand 5) (join p))
  parts_on ((x, None), None) fits = within_union (within_then (sharp_within H asks decide x) (looser 6 5 x (omega arith))) (codes_on x (H.none_out x fits.0))
  parts_on ((x, Some g), None) fits = within_union (looser_half 6 5 x (omega arith)) (compared_in (λ next opens. operand_takes next opens 5 x) (operand_alone x) (room x && leaves 5 x) (rises opens_nothing x (H.some_out x g fits.0)))
  parts_on ((x, None), Some (inl y)) fits = absurd fits.1.1.0
  parts_on ((x, Some g), Some (inr c)) fits = absurd fits.1.1.0
  parts_on ((x, Some g), Some (inl y)) fits = item_on x (o.Sign g s.Greater) y refl
  parts_on ((x, None), Some (inr (compared op y))) fits = item_on x op y (comparing_level op fits.1.1.0.0)
  parts_on ((x, None), Some (inr (tested place bang of))) fits = is_on x place bang of
  parts_on ((x, None), Some (inr (cast place of))) fits = as_on x place of

  -- ---- the fronts

  abbrev Whole : Front Token
  Whole = Either front NodeFront

  less_out : (x : Operand) (ts more : List Token) → F x → ts ≡ operand_tokens x ++ more → starts class_of (codes (x, None)) more ≡ true → starts class_of (these s.Less) more ≡ true → Joint operator_tokens Lesser always (l.one_of (s.Less ∷ [])).front ufront more → Whole ts
  less_out x ts more fits e on is f = let k = less_here x more on is in inr (inl (inr (x, more, below x fits k.0, k.1, e, f)))

  rest_out : (x : Operand) (ts more : List Token) → F x → ts ≡ operand_tokens x ++ more → starts class_of (codes (x, None)) more ≡ true → starts class_of rest_codes more ≡ true → Joint operator_tokens Rest always RestOf ufront more → Whole ts
  rest_out x ts more fits e on is f = let k = rest_here x more on is in inr (inr (inl (inr (x, more, below x fits k.0, k.1, e, f))))

  compared_out : (x : Operand) (ts more : List Token) → F x → ts ≡ operand_tokens x ++ more → starts class_of (codes (x, None)) more ≡ true → compared_front Types lower L more → Whole ts
  compared_out x ts more fits e on (inl f) =
      let k = types_here x more on (widen (this_word w.Is) types more (inside refl) (front_starts (codes (x, None)) (this_word w.Is) (tested_front Types lower L) (tested_laws Types lower L).firsts more f on)) in
      inr (inr (inr (inl (inr (x, more, plain x (below x fits k.0) k.1.1, k.1.0, e, f)))))
  compared_out x ts more fits e on (inr (inl f)) =
      let k = types_here x more on (widen (this_word w.As) types more (inside refl) (front_starts (codes (x, None)) (this_word w.As) (cast_front Types lower L) (cast_laws Types lower L).firsts more f on)) in
      inr (inr (inr (inr (inr (x, more, plain x (below x fits k.0) k.1.1, k.1.0, e, f)))))
  compared_out x ts more fits e on (inr (inr (inl (inl f)))) = less_out x ts more fits e on (front_starts (codes (x, None)) (these s.Less) (l.sign s.Less).front (sign_reads s.Less).firsts more f on) (inl (inl f))
  compared_out x ts more fits e on (inr (inr (inl (inr f)))) = rest_out x ts more fits e on (front_starts (codes (x, None)) rest_codes RestOf rest_firsts more f on) (inl f)
  compared_out x ts more fits e on (inr (inr (inr (op, rest, inl known, go, is, f)))) = less_out x ts more fits e on (ap (starts class_of (these s.Less)) is ∙ lesser_begins op rest (inl known)) (inr (op, rest, inl known, refl, is, f))
  compared_out x ts more fits e on (inr (inr (inr (op, rest, inr known, go, is, f)))) = rest_out x ts more fits e on (ap (starts class_of rest_codes) is ∙ rest_begins op rest known) (inr (op, rest, known, refl, is, f))

  out : (ts : List Token) → PartsFront ts → Whole ts
  out ts (inl f) = inl f
  out ts (inr ((x, h), more, fits, go, e, inl none)) = inl (subst front (sym (e ∙ ap (λ (m : List Token). open_spelling operand_tokens (x, h) ++ m) none ∙ append-nil (open_spelling operand_tokens (x, h)))) (H.laws.whole (x, h) fits))
  out ts (inr ((x, Some g), more, fits, go, e, inr (f, on))) =
      let k = half_here x g more on in
      inr (inr (inl (inr (x, sign_at g s.Greater ∷ more, below x (tree_fits H (x, Some g) fits) k.0, k.1, e ∙ append_assoc (operand_tokens x) (half_tokens g) more, inr (o.Sign g s.Greater, more, inl (g, tt, refl), refl, refl, f)))))
  out ts (inr ((x, None), more, fits, go, e, inr (f, on))) = compared_out x ts more (H.none_out x fits) (e ∙ ap (λ (m : List Token). m ++ more) (append-nil (operand_tokens x))) on f

  -- an operator that is read behind the operand alone
  plainly : (x : Operand) (ts more : List Token) → F x → ts ≡ operand_tokens x ++ more → compared_front Types lower L more → (more ≡ []) ⊎ (starts class_of (codes (x, None)) more ≡ true) → PartsFront ts
  plainly x ts more fits e f (inl none) = inr ((x, None), more, H.none_in x fits, refl, e ∙ ap (λ (m : List Token). m ++ more) (sym (append-nil (operand_tokens x))), inl none)
  plainly x ts more fits e f (inr on) = inr ((x, None), more, H.none_in x fits, refl, e ∙ ap (λ (m : List Token). m ++ more) (sym (append-nil (operand_tokens x))), inr (f, on))

  lesser_front : (more : List Token) → Joint operator_tokens Lesser always (l.one_of (s.Less ∷ [])).front ufront more → operators_front Types lower L more × ((more ≡ []) ⊎ (starts class_of (these s.Less) more ≡ true))
  lesser_front more (inl (inl f)) = (inl (inl f), none_or (these s.Less) (l.sign s.Less).front (sign_reads s.Less).firsts more f)
  lesser_front more (inl (inr e)) = (inl (inl (inl e)), inl e)
  lesser_front more (inr (op, rest, inl known, go, is, f)) = (inr (op, rest, inl known, refl, is, f), inr (ap (starts class_of (these s.Less)) is ∙ lesser_begins op rest (inl known)))
  lesser_front more (inr (op, rest, inr none, go, is, f)) = absurd none

  -- `>` alone, and with an operand behind it
  greater_front : (x : Operand) (ts more : List Token) → D x → leaves 5 x ≡ true → ts ≡ operand_tokens x ++ more → (l.sign s.Greater).front more → (b : Bool) → keeps x ≡ b → PartsFront ts
  greater_front x ts more d left e (inl none) b kept = plainly x ts more (up x d).0 e (inr (inr (inl (inr (inl (inl none)))))) (inl none)
  greater_front x ts more d left e (inr (g, is)) true kept =
      inl (subst front (sym (e ∙ ap (λ (m : List Token). operand_tokens x ++ m) is)) (H.laws.whole (x, Some g) (half_read H x (decide x (up x d).0 left) kept g)))
  greater_front x ts more d left e (inr (g, is)) false kept =
      plainly x ts more (up x d).0 e (inr (inr (inl (inr (inl (inr (g, is))))))) (inr (greater_may x d left kept more (ap (starts class_of (these s.Greater)) is ∙ begins (sign_reads s.Greater) g [] tt)))

  greater_then : (x : Operand) (g : Place) (ts rest : List Token) → D x → leaves 5 x ≡ true → ts ≡ operand_tokens x ++ (sign_at g s.Greater ∷ rest) → ufront rest → (b : Bool) → keeps x ≡ b → PartsFront ts
  greater_then x g ts rest d left e f true kept = inr ((x, Some g), rest, half_read H x (decide x (up x d).0 left) kept g, refl, e ∙ sym (append_assoc (operand_tokens x) (half_tokens g) rest), behind_it (none_or operand_first ufront L.laws.firsts rest f)) where
    behind_it : (rest ≡ []) ⊎ (starts class_of operand_first rest ≡ true) → guarded_front (part_laws (Some g)) (codes (x, Some g)) rest
    behind_it (inl none) = inl none
    behind_it (inr on) = inr (f, half_go x g d left rest on)
  greater_then x g ts rest d left e f false kept =
      plainly x ts (sign_at g s.Greater ∷ rest) (up x d).0 e (inr (inr (inr (o.Sign g s.Greater, rest, inr (inl (g, tt, refl)), refl, refl, f)))) (inr (greater_may x d left kept (sign_at g s.Greater ∷ rest) (begins (sign_reads s.Greater) g rest tt)))

  rest_front : (x : Operand) (ts more : List Token) → D x → leaves 5 x ≡ true → ts ≡ operand_tokens x ++ more → Joint operator_tokens Rest always RestOf ufront more → PartsFront ts
  rest_front x ts more d left e (inl (inl f)) = greater_front x ts more d left e f (keeps x) refl
  rest_front x ts more d left e (inl (inr f)) = plainly x ts more (up x d).0 e (inr (inr (inl (inr (inr f))))) (either_map (others_may x d left more) (none_or others OthersOf others_firsts more f))
  rest_front x ts more d left e (inr (op, rest, inl (g, at, same), go, is, f)) = greater_then x g ts rest d left (e ∙ ap (λ (m : List Token). operand_tokens x ++ m) (is ∙ ap (λ (p : Operator). operator_tokens p ++ rest) (sym same))) f (keeps x) refl
  rest_front x ts more d left e (inr (op, rest, inr known, go, is, f)) =
      plainly x ts more (up x d).0 e (inr (inr (inr (op, rest, inr (inr known), refl, is, f)))) (inr (others_may x d left more (ap (starts class_of others) is ∙ begins (one_of_reads (s.LessEqual ∷ s.GreaterEqual ∷ []) (apart refl, (apart refl, tt))) op rest known)))

  into : (ts : List Token) → Whole ts → PartsFront ts
  into ts (inl f) = inl f
  into ts (inr (inl (inl f))) = inl (rise ts f)
  into ts (inr (inl (inr (x, more, d, left, e, f)))) = let k = lesser_front more f in plainly x ts more (up x d).0 e (inr (inr k.0)) (either_map (less_may x d left more) k.1)
  into ts (inr (inr (inl (inl f)))) = inl (rise ts f)
  into ts (inr (inr (inl (inr (x, more, d, left, e, f))))) = rest_front x ts more d left e f
  into ts (inr (inr (inr (inl (inl f))))) = inl (rise ts (begun ts f))
  into ts (inr (inr (inr (inl (inr (x, more, kind, left, e, f)))))) =
      plainly x ts more (up x (of_plain x kind).0).0 e (inl f) (either_map (λ on. types_may x kind left more (widen (this_word w.Is) types more (inside refl) on)) (none_or (this_word w.Is) (tested_front Types lower L) (tested_laws Types lower L).firsts more f))
  into ts (inr (inr (inr (inr (inl f))))) = inl (rise ts (begun ts f))
  into ts (inr (inr (inr (inr (inr (x, more, kind, left, e, f)))))) =
      plainly x ts more (up x (of_plain x kind).0).0 e (inr (inl f)) (either_map (λ on. types_may x kind left more (widen (this_word w.As) types more (inside refl) on)) (none_or (this_word w.As) (cast_front Types lower L) (cast_laws Types lower L).firsts more f))

  -- ---- the reader

  abbrev raw_tail : Bool → Open Operand → List Token → Outcome Token (Open Operand)
  raw_tail c x mid = and_then (and_then (when c (compared_with x.1 type lower) mid) (λ y rest. Ok ((x, y), rest))) (λ y rest. Ok (joined_compared y, rest))

  abbrev own_tail : Bool → Reader Token Behind → Open Operand → List Token → Outcome Token (Open Operand)
  own_tail c q x mid = and_then (and_then (when c q mid) (λ y rest. Ok ((x, y), rest))) (λ y rest. Ok (join y, rest))

  half_tail : (x : Operand) (g : Place) (mid : List Token) (c : Bool) → starts class_of (codes (x, Some g)) mid ≡ c → raw_tail c (x, Some g) mid ≡ own_tail c (behind (x, Some g)) (x, Some g) mid
  unfolding compared_with
  half_tail x g mid false e = refl
  half_tail x g mid true e = same_half x g (whole lower mid) ∙ ap (λ (b : Bool). own_tail true (λ ts. if b then part (Some g) ts else nothing ts) (x, Some g) mid) (sym e)

  none_tail : (x : Operand) (mid : List Token) (c : Bool) → starts class_of (codes (x, None)) mid ≡ c → raw_tail c (x, None) mid ≡ own_tail c (behind (x, None)) (x, None) mid
  none_tail x mid false e = refl
  none_tail x mid true e = same_none x (compared_with None type lower mid) ∙ ap (λ (b : Bool). own_tail true (λ ts. if b then part None ts else nothing ts) (x, None) mid) (sym e)

  -- where the reader stops before a `>` it leaves it
  never_kept : (ts : List Token) (x : Operand) (u : Token) (mid : List Token) → here ts ≡ Ok ((x, None), u ∷ mid) → leaves 5 x ≡ true → has (these s.Greater) (class_of u) ≡ true → keeps x ≡ false
  never_kept ts x u mid e left is = not_true (keeps x) (λ kept. never_left H ts x u mid is (half_read H x (decide x (H.none_out x (H.laws.sound ts (x, None) (u ∷ mid) e).0) left) kept) e)

  raw_known : (ts : List Token) (x : Operand) (u : Token) (mid : List Token) → here ts ≡ Ok ((x, None), u ∷ mid) → has (compare_codes n (x, None)) (class_of u) ≡ true → has (codes (x, None)) (class_of u) ≡ true
  raw_known ts x u mid e h =
      let a = given_has (room x) ((given (leaves_less x) (these s.Less) ++ given (leaves 5 x) rest_codes) ++ given (typed x) types) (class_of u) h in
      elim (has_cases (given (leaves_less x) (these s.Less) ++ given (leaves 5 x) rest_codes) (given (typed x) types) (class_of u) a.1) [
        | inl k ↦ elim (has_cases (given (leaves_less x) (these s.Less)) (given (leaves 5 x) rest_codes) (class_of u) k) [
          | inl k ↦ let v = given_has (leaves_less x) (these s.Less) (class_of u) k in ap (has (codes (x, None))) (only_code (class_of u) (sign_code s.Less) v.1) ∙ less_on (room x) (leaves_less x) (alone_left x) (leaves 5 x) (typed x) a.0 v.0
          | inr k ↦ let v = given_has (leaves 5 x) rest_codes (class_of u) k in elim (has_cases (these s.Greater) others (class_of u) v.1) [
            | inl is ↦ ap (has (codes (x, None))) (only_code (class_of u) (sign_code s.Greater) is) ∙ greater_on (room x) (leaves_less x) (alone_left x) (leaves 5 x) (typed x) a.0 (and_true (leaves 5 x) (not (keeps x)) v.0 (ap not (never_kept ts x u mid e v.0 is)))
            | inr is ↦ others_on (room x) (leaves_less x) (alone_left x) (leaves 5 x) (typed x) (class_of u) a.0 v.0 is
          ]
        ]
        | inr k ↦ let v = given_has (typed x) types (class_of u) k in types_on (room x) (leaves_less x) (alone_left x) (leaves 5 x) (typed x) (class_of u) a.0 v.0 v.1
      ]

  same_starts : (ts : List Token) (x : Operand) (mid : List Token) → here ts ≡ Ok ((x, None), mid) → starts class_of (compare_codes n (x, None)) mid ≡ starts class_of (codes (x, None)) mid
  same_starts ts x [] e = refl
  same_starts ts x (u ∷ mid) e = same_bool (has (compare_codes n (x, None)) (class_of u)) (has (codes (x, None)) (class_of u)) (raw_known ts x u mid e)
      (λ h. (to_raw (room x) (leaves_less x) (alone_left x) (leaves 5 x) (typed x) (λ k. (and_both (leaves 5 x) (not (keeps x)) k).0)).in_second (class_of u) h)

  same_step : (ts : List Token) (x : Open Operand) (mid : List Token) → here ts ≡ Ok (x, mid) → raw_tail (starts class_of (compare_codes n x) mid) x mid ≡ own_tail (starts class_of (codes x) mid) (behind x) x mid
  same_step ts (x, Some g) mid e = half_tail x g mid (starts class_of (codes (x, Some g)) mid) refl
  same_step ts (x, None) mid e = ap (λ (c : Bool). raw_tail c (x, None) mid) (same_starts ts x mid e) ∙ none_tail x mid (starts class_of (codes (x, None)) mid) refl

  abbrev raw_all : Outcome Token (Open Operand) → Outcome Token (Open Operand)
  raw_all r = and_then (and_then r (λ x mid. and_then (when (starts class_of (compare_codes n x) mid) (compared_with x.1 type lower) mid) (λ y rest. Ok ((x, y), rest)))) (λ y rest. Ok (joined_compared y, rest))

  abbrev own_all : Outcome Token (Open Operand) → Outcome Token (Open Operand)
  own_all r = and_then (and_then r (λ x mid. and_then (when (starts class_of (codes x) mid) (behind x) mid) (λ y rest. Ok ((x, y), rest)))) (λ y rest. Ok (join y, rest))

  same_by : (ts : List Token) (r : Outcome Token (Open Operand)) → here ts ≡ r → raw_all r ≡ own_all r
  same_by ts (Ok x) e = same_step ts x.0 x.1 e
  same_by ts (Err rest) e = refl

  pub relational_laws : OpenLaws (relational n type here lower) operand_tokens (EitherFit F Node) (Either front NodeFront) first (after_operand 5) (half_operand 5)
  unfolding relational
  relational_laws = record {
    Fits = Made join PartsFit;
    none_in = none_in;
    none_out = none_out;
    some_out = some_out;
    laws = reread (refront (made_laws parts_laws join (open_spelling operand_tokens) (after_open (after_operand 5) (half_operand 5)) parts_said parts_on) out into) (λ ts. same_by ts (here ts) refl);
  }

  -- ---- a `>` behind an operand alone, and behind a test or a cast

  pub kept_settled : (x : Operand) → ((g : Place) → H.Fits (x, Some g)) → Settled relational_laws x
  unfolding relational_laws
  kept_settled x known = inl (λ g. (((x, Some g), None), (known g, refl), refl))

  codes_off : (x : Operand) → (room x && leaves 5 x) ≡ false → has (codes (x, None)) (sign_code s.Greater) ≡ false
  codes_off x none = not_true (has (codes (x, None)) (sign_code s.Greater)) (λ h.
      let k = rest_in (room x) (leaves_less x) (alone_left x) (leaves 5 x) (typed x) (sign_code s.Greater) refl h in
      clash (room x && leaves 5 x) (and_true (room x) (leaves 5 x) k.0 (elim k.1 [ inl e ↦ (and_both (leaves 5 x) (not (keeps x)) e).0 | inr e ↦ e ])) none)

  -- an operand that is left before a `>`, where no comparison may stand behind it
  pub left_settled : (x : Operand) → ((g : Place) (ts : List Token) → here (open_spelling operand_tokens (x, None) ++ sign_at g s.Greater ∷ ts) ≡ Ok ((x, None), sign_at g s.Greater ∷ ts)) → (room x && leaves 5 x) ≡ false → Settled relational_laws x
  unfolding relational relational_laws class_of
  left_settled x stays none = inr (λ place ts.
      let list : List Token = open_spelling operand_tokens (x, None) ++ sign_at place s.Greater ∷ ts in
      same_by list (here list) refl ∙ ap own_all (stays place ts) ∙ ap (λ (c : Bool). own_tail c (behind (x, None)) (x, None) (sign_at place s.Greater ∷ ts)) (codes_off x none))

  pub test_settled : (x : Operand) (place : Place) (bang : Option Place) (of : TypeNode) → IsNode (t.is_type x place bang of) → Settled relational_laws (t.is_type x place bang of)
  unfolding operand_takes operand_alone
  test_settled x place bang of fits = stops_before relational_laws (t.is_type x place bang of) (inr (inr (inr (inl fits)))) (type_closed (opens_less of) (opens_dot of))

  pub cast_settled : (x : Operand) (place : Place) (of : TypeNode) → AsNode (t.as_type x place of) → Settled relational_laws (t.as_type x place of)
  unfolding operand_takes operand_alone
  cast_settled x place of fits = stops_before relational_laws (t.as_type x place of) (inr (inr (inr (inr fits)))) (type_closed (opens_less of) (opens_dot of))

  -- ---- a `>` behind the last operand of a comparison is given as a half, or stopped before, as behind that operand

  module _ (asks_last : Operand → Bool) (settled : (x : Operand) → U x → asks_last x ≡ true → Settled L x) where
    abbrev low_sharp : OpenLaws (whole lower) operand_tokens U ufront operand_first (sharp L asks_last settled) (half_operand 6)
    low_sharp = record { Fits = L.Fits; none_in = L.none_in; none_out = L.none_out; some_out = L.some_out; laws = refined_laws L asks_last settled }

    sharp_parts : Laws class_of parts_reader (joined_spelling (open_spelling operand_tokens) spelled) PartsFit PartsFront first (after_followed_by next_here always codes (λ x b. after_behind (sharp L asks_last settled) b)) false
    sharp_parts = continued_by_laws (refined_laws H asks decide) (λ x fits. guarded_laws (behind_laws Types lower low_sharp x.1) (codes x)) never always (λ x e. absurd cc) codes_apart

    stop : (x : Operand) (h : Option Place) (b : Behind) (y : Operand) → after_last (sharp L asks_last settled) ((x, h), Some b) ≡ sharp L asks_last settled y → asks_last y ≡ true → reads_half L y ≡ false → has (after_behind (sharp L asks_last settled) b) (sign_code s.Greater) ≡ false
    stop x h b y at on none = ap (λ (xs : List ℕ). has xs (sign_code s.Greater)) at ∙ not_true (has (sharp L asks_last settled y) (sign_code s.Greater)) (λ k. (sharp_apart L asks_last settled y on none).never_both (sign_code s.Greater) k refl)

    stays_read : (p : Open Operand × Option Behind) (z y : Operand) → PartsFit p → join p ≡ (z, None) → ((next : Operand → List ℕ) → after_last next p ≡ next y) → asks_last y ≡ true → reads_half L y ≡ false → (place : Place) (ts : List Token) →
        relational n type here lower (open_spelling operand_tokens (z, None) ++ sign_at place s.Greater ∷ ts) ≡ Ok ((z, None), sign_at place s.Greater ∷ ts)
    unfolding relational class_of
    stays_read (x, None) z y known made after asked none place ts = let bad : after_last (λ (w : Operand). sign_code s.Less ∷ []) (x, None) ≡ sign_code s.Less ∷ [] = after (λ (w : Operand). sign_code s.Less ∷ []) in absurd cc
    stays_read ((x, h), Some b) z y known made after asked none place ts =
        let rest : List Token = sign_at place s.Greater ∷ ts in
        let list : List Token = joined_spelling (open_spelling operand_tokens) spelled ((x, h), Some b) ++ rest in
        ap (λ (m : List Token). relational n type here lower (m ++ rest)) (ap (open_spelling operand_tokens) (sym made) ∙ parts_said ((x, h), Some b) known)
        ∙ same_by list (here list) refl
        ∙ ap (λ (r : Outcome Token (Open Operand × Option Behind)). and_then r (λ v u. Ok (join v, u))) (sharp_parts.complete ((x, h), Some b) rest known (stop x h b y (after (sharp L asks_last settled)) asked none))
        ∙ ap (λ (v : Open Operand). gave v rest) made

    item_settled : (x : Operand) (op : Operator) (y : Operand) → ((k : Option Place) → L.Fits (y, k) → Compares x op y k) → U y → asks_last y ≡ true → Settled relational_laws (t.binary x (t.tail op y t.no_tails))
    unfolding relational_laws
    item_settled x op y parts fits asked = by_half (reads_half L y) refl where
      by_half : (b : Bool) → reads_half L y ≡ b → Settled relational_laws (t.binary x (t.tail op y t.no_tails))
      by_half true e = inl (λ g. let p = parts (Some g) (half_read L y (settled y fits asked) e g) in (p.0, p.1, p.2))
      by_half false e = inr (λ g ts. let p = parts None (L.none_in y fits) in stays_read p.0 (t.binary x (t.tail op y t.no_tails)) y p.1 p.2 p.3 asked e g ts)

    pub compared_settled : (x : Operand) (op : Operator) (y : Operand) → D x → ((leaves_less x ≡ true) × Lesser op) ⊎ ((leaves 5 x ≡ true) × Rest op) → U y → asks_last y ≡ true → Settled relational_laws (t.binary x (t.tail op y t.no_tails))
    compared_settled x op y d (inl (left, known)) fits asked = item_settled x op y (λ k last. less_in_all x op y k d left known last) fits asked
    compared_settled x op y d (inr (left, known)) fits asked = item_settled x op y (λ k last. rest_in_all x op y k d left known last) fits asked
