-- The law of the reader of one part of a cascade (ECMA-408, 16.17.2 Cascaded Invocations).
use Rattle.std.proofs.Common.{◌≡◌, ℕ, max, Bool, true, false, List, [], ◌∷◌, ◌++◌, Option, None, Some, Ok, Err, inl, inr, refl, ap, sym, ◌∙◌, subst, append_assoc}
use Rattle.std.proofs.lemmas.List.{append-nil}
use Rattle.dart_base.specs.declared.place.Place.{Place}
use Rattle.dart_token.specs.declared.token.Token.{Token}
use Rattle.dart_token.specs.declared.sign.Sign.TheVariants as s
use Rattle.dart_tree.specs.declared.operator.Operator.{Operator}
use Rattle.dart_tree.specs.LeafTokens.{sign_at, operator_tokens}
use Rattle.dart_tree.specs.Types.{TypeNode}
use Rattle.dart_tree.specs.Tree as t
use Rattle.dart_tree.specs.Tree.{Expr, Selectors, Value}
use Rattle.dart_tree.specs.Tokens.{expr_tokens, value_tokens, selectors_tokens}
use Rattle.grammar_laws.specs.Codes.{has, Apart, Within, given, after_followed_by}
use Rattle.grammar_laws.specs.Readers.{Outcome, Reader, and_then, both, always, never, continued_by}
use Rattle.grammar_laws.specs.Laws.{Laws}
use Rattle.grammar_laws.specs.Fronts.{Front, Joint, BothFit, Made, both_spelling, option_spelling}
use Rattle.grammar_laws.proofs.Codes.{apart, apart_none, apart_smaller, inside, or_right, within_none, within_then, within_union, within_given, within_left, within_right}
use Rattle.grammar_laws.proofs.Restated.{made_laws, reread, refront}
use Rattle.grammar_laws.proofs.Combined.{both_laws}
use Rattle.dart_syntax.specs.Phrases.{Anything}
use Rattle.dart_syntax.specs.Leaves.{sign_tokens}
use Rattle.dart_syntax.specs.Leaves as l
use Rattle.dart_syntax.specs.Agreement.{section_tokens}
use Rattle.dart_syntax.specs.Edges.{opens_nothing, question, compares, binds_between, expr_takes, cascades_take}
use Rattle.dart_syntax.specs.Expressions as g
use Rattle.dart_syntax.specs.Expressions.{assignment_signs, selectors_assign}
use Rattle.dart_syntax.specs.Levels.{sign_level}
use Rattle.token_codes.specs.Codes.{class_of, names, sign_code, these, sign_codes}
use Rattle.token_codes.specs.Leaves.{sign}
use Rattle.token_codes.proofs.Leaves.{sign_reads}
use Rattle.syntax_readers.specs.Combinators.{Open, with_half, shut, halved}
use Rattle.syntax_readers.specs.Primaries.{ExprReaders, operand_first, expr_first, selector_first, section_over}
use Rattle.syntax_readers.specs.Expressions.{Assigned, Cascade, a_cascade, assign_codes, assignment, cascade_over}
use Rattle.laws_expr.specs.Nexts.{Taking, nexts, taken, expr_alone, cascades_alone, after_without, after_cascade}
use Rattle.laws_expr.proofs.Known.{ClosedRead}
use Rattle.laws_expr.proofs.Open.{OpenLaws, Settled, stops_before, open_spelling, half_tokens, after_open, tree, no_some, shut_laws, tree_fits}
use Rattle.laws_expr.proofs.Edges.{within_at, taken_moves}
use Rattle.laws_expr.proofs.Chain.{half_of, half_moves}
use Rattle.laws_expr.proofs.Once.{half_without}
use Rattle.laws_expr.proofs.Selectors.{section_laws}
use Rattle.laws_expr.proofs.Halved.{halved_laws}
use Rattle.laws_expr.proofs.Refined.{reads_half, half_read, sharp, sharp_stops, refined_open}
use Rattle.laws_expr.proofs.Assigning.{parts, same_parts, parts_spell, PartsFit, Said, parts_laws}
use Rattle.laws_expr.proofs.Divided.{AssignFits, second_tokens, one_of_said, assign_out}

abbrev one_cascade : Place × (Selectors × Value) → t.Cascades
one_cascade x = t.cascade x.0 x.1.0 x.1.1 t.no_cascades

abbrev pub half_cascade : Place × (Selectors × Value) → List ℕ
half_cascade x = half_of (λ next opens. cascades_take next opens question (one_cascade x)) (cascades_alone (one_cascade x))

-- ---- what goes on

given_within : (b : Bool) (xs ys : List ℕ) → Within xs ys → Within (given b xs) (given b ys)
given_within true xs ys w = w
given_within false xs ys w = within_none []

abbrev assigned_codes : List ℕ
assigned_codes = sign_code s.Greater ∷ sign_codes assignment_signs

omitted_on : (dots : Place) (x : Selectors) → Within ((selector_first ++ given (selectors_assign x) (these s.Greater)) ++ given (selectors_assign x) (sign_codes assignment_signs)) (after_cascade (dots, (x, t.omitted)))
unfolding cascades_take cascades_alone
omitted_on dots x =
    let takes : Taking = λ next opens. cascades_take next opens question (one_cascade (dots, (x, t.omitted))) in
    let own : List ℕ = given (selectors_assign x) assigned_codes in
    let dot : Within (these s.Dot) (taken takes) = within_at 13 nexts (these s.Dot) takes refl refl in
    let brackets : Within (sign_codes (s.LeftBracket ∷ s.LeftParenthesis ∷ [])) (taken takes) = within_at 14 nexts (sign_codes (s.LeftBracket ∷ s.LeftParenthesis ∷ [])) takes refl refl in
    within_union (within_union (within_then (within_union dot brackets) (within_left (taken takes) own)) (within_then (given_within (selectors_assign x) (these s.Greater) assigned_codes (inside refl)) (within_right (taken takes) own)))
    (within_then (given_within (selectors_assign x) (sign_codes assignment_signs) assigned_codes (inside refl)) (within_right (taken takes) own))

half_by : (b : Bool) (takes : Taking) → Within (given b (these s.GreaterEqual)) (half_of takes (given b assigned_codes))
half_by true takes =
    let compared : List ℕ = given (takes compares opens_nothing) operand_first in
    within_then (within_right compared (these s.GreaterEqual)) (within_right (given (takes (sign_level s.ShiftLeft) opens_nothing) (these s.Greater)) (compared ++ these s.GreaterEqual))
half_by false takes = within_none (half_of takes [])

value_takes : (dots : Place) (x : Selectors) (operator : Option Operator) (e : Expr) (next : ℕ) (opens : TypeNode → Bool) → expr_takes next opens question e ≡ true → cascades_take next opens question (one_cascade (dots, (x, t.given operator e))) ≡ true
unfolding cascades_take
value_takes dots x operator e next opens h = or_right (binds_between next opens question question) (expr_takes next opens (max question question) e) h

value_on : (dots : Place) (x : Selectors) (operator : Option Operator) (e : Open Expr) → Within (after_open after_without half_without e) (after_open after_cascade half_cascade (with_half (λ y. (dots, (x, t.given operator y))) e))
unfolding cascades_alone
value_on dots x operator (e, None) =
    let takes : Taking = λ next opens. cascades_take next opens question (one_cascade (dots, (x, t.given operator e))) in
    within_union (within_then (taken_moves nexts (λ next opens. expr_takes next opens question e) takes (value_takes dots x operator e)) (within_left (taken takes) (expr_alone e))) (within_right (taken takes) (expr_alone e))
value_on dots x operator (e, Some g) = half_moves (λ next opens. expr_takes next opens question e) (λ next opens. cascades_take next opens question (one_cascade (dots, (x, t.given operator e)))) (expr_alone e) (value_takes dots x operator e)

-- ---- the part

module _ {inner : ExprReaders} {nodes : g.ExprNodes} (N : ClosedRead inner nodes) (W : OpenLaws inner.without expr_tokens nodes.without.Fits nodes.without.front expr_first after_without half_without) where
  abbrev Section : Selectors → Type 0
  Section = (g.section_over nodes).Fits

  abbrev section_front : Front Token
  section_front = (g.section_over nodes).front

  abbrev no_codes : Selectors → List ℕ
  no_codes x = []

  abbrev after_section : Selectors → List ℕ
  after_section x = selector_first

  shut_section : OpenLaws (shut (section_over inner)) selectors_tokens Section section_front (names ++ these s.LeftBracket) after_section no_codes
  shut_section = shut_laws (section_laws N) no_codes

  no_greater : (x : Selectors) → Section x → selectors_assign x ≡ true → Settled shut_section x
  no_greater x fits on = stops_before shut_section x fits refl

  abbrev section_half : OpenLaws (halved selectors_assign (shut (section_over inner))) selectors_tokens Section (Joint selectors_tokens Section selectors_assign section_front (l.sign s.Greater).front) (names ++ these s.LeftBracket) (λ x. selector_first ++ given (selectors_assign x) (these s.Greater)) no_codes
  section_half = halved_laws shut_section selectors_assign no_greater

  abbrev after_half : Selectors → List ℕ
  after_half x = selector_first ++ given (selectors_assign x) (these s.Greater)

  no_assign : (x : Selectors) → Section x → selectors_assign x ≡ true → Apart (after_half x) (sign_codes assignment_signs)
  no_assign x fits on = apart_smaller (within_union (inside {xs = selector_first} {ys = sign_code s.Greater ∷ selector_first} refl) (within_given (selectors_assign x) (λ e. inside {xs = these s.Greater} {ys = sign_code s.Greater ∷ selector_first} refl))) (apart refl)

  halves : (x : Selectors) (g : Place) → Section x → selectors_assign x ≡ true → section_half.Fits (x, Some g)
  halves x g fits on = inr (fits, on)

  abbrev Part : Open Selectors × Option Assigned → Type 0
  Part = PartsFit selectors_assign section_half W no_assign (λ x fits on. apart_none (these s.GreaterEqual))

  abbrev reader : Reader Token (Open Selectors × Option Assigned)
  reader = parts selectors_assign section_half W no_assign (λ x fits on. apart_none (these s.GreaterEqual))

  abbrev spelled : Open Selectors × Option Assigned → List Token
  spelled = parts_spell selectors_assign section_half W no_assign (λ x fits on. apart_none (these s.GreaterEqual))

  abbrev said_front : Front Token
  said_front = Said selectors_assign section_half W no_assign (λ x fits on. apart_none (these s.GreaterEqual))

  abbrev after_part : Open Selectors × Option Assigned → List ℕ
  after_part = after_followed_by (after_open after_half no_codes) (λ (x : Open Selectors). selectors_assign x.0) (λ (x : Open Selectors). assign_codes x.1) (λ x y. after_open after_without half_without y.1)

  part_laws : Laws class_of reader spelled Part said_front (names ++ these s.LeftBracket) after_part false
  part_laws = parts_laws selectors_assign section_half W no_assign (λ x fits on. apart_none (these s.GreaterEqual)) halves

  -- ---- which trees

  abbrev Of : Place × (Selectors × Value) → Type 0
  Of = (g.cascade_over nodes).Fits

  abbrev make : Place × (Open Selectors × Option Assigned) → Open Cascade
  make x = a_cascade x.0 x.1

  abbrev Made_of : Open Cascade → Type 0
  Made_of = Made make (BothFit Anything Part)

  plain_of : (dots : Place) (x : Open Selectors) → section_half.Fits x → Of (dots, (x.0, t.omitted))
  plain_of dots x fits = (tt, inl (tree_fits section_half x fits, refl))

  value_of : (dots : Place) (x : Open Selectors) (operator : Operator) (e : Open Expr) → section_half.Fits x → selectors_assign x.0 ≡ true → AssignFits x.1 operator → W.Fits e → Of (dots, (x.0, t.given (Some operator) e.0))
  value_of dots x operator e fits on known value = (tt, inr ((tree_fits section_half x fits, on), ((operator, e.0), (assign_out x.1 operator known, tree_fits W e value), refl)))

  abbrev as_value : Place → Selectors → Value → Open Cascade
  as_value dots x v = ((dots, (x, v)), None)

  none_in : (c : Place × (Selectors × Value)) → Of c → Made_of (c, None)
  none_in (dots, (x, v)) (at, inl (fits, is)) = ((dots, ((x, None), None)), (tt, (section_half.none_in x fits, refl)), ap (as_value dots x) (sym is))
  none_in (dots, (x, v)) (at, inr ((fits, on), ((operator, e), (inl known, value), is))) = ((dots, ((x, None), Some (operator, (e, None)))), (tt, (section_half.none_in x fits, (on, (known, W.none_in e value)))), ap (as_value dots x) is)
  none_in (dots, (x, v)) (at, inr ((fits, on), ((operator, e), (inr ((first, second), there, made), value), is))) =
      ((dots, ((x, Some first), Some (operator, (e, None)))), (tt, (halves x first fits on, (on, ((second, tt, made), W.none_in e value)))), ap (as_value dots x) is)

  none_out : (c : Place × (Selectors × Value)) → Made_of (c, None) → Of c
  none_out c ((dots, ((x, None), None)), fits, e) = subst Of (ap tree e) (plain_of dots (x, None) fits.1.0)
  none_out c ((dots, ((x, Some g), None)), fits, e) = no_some ((dots, (x, t.omitted)), Some g) (c, None) e refl refl
  none_out c ((dots, (x, Some (operator, (v, None)))), fits, e) = subst Of (ap tree e) (value_of dots x operator (v, None) fits.1.0 fits.1.1.0 fits.1.1.1.0 fits.1.1.1.1)
  none_out c ((dots, (x, Some (operator, (v, Some g)))), fits, e) = no_some ((dots, (x.0, t.given (Some operator) v)), Some g) (c, None) e refl refl

  some_out : (c : Place × (Selectors × Value)) (g : Place) → Made_of (c, Some g) → Of c
  some_out c g ((dots, ((x, None), None)), fits, e) = no_some (c, Some g) ((dots, (x, t.omitted)), None) (sym e) refl refl
  some_out c g ((dots, ((x, Some h), None)), fits, e) = subst Of (ap tree e) (plain_of dots (x, Some h) fits.1.0)
  some_out c g ((dots, (x, Some (operator, (v, None)))), fits, e) = no_some (c, Some g) ((dots, (x.0, t.given (Some operator) v)), None) (sym e) refl refl
  some_out c g ((dots, (x, Some (operator, (v, Some h)))), fits, e) = subst Of (ap tree e) (value_of dots x operator (v, Some h) fits.1.0 fits.1.1.0 fits.1.1.1.0 fits.1.1.1.1)

  -- ---- their tokens

  made_said : (p : Place × (Open Selectors × Option Assigned)) → BothFit Anything Part p → open_spelling section_tokens (make p) ≡ both_spelling (sign_tokens s.DotDot) spelled p
  unfolding value_tokens
  made_said (dots, ((x, h), None)) fits = simp (append_assoc, append-nil)
  made_said (dots, ((x, None), Some (operator, (e, h)))) fits =
      let same : second_tokens operator ≡ operator_tokens operator = one_of_said assignment_signs operator fits.1.1.1.0 in
      ap (λ (m : List Token). sign_tokens s.DotDot dots ++ m) (append_assoc (selectors_tokens x) (operator_tokens operator ++ expr_tokens e) (option_spelling half_tokens h) ∙ ap (λ (m : List Token). selectors_tokens x ++ m) (append_assoc (operator_tokens operator) (expr_tokens e) (option_spelling half_tokens h))
      ∙ ap (λ (m : List Token). selectors_tokens x ++ (m ++ (expr_tokens e ++ option_spelling half_tokens h))) (sym same) ∙ ap (λ (m : List Token). m ++ (second_tokens operator ++ (expr_tokens e ++ option_spelling half_tokens h))) (sym (append-nil (selectors_tokens x))))
  made_said (dots, ((x, Some g), Some (operator, (e, h)))) (at, (fits, (on, ((second, there, is), value)))) = subst (λ z. open_spelling section_tokens (make (dots, ((x, Some g), Some (z, (e, h))))) ≡ both_spelling (sign_tokens s.DotDot) spelled (dots, ((x, Some g), Some (z, (e, h))))) is (simp append_assoc)

  made_on : (p : Place × (Open Selectors × Option Assigned)) → BothFit Anything Part p → Within (after_part p.1) (after_open after_cascade half_cascade (make p))
  unfolding cascades_alone
  made_on (dots, ((x, None), None)) fits = omitted_on dots x
  made_on (dots, ((x, Some g), None)) fits = half_by (selectors_assign x) (λ next opens. cascades_take next opens question (one_cascade (dots, (x, t.omitted))))
  made_on (dots, (x, Some (operator, e))) fits = value_on dots x.0 (Some operator) e

  -- ---- their fronts

  abbrev dotted : Front Token → Front Token
  dotted f = Joint (sign_tokens s.DotDot) Anything always (l.sign s.DotDot).front f

  out : (ts : List Token) → dotted said_front ts → (g.cascade_over nodes).front ts
  out ts (inl f) = inl f
  out ts (inr (dots, more, at, on, e, inl f)) = inr (dots, more, at, on, e, inl (inl f))
  out ts (inr (dots, more, at, on, e, inr f)) = inr (dots, more, at, on, e, inr (inr f))

  into : (ts : List Token) → (g.cascade_over nodes).front ts → dotted said_front ts
  into ts (inl f) = inl f
  into ts (inr (dots, more, at, on, e, inl (inl f))) = inr (dots, more, at, on, e, inl f)
  into ts (inr (dots, more, at, on, e, inl (inr (x, rest, fits, go, e', none)))) = inr (dots, more, at, on, e, inl (subst section_front (sym (e' ∙ ap (λ (m : List Token). selectors_tokens x ++ m) none ∙ append-nil (selectors_tokens x))) ((section_laws N).whole x fits)))
  into ts (inr (dots, more, at, on, e, inr (inl f))) = inr (dots, more, at, on, e, inl f)
  into ts (inr (dots, more, at, on, e, inr (inr f))) = inr (dots, more, at, on, e, inr f)

  -- ---- the reader

  abbrev raw : Reader Token (Open Selectors × Option Assigned)
  raw = continued_by class_of never always (λ (x : Open Selectors). given (selectors_assign x.0) (assign_codes x.1)) (halved selectors_assign (shut (section_over inner))) (λ x. assignment x.1 inner.without)

  abbrev end_of : Place → Outcome Token (Open Selectors × Option Assigned) → Outcome Token (Open Cascade)
  end_of dots r = and_then (and_then r (λ y z. Ok ((dots, y), z))) (λ x z. Ok (make x, z))

  same_cascade : (r : Outcome Token Place) → and_then (and_then r (λ dots m. and_then (raw m) (λ y z. Ok ((dots, y), z)))) (λ x z. Ok (make x, z)) ≡ and_then (and_then r (λ dots m. and_then (reader m) (λ y z. Ok ((dots, y), z)))) (λ x z. Ok (make x, z))
  same_cascade (Ok x) = ap (end_of x.0) (same_parts selectors_assign section_half W no_assign (λ y fits on. apart_none (these s.GreaterEqual)) x.1)
  same_cascade (Err x) = refl

  pub cascade_laws : OpenLaws (cascade_over inner) section_tokens Of (g.cascade_over nodes).front (these s.DotDot) after_cascade half_cascade
  unfolding cascade_over
  cascade_laws = record {
    Fits = Made_of;
    none_in = none_in;
    none_out = none_out;
    some_out = some_out;
    laws = reread (refront (made_laws (both_laws (sign_reads s.DotDot) part_laws (λ place fits. apart_none _)) make (open_spelling section_tokens) (after_open after_cascade half_cascade) made_said made_on) out into) (λ ts. same_cascade (sign s.DotDot ts));
  }

  -- ---- a `>` behind a part is given as a half, or stopped before, as behind what is assigned in it

  omitted_stops : (dots : Place) (x : Selectors) (b : Bool) → selectors_assign x ≡ b → Section x → Settled cascade_laws (dots, (x, t.omitted))
  unfolding cascade_laws cascades_take cascades_alone
  omitted_stops dots x true on fits = inl (λ g. ((dots, ((x, Some g), None)), (tt, (halves x g fits on, refl)), refl))
  omitted_stops dots x false off fits = stops_before cascade_laws (dots, (x, t.omitted)) (tt, inl (fits, refl)) (ap (λ (b : Bool). has (taken (λ next opens. cascades_take next opens question (one_cascade (dots, (x, t.omitted)))) ++ given b assigned_codes) (sign_code s.Greater)) off)

  module _ (asks : Expr → Bool) (settled : (e : Expr) → nodes.without.Fits e → asks e ≡ true → Settled W e) where
    abbrev SharpAfter : Place × (Open Selectors × Option Assigned) → List ℕ
    SharpAfter p = after_followed_by (after_open after_half no_codes) (λ (x : Open Selectors). selectors_assign x.0) (λ (x : Open Selectors). assign_codes x.1) (λ x y. after_open (sharp W asks settled) half_without y.1) p.1

    sharp_part : Laws class_of (both (sign s.DotDot) reader) (both_spelling (sign_tokens s.DotDot) spelled) (BothFit Anything Part) (dotted said_front) (these s.DotDot) SharpAfter false
    sharp_part = both_laws (sign_reads s.DotDot) (parts_laws selectors_assign section_half (refined_open W asks settled) no_assign (λ x fits on. apart_none (these s.GreaterEqual)) halves) (λ place fits. apart_none _)

    value_part : (x : Selectors) (operator : Operator) (e : Expr) (k : Option Place) → Section x → selectors_assign x ≡ true → g.assigning.Fits operator → W.Fits (e, k) → (h : Option Place) × Part ((x, h), Some (operator, (e, k)))
    value_part x operator e k fits on (inl known) value = (None, (section_half.none_in x fits, (on, (known, value))))
    value_part x operator e k fits on (inr ((first, second), there, made)) value = (Some first, (halves x first fits on, (on, ((second, tt, made), value))))

    value_stays : (dots : Place) (x : Selectors) (h : Option Place) (operator : Operator) (e : Expr) → Part ((x, h), Some (operator, (e, None))) → asks e ≡ true → reads_half W e ≡ false → (place : Place) (ts : List Token) →
        cascade_over inner (open_spelling section_tokens ((dots, (x, t.given (Some operator) e)), None) ++ sign_at place s.Greater ∷ ts) ≡ Ok (((dots, (x, t.given (Some operator) e)), None), sign_at place s.Greater ∷ ts)
    unfolding cascade_over class_of
    value_stays dots x h operator e known asked none place ts =
        let p : Place × (Open Selectors × Option Assigned) = (dots, ((x, h), Some (operator, (e, None)))) in
        let rest : List Token = sign_at place s.Greater ∷ ts in
        ap (λ (m : List Token). cascade_over inner (m ++ rest)) (made_said (dots, ((x, h), Some (operator, (e, None)))) (tt, known))
        ∙ same_cascade (sign s.DotDot (both_spelling (sign_tokens s.DotDot) spelled p ++ rest))
        ∙ ap (λ (r : Outcome Token (Place × (Open Selectors × Option Assigned))). and_then r (λ y z. Ok (make y, z))) (sharp_part.complete p rest (tt, known) (sharp_stops W asks settled e asked none))

    value_settled : (dots : Place) (x : Selectors) (operator : Operator) (e : Expr) → Section x → selectors_assign x ≡ true → g.assigning.Fits operator → nodes.without.Fits e → asks e ≡ true → Settled cascade_laws (dots, (x, t.given (Some operator) e))
    unfolding cascade_laws
    value_settled dots x operator e fits on known value asked = by_half (reads_half W e) refl where
      by_half : (b : Bool) → reads_half W e ≡ b → Settled cascade_laws (dots, (x, t.given (Some operator) e))
      by_half true is = inl (λ g. let p = value_part x operator e (Some g) fits on known (half_read W e (settled e value asked) is g) in ((dots, ((x, p.0), Some (operator, (e, Some g)))), (tt, p.1), refl))
      by_half false is = inr (λ g ts. let p = value_part x operator e None fits on known (W.none_in e value) in value_stays dots x p.0 operator e p.1 asked is g ts)

    pub cascade_settled : (dots : Place) (x : Selectors) (v : Value) → Of (dots, (x, v)) → ((operator : Operator) (e : Expr) → v ≡ t.given (Some operator) e → asks e ≡ true) → Settled cascade_laws (dots, (x, v))
    cascade_settled dots x v (at, inl (fits, is)) asked = subst (λ (y : Value). Settled cascade_laws (dots, (x, y))) (sym is) (omitted_stops dots x (selectors_assign x) refl fits)
    cascade_settled dots x v (at, inr ((fits, on), ((operator, e), (known, value), is))) asked = subst (λ (y : Value). Settled cascade_laws (dots, (x, y))) is (value_settled dots x operator e fits on known value (asked operator e (sym is)))
