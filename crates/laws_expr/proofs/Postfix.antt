-- The law of the reader of postfix expressions (ECMA-408, 16.31 Postfix Expressions), over that of primaries with selectors behind them.
use Rattle.std.proofs.Common.{◌≡◌, ℕ, ◌<◌, true, false, List, [], ◌++◌, Option, None, Some, inl, inr, refl, ap, sym, ◌∙◌, subst, append_assoc, flat_map, Bool, Ok, ◌∷◌, ◌&&◌}
use Rattle.std.proofs.lemmas.List.{append-nil}
use Rattle.dart_base.specs.declared.place.Place.{Place}
use Rattle.dart_token.specs.declared.token.Token.{Token}
use Rattle.dart_token.specs.declared.sign.Sign.TheVariants as s
use Rattle.dart_tree.specs.declared.operator.Operator.{Operator}
use Rattle.dart_tree.specs.declared.expression.Atom.TheVariants as a
use Rattle.dart_tree.specs.LeafTokens.{sign_at, operator_tokens}
use Rattle.dart_tree.specs.Depth.{primary_height}
use Rattle.dart_tree.specs.Tree as t
use Rattle.dart_tree.specs.Tree.{Operand, Primary, Selector}
use Rattle.dart_tree.specs.Tokens.{operand_tokens, primary_tokens, selector_tokens, selectors_tokens}
use Rattle.grammar_laws.specs.Codes.{has, Apart, Within, nowhere, given, after_followed}
use Rattle.grammar_laws.specs.Readers.{Reader, followed, Outcome, and_then, when, starts}
use Rattle.grammar_laws.specs.Depth.{is_below}
use Rattle.grammar_laws.specs.Fronts.{Front, Joint, Either, EitherFit, BothFit, GoesOn, FollowedFit, Made, both_spelling, joined_spelling}
use Rattle.grammar_laws.specs.Laws.{Laws}
use Rattle.grammar_laws.proofs.Codes.{apart, apart_none, apart_union, and_both, and_true, clash, within_none, within_then, within_union, within_given, within_self, within_left, within_right, and_false}
use Rattle.grammar_laws.proofs.Depth.{below_is, is_below_by}
use Rattle.grammar_laws.proofs.Restated.{made_laws, refront}
use Rattle.grammar_laws.proofs.Followed.{followed_laws}
use Rattle.dart_syntax.specs.Leaves as l
use Rattle.dart_syntax.specs.Edges.{operand_takes}
use Rattle.dart_syntax.specs.Expressions as g
use Rattle.dart_syntax.specs.Expressions.{one_or_more_selectors, to_selectors, primary_assigns, selectors_assign, ends_in_target}
use Rattle.dart_syntax.proofs.AgreeingExpressions.{said_selectors}
use Rattle.token_codes.specs.Codes.{class_of, sign_code}
use Rattle.token_codes.specs.Leaves.{one_of}
use Rattle.token_codes.proofs.Leaves.{Distinct, one_of_reads}
use Rattle.syntax_readers.specs.Combinators.{Open}
use Rattle.syntax_readers.specs.Levels.{assigns, step_signs, steps_behind, stepped, postfix}
use Rattle.laws_expr.specs.Nexts.{nexts, taken, stepping, operand_alone, primary_alone, after_operand}
use Rattle.laws_expr.proofs.Open.{OpenLaws, open_spelling, half_tokens, after_open, bare, tree, no_some, tree_fits, Settled, stops_before}
use Rattle.laws_expr.proofs.Edges.{apart_all}
use Rattle.laws_expr.proofs.Chain.{half_operand}
use Rattle.laws_expr.proofs.Selected.{alone_super, after_selected, selected_on}
use Rattle.laws_expr.proofs.Sets.{given_on}

-- ---- what goes on behind what may be stepped

target_apart : (x : Operand) → assigns x ≡ true → Apart (after_selected x) stepping
unfolding primary_alone
target_apart (t.primary (t.atom (a.Name name))) e = apart_union (apart_all nexts stepping (λ next opens. operand_takes next opens 12 (t.primary (t.atom (a.Name name)))) refl) (apart_none stepping)
target_apart (t.primary (t.super_access word k)) e = apart_union (apart_all nexts stepping (λ next opens. operand_takes next opens 12 (t.primary (t.super_access word k))) refl) (apart_none stepping)
target_apart (t.postfix x behind None) e = apart_all nexts stepping (λ next opens. operand_takes next opens 12 (t.postfix x behind None)) refl
target_apart x e = absurd cc

-- no `>` stands behind it
pub target_closed : (x : Operand) → assigns x ≡ true → has (after_selected x) (sign_code s.Greater) ≡ false
unfolding primary_alone operand_takes
target_closed (t.primary (t.atom (a.Name name))) e = refl
target_closed (t.primary (t.super_access word k)) e = refl
target_closed (t.postfix x behind None) e = refl
target_closed x e = absurd cc

steps_in : (x : Operand) → assigns x ≡ true → Within stepping (operand_alone x)
unfolding operand_alone
steps_in (t.primary (t.atom (a.Name name))) e = within_left stepping []
steps_in (t.primary (t.super_access word k)) e = within_then (given_on (g.assigns k) stepping e) (within_left (given (g.assigns k) stepping) [])
steps_in (t.postfix x behind None) e = given_on (selectors_assign behind) stepping e
steps_in x e = absurd cc

no_super : (x : Primary) → primary_assigns x ≡ true → alone_super x ≡ false
no_super (t.bare_super word) e = absurd cc
no_super (t.super_access word k) e = refl
no_super (t.atom x) e = refl
no_super x e = absurd cc

steps_assigns : (n : ℕ) (x : Operand) (h : Option Place) → steps_behind n (x, h) ≡ true → assigns x ≡ true
steps_assigns n (t.primary x) h e = (and_both (primary_assigns x) (is_below primary_height n x) e).0
steps_assigns n (t.postfix x behind None) h e = e
steps_assigns n x h e = absurd cc

distinct_steps : Distinct step_signs
distinct_steps = (apart refl, (apart refl, tt))

abbrev pub chosen : Primary × (Selector × List Selector) → Operand
chosen x = t.postfix x.0 (one_or_more_selectors x.1) None

abbrev selected_tokens : Primary × (Selector × List Selector) → List Token
selected_tokens = both_spelling primary_tokens (both_spelling selector_tokens (flat_map selector_tokens))

chosen_said : (x : Primary) (k : Selector) (more : List Selector) → operand_tokens (chosen (x, (k, more))) ≡ selected_tokens (x, (k, more))
unfolding operand_tokens selectors_tokens
chosen_said x k more = ap (λ (m : List Token). primary_tokens x ++ m) (append-nil (selector_tokens k ++ selectors_tokens (to_selectors more)) ∙ ap (λ (m : List Token). selector_tokens k ++ m) (said_selectors more))

-- ---- the expression

module _ (n : ℕ) {read : Reader Token (Open Operand)} {P D : Primary → Type 0} {pfront dfront sel_front : Front Token} {pfirst : List ℕ} {SelectedFits : Primary × (Selector × List Selector) → Type 0}
    (S : OpenLaws read operand_tokens (EitherFit (Made t.primary P) (Made chosen SelectedFits)) (Either pfront sel_front) pfirst after_selected (half_operand 12))
    (down : (x : Primary) → P x → alone_super x ≡ false → primary_height x < n → D x) (up : (x : Primary) → D x → P x × ((alone_super x ≡ false) × (primary_height x < n))) (rise : (ts : List Token) → dfront ts → pfront ts) where
  abbrev Steps : Operator → Type 0
  Steps = (l.one_of step_signs).Fits

  abbrev steps_front : Front Token
  steps_front = (l.one_of step_signs).front

  abbrev SFit : Operand → Type 0
  SFit = EitherFit (Made t.primary P) (Made chosen SelectedFits)

  -- an operator behind a name or behind a selector of `super`, and behind selectors
  abbrev pub Short : Operand → Type 0
  Short = Made (λ (x : Primary × Operator). t.postfix x.0 t.no_selectors (Some x.1)) (BothFit (GoesOn D primary_assigns) Steps)

  abbrev pub Long : Operand → Type 0
  Long = Made (λ (x : (Primary × (Selector × List Selector)) × Operator). t.postfix x.0.0 (one_or_more_selectors x.0.1) (Some x.1)) (BothFit (GoesOn SelectedFits ends_in_target) Steps)

  abbrev pub Of : Operand → Type 0
  Of = EitherFit (Made t.primary P) (EitherFit (Made chosen SelectedFits) (EitherFit Short Long))

  abbrev pub of_front : Front Token
  of_front = Either pfront (Either sel_front (Either (Joint primary_tokens D primary_assigns dfront steps_front) (Joint selected_tokens SelectedFits ends_in_target sel_front steps_front)))

  -- what may be stepped is read without a half
  no_half : {X : Type 0} (x : Operand) (h : Place) → S.Fits (x, Some h) → assigns x ≡ true → X
  unfolding class_of
  no_half x h fits on =
      let front : Either pfront sel_front ((operand_tokens x ++ []) ++ half_tokens h) = subst (Either pfront sel_front) (ap (λ (m : List Token). m ++ half_tokens h) (sym (append-nil (operand_tokens x)))) (S.laws.whole (x, Some h) fits) in
      clash (has (after_selected x) (sign_code s.Greater)) (S.laws.nexts (x, None) (sign_at h s.Greater) [] (S.none_in x (S.some_out x h fits)) front) (target_closed x on)

  steps_apart : (x : Open Operand) → S.Fits x → steps_behind n x ≡ true → Apart (after_open after_selected (half_operand 12) x) stepping
  steps_apart (x, None) fits on = target_apart x (steps_assigns n x None on)
  steps_apart (x, Some h) fits on = no_half_apart x h fits on where
    no_half_apart : (x : Operand) (h : Place) → S.Fits (x, Some h) → steps_behind n (x, Some h) ≡ true → Apart (half_operand 12 x) stepping
    no_half_apart x h fits on = no_half x h fits (steps_assigns n x (Some h) on)

  abbrev PartsFit : Open Operand × Option Operator → Type 0
  PartsFit = FollowedFit S.Fits (steps_behind n) Steps

  parts_laws : Laws class_of (followed class_of (steps_behind n) stepping read (one_of step_signs)) (joined_spelling (open_spelling operand_tokens) operator_tokens) PartsFit (Joint (open_spelling operand_tokens) S.Fits (steps_behind n) (Either pfront sel_front) steps_front) pfirst (after_followed (after_open after_selected (half_operand 12)) (steps_behind n) stepping nowhere) false
  parts_laws = followed_laws S.laws (one_of_reads step_signs distinct_steps) (steps_behind n) steps_apart

  widen : (x : Operand) → SFit x → Of x
  widen x (inl fits) = inl fits
  widen x (inr fits) = inr (inl fits)

  node_of : (x : Operand) (h : Option Place) (o : Operator) → SFit x → steps_behind n (x, h) ≡ true → Steps o → Of (stepped ((x, h), Some o)).0
  node_of x h o (inl (p, fits, is)) on known = subst (λ (y : Operand). steps_behind n (y, h) ≡ true → Of (stepped ((y, h), Some o)).0) is short on where
    short : steps_behind n (t.primary p, h) ≡ true → Of (stepped ((t.primary p, h), Some o)).0
    short on = let w = and_both (primary_assigns p) (is_below primary_height n p) on in inr (inr (inl ((p, o), ((down p fits (no_super p w.0) (below_is primary_height n p w.1), w.0), known), refl)))
  node_of x h o (inr ((p, (k, more)), fits, is)) on known = subst (λ (y : Operand). steps_behind n (y, h) ≡ true → Of (stepped ((y, h), Some o)).0) is long on where
    long : steps_behind n (chosen (p, (k, more)), h) ≡ true → Of (stepped ((chosen (p, (k, more)), h), Some o)).0
    long on = inr (inr (inr (((p, (k, more)), o), ((fits, on), known), refl)))

  none_in : (z : Operand) → Of z → Made stepped PartsFit (z, None)
  none_in z (inl fits) = (((z, None), None), (S.none_in z (inl fits), tt), refl)
  none_in z (inr (inl fits)) = (((z, None), None), (S.none_in z (inr fits), tt), refl)
  none_in z (inr (inr (inl ((p, o), ((d, on), known), is)))) =
      let u = up p d in
      (((t.primary p, None), Some o), (S.none_in (t.primary p) (inl (p, u.0, refl)), (and_true (primary_assigns p) (is_below primary_height n p) on (is_below_by primary_height n p u.1.1), known)), ap bare is)
  none_in z (inr (inr (inr (((p, (k, more)), o), ((fits, on), known), is)))) = (((chosen (p, (k, more)), None), Some o), (S.none_in (chosen (p, (k, more))) (inr ((p, (k, more)), fits, refl)), (on, known)), ap bare is)

  none_out : (z : Operand) → Made stepped PartsFit (z, None) → Of z
  none_out z (((x, None), None), fits, e) = subst Of (ap tree e) (widen x (S.none_out x fits.0))
  none_out z (((x, Some h), None), fits, e) = no_some (x, Some h) (z, None) e refl refl
  none_out z (((x, h), Some o), fits, e) = subst Of (ap tree e) (node_of x h o (tree_fits S (x, h) fits.0) fits.1.0 fits.1.1)

  some_out : (z : Operand) (h : Place) → Made stepped PartsFit (z, Some h) → Of z
  some_out z h (((x, None), None), fits, e) = no_some (z, Some h) (x, None) (sym e) refl refl
  some_out z h (((x, Some other), None), fits, e) = subst Of (ap tree e) (widen x (S.some_out x other fits.0))
  some_out z h (((x, k), Some o), fits, e) = subst Of (ap tree e) (node_of x k o (tree_fits S (x, k) fits.0) fits.1.0 fits.1.1)

  -- ---- tokens, and what goes on

  step_said : (x : Operand) (o : Operator) → SFit x → open_spelling operand_tokens (stepped ((x, None), Some o)) ≡ (operand_tokens x ++ []) ++ operator_tokens o
  unfolding operand_tokens selectors_tokens
  step_said x o (inl (p, fits, is)) = subst (λ (y : Operand). open_spelling operand_tokens (stepped ((y, None), Some o)) ≡ (operand_tokens y ++ []) ++ operator_tokens o) is short where
    short : (primary_tokens p ++ ([] ++ operator_tokens o)) ++ [] ≡ (primary_tokens p ++ []) ++ operator_tokens o
    short = simp (append_assoc, append-nil)
  step_said x o (inr ((p, (k, more)), fits, is)) = subst (λ (y : Operand). open_spelling operand_tokens (stepped ((y, None), Some o)) ≡ (operand_tokens y ++ []) ++ operator_tokens o) is (long (selectors_tokens (one_or_more_selectors (k, more)))) where
    long : (m : List Token) → (primary_tokens p ++ (m ++ operator_tokens o)) ++ [] ≡ ((primary_tokens p ++ (m ++ [])) ++ []) ++ operator_tokens o
    long m = simp (append_assoc, append-nil)

  parts_said : (p : Open Operand × Option Operator) → PartsFit p → open_spelling operand_tokens (stepped p) ≡ joined_spelling (open_spelling operand_tokens) operator_tokens p
  parts_said (x, None) fits = sym (append-nil (open_spelling operand_tokens x))
  parts_said ((x, None), Some o) fits = step_said x o (S.none_out x fits.0)
  parts_said ((x, Some h), Some o) fits = no_half x h fits.0 (steps_assigns n x (Some h) fits.1.0)

  abbrev after : Open Operand → List ℕ
  after = after_open (after_operand 12) (half_operand 12)

  parts_on : (p : Open Operand × Option Operator) → PartsFit p → Within (after_followed (after_open after_selected (half_operand 12)) (steps_behind n) stepping nowhere p) (after (stepped p))
  parts_on ((x, None), None) fits = within_union (selected_on x) (within_given (steps_behind n (x, None)) (λ e. within_then (steps_in x (steps_assigns n x None e)) (within_right (taken (λ next opens. operand_takes next opens 12 x)) (operand_alone x))))
  parts_on ((x, Some h), None) fits = within_union (within_self (half_operand 12 x)) (within_given (steps_behind n (x, Some h)) (λ e. no_half x h fits.0 (steps_assigns n x (Some h) e)))
  parts_on ((x, h), Some o) fits = within_none (after (stepped ((x, h), Some o)))

  -- ---- the fronts

  first_out : (ts : List Token) → Either pfront sel_front ts → of_front ts
  first_out ts (inl f) = inl f
  first_out ts (inr f) = inr (inl f)

  step_out : (x : Operand) (h : Option Place) (ts more : List Token) → SFit x → steps_behind n (x, h) ≡ true → ts ≡ operand_tokens x ++ more → steps_front more → of_front ts
  unfolding operand_tokens
  step_out x h ts more (inl (p, fits, is)) on e f = short (subst (λ (y : Operand). steps_behind n (y, h) ≡ true) (sym is) on) (e ∙ ap (λ (y : Operand). operand_tokens y ++ more) (sym is)) where
    short : steps_behind n (t.primary p, h) ≡ true → ts ≡ primary_tokens p ++ more → of_front ts
    short on e = let w = and_both (primary_assigns p) (is_below primary_height n p) on in inr (inr (inl (inr (p, more, down p fits (no_super p w.0) (below_is primary_height n p w.1), w.0, e, f))))
  step_out x h ts more (inr ((p, (k, rest)), fits, is)) on e f = long (subst (λ (y : Operand). steps_behind n (y, h) ≡ true) (sym is) on) (e ∙ ap (λ (y : Operand). operand_tokens y ++ more) (sym is) ∙ ap (λ (m : List Token). m ++ more) (chosen_said p k rest)) where
    long : steps_behind n (chosen (p, (k, rest)), h) ≡ true → ts ≡ selected_tokens (p, (k, rest)) ++ more → of_front ts
    long on e = inr (inr (inr (inr ((p, (k, rest)), more, fits, on, e, f))))

  abbrev PartsFront : Front Token
  PartsFront = Joint (open_spelling operand_tokens) S.Fits (steps_behind n) (Either pfront sel_front) steps_front

  out : (ts : List Token) → PartsFront ts → of_front ts
  out ts (inl f) = first_out ts f
  out ts (inr ((x, None), more, fits, on, e, f)) = step_out x None ts more (S.none_out x fits) on (e ∙ ap (λ (m : List Token). m ++ more) (append-nil (operand_tokens x))) f
  out ts (inr ((x, Some h), more, fits, on, e, f)) = no_half x h fits (steps_assigns n x (Some h) on)

  into : (ts : List Token) → of_front ts → PartsFront ts
  unfolding operand_tokens
  into ts (inl f) = inl (inl f)
  into ts (inr (inl f)) = inl (inr f)
  into ts (inr (inr (inl (inl f)))) = inl (inl (rise ts f))
  into ts (inr (inr (inl (inr (p, more, d, on, e, f))))) =
      let u = up p d in
      inr ((t.primary p, None), more, S.none_in (t.primary p) (inl (p, u.0, refl)), and_true (primary_assigns p) (is_below primary_height n p) on (is_below_by primary_height n p u.1.1), e ∙ ap (λ (m : List Token). m ++ more) (sym (append-nil (primary_tokens p))), f)
  into ts (inr (inr (inr (inl f)))) = inl (inr f)
  into ts (inr (inr (inr (inr ((p, (k, rest)), more, fits, on, e, f))))) =
      inr ((chosen (p, (k, rest)), None), more, S.none_in (chosen (p, (k, rest))) (inr ((p, (k, rest)), fits, refl)), on, e ∙ ap (λ (m : List Token). m ++ more) (sym (chosen_said p k rest) ∙ sym (append-nil (operand_tokens (chosen (p, (k, rest)))))), f)

  pub postfix_laws : OpenLaws (postfix n read) operand_tokens Of of_front pfirst (after_operand 12) (half_operand 12)
  unfolding postfix
  postfix_laws = record {
    Fits = Made stepped PartsFit;
    none_in = none_in;
    none_out = none_out;
    some_out = some_out;
    laws = refront (made_laws parts_laws stepped (open_spelling operand_tokens) (after_open (after_operand 12) (half_operand 12)) parts_said parts_on) out into;
  }

  -- ---- a `>` behind it is given as a half, or stopped before, as behind what stands before the operator, and stopped before behind the operator

  abbrev stopped : Operand → Bool → List Token → Outcome Token (Open Operand)
  stopped x c mid = and_then (and_then (when c (one_of step_signs) mid) (λ o z. Ok (((x, None), o), z))) (λ y z. Ok (stepped y, z))

  pub unstepped_settled : (x : Operand) → SFit x → Settled S x → Settled postfix_laws x
  unfolding postfix postfix_laws class_of
  unstepped_settled x fits (inl known) = inl (λ g. (((x, Some g), None), (known g, tt), refl))
  unstepped_settled x fits (inr stays) = inr (λ g ts.
      ap (λ (o : Outcome Token (Open Operand)). and_then (and_then o (λ a mid. and_then (when (steps_behind n a && starts class_of stepping mid) (one_of step_signs) mid) (λ b z. Ok ((a, b), z)))) (λ y z. Ok (stepped y, z))) (stays g ts)
      ∙ ap (λ (c : Bool). stopped x c (sign_at g s.Greater ∷ ts)) (and_false (steps_behind n (x, None)) false refl))

  short_closed : (x : Operand) → Short x → has (after_operand 12 x) (sign_code s.Greater) ≡ false
  unfolding operand_takes operand_alone
  short_closed x (parts, fits, is) = subst (λ (y : Operand). has (after_operand 12 y) (sign_code s.Greater) ≡ false) is refl

  long_closed : (x : Operand) → Long x → has (after_operand 12 x) (sign_code s.Greater) ≡ false
  unfolding operand_takes operand_alone
  long_closed x (parts, fits, is) = subst (λ (y : Operand). has (after_operand 12 y) (sign_code s.Greater) ≡ false) is refl

  pub stepped_settled : (x : Operand) → EitherFit Short Long x → Settled postfix_laws x
  stepped_settled x (inl fits) = stops_before postfix_laws x (inr (inr (inl fits))) (short_closed x fits)
  stepped_settled x (inr fits) = stops_before postfix_laws x (inr (inr (inr fits))) (long_closed x fits)
