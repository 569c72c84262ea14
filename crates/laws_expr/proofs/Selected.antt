-- The laws of the readers of primaries with selectors behind them, and of targets (ECMA-408, 16.14 to 16.18, 16.32 Assignable Expressions).
use Rattle.std.proofs.Common.{◌≡◌, ℕ, ◌<◌, Bool, true, false, if◌then◌else◌, not, List, [], ◌∷◌, ◌++◌, Option, None, Some, Ok, Err, ◌⊎◌, inl, inr, refl, ap, sym, ◌∙◌, subst, append_assoc, flat_map, arith}
use Rattle.std.proofs.lemmas.List.{append-nil}
use Rattle.std.specs.List.{AllByRecursion}
use Rattle.dart_base.specs.declared.place.Place.{Place}
use Rattle.dart_token.specs.declared.token.Token.{Token}
use Rattle.dart_token.specs.declared.sign.Sign.TheVariants as s
use Rattle.dart_token.specs.declared.word.Word.TheVariants as w
use Rattle.dart_tree.specs.LeafTokens.{word_at, sign_at}
use Rattle.dart_tree.specs.Depth.{primary_height}
use Rattle.dart_tree.specs.Types.{TypeNode}
use Rattle.dart_tree.specs.Tree as t
use Rattle.dart_tree.specs.Tree.{Operand, Primary, Selector}
use Rattle.dart_tree.specs.Tokens.{operand_tokens, primary_tokens, selector_tokens, selectors_tokens}
use Rattle.grammar_laws.specs.Codes.{has, Apart, Within, given, is_empty, after_followed_by}
use Rattle.grammar_laws.specs.Readers.{Outcome, Reader, and_then, always, never, starts, when, nothing, continued_by}
use Rattle.grammar_laws.specs.Depth.{is_below}
use Rattle.grammar_laws.specs.Fronts.{Front, Joint, JointBy, Several, Either, EitherFit, BothFit, GoesOn, GoodFit, ContinuedFitBy, Made, joined_spelling}
use Rattle.grammar_laws.specs.Laws.{Laws}
use Rattle.grammar_laws.proofs.Codes.{apart, apart_none, apart_smaller, apart_union, not_true, has_cases, inside, only_code, within_none, within_then, within_union, within_given, within_self, within_left, within_right, given_has}
use Rattle.grammar_laws.proofs.Depth.{below_is, is_below_by}
use Rattle.grammar_laws.proofs.Joints.{begins, stops_within}
use Rattle.grammar_laws.proofs.Restated.{made_laws, refront, reread}
use Rattle.grammar_laws.proofs.Continued.{continued_by_laws}
use Rattle.grammar_laws.proofs.Tried.{stops_nowhere}
use Rattle.dart_syntax.specs.Edges.{selects, nowhere, opens_dot, opens_nothing, operand_takes, primary_leaves}
use Rattle.dart_syntax.specs.Expressions as g
use Rattle.dart_syntax.specs.Expressions.{one_or_more_selectors, to_selectors, primary_assigns, ends_in_target}
use Rattle.dart_syntax.proofs.AgreeingExpressions.{said_selectors}
use Rattle.token_codes.specs.Codes.{class_of, sign_code, these}
use Rattle.syntax_readers.specs.Combinators.{Open}
use Rattle.syntax_readers.specs.Primaries.{ExprReaders, selector_first, selectors}
use Rattle.syntax_readers.specs.Levels as r
use Rattle.syntax_readers.specs.Levels.{assigns, selected_of, selected, target}
use Rattle.laws_expr.specs.Nexts.{Taking, nexts, taken, stepping, operand_alone, primary_alone, after_primary, after_operand}
use Rattle.laws_expr.proofs.Begun.{front_starts, either_map}
use Rattle.laws_expr.proofs.Known.{ClosedRead}
use Rattle.laws_expr.proofs.Open.{OpenLaws, open_spelling, after_open, bare, tree, no_some, open_checked_laws, open_restated, open_wider, tree_fits, Settled, stops_before, checked_settled, restated_settled, wider_settled}
use Rattle.laws_expr.proofs.Edges.{apart_but, within_at, taken_moves, operand_moves}
use Rattle.laws_expr.proofs.Chain.{half_operand, half_moves}
use Rattle.laws_expr.proofs.Functions.{half_primary}
use Rattle.laws_expr.proofs.Throwing.{half_third}
use Rattle.laws_expr.proofs.Guarded.{guarded, GuardedFit, guarded_front, guarded_laws}
use Rattle.laws_expr.proofs.Selecting.{primary_unselected}
use Rattle.laws_expr.proofs.Selectors.{member_laws, bracketed_laws, selectors_laws}
use Rattle.laws_expr.proofs.Sets.{swap, apart_when, not_false}

-- ---- `super` alone

abbrev pub alone_super : Primary → Bool
alone_super (t.bare_super word) = true
alone_super x = false

not_alone : (x : Primary) → alone_super x ≡ false → (word : Place) → x ≡ t.bare_super word → ⊥
not_alone x plain word is = let bad : false ≡ true = sym plain ∙ ap alone_super is in absurd cc

-- ---- what goes on behind a primary, and what selectors stand behind it

no_dot : (x : Primary) → alone_super x ≡ false → primary_leaves opens_dot x ≡ true → Apart (after_primary x) (these s.Dot)
no_dot x plain left =
    let off = not_false (operand_takes selects opens_dot nowhere (t.primary x)) left in
    apart_union (apart_but 13 nexts (these s.Dot) (λ next opens. operand_takes next opens nowhere (t.primary x)) refl off) (apart_smaller (primary_unselected opens_dot x off (not_alone x plain)) (apart refl))

abbrev bracket_codes : List ℕ
bracket_codes = sign_code s.LeftBracket ∷ sign_code s.LeftParenthesis ∷ []

no_bracket : (x : Primary) → alone_super x ≡ false → primary_leaves opens_nothing x ≡ true → Apart (after_primary x) bracket_codes
no_bracket x plain left =
    let off = not_false (operand_takes selects opens_nothing nowhere (t.primary x)) left in
    apart_union (apart_but 14 nexts bracket_codes (λ next opens. operand_takes next opens nowhere (t.primary x)) refl off) (apart_smaller (primary_unselected opens_nothing x off (not_alone x plain)) (apart refl))

primary_takes : (opens : TypeNode → Bool) (x : Primary) → operand_takes selects opens 12 (t.primary x) ≡ true
unfolding operand_takes
primary_takes opens (t.function_literal parameters (t.arrow_body arrow value semicolon)) = refl
primary_takes opens (t.function_literal parameters (t.block_body block)) = refl
primary_takes opens (t.function_literal parameters (t.no_body semicolon)) = refl
primary_takes opens (t.super_access word x) = refl
primary_takes opens (t.bare_super word) = refl
primary_takes opens (t.atom x) = refl
primary_takes opens (t.text x) = refl
primary_takes opens (t.list_literal types opening _ comma closing) = refl
primary_takes opens (t.map_literal types opening _ comma closing) = refl
primary_takes opens (t.new_object creation of constructor arguments) = refl
primary_takes opens (t.parenthesized opening value closing) = refl

-- what goes on behind a primary with selectors or without, but `++` and `--`
abbrev pub after_selected : Operand → List ℕ
after_selected (t.primary x) = taken (λ next opens. operand_takes next opens 12 (t.primary x)) ++ primary_alone x
after_selected x = taken (λ next opens. operand_takes next opens 12 x)

-- a primary as an operand
pub primary_on : (x : Primary) → Within (after_primary x) (after_selected (t.primary x))
primary_on x =
    let takes : Taking = λ next opens. operand_takes next opens 12 (t.primary x) in
    within_union (within_then (taken_moves nexts (λ next opens. operand_takes next opens nowhere (t.primary x)) takes (λ n opens h. operand_moves n opens (t.primary x) nowhere 12 (inl (omega arith)) h)) (within_left (taken takes) (primary_alone x)))
    (within_right (taken takes) (primary_alone x))

pub selected_on : (x : Operand) → Within (after_selected x) (after_operand 12 x)
unfolding operand_alone
selected_on (t.primary x) =
    let takes : Taking = λ next opens. operand_takes next opens 12 (t.primary x) in
    let own : List ℕ = given (primary_assigns x) stepping ++ primary_alone x in
    within_union (within_left (taken takes) own) (within_then (within_right (given (primary_assigns x) stepping) (primary_alone x)) (within_right (taken takes) own))
selected_on (t.postfix x behind operator) = within_left (taken (λ next opens. operand_takes next opens 12 (t.postfix x behind operator))) (operand_alone (t.postfix x behind operator))
selected_on (t.conditional condition mark first colon second) = within_left (taken (λ next opens. operand_takes next opens 12 (t.conditional condition mark first colon second))) (operand_alone (t.conditional condition mark first colon second))
selected_on (t.binary first more) = within_left (taken (λ next opens. operand_takes next opens 12 (t.binary first more))) (operand_alone (t.binary first more))
selected_on (t.is_type x word bang of) = within_left (taken (λ next opens. operand_takes next opens 12 (t.is_type x word bang of))) (operand_alone (t.is_type x word bang of))
selected_on (t.as_type x word of) = within_left (taken (λ next opens. operand_takes next opens 12 (t.as_type x word of))) (operand_alone (t.as_type x word of))
selected_on (t.prefix operator x) = within_left (taken (λ next opens. operand_takes next opens 12 (t.prefix operator x))) (operand_alone (t.prefix operator x))

pub primary_on_half : (x : Primary) → Within (half_primary x) (half_operand 12 (t.primary x))
unfolding operand_alone
primary_on_half x =
    let takes : Taking = λ next opens. operand_takes next opens 12 (t.primary x) in
    let own : List ℕ = given (primary_assigns x) stepping ++ primary_alone x in
    within_then (half_moves (λ next opens. operand_takes next opens nowhere (t.primary x)) takes (primary_alone x) (λ n opens h. operand_moves n opens (t.primary x) nowhere 12 (inl (omega arith)) h))
    (half_third takes true true (primary_alone x) own (λ h. has_after (primary_assigns x) (primary_alone x) h)) where
      has_after : (b : Bool) (xs : List ℕ) → has xs (sign_code s.Assign) ≡ true → has (given b stepping ++ xs) (sign_code s.Assign) ≡ true
      has_after true xs h = h
      has_after false xs h = h

selectors_in : (x : Operand) → ((opens : TypeNode → Bool) → operand_takes selects opens 12 x ≡ true) → Within selector_first (taken (λ next opens. operand_takes next opens 12 x))
selectors_in x on =
    let takes : Taking = λ next opens. operand_takes next opens 12 x in
    let dot : Within (these s.Dot) (taken takes) = within_at 13 nexts (these s.Dot) takes refl (on opens_dot) in
    let brackets : Within bracket_codes (taken takes) = within_at 14 nexts bracket_codes takes refl (on opens_nothing) in
    within_union dot brackets

postfix_takes : (x : Primary) (all : List Selector) (opens : TypeNode → Bool) → operand_takes selects opens 12 (t.postfix x (to_selectors all) None) ≡ true
unfolding operand_takes
postfix_takes x all opens = refl

-- ---- selectors, by the first

module _ (n : ℕ) {inner : ExprReaders} {nodes : g.ExprNodes} (N : ClosedRead inner nodes)
    {primary : Reader Token (Open Primary)} {P : Primary → Type 0} {pfront : Front Token} {pfirst : List ℕ} (Q : OpenLaws primary primary_tokens P pfront pfirst after_primary half_primary)
    {D : Primary → Type 0} {dfront : Front Token}
    (down : (x : Primary) → P x → alone_super x ≡ false → primary_height x < n → D x) (up : (x : Primary) → D x → P x × ((alone_super x ≡ false) × (primary_height x < n))) (rise : (ts : List Token) → dfront ts → pfront ts)
    (goes_on : (word : Place) (u : Token) → has selector_first (class_of u) ≡ true → pfront (word_at word w.Super ∷ u ∷ [])) where
  abbrev Kind : Selector → Type 0
  Kind = (g.selector_of nodes).Fits

  abbrev kind_front : Front Token
  kind_front = (g.selector_of nodes).front

  abbrev Dotted : Selector → Type 0
  Dotted = g.member.Fits

  abbrev Bracketed : Selector → Type 0
  Bracketed = (g.bracketed_of nodes).Fits

  -- the codes of the selectors that may follow; `super` alone would have read its own
  abbrev codes : Open Primary → List ℕ
  codes (x, Some h) = []
  codes (x, None) = given (not (alone_super x)) (r.selects n (x, None))

  abbrev room : Primary → Bool
  room x = is_below primary_height n x

  codes_apart : (x : Open Primary) → Q.Fits x → always x ≡ true → Apart (after_open after_primary half_primary x) (codes x)
  codes_apart (x, Some h) fits go = swap (apart_none (half_primary x))
  codes_apart (x, None) fits go =
      swap (apart_when (not (alone_super x)) (λ plain. apart_when (room x) (λ low. apart_union (apart_when (primary_leaves opens_dot x) (λ left. swap (no_dot x (not_false (alone_super x) plain) left))) (apart_when (primary_leaves opens_nothing x) (λ left. swap (no_bracket x (not_false (alone_super x) plain) left))))))

  abbrev All : List Selector → Type 0
  All all = (is_empty all ≡ false) × AllByRecursion Kind all

  abbrev all_spell : List Selector → List Token
  all_spell = flat_map selector_tokens

  abbrev all_front : Front Token
  all_front = Several selector_tokens Kind always kind_front

  abbrev all_laws : Laws class_of (selectors inner) all_spell All all_front selector_first (λ all. selector_first) false
  all_laws = selectors_laws N

  abbrev behind : Open Primary → Reader Token (List Selector)
  behind x = guarded all_laws (codes x)

  abbrev BehindFit : Open Primary → List Selector → Type 0
  BehindFit x = GuardedFit all_laws (codes x)

  abbrev behind_front : Open Primary → Front Token
  behind_front x = guarded_front all_laws (codes x)

  abbrev parts_reader : Reader Token (Open Primary × Option (List Selector))
  parts_reader = continued_by class_of never always codes primary behind

  abbrev PartsFit : Open Primary × Option (List Selector) → Type 0
  PartsFit = ContinuedFitBy Q.Fits never always BehindFit

  abbrev PartsFront : Front Token
  PartsFront = JointBy (open_spelling primary_tokens) Q.Fits always pfront behind_front

  abbrev after_parts : Open Primary × Option (List Selector) → List ℕ
  after_parts = after_followed_by (after_open after_primary half_primary) always codes (λ x all. selector_first)

  parts_laws : Laws class_of parts_reader (joined_spelling (open_spelling primary_tokens) all_spell) PartsFit PartsFront pfirst after_parts false
  parts_laws = continued_by_laws Q.laws (λ x fits. guarded_laws all_laws (codes x)) never always (λ x e. absurd cc) codes_apart

  -- ---- which selectors come, by a token's code

  dot_admits : (x : Primary) (h : Option Place) → has (codes (x, h)) (sign_code s.Dot) ≡ true → (h ≡ None) × ((alone_super x ≡ false) × ((room x ≡ true) × (primary_leaves opens_dot x ≡ true)))
  dot_admits x (Some h) e = absurd cc
  dot_admits x None e =
      let a = given_has (not (alone_super x)) (r.selects n (x, None)) (sign_code s.Dot) e in
      let b = given_has (room x) (given (primary_leaves opens_dot x) (these s.Dot) ++ given (primary_leaves opens_nothing x) bracket_codes) (sign_code s.Dot) a.1 in
      (refl, (not_false (alone_super x) a.0, (b.0, only_dot (primary_leaves opens_dot x) (primary_leaves opens_nothing x) b.1))) where
        only_dot : (c d : Bool) → has (given c (these s.Dot) ++ given d bracket_codes) (sign_code s.Dot) ≡ true → c ≡ true
        only_dot true d h = refl
        only_dot false true h = absurd cc
        only_dot false false h = absurd cc

  bracket_admits : (x : Primary) (h : Option Place) (code : ℕ) → has bracket_codes code ≡ true → has (codes (x, h)) code ≡ true → (h ≡ None) × ((alone_super x ≡ false) × ((room x ≡ true) × (primary_leaves opens_nothing x ≡ true)))
  bracket_admits x (Some h) code is e = absurd cc
  bracket_admits x None code is e =
      let a = given_has (not (alone_super x)) (r.selects n (x, None)) code e in
      let b = given_has (room x) (given (primary_leaves opens_dot x) (these s.Dot) ++ given (primary_leaves opens_nothing x) bracket_codes) code a.1 in
      (refl, (not_false (alone_super x) a.0, (b.0, only_bracket (primary_leaves opens_dot x) (primary_leaves opens_nothing x) b.1))) where
        off : Apart (these s.Dot) bracket_codes
        off = apart refl

        only_bracket : (c d : Bool) → has (given c (these s.Dot) ++ given d bracket_codes) code ≡ true → d ≡ true
        only_bracket c true h = refl
        only_bracket true false h = elim (has_cases (these s.Dot) [] code h) [ inl k ↦ absurd (off.never_both code k is) | inr k ↦ absurd cc ]
        only_bracket false false h = absurd cc

  admits_dot : (x : Primary) → alone_super x ≡ false → room x ≡ true → primary_leaves opens_dot x ≡ true → has (codes (x, None)) (sign_code s.Dot) ≡ true
  admits_dot x plain low left = chosen (alone_super x) (room x) (primary_leaves opens_dot x) (primary_leaves opens_nothing x) plain low left where
    chosen : (a b c d : Bool) → a ≡ false → b ≡ true → c ≡ true → has (given (not a) (given b (given c (these s.Dot) ++ given d bracket_codes))) (sign_code s.Dot) ≡ true
    chosen false true true d p q u = refl
    chosen true b c d p q u = absurd cc
    chosen false false c d p q u = absurd cc
    chosen false true false d p q u = absurd cc

  admits_bracket : (x : Primary) (code : ℕ) → has bracket_codes code ≡ true → alone_super x ≡ false → room x ≡ true → primary_leaves opens_nothing x ≡ true → has (codes (x, None)) code ≡ true
  admits_bracket x code is plain low left = chosen (alone_super x) (room x) (primary_leaves opens_dot x) (primary_leaves opens_nothing x) plain low left where
    after : (c : Bool) → has (given c (these s.Dot) ++ bracket_codes) code ≡ true
    after true = (within_right (these s.Dot) bracket_codes).in_second code is
    after false = is

    chosen : (a b c d : Bool) → a ≡ false → b ≡ true → d ≡ true → has (given (not a) (given b (given c (these s.Dot) ++ given d bracket_codes))) code ≡ true
    chosen false true c true p q u = after c
    chosen true b c d p q u = absurd cc
    chosen false false c d p q u = absurd cc
    chosen false true c false p q u = absurd cc

  -- ---- which trees

  first_code : (xs : List ℕ) (m : ℕ) (ts : List Token) → starts class_of xs ts ≡ true → starts class_of (m ∷ []) ts ≡ true → has xs m ≡ true
  first_code xs m [] h k = absurd cc
  first_code xs m (u ∷ ts) h k = ap (has xs) (sym (only_code (class_of u) m k)) ∙ h

  first_of : (xs ys : List ℕ) (ts : List Token) → starts class_of xs ts ≡ true → starts class_of ys ts ≡ true → (c : ℕ) × (has xs c ≡ true) × (has ys c ≡ true)
  first_of xs ys [] h k = absurd cc
  first_of xs ys (u ∷ ts) h k = (class_of u, h, k)

  starts_by : (xs ys : List ℕ) (ts : List Token) → starts class_of ys ts ≡ true → ((c : ℕ) → has ys c ≡ true → has xs c ≡ true) → starts class_of xs ts ≡ true
  starts_by xs ys [] h k = absurd cc
  starts_by xs ys (u ∷ ts) h k = k (class_of u) h

  never_none : {X : Type 0} (ts : List Token) → starts class_of [] ts ≡ true → X
  never_none [] e = absurd cc
  never_none (u ∷ ts) e = absurd cc

  abbrev pub SelectedFits : Primary × (Selector × List Selector) → Type 0
  SelectedFits = EitherFit (BothFit (GoesOn D (primary_leaves opens_dot)) (BothFit Dotted (AllByRecursion Kind))) (BothFit (GoesOn D (primary_leaves opens_nothing)) (BothFit Bracketed (AllByRecursion Kind)))

  abbrev pub selected_front : Front Token
  selected_front = Either (Joint primary_tokens D (primary_leaves opens_dot) dfront (Joint selector_tokens Dotted always g.member.front all_front)) (Joint primary_tokens D (primary_leaves opens_nothing) dfront (Joint selector_tokens Bracketed always (g.bracketed_of nodes).front all_front))

  abbrev pub Plain : Operand → Type 0
  Plain = Made t.primary P

  abbrev pub Chosen : Operand → Type 0
  Chosen = Made (λ (x : Primary × (Selector × List Selector)). t.postfix x.0 (one_or_more_selectors x.1) None) SelectedFits

  selected_fits : (x : Primary) (h : Option Place) (k : Selector) (more : List Selector) → Q.Fits (x, h) → Kind k → AllByRecursion Kind more → starts class_of (codes (x, h)) (selector_tokens k ++ all_spell more) ≡ true → (h ≡ None) × SelectedFits (x, (k, more))
  selected_fits x h k more fits (inl d) rest on =
      let a = dot_admits x h (first_code (codes (x, h)) (sign_code s.Dot) (selector_tokens k ++ all_spell more) on (begins member_laws k (all_spell more) d)) in
      (a.0, inl ((down x (tree_fits Q (x, h) fits) a.1.0 (below_is primary_height n x a.1.1.0), a.1.1.1), (d, rest)))
  selected_fits x h k more fits (inr b) rest on =
      let c = first_of (codes (x, h)) bracket_codes (selector_tokens k ++ all_spell more) on (begins (bracketed_laws N) k (all_spell more) b) in
      let a = bracket_admits x h c.0 c.2 c.1 in
      (a.0, inr ((down x (tree_fits Q (x, h) fits) a.1.0 (below_is primary_height n x a.1.1.0), a.1.1.1), (b, rest)))

  dot_on : (x : Primary) → D x → primary_leaves opens_dot x ≡ true → (ts : List Token) → starts class_of (these s.Dot) ts ≡ true → starts class_of (codes (x, None)) ts ≡ true
  dot_on x d left ts e =
      let u = up x d in
      starts_by (codes (x, None)) (these s.Dot) ts e (λ c h. ap (has (codes (x, None))) (only_code c (sign_code s.Dot) h) ∙ admits_dot x u.1.0 (is_below_by primary_height n x u.1.1) left)

  bracket_on : (x : Primary) → D x → primary_leaves opens_nothing x ≡ true → (ts : List Token) → starts class_of bracket_codes ts ≡ true → starts class_of (codes (x, None)) ts ≡ true
  bracket_on x d left ts e =
      let u = up x d in
      starts_by (codes (x, None)) bracket_codes ts e (λ c h. admits_bracket x c h u.1.0 (is_below_by primary_height n x u.1.1) left)

  none_in : (z : Operand) → EitherFit Plain Chosen z → Made selected_of PartsFit (z, None)
  none_in z (inl (x, fits, e)) = (((x, None), None), (Q.none_in x fits, refl), ap bare e)
  none_in z (inr ((x, (k, more)), inl ((d, left), (dotted, rest)), e)) =
      (((x, None), Some (k ∷ more)), (Q.none_in x (up x d).0, (refl, ((refl, (inl dotted, rest)), dot_on x d left (selector_tokens k ++ all_spell more) (begins member_laws k (all_spell more) dotted)))), ap bare e)
  none_in z (inr ((x, (k, more)), inr ((d, left), (bracketed, rest)), e)) =
      (((x, None), Some (k ∷ more)), (Q.none_in x (up x d).0, (refl, ((refl, (inr bracketed, rest)), bracket_on x d left (selector_tokens k ++ all_spell more) (begins (bracketed_laws N) k (all_spell more) bracketed)))), ap bare e)

  none_out : (z : Operand) → Made selected_of PartsFit (z, None) → EitherFit Plain Chosen z
  none_out z (((x, None), None), fits, e) = inl (x, Q.none_out x fits.0, ap tree e)
  none_out z (((x, Some h), None), fits, e) = no_some (t.primary x, Some h) (z, None) e refl refl
  none_out z ((x, Some []), fits, e) = let bad : true ≡ false = fits.1.1.0.0 in absurd cc
  none_out z ((x, Some (k ∷ more)), fits, e) = inr ((x.0, (k, more)), (selected_fits x.0 x.1 k more fits.0 fits.1.1.0.1.0 fits.1.1.0.1.1 fits.1.1.1).1, ap tree e)

  some_out : (z : Operand) (h : Place) → Made selected_of PartsFit (z, Some h) → EitherFit Plain Chosen z
  some_out z h (((x, None), None), fits, e) = no_some (z, Some h) (t.primary x, None) (sym e) refl refl
  some_out z h (((x, Some other), None), fits, e) = inl (x, Q.some_out x other fits.0, ap tree e)
  some_out z h ((x, Some all), fits, e) = no_some (z, Some h) (t.postfix x.0 (to_selectors all) None, None) (sym e) refl refl

  -- ---- their tokens, and what goes on

  parts_said : (p : Open Primary × Option (List Selector)) → PartsFit p → open_spelling operand_tokens (selected_of p) ≡ joined_spelling (open_spelling primary_tokens) all_spell p
  unfolding operand_tokens
  parts_said ((x, h), None) fits = sym (append-nil (open_spelling primary_tokens (x, h)))
  parts_said ((x, None), Some all) fits =
      append-nil (primary_tokens x ++ (selectors_tokens (to_selectors all) ++ [])) ∙ ap (λ (m : List Token). primary_tokens x ++ m) (append-nil (selectors_tokens (to_selectors all)) ∙ said_selectors all) ∙ ap (λ (m : List Token). m ++ all_spell all) (sym (append-nil (primary_tokens x)))
  parts_said ((x, Some h), Some all) fits = never_none (all_spell all) fits.1.1.1

  codes_on : (x : Primary) → Within (codes (x, None)) (after_selected (t.primary x))
  codes_on x =
      let sub : Within (codes (x, None)) selector_first = within_given (not (alone_super x)) (λ e. within_given (room x) (λ low. within_union (within_given (primary_leaves opens_dot x) (λ left. inside {xs = these s.Dot} {ys = selector_first} refl)) (within_given (primary_leaves opens_nothing x) (λ left. inside {xs = bracket_codes} {ys = selector_first} refl)))) in
      within_then sub (within_then (selectors_in (t.primary x) (λ opens. primary_takes opens x)) (within_left (taken (λ next opens. operand_takes next opens 12 (t.primary x))) (primary_alone x)))

  parts_on : (p : Open Primary × Option (List Selector)) → PartsFit p → Within (after_parts p) (after_open after_selected (half_operand 12) (selected_of p))
  parts_on ((x, None), None) fits = within_union (primary_on x) (codes_on x)
  parts_on ((x, Some h), None) fits = within_union (primary_on_half x) (within_none (half_operand 12 (t.primary x)))
  parts_on ((x, None), Some all) fits = selectors_in (t.postfix x (to_selectors all) None) (postfix_takes x all)
  parts_on ((x, Some h), Some all) fits = never_none (all_spell all) fits.1.1.1

  -- ---- the fronts

  abbrev Whole : Front Token
  Whole = Either pfront selected_front

  one_out : (x : Primary) (h : Option Place) (ts more : List Token) → Q.Fits (x, h) → ts ≡ open_spelling primary_tokens (x, h) ++ more → kind_front more → starts class_of (codes (x, h)) more ≡ true → Whole ts
  one_out x h ts more fits e (inl m) on =
      let a = dot_admits x h (first_code (codes (x, h)) (sign_code s.Dot) more on (front_starts (codes (x, h)) (these s.Dot) g.member.front member_laws.firsts more m on)) in
      inr (inl (inr (x, more, down x (tree_fits Q (x, h) fits) a.1.0 (below_is primary_height n x a.1.1.0), a.1.1.1, e ∙ ap (λ (o : Option Place). open_spelling primary_tokens (x, o) ++ more) a.0 ∙ ap (λ (m : List Token). m ++ more) (append-nil (primary_tokens x)), inl m)))
  one_out x h ts more fits e (inr b) on =
      let c = first_of (codes (x, h)) bracket_codes more on (front_starts (codes (x, h)) bracket_codes (g.bracketed_of nodes).front (bracketed_laws N).firsts more b on) in
      let a = bracket_admits x h c.0 c.2 c.1 in
      inr (inr (inr (x, more, down x (tree_fits Q (x, h) fits) a.1.0 (below_is primary_height n x a.1.1.0), a.1.1.1, e ∙ ap (λ (o : Option Place). open_spelling primary_tokens (x, o) ++ more) a.0 ∙ ap (λ (m : List Token). m ++ more) (append-nil (primary_tokens x)), inl b)))

  several_out : (x : Primary) (h : Option Place) (ts more : List Token) (k : Selector) (rest : List Token) → Q.Fits (x, h) → ts ≡ open_spelling primary_tokens (x, h) ++ more → Kind k → more ≡ selector_tokens k ++ rest → all_front rest → starts class_of (codes (x, h)) more ≡ true → Whole ts
  several_out x h ts more k rest fits e (inl d) is f on =
      let a = dot_admits x h (first_code (codes (x, h)) (sign_code s.Dot) more on (ap (starts class_of (these s.Dot)) is ∙ begins member_laws k rest d)) in
      inr (inl (inr (x, more, down x (tree_fits Q (x, h) fits) a.1.0 (below_is primary_height n x a.1.1.0), a.1.1.1, e ∙ ap (λ (o : Option Place). open_spelling primary_tokens (x, o) ++ more) a.0 ∙ ap (λ (m : List Token). m ++ more) (append-nil (primary_tokens x)), inr (k, rest, d, refl, is, f))))
  several_out x h ts more k rest fits e (inr b) is f on =
      let c = first_of (codes (x, h)) bracket_codes more on (ap (starts class_of bracket_codes) is ∙ begins (bracketed_laws N) k rest b) in
      let a = bracket_admits x h c.0 c.2 c.1 in
      inr (inr (inr (x, more, down x (tree_fits Q (x, h) fits) a.1.0 (below_is primary_height n x a.1.1.0), a.1.1.1, e ∙ ap (λ (o : Option Place). open_spelling primary_tokens (x, o) ++ more) a.0 ∙ ap (λ (m : List Token). m ++ more) (append-nil (primary_tokens x)), inr (k, rest, b, refl, is, f))))

  out : (ts : List Token) → PartsFront ts → Whole ts
  out ts (inl f) = inl f
  out ts (inr ((x, h), more, fits, go, e, inl none)) = inl (subst pfront (sym (e ∙ ap (λ (m : List Token). open_spelling primary_tokens (x, h) ++ m) none ∙ append-nil (open_spelling primary_tokens (x, h)))) (Q.laws.whole (x, h) fits))
  out ts (inr ((x, h), more, fits, go, e, inr (([], rest, each, e', f), on))) = one_out x h ts more fits e (subst kind_front (sym e') f) on
  out ts (inr ((x, h), more, fits, go, e, inr ((k ∷ all, rest, each, e', f), on))) = several_out x h ts more k (all_spell all ++ rest) fits e each.0.0 (e' ∙ append_assoc (selector_tokens k) (all_spell all) rest) (all, rest, each.1, refl, f) on

  -- selectors that begin with one of these
  abbrev From : (Selector → Type 0) → Front Token → Front Token
  From F front = Joint selector_tokens F always front all_front

  from_all : (F : Selector → Type 0) (front : Front Token) → ((k : Selector) → F k → Kind k) → ((ts : List Token) → front ts → kind_front ts) → (ts : List Token) → From F front ts → all_front ts
  from_all F front in_kind in_front ts (inl f) = ([], ts, tt, refl, in_front ts f)
  from_all F front in_kind in_front ts (inr (k, more, fits, go, e, (all, rest, each, e', f))) = (k ∷ all, rest, ((in_kind k fits, refl), each), e ∙ ap (λ (m : List Token). selector_tokens k ++ m) e' ∙ sym (append_assoc (selector_tokens k) (all_spell all) rest), f)

  from_starts : (F : Selector → Type 0) (front : Front Token) (ys : List ℕ) → ((u : Token) (ts : List Token) → front (u ∷ ts) → has ys (class_of u) ≡ true) → ((k : Selector) (rest : List Token) → F k → starts class_of ys (selector_tokens k ++ rest) ≡ true) →
      (ts : List Token) → From F front ts → (ts ≡ []) ⊎ (starts class_of ys ts ≡ true)
  from_starts F front ys firsts begun [] f = inl refl
  from_starts F front ys firsts begun (u ∷ ts) (inl f) = inr (firsts u ts f)
  from_starts F front ys firsts begun (u ∷ ts) (inr (k, more, fits, go, e, f)) = inr (ap (starts class_of ys) e ∙ begun k more fits)

  behind_in : (x : Primary) (more : List Token) → all_front more → (more ≡ []) ⊎ (starts class_of (codes (x, None)) more ≡ true) → behind_front (x, None) more
  behind_in x more f (inl none) = inl none
  behind_in x more f (inr on) = inr (f, on)

  into : (ts : List Token) → Whole ts → PartsFront ts
  into ts (inl f) = inl f
  into ts (inr (inl (inl f))) = inl (rise ts f)
  into ts (inr (inl (inr (x, more, d, left, e, f)))) =
      inr (
        (x, None),
        more,
        Q.none_in x (up x d).0,
        refl,
        e ∙ ap (λ (m : List Token). m ++ more) (sym (append-nil (primary_tokens x))),
        behind_in x more (from_all Dotted g.member.front (λ k fits. inl fits) (λ ts f. inl f) more f)
            (either_map (dot_on x d left more) (from_starts Dotted g.member.front (these s.Dot) member_laws.firsts (λ k rest fits. begins member_laws k rest fits) more f)),
      )
  into ts (inr (inr (inl f))) = inl (rise ts f)
  into ts (inr (inr (inr (x, more, d, left, e, f)))) =
      inr (
        (x, None),
        more,
        Q.none_in x (up x d).0,
        refl,
        e ∙ ap (λ (m : List Token). m ++ more) (sym (append-nil (primary_tokens x))),
        behind_in x more (from_all Bracketed (g.bracketed_of nodes).front (λ k fits. inr fits) (λ ts f. inr f) more f)
            (either_map (bracket_on x d left more) (from_starts Bracketed (g.bracketed_of nodes).front bracket_codes (bracketed_laws N).firsts (λ k rest fits. begins (bracketed_laws N) k rest fits) more f)),
      )

  -- ---- the reader

  abbrev asked : Bool → Reader Token (List Selector) → Open Primary → List Token → Outcome Token (Open Operand)
  asked c q x mid = and_then (and_then (when c q mid) (λ o rest. Ok ((x, o), rest))) (λ y rest. Ok (selected_of y, rest))

  is_alone : (x : Primary) → alone_super x ≡ true → (word : Place) × (x ≡ t.bare_super word)
  is_alone (t.bare_super word) e = (word, refl)
  is_alone x e = absurd cc

  guard_same : (cs : List ℕ) (x : Open Primary) (mid : List Token) (c : Bool) → starts class_of cs mid ≡ c → asked c (selectors inner) x mid ≡ asked c (guarded all_laws cs) x mid
  guard_same cs x mid false e = refl
  guard_same cs x mid true e = ap (λ (b : Bool). asked true (λ ts. if b then selectors inner ts else nothing ts) x mid) (sym e)

  super_off : (ts : List Token) (word : Place) (mid : List Token) → primary ts ≡ Ok ((t.bare_super word, None), mid) → starts class_of selector_first mid ≡ false
  unfolding primary_tokens
  super_off ts word [] e = refl
  super_off ts word (u ∷ mid) e = not_true (has selector_first (class_of u)) (λ on. Q.laws.longest ts (t.bare_super word, None) u mid e (goes_on word u on))

  selects_within : (x : Primary) → Within (r.selects n (x, None)) selector_first
  selects_within x = within_given (room x) (λ low. within_union (within_given (primary_leaves opens_dot x) (λ left. inside {xs = these s.Dot} {ys = selector_first} refl)) (within_given (primary_leaves opens_nothing x) (λ left. inside {xs = bracket_codes} {ys = selector_first} refl)))

  same_step : (ts : List Token) (x : Open Primary) (mid : List Token) → primary ts ≡ Ok (x, mid) → asked (starts class_of (r.selects n x) mid) (selectors inner) x mid ≡ asked (starts class_of (codes x) mid) (behind x) x mid
  same_step ts (x, Some h) mid e = guard_same [] (x, Some h) mid (starts class_of [] mid) refl
  same_step ts (x, None) mid e = by_alone (alone_super x) refl where
    by_alone : (b : Bool) → alone_super x ≡ b → asked (starts class_of (r.selects n (x, None)) mid) (selectors inner) (x, None) mid ≡ asked (starts class_of (codes (x, None)) mid) (behind (x, None)) (x, None) mid
    by_alone false is =
        subst (λ (cs : List ℕ). asked (starts class_of (r.selects n (x, None)) mid) (selectors inner) (x, None) mid ≡ asked (starts class_of cs mid) (guarded all_laws cs) (x, None) mid) (sym (ap (λ (b : Bool). given (not b) (r.selects n (x, None))) is)) (guard_same (r.selects n (x, None)) (x, None) mid (starts class_of (r.selects n (x, None)) mid) refl)
    by_alone true is =
        let k = is_alone x is in
        let none : starts class_of selector_first mid ≡ false = super_off ts k.0 mid (subst (λ (y : Primary). primary ts ≡ Ok ((y, None), mid)) k.1 e) in
        let raw_off : starts class_of (r.selects n (x, None)) mid ≡ false = stops_within class_of (r.selects n (x, None)) selector_first (selects_within x).in_second mid none in
        let own_off : starts class_of (codes (x, None)) mid ≡ false = ap (λ (cs : List ℕ). starts class_of cs mid) (ap (λ (b : Bool). given (not b) (r.selects n (x, None))) is) ∙ stops_nowhere class_of mid in
        ap (λ (c : Bool). asked c (selectors inner) (x, None) mid) raw_off ∙ sym (ap (λ (c : Bool). asked c (behind (x, None)) (x, None) mid) own_off)

  abbrev given_by : (Open Primary → List ℕ) → (Open Primary → Reader Token (List Selector)) → Outcome Token (Open Primary) → Outcome Token (Open Operand)
  given_by cs q o = and_then (and_then o (λ x mid. and_then (when (starts class_of (cs x) mid) (q x) mid) (λ b rest. Ok ((x, b), rest)))) (λ y rest. Ok (selected_of y, rest))

  same_by : (ts : List Token) (o : Outcome Token (Open Primary)) → primary ts ≡ o → given_by (r.selects n) (λ x. selectors inner) o ≡ given_by codes behind o
  same_by ts (Ok x) e = same_step ts x.0 x.1 e
  same_by ts (Err rest) e = refl

  pub selected_laws : OpenLaws (selected n primary (selectors inner)) operand_tokens (EitherFit Plain Chosen) (Either pfront selected_front) pfirst after_selected (half_operand 12)
  unfolding selected
  selected_laws = record {
    Fits = Made selected_of PartsFit;
    none_in = none_in;
    none_out = none_out;
    some_out = some_out;
    laws = reread (refront (made_laws parts_laws selected_of (open_spelling operand_tokens) (after_open after_selected (half_operand 12)) parts_said parts_on) out into) (λ ts. same_by ts (primary ts) refl);
  }

  -- a `>` behind a primary alone is given as a half, or stopped before, as its reader does; behind selectors it is stopped before
  pub alone_settled : (x : Primary) → P x → Settled Q x → Settled selected_laws (t.primary x)
  unfolding selected selected_laws operand_tokens class_of
  alone_settled x fits (inl known) = inl (λ g. (((x, Some g), None), (known g, refl), refl))
  alone_settled x fits (inr stays) = inr (λ g ts.
      ap (λ (o : Outcome Token (Open Primary)). given_by (r.selects n) (λ y. selectors inner) o) (stays g ts)
      ∙ ap (λ (c : Bool). asked c (selectors inner) (x, None) (sign_at g s.Greater ∷ ts)) (not_true (has (r.selects n (x, None)) (sign_code s.Greater)) (λ h. let bad : has selector_first (sign_code s.Greater) ≡ true = (selects_within x).in_second (sign_code s.Greater) h in absurd cc)))

  chosen_closed : (x : Operand) → Chosen x → has (after_selected x) (sign_code s.Greater) ≡ false
  unfolding operand_takes
  chosen_closed x (parts, fits, is) = subst (λ (y : Operand). has (after_selected y) (sign_code s.Greater) ≡ false) is refl

  pub chosen_settled : (x : Operand) → Chosen x → Settled selected_laws x
  chosen_settled x fits = stops_before selected_laws x (inr fits) (chosen_closed x fits)

  -- ---- targets

  abbrev pub Targets : Operand → Type 0
  Targets = EitherFit (Made t.primary (GoodFit P primary_assigns)) (Made (λ (x : Primary × (Selector × List Selector)). t.postfix x.0 (one_or_more_selectors x.1) None) (GoodFit SelectedFits ends_in_target))

  target_in : (z : Operand) → GoodFit (EitherFit Plain Chosen) assigns z → Targets z
  target_in z (inl (x, fits, e), on) = inl (x, (fits, ap assigns e ∙ on), e)
  target_in z (inr ((x, (k, more)), fits, e), on) = inr ((x, (k, more)), (fits, ap assigns e ∙ on), e)

  pub target_out : (z : Operand) → Targets z → GoodFit (EitherFit Plain Chosen) assigns z
  target_out z (inl (x, (fits, on), e)) = (inl (x, fits, e), ap assigns (sym e) ∙ on)
  target_out z (inr ((x, (k, more)), (fits, on), e)) = (inr ((x, (k, more)), fits, e), ap assigns (sym e) ∙ on)

  pub target_laws : OpenLaws (target (selected n primary (selectors inner))) operand_tokens Targets (Either pfront selected_front) pfirst (after_operand 12) (half_operand 12)
  unfolding target
  target_laws = open_wider (open_restated (open_checked_laws selected_laws assigns) target_in target_out (λ ts f. f) (λ ts f. f)) (λ x fits. selected_on x) (λ x fits. within_self (half_operand 12 x))

  pub target_settled : (x : Operand) → assigns x ≡ true → Settled selected_laws x → Settled target_laws x
  unfolding target target_laws
  target_settled x on settled = wider_settled (open_restated (open_checked_laws selected_laws assigns) target_in target_out (λ ts f. f) (λ ts f. f)) (λ x fits. selected_on x) (λ x fits. within_self (half_operand 12 x)) x
      (restated_settled (open_checked_laws selected_laws assigns) target_in target_out (λ ts f. f) (λ ts f. f) x (checked_settled selected_laws assigns x on settled))
