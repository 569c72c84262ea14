-- The law of the reader of expressions (ECMA-408, 16 Expressions) from that of conditional ones: an assignment or cascades behind it, or `throw`.
use Rattle.std.proofs.Common.{◌≡◌, ℕ, Bool, true, false, if◌then◌else◌, ◌&&◌, List, [], ◌∷◌, ◌++◌, length, Option, None, Some, Ok, Err, ◌⊎◌, inl, inr, refl, ap, sym, ◌∙◌, subst, append_assoc, flat_map, arith}
use Rattle.std.proofs.lemmas.List.{append-nil}
use Rattle.dart_base.specs.declared.place.Place.{Place}
use Rattle.dart_token.specs.declared.token.Token.{Token}
use Rattle.dart_token.specs.declared.sign.Sign.TheVariants as s
use Rattle.dart_tree.specs.declared.operator.Operator.{Operator}
use Rattle.dart_tree.specs.LeafTokens.{sign_at, operator_tokens}
use Rattle.dart_tree.specs.Tree as t
use Rattle.dart_tree.specs.Tree.{Expr, Operand, Selectors, Value, Cascades}
use Rattle.dart_tree.specs.Tokens.{expr_tokens, operand_tokens, cascades_tokens}
use Rattle.grammar_laws.specs.Codes.{has, Apart, Within, given, is_empty, after_list, after_followed_by}
use Rattle.grammar_laws.specs.Readers.{Outcome, Reader, and_then, always, never, nothing, mapped, when, starts, continued_by}
use Rattle.grammar_laws.specs.Halves.{no_half}
use Rattle.grammar_laws.specs.Fronts.{Front, Empty, Joint, JointBy, Several, Either, EitherFit, BothFit, GoesOn, ContinuedFitBy, SomeFit, EachFit, Made, both_spelling, joined_spelling, option_spelling}
use Rattle.grammar_laws.specs.Laws.{Laws}
use Rattle.grammar_laws.proofs.Codes.{apart, apart_none, apart_union, has_cases, has_left, has_right, has_given, given_has, within_none, within_then, within_union, within_given, within_self, within_left, within_right}
use Rattle.grammar_laws.proofs.Cuts.{gave}
use Rattle.grammar_laws.proofs.Joints.{begins}
use Rattle.grammar_laws.proofs.Restated.{made_laws, reread, refit, refront}
use Rattle.grammar_laws.proofs.Combined.{both_laws}
use Rattle.grammar_laws.proofs.Chosen.{by_first_laws}
use Rattle.grammar_laws.proofs.Continued.{continued_by_laws}
use Rattle.dart_syntax.specs.Leaves as l
use Rattle.dart_syntax.specs.Agreement.{section_tokens}
use Rattle.dart_syntax.specs.Edges.{dots, question, opens_nothing, expr_takes, operand_takes, leaves, leaves_cascade}
use Rattle.dart_syntax.specs.Expressions as g
use Rattle.dart_syntax.specs.Expressions.{assignment_signs, rows}
use Rattle.token_codes.specs.Codes.{class_of, sign_code, these, sign_codes}
use Rattle.syntax_readers.specs.Combinators.{Open, with_half, halved}
use Rattle.syntax_readers.specs.Primaries.{ExprReaders, operand_first, expr_first}
use Rattle.syntax_readers.specs.Levels.{LevelReaders, assigns}
use Rattle.syntax_readers.specs.Expressions.{Assigned, Cascade, Behind, assigned, cascaded, an_expr, to_cascades, cascade_codes, assign_codes, assignment, assigned_or_cascaded, opened, expr_over}
use Rattle.laws_expr.specs.Nexts.{Taking, nexts, taken, expr_alone, after_expr, after_without, after_operand, after_cascade}
use Rattle.laws_expr.proofs.Begun.{front_starts, none_or}
use Rattle.laws_expr.proofs.Open.{OpenLaws, Settled, open_spelling, half_tokens, after_open, bare, tree, no_some, open_by_first_laws, first_settled, second_settled, open_wider, wider_settled, tree_fits}
use Rattle.laws_expr.proofs.Edges.{within_at, taken_moves, expr_moves}
use Rattle.laws_expr.proofs.Chain.{half_operand, half_moves, left_apart}
use Rattle.laws_expr.proofs.Once.{half_without}
use Rattle.laws_expr.proofs.Functions.{half_expr}
use Rattle.laws_expr.proofs.Halved.{halved_laws, halved_settled}
use Rattle.laws_expr.proofs.Assigning as asg
use Rattle.laws_expr.proofs.Cascades.{half_cascade}
use Rattle.laws_expr.proofs.Cascaded as c
use Rattle.laws_expr.proofs.Cascaded.{after_cascades, half_cascades, cascades_laws}
use Rattle.laws_expr.proofs.Throwing.{target_assign, target_equal, plain_on, half_plain_on, Throwing, throwing_front, throw_laws, throw_settled, plain_list}
use Rattle.laws_expr.proofs.Guarded.{guarded, GuardedFit, guarded_front, guarded_laws}
use Rattle.laws_expr.proofs.Refined.{reads_half, half_read, sharp, sharp_stops, refined_laws}
use Rattle.laws_expr.proofs.Refusing.{last_cascade}
use Rattle.laws_expr.proofs.Sets.{swap, given_misses, not_either, apart_when}
use Rattle.laws_expr.proofs.Divided.{AssignFits, second_tokens, one_of_said, assign_operator_laws, assign_front, assign_out}

-- ---- what goes on

-- in the place of an expression what goes on in that of one without cascade
pub without_on : (x : Expr) → Within (after_without x) (after_expr x)
without_on x =
    let takes : Taking = λ next opens. expr_takes next opens dots x in
    within_union (within_then (taken_moves nexts (λ next opens. expr_takes next opens question x) takes (λ n opens h. expr_moves n opens x question dots (inl (omega arith)) h)) (within_left (taken takes) (expr_alone x))) (within_right (taken takes) (expr_alone x))

pub without_on_half : (x : Expr) → Within (half_without x) (half_expr x)
without_on_half x = half_moves (λ next opens. expr_takes next opens question x) (λ next opens. expr_takes next opens dots x) (expr_alone x) (λ n opens h. expr_moves n opens x question dots (inl (omega arith)) h)

assign_of : (x : Operand) (op : Operator) (e : Open Expr) → Within (after_open after_expr half_expr e) (after_open after_expr half_expr (with_half (t.assign x op) e))
unfolding expr_takes expr_alone
assign_of x op (e, None) = within_self (after_expr e)
assign_of x op (e, Some g) = within_self (half_expr e)

several_of : (x : Operand) (p : Place) (b : Selectors) (v : Value) (m : Cascades) (h : Option Place) → Within (after_open after_cascades half_cascades (t.cascade p b v m, h)) (after_open after_expr half_expr (t.plain x (t.cascade p b v m), h))
unfolding expr_takes expr_alone
several_of x p b v m None = within_self _
several_of x p b v m (Some g) = within_self _

dots_on : (x : Operand) → operand_takes dots opens_nothing dots x ≡ true → Within (these s.DotDot) (after_expr (t.plain x t.no_cascades))
unfolding expr_takes
dots_on x on =
    let takes : Taking = λ next opens. operand_takes next opens dots x in
    within_then (within_at 0 nexts (these s.DotDot) takes refl on) (within_left (taken takes) (expr_alone (t.plain x t.no_cascades)))

-- ---- what stands behind a conditional expression

abbrev spelled : Behind → List Token
spelled (assigned x) = both_spelling second_tokens (open_spelling expr_tokens) x
spelled (cascaded all) = flat_map c.item_spell all

abbrev after_behind : Behind → List ℕ
after_behind (assigned x) = after_open after_expr half_expr x.1
after_behind (cascaded all) = after_list (these s.DotDot) c.may_follow c.item_next all

module _ (inner : ExprReaders) {E : Expr → Type 0} {efront : Front Token} (X : OpenLaws inner.expr expr_tokens E efront expr_first after_expr half_expr)
    {C : Place × (Selectors × Value) → Type 0} {cfront : Front Token} (L : OpenLaws inner.cascade section_tokens C cfront (these s.DotDot) after_cascade half_cascade) where
  abbrev BehindFits : Option Place → Behind → Type 0
  BehindFits h (assigned x) = BothFit (AssignFits h) X.Fits x
  BehindFits h (cascaded all) = SomeFit L.Fits c.may_follow all

  abbrev assigned_front : Option Place → Front Token
  assigned_front h = Joint second_tokens (AssignFits h) always (assign_front h) efront

  abbrev cascades_front : Front Token
  cascades_front = Several c.item_spell L.Fits c.may_follow cfront

  abbrev Kinds : Option Place → Behind → Type 0
  Kinds h = EitherFit (Made cascaded (SomeFit L.Fits c.may_follow)) (Made assigned (BothFit (AssignFits h) X.Fits))

  kinds_out : (h : Option Place) (b : Behind) → Kinds h b → BehindFits h b
  kinds_out h b (inl (all, fits, is)) = subst (BehindFits h) is fits
  kinds_out h b (inr (x, fits, is)) = subst (BehindFits h) is fits

  kinds_in : (h : Option Place) (b : Behind) → BehindFits h b → Kinds h b
  kinds_in h (cascaded all) fits = inl (all, fits, refl)
  kinds_in h (assigned x) fits = inr (x, fits, refl)

  apart_assign : (h : Option Place) → Apart (these s.DotDot) (assign_codes h)
  apart_assign None = apart refl
  apart_assign (Some g) = apart refl

  assignment_laws : (h : Option Place) → Laws class_of (assignment h inner.expr) (both_spelling second_tokens (open_spelling expr_tokens)) (BothFit (AssignFits h) X.Fits) (assigned_front h) (assign_codes h) (λ y. after_open after_expr half_expr y.1) false
  unfolding assignment
  assignment_laws h = both_laws (assign_operator_laws h) X.laws (λ y fits. apart_none expr_first)

  behind_laws : (h : Option Place) → Laws class_of (assigned_or_cascaded h inner) spelled (BehindFits h) (Either cascades_front (assigned_front h)) (these s.DotDot ++ assign_codes h) after_behind false
  unfolding assigned_or_cascaded
  behind_laws h = refit_by (by_first_laws
      (made_laws (cascades_laws inner L) cascaded spelled after_behind (λ all fits. refl) (λ all fits. within_self _))
      (made_laws (assignment_laws h) assigned spelled after_behind (λ x fits. refl) (λ x fits. within_self _)) (apart_assign h)) where
        refit_by : Laws class_of (assigned_or_cascaded h inner) spelled (Kinds h) (Either cascades_front (assigned_front h)) (these s.DotDot ++ assign_codes h) after_behind false → Laws class_of (assigned_or_cascaded h inner) spelled (BehindFits h) (Either cascades_front (assigned_front h)) (these s.DotDot ++ assign_codes h) after_behind false
        refit_by P = refit P (kinds_out h) (kinds_in h)

  -- ---- behind a conditional expression

  module _ (levels : LevelReaders)
      {R : Operand → Type 0} {rfront : Front Token} (Row : OpenLaws (levels.row (length rows)) operand_tokens R rfront operand_first (after_operand question) (half_operand question))
      (decide : (x : Operand) → R x → assigns x ≡ true → Settled Row x) (rises : (x : Operand) → R x → operand_takes dots opens_nothing dots x ≡ true)
      {T : Operand → Type 0} {tfront : Front Token} (to_target : (x : Operand) → R x → assigns x ≡ true → T x) (of_target : (x : Operand) → T x → R x × (assigns x ≡ true)) (begun : (ts : List Token) → tfront ts → rfront ts) where
    abbrev row_half : OpenLaws (halved assigns (levels.row (length rows))) operand_tokens R (Joint operand_tokens R assigns rfront (l.sign s.Greater).front) operand_first (λ x. after_operand question x ++ given (assigns x) (these s.Greater)) (half_operand question)
    row_half = halved_laws Row assigns decide

    abbrev after_half : Open Operand → List ℕ
    after_half = after_open (λ x. after_operand question x ++ given (assigns x) (these s.Greater)) (half_operand question)

    abbrev codes : Open Operand → List ℕ
    codes x = given (assigns x.0) (assign_codes x.1) ++ cascade_codes x

    no_dots : (x : Operand) → leaves dots x ≡ true → Apart (after_operand question x ++ given (assigns x) (these s.Greater)) (these s.DotDot)
    no_dots x on = apart_union (left_apart dots question 0 (these s.DotDot) x (omega arith) refl (λ takes. refl) refl on) (apart_when (assigns x) (λ e. apart refl))

    codes_apart : (x : Open Operand) → row_half.Fits x → always x ≡ true → Apart (after_half x) (codes x)
    codes_apart (x, None) fits go = swap (apart_union (apart_when (assigns x) (λ on. swap (target_assign x on))) (apart_when (leaves dots x) (λ on. swap (no_dots x on))))
    codes_apart (x, Some g) fits go = swap (apart_union (apart_when (assigns x) (λ on. swap (target_equal x on))) (apart_none (half_operand question x)))

    abbrev PartsFit : Open Operand × Option Behind → Type 0
    PartsFit = ContinuedFitBy row_half.Fits never always (λ (x : Open Operand). GuardedFit (behind_laws x.1) (codes x))

    abbrev PartsFront : Front Token
    PartsFront = JointBy (open_spelling operand_tokens) row_half.Fits always (Joint operand_tokens R assigns rfront (l.sign s.Greater).front) (λ (x : Open Operand). guarded_front (behind_laws x.1) (codes x))

    abbrev after_parts : Open Operand × Option Behind → List ℕ
    after_parts = after_followed_by after_half always codes (λ x b. after_behind b)

    abbrev behind : Open Operand → Reader Token Behind
    behind x = guarded (behind_laws x.1) (codes x)

    abbrev parts_reader : Reader Token (Open Operand × Option Behind)
    parts_reader = continued_by class_of never always codes (halved assigns (levels.row (length rows))) behind

    parts_laws : Laws class_of parts_reader (joined_spelling (open_spelling operand_tokens) spelled) PartsFit PartsFront operand_first after_parts false
    parts_laws = continued_by_laws row_half.laws (λ x fits. guarded_laws (behind_laws x.1) (codes x)) never always (λ x e. absurd cc) codes_apart

    -- ---- which of the two comes

    dots_known : (x : Operand) (h : Option Place) (ts : List Token) → starts class_of (codes (x, h)) ts ≡ true → starts class_of (these s.DotDot) ts ≡ true → (h ≡ None) × (leaves dots x ≡ true)
    dots_known x h [] on is = absurd cc
    dots_known x None (u ∷ ts) on is = elim (has_cases (given (assigns x) (assign_codes None)) (cascade_codes (x, None)) (class_of u) on) [
      | inl k ↦ absurd ((apart_assign None).never_both (class_of u) is (given_has (assigns x) (assign_codes None) (class_of u) k).1)
      | inr k ↦ (refl, (given_has (leaves dots x) (these s.DotDot) (class_of u) k).0)
    ]
    dots_known x (Some g) (u ∷ ts) on is = elim (has_cases (given (assigns x) (assign_codes (Some g))) [] (class_of u) on) [
      | inl k ↦ absurd ((apart_assign (Some g)).never_both (class_of u) is (given_has (assigns x) (assign_codes (Some g)) (class_of u) k).1)
      | inr k ↦ absurd cc
    ]

    assign_known : (x : Operand) (h : Option Place) (ts : List Token) → starts class_of (codes (x, h)) ts ≡ true → starts class_of (assign_codes h) ts ≡ true → assigns x ≡ true
    assign_known x h [] on is = absurd cc
    assign_known x h (u ∷ ts) on is = elim (has_cases (given (assigns x) (assign_codes h)) (cascade_codes (x, h)) (class_of u) on) [
      | inl k ↦ (given_has (assigns x) (assign_codes h) (class_of u) k).0
      | inr k ↦ absurd ((apart_assign h).never_both (class_of u) (given_has (no_half (x, h) && leaves dots x) (these s.DotDot) (class_of u) k).1 is)
    ]

    dots_go : (x : Operand) (ts : List Token) → leaves dots x ≡ true → starts class_of (these s.DotDot) ts ≡ true → starts class_of (codes (x, None)) ts ≡ true
    dots_go x [] on is = absurd cc
    dots_go x (u ∷ ts) on is = has_right (given (assigns x) (assign_codes None)) (cascade_codes (x, None)) (class_of u) (has_given (leaves dots x) (these s.DotDot) (class_of u) on is)

    assign_go : (x : Operand) (h : Option Place) (ts : List Token) → assigns x ≡ true → starts class_of (assign_codes h) ts ≡ true → starts class_of (codes (x, h)) ts ≡ true
    assign_go x h [] on is = absurd cc
    assign_go x h (u ∷ ts) on is = has_left (given (assigns x) (assign_codes h)) (cascade_codes (x, h)) (class_of u) (has_given (assigns x) (assign_codes h) (class_of u) on is)

    -- ---- which trees

    abbrev pub Assigning : Expr → Type 0
    Assigning = Made (λ (x : Operand × (Operator × Expr)). t.assign x.0 x.1.0 x.1.1) (BothFit T (BothFit g.assigning.Fits E))

    abbrev pub Plain : Expr → Type 0
    Plain = Made (λ (x : Operand × List (Place × (Selectors × Value))). t.plain x.0 (g.to_cascades x.1)) (EitherFit (BothFit R (λ all. all ≡ [])) (BothFit (GoesOn R (leaves dots)) (SomeFit C leaves_cascade)))

    abbrev pub Of : Expr → Type 0
    Of = EitherFit Assigning Plain

    halves : (x : Operand) (g : Place) → R x → assigns x ≡ true → row_half.Fits (x, Some g)
    halves x g fits on = inr (fits, on)

    dots_begin : (all : List (Open Cascade)) → SomeFit L.Fits c.may_follow all → starts class_of (these s.DotDot) (flat_map c.item_spell all) ≡ true
    dots_begin all fits = ap (starts class_of (these s.DotDot)) (sym (append-nil (flat_map c.item_spell all))) ∙ begins (cascades_laws inner L) all [] fits

    assign_begin : (h : Option Place) (x : Assigned) → BothFit (AssignFits h) X.Fits x → starts class_of (assign_codes h) (both_spelling second_tokens (open_spelling expr_tokens) x) ≡ true
    assign_begin h x fits = ap (starts class_of (assign_codes h)) (sym (append-nil (both_spelling second_tokens (open_spelling expr_tokens) x))) ∙ begins (assignment_laws h) x [] fits

    plain_of : (x : Open Operand) → row_half.Fits x → Of (t.plain x.0 t.no_cascades)
    plain_of x fits = inr ((x.0, []), inl (tree_fits row_half x fits, refl), refl)

    tree_of : (x : Operand) (h : Option Place) (b : Behind) → row_half.Fits (x, h) → BehindFits h b → starts class_of (codes (x, h)) (spelled b) ≡ true → Of (an_expr ((x, h), Some b)).0
    tree_of x h (assigned (op, e)) fits known on =
        inl ((x, (op, e.0)), (to_target x (tree_fits row_half (x, h) fits) (assign_known x h (spelled (assigned (op, e))) on (assign_begin h (op, e) known)), (assign_out h op known.0, tree_fits X e known.1)), refl)
    tree_of x h (cascaded all) fits known on =
        let k = dots_known x h (flat_map c.item_spell all) on (dots_begin all known) in
        inr ((x, c.drop all), inr ((tree_fits row_half (x, h) fits, k.1), (c.empty_drop all ∙ known.0, c.each_drop inner L all known.1)), ap (t.plain x) (c.cascades_drop all))

    none_in : (z : Expr) → Of z → Made an_expr PartsFit (z, None)
    none_in z (inl ((x, (op, e)), (target, (inl known, value)), is)) =
        let k = of_target x target in
        (((x, None), Some (assigned (op, (e, None)))), (row_half.none_in x k.0, (refl, ((known, X.none_in e value), assign_go x None (spelled (assigned (op, (e, None)))) k.1 (assign_begin None (op, (e, None)) (known, X.none_in e value))))), ap bare is)
    none_in z (inl ((x, (op, e)), (target, (inr ((first, second), there, made), value)), is)) =
        let k = of_target x target in
        (((x, Some first), Some (assigned (op, (e, None)))), (halves x first k.0 k.1, (refl, (((second, tt, made), X.none_in e value), assign_go x (Some first) (spelled (assigned (op, (e, None)))) k.1 (assign_begin (Some first) (op, (e, None)) ((second, tt, made), X.none_in e value))))), ap bare is)
    none_in z (inr ((x, all), inl (fits, none), is)) = (((x, None), None), (row_half.none_in x fits, refl), ap (λ (m : List (Place × (Selectors × Value))). bare (t.plain x (g.to_cascades m))) (sym none) ∙ ap bare is)
    none_in z (inr ((x, all), inr ((fits, on), (several, each)), is)) =
        let known : SomeFit L.Fits c.may_follow (c.keep all) = (c.empty_keep all ∙ several, c.each_keep inner L all each) in
        (((x, None), Some (cascaded (c.keep all))), (row_half.none_in x fits, (refl, (known, dots_go x (flat_map c.item_spell (c.keep all)) on (dots_begin (c.keep all) known)))), ap (with_half (t.plain x)) (c.cascades_keep all) ∙ ap bare is)

    none_out : (z : Expr) → Made an_expr PartsFit (z, None) → Of z
    none_out z (((x, None), None), fits, e) = subst Of (ap tree e) (plain_of (x, None) fits.0)
    none_out z (((x, Some g), None), fits, e) = no_some (t.plain x t.no_cascades, Some g) (z, None) e refl refl
    none_out z (((x, h), Some b), fits, e) = subst Of (ap tree e) (tree_of x h b fits.0 fits.1.1.0 fits.1.1.1)

    some_out : (z : Expr) (g : Place) → Made an_expr PartsFit (z, Some g) → Of z
    some_out z g (((x, None), None), fits, e) = no_some (z, Some g) (t.plain x t.no_cascades, None) (sym e) refl refl
    some_out z g (((x, Some h), None), fits, e) = subst Of (ap tree e) (plain_of (x, Some h) fits.0)
    some_out z g (((x, h), Some b), fits, e) = subst Of (ap tree e) (tree_of x h b fits.0 fits.1.1.0 fits.1.1.1)

    -- ---- the tokens, and what goes on

    assigned_said : (x : Operand) (h : Option Place) (op : Operator) (e : Open Expr) → AssignFits h op → open_spelling expr_tokens (with_half (t.assign x op) e) ≡ (operand_tokens x ++ option_spelling half_tokens h) ++ (second_tokens op ++ open_spelling expr_tokens e)
    unfolding expr_tokens
    assigned_said x None op (e, k) known =
        let same : second_tokens op ≡ operator_tokens op = one_of_said assignment_signs op known in
        append_assoc (operand_tokens x) (operator_tokens op ++ expr_tokens e) (option_spelling half_tokens k) ∙ ap (λ (m : List Token). operand_tokens x ++ m) (append_assoc (operator_tokens op) (expr_tokens e) (option_spelling half_tokens k))
        ∙ ap (λ (m : List Token). operand_tokens x ++ (m ++ (expr_tokens e ++ option_spelling half_tokens k))) (sym same) ∙ ap (λ (m : List Token). m ++ (second_tokens op ++ (expr_tokens e ++ option_spelling half_tokens k))) (sym (append-nil (operand_tokens x)))
    assigned_said x (Some g) op (e, k) (second, there, is) = subst (λ z. open_spelling expr_tokens (with_half (t.assign x z) (e, k)) ≡ (operand_tokens x ++ half_tokens g) ++ (second_tokens z ++ (expr_tokens e ++ option_spelling half_tokens k))) is (simp append_assoc)

    parts_said : (p : Open Operand × Option Behind) → PartsFit p → open_spelling expr_tokens (an_expr p) ≡ joined_spelling (open_spelling operand_tokens) spelled p
    unfolding expr_tokens cascades_tokens
    parts_said ((x, h), None) fits = simp (append_assoc, append-nil)
    parts_said ((x, h), Some (assigned (op, e))) fits = assigned_said x h op e fits.1.1.0.0
    parts_said ((x, h), Some (cascaded all)) fits =
        let k = dots_known x h (flat_map c.item_spell all) fits.1.1.1 (dots_begin all fits.1.1.0) in
        append_assoc (operand_tokens x) (cascades_tokens (to_cascades all).0) (option_spelling half_tokens (to_cascades all).1) ∙ ap (λ (m : List Token). operand_tokens x ++ m) (c.items_said inner L all fits.1.1.0.1)
        ∙ ap (λ (m : List Token). m ++ flat_map c.item_spell all) (sym (append-nil (operand_tokens x)) ∙ ap (λ (o : Option Place). operand_tokens x ++ option_spelling half_tokens o) (sym k.0))

    list_on : (x : Operand) (all : List (Open Cascade)) → SomeFit L.Fits c.may_follow all → Within (after_list (these s.DotDot) c.may_follow c.item_next all) (after_open after_expr half_expr (with_half (t.plain x) (to_cascades all)))
    list_on x [] fits = absurd cc
    list_on x (y ∷ more) fits = within_then (c.list_on inner L (y ∷ more) fits.0 fits.1) (several_of x y.0.0 y.0.1.0 y.0.1.1 (to_cascades more).0 (if is_empty more then y.1 else (to_cascades more).1))

    parts_on : (p : Open Operand × Option Behind) → PartsFit p → Within (after_parts p) (after_open after_expr half_expr (an_expr p))
    parts_on ((x, None), None) fits =
        let plain : Within ((after_operand question x ++ given (assigns x) (these s.Greater)) ++ given (assigns x) (sign_codes assignment_signs)) (after_expr (t.plain x t.no_cascades)) = within_then (plain_on x) (without_on (t.plain x t.no_cascades)) in
        let first : List ℕ = after_operand question x ++ given (assigns x) (these s.Greater) in
        let signs : List ℕ = given (assigns x) (sign_codes assignment_signs) in
        within_union (within_then (within_left first signs) plain) (within_union (within_then (within_right first signs) plain) (within_given (leaves dots x) (λ e. dots_on x (rises x (row_half.none_out x fits.0)))))
    parts_on ((x, Some g), None) fits =
        let plain : Within (half_operand question x ++ given (assigns x) (these s.GreaterEqual)) (half_expr (t.plain x t.no_cascades)) = within_then (half_plain_on x) (without_on_half (t.plain x t.no_cascades)) in
        let rest : List ℕ = given (assigns x) (these s.GreaterEqual) in
        within_union (within_then (within_left (half_operand question x) rest) plain) (within_union (within_then (within_right (half_operand question x) rest) plain) (within_none (half_expr (t.plain x t.no_cascades))))
    parts_on ((x, h), Some (assigned (op, e))) fits = assign_of x op e
    parts_on ((x, h), Some (cascaded all)) fits = list_on x all fits.1.1.0

    -- ---- their fronts

    off : (x : Operand) → R x → assigns x ≡ true → Apart (after_operand question x ++ given (assigns x) (these s.Greater)) (sign_codes assignment_signs)
    off x fits on = target_assign x on

    off_half : (x : Operand) → R x → assigns x ≡ true → Apart (half_operand question x) (these s.GreaterEqual)
    off_half x fits on = target_equal x on

    abbrev Begun : Front Token
    Begun = Joint operand_tokens R assigns rfront (l.sign s.Greater).front

    abbrev Assigns : Front Token
    Assigns = Joint operator_tokens g.assigning.Fits always g.assigning.front efront

    abbrev pub of_front : Front Token
    of_front = Either (Joint operand_tokens T always tfront Assigns) (Either (Joint operand_tokens R always rfront Empty) (Joint operand_tokens R (leaves dots) rfront (Several section_tokens C leaves_cascade cfront)))

    said_out : (ts : List Token) → Joint operand_tokens R assigns rfront Assigns ts → of_front ts
    said_out ts (inl f) = inr (inl (inl f))
    said_out ts (inr (x, more, fits, on, e, f)) = inl (inr (x, more, to_target x fits on, refl, e, f))

    cascades_out : (x : Operand) (h : Option Place) (ts more : List Token) → row_half.Fits (x, h) → ts ≡ open_spelling operand_tokens (x, h) ++ more → cascades_front more → starts class_of (codes (x, h)) more ≡ true → of_front ts
    cascades_out x h ts more fits e f on =
        let k = dots_known x h more on (front_starts (codes (x, h)) (these s.DotDot) cascades_front (cascades_laws inner L).firsts more f on) in
        let d = c.go_drop inner L f.0 f.2 in
        inr (inr (inr (x, more, tree_fits row_half (x, h) fits, k.1, e ∙ ap (λ (o : Option Place). open_spelling operand_tokens (x, o) ++ more) k.0 ∙ ap (λ (m : List Token). m ++ more) (append-nil (operand_tokens x)), (c.drop f.0, f.1, d.0, f.3 ∙ ap (λ (m : List Token). m ++ f.1) d.1, f.4))))

    out : (ts : List Token) → PartsFront ts → of_front ts
    out ts (inl f) = said_out ts (asg.out assigns row_half X off off_half ts (inl f))
    out ts (inr ((x, h), more, fits, go, e, inl none)) =
        said_out ts (asg.out assigns row_half X off off_half ts (inl (subst Begun (sym (e ∙ ap (λ (m : List Token). open_spelling operand_tokens (x, h) ++ m) none ∙ append-nil (open_spelling operand_tokens (x, h)))) (row_half.laws.whole (x, h) fits))))
    out ts (inr ((x, h), more, fits, go, e, inr (inl f, on))) = cascades_out x h ts more fits e f on
    out ts (inr ((x, h), more, fits, go, e, inr (inr f, on))) =
        said_out ts (asg.out assigns row_half X off off_half ts (inr ((x, h), more, fits, assign_known x h more on (front_starts (codes (x, h)) (assign_codes h) (assigned_front h) (assignment_laws h).firsts more f on), e, f)))

    read_in : (ts : List Token) → asg.Read assigns row_half X off off_half ts → PartsFront ts
    read_in ts (inl f) = inl f
    read_in ts (inr ((x, h), more, fits, on, e, f)) = inr ((x, h), more, fits, refl, e, behind_it (none_or (assign_codes h) (assigned_front h) (assignment_laws h).firsts more f)) where
      behind_it : (more ≡ []) ⊎ (starts class_of (assign_codes h) more ≡ true) → guarded_front (behind_laws h) (codes (x, h)) more
      behind_it (inl none) = inl none
      behind_it (inr is) = inr (inr f, assign_go x h more on is)

    cascades_in : (x : Operand) (ts more : List Token) → R x → leaves dots x ≡ true → ts ≡ operand_tokens x ++ more → cascades_front more → (more ≡ []) ⊎ (starts class_of (these s.DotDot) more ≡ true) → PartsFront ts
    cascades_in x ts more fits on e f (inl none) = inr ((x, None), more, row_half.none_in x fits, refl, e ∙ ap (λ (m : List Token). m ++ more) (sym (append-nil (operand_tokens x))), inl none)
    cascades_in x ts more fits on e f (inr is) = inr ((x, None), more, row_half.none_in x fits, refl, e ∙ ap (λ (m : List Token). m ++ more) (sym (append-nil (operand_tokens x))), inr (inl f, dots_go x more on is))

    into : (ts : List Token) → of_front ts → PartsFront ts
    into ts (inl (inl f)) = inl (inl (begun ts f))
    into ts (inl (inr (x, more, target, go, e, f))) = let k = of_target x target in read_in ts (asg.into assigns row_half X off off_half halves ts (inr (x, more, k.0, k.1, e, f)))
    into ts (inr (inl (inl f))) = inl (inl f)
    into ts (inr (inl (inr (x, more, fits, on, e, none)))) = inl (inl (subst rfront (sym (e ∙ ap (λ (m : List Token). operand_tokens x ++ m) none)) (Row.laws.whole (x, None) (Row.none_in x fits))))
    into ts (inr (inr (inl f))) = inl (inl f)
    into ts (inr (inr (inr (x, more, fits, on, e, (all, rest, go, e', f))))) =
        let k = c.go_keep inner L all go in
        let kept : cascades_front more = (c.keep all, rest, k.0, e' ∙ ap (λ (m : List Token). m ++ rest) k.1, f) in
        cascades_in x ts more fits on e kept (none_or (these s.DotDot) cascades_front (cascades_laws inner L).firsts more kept)

    -- ---- the reader

    abbrev asked : Bool → Reader Token Behind → Open Operand → List Token → Outcome Token (Open Expr)
    asked b q x mid = and_then (and_then (when b q mid) (λ o rest. Ok ((x, o), rest))) (λ y rest. Ok (an_expr y, rest))

    guard_same : (x : Open Operand) (mid : List Token) (b : Bool) → starts class_of (codes x) mid ≡ b → asked b (assigned_or_cascaded x.1 inner) x mid ≡ asked b (behind x) x mid
    guard_same x mid false e = refl
    guard_same x mid true e = ap (λ (b : Bool). asked true (λ ts. if b then assigned_or_cascaded x.1 inner ts else nothing ts) x mid) (sym e)

    abbrev given_by : (Open Operand → Reader Token Behind) → Outcome Token (Open Operand) → Outcome Token (Open Expr)
    given_by q r = and_then (and_then r (λ x mid. and_then (when (starts class_of (codes x) mid) (q x) mid) (λ o rest. Ok ((x, o), rest)))) (λ y rest. Ok (an_expr y, rest))

    same_by : (r : Outcome Token (Open Operand)) → given_by (λ x. assigned_or_cascaded x.1 inner) r ≡ given_by behind r
    same_by (Ok x) = guard_same x.0 x.1 (starts class_of (codes x.0) x.1) refl
    same_by (Err rest) = refl

    behind_read : OpenLaws (mapped an_expr (continued_by class_of never always codes (halved assigns (levels.row (length rows))) (λ x. assigned_or_cascaded x.1 inner))) expr_tokens Of of_front operand_first after_expr half_expr
    behind_read = record {
      Fits = Made an_expr PartsFit;
      none_in = none_in;
      none_out = none_out;
      some_out = some_out;
      laws = reread (refront (made_laws parts_laws an_expr (open_spelling expr_tokens) (after_open after_expr half_expr) parts_said parts_on) out into) (λ ts. same_by (halved assigns (levels.row (length rows)) ts));
    }

    -- an assignment, a conditional expression with cascades or without, or `throw`
    pub expr_laws : OpenLaws (expr_over inner levels) expr_tokens (EitherFit (Throwing inner X) Of) (Either (throwing_front inner X) of_front) expr_first after_expr half_expr
    unfolding expr_over opened
    expr_laws = open_by_first_laws (open_wider (throw_laws inner X) (λ x fits. without_on x) (λ x fits. without_on_half x)) behind_read (apart refl)

    -- ---- a `>` behind them is given as a half, or stopped before, as behind the last part

    pub thrown_settled : (word : Place) (e : Expr) → E e → Settled X e → Settled expr_laws (t.throw word e)
    unfolding expr_laws expr_over opened
    thrown_settled word e fits settled = first_settled (open_wider (throw_laws inner X) (λ x fits. without_on x) (λ x fits. without_on_half x)) behind_read (apart refl) (t.throw word e) ((word, e), (tt, fits), refl)
        (wider_settled (throw_laws inner X) (λ x fits. without_on x) (λ x fits. without_on_half x) (t.throw word e) (throw_settled inner X word e fits settled))

    abbrev whole : Reader Token (Open Expr)
    whole = mapped an_expr (continued_by class_of never always codes (halved assigns (levels.row (length rows))) (λ x. assigned_or_cascaded x.1 inner))

    no_greater : (x : Operand) → has (codes (x, None)) (sign_code s.Greater) ≡ false
    no_greater x = not_either (given (assigns x) (assign_codes None)) (cascade_codes (x, None)) (sign_code s.Greater) (given_misses (assigns x) (assign_codes None) (sign_code s.Greater) refl) (given_misses (leaves dots x) (these s.DotDot) (sign_code s.Greater) refl)

    alone_settled : (x : Operand) → R x → (assigns x ≡ false → Settled Row x) → Settled behind_read (t.plain x t.no_cascades)
    unfolding behind_read class_of
    alone_settled x fits settled = elim (halved_settled Row assigns decide x fits settled) as (λ _. Settled behind_read (t.plain x t.no_cascades)) [
      | inl known ↦ inl (λ g. (((x, Some g), None), (known g, refl), refl))
      | inr stays ↦ inr (λ g ts. ap whole (plain_list x (sign_at g s.Greater ∷ ts)) ∙ ap (given_by (λ y. assigned_or_cascaded y.1 inner)) (stays g ts)
          ∙ ap (λ (c : Bool). asked c (assigned_or_cascaded None inner) (x, None) (sign_at g s.Greater ∷ ts)) (no_greater x))
    ]

    pub plain_settled : (x : Operand) → R x → (assigns x ≡ false → Settled Row x) → Settled expr_laws (t.plain x t.no_cascades)
    unfolding expr_laws expr_over opened
    plain_settled x fits settled = second_settled (open_wider (throw_laws inner X) (λ y fits. without_on y) (λ y fits. without_on_half y)) behind_read (apart refl) (t.plain x t.no_cascades) (inr ((x, []), inl (fits, refl), refl)) (alone_settled x fits settled)

    module _ (asks : Expr → Bool) (settled : (e : Expr) → E e → asks e ≡ true → Settled X e)
        (asks_cascade : Place × (Selectors × Value) → Bool) (settled_cascade : (y : Place × (Selectors × Value)) → C y → asks_cascade y ≡ true → Settled L y) where
      sharp_assignment : (h : Option Place) → Laws class_of (assignment h inner.expr) (both_spelling second_tokens (open_spelling expr_tokens)) (BothFit (AssignFits h) X.Fits) (assigned_front h) (assign_codes h) (λ y. after_open (sharp X asks settled) half_expr y.1) false
      unfolding assignment
      sharp_assignment h = both_laws (assign_operator_laws h) (refined_laws X asks settled) (λ y fits. apart_none expr_first)

      abbrev sharp_after : Behind → List ℕ
      sharp_after (assigned x) = after_open (sharp X asks settled) half_expr x.1
      sharp_after (cascaded all) = after_list (these s.DotDot) c.may_follow (c.sharp_next inner L asks_cascade settled_cascade) all

      sharp_behind : (h : Option Place) → Laws class_of (assigned_or_cascaded h inner) spelled (BehindFits h) (Either cascades_front (assigned_front h)) (these s.DotDot ++ assign_codes h) sharp_after false
      unfolding assigned_or_cascaded
      sharp_behind h = refit_by (by_first_laws
          (made_laws (c.sharp_cascades inner L asks_cascade settled_cascade) cascaded spelled sharp_after (λ all fits. refl) (λ all fits. within_self _))
          (made_laws (sharp_assignment h) assigned spelled sharp_after (λ x fits. refl) (λ x fits. within_self _)) (apart_assign h)) where
            refit_by : Laws class_of (assigned_or_cascaded h inner) spelled (Kinds h) (Either cascades_front (assigned_front h)) (these s.DotDot ++ assign_codes h) sharp_after false → Laws class_of (assigned_or_cascaded h inner) spelled (BehindFits h) (Either cascades_front (assigned_front h)) (these s.DotDot ++ assign_codes h) sharp_after false
            refit_by P = refit P (kinds_out h) (kinds_in h)

      sharp_parts : Laws class_of parts_reader (joined_spelling (open_spelling operand_tokens) spelled) PartsFit PartsFront operand_first (after_followed_by after_half always codes (λ x b. sharp_after b)) false
      sharp_parts = continued_by_laws row_half.laws (λ x fits. guarded_laws (sharp_behind x.1) (codes x)) never always (λ x e. absurd cc) codes_apart

      stays_read : (x : Operand) (h : Option Place) (b : Behind) (z : Expr) → PartsFit ((x, h), Some b) → an_expr ((x, h), Some b) ≡ (z, None) → has (sharp_after b) (sign_code s.Greater) ≡ false → (place : Place) (ts : List Token) →
          whole (open_spelling expr_tokens (z, None) ++ sign_at place s.Greater ∷ ts) ≡ Ok ((z, None), sign_at place s.Greater ∷ ts)
      unfolding class_of
      stays_read x h b z known made stop place ts =
          let rest : List Token = sign_at place s.Greater ∷ ts in
          let list : List Token = joined_spelling (open_spelling operand_tokens) spelled ((x, h), Some b) ++ rest in
          ap (λ (m : List Token). whole (m ++ rest)) (ap (open_spelling expr_tokens) (sym made) ∙ parts_said ((x, h), Some b) known)
          ∙ same_by (halved assigns (levels.row (length rows)) list)
          ∙ ap (λ (r : Outcome Token (Open Operand × Option Behind)). and_then r (λ v u. Ok (an_expr v, u))) (sharp_parts.complete ((x, h), Some b) rest known stop)
          ∙ ap (λ (v : Open Expr). gave v rest) made

      assigning_part : (x : Operand) (op : Operator) (e : Expr) (k : Option Place) → T x → g.assigning.Fits op → X.Fits (e, k) → (h : Option Place) × PartsFit ((x, h), Some (assigned (op, (e, k))))
      assigning_part x op e k target (inl known) value =
          let w = of_target x target in
          (None, (row_half.none_in x w.0, (refl, ((known, value), assign_go x None (spelled (assigned (op, (e, k)))) w.1 (assign_begin None (op, (e, k)) (known, value))))))
      assigning_part x op e k target (inr ((first, second), there, made)) value =
          let w = of_target x target in
          (Some first, (halves x first w.0 w.1, (refl, (((second, tt, made), value), assign_go x (Some first) (spelled (assigned (op, (e, k)))) w.1 (assign_begin (Some first) (op, (e, k)) ((second, tt, made), value))))))

      assigned_settled : (x : Operand) (op : Operator) (e : Expr) → T x → g.assigning.Fits op → E e → asks e ≡ true → Settled behind_read (t.assign x op e)
      unfolding behind_read
      assigned_settled x op e target known value sought = by_half (reads_half X e) refl where
        by_half : (b : Bool) → reads_half X e ≡ b → Settled behind_read (t.assign x op e)
        by_half true is = inl (λ g. let p = assigning_part x op e (Some g) target known (half_read X e (settled e value sought) is g) in (((x, p.0), Some (assigned (op, (e, Some g)))), p.1, refl))
        by_half false is = inr (λ g ts. let p = assigning_part x op e None target known (X.none_in e value) in stays_read x p.0 (assigned (op, (e, None))) (t.assign x op e) p.1 refl (sharp_stops X asks settled e sought is) g ts)

      pub value_settled : (x : Operand) (op : Operator) (e : Expr) → T x → g.assigning.Fits op → E e → asks e ≡ true → Settled expr_laws (t.assign x op e)
      unfolding expr_laws expr_over opened
      value_settled x op e target known value sought = second_settled (open_wider (throw_laws inner X) (λ y fits. without_on y) (λ y fits. without_on_half y)) behind_read (apart refl) (t.assign x op e) (inl ((x, (op, e)), (target, (known, value)), refl)) (assigned_settled x op e target known value sought)

      several_part : (x : Operand) (y : Place × (Selectors × Value)) (more : List (Place × (Selectors × Value))) (k : Option Place) → R x → leaves dots x ≡ true → EachFit C leaves_cascade (y ∷ more) → L.Fits (last_cascade y more, k) → PartsFit ((x, None), Some (cascaded (c.keep_half k (y ∷ more))))
      several_part x y more k fits on each last =
          let known : SomeFit L.Fits c.may_follow (c.keep_half k (y ∷ more)) = (refl, c.each_half inner L k y more each last) in
          (row_half.none_in x fits, (refl, (known, dots_go x (flat_map c.item_spell (c.keep_half k (y ∷ more))) on (dots_begin (c.keep_half k (y ∷ more)) known))))

      last_fits : (y : Place × (Selectors × Value)) (more : List (Place × (Selectors × Value))) → EachFit C leaves_cascade (y ∷ more) → C (last_cascade y more)
      last_fits y [] each = each.0
      last_fits y (z ∷ more) each = last_fits z more each.2

      several_made : (x : Operand) (y : Place × (Selectors × Value)) (more : List (Place × (Selectors × Value))) (k : Option Place) → an_expr ((x, None), Some (cascaded (c.keep_half k (y ∷ more)))) ≡ (t.plain x (g.to_cascades (y ∷ more)), k)
      several_made x y more k = ap (with_half (t.plain x)) (c.cascades_half k y more)

      cascades_known : (x : Operand) (y : Place × (Selectors × Value)) (more : List (Place × (Selectors × Value))) → R x → leaves dots x ≡ true → EachFit C leaves_cascade (y ∷ more) → asks_cascade (last_cascade y more) ≡ true → Settled behind_read (t.plain x (g.to_cascades (y ∷ more)))
      unfolding behind_read
      cascades_known x y more fits on each sought = by_half (reads_half L (last_cascade y more)) refl where
        by_half : (b : Bool) → reads_half L (last_cascade y more) ≡ b → Settled behind_read (t.plain x (g.to_cascades (y ∷ more)))
        by_half true is = inl (λ place. (((x, None), Some (cascaded (c.keep_half (Some place) (y ∷ more)))), several_part x y more (Some place) fits on each (half_read L (last_cascade y more) (settled_cascade (last_cascade y more) (last_fits y more each) sought) is place), several_made x y more (Some place)))
        by_half false is = inr (λ place ts. stays_read x None (cascaded (c.keep_half None (y ∷ more))) (t.plain x (g.to_cascades (y ∷ more))) (several_part x y more None fits on each (L.none_in (last_cascade y more) (last_fits y more each))) (several_made x y more None)
            (c.last_stops inner L asks_cascade settled_cascade y more sought is) place ts)

      pub cascades_settled : (x : Operand) (y : Place × (Selectors × Value)) (more : List (Place × (Selectors × Value))) → R x → leaves dots x ≡ true → EachFit C leaves_cascade (y ∷ more) → asks_cascade (last_cascade y more) ≡ true → Settled expr_laws (t.plain x (g.to_cascades (y ∷ more)))
      unfolding expr_laws expr_over opened
      cascades_settled x y more fits on each sought = second_settled (open_wider (throw_laws inner X) (λ z fits. without_on z) (λ z fits. without_on_half z)) behind_read (apart refl) (t.plain x (g.to_cascades (y ∷ more))) (inr ((x, y ∷ more), inr ((fits, on), (refl, each)), refl)) (cascades_known x y more fits on each sought)
