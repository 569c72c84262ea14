-- Targets and unary expressions at a depth (ECMA-408, 16.29 Unary Expressions, 16.31 Postfix Expressions, 16.32 Assignable Expressions), over primaries there, and over
-- the operands one node less deep.
use Rattle.std.proofs.Common.{◌≡◌, ℕ, zero, suc, ◌<◌, true, false, List, [], ◌∷◌, Some, flat_map, inl, inr, refl, ap, sym, ◌∙◌, arith, subst}
use Rattle.std.specs.List.{AllByRecursion}
use Rattle.dart_base.specs.declared.place.Place.{Place}
use Rattle.dart_token.specs.declared.token.Token.{Token}
use Rattle.dart_token.specs.declared.sign.Sign.{Sign}
use Rattle.dart_token.specs.declared.sign.Sign.TheVariants as s
use Rattle.dart_token.specs.declared.word.Word.TheVariants as w
use Rattle.dart_tree.specs.declared.operator.Operator.{Operator}
use Rattle.dart_tree.specs.LeafTokens.{word_at, operator_tokens}
use Rattle.dart_tree.specs.Depth.{primary_height}
use Rattle.dart_tree.specs.Tree as t
use Rattle.dart_tree.specs.Tree.{Operand, Primary, Selector}
use Rattle.dart_tree.specs.Tokens.{operand_tokens, primary_tokens, selector_tokens}
use Rattle.grammar_laws.specs.Codes.{has}
use Rattle.grammar_laws.specs.Readers.{Reader, always}
use Rattle.grammar_laws.specs.Fronts.{Front, Joint, Several, Either, EitherFit, BothFit, GoesOn, GoodFit, Made, both_spelling}
use Rattle.grammar_laws.proofs.Codes.{clash, has_cases, inside}
use Rattle.dart_syntax.specs.Phrases.{seq_if}
use Rattle.dart_syntax.specs.Leaves as l
use Rattle.dart_syntax.specs.Edges.{opens_dot, opens_nothing, primary_leaves, leaves}
use Rattle.dart_syntax.specs.Expressions as g
use Rattle.dart_syntax.specs.Statements as gs
use Rattle.dart_syntax.specs.Statements.{within}
use Rattle.token_codes.specs.Codes.{class_of, sign_code, these}
use Rattle.token_codes.proofs.Only.{only_sign}
use Rattle.syntax_readers.specs.Combinators.{Open}
use Rattle.syntax_readers.specs.Primaries.{operand_first, selector_first, selectors, primary}
use Rattle.syntax_readers.specs.Levels.{is_bare, whole, selected, target, step_signs, postfix, negating, unary}
use Rattle.syntax_readers.specs.Statements.{stage}
use Rattle.syntax_measures.proofs.Laws.{within_no_deeper, within_fits_by_height, within_fronts_grow}
use Rattle.laws_expr.specs.Nexts.{after_operand, after_primary}
use Rattle.laws_expr.specs.Statements.{InsideReadAt}
use Rattle.laws_expr.proofs.Open.{OpenLaws, open_restated, open_first, Settled, restated_settled, first_kept}
use Rattle.laws_expr.proofs.Chain.{half_operand}
use Rattle.laws_expr.proofs.Functions.{half_primary}
use Rattle.laws_expr.proofs.Stages.{known_at}
use Rattle.laws_expr.proofs.Selected.{alone_super, after_selected, selected_laws, target_laws}
use Rattle.laws_expr.proofs.Postfix.{postfix_laws}
use Rattle.laws_expr.proofs.Postfix as post
use Rattle.laws_expr.proofs.Selected as sel
use Rattle.laws_expr.proofs.Unary.{primary_first, unary_laws, unary_settled}
use Rattle.laws_expr.proofs.Depths.{row_of, RowFits, row_front}
use Rattle.laws_expr.proofs.Rising.{not_bare_at}
use Rattle.laws_expr.proofs.Primary.{PrimaryFits, primary_front}

-- a primary, for the operands one node less deep
abbrev pub UnderFits : ℕ → Primary → Type 0
UnderFits n = ((within n).levels.primary).Fits

abbrev pub under_front : ℕ → Front Token
under_front n = ((within n).levels.primary).front

alone_off : (x : Primary) → is_bare (t.primary x) ≡ false → alone_super x ≡ false
alone_off (t.bare_super word) e = absurd cc
alone_off x e = refl

under_operand : (n : ℕ) (x : Primary) → UnderFits n x → ((within n).levels.row 0).Fits (t.primary x)
unfolding gs.within gs.nodes_over
under_operand zero x fits = (x, fits, refl)
under_operand (suc n) x fits = inl (inl (x, fits, refl))

not_alone : (n : ℕ) (x : Primary) → UnderFits n x → alone_super x ≡ false
not_alone n x fits = alone_off x (not_bare_at n 0 (t.primary x) (under_operand n x fits))

-- what begins a selector, behind `super`
this_sign : (which : Sign) (u : Token) → has (these which) (class_of u) ≡ true → (l.sign which).front (u ∷ [])
this_sign which u h = inr (u.place, ap (λ (v : Token). v ∷ []) (sym (only_sign which u h)))

-- ---- what the grammar says of primaries with selectors, by the number of nodes

abbrev nodes_of : ℕ → g.ExprNodes
nodes_of n = (within n).nodes.expr_nodes

abbrev Parts : Type 0
Parts = Primary × (Selector × List Selector)

abbrev pub ChosenParts : ℕ → Primary × (Selector × List Selector) → Type 0
ChosenParts n =
    EitherFit (BothFit (GoesOn (UnderFits n) (primary_leaves opens_dot)) (BothFit g.member.Fits (AllByRecursion (g.selector_of (within n).nodes.expr_nodes).Fits)))
    (BothFit (GoesOn (UnderFits n) (primary_leaves opens_nothing)) (BothFit (g.bracketed_of (within n).nodes.expr_nodes).Fits (AllByRecursion (g.selector_of (within n).nodes.expr_nodes).Fits)))

abbrev several_front : ℕ → Front Token
several_front n = Several selector_tokens (g.selector_of (within n).nodes.expr_nodes).Fits always (g.selector_of (within n).nodes.expr_nodes).front

abbrev pub chosen_front : ℕ → Front Token
chosen_front n =
    Either (Joint primary_tokens (UnderFits n) (primary_leaves opens_dot) (under_front n) (Joint selector_tokens g.member.Fits always g.member.front (several_front n)))
    (Joint primary_tokens (UnderFits n) (primary_leaves opens_nothing) (under_front n) (Joint selector_tokens (g.bracketed_of (within n).nodes.expr_nodes).Fits always (g.bracketed_of (within n).nodes.expr_nodes).front (several_front n)))

abbrev parts_tokens : Primary × (Selector × List Selector) → List Token
parts_tokens = both_spelling primary_tokens (both_spelling selector_tokens (flat_map selector_tokens))

abbrev short_front : ℕ → Front Token
short_front n = Joint primary_tokens (UnderFits n) g.primary_assigns (under_front n) (l.one_of step_signs).front

abbrev long_front : ℕ → Front Token
long_front n = Joint parts_tokens (ChosenParts n) g.ends_in_target (chosen_front n) (l.one_of step_signs).front

chosen_in : (n : ℕ) (x : Parts) → ChosenParts n x → (g.selected_over (within n).levels).Fits x
unfolding gs.within gs.nodes_over
chosen_in zero x fits = fits
chosen_in (suc n) x fits = fits

chosen_out : (n : ℕ) (x : Parts) → (g.selected_over (within n).levels).Fits x → ChosenParts n x
unfolding gs.within gs.nodes_over
chosen_out zero x fits = fits
chosen_out (suc n) x fits = fits

chosen_begins : (n : ℕ) (ts : List Token) → chosen_front n ts → (g.selected_over (within n).levels).front ts
unfolding gs.within gs.nodes_over
chosen_begins zero ts f = f
chosen_begins (suc n) ts f = f

begins_chosen : (n : ℕ) (ts : List Token) → (g.selected_over (within n).levels).front ts → chosen_front n ts
unfolding gs.within gs.nodes_over
begins_chosen zero ts f = f
begins_chosen (suc n) ts f = f

-- the grammar's fronts of what an operator steps
abbrev grammar_short : ℕ → Front Token
grammar_short n = (seq_if g.primary_assigns (within n).levels.primary g.steps).front

abbrev grammar_long : ℕ → Front Token
grammar_long n = (seq_if g.ends_in_target (g.selected_over (within n).levels) g.steps).front

short_begins : (n : ℕ) (ts : List Token) → short_front n ts → grammar_short n ts
unfolding gs.within gs.nodes_over
short_begins zero ts f = f
short_begins (suc n) ts f = f

begins_short : (n : ℕ) (ts : List Token) → grammar_short n ts → short_front n ts
unfolding gs.within gs.nodes_over
begins_short zero ts f = f
begins_short (suc n) ts f = f

long_begins : (n : ℕ) (ts : List Token) → long_front n ts → grammar_long n ts
unfolding gs.within gs.nodes_over
long_begins zero ts f = f
long_begins (suc n) ts f = f

begins_long : (n : ℕ) (ts : List Token) → grammar_long n ts → long_front n ts
unfolding gs.within gs.nodes_over
begins_long zero ts f = f
begins_long (suc n) ts f = f

module _ (n : ℕ) where
  primary_there : (x : Primary) → (g.primary_of (within (suc n)).nodes.expr_nodes).Fits x → UnderFits (suc n) x
  unfolding gs.within gs.nodes_over
  primary_there x fits = fits

  primary_here : (x : Primary) → UnderFits (suc n) x → (g.primary_of (within (suc n)).nodes.expr_nodes).Fits x
  unfolding gs.within gs.nodes_over
  primary_here x fits = fits

  front_here : (ts : List Token) → under_front (suc n) ts → (g.primary_of (within (suc n)).nodes.expr_nodes).front ts
  unfolding gs.within gs.nodes_over
  front_here ts f = f

  down : (x : Primary) → PrimaryFits (suc n) x → alone_super x ≡ false → primary_height x < suc n → UnderFits n x
  down x (inl fits) plain low = (within_fits_by_height (suc n) n).levels.primary.fits x (primary_there x fits) (omega (arith, low))
  down x (inr (word, fits, is)) plain low = clash (alone_super x) (ap alone_super (sym is)) plain

  up : (x : Primary) → UnderFits n x → PrimaryFits (suc n) x × ((alone_super x ≡ false) × (primary_height x < suc n))
  up x fits = (inl (primary_here x ((within_fronts_grow n (suc n) (omega arith)).levels.primary.fits x fits)), (not_alone n x fits, omega (arith, (within_no_deeper n).levels.primary.at_most x fits)))

  rise : (ts : List Token) → under_front n ts → primary_front (suc n) ts
  rise ts f = inl (front_here ts ((within_fronts_grow n (suc n) (omega arith)).levels.primary.begins ts f))

  selector_begins : (u : Token) → has selector_first (class_of u) ≡ true → (g.selector_of (within (suc n)).nodes.expr_nodes).front (u ∷ [])
  unfolding gs.within gs.nodes_over
  selector_begins u h = elim (has_cases (these s.Dot) (sign_code s.LeftBracket ∷ sign_code s.LeftParenthesis ∷ []) (class_of u) h) [
    | inl k ↦ inl (inl (this_sign s.Dot u k))
    | inr k ↦ elim (has_cases (these s.LeftBracket) (these s.LeftParenthesis) (class_of u) k) [
      | inl k ↦ inr (inl (inl (this_sign s.LeftBracket u k)))
      | inr k ↦ inr (inr (inl (this_sign s.LeftParenthesis u k)))
    ]
  ]

  goes_on : (word : Place) (u : Token) → has selector_first (class_of u) ≡ true → primary_front (suc n) (word_at word w.Super ∷ u ∷ [])
  goes_on word u h = inl (inr (inr (inl (inr (word, u ∷ [], tt, refl, refl, selector_begins u h)))))

  module _ (Below : InsideReadAt n) (Q : OpenLaws (primary (stage (suc n)).nodes.exprs) primary_tokens (PrimaryFits (suc n)) (primary_front (suc n)) primary_first after_primary half_primary) where
    abbrev read : Reader Token (Open Operand)
    read = selected (suc n) (primary (stage (suc n)).nodes.exprs) (selectors (stage n).nodes.exprs)

    abbrev ChosenFits : Operand → Type 0
    ChosenFits = Made post.chosen (ChosenParts n)

    pub selected_at : OpenLaws read operand_tokens (EitherFit (Made t.primary (PrimaryFits (suc n))) ChosenFits) (Either (primary_front (suc n)) (chosen_front n)) primary_first after_selected (half_operand 12)
    selected_at = selected_laws (suc n) (known_at n Below) Q down up rise goes_on

    -- ---- targets

    abbrev ReadTargets : Operand → Type 0
    ReadTargets = EitherFit (Made t.primary (GoodFit (PrimaryFits (suc n)) g.primary_assigns)) (Made post.chosen (GoodFit (ChosenParts n) g.ends_in_target))

    target_forth : (x : Operand) → ReadTargets x → ((within (suc n)).levels.target).Fits x
    unfolding gs.within gs.nodes_over
    target_forth x (inl (p, (inl fits, on), is)) = inl (p, (fits, on), is)
    target_forth x (inl (p, (inr (word, at, same), on), is)) = clash (g.primary_assigns p) on (ap g.primary_assigns (sym same))
    target_forth x (inr (parts, (fits, on), is)) = inr (parts, (chosen_in n parts fits, on), is)

    target_back : (x : Operand) → ((within (suc n)).levels.target).Fits x → ReadTargets x
    unfolding gs.within gs.nodes_over
    target_back x (inl (p, (fits, on), is)) = inl (p, (inl fits, on), is)
    target_back x (inr (parts, (fits, on), is)) = inr (parts, (chosen_out n parts fits, on), is)

    target_out : (ts : List Token) → Either (primary_front (suc n)) (chosen_front n) ts → ((within (suc n)).levels.target).front ts
    unfolding gs.within gs.nodes_over
    target_out ts (inl (inl f)) = inl f
    target_out ts (inl (inr f)) = inl (inr (inr (inl (inl f))))
    target_out ts (inr f) = inr (chosen_begins n ts f)

    target_into : (ts : List Token) → ((within (suc n)).levels.target).front ts → Either (primary_front (suc n)) (chosen_front n) ts
    unfolding gs.within gs.nodes_over
    target_into ts (inl f) = inl (inl f)
    target_into ts (inr f) = inr (begins_chosen n ts f)

    pub target_at : OpenLaws (target read) operand_tokens ((within (suc n)).levels.target).Fits ((within (suc n)).levels.target).front primary_first (after_operand 12) (half_operand 12)
    target_at = open_restated (target_laws (suc n) (known_at n Below) Q down up rise goes_on) target_forth target_back target_out target_into

    -- a `>` behind them is given as a half, or stopped before, where that holds of primaries
    module _ (next : ℕ) (known : (x : Primary) → PrimaryFits (suc n) x → leaves next (t.primary x) ≡ true → Settled Q x) where
      selected_known : (x : Operand) → EitherFit (Made t.primary (PrimaryFits (suc n))) ChosenFits x → leaves next x ≡ true → Settled selected_at x
      unfolding selected_at
      selected_known x (inl (p, fits, is)) left = subst (Settled selected_at) is (sel.alone_settled (suc n) (known_at n Below) Q down up rise goes_on p fits (known p fits (subst (λ (z : Operand). leaves next z ≡ true) (sym is) left)))
      selected_known x (inr fits) left = sel.chosen_settled (suc n) (known_at n Below) Q down up rise goes_on x fits

      pub target_known : (x : Operand) → ((within (suc n)).levels.target).Fits x → leaves next x ≡ true → Settled target_at x
      unfolding target_at selected_at
      target_known x fits left =
          let w = sel.target_out (suc n) (known_at n Below) Q down up rise goes_on x (target_back x fits) in
          restated_settled (target_laws (suc n) (known_at n Below) Q down up rise goes_on) target_forth target_back target_out target_into x (sel.target_settled (suc n) (known_at n Below) Q down up rise goes_on x w.1 (selected_known x w.0 left))

    -- ---- unary expressions, over the operands one node less deep

    module _ (Lower : OpenLaws ((stage n).levels.row 0) operand_tokens (RowFits n 0) (row_front n 0) operand_first (after_operand 12) (half_operand 12))
        (Target : OpenLaws (stage n).levels.target operand_tokens ((within n).levels.target).Fits ((within n).levels.target).front primary_first (after_operand 12) (half_operand 12))
        (Whole : OpenLaws (whole ((stage n).levels.row 0)) operand_tokens (row_of n 0).Fits (row_of n 0).front operand_first (after_operand 12) (half_operand 12)) where
      abbrev prefixes : (Operand → Type 0) → List Sign → Operand → Type 0
      prefixes F signs = Made (λ (x : Operator × Operand). t.prefix x.0 x.1) (BothFit (l.one_of signs).Fits F)

      abbrev prefixes_front : Front Token → List Sign → Front Token
      prefixes_front front signs = Joint operator_tokens (l.one_of signs).Fits always (l.one_of signs).front front

      abbrev PostfixFits : Operand → Type 0
      PostfixFits = EitherFit (Made t.primary (PrimaryFits (suc n))) (EitherFit (Made post.chosen (ChosenParts n))
          (EitherFit (Made (λ (x : Primary × Operator). t.postfix x.0 t.no_selectors (Some x.1)) (BothFit (GoesOn (UnderFits n) g.primary_assigns) (l.one_of step_signs).Fits))
          (Made (λ (x : Parts × Operator). t.postfix x.0.0 (g.one_or_more_selectors x.0.1) (Some x.1)) (BothFit (GoesOn (ChosenParts n) g.ends_in_target) (l.one_of step_signs).Fits))))

      abbrev postfix_front : Front Token
      postfix_front = Either (primary_front (suc n)) (Either (chosen_front n) (Either (short_front n) (long_front n)))

      abbrev UnaryFits : Operand → Type 0
      UnaryFits = EitherFit (prefixes (RowFits n 0) negating) (EitherFit (prefixes (row_of n 0).Fits (s.Bang ∷ [])) (EitherFit (prefixes ((within n).levels.target).Fits step_signs) PostfixFits))

      abbrev unary_front : Front Token
      unary_front = Either (prefixes_front (row_front n 0) negating) (Either (prefixes_front (row_of n 0).front (s.Bang ∷ [])) (Either (prefixes_front ((within n).levels.target).front step_signs) postfix_front))

      forth : (x : Operand) → UnaryFits x → RowFits (suc n) 0 x
      unfolding gs.within gs.nodes_over
      forth x (inl fits) = inl (inr (inl fits))
      forth x (inr (inl fits)) = inl (inr (inr (inl fits)))
      forth x (inr (inr (inl fits))) = inl (inr (inr (inr fits)))
      forth x (inr (inr (inr (inl (p, inl fits, is))))) = inl (inl (inl (p, fits, is)))
      forth x (inr (inr (inr (inl (p, inr (word, at, same), is))))) = inr (word, at, ap t.primary same ∙ is)
      forth x (inr (inr (inr (inr (inl (parts, fits, is)))))) = inl (inl (inr (inl (parts, chosen_in n parts fits, is))))
      forth x (inr (inr (inr (inr (inr (inl fits)))))) = inl (inl (inr (inr (inl fits))))
      forth x (inr (inr (inr (inr (inr (inr (parts, ((fits, on), step), is))))))) = inl (inl (inr (inr (inr (parts, ((chosen_in n parts.0 fits, on), step), is)))))

      back : (x : Operand) → RowFits (suc n) 0 x → UnaryFits x
      unfolding gs.within gs.nodes_over
      back x (inl (inr (inl fits))) = inl fits
      back x (inl (inr (inr (inl fits)))) = inr (inl fits)
      back x (inl (inr (inr (inr fits)))) = inr (inr (inl fits))
      back x (inl (inl (inl (p, fits, is)))) = inr (inr (inr (inl (p, inl fits, is))))
      back x (inr (word, at, is)) = inr (inr (inr (inl (t.bare_super word, inr (word, at, refl), is))))
      back x (inl (inl (inr (inl (parts, fits, is))))) = inr (inr (inr (inr (inl (parts, chosen_out n parts fits, is)))))
      back x (inl (inl (inr (inr (inl fits))))) = inr (inr (inr (inr (inr (inl fits)))))
      back x (inl (inl (inr (inr (inr (parts, ((fits, on), step), is)))))) = inr (inr (inr (inr (inr (inr (parts, ((chosen_out n parts.0 fits, on), step), is))))))

      out : (ts : List Token) → unary_front ts → row_front (suc n) 0 ts
      unfolding gs.within gs.nodes_over
      out ts (inl f) = inl (inr (inl f))
      out ts (inr (inl f)) = inl (inr (inr (inl f)))
      out ts (inr (inr (inl f))) = inl (inr (inr (inr f)))
      out ts (inr (inr (inr (inl (inl f))))) = inl (inl (inl f))
      out ts (inr (inr (inr (inl (inr f))))) = inr f
      out ts (inr (inr (inr (inr (inl f))))) = inl (inl (inr (inl (chosen_begins n ts f))))
      out ts (inr (inr (inr (inr (inr (inl f)))))) = inl (inl (inr (inr (inl (short_begins n ts f)))))
      out ts (inr (inr (inr (inr (inr (inr f)))))) = inl (inl (inr (inr (inr (long_begins n ts f)))))

      into : (ts : List Token) → row_front (suc n) 0 ts → unary_front ts
      unfolding gs.within gs.nodes_over
      into ts (inl (inr (inl f))) = inl f
      into ts (inl (inr (inr (inl f)))) = inr (inl f)
      into ts (inl (inr (inr (inr f)))) = inr (inr (inl f))
      into ts (inl (inl (inl f))) = inr (inr (inr (inl (inl f))))
      into ts (inr f) = inr (inr (inr (inl (inr f))))
      into ts (inl (inl (inr (inl f)))) = inr (inr (inr (inr (inl (begins_chosen n ts f)))))
      into ts (inl (inl (inr (inr (inl f))))) = inr (inr (inr (inr (inr (inl (begins_short n ts f))))))
      into ts (inl (inl (inr (inr (inr f))))) = inr (inr (inr (inr (inr (inr (begins_long n ts f))))))

      pub unary_at : OpenLaws (unary (postfix (suc n) read) ((stage n).levels.row 0) (stage n).levels.target) operand_tokens (RowFits (suc n) 0) (row_front (suc n) 0) operand_first (after_operand 12) (half_operand 12)
      unary_at = open_first (open_restated (unary_laws (postfix_laws (suc n) selected_at down up rise) Lower Target Whole) forth back out into) (inside refl)

      module _ (next : ℕ) (known : (x : Primary) → PrimaryFits (suc n) x → leaves next (t.primary x) ≡ true → Settled Q x) (low : (x : Operand) → RowFits n 0 x → leaves next x ≡ true → Settled Lower x)
          (named : (x : Operand) → ((within n).levels.target).Fits x → leaves next x ≡ true → Settled Target x) (plain : (x : Operand) → (row_of n 0).Fits x → leaves next x ≡ true → Settled Whole x) where
        postfix_known : (x : Operand) → PostfixFits x → leaves next x ≡ true → Settled (postfix_laws (suc n) selected_at down up rise) x
        postfix_known x (inl fits) left = post.unstepped_settled (suc n) selected_at down up rise x (inl fits) (selected_known next known x (inl fits) left)
        postfix_known x (inr (inl fits)) left = post.unstepped_settled (suc n) selected_at down up rise x (inr fits) (selected_known next known x (inr fits) left)
        postfix_known x (inr (inr fits)) left = post.stepped_settled (suc n) selected_at down up rise x fits

        pub unary_known : (x : Operand) → RowFits (suc n) 0 x → leaves next x ≡ true → Settled unary_at x
        unfolding unary_at
        unary_known x fits left =
            let read = unary_laws (postfix_laws (suc n) selected_at down up rise) Lower Target Whole in
            first_kept (open_restated read forth back out into) (inside refl) x (restated_settled read forth back out into x (unary_settled (postfix_laws (suc n) selected_at down up rise) Lower Target Whole next low plain named postfix_known x (back x fits) left))
