-- Operands of each row of operators, and expressions, are nowhere wrong as expressions.
use Rattle.std.proofs.Common.{◌≡◌, ◌⊎◌, ℕ, zero, suc, ◌≤◌, arith, Bool, true, false, List, [], ◌∷◌, ◌++◌, length, inl, inr, refl, sym, ap, ◌∙◌, subst}
use Rattle.dart_base.specs.declared.place.Place.{Place}
use Rattle.dart_token.specs.declared.token.Token.{Token}
use Rattle.dart_token.specs.declared.sign.Sign.{Sign}
use Rattle.dart_token.specs.declared.sign.Sign.TheVariants as s
use Rattle.dart_token.specs.declared.word.Word.TheVariants as w
use Rattle.dart_tree.specs.declared.operator.Operator.{Operator}
use Rattle.dart_tree.specs.LeafTokens.{sign_at, word_at, maybe_sign, operator_tokens, type_tokens}
use Rattle.dart_tree.specs.Tree as t
use Rattle.dart_tree.specs.Tree.{Operand, Primary, Selector, Selectors, Value}
use Rattle.dart_tree.specs.Tokens.{expr_tokens, primary_tokens, operand_tokens, selector_tokens, selectors_tokens, value_tokens, arguments_tokens, tails_tokens, cascades_tokens}
use Rattle.dart_syntax.specs.Phrases.{Phrase, ◌~◌, ◌<|>◌, some_if, either, made, such}
use Rattle.dart_syntax.specs.Leaves.{one_of, word}
use Rattle.dart_syntax.specs.Levels.{sign_level}
use Rattle.dart_syntax.specs.Edges.{compares, leaves, leaves_less}
use Rattle.dart_syntax.specs.Expressions.{ExprNodes, Levels, to_tails, one_or_more_selectors, to_cascades, primary_assigns, assignment_signs, assigning, cascaded_over, expr_over, primary_of, once, chain, shifting, steps, selected_over, postfix_over, target_of, unary_over, relational_over, Row, chained, shifts, single, comparison, logical, choice, no_row, rows, row_at, row_over, rows_over, levels_over, flat_levels}
use Rattle.dart_syntax.specs.Statements.{nodes_over, no_nodes, within}
use Rattle.syntax_measures.proofs.Scanning.{State, less, greater, other, begun, named, compared, second, called, free, step, scan, scan_append, free_stays}
use Rattle.syntax_measures.proofs.Calling.{Calls, arguments_call}
use Rattle.syntax_measures.proofs.ScanningOperands.{Entry, Tight, Second, from_begun, from_compared, Scans, made_scans, either_scans, all_other, operator_other, Frees, opened_end, other_frees, shifting_frees, prefixed_scans, chain_scans, bracketed_end, selectors_end, literal_scans, primary_scans}

-- ---- the rows up to `|`, from both states

pub record NodesScan (from : State) (End : State → Type 0) (nodes : ExprNodes) : Type 0 where
  pub literal : Scans from End primary_tokens nodes.literal
  pub bare : Scans from End operand_tokens nodes.bare
  pub arguments : Calls arguments_tokens nodes.arguments

pub record TightScan (from : State) (End : State → Type 0) (levels : Levels) : Type 0 where
  pub primary : Scans from End primary_tokens levels.primary
  pub bracketed : (x : Selector) → levels.bracketed.Fits x → (z : State) → End z → End (scan z (selector_tokens x))
  pub target : Scans from End operand_tokens levels.target
  pub postfix : Scans from End operand_tokens levels.postfix
  pub row : (i : ℕ) → i ≤ 6 → Scans from End operand_tokens (levels.row i)

-- a row whose signs matter to no state
abbrev is_tight : Row → Bool
is_tight (chained sign more) = all_other (sign ∷ more)
is_tight shifts = true
is_tight row = false

tight_at : (i : ℕ) → i ≤ 5 → is_tight (row_at rows i) ≡ true
tight_at zero le = refl
tight_at (suc zero) le = refl
tight_at (suc (suc zero)) le = refl
tight_at (suc (suc (suc zero))) le = refl
tight_at (suc (suc (suc (suc zero)))) le = refl
tight_at (suc (suc (suc (suc (suc zero))))) le = refl
tight_at (suc (suc (suc (suc (suc (suc i)))))) le = absurd (omega arith)

module _ {from : State} {End : State → Type 0} (E : Entry from End) where
  bare_scans : Scans from End operand_tokens (made operand_tokens (λ x. t.primary (t.bare_super x)) (word w.Super))
  unfolding operand_tokens primary_tokens
  bare_scans = made_scans operand_tokens (λ x fits. opened_end E other refl [])

  pub nodes_scan : (n : ℕ) → NodesScan from End (within n).nodes.expr_nodes
  unfolding within nodes_over
  nodes_scan zero = record { literal = record { ends = λ x fits. absurd fits }; bare = record { ends = λ x fits. absurd fits }; arguments = arguments_call zero }
  nodes_scan (suc n) = record { literal = literal_scans E (within n).nodes.expr_nodes; bare = bare_scans; arguments = arguments_call (suc n) }

  operand_scans : {p : Phrase Primary} → Scans from End primary_tokens p → Scans from End operand_tokens (made operand_tokens t.primary p)
  unfolding operand_tokens
  operand_scans P = made_scans operand_tokens (λ x fits. P.ends x fits)

  such_operand_scans : {p : Phrase Primary} → Scans from End primary_tokens p → Scans from End operand_tokens (made operand_tokens t.primary (such primary_assigns p))
  unfolding operand_tokens
  such_operand_scans P = made_scans operand_tokens (λ x fits. P.ends x fits.0)

  module _ {under : Levels} (U : TightScan from End under) where
    -- a primary and its selectors, and what stands behind them
    selectors_then : (x : Primary) (more : Selectors) (rest : List Token) → under.primary.Fits x → ((z : State) → End z → End (scan z (selectors_tokens more))) → ((z : State) → End z → End (scan z rest)) → End (scan from (primary_tokens x ++ (selectors_tokens more ++ rest)))
    selectors_then x more rest fits through after = subst End (sym (
        scan_append from (primary_tokens x) (selectors_tokens more ++ rest)
        ∙ scan_append (scan from (primary_tokens x)) (selectors_tokens more) rest))
        (after _ (through (scan from (primary_tokens x)) (U.primary.ends x fits)))

    selected_through : (x : Primary × (Selector × List Selector)) → (selected_over under).Fits x → (z : State) → End z → End (scan z (selectors_tokens (one_or_more_selectors x.1)))
    selected_through x (inl fits) z ends = selectors_end E under.bracketed U.bracketed (x.1.0 ∷ x.1.1) (inl fits.1.0, fits.1.1) z ends
    selected_through x (inr fits) z ends = selectors_end E under.bracketed U.bracketed (x.1.0 ∷ x.1.1) (inr fits.1.0, fits.1.1) z ends

    selected_primary : (x : Primary × (Selector × List Selector)) → (selected_over under).Fits x → under.primary.Fits x.0
    selected_primary x (inl fits) = fits.0.0
    selected_primary x (inr fits) = fits.0.0

    selected_end : (x : Primary × (Selector × List Selector)) (rest : List Token) → (selected_over under).Fits x → ((z : State) → End z → End (scan z rest)) → End (scan from (primary_tokens x.0 ++ (selectors_tokens (one_or_more_selectors x.1) ++ rest)))
    selected_end x rest fits after = selectors_then x.0 (one_or_more_selectors x.1) rest (selected_primary x fits) (selected_through x fits) after

    stepped : (x : Operator) → steps.Fits x → (z : State) → End z → End (scan z (operator_tokens x))
    stepped x fits z ends = subst End (sym ((other_frees E (s.PlusPlus ∷ s.MinusMinus ∷ []) refl).frees x fits z ends)) E.free_end

    postfix_scans : Scans from End operand_tokens (postfix_over under)
    unfolding operand_tokens selectors_tokens
    postfix_scans = either_scans
        (made_scans operand_tokens (λ x fits. selected_end x [] fits (λ z ends. ends)))
        (either_scans (made_scans operand_tokens (λ x fits. selectors_then x.0 t.no_selectors (operator_tokens x.1) fits.0.0 (λ z ends. ends) (stepped x.1 fits.1)))
        (made_scans operand_tokens (λ x fits. selected_end x.0 (operator_tokens x.1) fits.0.0 (stepped x.1 fits.1))))

    target_scans : {p : Phrase Primary} → Scans from End primary_tokens p → Scans from End operand_tokens (target_of p under)
    unfolding operand_tokens
    target_scans P = either_scans (such_operand_scans P) (made_scans operand_tokens (λ x fits. selected_end x [] fits.0 (λ z ends. ends)))

    unary_scans : (bare : Phrase Operand) → Scans from End operand_tokens (unary_over bare under)
    unary_scans bare = either_scans (prefixed_scans E (s.Minus ∷ s.Tilde ∷ []) refl (either (under.row 0) bare))
        (either_scans (prefixed_scans E (s.Bang ∷ []) refl (under.row 0)) (prefixed_scans E (s.PlusPlus ∷ s.MinusMinus ∷ []) refl under.target))

  module _ {inner : ExprNodes} (I : NodesScan from End inner) where
    tight_row : (row : Row) → is_tight row ≡ true → {under : Phrase Operand} → Scans from End operand_tokens under → Scans from End operand_tokens (row_over row inner under)
    tight_row (chained sign more) tight {under} P = chain_scans E (either_scans P I.bare) (other_frees E (sign ∷ more) tight) under (sign_level sign)
    tight_row shifts tight {under} P = chain_scans E (either_scans P I.bare) (shifting_frees E) under (sign_level s.ShiftLeft)
    tight_row (single sign more) tight P = let bad : false ≡ true = tight in absurd cc
    tight_row comparison tight P = let bad : false ≡ true = tight in absurd cc
    tight_row (logical sign) tight P = let bad : false ≡ true = tight in absurd cc
    tight_row choice tight P = let bad : false ≡ true = tight in absurd cc
    tight_row no_row tight P = let bad : false ≡ true = tight in absurd cc

    tight_rows : {unary : Phrase Operand} → Scans from End operand_tokens unary → (under : ℕ → Phrase Operand) → ((i : ℕ) → i ≤ 6 → Scans from End operand_tokens (under i)) → (i : ℕ) → i ≤ 6 → Scans from End operand_tokens (rows_over unary inner under i)
    tight_rows N under U zero le = N
    tight_rows N under U (suc i) le = either_scans (tight_rows N under U i (omega arith)) (tight_row (row_at rows i) (tight_at i (omega arith)) (U i (omega arith)))

  tight_over : (here inner : ExprNodes) (under : Levels) → NodesScan from End here → NodesScan from End inner → TightScan from End under → TightScan from End (levels_over here inner under)
  tight_over here inner under H I U =
      let levels : Levels = levels_over here inner under in
      let primary : Scans from End primary_tokens levels.primary = primary_scans E here H.literal in
      let postfix : Scans from End operand_tokens levels.postfix = either_scans (operand_scans primary) (postfix_scans U) in
      record {
        primary = primary;
        bracketed = bracketed_end E here H.arguments;
        target = target_scans U primary;
        postfix = postfix;
        row = tight_rows I (either_scans postfix (unary_scans U inner.bare)) under.row U.row;
      }

  tight_flat : (here : ExprNodes) → NodesScan from End here → TightScan from End (flat_levels here)
  tight_flat here H =
      let primary : Scans from End primary_tokens (primary_of here) = primary_scans E here H.literal in
      let operand : Scans from End operand_tokens (made operand_tokens t.primary (primary_of here)) = operand_scans primary in
      record { primary = primary; bracketed = bracketed_end E here H.arguments; target = such_operand_scans primary; postfix = operand; row = λ i le. operand }

  pub tight_within : (n : ℕ) → TightScan from End (within n).levels
  unfolding within
  tight_within zero = tight_flat no_nodes.expr_nodes (nodes_scan zero)
  tight_within (suc n) = tight_over (nodes_over n (within n)).expr_nodes (within n).nodes.expr_nodes (within n).levels (nodes_scan (suc n)) (nodes_scan n) (tight_within n)

-- ---- all rows, from the beginning

abbrev pub Loose : State → Type 0
Loose named = Unit {0}
Loose called = Unit {0}
Loose free = Unit {0}
Loose second = Unit {0}
Loose z = ⊥

pub loose_freed : (z : State) → Loose z → step z other ≡ free
loose_freed named loose = refl
loose_freed called loose = refl
loose_freed free loose = refl
loose_freed second loose = refl
loose_freed z loose = absurd loose

tight_loose : (z : State) → Tight z → Loose z
tight_loose named tight = tt
tight_loose called tight = tt
tight_loose free tight = tt
tight_loose z tight = absurd tight

second_loose : (z : State) → Second z → Loose z
second_loose second ends = tt
second_loose free ends = tt
second_loose z ends = absurd ends

loosened : {A : Type 0} {tokens : A → List Token} {p : Phrase A} → Scans begun Tight tokens p → Scans begun Loose tokens p
loosened {A} {tokens} P = record { ends = λ x fits. tight_loose (scan begun (tokens x)) (P.ends x fits) }

-- behind an operand where another token leads to where anything may come
freed_end : (p : Phrase Operand) → Scans begun Loose operand_tokens p → (x : Operand) → p.Fits x → (ts rest : List Token) → ((z : State) → Loose z → scan z ts ≡ free) → Loose (scan begun (operand_tokens x ++ (ts ++ rest)))
freed_end p P x fits ts rest frees = subst Loose (sym (
    scan_append begun (operand_tokens x) (ts ++ rest)
    ∙ scan_append (scan begun (operand_tokens x)) ts rest
    ∙ ap (λ (z : State). scan z rest) (frees (scan begun (operand_tokens x)) (P.ends x fits))
    ∙ free_stays rest)) tt

-- a comparison leads behind `<`, or to where anything may come
less_leads : (z : State) → Tight z → (step z less ≡ compared) ⊎ (step z less ≡ free)
less_leads named tight = inl refl
less_leads called tight = inr refl
less_leads free tight = inr refl
less_leads z tight = absurd tight

greater_leads : (z : State) → Tight z → step z greater ≡ free
greater_leads named tight = refl
greater_leads called tight = refl
greater_leads free tight = refl
greater_leads z tight = absurd tight

less_compares : (x : Operator) → (one_of (s.Less ∷ [])).Fits x → (z : State) → Tight z → (scan z (operator_tokens x) ≡ compared) ⊎ (scan z (operator_tokens x) ≡ free)
less_compares x (inl (place, anything, is)) z tight = subst (λ (c : Operator). (scan z (operator_tokens c) ≡ compared) ⊎ (scan z (operator_tokens c) ≡ free)) is (less_leads z tight)
less_compares x (inr fits) z tight = absurd fits

greater_frees : (x : Operator) → (one_of (s.Greater ∷ s.LessEqual ∷ s.GreaterEqual ∷ [])).Fits x → (z : State) → Tight z → scan z (operator_tokens x) ≡ free
greater_frees x (inl (place, anything, is)) z tight = ap (λ (c : Operator). scan z (operator_tokens c)) (sym is) ∙ greater_leads z tight
greater_frees x (inr fits) z tight = operator_other (s.LessEqual ∷ s.GreaterEqual ∷ []) refl x fits z ∙ from_begun.freed z tight

-- behind an operand that is tight
tight_end : (p : Phrase Operand) → Scans begun Tight operand_tokens p → (x : Operand) → p.Fits x → (ts rest : List Token) → ((z : State) → Tight z → scan z ts ≡ free) → Loose (scan begun (operand_tokens x ++ (ts ++ rest)))
tight_end p P x fits ts rest frees = subst Loose (sym (
    scan_append begun (operand_tokens x) (ts ++ rest)
    ∙ scan_append (scan begun (operand_tokens x)) ts rest
    ∙ ap (λ (z : State). scan z rest) (frees (scan begun (operand_tokens x)) (P.ends x fits))
    ∙ free_stays rest)) tt

module _ {under : Phrase Operand} (U : Scans begun Tight operand_tokens under) (V : Scans compared Second operand_tokens under) {inner : ExprNodes} (I : NodesScan begun Tight inner) where
  compared_end : (x : Operand) → under.Fits x → (z : State) → (z ≡ compared) ⊎ (z ≡ free) → Loose (scan z (operand_tokens x ++ []))
  compared_end x fits z (inl is) = subst (λ (y : State). Loose (scan y (operand_tokens x ++ []))) (sym is) (subst Loose (sym (scan_append compared (operand_tokens x) [])) (second_loose (scan compared (operand_tokens x)) (V.ends x fits)))
  compared_end x fits z (inr is) = subst (λ (y : State). Loose (scan y (operand_tokens x ++ []))) (sym is) (subst Loose (sym (free_stays (operand_tokens x ++ []))) tt)

  less_scans : Scans begun Loose operand_tokens (once leaves_less (under <|> inner.bare) (one_of (s.Less ∷ [])) under)
  unfolding operand_tokens tails_tokens
  less_scans = made_scans operand_tokens (λ x fits. subst Loose (sym (
      scan_append begun (operand_tokens x.0) (operator_tokens x.1.0 ++ (operand_tokens x.1.1 ++ []))
      ∙ scan_append (scan begun (operand_tokens x.0)) (operator_tokens x.1.0) (operand_tokens x.1.1 ++ [])))
      (compared_end x.1.1 fits.1.1 _ (less_compares x.1.0 fits.1.0 (scan begun (operand_tokens x.0)) ((either_scans U I.bare).ends x.0 fits.0.0))))

  comparison_scans : Scans begun Loose operand_tokens (relational_over inner under)
  unfolding operand_tokens tails_tokens
  comparison_scans = either_scans less_scans
      (either_scans (made_scans operand_tokens (λ x fits. tight_end (under <|> inner.bare) (either_scans U I.bare) x.0 fits.0.0 (operator_tokens x.1.0) _ (greater_frees x.1.0 fits.1.0)))
      (either_scans (made_scans operand_tokens (λ x fits. freed_end under (loosened U) x.0 fits.0.0 (word_at x.1.0 w.Is ∷ []) (maybe_sign x.1.1.0 s.Bang ++ type_tokens x.1.1.1) (λ z loose. loose_freed z loose)))
      (made_scans operand_tokens (λ x fits. freed_end under (loosened U) x.0 fits.0.0 (word_at x.1.0 w.As ∷ []) (type_tokens x.1.1) (λ z loose. loose_freed z loose)))))

module _ {first : Phrase Operand} (F : Scans begun Loose operand_tokens first) {operator : Phrase Operator} (O : Frees Loose operator) (operand : Phrase Operand) where
  loose_once : (may : Operand → Bool) → Scans begun Loose operand_tokens (once may first operator operand)
  unfolding operand_tokens tails_tokens
  loose_once may = made_scans operand_tokens (λ x fits. freed_end first F x.0 fits.0.0 (operator_tokens x.1.0) _ (O.frees x.1.0 fits.1.0))

  loose_tails : (next : ℕ) (x : Operand) (more : List (Operator × Operand)) → first.Fits x → (some_if (λ y. leaves next y.1) (operator ~ operand)).Fits more → Loose (scan begun (operand_tokens x ++ tails_tokens (to_tails more)))
  unfolding tails_tokens
  loose_tails next x [] fits more_fit = let bad : true ≡ false = more_fit.0 in absurd cc
  loose_tails next x (y ∷ ys) fits more_fit = freed_end first F x fits (operator_tokens y.0) (operand_tokens y.1 ++ tails_tokens (to_tails ys)) (O.frees y.0 more_fit.1.0.0)

  loose_chain : (next : ℕ) → Scans begun Loose operand_tokens (chain next first operator operand)
  unfolding operand_tokens
  loose_chain next = made_scans operand_tokens (λ x fits. loose_tails next x.0 x.1 fits.0.0 fits.1)

others_free : (xs : List Sign) → all_other xs ≡ true → Frees Loose (one_of xs)
others_free xs all = record { frees = λ x fits z loose. operator_other xs all x fits z ∙ loose_freed z loose }

shift_leads : (z : State) → Loose z → step (step z greater) greater ≡ free
shift_leads named loose = refl
shift_leads called loose = refl
shift_leads free loose = refl
shift_leads second loose = refl
shift_leads z loose = absurd loose

shift_free : (x : Operator) → shifting.Fits x → (z : State) → Loose z → scan z (operator_tokens x) ≡ free
shift_free x (inl fits) z loose = (others_free (s.ShiftLeft ∷ []) refl).frees x fits z loose
shift_free x (inr (places, anything, is)) z loose = ap (λ (c : Operator). scan z (operator_tokens c)) (sym is) ∙ shift_leads z loose

shifts_free : Frees Loose shifting
shifts_free = record { frees = shift_free }

-- each row but the comparison, by the signs that it has
abbrev is_loose : Row → Bool
is_loose (chained sign more) = all_other (sign ∷ more)
is_loose (single sign more) = all_other (sign ∷ more)
is_loose (logical sign) = all_other (sign ∷ [])
is_loose comparison = false
is_loose row = true

loose_at : (i : ℕ) → (is_loose (row_at rows i) ≡ true) ⊎ ((row_at rows i ≡ comparison) × (i ≤ 6))
loose_at zero = inl refl
loose_at (suc zero) = inl refl
loose_at (suc (suc zero)) = inl refl
loose_at (suc (suc (suc zero))) = inl refl
loose_at (suc (suc (suc (suc zero)))) = inl refl
loose_at (suc (suc (suc (suc (suc zero))))) = inl refl
loose_at (suc (suc (suc (suc (suc (suc zero)))))) = inr (refl, omega arith)
loose_at (suc (suc (suc (suc (suc (suc (suc zero))))))) = inl refl
loose_at (suc (suc (suc (suc (suc (suc (suc (suc zero)))))))) = inl refl
loose_at (suc (suc (suc (suc (suc (suc (suc (suc (suc zero))))))))) = inl refl
loose_at (suc (suc (suc (suc (suc (suc (suc (suc (suc (suc zero)))))))))) = inl refl
loose_at (suc (suc (suc (suc (suc (suc (suc (suc (suc (suc (suc i))))))))))) = inl refl

module _ {inner : ExprNodes} (I : NodesScan begun Tight inner) where
  loose_row : (row : Row) → is_loose row ≡ true → {under : Phrase Operand} → Scans begun Loose operand_tokens under → Scans begun Loose operand_tokens (row_over row inner under)
  unfolding operand_tokens
  loose_row (chained sign more) loose {under} P = loose_chain (either_scans P (loosened I.bare)) (others_free (sign ∷ more) loose) under (sign_level sign)
  loose_row shifts loose {under} P = loose_chain (either_scans P (loosened I.bare)) shifts_free under (sign_level s.ShiftLeft)
  loose_row (single sign more) loose {under} P = loose_once (either_scans P (loosened I.bare)) (others_free (sign ∷ more) loose) under (leaves (sign_level sign))
  loose_row comparison loose P = let bad : false ≡ true = loose in absurd cc
  loose_row (logical sign) loose {under} P = loose_chain P (others_free (sign ∷ []) loose) under (sign_level sign)
  loose_row choice loose {under} P = made_scans operand_tokens (λ x fits. freed_end under P x.0 fits.0.0 (sign_at x.1.0 s.Question ∷ []) (expr_tokens x.1.1.0 ++ sign_at x.1.1.1.0 s.Colon ∷ expr_tokens x.1.1.1.1) (λ z loose. loose_freed z loose))
  loose_row no_row loose P = record { ends = λ x fits. absurd fits }

  module _ {under : Levels} (U : TightScan begun Tight under) (V : TightScan compared Second under) (L : (i : ℕ) → Scans begun Loose operand_tokens (under.row i)) where
    each_row : (i : ℕ) → Scans begun Loose operand_tokens (row_over (row_at rows i) inner (under.row i))
    each_row i = elim (loose_at i) [
      | inl loose ↦ loose_row (row_at rows i) loose (L i)
      | inr compares ↦ subst (λ (row : Row). Scans begun Loose operand_tokens (row_over row inner (under.row i))) (sym compares.0) (comparison_scans (U.row i compares.1) (V.row i compares.1) I)
    ]

    loose_rows : {unary : Phrase Operand} → Scans begun Loose operand_tokens unary → (i : ℕ) → Scans begun Loose operand_tokens (rows_over unary inner under.row i)
    loose_rows N zero = N
    loose_rows N (suc i) = either_scans (loose_rows N i) (each_row i)

pub loose_within : (n i : ℕ) → Scans begun Loose operand_tokens ((within n).levels.row i)
unfolding within
loose_within zero i = loosened ((tight_within from_begun zero).row 0 (omega arith))
loose_within (suc n) i = loose_rows (nodes_scan from_begun n) (tight_within from_begun n) (tight_within from_compared n) (loose_within n) (loosened ((tight_within from_begun (suc n)).row 0 (omega arith))) i

-- ---- expressions

assign_leads : (z : State) → Loose z → step (step z greater) other ≡ free
assign_leads named loose = refl
assign_leads called loose = refl
assign_leads free loose = refl
assign_leads second loose = refl
assign_leads z loose = absurd loose

assigning_frees : (x : Operator) → assigning.Fits x → (z : State) → Loose z → scan z (operator_tokens x) ≡ free
assigning_frees x (inl fits) z loose = (others_free assignment_signs refl).frees x fits z loose
assigning_frees x (inr (places, anything, is)) z loose = ap (λ (c : Operator). scan z (operator_tokens c)) (sym is) ∙ assign_leads z loose

module _ (inner : ExprNodes) (levels : Levels) (T : TightScan begun Tight levels) (L : (i : ℕ) → Scans begun Loose operand_tokens (levels.row i)) where
  plain_end : (x : Operand) (xs : List (Place × (Selectors × Value))) → (levels.row (length rows)).Fits x → Loose (scan begun (operand_tokens x ++ cascades_tokens (to_cascades xs)))
  unfolding cascades_tokens
  plain_end x [] fits = subst Loose (sym (scan_append begun (operand_tokens x) [])) ((L (length rows)).ends x fits)
  plain_end x (y ∷ ys) fits = freed_end (levels.row (length rows)) (L (length rows)) x fits (sign_at y.0 s.DotDot ∷ []) (selectors_tokens y.1.0 ++ (value_tokens y.1.1 ++ cascades_tokens (to_cascades ys))) (λ z loose. loose_freed z loose)

  cascaded_end : (x : Operand × List (Place × (Selectors × Value))) → (cascaded_over inner levels).Fits x → Loose (scan begun (operand_tokens x.0 ++ cascades_tokens (to_cascades x.1)))
  cascaded_end x (inl fits) = plain_end x.0 x.1 fits.0
  cascaded_end x (inr fits) = plain_end x.0 x.1 fits.0.0

  expr_over_scans : Scans begun Loose expr_tokens (expr_over inner levels)
  unfolding expr_tokens
  expr_over_scans = either_scans (made_scans expr_tokens (λ x fits. freed_end levels.target (loosened T.target) x.0 fits.0 (operator_tokens x.1.0) (expr_tokens x.1.1) (assigning_frees x.1.0 fits.1.0)))
      (either_scans (made_scans expr_tokens (λ x fits. cascaded_end x fits))
      (made_scans expr_tokens (λ x fits. subst Loose (sym (free_stays (expr_tokens x.1))) tt)))

pub expr_scans : (n : ℕ) → Scans begun Loose expr_tokens (within n).nodes.expr_nodes.expr
unfolding within nodes_over
expr_scans zero = record { ends = λ x fits. absurd fits }
expr_scans (suc n) = expr_over_scans (within n).nodes.expr_nodes (within n).levels (tight_within from_begun n) (loose_within n)
