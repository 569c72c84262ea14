-- The rows of the grammar's table at a depth: each over the row before it, and over the rows one node less deep.
use Rattle.std.proofs.Common.{◌≡◌, ℕ, zero, suc, ◌-◌, ◌≤◌, ◌<◌, ◌⊎◌, Bool, true, false, [], ◌∷◌, ◌+◌, inl, inr, refl, sym, subst, arith, Some}
use Rattle.dart_token.specs.declared.token.Token.{Token}
use Rattle.dart_token.specs.declared.sign.Sign.TheVariants as s
use Rattle.dart_tree.specs.LeafTokens.{type_tokens}
use Rattle.dart_tree.specs.Tree as t
use Rattle.dart_tree.specs.Tree.{Expr, Operand}
use Rattle.dart_tree.specs.Tokens.{expr_tokens, operand_tokens}
use Rattle.grammar_laws.specs.Readers.{Reader}
use Rattle.grammar_laws.specs.Fronts.{Either, EitherFit}
use Rattle.grammar_laws.specs.Laws.{Laws}
use Rattle.dart_syntax.specs.Edges.{nowhere, question, leaves, opens_nothing}
use Rattle.dart_syntax.specs.Expressions as g
use Rattle.dart_syntax.specs.Statements.{within}
use Rattle.token_codes.specs.Codes.{class_of}
use Rattle.syntax_readers.specs.Combinators.{Open}
use Rattle.syntax_readers.specs.Types.{type_first}
use Rattle.syntax_readers.specs.Primaries.{expr_first, operand_first}
use Rattle.syntax_readers.specs.Levels.{whole, row_over, rows_over, assigns}
use Rattle.syntax_readers.specs.Statements.{stage}
use Rattle.laws_type.specs.Nexts.{after_type}
use Rattle.laws_expr.specs.Nexts.{after_operand, after_without}
use Rattle.laws_expr.proofs.Open.{OpenLaws, Settled, open_restated, restated_settled, restated_fits}
use Rattle.laws_expr.proofs.Chain.{half_operand}
use Rattle.laws_expr.proofs.Once.{half_without, conditional_laws, choice_operand_settled, choice_node_settled}
use Rattle.laws_expr.proofs.Rows.{Operands, products, sums, conjunctions, exclusions, disjunctions, equalities, both_hold, one_holds, chained_laws, chained_settled, logical_laws, single_laws, shift_row_laws, shift_settled, comparison_laws, chained_kept, shift_kept, single_kept, logical_kept, comparison_kept, single_settled, logical_settled, comparison_settled}
use Rattle.laws_expr.proofs.Refusing.{refuses, expr_refuses, refused_leaves, never_refused, branch_refuses}
use Rattle.laws_expr.proofs.Shifted.{shift_at}
use Rattle.laws_expr.proofs.Depths.{row_of, RowFits, row_front, down_at, up_at, rise_at, row_down, row_up, row_rise}
use Rattle.laws_expr.proofs.Rising.{rising_at, bare_rises_at, not_bare_at, bare_at, target_down, target_leaves}
use Rattle.grammar_laws.proofs.Codes.{and_true}
use Rattle.grammar_laws.specs.Depth.{is_below}
use Rattle.dart_tree.specs.Depth.{operand_height}
use Rattle.dart_base.specs.declared.place.Place.{Place}
use Rattle.laws_expr.proofs.Stacked.{nodes_at, under_at, node_at, next_forth, next_back, next_out, next_into, plain_forth, plain_back, plain_out, plain_into, whole_forth, whole_back, whole_out, whole_into, rises_at, whole_row, whole_settled, whole_plain, whole_plain_settled}

module _ (n : ℕ) where
  abbrev nodes : g.ExprNodes
  nodes = (within n).nodes.expr_nodes

  -- ---- the rows, one after the other

  module _ {unary : Reader Token (Open Operand)} (r0 : OpenLaws unary operand_tokens (RowFits (suc n) 0) (row_front (suc n) 0) operand_first (after_operand 12) (half_operand 12))
      (lower : (i : ℕ) → i < 12 → OpenLaws (whole ((stage n).levels.row i)) operand_tokens (row_of n i).Fits (row_of n i).front operand_first (after_operand (12 - i)) (half_operand (12 - i))) where
    abbrev pub read : ℕ → Reader Token (Open Operand)
    read i = rows_over (suc n) (stage n).nodes.exprs unary (stage n).levels.row i

    abbrev pub RowLaws : ℕ → ℕ → Type 1
    RowLaws i from = OpenLaws (read i) operand_tokens (RowFits (suc n) i) (row_front (suc n) i) operand_first (after_operand from) (half_operand from)

    abbrev pub PlainLaws : ℕ → ℕ → Type 1
    PlainLaws i from = OpenLaws (read i) operand_tokens (row_of (suc n) i).Fits (row_of (suc n) i).front operand_first (after_operand from) (half_operand from)

    abbrev LowLaws : ℕ → ℕ → Type 1
    LowLaws i from = OpenLaws (whole ((stage n).levels.row i)) operand_tokens (row_of n i).Fits (row_of n i).front operand_first (after_operand from) (half_operand from)

    abbrev operands_at : (i loose : ℕ) → loose < 12 - i → RowLaws i (suc loose) → LowLaws i (suc loose) →
        Operands (suc n) loose (read i) ((stage n).levels.row i) (RowFits (suc n) i) (row_of n i).Fits (RowFits n i) (row_front (suc n) i) (row_of n i).front (row_front n i) operand_first operand_first
    operands_at i loose lt above below = record { above = above; below = below; down = down_at n i; up = up_at n i; rise = rise_at n i; rises = λ x fits. rises_at n i loose x fits opens_nothing lt }

    abbrev plain_operands : (i loose : ℕ) → loose + i < 12 → PlainLaws i (suc loose) → LowLaws i (suc loose) →
        Operands (suc n) loose (read i) ((stage n).levels.row i) (row_of (suc n) i).Fits (row_of n i).Fits (row_of n i).Fits (row_of (suc n) i).front (row_of n i).front (row_of n i).front operand_first operand_first
    plain_operands i loose lt above below = record { above = above; below = below; down = row_down n i; up = row_up n i; rise = row_rise n i; rises = λ x fits. rising_at (suc n) i x fits loose opens_nothing lt }

    -- a `>` behind an operand that leaves shifts, or comparisons, is read as a half with it, or stopped before
    abbrev Asked : ℕ → Type 0
    Asked next = (next ≡ 9) ⊎ (next ≡ 5)

    asked_below : (next : ℕ) → Asked next → next < nowhere
    asked_below next (inl is) = omega (arith, is)
    asked_below next (inr is) = omega (arith, is)

    -- a row as the nodes above it have its operands
    abbrev pub LowAt : ℕ → Type 1
    LowAt i = OpenLaws (whole (read i)) operand_tokens (row_of (suc n) i).Fits (row_of (suc n) i).front operand_first (after_operand (12 - i)) (half_operand (12 - i))

    -- the row that has these nodes besides
    abbrev raised : (i from : ℕ) {q : Reader Token (Open Operand)} → OpenLaws q operand_tokens (EitherFit (RowFits (suc n) i) (node_at n i).Fits) (Either (row_front (suc n) i) (node_at n i).front) operand_first (after_operand from) (half_operand from) →
        OpenLaws q operand_tokens (RowFits (suc n) (suc i)) (row_front (suc n) (suc i)) operand_first (after_operand from) (half_operand from)
    raised i from P = open_restated P (next_forth n i) (next_back n i) (next_out n i) (next_into n i)

    raised_settled : (i from : ℕ) {q : Reader Token (Open Operand)} (P : OpenLaws q operand_tokens (EitherFit (RowFits (suc n) i) (node_at n i).Fits) (Either (row_front (suc n) i) (node_at n i).front) operand_first (after_operand from) (half_operand from)) (x : Operand) → Settled P x → Settled (raised i from P) x
    raised_settled i from P x settled = restated_settled P (next_forth n i) (next_back n i) (next_out n i) (next_into n i) x settled

    module _ (settled0 : (next : ℕ) → Asked next → (x : Operand) → RowFits (suc n) 0 x → leaves next x ≡ true → Settled r0 x)
        (settled_low : (i : ℕ) (lt : i < 12) → i < 7 → (next : ℕ) → Asked next → (x : Operand) → (row_of n i).Fits x → leaves next x ≡ true → Settled (lower i lt) x) where
      pub r1 : RowLaws 1 11
      unfolding rows_over
      r1 = raised 0 11 (chained_laws (stage n).nodes.exprs (nodes_at n) s.Star (s.Slash ∷ s.TildeSlash ∷ s.Percent ∷ []) 12 products refl (operands_at 0 11 (omega arith) r0 (lower 0 (omega arith))))

      pub settled1 : (next : ℕ) → Asked next → (x : Operand) → RowFits (suc n) 1 x → leaves next x ≡ true → Settled r1 x
      unfolding rows_over r1
      settled1 next asked x fits left = raised_settled 0 11 (chained_laws (stage n).nodes.exprs (nodes_at n) s.Star (s.Slash ∷ s.TildeSlash ∷ s.Percent ∷ []) 12 products refl (operands_at 0 11 (omega arith) r0 (lower 0 (omega arith)))) x
          (chained_settled (stage n).nodes.exprs (nodes_at n) s.Star (s.Slash ∷ s.TildeSlash ∷ s.Percent ∷ []) 12 products refl (operands_at 0 11 (omega arith) r0 (lower 0 (omega arith))) next (asked_below next asked) (λ y. settled_low 0 (omega arith) (omega arith) next asked y) (λ y. settled0 next asked y) x (next_back n 0 x fits) left)

      pub r2 : RowLaws 2 10
      unfolding rows_over
      r2 = raised 1 10 (chained_laws (stage n).nodes.exprs (nodes_at n) s.Plus (s.Minus ∷ []) 11 sums refl (operands_at 1 10 (omega arith) r1 (lower 1 (omega arith))))

      pub settled2 : (next : ℕ) → Asked next → (x : Operand) → RowFits (suc n) 2 x → leaves next x ≡ true → Settled r2 x
      unfolding rows_over r2
      settled2 next asked x fits left = raised_settled 1 10 (chained_laws (stage n).nodes.exprs (nodes_at n) s.Plus (s.Minus ∷ []) 11 sums refl (operands_at 1 10 (omega arith) r1 (lower 1 (omega arith)))) x
          (chained_settled (stage n).nodes.exprs (nodes_at n) s.Plus (s.Minus ∷ []) 11 sums refl (operands_at 1 10 (omega arith) r1 (lower 1 (omega arith))) next (asked_below next asked) (λ y. settled_low 1 (omega arith) (omega arith) next asked y) (λ y. settled1 next asked y) x (next_back n 1 x fits) left)

      pub r3 : RowLaws 3 9
      unfolding rows_over
      r3 = raised 2 9 (shift_row_laws (stage n).nodes.exprs (nodes_at n) (operands_at 2 9 (omega arith) r2 (lower 2 (omega arith))) (λ y. settled2 9 (inl refl) y) (λ y. settled_low 2 (omega arith) (omega arith) 9 (inl refl) y))

      pub settled3 : (next : ℕ) → Asked next → (x : Operand) → RowFits (suc n) 3 x → leaves next x ≡ true → Settled r3 x
      unfolding rows_over r3
      settled3 next asked x fits left = raised_settled 2 9 (shift_row_laws (stage n).nodes.exprs (nodes_at n) (operands_at 2 9 (omega arith) r2 (lower 2 (omega arith))) (λ y. settled2 9 (inl refl) y) (λ y. settled_low 2 (omega arith) (omega arith) 9 (inl refl) y)) x
          (shift_settled (stage n).nodes.exprs (nodes_at n) (operands_at 2 9 (omega arith) r2 (lower 2 (omega arith))) (λ y. settled2 9 (inl refl) y) (λ y. settled_low 2 (omega arith) (omega arith) 9 (inl refl) y) next (asked_below next asked) (λ y. settled_low 2 (omega arith) (omega arith) next asked y) (λ y. settled2 next asked y) x (next_back n 2 x fits) left)

      pub r4 : RowLaws 4 8
      unfolding rows_over
      r4 = raised 3 8 (chained_laws (stage n).nodes.exprs (nodes_at n) s.Ampersand [] 9 conjunctions refl (operands_at 3 8 (omega arith) r3 (lower 3 (omega arith))))

      pub settled4 : (next : ℕ) → Asked next → (x : Operand) → RowFits (suc n) 4 x → leaves next x ≡ true → Settled r4 x
      unfolding rows_over r4
      settled4 next asked x fits left = raised_settled 3 8 (chained_laws (stage n).nodes.exprs (nodes_at n) s.Ampersand [] 9 conjunctions refl (operands_at 3 8 (omega arith) r3 (lower 3 (omega arith)))) x
          (chained_settled (stage n).nodes.exprs (nodes_at n) s.Ampersand [] 9 conjunctions refl (operands_at 3 8 (omega arith) r3 (lower 3 (omega arith))) next (asked_below next asked) (λ y. settled_low 3 (omega arith) (omega arith) next asked y) (λ y. settled3 next asked y) x (next_back n 3 x fits) left)

      pub r5 : RowLaws 5 7
      unfolding rows_over
      r5 = raised 4 7 (chained_laws (stage n).nodes.exprs (nodes_at n) s.Caret [] 8 exclusions refl (operands_at 4 7 (omega arith) r4 (lower 4 (omega arith))))

      pub settled5 : (next : ℕ) → Asked next → (x : Operand) → RowFits (suc n) 5 x → leaves next x ≡ true → Settled r5 x
      unfolding rows_over r5
      settled5 next asked x fits left = raised_settled 4 7 (chained_laws (stage n).nodes.exprs (nodes_at n) s.Caret [] 8 exclusions refl (operands_at 4 7 (omega arith) r4 (lower 4 (omega arith)))) x
          (chained_settled (stage n).nodes.exprs (nodes_at n) s.Caret [] 8 exclusions refl (operands_at 4 7 (omega arith) r4 (lower 4 (omega arith))) next (asked_below next asked) (λ y. settled_low 4 (omega arith) (omega arith) next asked y) (λ y. settled4 next asked y) x (next_back n 4 x fits) left)

      pub r6 : RowLaws 6 6
      unfolding rows_over
      r6 = raised 5 6 (chained_laws (stage n).nodes.exprs (nodes_at n) s.Bar [] 7 disjunctions refl (operands_at 5 6 (omega arith) r5 (lower 5 (omega arith))))

      pub settled6 : (next : ℕ) → Asked next → (x : Operand) → RowFits (suc n) 6 x → leaves next x ≡ true → Settled r6 x
      unfolding rows_over r6
      settled6 next asked x fits left = raised_settled 5 6 (chained_laws (stage n).nodes.exprs (nodes_at n) s.Bar [] 7 disjunctions refl (operands_at 5 6 (omega arith) r5 (lower 5 (omega arith)))) x
          (chained_settled (stage n).nodes.exprs (nodes_at n) s.Bar [] 7 disjunctions refl (operands_at 5 6 (omega arith) r5 (lower 5 (omega arith))) next (asked_below next asked) (λ y. settled_low 5 (omega arith) (omega arith) next asked y) (λ y. settled5 next asked y) x (next_back n 5 x fits) left)

      module _ (types : Laws class_of (stage n).nodes.exprs.type type_tokens nodes.type.Fits nodes.type.front type_first after_type false) where
        pub r7 : RowLaws 7 5
        unfolding rows_over
        r7 = raised 6 5 (comparison_laws (stage n).nodes.exprs (nodes_at n) (operands_at 6 5 (omega arith) r6 (lower 6 (omega arith))) (λ y. settled6 5 (inr refl) y) types (bare_at n) (not_bare_at n 6) (λ opens x fits. rises_at n 6 5 x fits opens (omega arith)))

        pub r8 : PlainLaws 8 4
        unfolding rows_over
        r8 = open_restated (single_laws (stage n).nodes.exprs (nodes_at n) s.EqualEqual (s.NotEqual ∷ []) 4 equalities (operands_at 7 4 (omega arith) r7 (lower 7 (omega arith)))) (whole_forth n 7) (whole_back n 7) (whole_out n 7) (whole_into n 7)

        pub r9 : PlainLaws 9 3
        unfolding rows_over
        r9 = open_restated (logical_laws (stage n).nodes.exprs (nodes_at n) s.AndAnd 3 both_hold refl (plain_operands 8 3 (omega arith) r8 (lower 8 (omega arith)))) (plain_forth n 8) (plain_back n 8) (plain_out n 8) (plain_into n 8)

        pub r10 : PlainLaws 10 2
        unfolding rows_over
        r10 = open_restated (logical_laws (stage n).nodes.exprs (nodes_at n) s.OrOr 2 one_holds refl (plain_operands 9 2 (omega arith) r9 (lower 9 (omega arith)))) (plain_forth n 9) (plain_back n 9) (plain_out n 9) (plain_into n 9)

        module _ (W : OpenLaws (stage n).nodes.exprs.without expr_tokens nodes.without.Fits nodes.without.front expr_first after_without half_without) where
          pub r11 : PlainLaws 11 question
          unfolding rows_over row_over
          r11 = open_restated (conditional_laws (suc n) W r10 (row_down n 10) (row_up n 10) (row_rise n 10) (λ x fits. rising_at (suc n) 10 x fits question opens_nothing (omega arith))) (plain_forth n 10) (plain_back n 10) (plain_out n 10) (plain_into n 10)

          pub low_at : (i : ℕ) → i < 12 → LowAt i
          unfolding rows_over
          low_at zero lt = whole_row n 0 r0
          low_at (suc zero) lt = whole_row n 1 r1
          low_at (suc (suc zero)) lt = whole_row n 2 r2
          low_at (suc (suc (suc zero))) lt = whole_row n 3 r3
          low_at (suc (suc (suc (suc zero)))) lt = whole_row n 4 r4
          low_at (suc (suc (suc (suc (suc zero))))) lt = whole_row n 5 r5
          low_at (suc (suc (suc (suc (suc (suc zero)))))) lt = whole_row n 6 r6
          low_at (suc (suc (suc (suc (suc (suc (suc zero))))))) lt = whole_row n 7 r7
          low_at (suc (suc (suc (suc (suc (suc (suc (suc zero)))))))) lt = whole_plain n 8 r8
          low_at (suc (suc (suc (suc (suc (suc (suc (suc (suc zero))))))))) lt = whole_plain n 9 r9
          low_at (suc (suc (suc (suc (suc (suc (suc (suc (suc (suc zero)))))))))) lt = whole_plain n 10 r10
          low_at (suc (suc (suc (suc (suc (suc (suc (suc (suc (suc (suc zero))))))))))) lt = whole_plain n 11 r11
          low_at (suc (suc (suc (suc (suc (suc (suc (suc (suc (suc (suc (suc i)))))))))))) lt = absurd (omega (arith, lt))

          pub low_settled : (i : ℕ) (lt : i < 12) → i < 7 → (next : ℕ) → Asked next → (x : Operand) → (row_of (suc n) i).Fits x → leaves next x ≡ true → Settled (low_at i lt) x
          unfolding rows_over low_at
          low_settled zero lt low next asked x fits left = whole_settled n 0 r0 x fits (settled0 next asked x (inl fits) left)
          low_settled (suc zero) lt low next asked x fits left = whole_settled n 1 r1 x fits (settled1 next asked x (inl fits) left)
          low_settled (suc (suc zero)) lt low next asked x fits left = whole_settled n 2 r2 x fits (settled2 next asked x (inl fits) left)
          low_settled (suc (suc (suc zero))) lt low next asked x fits left = whole_settled n 3 r3 x fits (settled3 next asked x (inl fits) left)
          low_settled (suc (suc (suc (suc zero)))) lt low next asked x fits left = whole_settled n 4 r4 x fits (settled4 next asked x (inl fits) left)
          low_settled (suc (suc (suc (suc (suc zero))))) lt low next asked x fits left = whole_settled n 5 r5 x fits (settled5 next asked x (inl fits) left)
          low_settled (suc (suc (suc (suc (suc (suc zero)))))) lt low next asked x fits left = whole_settled n 6 r6 x fits (settled6 next asked x (inl fits) left)
          low_settled (suc (suc (suc (suc (suc (suc (suc i))))))) lt low next asked x fits left = absurd (omega (arith, low))

          -- ---- a `>` behind what may be assigned to is given as a half with it at the last row, or stopped before

          module _ (x : Operand) (fits : (row_of (suc n) 0).Fits x) (on : assigns x ≡ true) where
            row_here : (i : ℕ) → (row_of (suc n) i).Fits x
            row_here zero = fits
            row_here (suc i) = plain_forth n i x (inl (row_here i))

            abbrev shifted : OpenLaws (row_over (suc n) (stage n).nodes.exprs g.shifts (read 2) ((stage n).levels.row 2)) operand_tokens (EitherFit (RowFits (suc n) 2) (g.row_over g.shifts (nodes_at n) (under_at n 2)).Fits) (Either (row_front (suc n) 2) (g.row_over g.shifts (nodes_at n) (under_at n 2)).front) operand_first (after_operand 9) (half_operand 9)
            shifted = shift_row_laws (stage n).nodes.exprs (nodes_at n) (operands_at 2 9 (omega arith) r2 (lower 2 (omega arith))) (λ y. settled2 9 (inl refl) y) (λ y. settled_low 2 (omega arith) (omega arith) 9 (inl refl) y)

            kept3 : is_below operand_height (suc n) x ≡ true → (g : Place) → r3.Fits (x, Some g)
            unfolding r3 rows_over
            kept3 room g = restated_fits shifted (next_forth n 2) (next_back n 2) (next_out n 2) (next_into n 2) (x, Some g)
                (shift_kept (stage n).nodes.exprs (nodes_at n) (operands_at 2 9 (omega arith) r2 (lower 2 (omega arith))) (λ y. settled2 9 (inl refl) y) (λ y. settled_low 2 (omega arith) (omega arith) 9 (inl refl) y) x (inl (row_here 2)) (and_true (is_below operand_height (suc n) x) (leaves 9 x) room (target_leaves 9 x (inl refl) on)) g)

            kept4 : is_below operand_height (suc n) x ≡ true → (g : Place) → r4.Fits (x, Some g)
            unfolding r4 rows_over
            kept4 room g = restated_fits (chained_laws (stage n).nodes.exprs (nodes_at n) s.Ampersand [] 9 conjunctions refl (operands_at 3 8 (omega arith) r3 (lower 3 (omega arith)))) (next_forth n 3) (next_back n 3) (next_out n 3) (next_into n 3) (x, Some g)
                (chained_kept (stage n).nodes.exprs (nodes_at n) s.Ampersand [] 9 conjunctions refl (operands_at 3 8 (omega arith) r3 (lower 3 (omega arith))) x (kept3 room) g)

            kept5 : is_below operand_height (suc n) x ≡ true → (g : Place) → r5.Fits (x, Some g)
            unfolding r5 rows_over
            kept5 room g = restated_fits (chained_laws (stage n).nodes.exprs (nodes_at n) s.Caret [] 8 exclusions refl (operands_at 4 7 (omega arith) r4 (lower 4 (omega arith)))) (next_forth n 4) (next_back n 4) (next_out n 4) (next_into n 4) (x, Some g)
                (chained_kept (stage n).nodes.exprs (nodes_at n) s.Caret [] 8 exclusions refl (operands_at 4 7 (omega arith) r4 (lower 4 (omega arith))) x (kept4 room) g)

            kept6 : is_below operand_height (suc n) x ≡ true → (g : Place) → r6.Fits (x, Some g)
            unfolding r6 rows_over
            kept6 room g = restated_fits (chained_laws (stage n).nodes.exprs (nodes_at n) s.Bar [] 7 disjunctions refl (operands_at 5 6 (omega arith) r5 (lower 5 (omega arith)))) (next_forth n 5) (next_back n 5) (next_out n 5) (next_into n 5) (x, Some g)
                (chained_kept (stage n).nodes.exprs (nodes_at n) s.Bar [] 7 disjunctions refl (operands_at 5 6 (omega arith) r5 (lower 5 (omega arith))) x (kept5 room) g)

            kept_or_full : (b : Bool) → is_below operand_height (suc n) x ≡ b → ((g : Place) → r6.Fits (x, Some g)) ⊎ (is_below operand_height (suc n) x ≡ false)
            kept_or_full true e = inl (kept6 e)
            kept_or_full false e = inr e

            target7 : Settled r7 x
            unfolding r7 rows_over
            target7 = raised_settled 6 5 (comparison_laws (stage n).nodes.exprs (nodes_at n) (operands_at 6 5 (omega arith) r6 (lower 6 (omega arith))) (λ y. settled6 5 (inr refl) y) types (bare_at n) (not_bare_at n 6) (λ opens y known. rises_at n 6 5 y known opens (omega arith))) x
                (comparison_kept (stage n).nodes.exprs (nodes_at n) (operands_at 6 5 (omega arith) r6 (lower 6 (omega arith))) (λ y. settled6 5 (inr refl) y) types (bare_at n) (not_bare_at n 6) (λ opens y known. rises_at n 6 5 y known opens (omega arith)) x (settled6 9 (inl refl) x (inl (row_here 6)) (target_leaves 9 x (inl refl) on)) (kept_or_full (is_below operand_height (suc n) x) refl))

            target8 : Settled r8 x
            unfolding r8 rows_over
            target8 = restated_settled (single_laws (stage n).nodes.exprs (nodes_at n) s.EqualEqual (s.NotEqual ∷ []) 4 equalities (operands_at 7 4 (omega arith) r7 (lower 7 (omega arith)))) (whole_forth n 7) (whole_back n 7) (whole_out n 7) (whole_into n 7) x
                (single_kept (stage n).nodes.exprs (nodes_at n) s.EqualEqual (s.NotEqual ∷ []) 4 equalities (operands_at 7 4 (omega arith) r7 (lower 7 (omega arith))) x (inl (row_here 7)) (not_bare_at (suc n) 0 x fits) target7)

            target9 : Settled r9 x
            unfolding r9 rows_over
            target9 = restated_settled (logical_laws (stage n).nodes.exprs (nodes_at n) s.AndAnd 3 both_hold refl (plain_operands 8 3 (omega arith) r8 (lower 8 (omega arith)))) (plain_forth n 8) (plain_back n 8) (plain_out n 8) (plain_into n 8) x
                (logical_kept (stage n).nodes.exprs (nodes_at n) s.AndAnd 3 both_hold refl (plain_operands 8 3 (omega arith) r8 (lower 8 (omega arith))) x (row_here 8) target8)

            target10 : Settled r10 x
            unfolding r10 rows_over
            target10 = restated_settled (logical_laws (stage n).nodes.exprs (nodes_at n) s.OrOr 2 one_holds refl (plain_operands 9 2 (omega arith) r9 (lower 9 (omega arith)))) (plain_forth n 9) (plain_back n 9) (plain_out n 9) (plain_into n 9) x
                (logical_kept (stage n).nodes.exprs (nodes_at n) s.OrOr 2 one_holds refl (plain_operands 9 2 (omega arith) r9 (lower 9 (omega arith))) x (row_here 9) target9)

            pub target11 : Settled r11 x
            unfolding r11 rows_over row_over
            target11 = restated_settled (conditional_laws (suc n) W r10 (row_down n 10) (row_up n 10) (row_rise n 10) (λ y known. rising_at (suc n) 10 y known question opens_nothing (omega arith))) (plain_forth n 10) (plain_back n 10) (plain_out n 10) (plain_into n 10) x
                (choice_operand_settled (suc n) W r10 (row_down n 10) (row_up n 10) (row_rise n 10) (λ y known. rising_at (suc n) 10 y known question opens_nothing (omega arith)) x (row_here 10) target10)

          pub target_settled : (x : Operand) → (row_of (suc n) 11).Fits x → assigns x ≡ true → Settled r11 x
          target_settled x fits on = target11 x (target_down (suc n) 11 x on fits) on

          -- ---- from comparisons on, a `>` behind a tree whose edge takes no operator that binds so

          asked_over : (next : ℕ) → Asked next → 5 ≤ next
          asked_over next (inl is) = omega (arith, is)
          asked_over next (inr is) = omega (arith, is)

          -- an operand without comparison takes it
          taken_below : {X : Type 0} (next : ℕ) → Asked next → (x : Operand) → RowFits (suc n) 6 x → refuses next x ≡ true → X
          taken_below next (inl is) x (inl fits) off = never_refused 9 9 x (shift_at (suc n) 6 (omega arith) x fits) (subst (λ (m : ℕ). refuses m x ≡ true) is off)
          taken_below next (inl is) x (inr fits) off = never_refused 9 9 x (bare_rises_at (suc n) x fits 9 opens_nothing (omega arith)) (subst (λ (m : ℕ). refuses m x ≡ true) is off)
          taken_below next (inr is) x fits off = never_refused 5 5 x (rises_at n 6 5 x fits opens_nothing (omega arith)) (subst (λ (m : ℕ). refuses m x ≡ true) is off)

          module _ (settled_high : (i : ℕ) (lt : i < 12) → 6 < i → (next : ℕ) → Asked next → (x : Operand) → (row_of n i).Fits x → refuses next x ≡ true → Settled (lower i lt) x)
              (settled_without : (next : ℕ) → Asked next → (x : Expr) → nodes.without.Fits x → expr_refuses next x ≡ true → Settled W x) where
            abbrev compared : OpenLaws (row_over (suc n) (stage n).nodes.exprs g.comparison (read 6) ((stage n).levels.row 6)) operand_tokens (EitherFit (RowFits (suc n) 6) (node_at n 6).Fits) (Either (row_front (suc n) 6) (node_at n 6).front) operand_first (after_operand 5) (half_operand 5)
            compared = comparison_laws (stage n).nodes.exprs (nodes_at n) (operands_at 6 5 (omega arith) r6 (lower 6 (omega arith))) (λ y. settled6 5 (inr refl) y) types (bare_at n) (not_bare_at n 6) (λ opens y known. rises_at n 6 5 y known opens (omega arith))

            compared_kind : (next : ℕ) → Asked next → (x : Operand) → EitherFit (RowFits (suc n) 6) (node_at n 6).Fits x → refuses next x ≡ true → Settled compared x
            compared_kind next asked x (inl fits) off = taken_below next asked x fits off
            compared_kind next asked x (inr fits) off = comparison_settled (stage n).nodes.exprs (nodes_at n) (operands_at 6 5 (omega arith) r6 (lower 6 (omega arith))) (λ y. settled6 5 (inr refl) y) types (bare_at n) (not_bare_at n 6) (λ opens y known. rises_at n 6 5 y known opens (omega arith))
                next (asked_below next asked) (λ y. settled_low 6 (omega arith) (omega arith) next asked y) x fits (refused_leaves next x off)

            settled7 : (next : ℕ) → Asked next → (x : Operand) → RowFits (suc n) 7 x → refuses next x ≡ true → Settled r7 x
            unfolding r7 rows_over
            settled7 next asked x fits off = raised_settled 6 5 compared x (compared_kind next asked x (next_back n 6 x fits) off)

            settled8 : (next : ℕ) → Asked next → (x : Operand) → (row_of (suc n) 8).Fits x → refuses next x ≡ true → Settled r8 x
            unfolding r8 rows_over
            settled8 next asked x fits off = restated_settled (single_laws (stage n).nodes.exprs (nodes_at n) s.EqualEqual (s.NotEqual ∷ []) 4 equalities (operands_at 7 4 (omega arith) r7 (lower 7 (omega arith)))) (whole_forth n 7) (whole_back n 7) (whole_out n 7) (whole_into n 7) x
                (single_settled (stage n).nodes.exprs (nodes_at n) s.EqualEqual (s.NotEqual ∷ []) 4 equalities (operands_at 7 4 (omega arith) r7 (lower 7 (omega arith))) next (asked_over next asked) (λ y. settled_high 7 (omega arith) (omega arith) next asked y) (λ y. settled7 next asked y) x (whole_back n 7 x fits) off)

            settled9 : (next : ℕ) → Asked next → (x : Operand) → (row_of (suc n) 9).Fits x → refuses next x ≡ true → Settled r9 x
            unfolding r9 rows_over
            settled9 next asked x fits off = restated_settled (logical_laws (stage n).nodes.exprs (nodes_at n) s.AndAnd 3 both_hold refl (plain_operands 8 3 (omega arith) r8 (lower 8 (omega arith)))) (plain_forth n 8) (plain_back n 8) (plain_out n 8) (plain_into n 8) x
                (logical_settled (stage n).nodes.exprs (nodes_at n) s.AndAnd 3 both_hold refl (plain_operands 8 3 (omega arith) r8 (lower 8 (omega arith))) next (omega (arith, asked_over next asked)) (λ y. settled_high 8 (omega arith) (omega arith) next asked y) (λ y. settled8 next asked y) x (plain_back n 8 x fits) off)

            settled10 : (next : ℕ) → Asked next → (x : Operand) → (row_of (suc n) 10).Fits x → refuses next x ≡ true → Settled r10 x
            unfolding r10 rows_over
            settled10 next asked x fits off = restated_settled (logical_laws (stage n).nodes.exprs (nodes_at n) s.OrOr 2 one_holds refl (plain_operands 9 2 (omega arith) r9 (lower 9 (omega arith)))) (plain_forth n 9) (plain_back n 9) (plain_out n 9) (plain_into n 9) x
                (logical_settled (stage n).nodes.exprs (nodes_at n) s.OrOr 2 one_holds refl (plain_operands 9 2 (omega arith) r9 (lower 9 (omega arith))) next (omega (arith, asked_over next asked)) (λ y. settled_high 9 (omega arith) (omega arith) next asked y) (λ y. settled9 next asked y) x (plain_back n 9 x fits) off)

            abbrev chosen : OpenLaws (row_over (suc n) (stage n).nodes.exprs g.choice (read 10) ((stage n).levels.row 10)) operand_tokens (EitherFit (row_of (suc n) 10).Fits (node_at n 10).Fits) (Either (row_of (suc n) 10).front (node_at n 10).front) operand_first (after_operand question) (half_operand question)
            unfolding row_over
            chosen = conditional_laws (suc n) W r10 (row_down n 10) (row_up n 10) (row_rise n 10) (λ y known. rising_at (suc n) 10 y known question opens_nothing (omega arith))

            choice_kind : (next : ℕ) → Asked next → (x : Operand) → EitherFit (row_of (suc n) 10).Fits (node_at n 10).Fits x → refuses next x ≡ true → Settled chosen x
            unfolding row_over
            choice_kind next asked x (inl fits) off = choice_operand_settled (suc n) W r10 (row_down n 10) (row_up n 10) (row_rise n 10) (λ y known. rising_at (suc n) 10 y known question opens_nothing (omega arith)) x fits (settled10 next asked x fits off)
            choice_kind next asked x (inr ((y, (mark, (first, (colon, second)))), ((d, on), (at, (fits, (there, last)))), e)) off =
                let under : refuses next (t.conditional y mark first colon second) ≡ true = subst (λ (z : Operand). refuses next z ≡ true) (sym e) off in
                subst (Settled chosen) e (choice_node_settled (suc n) W r10 (row_down n 10) (row_up n 10) (row_rise n 10) (λ z known. rising_at (suc n) 10 z known question opens_nothing (omega arith)) y mark first colon second d on fits last
                (settled_without next asked second last (branch_refuses next (omega (arith, asked_over next asked)) y mark first colon second under)))

            pub settled11 : (next : ℕ) → Asked next → (x : Operand) → (row_of (suc n) 11).Fits x → refuses next x ≡ true → Settled r11 x
            unfolding r11 rows_over row_over
            settled11 next asked x fits off = restated_settled chosen (plain_forth n 10) (plain_back n 10) (plain_out n 10) (plain_into n 10) x (choice_kind next asked x (plain_back n 10 x fits) off)

            pub high_settled : (i : ℕ) (lt : i < 12) → 6 < i → (next : ℕ) → Asked next → (x : Operand) → (row_of (suc n) i).Fits x → refuses next x ≡ true → Settled (low_at i lt) x
            unfolding rows_over low_at
            high_settled zero lt high next asked x fits off = absurd (omega (arith, high))
            high_settled (suc zero) lt high next asked x fits off = absurd (omega (arith, high))
            high_settled (suc (suc zero)) lt high next asked x fits off = absurd (omega (arith, high))
            high_settled (suc (suc (suc zero))) lt high next asked x fits off = absurd (omega (arith, high))
            high_settled (suc (suc (suc (suc zero)))) lt high next asked x fits off = absurd (omega (arith, high))
            high_settled (suc (suc (suc (suc (suc zero))))) lt high next asked x fits off = absurd (omega (arith, high))
            high_settled (suc (suc (suc (suc (suc (suc zero)))))) lt high next asked x fits off = absurd (omega (arith, high))
            high_settled (suc (suc (suc (suc (suc (suc (suc zero))))))) lt high next asked x fits off = whole_settled n 7 r7 x fits (settled7 next asked x (inl fits) off)
            high_settled (suc (suc (suc (suc (suc (suc (suc (suc zero)))))))) lt high next asked x fits off = whole_plain_settled n 8 r8 x fits (settled8 next asked x fits off)
            high_settled (suc (suc (suc (suc (suc (suc (suc (suc (suc zero))))))))) lt high next asked x fits off = whole_plain_settled n 9 r9 x fits (settled9 next asked x fits off)
            high_settled (suc (suc (suc (suc (suc (suc (suc (suc (suc (suc zero)))))))))) lt high next asked x fits off = whole_plain_settled n 10 r10 x fits (settled10 next asked x fits off)
            high_settled (suc (suc (suc (suc (suc (suc (suc (suc (suc (suc (suc zero))))))))))) lt high next asked x fits off = whole_plain_settled n 11 r11 x fits (settled11 next asked x fits off)
            high_settled (suc (suc (suc (suc (suc (suc (suc (suc (suc (suc (suc (suc i)))))))))))) lt high next asked x fits off = absurd (omega (arith, lt))
