-- Behind an operand where no operator of any row comes each row gives the operand alone.
use Rattle.std.proofs.Common.{◌≡◌, ℕ, zero, suc, ◌+◌, Bool, true, false, not, ◌&&◌, ◌||◌, List, [], ◌∷◌, ◌++◌, Some, None, Ok, refl, ap, ◌∙◌, inl, inr, arith}
use Rattle.std.specs.Prelude.{◌==◌}
use Rattle.std.proofs.lemmas.Bool.{eqb-true, eq-eqb}
use Rattle.dart_token.specs.declared.sign.Sign.TheVariants as s
use Rattle.dart_token.specs.declared.token.Token.{Token}
use Rattle.dart_tree.specs.Depth as height
use Rattle.dart_tree.specs.Tree.{Operand}
use Rattle.dart_syntax.specs.Edges.{question, compares, leaves, leaves_less}
use Rattle.grammar_laws.specs.Codes.{has, within, Within}
use Rattle.grammar_laws.specs.Depth.{is_below}
use Rattle.grammar_laws.specs.Readers.{Reader, Outcome, and_then, starts}
use Rattle.grammar_laws.proofs.Codes.{not_true, clash, and_both, and_false, cases_bool, inside, within_given, within_union}
use Rattle.token_codes.specs.Codes.{class_of, these}
use Rattle.syntax_readers.specs.Combinators.{Open}
use Rattle.syntax_readers.specs.Levels.{is_bare, whole, compare_codes, shift_codes}
use Rattle.parse_type.proofs.Looking.{starts_either}
use Rattle.parse_unary.specs.Views.{row_reader}
use Rattle.parse_row.proofs.Behind.{sign_stops, shift_half, shift_stops, compare_stops, choice_stops}
use Rattle.parse_row.proofs.Signs.{starts_none}
use Rattle.parse_row.proofs.Steps.{climb_by, flat_behind, sign_behind, once_behind, shift_behind, compare_is_behind, choice_is_behind}
use Rattle.parse_row.specs.Rows.{behind, row_signs, row_binds, row_codes, stands_before, sign_row, half_behind, may_shift, order_codes, test_codes, operator_codes, passes_rows, sum_codes, bit_codes, comparison_codes, choice_codes}

-- ---- whether an operator comes, sign by sign

-- one of these comes
abbrev any_of : List ℕ → List Token → Bool
any_of [] ts = false
any_of (n ∷ []) ts = starts class_of (n ∷ []) ts
any_of (n ∷ m ∷ ns) ts = starts class_of (n ∷ []) ts || any_of (m ∷ ns) ts

any_is : (codes : List ℕ) (ts : List Token) → starts class_of codes ts ≡ any_of codes ts
any_is [] ts = starts_none ts
any_is (n ∷ []) ts = refl
any_is (n ∷ m ∷ ns) ts = starts_either (n ∷ []) (m ∷ ns) ts ∙ ap (λ (b : Bool). starts class_of (n ∷ []) ts || b) (any_is (m ∷ ns) ts)

pub sum_starts : (ts : List Token) → starts class_of sum_codes ts ≡
    (starts class_of (these s.Star) ts || (starts class_of (these s.Slash) ts || (starts class_of (these s.TildeSlash) ts || (starts class_of (these s.Percent) ts || (starts class_of (these s.Plus) ts || starts class_of (these s.Minus) ts)))))
sum_starts ts = any_is sum_codes ts

pub bit_starts : (ts : List Token) → starts class_of bit_codes ts ≡
    (starts class_of (these s.ShiftLeft) ts || (starts class_of (these s.Greater) ts || (starts class_of (these s.Ampersand) ts || (starts class_of (these s.Caret) ts || starts class_of (these s.Bar) ts))))
bit_starts ts = any_is bit_codes ts

pub comparison_starts : (ts : List Token) → starts class_of comparison_codes ts ≡ (starts class_of (these s.Less) ts || (starts class_of order_codes ts || starts class_of test_codes ts))
comparison_starts ts =
    starts_either (these s.Less) (order_codes ++ test_codes) ts
    ∙ ap (λ (b : Bool). starts class_of (these s.Less) ts || b) (starts_either order_codes test_codes ts)

pub choice_starts : (ts : List Token) → starts class_of choice_codes ts ≡
    (starts class_of (these s.EqualEqual) ts || (starts class_of (these s.NotEqual) ts || (starts class_of (these s.AndAnd) ts || (starts class_of (these s.OrOr) ts || starts class_of (these s.Question) ts))))
choice_starts ts = any_is choice_codes ts

-- the rows list the same codes in this order
pub operator_starts : (ts : List Token) → starts class_of operator_codes ts ≡
    (starts class_of sum_codes ts || (starts class_of bit_codes ts || (starts class_of comparison_codes ts || starts class_of choice_codes ts)))
operator_starts ts =
    starts_either sum_codes (bit_codes ++ (comparison_codes ++ choice_codes)) ts
    ∙ ap (λ (b : Bool). starts class_of sum_codes ts || b) (starts_either bit_codes (comparison_codes ++ choice_codes) ts
    ∙ ap (λ (b : Bool). starts class_of bit_codes ts || b) (starts_either comparison_codes choice_codes ts))

-- ---- where none comes, none of a row does

none_comes : (codes : List ℕ) (ts : List Token) → Within codes operator_codes → starts class_of operator_codes ts ≡ false → starts class_of codes ts ≡ false
none_comes codes [] w off = refl
none_comes codes (t ∷ ts) w off = not_true (has codes (class_of t)) (λ h. clash (has operator_codes (class_of t)) (w.in_second (class_of t) h) off)

signs_within : (row : ℕ) → within (row_codes row) operator_codes ≡ true
unfolding row_signs
signs_within zero = refl
signs_within (suc zero) = refl
signs_within (suc (suc zero)) = refl
signs_within (suc (suc (suc zero))) = refl
signs_within (suc (suc (suc (suc zero)))) = refl
signs_within (suc (suc (suc (suc (suc zero))))) = refl
signs_within (suc (suc (suc (suc (suc (suc zero)))))) = refl
signs_within (suc (suc (suc (suc (suc (suc (suc zero))))))) = refl
signs_within (suc (suc (suc (suc (suc (suc (suc (suc zero)))))))) = refl
signs_within (suc (suc (suc (suc (suc (suc (suc (suc (suc zero))))))))) = refl
signs_within (suc (suc (suc (suc (suc (suc (suc (suc (suc (suc zero)))))))))) = refl
signs_within (suc (suc (suc (suc (suc (suc (suc (suc (suc (suc (suc row))))))))))) = refl

compares_within : (n : ℕ) (a : Operand) → Within (compare_codes n (a, None)) operator_codes
compares_within n a =
    within_given (is_below height.operand_height n a)
    (λ _. within_union (within_union (within_given {xs = these s.Less} (leaves_less a) (λ _. inside refl)) (within_given {xs = order_codes} (leaves compares a) (λ _. inside refl)))
    (within_given {xs = test_codes} (leaves compares a && not (is_bare a)) (λ _. inside refl)))

-- ---- what the rows give then

whole_stays : (p : Reader Token (Open Operand)) (x : Open Operand) (ts : List Token) → p ts ≡ Ok (x, ts) → is_bare x.0 ≡ false → whole p ts ≡ Ok (x, ts)
unfolding whole
whole_stays p x ts e off = rw (e, off) refl

no_half_comes : (may : Bool) (ts : List Token) → starts class_of (these s.Greater) ts ≡ false → half_behind may None ts ≡ Ok (None, ts)
no_half_comes false ts off = refl
no_half_comes true ts off = rw off refl

module _ (depth under row : ℕ) (a : Operand) (ts : List Token) (off : starts class_of operator_codes ts ≡ false) where
  sign_passes : sign_row depth under row (a, None) ts ≡ Ok ((a, None), ts)
  sign_passes = sign_stops depth under row (a, None) ts
      (and_false (stands_before (row_binds row) depth (a, None)) (starts class_of (row_codes row) ts) (none_comes (row_codes row) ts (inside (signs_within row)) off))

  shift_passes : under + 1 ≡ depth → row ≡ 2 → behind depth row (a, None) ts ≡ Ok ((a, None), ts)
  shift_passes more is =
      shift_behind depth under row (a, None) ts more is
      ∙ shift_half depth under row a ts None None (may_shift depth a) ts refl (no_half_comes (may_shift depth a) ts (none_comes (these s.Greater) ts (inside refl) off))
      ∙ shift_stops depth under row a ts None (and_false (may_shift depth a) (starts class_of (shift_codes None) ts) (none_comes (these s.ShiftLeft) ts (inside refl) off))

  compare_passes : under + 1 ≡ depth → row ≡ 6 → behind depth row (a, None) ts ≡ Ok ((a, None), ts)
  compare_passes more is =
      compare_is_behind depth under row (a, None) ts more is
      ∙ compare_stops depth under (a, None) ts row (none_comes (compare_codes depth (a, None)) ts (compares_within depth a) off)

  once_passes : under + 1 ≡ depth → row ≡ 7 → is_bare a ≡ false → behind depth row (a, None) ts ≡ Ok ((a, None), ts)
  once_passes more is alone = once_behind depth under row (a, None) ts more is ∙ whole_stays (sign_row depth under row (a, None)) (a, None) ts sign_passes alone

  choice_passes : under + 1 ≡ depth → row ≡ 10 → behind depth row (a, None) ts ≡ Ok ((a, None), ts)
  choice_passes more is =
      choice_is_behind depth under row (a, None) ts more is
      ∙ choice_stops depth under (a, None) ts (and_false (stands_before question depth (a, None)) (starts class_of (these s.Question) ts) (none_comes (these s.Question) ts (inside refl) off))

  other : (n : ℕ) → (row == n) ≡ false → row ≡ n → ⊥
  other n differs e = clash (row == n) (eq-eqb row n e) differs

  row_passes : under + 1 ≡ depth → is_bare a ≡ false → behind depth row (a, None) ts ≡ Ok ((a, None), ts)
  row_passes more alone = elim (cases_bool (row == 2)) [
    | inl two ↦ shift_passes more (eqb-true row 2 two)
    | inr not2 ↦ elim (cases_bool (row == 6)) [
      | inl six ↦ compare_passes more (eqb-true row 6 six)
      | inr not6 ↦ elim (cases_bool (row == 7)) [
        | inl seven ↦ once_passes more (eqb-true row 7 seven) alone
        | inr not7 ↦ elim (cases_bool (row == 10)) [
          | inl ten ↦ choice_passes more (eqb-true row 10 ten)
          | inr not10 ↦ sign_behind depth under row (a, None) ts more (other 2 not2) (other 6 not6) (other 7 not7) (other 10 not10) ∙ sign_passes
        ]
      ]
    ]
  ]

untrue : (b : Bool) → not b ≡ true → b ≡ false
untrue true h = absurd cc
untrue false h = refl

behind_passes : (depth row : ℕ) (x : Open Operand) (ts : List Token) → passes_rows x ts ≡ true → behind depth row x ts ≡ Ok (x, ts)
behind_passes zero row x ts p = flat_behind zero row x ts refl
behind_passes (suc n) row (a, Some greater) ts p = absurd cc
behind_passes (suc n) row (a, None) ts p =
    let b = and_both (not (is_bare a)) (not (starts class_of operator_codes ts)) p in
    row_passes (suc n) n row a ts (untrue (starts class_of operator_codes ts) b.1) (omega arith) (untrue (is_bare a) b.0)

-- by induction on the rows
pub rows_passed : (depth row : ℕ) (ts mid : List Token) (x : Open Operand) → row_reader depth 0 ts ≡ Ok (x, mid) → passes_rows x mid ≡ true → row_reader depth row ts ≡ Ok (x, mid)
rows_passed depth zero ts mid x e p = e
rows_passed depth (suc row) ts mid x e p =
    climb_by depth row ts
    ∙ ap (λ (o : Outcome Token (Open Operand)). and_then o (λ y rest. behind depth row y rest)) (rows_passed depth row ts mid x e p)
    ∙ behind_passes depth row x mid p
