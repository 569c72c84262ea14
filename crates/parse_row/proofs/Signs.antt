-- The signs of each row, and what tells that one of them comes.
use Rattle.std.proofs.Common.{◌≡◌, ℕ, zero, suc, ◌+◌, ◌<◌, ◌≤◌, Bool, true, false, not, ◌&&◌, ◌||◌, List, [], ◌∷◌, ◌++◌, Some, None, refl, sym, ap, ap₂, ◌∙◌, inl, inr, arith}
use Rattle.std.specs.Prelude.{◌==◌}
use Rattle.dart_base.specs.declared.place.Place.{Place}
use Rattle.dart_token.specs.declared.sign.Sign.TheVariants as s
use Rattle.dart_token.specs.declared.token.Token.{Token}
use Rattle.dart_token.specs.declared.word.Word.TheVariants as w
use Rattle.dart_tree.specs.Tree.{Operand}
use Rattle.dart_syntax.specs.Edges.{compares, leaves, leaves_less}
use Rattle.grammar_laws.specs.Codes.{given}
use Rattle.grammar_laws.specs.Readers.{starts}
use Rattle.token_codes.specs.Codes.{class_of, these, this_word, sign_codes}
use Rattle.syntax_readers.specs.Combinators.{Open}
use Rattle.syntax_readers.specs.Levels.{is_bare, compare_codes}
use Rattle.syntax_readers.specs.Primaries.{operand_first}
use Rattle.grammar_laws.specs.Depth.{is_below}
use Rattle.grammar_laws.proofs.Codes.{not_true, cases_bool, clash}
use Rattle.std.proofs.lemmas.Bool.{eqb-true, eq-eqb}
use Rattle.grammar_laws.proofs.Depth.{below_is, is_below_by}
use Rattle.dart_tree.specs.Depth as height
use Rattle.parse_type.proofs.Looking.{starts_either}
use Rattle.parse_row.specs.Rows.{row_signs, row_binds, row_repeats, order_codes, test_codes, codes_behind}

pub swapped : (a b : Bool) → (a && b) ≡ (b && a)
swapped true true = refl
swapped true false = refl
swapped false true = refl
swapped false false = refl

-- ---- the rows without signs

pub signs_at : (row : ℕ) → (row ≡ 0 → ⊥) → (row ≡ 1 → ⊥) → (row ≡ 3 → ⊥) → (row ≡ 4 → ⊥) → (row ≡ 5 → ⊥) → (row ≡ 7 → ⊥) → (row ≡ 8 → ⊥) → (row ≡ 9 → ⊥) → row_signs row ≡ []
unfolding row_signs
signs_at zero a b c d e f g h = absurd (a refl)
signs_at (suc zero) a b c d e f g h = absurd (b refl)
signs_at (suc (suc zero)) a b c d e f g h = refl
signs_at (suc (suc (suc zero))) a b c d e f g h = absurd (c refl)
signs_at (suc (suc (suc (suc zero)))) a b c d e f g h = absurd (d refl)
signs_at (suc (suc (suc (suc (suc zero))))) a b c d e f g h = absurd (e refl)
signs_at (suc (suc (suc (suc (suc (suc zero)))))) a b c d e f g h = refl
signs_at (suc (suc (suc (suc (suc (suc (suc zero))))))) a b c d e f g h = absurd (f refl)
signs_at (suc (suc (suc (suc (suc (suc (suc (suc zero)))))))) a b c d e f g h = absurd (g refl)
signs_at (suc (suc (suc (suc (suc (suc (suc (suc (suc zero))))))))) a b c d e f g h = absurd (h refl)
signs_at (suc (suc (suc (suc (suc (suc (suc (suc (suc (suc zero)))))))))) a b c d e f g h = refl
signs_at (suc (suc (suc (suc (suc (suc (suc (suc (suc (suc (suc row))))))))))) a b c d e f g h = refl

pub binds_at : (row : ℕ) → (row ≡ 0 → ⊥) → (row ≡ 1 → ⊥) → (row ≡ 3 → ⊥) → (row ≡ 4 → ⊥) → (row ≡ 5 → ⊥) → (row ≡ 7 → ⊥) → (row ≡ 8 → ⊥) → (row ≡ 9 → ⊥) → row_binds row ≡ 0
unfolding row_binds
binds_at zero a b c d e f g h = absurd (a refl)
binds_at (suc zero) a b c d e f g h = absurd (b refl)
binds_at (suc (suc zero)) a b c d e f g h = refl
binds_at (suc (suc (suc zero))) a b c d e f g h = absurd (c refl)
binds_at (suc (suc (suc (suc zero)))) a b c d e f g h = absurd (d refl)
binds_at (suc (suc (suc (suc (suc zero))))) a b c d e f g h = absurd (e refl)
binds_at (suc (suc (suc (suc (suc (suc zero)))))) a b c d e f g h = refl
binds_at (suc (suc (suc (suc (suc (suc (suc zero))))))) a b c d e f g h = absurd (f refl)
binds_at (suc (suc (suc (suc (suc (suc (suc (suc zero)))))))) a b c d e f g h = absurd (g refl)
binds_at (suc (suc (suc (suc (suc (suc (suc (suc (suc zero))))))))) a b c d e f g h = absurd (h refl)
binds_at (suc (suc (suc (suc (suc (suc (suc (suc (suc (suc zero)))))))))) a b c d e f g h = refl
binds_at (suc (suc (suc (suc (suc (suc (suc (suc (suc (suc (suc row))))))))))) a b c d e f g h = refl

repeats_at : (row : ℕ) → (row ≡ 7 → ⊥) → row_repeats row ≡ true
unfolding row_repeats
repeats_at zero a = refl
repeats_at (suc zero) a = refl
repeats_at (suc (suc zero)) a = refl
repeats_at (suc (suc (suc zero))) a = refl
repeats_at (suc (suc (suc (suc zero)))) a = refl
repeats_at (suc (suc (suc (suc (suc zero))))) a = refl
repeats_at (suc (suc (suc (suc (suc (suc zero)))))) a = refl
repeats_at (suc (suc (suc (suc (suc (suc (suc zero))))))) a = absurd (a refl)
repeats_at (suc (suc (suc (suc (suc (suc (suc (suc zero)))))))) a = refl
repeats_at (suc (suc (suc (suc (suc (suc (suc (suc (suc zero))))))))) a = refl
repeats_at (suc (suc (suc (suc (suc (suc (suc (suc (suc (suc zero)))))))))) a = refl
repeats_at (suc (suc (suc (suc (suc (suc (suc (suc (suc (suc (suc row))))))))))) a = refl

pub repeats_is : (row : ℕ) → row_repeats row ≡ not (row == 7)
unfolding row_repeats
repeats_is row = elim (cases_bool (row == 7)) [
  | inl e ↦ ap row_repeats (eqb-true row 7 e) ∙ sym (ap not e)
  | inr off ↦ repeats_at row (λ e. clash (row == 7) (eq-eqb row 7 e) off) ∙ sym (ap not off)
]

pub starts_none : (ts : List Token) → starts class_of [] ts ≡ false
starts_none [] = refl
starts_none (t ∷ ts) = refl

-- ---- comparisons

pub order_starts : (ts : List Token) → starts class_of order_codes ts ≡ (starts class_of (these s.Greater) ts || (starts class_of (these s.LessEqual) ts || starts class_of (these s.GreaterEqual) ts))
order_starts ts =
    starts_either (these s.Greater) (sign_codes (s.LessEqual ∷ s.GreaterEqual ∷ [])) ts
    ∙ ap (λ (b : Bool). starts class_of (these s.Greater) ts || b) (starts_either (these s.LessEqual) (these s.GreaterEqual) ts)

pub test_starts : (ts : List Token) → starts class_of test_codes ts ≡ (starts class_of (this_word w.Is) ts || starts class_of (this_word w.As) ts)
test_starts ts = starts_either (this_word w.Is) (this_word w.As) ts

given_starts : (b : Bool) (codes : List ℕ) (ts : List Token) → starts class_of (given b codes) ts ≡ (starts class_of codes ts && b)
given_starts true codes ts = swapped true (starts class_of codes ts)
given_starts false codes ts = starts_none ts ∙ swapped false (starts class_of codes ts)

pub compare_starts : (x : Operand) (ts : List Token) → starts class_of (codes_behind x) ts ≡
    (((starts class_of (these s.Less) ts && leaves_less x) || (starts class_of order_codes ts && leaves compares x)) || (starts class_of test_codes ts && (leaves compares x && not (is_bare x))))
compare_starts x ts =
    starts_either (given (leaves_less x) (these s.Less) ++ given (leaves compares x) order_codes) (given (leaves compares x && not (is_bare x)) test_codes) ts
    ∙ ap₂ (λ (a b : Bool). a || b)
    (starts_either (given (leaves_less x) (these s.Less)) (given (leaves compares x) order_codes) ts ∙ ap₂ (λ (a b : Bool). a || b) (given_starts (leaves_less x) (these s.Less) ts) (given_starts (leaves compares x) order_codes ts))
    (given_starts (leaves compares x && not (is_bare x)) test_codes ts)

-- behind an operand with room for no node, with a half, and with none

never_starts : (b : Bool) (codes : List ℕ) (ts : List Token) → b ≡ false → starts class_of (given b codes) ts ≡ false
never_starts b codes ts off = rw off (starts_none ts)

no_room : (depth : ℕ) (a : Operand) → depth ≤ height.operand_height a → is_below height.operand_height depth a ≡ false
no_room depth a le = not_true (is_below height.operand_height depth a) (λ h. let b = below_is height.operand_height depth a h in omega arith)

pub compare_high : (depth : ℕ) (x : Open Operand) (ts : List Token) → depth ≤ height.operand_height x.0 → starts class_of (compare_codes depth x) ts ≡ false
compare_high depth (a, None) ts le = never_starts (is_below height.operand_height depth a) (codes_behind a) ts (no_room depth a le)
compare_high depth (a, Some greater) ts le = never_starts (is_below height.operand_height depth a && leaves compares a) operand_first ts (ap (λ (b : Bool). b && leaves compares a) (no_room depth a le))

pub compare_half : (depth : ℕ) (a : Operand) (greater : Place) (ts : List Token) → height.operand_height a < depth → starts class_of (compare_codes depth (a, Some greater)) ts ≡ (starts class_of operand_first ts && leaves compares a)
compare_half depth a greater ts low =
    ap (λ (b : Bool). starts class_of (given (b && leaves compares a) operand_first) ts) (is_below_by height.operand_height depth a low) ∙ given_starts (leaves compares a) operand_first ts

pub compare_none : (depth : ℕ) (a : Operand) (ts : List Token) → height.operand_height a < depth → starts class_of (compare_codes depth (a, None)) ts ≡ starts class_of (codes_behind a) ts
compare_none depth a ts low = ap (λ (b : Bool). starts class_of (given b (codes_behind a)) ts) (is_below_by height.operand_height depth a low)
