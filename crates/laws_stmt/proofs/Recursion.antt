-- The recursion over depths: where the readers of blocks find those of the grammar, so do all others here and in laws_expr.
use Rattle.std.proofs.Common.{◌≡◌, ℕ, zero, suc, ◌<◌, ◌≤◌, true, false, ◌⊎◌, inl, inr, refl, sym, subst, ltb, arith}
use Rattle.std.proofs.lemmas.Bool.{ltb-true, ltb-false}
use Rattle.grammar_laws.proofs.Codes.{cases_bool}
use Rattle.laws_expr.specs.Statements.{OthersReadAt}
use Rattle.laws_expr.proofs.Floor.{others_none}
use Rattle.laws_expr.proofs.Recursion.{expressions_at}
use Rattle.laws_stmt.specs.Statements.{BlockReadAt, ReadOverBlocksAt}
use Rattle.laws_stmt.proofs.Depths.{parameters_at, declared_at}

-- of one depth, from the smaller ones and blocks there
others_from : (n : ℕ) → ((m : ℕ) → m < n → OthersReadAt m) → BlockReadAt n → OthersReadAt n
others_from zero below block = others_none
others_from (suc n) below block = record {
  parameters = (parameters_at n (λ m lt. below m (omega (arith, lt)))).parameters;
  block = block;
}

last_or_below : (m n : ℕ) → m < suc n → (m < n) ⊎ (n ≡ m)
last_or_below m n lt = elim (cases_bool (ltb m n)) [
  | inl h ↦ inl (ltb-true m n h)
  | inr h ↦ inr (omega (arith, lt, ltb-false m n h))
]

pub others_below : (n : ℕ) → ((m : ℕ) → m < n → BlockReadAt m) → (m : ℕ) → m < n → OthersReadAt m
others_below zero blocks m lt = absurd (omega (arith, lt))
others_below (suc n) blocks m lt =
    let below : (k : ℕ) → k < n → OthersReadAt k = others_below n (λ k less. blocks k (omega (arith, less))) in
    elim (last_or_below m n lt) [
      | inl less ↦ below m less
      | inr same ↦ subst OthersReadAt same (others_from n below (blocks n (omega arith)))
    ]

pub read_over_blocks : (n : ℕ) → ((m : ℕ) → m < n → BlockReadAt m) → ReadOverBlocksAt n
read_over_blocks n blocks =
    let below : (k : ℕ) → k < n → OthersReadAt k = others_below n blocks in
    record {
      expressions = expressions_at n below;
      parameters = parameters_at n below;
      others = others_from n below;
      declared = λ block. declared_at n (λ m le. others_up_to n below block m le);
    } where
      others_up_to : (n : ℕ) → ((k : ℕ) → k < n → OthersReadAt k) → BlockReadAt n → (m : ℕ) → m ≤ n → OthersReadAt m
      others_up_to n below block m le = elim (last_or_below m n (omega (arith, le))) [
        | inl less ↦ below m less
        | inr same ↦ subst OthersReadAt same (others_from n below block)
      ]
