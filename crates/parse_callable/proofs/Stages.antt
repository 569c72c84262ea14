-- Functions and accessors by the number of nodes above one another, and what is read by the readers of one depth.
use Rattle.std.proofs.Common.{◌≡◌, ℕ, suc, ◌-◌, ◌<◌, List, Option, Err, refl, sym, ap, subst, arith}
use Rattle.dart_base.specs.declared.place.Place.{Place}
use Rattle.dart_token.specs.declared.token.Token.{Token}
use Rattle.dart_tree.specs.Types.{TypeNode}
use Rattle.grammar_laws.specs.Readers.{Reader}
use Rattle.syntax_readers.specs.Declarations.{function, accessor, accessor_over, operator_member}
use Rattle.syntax_readers.specs.Parameters.{body, function_over}
use Rattle.syntax_readers.specs.Types.{type_reader}
use Rattle.parse_nest.specs.Stages.{exprs_at}
use Rattle.parse_callable.specs.Views.{function_parts, accessor_parts, operator_parts}
use Rattle.parse_parameter.proofs.Stages.{type_at}

-- what holds of each depth and of the one below it
below : (P : ℕ → ℕ → Type 0) → ((n : ℕ) → P (suc n) n) → (depth : ℕ) → 0 < depth → P depth (depth - 1)
below P h depth some =
    let d : suc (depth - 1) ≡ depth = omega arith in
    subst (λ (m : ℕ). P m (depth - 1)) d (h (depth - 1))

at_none : {A : Type 0} (at : ℕ → Reader Token A) → ((ts : List Token) → at 0 ts ≡ Err ts) →
    (depth : ℕ) (ts : List Token) → depth ≡ 0 → at depth ts ≡ Err ts
at_none at none depth ts is = subst (λ (d : ℕ). at d ts ≡ Err ts) (sym is) (none ts)

module _ (external : Reader Token (Option Place)) where
  -- ---- functions

  function_none : (ts : List Token) → function external 0 ts ≡ Err ts
  unfolding function
  function_none ts = refl

  function_same : (n : ℕ) (ts : List Token) → function external (suc n) ts ≡ function_over (exprs_at n) external (body (exprs_at n)) ts
  unfolding function
  function_same n ts = refl

  pub function_never : (depth : ℕ) (ts : List Token) → depth ≡ 0 → function external depth ts ≡ Err ts
  function_never = at_none (function external) function_none

  pub function_is : (depth : ℕ) (ts : List Token) → 0 < depth →
      function external depth ts ≡ function_over (exprs_at (depth - 1)) external (body (exprs_at (depth - 1))) ts
  function_is depth ts = below (λ m n. function external m ts ≡ function_over (exprs_at n) external (body (exprs_at n)) ts)
      (λ n. function_same n ts) depth

  pub function_by_parts : (n : ℕ) (ts : List Token) →
      function_over (exprs_at n) external (body (exprs_at n)) ts ≡ function_parts (type_reader n) (exprs_at n) external ts
  unfolding function_over
  function_by_parts n ts = ap (λ (type : Reader Token TypeNode). function_parts type (exprs_at n) external ts) (type_at n)

  -- ---- accessors

  accessor_none : (ts : List Token) → accessor external 0 ts ≡ Err ts
  unfolding accessor
  accessor_none ts = refl

  accessor_same : (n : ℕ) (ts : List Token) → accessor external (suc n) ts ≡ accessor_over (exprs_at n) external ts
  unfolding accessor
  accessor_same n ts = refl

  pub accessor_never : (depth : ℕ) (ts : List Token) → depth ≡ 0 → accessor external depth ts ≡ Err ts
  accessor_never = at_none (accessor external) accessor_none

  pub accessor_is : (depth : ℕ) (ts : List Token) → 0 < depth → accessor external depth ts ≡ accessor_over (exprs_at (depth - 1)) external ts
  accessor_is depth ts = below (λ m n. accessor external m ts ≡ accessor_over (exprs_at n) external ts) (λ n. accessor_same n ts) depth

  pub accessor_by_parts : (n : ℕ) (ts : List Token) → accessor_over (exprs_at n) external ts ≡ accessor_parts (type_reader n) (exprs_at n) external ts
  unfolding accessor_over
  accessor_by_parts n ts = ap (λ (type : Reader Token TypeNode). accessor_parts type (exprs_at n) external ts) (type_at n)

-- ---- operators

pub operator_by_parts : (n : ℕ) (ts : List Token) → operator_member (exprs_at n) ts ≡ operator_parts (type_reader n) (exprs_at n) ts
unfolding operator_member
operator_by_parts n ts = ap (λ (type : Reader Token TypeNode). operator_parts type (exprs_at n) ts) (type_at n)
