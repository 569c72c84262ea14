-- The readers of nodes over those of one node less.
use Rattle.std.proofs.Common.{◌≡◌, ℕ, suc, ◌-◌, ◌<◌, Bool, true, false, List, Err, refl, sym, subst, arith}
use Rattle.dart_token.specs.declared.token.Token.{Token}
use Rattle.syntax_readers.specs.Statements.{stage, nodes_over, block_over}
use Rattle.parse_nest.specs.Stages.{expr_at, block_at, stmt_at}

-- ---- expressions

expr_none : (cascades : Bool) (ts : List Token) → expr_at 0 cascades ts ≡ Err ts
unfolding stage
expr_none true ts = refl
expr_none false ts = refl

pub expr_never : (depth : ℕ) (cascades : Bool) (ts : List Token) → depth ≡ 0 → expr_at depth cascades ts ≡ Err ts
expr_never depth cascades ts none = subst (λ (d : ℕ). expr_at d cascades ts ≡ Err ts) (sym none) (expr_none cascades ts)

-- ---- blocks

block_none : (ts : List Token) → block_at 0 ts ≡ Err ts
unfolding stage
block_none ts = refl

pub block_never : (depth : ℕ) (ts : List Token) → depth ≡ 0 → block_at depth ts ≡ Err ts
block_never depth ts none = subst (λ (d : ℕ). block_at d ts ≡ Err ts) (sym none) (block_none ts)

block_same : (n : ℕ) (ts : List Token) → block_at (suc n) ts ≡ block_over n (stmt_at n) ts
unfolding stage nodes_over
block_same n ts = refl

pub block_is : (depth : ℕ) (ts : List Token) → 0 < depth → block_at depth ts ≡ block_over (depth - 1) (stmt_at (depth - 1)) ts
block_is depth ts some =
    let d : suc (depth - 1) ≡ depth = omega arith in
    subst (λ (m : ℕ). block_at m ts ≡ block_over (depth - 1) (stmt_at (depth - 1)) ts) d (block_same (depth - 1) ts)
