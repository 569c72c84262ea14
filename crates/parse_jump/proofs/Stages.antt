-- `catch` and its names, by the number of nodes above one another.
use Rattle.std.proofs.Common.{◌≡◌, ℕ, suc, ◌-◌, ◌<◌, List, Err, refl, sym, subst, arith}
use Rattle.dart_token.specs.declared.token.Token.{Token}
use Rattle.syntax_readers.specs.Statements.{stage, nodes_over, catch_over}
use Rattle.parse_jump.specs.Views.{catch_at}

catch_none : (ts : List Token) → catch_at 0 ts ≡ Err ts
unfolding stage
catch_none ts = refl

catch_same : (n : ℕ) (ts : List Token) → catch_at (suc n) ts ≡ catch_over ts
unfolding stage nodes_over
catch_same n ts = refl

pub catch_never : (depth : ℕ) (ts : List Token) → depth ≡ 0 → catch_at depth ts ≡ Err ts
catch_never depth ts none = subst (λ (d : ℕ). catch_at d ts ≡ Err ts) (sym none) (catch_none ts)

pub catch_is : (depth : ℕ) (ts : List Token) → 0 < depth → catch_at depth ts ≡ catch_over ts
catch_is depth ts some =
    let d : suc (depth - 1) ≡ depth = omega arith in
    subst (λ (m : ℕ). catch_at m ts ≡ catch_over ts) d (catch_same (depth - 1) ts)
