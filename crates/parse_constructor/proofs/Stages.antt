-- The readers of initialisers and constructors over those of one node less.
use Rattle.std.proofs.Common.{◌≡◌, ℕ, zero, suc, ◌-◌, ◌<◌, List, Err, refl, sym, subst, arith}
use Rattle.dart_token.specs.declared.token.Token.{Token}
use Rattle.syntax_readers.specs.Declarations.{init, init_over, constructor, constructor_over}
use Rattle.syntax_readers.specs.Statements.{stage}
use Rattle.parse_nest.specs.Stages.{exprs_at}

-- ---- initialisers

init_none : (ts : List Token) → init 0 ts ≡ Err ts
unfolding init
init_none ts = refl

init_same : (n : ℕ) (ts : List Token) → init (suc n) ts ≡ init_over (stage n) ts
unfolding init
init_same n ts = refl

pub init_never : (depth : ℕ) (ts : List Token) → depth ≡ 0 → init depth ts ≡ Err ts
init_never depth ts none = subst (λ (d : ℕ). init d ts ≡ Err ts) (sym none) (init_none ts)

pub init_is : (depth : ℕ) (ts : List Token) → 0 < depth → init depth ts ≡ init_over (stage (depth - 1)) ts
init_is depth ts some =
    let d : suc (depth - 1) ≡ depth = omega arith in
    subst (λ (m : ℕ). init m ts ≡ init_over (stage (depth - 1)) ts) d (init_same (depth - 1) ts)

-- ---- constructors

constructor_none : (class : List ℕ) (ts : List Token) → constructor class 0 ts ≡ Err ts
unfolding constructor
constructor_none class ts = refl

constructor_same : (class : List ℕ) (n : ℕ) (ts : List Token) → constructor class (suc n) ts ≡ constructor_over (exprs_at n) (init n) class ts
unfolding constructor
constructor_same class n ts = refl

pub constructor_never : (class : List ℕ) (depth : ℕ) (ts : List Token) → depth ≡ 0 → constructor class depth ts ≡ Err ts
constructor_never class depth ts none = subst (λ (d : ℕ). constructor class d ts ≡ Err ts) (sym none) (constructor_none class ts)

pub constructor_is : (class : List ℕ) (depth : ℕ) (ts : List Token) → 0 < depth →
    constructor class depth ts ≡ constructor_over (exprs_at (depth - 1)) (init (depth - 1)) class ts
constructor_is class depth ts some =
    let d : suc (depth - 1) ≡ depth = omega arith in
    subst (λ (m : ℕ). constructor class m ts ≡ constructor_over (exprs_at (depth - 1)) (init (depth - 1)) class ts) d (constructor_same class
    (depth - 1) ts)
