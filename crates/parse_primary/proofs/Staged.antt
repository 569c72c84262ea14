-- The readers of nodes over those of one node less.
use Rattle.std.proofs.Common.{◌≡◌, ℕ, zero, suc, ◌-◌, ◌<◌, Err, List, refl, sym, subst, ◌∙◌, arith}
use Rattle.dart_token.specs.declared.token.Token.{Token}
use Rattle.parse_nest.specs.Stages.{closed_at, exprs_at}
use Rattle.syntax_readers.specs.Types.{type_reader}
use Rattle.syntax_readers.specs.Primaries.{arguments_over, function_literal_over}
use Rattle.syntax_readers.specs.Statements.{stage, nodes_over}
use Rattle.parse_primary.specs.Views.{arguments_of}
use Rattle.parse_primary.proofs.Labelling.{arguments_are}

pub arguments_none : (ts : List Token) → (exprs_at 0).arguments ts ≡ Err ts
unfolding stage
arguments_none ts = refl

pub arguments_is : (n : ℕ) (ts : List Token) → (exprs_at (suc n)).arguments ts ≡ arguments_over (closed_at n) ts
unfolding stage nodes_over
arguments_is n ts = refl

pub type_is : (n : ℕ) (ts : List Token) → (exprs_at n).type ts ≡ type_reader n ts
unfolding stage nodes_over type_reader
type_is zero ts = refl
type_is (suc n) ts = refl

pub function_none : (ts : List Token) → (exprs_at 0).function ts ≡ Err ts
unfolding stage
function_none ts = refl

pub function_is : (n : ℕ) (ts : List Token) → (exprs_at (suc n)).function ts ≡ function_literal_over (exprs_at n) ts
unfolding stage nodes_over
function_is n ts = refl

-- ---- by a number that the code counts down from

pub arguments_never : (depth : ℕ) (ts : List Token) → depth ≡ 0 → (exprs_at depth).arguments ts ≡ Err ts
arguments_never depth ts none = subst (λ (d : ℕ). (exprs_at d).arguments ts ≡ Err ts) (sym none) (arguments_none ts)

pub arguments_at : (depth : ℕ) (ts : List Token) → 0 < depth → (exprs_at depth).arguments ts ≡ arguments_of (closed_at (depth - 1)) ts
arguments_at depth ts some =
    let d : suc (depth - 1) ≡ depth = omega arith in
    subst (λ (m : ℕ). (exprs_at m).arguments ts ≡ arguments_of (closed_at (depth - 1)) ts) d (arguments_is (depth - 1) ts ∙ arguments_are (closed_at (depth - 1)) ts)

pub function_never : (depth : ℕ) (ts : List Token) → depth ≡ 0 → (exprs_at depth).function ts ≡ Err ts
function_never depth ts none = subst (λ (d : ℕ). (exprs_at d).function ts ≡ Err ts) (sym none) (function_none ts)

pub function_at : (depth : ℕ) (ts : List Token) → 0 < depth → (exprs_at depth).function ts ≡ function_literal_over (exprs_at (depth - 1)) ts
function_at depth ts some =
    let d : suc (depth - 1) ≡ depth = omega arith in
    subst (λ (m : ℕ). (exprs_at m).function ts ≡ function_literal_over (exprs_at (depth - 1)) ts) d (function_is (depth - 1) ts)
