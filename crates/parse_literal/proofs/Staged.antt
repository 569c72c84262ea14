-- The reader of list and map literals over those of one node less, by a number that the code counts down from.
use Rattle.std.proofs.Common.{◌≡◌, ℕ, zero, suc, ◌-◌, ◌<◌, Err, List, refl, sym, subst, arith}
use Rattle.dart_token.specs.declared.token.Token.{Token}
use Rattle.parse_nest.specs.Stages.{closed_at, exprs_at}
use Rattle.syntax_readers.specs.Types.{type_reader}
use Rattle.syntax_readers.specs.Primaries.{collection_over}
use Rattle.syntax_readers.specs.Statements.{stage, nodes_over}

pub collection_none : (ts : List Token) → (exprs_at 0).collection ts ≡ Err ts
unfolding stage
collection_none ts = refl

pub collection_same : (n : ℕ) (ts : List Token) → (exprs_at (suc n)).collection ts ≡ collection_over (type_reader n) (closed_at n) ts
unfolding stage nodes_over type_reader
collection_same zero ts = refl
collection_same (suc n) ts = refl

pub collection_never : (depth : ℕ) (ts : List Token) → depth ≡ 0 → (exprs_at depth).collection ts ≡ Err ts
collection_never depth ts none = subst (λ (d : ℕ). (exprs_at d).collection ts ≡ Err ts) (sym none) (collection_none ts)

pub collection_at : (depth : ℕ) (ts : List Token) → 0 < depth → (exprs_at depth).collection ts ≡ collection_over (type_reader (depth - 1)) (closed_at (depth - 1)) ts
collection_at depth ts some =
    let d : suc (depth - 1) ≡ depth = omega arith in
    subst (λ (m : ℕ). (exprs_at m).collection ts ≡ collection_over (type_reader (depth - 1)) (closed_at (depth - 1)) ts) d (collection_same (depth - 1) ts)
