-- The readers of nodes over those of one node less.
use Rattle.std.proofs.Common.{◌≡◌, ℕ, zero, suc, ◌-◌, ◌+◌, ◌<◌, List, Result, Err, refl, sym, ap, ◌∙◌, subst, arith}
use Rattle.dart_token.specs.declared.token.Token.{Token}
use Rattle.dart_tree.specs.Types.{TypeNode}
use Rattle.grammar_laws.specs.Readers.{Reader, Outcome}
use Rattle.syntax_readers.specs.Combinators.{always_gives}
use Rattle.std.specs.Prelude.{None}
use Rattle.syntax_readers.specs.Parameters.{parameter_kind, parameter_over, parameters_over, variables_over, function_over, whole_body}
use Rattle.syntax_readers.specs.Statements.{stage, nodes_over}
use Rattle.syntax_readers.specs.Types.{type_reader}
use Rattle.token_cursor.specs.declared.error.ReadFault.{ReadFault}
use Rattle.token_cursor.specs.Gives.{GivesHigh}
use Rattle.parse_nest.specs.Stages.{closed_at, parameters_at, exprs_at}
use Rattle.parse_parameter.specs.Views.{parameter_at, variables_at, local_parts, local_function_at}

pub type_at : (n : ℕ) → (exprs_at n).type ≡ type_reader n
unfolding stage nodes_over type_reader
type_at zero = refl
type_at (suc n) = refl

-- what holds of each depth and of the one below it
below : (P : ℕ → ℕ → Type 0) → ((n : ℕ) → P (suc n) n) → (depth : ℕ) → 0 < depth → P depth (depth - 1)
below P h depth some =
    let d : suc (depth - 1) ≡ depth = omega arith in
    subst (λ (m : ℕ). P m (depth - 1)) d (h (depth - 1))

at_none : {A : Type 0} (at : ℕ → Reader Token A) → ((ts : List Token) → at 0 ts ≡ Err ts) → (depth : ℕ) (ts : List Token) → depth ≡ 0 → at depth ts ≡ Err ts
at_none at none depth ts is = subst (λ (d : ℕ). at d ts ≡ Err ts) (sym is) (none ts)

-- what the parts of one node less give is what the node gives
pub one_more : {X A : Type 0} (view : X → A) (height : A → ℕ) (depth : ℕ) (o p : Outcome Token A) (result : Result (X × ℕ) ReadFault) (new : List Token) →
    0 < depth → o ≡ p → GivesHigh view height ((depth - 1) + 1) p result new → GivesHigh view height depth o result new
one_more view height depth o p result new some is h =
    let d : (depth - 1) + 1 ≡ depth = omega arith in
    subst (λ (m : ℕ). GivesHigh view height m o result new) d
    (subst (λ (q : Outcome Token _). GivesHigh view height ((depth - 1) + 1) q result new) (sym is) h)

-- ---- a parameter without its default

parameter_none : (ts : List Token) → parameter_at 0 ts ≡ Err ts
unfolding stage
parameter_none ts = refl

parameter_same : (n : ℕ) (ts : List Token) → parameter_at (suc n) ts ≡ parameter_over (exprs_at n) ts
unfolding stage nodes_over
parameter_same n ts = refl

pub parameter_never : (depth : ℕ) (ts : List Token) → depth ≡ 0 → parameter_at depth ts ≡ Err ts
parameter_never = at_none parameter_at parameter_none

pub parameter_is : (depth : ℕ) (ts : List Token) → 0 < depth → parameter_at depth ts ≡ parameter_over (exprs_at (depth - 1)) ts
parameter_is depth ts = below (λ m n. parameter_at m ts ≡ parameter_over (exprs_at n) ts) (λ n. parameter_same n ts) depth

-- ---- the parameters of a function

parameters_none : (ts : List Token) → parameters_at 0 ts ≡ Err ts
unfolding stage
parameters_none ts = refl

parameters_same : (n : ℕ) (ts : List Token) → parameters_at (suc n) ts ≡ parameters_over (parameter_at n) (closed_at n) ts
unfolding stage nodes_over
parameters_same n ts = refl

pub parameters_never : (depth : ℕ) (ts : List Token) → depth ≡ 0 → parameters_at depth ts ≡ Err ts
parameters_never = at_none parameters_at parameters_none

pub parameters_is : (depth : ℕ) (ts : List Token) → 0 < depth → parameters_at depth ts ≡ parameters_over (parameter_at (depth - 1)) (closed_at (depth - 1)) ts
parameters_is depth ts = below (λ m n. parameters_at m ts ≡ parameters_over (parameter_at n) (closed_at n) ts) (λ n. parameters_same n ts) depth

-- ---- variables

variables_none : (ts : List Token) → variables_at 0 ts ≡ Err ts
unfolding stage
variables_none ts = refl

variables_same : (n : ℕ) (ts : List Token) → variables_at (suc n) ts ≡ variables_over (exprs_at n).type (closed_at n) ts
unfolding stage nodes_over
variables_same n ts = refl

pub variables_never : (depth : ℕ) (ts : List Token) → depth ≡ 0 → variables_at depth ts ≡ Err ts
variables_never = at_none variables_at variables_none

pub variables_is : (depth : ℕ) (ts : List Token) → 0 < depth → variables_at depth ts ≡ variables_over (type_reader (depth - 1)) (closed_at (depth - 1)) ts
variables_is depth ts = below (λ m n. variables_at m ts ≡ variables_over (type_reader n) (closed_at n) ts)
    (λ n. variables_same n ts ∙ ap (λ (type : Reader Token TypeNode). variables_over type (closed_at n) ts) (type_at n)) depth

-- ---- local functions

function_none : (ts : List Token) → local_function_at 0 ts ≡ Err ts
unfolding stage
function_none ts = refl

function_same : (n : ℕ) (ts : List Token) → local_function_at (suc n) ts ≡ function_over (exprs_at n) (always_gives None) (whole_body (exprs_at n)) ts
unfolding stage nodes_over
function_same n ts = refl

pub function_never : (depth : ℕ) (ts : List Token) → depth ≡ 0 → local_function_at depth ts ≡ Err ts
function_never = at_none local_function_at function_none

pub function_is : (depth : ℕ) (ts : List Token) → 0 < depth → local_function_at depth ts ≡ function_over (exprs_at (depth - 1)) (always_gives None) (whole_body (exprs_at (depth - 1))) ts
function_is depth ts = below (λ m n. local_function_at m ts ≡ function_over (exprs_at n) (always_gives None) (whole_body (exprs_at n)) ts) (λ n. function_same n ts) depth

-- ---- types by the readers of one depth

pub function_parts : (n : ℕ) (ts : List Token) → function_over (exprs_at n) (always_gives None) (whole_body (exprs_at n)) ts ≡ local_parts (type_reader n) (exprs_at n) ts
unfolding function_over
function_parts n ts = ap (λ (type : Reader Token TypeNode). local_parts type (exprs_at n) ts) (type_at n)

pub kind_by_type : (n : ℕ) (ts : List Token) → parameter_kind (exprs_at n).type (parameters_at n) ts ≡ parameter_kind (type_reader n) (parameters_at n) ts
kind_by_type n ts = ap (λ (type : Reader Token TypeNode). parameter_kind type (parameters_at n) ts) (type_at n)
