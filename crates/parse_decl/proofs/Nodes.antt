-- What is a node of its own, over what stands inside.
use Rattle.std.proofs.Common.{◌≡◌, ℕ, zero, suc, ◌-◌, ◌<◌, Bool, true, false, ◌&&◌, List, Err, refl, sym, ap, ◌∙◌, subst, arith}
use Rattle.std.proofs.lemmas.Bool.{ltb-true}
use Rattle.std.specs.Prelude.{nat_lt}
use Rattle.dart_token.specs.declared.sign.Sign.TheVariants as s
use Rattle.dart_token.specs.declared.token.Token.{Token}
use Rattle.dart_tree.specs.Depth.{metadata_height}
use Rattle.dart_tree.specs.Tree as t
use Rattle.dart_tree.specs.Unit as d
use Rattle.grammar_laws.specs.Readers.{Reader}
use Rattle.parse_decl.specs.Views.{directive_item, directive_over, enum_at}
use Rattle.parse_nest.specs.Stages.{closed_at}
use Rattle.syntax_readers.specs.Combinators.{◌~◌, made₂, only_if}
use Rattle.syntax_readers.specs.Declarations.{enum, node}
use Rattle.syntax_readers.specs.Units as spec
use Rattle.token_codes.specs.Leaves.{sign}

-- what holds of each depth and of the one below it
below : (P : ℕ → ℕ → Type 0) → ((n : ℕ) → P (suc n) n) → (depth : ℕ) → 0 < depth → P depth (depth - 1)
below P h depth some =
    let d : suc (depth - 1) ≡ depth = omega arith in
    subst (λ (m : ℕ). P m (depth - 1)) d (h (depth - 1))

at_none : {A : Type 0} (at : ℕ → Reader Token A) → ((ts : List Token) → at 0 ts ≡ Err ts) → (depth : ℕ) (ts : List Token) → depth ≡ 0 →
    at depth ts ≡ Err ts
at_none at none depth ts is = subst (λ (d : ℕ). at d ts ≡ Err ts) (sym is) (none ts)

-- ---- enums

enum_none : (ts : List Token) → enum_at 0 ts ≡ Err ts
enum_none ts = refl

enum_same : (n : ℕ) (ts : List Token) → enum_at (suc n) ts ≡ enum ts
enum_same n ts = refl

pub enum_never : (depth : ℕ) (ts : List Token) → depth ≡ 0 → enum_at depth ts ≡ Err ts
enum_never = at_none enum_at enum_none

pub enum_is : (depth : ℕ) (ts : List Token) → 0 < depth → enum_at depth ts ≡ enum ts
enum_is depth ts = below (λ m n. enum_at m ts ≡ enum ts) (λ n. enum_same n ts) depth

-- ---- directives

-- one may stand here, and has a node more than its metadata
abbrev pub room : Bool → ℕ → ℕ → Bool
room may tall depth = may && nat_lt tall depth

below_room : (may : Bool) (tall depth : ℕ) → room may tall depth ≡ true → nat_lt tall depth ≡ true
below_room true tall depth h = h
below_room false tall depth h = absurd cc

-- its metadata is below the node
pub is_low : (may : Bool) (tall depth : ℕ) → true ≡ room may tall depth → tall < depth
is_low may tall depth h = ltb-true tall depth (below_room may tall depth (sym h))

module _ (metadata : t.Metadata) (may : Bool) (kind : Reader Token t.Expr → Reader Token d.DirectiveKind) (ts : List Token) where
  -- where there is room
  abbrev behind : ℕ → Reader Token spec.Item
  behind depth = made₂ (directive_item metadata) (node (λ m. kind (closed_at m)) depth ~ sign s.Semicolon)

  by_room : (depth : ℕ) → spec.directive depth metadata may kind ts ≡ only_if (room may (metadata_height metadata) depth) (behind depth) ts
  unfolding spec.directive
  by_room depth = refl

  told : (depth tall : ℕ) (b : Bool) → tall ≡ metadata_height metadata → b ≡ room may tall depth →
      spec.directive depth metadata may kind ts ≡ only_if b (behind depth) ts
  told depth tall b is e = by_room depth ∙ ap (λ (x : Bool). only_if x (behind depth) ts) (subst (λ (k : ℕ). room may k depth ≡ b) is (sym e))

  pub directive_never : (depth tall : ℕ) → tall ≡ metadata_height metadata → false ≡ room may tall depth →
      spec.directive depth metadata may kind ts ≡ Err ts
  directive_never depth tall is off = told depth tall false is off

  behind_same : (n : ℕ) → behind (suc n) ts ≡ directive_over metadata (kind (closed_at n)) ts
  behind_same n = refl

  pub directive_is : (depth tall : ℕ) → tall ≡ metadata_height metadata → true ≡ room may tall depth →
      spec.directive depth metadata may kind ts ≡ directive_over metadata (kind (closed_at (depth - 1))) ts
  directive_is depth tall is on =
      let low = is_low may tall depth on in
      told depth tall true is on ∙ below (λ m n. behind m ts ≡ directive_over metadata (kind (closed_at n)) ts) behind_same depth (omega (arith, low))

-- ---- units

unit_none : (ts : List Token) → spec.unit_reader 0 ts ≡ Err ts
unfolding spec.unit_reader
unit_none ts = refl

unit_same : (n : ℕ) (ts : List Token) → spec.unit_reader (suc n) ts ≡ spec.unit_over n ts
unfolding spec.unit_reader
unit_same n ts = refl

pub unit_never : (depth : ℕ) (ts : List Token) → depth ≡ 0 → spec.unit_reader depth ts ≡ Err ts
unit_never = at_none spec.unit_reader unit_none

pub unit_is : (depth : ℕ) (ts : List Token) → 0 < depth → spec.unit_reader depth ts ≡ spec.unit_over (depth - 1) ts
unit_is depth ts = below (λ m n. spec.unit_reader m ts ≡ spec.unit_over n ts) (λ n. unit_same n ts) depth
