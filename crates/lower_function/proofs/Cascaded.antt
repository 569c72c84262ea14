-- An expression with cascades is no literal.
use Rattle.std.proofs.Common.{◌≡◌, ℕ, List, [], ◌∷◌, Bool, true, false, nat_eq, length, refl, ap, arith}
use Rattle.dart_tree.specs.declared.expression.Cascade.{Cascade}
use Rattle.dart_tree.specs.Lists.{cascades_of}
use Rattle.dart_tree.specs.Tree as t
use Rattle.dart_tree.proofs.Rows.{view_assign, view_plain, view_throw}
use Rattle.translation.specs.Statements as s

pub cascades_none : (operand : t.Operand) (all : List Cascade) → length all ≡ 0 → s.literal_of (t.plain operand (cascades_of all)) ≡ s.operand_literal operand
cascades_none operand [] none = refl
cascades_none operand (x ∷ xs) none = absurd (omega arith)

-- the count of cascades is n, and b whether there are none
pub cascades_some : (operand : t.Operand) (all : List Cascade) (n : ℕ) (b : Bool) → n ≡ length all → b ≡ nat_eq n 0 → b ≡ false →
    s.literal_of (t.plain operand (cascades_of all)) ≡ s.no_literal
cascades_some operand [] n b count none some = let is : nat_eq n 0 ≡ true = ap (λ (m : ℕ). nat_eq m 0) count in cc
cascades_some operand (x ∷ xs) n b count none some = refl

pub ruleset cascaded = (view_assign, view_plain, view_throw, cascades_none)
