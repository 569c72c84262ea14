-- Trees whose edge takes no operator that binds so, in the place of an expression: their last parts take none either.
use Rattle.std.proofs.Common.{◌≡◌, ℕ, suc, max, ◌≤◌, Bool, true, false, not, ◌&&◌, ◌||◌, List, [], ◌∷◌, Some, inl, inr, refl, ap, sym, ◌∙◌, arith}
use Rattle.std.proofs.Math.Nat.{max-le}
use Rattle.dart_base.specs.declared.place.Place.{Place}
use Rattle.dart_tree.specs.declared.operator.Operator.{Operator}
use Rattle.dart_tree.specs.Tree as t
use Rattle.dart_tree.specs.Tree.{Expr, Operand, Selectors, Value}
use Rattle.grammar_laws.specs.Codes.{is_empty}
use Rattle.grammar_laws.specs.Fronts.{BothFit, EachFit}
use Rattle.grammar_laws.proofs.Codes.{not_true, clash, or_false}
use Rattle.dart_syntax.specs.Edges.{dots, question, nowhere, repeats, leaves, opens_nothing, binds_between, expr_takes, operand_takes, tails_take, cascades_take}
use Rattle.dart_syntax.specs.Expressions as g
use Rattle.dart_syntax.specs.Levels.{level}
use Rattle.laws_expr.proofs.Edges.{expr_moves, operand_moves}
use Rattle.laws_expr.proofs.Sets.{not_false}
use Rattle.laws_expr.proofs.Tails.{last_of}

abbrev pub refuses : ℕ → Operand → Bool
refuses next x = not (operand_takes next opens_nothing dots x)

abbrev pub expr_refuses : ℕ → Expr → Bool
expr_refuses next x = not (expr_takes next opens_nothing dots x)

abbrev one_cascade : Place × (Selectors × Value) → t.Cascades
one_cascade x = t.cascade x.0 x.1.0 x.1.1 t.no_cascades

abbrev pub cascade_refuses : ℕ → Place × (Selectors × Value) → Bool
cascade_refuses next x = not (cascades_take next opens_nothing dots (one_cascade x))

-- ---- in every place

pub refused_at : (next from : ℕ) → from ≤ next → (x : Operand) → operand_takes next opens_nothing from x ≡ false → refuses next x ≡ true
refused_at next from le x off = ap not (not_true (operand_takes next opens_nothing dots x) (λ on. clash (operand_takes next opens_nothing from x) (operand_moves next opens_nothing x dots from (inr (inr le)) on) off))

pub expr_refused_at : (next from : ℕ) → from ≤ next → (x : Expr) → expr_takes next opens_nothing from x ≡ false → expr_refuses next x ≡ true
expr_refused_at next from le x off = ap not (not_true (expr_takes next opens_nothing dots x) (λ on. clash (expr_takes next opens_nothing from x) (expr_moves next opens_nothing x dots from (inr (inr le)) on) off))

pub refused_leaves : (next : ℕ) (x : Operand) → refuses next x ≡ true → leaves next x ≡ true
refused_leaves next x off = ap not (not_true (operand_takes next opens_nothing nowhere x) (λ on. clash (operand_takes next opens_nothing dots x) (operand_moves next opens_nothing x nowhere dots (inl (omega arith)) on) (not_false (operand_takes next opens_nothing dots x) off)))

-- what takes it in some place refuses it in none
pub never_refused : {X : Type 0} (next from : ℕ) (x : Operand) → operand_takes next opens_nothing from x ≡ true → refuses next x ≡ true → X
never_refused next from x on off = clash (operand_takes next opens_nothing dots x) (operand_moves next opens_nothing x from dots (inl (omega arith)) on) (not_false (operand_takes next opens_nothing dots x) off)

-- ---- of the last part

tail_off : (next from : ℕ) (o : Operator) (y : Operand) → tails_take next opens_nothing from (t.tail o y t.no_tails) ≡ false → operand_takes next opens_nothing (max from (suc (level o))) y ≡ false
unfolding tails_take
tail_off next from o y off =
    let again : Bool = binds_between next opens_nothing from (suc (level o)) && repeats (level o) in
    (or_false again (operand_takes next opens_nothing (max from (suc (level o))) y) (or_false (binds_between next opens_nothing from (level o)) (again || operand_takes next opens_nothing (max from (suc (level o))) y) off).1).1

module _ (next loose : ℕ) (tight : suc loose ≤ next) where
  pub tail_refuses : (x : Operand) (o : Operator) (y : Operand) → level o ≡ loose → refuses next (t.binary x (t.tail o y t.no_tails)) ≡ true → refuses next y ≡ true
  unfolding operand_takes
  tail_refuses x o y at off =
      refused_at next (max dots (suc (level o))) (max-le {a = dots} {b = suc (level o)} {k = next} (omega arith) (omega (arith, at, tight))) y (tail_off next dots o y (not_false (tails_take next opens_nothing dots (t.tail o y t.no_tails)) off))

  pub last_refuses : (Of : Operator → Type 0) (U : Operand → Type 0) → ((o : Operator) → Of o → level o ≡ loose) → (may : Operator × Operand → Bool) (x : Operand) (all : List (Operator × Operand)) → is_empty all ≡ false → EachFit (BothFit Of U) may all →
      refuses next (t.binary x (g.to_tails all)) ≡ true → refuses next (last_of x all) ≡ true
  unfolding operand_takes tails_take
  last_refuses Of U leveled may x [] some fits off = absurd cc
  last_refuses Of U leveled may x (y ∷ []) some fits off = tail_refuses x y.0 y.1 (leveled y.0 fits.0.0) off
  last_refuses Of U leveled may x (y ∷ z ∷ more) some fits off = last_refuses Of U leveled may y.1 (z ∷ more) refl fits.2 off

pub branch_refuses : (next : ℕ) → question ≤ next → (x : Operand) (mark : Place) (first : Expr) (colon : Place) (second : Expr) → refuses next (t.conditional x mark first colon second) ≡ true → expr_refuses next second ≡ true
unfolding operand_takes
branch_refuses next le x mark first colon second off =
    expr_refused_at next question le second (or_false (binds_between next opens_nothing dots question) (expr_takes next opens_nothing question second) (not_false (binds_between next opens_nothing dots question || expr_takes next opens_nothing question second) off)).1

pub value_refuses : (next : ℕ) → question ≤ next → (place : Place) (behind : Selectors) (operator : Operator) (value : Expr) → cascade_refuses next (place, (behind, t.given (Some operator) value)) ≡ true → expr_refuses next value ≡ true
unfolding cascades_take
value_refuses next le place behind operator value off =
    expr_refused_at next question le value (or_false (binds_between next opens_nothing dots question) (expr_takes next opens_nothing question value) (not_false (binds_between next opens_nothing dots question || expr_takes next opens_nothing question value) off)).1

abbrev pub last_cascade : Place × (Selectors × Value) → List (Place × (Selectors × Value)) → Place × (Selectors × Value)
last_cascade x [] = x
last_cascade x (y ∷ more) = last_cascade y more

last_taken : (next : ℕ) (x : Place × (Selectors × Value)) (more : List (Place × (Selectors × Value))) → cascades_take next opens_nothing dots (g.to_cascades (x ∷ more)) ≡ cascades_take next opens_nothing dots (one_cascade (last_cascade x more))
unfolding cascades_take
last_taken next x [] = refl
last_taken next (place, (behind, t.omitted)) (y ∷ more) = last_taken next y more
last_taken next (place, (behind, t.given operator value)) (y ∷ more) = last_taken next y more

pub cascades_refuse : (next : ℕ) (operand : Operand) (x : Place × (Selectors × Value)) (more : List (Place × (Selectors × Value))) → expr_refuses next (t.plain operand (g.to_cascades (x ∷ more))) ≡ true → cascade_refuses next (last_cascade x more) ≡ true
unfolding expr_takes
cascades_refuse next operand x more off = ap not (sym (last_taken next x more)) ∙ off
