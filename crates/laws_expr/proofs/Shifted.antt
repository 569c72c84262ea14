-- An operand of a row up to `|` takes a shift in the place of one.
use Rattle.std.proofs.Common.{◌≡◌, ℕ, zero, suc, max, ◌<◌, Bool, true, false, ◌&&◌, ◌||◌, List, [], ◌∷◌, inl, inr, refl, ap, ◌∙◌, subst, arith}
use Rattle.dart_token.specs.declared.sign.Sign.TheVariants as s
use Rattle.dart_tree.specs.declared.operator.Operator.{Operator}
use Rattle.dart_tree.specs.Tree as t
use Rattle.dart_tree.specs.Tree.{Operand}
use Rattle.dart_tree.specs.Tokens.{operand_tokens}
use Rattle.grammar_laws.specs.Codes.{is_empty}
use Rattle.grammar_laws.specs.Fronts.{BothFit, EachFit}
use Rattle.grammar_laws.proofs.Codes.{or_right, or_left}
use Rattle.dart_syntax.specs.Phrases.{Phrase, ◌<|>◌, made}
use Rattle.dart_syntax.specs.Leaves as l
use Rattle.dart_syntax.specs.Edges.{repeats, leaves, opens_nothing, binds_between, operand_takes, tails_take}
use Rattle.dart_syntax.specs.Expressions as g
use Rattle.dart_syntax.specs.Levels.{level}
use Rattle.dart_syntax.specs.Statements as gs
use Rattle.dart_syntax.specs.Statements.{within}
use Rattle.laws_expr.proofs.Divided.{shift_level}
use Rattle.laws_expr.proofs.Rising.{rising_at}
use Rattle.laws_expr.proofs.Rows.{conjunctions, exclusions, disjunctions}

abbrev Shifts : Operand → Type 0
Shifts x = operand_takes 9 opens_nothing 9 x ≡ true

tails_shift : (Of : Operator → Type 0) (U : Operand → Type 0) → ((o : Operator) (y : Operand) → Of o → U y → tails_take 9 opens_nothing 9 (t.tail o y t.no_tails) ≡ true) → (may : Operator × Operand → Bool) (all : List (Operator × Operand)) →
    is_empty all ≡ false → EachFit (BothFit Of U) may all → tails_take 9 opens_nothing 9 (g.to_tails all) ≡ true
unfolding tails_take
tails_shift Of U last may [] some fits = absurd cc
tails_shift Of U last may (x ∷ []) some fits = last x.0 x.1 fits.0.0 fits.0.1
tails_shift Of U last may (x ∷ y ∷ more) some fits = tails_shift Of U last may (y ∷ more) refl fits.2

another_shift : (o : Operator) (y : Operand) → level o ≡ 9 → tails_take 9 opens_nothing 9 (t.tail o y t.no_tails) ≡ true
unfolding tails_take
another_shift o y at =
    let again : Bool = binds_between 9 opens_nothing 9 (suc (level o)) && repeats (level o) in
    or_right (binds_between 9 opens_nothing 9 (level o)) (again || operand_takes 9 opens_nothing (max 9 (suc (level o))) y)
    (or_left again (operand_takes 9 opens_nothing (max 9 (suc (level o))) y) (ap (λ (m : ℕ). binds_between 9 opens_nothing 9 (suc m) && repeats m) at))

shift_inside : (loose : ℕ) → max 9 (suc loose) ≡ 9 → (o : Operator) (y : Operand) → level o ≡ loose → Shifts y → tails_take 9 opens_nothing 9 (t.tail o y t.no_tails) ≡ true
unfolding tails_take
shift_inside loose same o y at on =
    let again : Bool = binds_between 9 opens_nothing 9 (suc (level o)) && repeats (level o) in
    or_right (binds_between 9 opens_nothing 9 (level o)) (again || operand_takes 9 opens_nothing (max 9 (suc (level o))) y)
    (or_right again (operand_takes 9 opens_nothing (max 9 (suc (level o))) y) (ap (λ (m : ℕ). operand_takes 9 opens_nothing m y) (ap (λ (m : ℕ). max 9 (suc m)) at ∙ same) ∙ on))

module _ (inner : g.ExprNodes) (under : Phrase Operand) where
  abbrev both : Phrase Operand
  both = under <|> inner.bare

  chain_shifts : (loose : ℕ) → max 9 (suc loose) ≡ 9 → (operator : Phrase Operator) → ((o : Operator) → operator.Fits o → level o ≡ loose) → ((y : Operand) → under.Fits y → Shifts y) → (x : Operand) → (g.chain loose both operator under).Fits x → Shifts x
  unfolding operand_takes
  chain_shifts loose same operator leveled known x (parts, fits, is) =
      subst Shifts is (tails_shift operator.Fits under.Fits (λ o y at fit. shift_inside loose same o y (leveled o at) (known y fit)) (λ y. leaves loose y.1) parts.1 fits.1.0 fits.1.1)

  shifts_shift : (x : Operand) → (g.chain 9 both g.shifting under).Fits x → Shifts x
  unfolding operand_takes
  shifts_shift x (parts, fits, is) = subst Shifts is (tails_shift g.shifting.Fits under.Fits (λ o y at fit. another_shift o y (shift_level o at)) (λ y. leaves 9 y.1) parts.1 fits.1.0 fits.1.1)

  node_shifts : (i : ℕ) → 1 < i → i < 6 → ((y : Operand) → under.Fits y → Shifts y) → (x : Operand) → (g.row_over (g.row_at g.rows i) inner under).Fits x → Shifts x
  node_shifts zero above lt known x fits = absurd (omega (arith, above))
  node_shifts (suc zero) above lt known x fits = absurd (omega (arith, above))
  node_shifts (suc (suc zero)) above lt known x fits = shifts_shift x fits
  node_shifts (suc (suc (suc zero))) above lt known x fits = chain_shifts 8 refl (l.one_of (s.Ampersand ∷ [])) conjunctions.leveled known x fits
  node_shifts (suc (suc (suc (suc zero)))) above lt known x fits = chain_shifts 7 refl (l.one_of (s.Caret ∷ [])) exclusions.leveled known x fits
  node_shifts (suc (suc (suc (suc (suc zero))))) above lt known x fits = chain_shifts 6 refl (l.one_of (s.Bar ∷ [])) disjunctions.leveled known x fits
  node_shifts (suc (suc (suc (suc (suc (suc i)))))) above lt known x fits = absurd (omega (arith, lt))

module _ (least : Phrase Operand) (inner : g.ExprNodes) (under : ℕ → Phrase Operand) (tight : (i : ℕ) → i < 3 → (x : Operand) → (g.rows_over least inner under i).Fits x → Shifts x)
    (known : (i : ℕ) → i < 6 → (x : Operand) → (under i).Fits x → Shifts x) where
  rows_shift : (i : ℕ) → i < 7 → (x : Operand) → (g.rows_over least inner under i).Fits x → Shifts x
  rows_shift zero lt x fits = tight 0 (omega arith) x fits
  rows_shift (suc zero) lt x fits = tight 1 (omega arith) x fits
  rows_shift (suc (suc zero)) lt x fits = tight 2 (omega arith) x fits
  rows_shift (suc (suc (suc i))) lt x (inl fits) = rows_shift (suc (suc i)) (omega (arith, lt)) x fits
  rows_shift (suc (suc (suc i))) lt x (inr fits) = node_shifts inner (under (suc (suc i))) (suc (suc i)) (omega arith) (omega (arith, lt)) (known (suc (suc i)) (omega (arith, lt))) x fits

pub shift_at : (n i : ℕ) → i < 7 → (x : Operand) → ((within n).levels.row i).Fits x → operand_takes 9 opens_nothing 9 x ≡ true
unfolding gs.within gs.nodes_over
shift_at zero i lt x fits = rising_at zero 0 x fits 9 opens_nothing (omega arith)
shift_at (suc n) i lt x fits = rows_shift ((made operand_tokens t.primary (g.primary_of (within (suc n)).nodes.expr_nodes) <|> g.postfix_over (within n).levels) <|> g.unary_over (within n).nodes.expr_nodes.bare (within n).levels) (within n).nodes.expr_nodes (within n).levels.row
    (λ j low y known. rising_at (suc n) j y known 9 opens_nothing (omega (arith, low))) (λ j low y known. shift_at n j (omega (arith, low)) y known) i lt x fits
