-- What is true of each operand of a row: an operator that is looser than the row may follow it, and it is not `super` alone.
use Rattle.std.proofs.Common.{◌≡◌, ℕ, zero, suc, max, ◌+◌, ◌<◌, Bool, true, false, not, ◌&&◌, ◌||◌, List, [], ◌∷◌, None, Some, inl, inr, refl, ap, sym, ◌∙◌, subst, arith, ◌⊎◌}
use Rattle.std.specs.Prelude.{nat_lt}
use Rattle.std.proofs.lemmas.Bool.{ltb-true, lt-ltb}
use Rattle.dart_token.specs.declared.sign.Sign.TheVariants as s
use Rattle.dart_tree.specs.declared.operator.Operator.{Operator}
use Rattle.dart_tree.specs.Types.{TypeNode}
use Rattle.dart_tree.specs.declared.expression.Atom.TheVariants as a
use Rattle.dart_tree.specs.Tree as t
use Rattle.dart_tree.specs.Tree.{Operand, Primary}
use Rattle.dart_tree.specs.Tokens.{operand_tokens}
use Rattle.grammar_laws.specs.Codes.{is_empty}
use Rattle.grammar_laws.specs.Fronts.{BothFit, EachFit}
use Rattle.grammar_laws.proofs.Codes.{and_true, or_left, clash}
use Rattle.dart_syntax.specs.Phrases.{Phrase, ◌<|>◌, made}
use Rattle.dart_syntax.specs.Leaves as l
use Rattle.dart_syntax.specs.Edges.{dots, compares, nowhere, question, selects, repeats, leaves, leaves_less, binds_between, expr_takes, operand_takes, tails_take}
use Rattle.dart_syntax.specs.Expressions as g
use Rattle.dart_syntax.specs.Levels.{level}
use Rattle.dart_syntax.specs.Statements as gs
use Rattle.dart_syntax.specs.Statements.{within}
use Rattle.syntax_readers.specs.Levels.{is_bare, assigns}
use Rattle.laws_expr.proofs.Comparing.{comparing_level, rest_level}
use Rattle.laws_expr.proofs.Divided.{shift_level}
use Rattle.laws_expr.proofs.Rows.{products, sums, conjunctions, exclusions, disjunctions, equalities, both_hold, one_holds}

-- ---- an operator may follow

-- what binds more loosely than the second number stands between itself and that
own_between : (next : ℕ) (opens : TypeNode → Bool) (below : ℕ) → next < below → binds_between next opens next below ≡ true
own_between next opens below lt = and_true (not (nat_lt next next)) (nat_lt next below) (not_below (nat_lt next next) refl) (lt-ltb next below lt) where
  not_below : (b : Bool) → nat_lt next next ≡ b → not b ≡ true
  not_below true e = absurd (omega (arith, ltb-true next next e))
  not_below false e = refl

-- an operator of a unary expression, or one that binds more loosely, may follow
abbrev Rises : ℕ → Operand → Type 0
Rises from x = (next : ℕ) (opens : TypeNode → Bool) → next < from → operand_takes next opens next x ≡ true

primary_rises : (x : Primary) → Rises nowhere (t.primary x)
unfolding operand_takes
primary_rises (t.function_literal given (t.arrow_body arrow value semicolon)) next opens lt = or_left (binds_between next opens next nowhere) (expr_takes next opens dots value) (own_between next opens nowhere lt)
primary_rises (t.function_literal given (t.block_body block)) next opens lt = own_between next opens nowhere lt
primary_rises (t.function_literal given (t.no_body semicolon)) next opens lt = own_between next opens nowhere lt
primary_rises (t.super_access word x) next opens lt = own_between next opens nowhere lt
primary_rises (t.bare_super word) next opens lt = own_between next opens nowhere lt
primary_rises (t.atom x) next opens lt = own_between next opens nowhere lt
primary_rises (t.text x) next opens lt = own_between next opens nowhere lt
primary_rises (t.list_literal types opening _ comma closing) next opens lt = own_between next opens nowhere lt
primary_rises (t.map_literal types opening _ comma closing) next opens lt = own_between next opens nowhere lt
primary_rises (t.new_object creation of constructor arguments) next opens lt = own_between next opens nowhere lt
primary_rises (t.parenthesized opening value closing) next opens lt = own_between next opens nowhere lt

postfix_rises : (x : Primary) (behind : t.Selectors) → Rises nowhere (t.postfix x behind None)
unfolding operand_takes
postfix_rises x behind next opens lt = own_between next opens nowhere lt

stepped_rises : (x : Primary) (behind : t.Selectors) (operator : Operator) → Rises selects (t.postfix x behind (Some operator))
unfolding operand_takes
stepped_rises x behind operator next opens lt = own_between next opens selects lt

prefix_rises : (operator : Operator) (x : Operand) → Rises selects (t.prefix operator x)
unfolding operand_takes
prefix_rises operator x next opens lt = or_left (binds_between next opens next selects) (operand_takes next opens (max next selects) x) (own_between next opens selects lt)

-- an operator that binds so, as the last of some, may be followed by what binds more loosely
last_rises : (next : ℕ) (opens : TypeNode → Bool) (from : ℕ) (operator : Operator) (x : Operand) → next < from → level operator ≡ from → tails_take next opens next (t.tail operator x t.no_tails) ≡ true
unfolding tails_take
last_rises next opens from operator x lt at = or_left (binds_between next opens next (level operator)) ((binds_between next opens next (suc (level operator)) && repeats (level operator)) || operand_takes next opens (max next (suc (level operator))) x) (ap (binds_between next opens next) at ∙ own_between next opens from lt)

tails_rise : (next : ℕ) (opens : TypeNode → Bool) (from : ℕ) → next < from → (Of : Operator → Type 0) (U : Operand → Type 0) → ((operator : Operator) → Of operator → level operator ≡ from) → (may : Operator × Operand → Bool) (all : List (Operator × Operand)) →
    is_empty all ≡ false → EachFit (BothFit Of U) may all → tails_take next opens next (g.to_tails all) ≡ true
unfolding tails_take
tails_rise next opens from lt Of U leveled may [] some fits = absurd cc
tails_rise next opens from lt Of U leveled may (x ∷ []) some fits = last_rises next opens from x.0 x.1 lt (leveled x.0 fits.0.0)
tails_rise next opens from lt Of U leveled may (x ∷ y ∷ more) some fits = tails_rise next opens from lt Of U leveled may (y ∷ more) refl fits.2

module _ (from : ℕ) (first operand : Phrase Operand) (operator : Phrase Operator) (leveled : (x : Operator) → operator.Fits x → level x ≡ from) where
  chain_rises : (x : Operand) → (g.chain from first operator operand).Fits x → Rises from x
  unfolding operand_takes
  chain_rises x (parts, fits, is) next opens lt = subst (λ (y : Operand). operand_takes next opens next y ≡ true) is (tails_rise next opens from lt operator.Fits operand.Fits leveled (λ y. leaves from y.1) parts.1 fits.1.0 fits.1.1)

  once_rises : (may : Operand → Bool) (x : Operand) → (g.once may first operator operand).Fits x → Rises from x
  unfolding operand_takes
  once_rises may x (parts, fits, is) next opens lt = subst (λ (y : Operand). operand_takes next opens next y ≡ true) is (last_rises next opens from parts.1.0 parts.1.1 lt (leveled parts.1.0 fits.1.0))

module _ (inner : g.ExprNodes) (under : Phrase Operand) where
  abbrev both : Phrase Operand
  both = under <|> inner.bare

  less_level : (x : Operator) → (l.one_of (s.Less ∷ [])).Fits x → level x ≡ compares
  less_level x (inl known) = comparing_level x (inl known)
  less_level x (inr none) = absurd none

  relational_rises : (x : Operand) → (g.relational_over inner under).Fits x → Rises compares x
  unfolding operand_takes
  relational_rises x (inl fits) next opens lt = once_rises compares both under (l.one_of (s.Less ∷ [])) less_level leaves_less x fits next opens lt
  relational_rises x (inr (inl fits)) next opens lt = once_rises compares both under (l.one_of (s.Greater ∷ s.LessEqual ∷ s.GreaterEqual ∷ [])) rest_level (leaves compares) x fits next opens lt
  relational_rises x (inr (inr (inl (parts, fits, is)))) next opens lt = subst (λ (y : Operand). operand_takes next opens next y ≡ true) is (or_left (binds_between next opens next compares) (binds_between next opens next nowhere && opens parts.1.1.1) (own_between next opens compares lt))
  relational_rises x (inr (inr (inr (parts, fits, is)))) next opens lt = subst (λ (y : Operand). operand_takes next opens next y ≡ true) is (or_left (binds_between next opens next compares) (binds_between next opens next nowhere && opens parts.1.1) (own_between next opens compares lt))

  choice_rises : (x : Operand) → (g.conditional_over inner under).Fits x → Rises question x
  unfolding operand_takes
  choice_rises x (parts, fits, is) next opens lt = subst (λ (y : Operand). operand_takes next opens next y ≡ true) is (or_left (binds_between next opens next question) (expr_takes next opens (max next question) parts.1.1.1.1) (own_between next opens question lt))

  -- a node of a row, by its number
  row_rises : (i : ℕ) (x : Operand) → (g.row_over (g.row_at g.rows i) inner under).Fits x → (next : ℕ) (opens : TypeNode → Bool) → next + suc i < 12 → operand_takes next opens next x ≡ true
  row_rises zero x fits next opens lt = chain_rises 11 both under (l.one_of (s.Star ∷ s.Slash ∷ s.TildeSlash ∷ s.Percent ∷ [])) products.leveled x fits next opens (omega (arith, lt))
  row_rises (suc zero) x fits next opens lt = chain_rises 10 both under (l.one_of (s.Plus ∷ s.Minus ∷ [])) sums.leveled x fits next opens (omega (arith, lt))
  row_rises (suc (suc zero)) x fits next opens lt = chain_rises 9 both under g.shifting shift_level x fits next opens (omega (arith, lt))
  row_rises (suc (suc (suc zero))) x fits next opens lt = chain_rises 8 both under (l.one_of (s.Ampersand ∷ [])) conjunctions.leveled x fits next opens (omega (arith, lt))
  row_rises (suc (suc (suc (suc zero)))) x fits next opens lt = chain_rises 7 both under (l.one_of (s.Caret ∷ [])) exclusions.leveled x fits next opens (omega (arith, lt))
  row_rises (suc (suc (suc (suc (suc zero))))) x fits next opens lt = chain_rises 6 both under (l.one_of (s.Bar ∷ [])) disjunctions.leveled x fits next opens (omega (arith, lt))
  row_rises (suc (suc (suc (suc (suc (suc zero)))))) x fits next opens lt = relational_rises x fits next opens (omega (arith, lt))
  row_rises (suc (suc (suc (suc (suc (suc (suc zero))))))) x fits next opens lt = once_rises 4 both under (l.one_of (s.EqualEqual ∷ s.NotEqual ∷ [])) equalities.leveled (leaves 4) x fits next opens (omega (arith, lt))
  row_rises (suc (suc (suc (suc (suc (suc (suc (suc zero)))))))) x fits next opens lt = chain_rises 3 under under (l.one_of (s.AndAnd ∷ [])) both_hold.leveled x fits next opens (omega (arith, lt))
  row_rises (suc (suc (suc (suc (suc (suc (suc (suc (suc zero))))))))) x fits next opens lt = chain_rises 2 under under (l.one_of (s.OrOr ∷ [])) one_holds.leveled x fits next opens (omega (arith, lt))
  row_rises (suc (suc (suc (suc (suc (suc (suc (suc (suc (suc zero)))))))))) x fits next opens lt = choice_rises x fits next opens (omega (arith, lt))
  row_rises (suc (suc (suc (suc (suc (suc (suc (suc (suc (suc (suc i))))))))))) x fits next opens lt = absurd fits

  -- no node of a row is `super` alone
  row_not_bare : (row : g.Row) (x : Operand) → (g.row_over row inner under).Fits x → is_bare x ≡ false
  row_not_bare (g.chained sign more) x (parts, fits, is) = ap is_bare (sym is)
  row_not_bare g.shifts x (parts, fits, is) = ap is_bare (sym is)
  row_not_bare (g.single sign more) x (parts, fits, is) = ap is_bare (sym is)
  row_not_bare g.comparison x (inl (parts, fits, is)) = ap is_bare (sym is)
  row_not_bare g.comparison x (inr (inl (parts, fits, is))) = ap is_bare (sym is)
  row_not_bare g.comparison x (inr (inr (inl (parts, fits, is)))) = ap is_bare (sym is)
  row_not_bare g.comparison x (inr (inr (inr (parts, fits, is)))) = ap is_bare (sym is)
  row_not_bare (g.logical sign) x (parts, fits, is) = ap is_bare (sym is)
  row_not_bare g.choice x (parts, fits, is) = ap is_bare (sym is)
  row_not_bare g.no_row x fits = absurd fits

  -- and none may be assigned to
  row_no_target : (row : g.Row) (x : Operand) → (g.row_over row inner under).Fits x → assigns x ≡ false
  row_no_target (g.chained sign more) x (parts, fits, is) = ap assigns (sym is)
  row_no_target g.shifts x (parts, fits, is) = ap assigns (sym is)
  row_no_target (g.single sign more) x (parts, fits, is) = ap assigns (sym is)
  row_no_target g.comparison x (inl (parts, fits, is)) = ap assigns (sym is)
  row_no_target g.comparison x (inr (inl (parts, fits, is))) = ap assigns (sym is)
  row_no_target g.comparison x (inr (inr (inl (parts, fits, is)))) = ap assigns (sym is)
  row_no_target g.comparison x (inr (inr (inr (parts, fits, is)))) = ap assigns (sym is)
  row_no_target (g.logical sign) x (parts, fits, is) = ap assigns (sym is)
  row_no_target g.choice x (parts, fits, is) = ap assigns (sym is)
  row_no_target g.no_row x fits = absurd fits

-- ---- postfix and unary expressions

abbrev alone : Primary → Bool
alone x = is_bare (t.primary x)

module _ (here inner : g.ExprNodes) (under : g.Levels) (plain : (x : Primary) → here.literal.Fits x → alone x ≡ false) where
  primary_not_bare : (x : Primary) → (g.primary_of here).Fits x → alone x ≡ false
  primary_not_bare x (inl (parts, fits, is)) = ap alone (sym is)
  primary_not_bare x (inr (inl (parts, fits, is))) = ap alone (sym is)
  primary_not_bare x (inr (inr (inl (parts, fits, is)))) = ap alone (sym is)
  primary_not_bare x (inr (inr (inr (inl (parts, fits, is))))) = ap alone (sym is)
  primary_not_bare x (inr (inr (inr (inr (inl (parts, fits, is)))))) = ap alone (sym is)
  primary_not_bare x (inr (inr (inr (inr (inr literal))))) = plain x literal

  abbrev operand : Phrase Operand
  operand = made operand_tokens t.primary (g.primary_of here)

  operand_not_bare : (x : Operand) → operand.Fits x → is_bare x ≡ false
  operand_not_bare x (parts, fits, is) = ap is_bare (sym is) ∙ primary_not_bare parts fits

  operand_rises : (x : Operand) → operand.Fits x → Rises nowhere x
  operand_rises x (parts, fits, is) next opens lt = subst (λ (y : Operand). operand_takes next opens next y ≡ true) is (primary_rises parts next opens lt)

  abbrev unary : Phrase Operand
  unary = (operand <|> g.postfix_over under) <|> g.unary_over inner.bare under

  unary_rises : (x : Operand) → unary.Fits x → Rises 12 x
  unary_rises x (inl (inl fits)) next opens lt = operand_rises x fits next opens (omega (arith, lt))
  unary_rises x (inl (inr (inl (parts, fits, is)))) next opens lt = subst (λ (y : Operand). operand_takes next opens next y ≡ true) is (postfix_rises parts.0 (g.one_or_more_selectors parts.1) next opens (omega (arith, lt)))
  unary_rises x (inl (inr (inr (inl (parts, fits, is))))) next opens lt = subst (λ (y : Operand). operand_takes next opens next y ≡ true) is (stepped_rises parts.0 t.no_selectors parts.1 next opens (omega (arith, lt)))
  unary_rises x (inl (inr (inr (inr (parts, fits, is))))) next opens lt = subst (λ (y : Operand). operand_takes next opens next y ≡ true) is (stepped_rises parts.0.0 (g.one_or_more_selectors parts.0.1) parts.1 next opens (omega (arith, lt)))
  unary_rises x (inr (inl (parts, fits, is))) next opens lt = subst (λ (y : Operand). operand_takes next opens next y ≡ true) is (prefix_rises parts.0 parts.1 next opens (omega (arith, lt)))
  unary_rises x (inr (inr (inl (parts, fits, is)))) next opens lt = subst (λ (y : Operand). operand_takes next opens next y ≡ true) is (prefix_rises parts.0 parts.1 next opens (omega (arith, lt)))
  unary_rises x (inr (inr (inr (parts, fits, is)))) next opens lt = subst (λ (y : Operand). operand_takes next opens next y ≡ true) is (prefix_rises parts.0 parts.1 next opens (omega (arith, lt)))

  unary_not_bare : (x : Operand) → unary.Fits x → is_bare x ≡ false
  unary_not_bare x (inl (inl fits)) = operand_not_bare x fits
  unary_not_bare x (inl (inr (inl (parts, fits, is)))) = ap is_bare (sym is)
  unary_not_bare x (inl (inr (inr (inl (parts, fits, is))))) = ap is_bare (sym is)
  unary_not_bare x (inl (inr (inr (inr (parts, fits, is))))) = ap is_bare (sym is)
  unary_not_bare x (inr (inl (parts, fits, is))) = ap is_bare (sym is)
  unary_not_bare x (inr (inr (inl (parts, fits, is)))) = ap is_bare (sym is)
  unary_not_bare x (inr (inr (inr (parts, fits, is)))) = ap is_bare (sym is)

  rows_rise : (i : ℕ) (x : Operand) → (g.rows_over unary inner under.row i).Fits x → (next : ℕ) (opens : TypeNode → Bool) → next + i < 12 → operand_takes next opens next x ≡ true
  rows_rise zero x fits next opens lt = unary_rises x fits next opens (omega (arith, lt))
  rows_rise (suc i) x (inl fits) next opens lt = rows_rise i x fits next opens (omega (arith, lt))
  rows_rise (suc i) x (inr fits) next opens lt = row_rises inner (under.row i) i x fits next opens lt

  rows_not_bare : (i : ℕ) (x : Operand) → (g.rows_over unary inner under.row i).Fits x → is_bare x ≡ false
  rows_not_bare zero x fits = unary_not_bare x fits
  rows_not_bare (suc i) x (inl fits) = rows_not_bare i x fits
  rows_not_bare (suc i) x (inr fits) = row_not_bare inner (under.row i) (g.row_at g.rows i) x fits

-- ---- at each depth

literal_plain : (inner : g.ExprNodes) (x : Primary) → (g.literal_over inner).Fits x → alone x ≡ false
literal_plain inner x (inl (parts, fits, is)) = ap alone (sym is)
literal_plain inner x (inr (inl (parts, fits, is))) = ap alone (sym is)
literal_plain inner x (inr (inr (parts, fits, is))) = ap alone (sym is)

-- behind an operand of row i what is looser than the row may stand: `next` binds so tightly, from 12 for unary expressions on
pub rising_at : (n i : ℕ) (x : Operand) → ((within n).levels.row i).Fits x → (next : ℕ) (opens : TypeNode → Bool) → next + i < 12 → operand_takes next opens next x ≡ true
unfolding gs.within gs.nodes_over
rising_at zero i x fits next opens lt = operand_rises gs.no_nodes.expr_nodes gs.no_nodes.expr_nodes (g.flat_levels gs.no_nodes.expr_nodes) (λ y none. absurd none) x fits next opens (omega (arith, lt))
rising_at (suc n) i x fits next opens lt = rows_rise (within (suc n)).nodes.expr_nodes (within n).nodes.expr_nodes (within n).levels (literal_plain (within n).nodes.expr_nodes) i x fits next opens lt

pub not_bare_at : (n i : ℕ) (x : Operand) → ((within n).levels.row i).Fits x → is_bare x ≡ false
unfolding gs.within gs.nodes_over
not_bare_at zero i x fits = operand_not_bare gs.no_nodes.expr_nodes gs.no_nodes.expr_nodes (g.flat_levels gs.no_nodes.expr_nodes) (λ y none. absurd none) x fits
not_bare_at (suc n) i x fits = rows_not_bare (within (suc n)).nodes.expr_nodes (within n).nodes.expr_nodes (within n).levels (literal_plain (within n).nodes.expr_nodes) i x fits

-- ---- `super` alone

pub bare_at : (n : ℕ) (x : Operand) → ((within n).nodes.expr_nodes.bare).Fits x → is_bare x ≡ true
unfolding gs.within gs.nodes_over
bare_at zero x fits = absurd fits
bare_at (suc n) x (word, fits, is) = ap is_bare (sym is)

pub bare_rises_at : (n : ℕ) (x : Operand) → ((within n).nodes.expr_nodes.bare).Fits x → (next : ℕ) (opens : TypeNode → Bool) → next < 12 → operand_takes next opens next x ≡ true
unfolding gs.within gs.nodes_over
bare_rises_at zero x fits next opens lt = absurd fits
bare_rises_at (suc n) x (word, fits, is) next opens lt = subst (λ (y : Operand). operand_takes next opens next y ≡ true) is (primary_rises (t.bare_super word) next opens (omega (arith, lt)))

-- ---- what may be assigned to is an operand of each row

rows_target : (least : Phrase Operand) (inner : g.ExprNodes) (under : ℕ → Phrase Operand) (i : ℕ) (x : Operand) → assigns x ≡ true → (g.rows_over least inner under i).Fits x → least.Fits x
rows_target least inner under zero x on fits = fits
rows_target least inner under (suc i) x on (inl fits) = rows_target least inner under i x on fits
rows_target least inner under (suc i) x on (inr fits) = clash (assigns x) on (row_no_target inner (under i) (g.row_at g.rows i) x fits)

pub target_down : (n i : ℕ) (x : Operand) → assigns x ≡ true → ((within n).levels.row i).Fits x → ((within n).levels.row 0).Fits x
unfolding gs.within gs.nodes_over
target_down zero i x on fits = fits
target_down (suc n) i x on fits = rows_target ((made operand_tokens t.primary (g.primary_of (within (suc n)).nodes.expr_nodes) <|> g.postfix_over (within n).levels) <|> g.unary_over (within n).nodes.expr_nodes.bare (within n).levels) (within n).nodes.expr_nodes (within n).levels.row i x on fits

leaves_shift : (x : Operand) → assigns x ≡ true → leaves 9 x ≡ true
unfolding operand_takes
leaves_shift (t.primary (t.atom (a.Name name))) on = refl
leaves_shift (t.primary (t.super_access word selector)) on = refl
leaves_shift (t.postfix x behind None) on = refl
leaves_shift x on = absurd cc

leaves_compared : (x : Operand) → assigns x ≡ true → leaves 5 x ≡ true
unfolding operand_takes
leaves_compared (t.primary (t.atom (a.Name name))) on = refl
leaves_compared (t.primary (t.super_access word selector)) on = refl
leaves_compared (t.postfix x behind None) on = refl
leaves_compared x on = absurd cc

-- and leaves each operator
pub target_leaves : (next : ℕ) (x : Operand) → (next ≡ 9) ⊎ (next ≡ 5) → assigns x ≡ true → leaves next x ≡ true
target_leaves next x (inl is) on = subst (λ (m : ℕ). leaves m x ≡ true) (sym is) (leaves_shift x on)
target_leaves next x (inr is) on = subst (λ (m : ℕ). leaves m x ≡ true) (sym is) (leaves_compared x on)
