-- Operators with their operands, that stand behind one another: with the half behind each operand or none, as they are read, and without.
use Rattle.std.proofs.Common.{◌≡◌, ℕ, suc, max, ◌<◌, Bool, true, false, not, ◌&&◌, ◌||◌, if◌then◌else◌, List, [], ◌∷◌, Option, None, inl, inr, refl, ap}
use Rattle.dart_base.specs.declared.place.Place.{Place}
use Rattle.dart_token.specs.declared.token.Token.{Token}
use Rattle.dart_tree.specs.declared.operator.Operator.{Operator}
use Rattle.dart_tree.specs.LeafTokens.{operator_tokens}
use Rattle.dart_tree.specs.Tree as t
use Rattle.dart_tree.specs.Tree.{Operand, Tails}
use Rattle.dart_tree.specs.Tokens.{operand_tokens}
use Rattle.grammar_laws.specs.Codes.{is_empty}
use Rattle.grammar_laws.specs.Fronts.{BothFit, EachFit, both_spelling}
use Rattle.grammar_laws.proofs.Codes.{clash, not_true, or_false}
use Rattle.dart_syntax.specs.Edges.{nowhere, opens_nothing, repeats, binds_between, leaves, operand_takes, tails_take}
use Rattle.dart_syntax.specs.Expressions as g
use Rattle.dart_syntax.specs.Levels.{level}
use Rattle.syntax_readers.specs.Combinators.{Open}
use Rattle.syntax_readers.specs.Levels.{Item, to_tails}
use Rattle.laws_expr.proofs.Sets.{not_false}
use Rattle.laws_expr.proofs.Edges.{operand_moves}

abbrev pub plain_spell : Operator × Operand → List Token
plain_spell = both_spelling operator_tokens operand_tokens

abbrev pub drop : List Item → List (Operator × Operand)
drop [] = []
drop (x ∷ more) = (x.0, x.1.0) ∷ drop more

-- what stands behind an operand says which half is read with it
abbrev pub Between : Type 0
Between = List (Operator × Operand) → Option Place

abbrev pub no_between : Between
no_between more = None

-- and this behind the last
abbrev pub ending : Option Place → Between → Between
ending h between more = if is_empty more then h else between more

abbrev pub keep : Between → List (Operator × Operand) → List Item
keep between [] = []
keep between (x ∷ more) = (x.0, (x.1, between more)) ∷ keep between more

pub tails_drop : (all : List Item) → g.to_tails (drop all) ≡ (to_tails all).0
tails_drop [] = refl
tails_drop (x ∷ more) = ap (t.tail x.0 x.1.0) (tails_drop more)

pub tails_keep : (between : Between) (all : List (Operator × Operand)) → is_empty all ≡ false → to_tails (keep between all) ≡ (g.to_tails all, between [])
tails_keep between [] some = absurd cc
tails_keep between (x ∷ []) some = refl
tails_keep between (x ∷ y ∷ more) some = ap (λ (z : Open Tails). (t.tail x.0 x.1 z.0, z.1)) (tails_keep between (y ∷ more) refl)

pub empty_drop : (all : List Item) → is_empty (drop all) ≡ is_empty all
empty_drop [] = refl
empty_drop (x ∷ more) = refl

pub empty_keep : (between : Between) (all : List (Operator × Operand)) → is_empty (keep between all) ≡ is_empty all
empty_keep between [] = refl
empty_keep between (x ∷ more) = refl

-- ---- the last operand

abbrev pub last_of : Operand → List (Operator × Operand) → Operand
last_of x [] = x
last_of x (y ∷ more) = last_of y.1 more

pub last_fits : (Of : Operator → Type 0) (U : Operand → Type 0) (may : Operator × Operand → Bool) (x : Operand) (all : List (Operator × Operand)) → is_empty all ≡ false → EachFit (BothFit Of U) may all → U (last_of x all)
last_fits Of U may x [] some fits = absurd cc
last_fits Of U may x (y ∷ []) some fits = fits.0.1
last_fits Of U may x (y ∷ z ∷ more) some fits = last_fits Of U may y.1 (z ∷ more) refl fits.2

-- what the row leaves in no place its last operand leaves
pub last_leaves : (next : ℕ) → next < nowhere → (x : Operand) (all : List (Operator × Operand)) → is_empty all ≡ false → leaves next (t.binary x (g.to_tails all)) ≡ true → leaves next (last_of x all) ≡ true
unfolding operand_takes tails_take
last_leaves next lt x [] some left = absurd cc
last_leaves next lt x (y ∷ []) some left =
    let from : ℕ = max nowhere (suc (level y.0)) in
    let again : Bool = binds_between next opens_nothing nowhere (suc (level y.0)) && repeats (level y.0) in
    let none : operand_takes next opens_nothing from y.1 ≡ false = (or_false again (operand_takes next opens_nothing from y.1) (or_false (binds_between next opens_nothing nowhere (level y.0)) (again || operand_takes next opens_nothing from y.1) (not_false (tails_take next opens_nothing nowhere (t.tail y.0 y.1 t.no_tails)) left)).1).1 in
    ap not (not_true (operand_takes next opens_nothing nowhere y.1) (λ on. clash (operand_takes next opens_nothing from y.1) (operand_moves next opens_nothing y.1 nowhere from (inr (inl lt)) on) none))
last_leaves next lt x (y ∷ z ∷ more) some left = last_leaves next lt y.1 (z ∷ more) refl left
