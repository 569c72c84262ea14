-- A set that all is within that may go on behind a conditional expression with cascades.
use Rattle.std.proofs.Common.{ℕ, List, [], ◌∷◌, ◌++◌}
use Rattle.dart_tree.specs.Tree as t
use Rattle.dart_tree.specs.Tree.{Operand, Cascades}
use Rattle.grammar_laws.specs.Codes.{Within}
use Rattle.grammar_laws.proofs.Codes.{within_none, within_then, within_union, within_given, within_left, within_right}
use Rattle.dart_syntax.specs.Edges.{dots, operand_takes, cascades_take}
use Rattle.laws_expr.specs.Nexts.{Next, Taking, nexts, taken_of, after_cascaded}
use Rattle.laws_expr.proofs.Behind.{alone, operand_alone_within, cascades_alone_within}

abbrev all_of : List Next → List ℕ
all_of [] = []
all_of (x ∷ more) = x.codes ++ all_of more

taken_within : (table : List Next) (takes : Taking) → Within (taken_of table takes) (all_of table)
taken_within [] takes = within_none []
taken_within (x ∷ more) takes = within_union (within_given (takes x.binds x.opens) (λ e. within_left x.codes (all_of more)))
    (within_then (taken_within more takes) (within_right x.codes (all_of more)))

abbrev pub behind_values : List ℕ
behind_values = all_of nexts ++ alone

taken_here : (takes : Taking) → Within (taken_of nexts takes) behind_values
taken_here takes = within_then (taken_within nexts takes) (within_left (all_of nexts) alone)

pub under_cascaded : (x : Operand × Cascades) → Within (after_cascaded x) behind_values
under_cascaded (x, t.no_cascades) = within_union (taken_here (λ next opens. operand_takes next opens dots x))
    (within_then (operand_alone_within x) (within_right (all_of nexts) alone))
under_cascaded (x, t.cascade place behind value more) =
    within_union (taken_here (λ next opens. cascades_take next opens dots (t.cascade place behind value more)))
    (within_then (cascades_alone_within (t.cascade place behind value more)) (within_right (all_of nexts) alone))
