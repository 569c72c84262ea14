-- The kind of the first case.
use Rattle.std.proofs.Common.{◌≡◌, ℕ, suc, ◌+◌, ◌<◌, List, [], ◌∷◌, Option, sym, ap, ◌∙◌, subst, length, get_or, drop, add-one, drop-cons}
use Rattle.std.specs.Global.{Box}
use Rattle.dart_tree.specs.declared.expression.Expr.{Expr}
use Rattle.dart_tree.specs.declared.expression.Value.TheVariants as v
use Rattle.dart_tree.specs.declared.operator.Operator.{Operator}
use Rattle.dart_tree.specs.declared.statement.SwitchPart.{SwitchPart}
use Rattle.dart_tree.specs.Lists.{switch_parts_of}
use Rattle.dart_tree.specs.Tree as t
use Rattle.dart_tree.specs.View as view
use Rattle.dart_tree.proofs.Rows.{view_omitted, view_given}
use Rattle.translation.specs.Statements as s

next : (parts ys : List SwitchPart) (i : ℕ) (x : SwitchPart) → ys ≡ parts → i < length ys → x ≡ get_or ys i x →
    s.kind_of_cases (switch_parts_of (drop i parts)) ≡ s.kind_of_value (view.value x.value) (s.kind_of_cases (switch_parts_of (drop (i + 1) parts)))
next parts ys i x same below is =
    ap (λ (l : List SwitchPart). s.kind_of_cases (switch_parts_of l))
    (drop-cons parts i x (let P : List SwitchPart → Type 0 = λ l. i < length l in subst P same below)
    ∙ ap (λ (z : SwitchPart). z ∷ drop (suc i) parts) (sym (is ∙ ap (λ (l : List SwitchPart). get_or l i x) same))
    ∙ ap (λ (n : ℕ). x ∷ drop n parts) (sym (add-one i)))

pub given_first : (parts ys : List SwitchPart) (i : ℕ) (x : SwitchPart) (operator : Option Operator) (tree : Box Expr) → ys ≡ parts → i < length ys → x ≡ get_or ys i x →
    x.value ≡ v.Given operator tree → s.kind_of_cases (switch_parts_of (drop i parts)) ≡ s.kind_of_literal (s.literal_of (view.expr tree.value))
given_first parts ys i x operator tree same below is value =
    next parts ys i x same below is
    ∙ ap (λ (z : t.Value). s.kind_of_value z (s.kind_of_cases (switch_parts_of (drop (i + 1) parts)))) (ap view.value value ∙ view_given operator tree)

pub omitted_first : (parts ys : List SwitchPart) (i : ℕ) (x : SwitchPart) → ys ≡ parts → i < length ys → x ≡ get_or ys i x →
    x.value ≡ v.Omitted → s.kind_of_cases (switch_parts_of (drop i parts)) ≡ s.kind_of_cases (switch_parts_of (drop (i + 1) parts))
omitted_first parts ys i x same below is value =
    next parts ys i x same below is
    ∙ ap (λ (z : t.Value). s.kind_of_value z (s.kind_of_cases (switch_parts_of (drop (i + 1) parts)))) (ap view.value value ∙ view_omitted)
