-- How many parameters there are.
use Rattle.std.proofs.Common.{◌≡◌, ◌+◌, List, [], ◌∷◌, length, refl, ap, ◌∙◌, arith}
use Rattle.dart_tree.specs.declared.parameter.Parameter.{Parameter}
use Rattle.dart_tree.specs.declared.parameter.Parameters.{Parameters, out-Parameters, roll-Parameters, out-roll-Parameters}
use Rattle.dart_tree.specs.Lists.{parameter_list_of}
use Rattle.dart_tree.specs.Tree as t
use Rattle.dart_tree.specs.View as view
use Rattle.dart_tree.proofs.Rows.{view_the_parameters}
use Rattle.translation.specs.Declarations as d

pub count_listed : (xs : List Parameter) → d.count (parameter_list_of xs) ≡ length xs
count_listed [] = refl
count_listed (x ∷ xs) = let more = count_listed xs in omega arith

pub parameters_counted : (x : Parameters) → d.parameter_count (view.parameters x) ≡ length (out-Parameters x).required.items + length (out-Parameters x).optional.items
parameters_counted x = ap d.parameter_count (view_the_parameters x)
    ∙ ap (λ n. n + d.count (parameter_list_of (out-Parameters x).optional.items)) (count_listed (out-Parameters x).required.items)
    ∙ ap (λ n. length (out-Parameters x).required.items + n) (count_listed (out-Parameters x).optional.items)

pub ruleset counted = (parameters_counted)

pub ruleset listed = (count_listed)

-- a list of parameters from its parts
pub made_the_parameters : (x : _) → view.parameters (roll-Parameters x) ≡ t.the_parameters x.opening (parameter_list_of x.required.items) x.brackets (parameter_list_of x.optional.items) x.closing
made_the_parameters x = view_the_parameters (roll-Parameters x)
    ∙ ap (λ y. t.the_parameters y.opening (parameter_list_of y.required.items) y.brackets (parameter_list_of y.optional.items) y.closing) (out-roll-Parameters x)
