-- What contracts see of arguments, and of what stands behind a tested operand.
use Rattle.std.specs.Prelude.{List, [], ◌∷◌, ◌++◌, true, false}
use Rattle.dart_base.specs.declared.place.Place.{Place}
use Rattle.dart_tree.specs.Tree as t
use Rattle.translation.specs.Surroundings.{Text, Core}
use Rattle.translation.specs.Expressions as e
use Rattle.translation.specs.Productions as low
use Rattle.translation.specs.References.{truth}
use Rattle.translation.specs.Walk as w

-- the names of the arguments that go by name
abbrev pub label_names : t.Items → w.State → List Text
label_names t.no_items st = []
label_names (t.item comma label given rest) st = low.label_name label st ++ label_names rest st

-- `a && b`, where a is tested
abbrev pub both_behind : Place → Core → Place → Core → w.Walk Core
both_behind place test at form st = w.on (w.tested at form st)
    (λ inner st. w.went (e.choice place test (e.choice place inner (truth place true) (truth place false)) (truth place false)) st)

-- `a || b`, where a is tested
abbrev pub either_behind : Place → Core → Place → Core → w.Walk Core
either_behind place test at form st = w.on (w.tested at form st)
    (λ inner st. w.went (e.choice place test (truth place true) (e.choice place inner (truth place true) (truth place false))) st)

-- the operands of an interpolated expression behind constant text
abbrev pub shown_value : Place → w.Walk Core → Text → w.Walk (List Core)
shown_value place value pending st = w.on (e.pending_literal place pending st)
    (λ before st. w.on (value st) (λ form st. w.went (before ++ e.to_string place form ∷ []) st))
