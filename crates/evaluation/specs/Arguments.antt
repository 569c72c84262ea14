-- What is given to a call against formal parameters (ECMA-408, 9.2 Formal Parameters, 16.14.1 Actual Argument List Evaluation,
-- 16.14.2 Binding Actuals to Formals).
use Rattle.std.specs.Prelude.{ℕ, ◌+◌, ◌-◌, List, [], ◌∷◌, length, take, drop, Bool, true, false, ◌&&◌, not, nat_eq, nat_le, Option, Some, None, cond, slice_index_or}
use Rattle.std.specs.List.{list_any}
use Rattle.dart_ir.specs.declared.kind.Shape.{Shape}
use Rattle.dart_ir.specs.declared.kind.Shape.TheVariants.{Required, Named}
use Rattle.dart_ir.specs.declared.value.Value.{Value}
use Rattle.core_program.specs.Program.{Parameter, Function}
use Rattle.evaluation.specs.State.{Given}

abbrev pub nothing_given : Given
nothing_given = record { values = []; names = [] }

-- one value, by place
abbrev pub alone : Value → Given
alone v = record { values = v ∷ []; names = [] }

abbrev pub given : List ℕ → List Value → Given
given names values = record { values = values; names = names }

-- how many values are given by place
abbrev pub placed_count : Given → ℕ
placed_count g = length g.values - length g.names

abbrev pub placed : Given → List Value
placed g = take (placed_count g) g.values

abbrev pub named_values : Given → List Value
named_values g = drop (placed_count g) g.values

abbrev pub is_required : Shape → Bool
is_required Required = true
is_required shape = false

abbrev pub is_named : Shape → Bool
is_named Named = true
is_named shape = false

abbrev pub one_if : Bool → ℕ
one_if true = 1
one_if false = 0

abbrev pub required_count : List (Parameter ℕ) → ℕ
required_count [] = 0
required_count (q ∷ qs) = one_if (is_required q.shape) + required_count qs

abbrev pub positional_count : List (Parameter ℕ) → ℕ
positional_count [] = 0
positional_count (q ∷ qs) = one_if (not (is_named q.shape)) + positional_count qs

abbrev pub takes_name : List (Parameter ℕ) → ℕ → Bool
takes_name qs name = list_any (λ q. is_named q.shape && nat_eq q.name name) qs

-- Each name is that of a named parameter, and none comes twice.
abbrev pub names_fit : List (Parameter ℕ) → List ℕ → Bool
names_fit qs [] = true
names_fit qs (name ∷ names) = takes_name qs name && (not (list_any (nat_eq name) names) && names_fit qs names)

abbrev pub parameters_of : Option (Function ℕ) → List (Parameter ℕ)
parameters_of None = []
parameters_of (Some f) = f.parameters

-- as many by place as are required, and no more than there are
abbrev pub fit : List (Parameter ℕ) → Given → Bool
fit qs g =
    nat_le (required_count qs) (placed_count g) && (nat_le (placed_count g) (positional_count qs) && names_fit qs g.names)

abbrev pub fits : Option (Function ℕ) → Given → Bool
fits f g = fit (parameters_of f) g

-- the value given by the name, or the default value
abbrev pub named_value : List ℕ → List Value → Parameter ℕ → Value
named_value (name ∷ names) (v ∷ vs) q = cond (nat_eq name q.name) v (named_value names vs q)
named_value names vs q = q.default

abbrev pub value_by : Shape → Given → ℕ → Parameter ℕ → Value
value_by Named g i q = named_value g.names (named_values g) q
value_by shape g i q = slice_index_or (placed g) i q.default

-- what parameter number i is bound to
abbrev pub value_for : Given → ℕ → Parameter ℕ → Value
value_for g i q = value_by q.shape g i q
