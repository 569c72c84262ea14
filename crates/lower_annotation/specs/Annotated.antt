-- What a program is translated in, with what its annotations ask for (ECMA-408, 8 Variables, 19.3.1 Typedef).
use Rattle.std.specs.Prelude.{ℕ, ◌==◌, List, map, Option, None, slice_get, option_and_then}
use Rattle.std.specs.List.{position_from}
use Rattle.dart_tree.specs.Unit as u
use Rattle.translation.specs.Surroundings.{Ty}
use Rattle.translation.specs.Types.{AliasType, asked_of_kind}
use Rattle.lower_leaf.specs.Around.{Around}
use Rattle.lower_annotation.specs.Numbered.{Numbers, Placed, OuterVariable, Alias, declarations, variables_of, aliases_of}
use Rattle.lower_annotation.specs.Written.{reading, final_type, written_out}

-- where a number stands first
abbrev pub place_in : List ℕ → ℕ → Option ℕ
place_in numbers n = position_from (λ k. k == n) 0 numbers

-- what the annotation of a variable asks for; its names are looked up where it stands, and a static member has no type parameters
abbrev pub annotation_of : Around → OuterVariable → Option Ty
annotation_of a x = (asked_of_kind (reading a x.outer None) x.kind).of

-- of the variable of a number
abbrev pub variable_type : Around → List OuterVariable → ℕ → Option Ty
variable_type a all n = option_and_then (annotation_of a) (option_and_then (slice_get all) (place_in (map (λ x. x.number) all) n))

-- the function types that aliases are
abbrev pub alias_type : Around → List Alias → AliasType
alias_type a all = final_type (place_in (map (λ x. x.number) all)) (written_out a (place_in (map (λ x. x.number) all)) all)

abbrev pub aliased : Around → AliasType → Around
aliased a aliases = record a { tables = record a.tables { alias_type = aliases } }

abbrev pub asked : Around → List OuterVariable → Around
asked a variables = record a { tables = record a.tables { variable_type = variable_type a variables } }

-- with the annotations of these declarations
abbrev pub annotated_by : Numbers → Around → List Placed → Around
annotated_by number a all = asked (aliased a (alias_type a (aliases_of number all))) (variables_of number a all)

-- with the annotations of units, each of the library of the number beside it
abbrev pub annotated : Numbers → Around → List ℕ → List u.UnitTree → Around
annotated number a homes units = annotated_by number a (declarations homes units)
