-- Where a program begins (18.4 Scripts): a function `main` of the root library, with at most one required parameter.
use Rattle.std.specs.Prelude.{ℕ, List, ◌∷◌, Bool, true, false, ◌&&◌, ◌||◌, ◌==◌, bytes_eq, codes}
use Rattle.std.specs.List.{list_any}
use Rattle.dart_tree.specs.Tree as t
use Rattle.dart_tree.specs.Unit as u
use Rattle.scope_mention.specs.Head.{identifier_text}

abbrev pub has_at_most_one : t.ParameterList → Bool
has_at_most_one t.no_parameters = true
has_at_most_one (t.parameter x t.no_parameters) = true
has_at_most_one (t.parameter x (t.parameter y rest)) = false

-- optional parameters count for nothing
abbrev pub requires_at_most_one : t.Parameters → Bool
requires_at_most_one (t.the_parameters opening required brackets optional closing) =
    has_at_most_one required

abbrev pub is_main_function : t.Function → Bool
is_main_function (t.the_function external result_type name parameters body) =
    bytes_eq (identifier_text name) (codes "main") && requires_at_most_one parameters

-- a class, an alias, an accessor, a variable or an enum is none
abbrev pub is_main : u.DeclKind → Bool
is_main (u.function_decl x) = is_main_function x
is_main _ = false

abbrev pub declares_main : u.UnitTree → Bool
declares_main unit = list_any (λ x. is_main x.kind) unit.declarations

-- the number of the root library
abbrev pub root_library : ℕ
root_library = 0

-- whether the root library has it, where each unit belongs to the library of the number beside it
abbrev pub has_main : List ℕ → List u.UnitTree → Bool
has_main (library ∷ homes) (unit ∷ units) =
    (library == root_library && declares_main unit) || has_main homes units
has_main _ _ = false
