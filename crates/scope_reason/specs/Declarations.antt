-- What a program declares (6.1 Scoping, 18 Libraries and Scripts).
use Rattle.std.specs.Prelude.{ℕ, List, [], ◌∷◌, ◌++◌}
use Rattle.dart_tree.specs.Unit.{UnitTree}
use Rattle.scope_declared.specs.Number.{number_of, library_place}
use Rattle.scope_declared.specs.UnitDeclared.{unit_declares}
use Rattle.scope_declared.specs.declared.declaration.Declared.{Declared}

-- what a unit of a library declares
abbrev pub declared_in : List (List ℕ) → ℕ → UnitTree → List Declared
declared_in names library unit = unit_declares (number_of names library) (library_place library) unit

-- what units declare, unit by unit, where each belongs to the library of the number beside it
abbrev pub all_declared : List (List ℕ) → List ℕ → List UnitTree → List Declared
all_declared names (library ∷ homes) (unit ∷ units) =
    declared_in names library unit ++ all_declared names homes units
all_declared names _ _ = []
