-- When what is handed in fits the units: names mean classes that are declared and type parameters that stand there.
use Rattle.std.specs.Prelude.{◌≡◌, ℕ, ◌<◌, List, length, Some, slice_get}
use Rattle.translation.specs.Surroundings.{Text, Meaning, Names}
use Rattle.translation.specs.Surroundings as m
use Rattle.class_source.specs.Rows.{Class}
use Rattle.class_source.specs.Formed.{AreAliasesFormed}
use Rattle.class_source.specs.Source.{SourceUnit, Given, unit_classes}

-- one of so many classes, or of so many type parameters, or neither
abbrev pub IsScoped : ℕ → ℕ → Meaning → Type 0
IsScoped classes parameters (m.class n) = n < classes
IsScoped classes parameters (m.type_parameter n) = n < parameters
IsScoped classes parameters other = Unit {0}

pub record AreScoped (classes parameters : ℕ) (names : Names) : Type 0 where
  pub alone : (name : Text) → IsScoped classes parameters (names.meaning name)
  pub prefixed : (prefix name : Text) → IsScoped classes parameters (names.prefixed prefix name)

-- of class n of the program
pub record IsClassResolved (given : Given) (count n : ℕ) (c : Class) : Type 0 where
  pub library : (given.tables.class_names n).library ≡ c.library
  pub parameters : given.tables.parameters n ≡ length c.bounds
  pub header : AreScoped count (length c.bounds) (given.header_names n)
  pub members : AreScoped count (length c.bounds) (given.tables.class_names n)

-- a class without type parameters, among so many
pub record IsSimple (given : Given) (count c : ℕ) : Type 0 where
  pub declared : c < count
  pub parameters : given.tables.parameters c ≡ 0

pub record IsResolved (given : Given) (units : List SourceUnit) : Type 0 where
  pub classes : (n : ℕ) (c : Class) → slice_get (unit_classes given 0 units) n ≡ Some c
      → IsClassResolved given (length (unit_classes given 0 units)) n c
  pub aliases : (n : ℕ) → AreAliasesFormed given.tables (length (unit_classes given 0 units)) n
  pub int : IsSimple given (length (unit_classes given 0 units)) given.tables.int_class
  pub string : IsSimple given (length (unit_classes given 0 units)) given.tables.string_class
