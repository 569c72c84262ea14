-- Class declarations whose names are numbers of a table.
use Rattle.std.specs.Prelude.{ℕ, ◌<◌, All}
use Rattle.class_fault.specs.declared.program.Program.{Program}
use Rattle.class_within.specs.View as view
use Rattle.class_within.specs.Names.{program_names}

-- each name in the program is below a count, as how many names a table has
abbrev pub AreWithin : ℕ → Program → Type 0
AreWithin count p = All (λ n. n < count) (program_names (view.program p))
