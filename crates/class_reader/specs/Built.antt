-- The table of the classes that units declare, and why there is none.
use Rattle.std.specs.Prelude.{List, length}
use Rattle.dart_base.specs.declared.place.Place.{Place}
use Rattle.dart_ir.specs.declared.class.Classes.{Classes}
use Rattle.class_fault.specs.declared.fault.Fault.{Fault}
use Rattle.class_fault.specs.declared.program.Program.{Program}
use Rattle.class_table.specs.Built.{IsRefused}
use Rattle.class_size.specs.Built.{IsSized, IsOverlarge}
use Rattle.class_within.specs.Within.{AreWithin}
use Rattle.translation.specs.Surroundings.{Text}
use Rattle.class_source.specs.Source.{SourceUnit, Given}
use Rattle.class_source.specs.View.{IsSource}
use Rattle.class_reader.specs.Roots.{HasRoots}

-- The program has the classes that the units declare, under names of that table, `Object` and `Function` among them.
pub record IsRead (given : Given) (units : List SourceUnit) (texts : List Text) (p : Program) : Type 0 where
  pub source : IsSource given units texts p
  pub within : AreWithin (length texts) p
  pub roots : HasRoots p

-- the table is that of such a program
abbrev pub IsBuiltFrom : Given → List SourceUnit → List Text → Classes → Type 0
IsBuiltFrom given units texts k = (p : Program) × IsRead given units texts p × IsSized p k

-- such a program has a header type with this reason, and it is the first that has one
abbrev pub IsRefusedIn : Given → List SourceUnit → List Text → Fault → Type 0
IsRefusedIn given units texts f = (p : Program) × IsRead given units texts p × IsRefused p f

-- such a program has a header type that is too large there, and no other reason
abbrev pub IsOverlargeIn : Given → List SourceUnit → List Text → Place → Type 0
IsOverlargeIn given units texts place = (p : Program) × IsRead given units texts p × IsOverlarge p place
