-- What units and a table of names say of a table of classes, or why there is none, where the names are those of the table.
use Rattle.std.specs.Prelude.{List, length}
use Rattle.dart_base.specs.declared.place.Place.{Place}
use Rattle.dart_ir.specs.declared.class.Classes.{Classes}
use Rattle.class_fault.specs.declared.fault.Fault.{Fault}
use Rattle.class_fault.specs.declared.program.Program.{Program}
use Rattle.class_table.specs.Built.{IsRefused}
use Rattle.class_size.specs.Built.{IsSized, IsOverlarge}
use Rattle.translation.specs.Surroundings.{Text}
use Rattle.class_source.specs.Source.{SourceUnit, Given}
use Rattle.class_source.specs.View.{IsSource}
use Rattle.class_within.specs.Within.{AreWithin}

-- it is the table of a program that has the classes of the units, under these names
abbrev pub IsTableFrom : Given → List SourceUnit → List Text → Classes → Type 0
IsTableFrom given units texts k =
    (p : Program) × IsSource given units texts p × AreWithin (length texts) p × IsSized p k

-- such a program has a header type with this reason, and it is the first that has one
abbrev pub IsFaultFrom : Given → List SourceUnit → List Text → Fault → Type 0
IsFaultFrom given units texts f =
    (p : Program) × IsSource given units texts p × AreWithin (length texts) p × IsRefused p f

-- such a program has a header type that is too large there, and no other reason
abbrev pub IsLargeFrom : Given → List SourceUnit → List Text → Place → Type 0
IsLargeFrom given units texts place =
    (p : Program) × IsSource given units texts p × AreWithin (length texts) p × IsOverlarge p place
