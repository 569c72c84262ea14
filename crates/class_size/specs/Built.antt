-- When a program has a table of classes, and when one of its header types is too large.
use Rattle.std.specs.Prelude.{◌≡◌, Option, Some, None}
use Rattle.dart_base.specs.declared.place.Place.{Place}
use Rattle.dart_ir.specs.declared.class.Classes.{Classes}
use Rattle.class_fault.specs.declared.fault.Reason.{Reason}
use Rattle.class_fault.specs.declared.fault.Reason.TheVariants.{CyclicClasses, BadSuper, BadMixin}
use Rattle.class_fault.specs.declared.fault.Fault.{Fault}
use Rattle.class_fault.specs.declared.program.Program.{Program}
use Rattle.class_table.specs.Built.{IsBuilt}
use Rattle.class_size.specs.Size.{IsFirst, all_user_types}
use Rattle.class_size.specs.declared.build.ClassFault.{ClassFault}
use Rattle.class_size.specs.declared.build.ClassFault.TheVariants as variant

-- a reason at its place, as the fault of a program
abbrev pub fault_by : Place → Reason → ClassFault
fault_by place CyclicClasses = variant.CyclicClasses place
fault_by place BadSuper = variant.BadSuper place
fault_by place BadMixin = variant.BadMixin place

abbrev pub fault_of : Fault → ClassFault
fault_of f = fault_by f.place f.reason

-- The classes are the table of the program, and no header type of a user's file is too large, or the first stands there.
pub record IsSizedTo (p : Program) (k : Classes) (found : Option Place) : Type 0 where
  pub table : IsBuilt p k
  pub first : IsFirst k table.numbers (all_user_types p.declarations.items) found

-- no header type is too large
abbrev pub IsSized : Program → Classes → Type 0
IsSized p k = IsSizedTo p k None

-- no header type has another reason, and the first that is too large stands there
abbrev pub IsOverlarge : Program → Place → Type 0
IsOverlarge p place = (k : Classes) × IsSizedTo p k (Some place)
