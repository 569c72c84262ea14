-- What a table of classes is of a program, and when a program has none.
use Rattle.std.specs.Prelude.{◌≡◌, ℕ, List, length, Some, None, slice_index}
use Rattle.class_order.specs.declared.header.Header.{Header}
use Rattle.class_order.specs.declared.rows.Row.{Row}
use Rattle.class_order.specs.Rows.{AreRows}
use Rattle.class_fault.specs.declared.fault.Fault.{Fault}
use Rattle.class_fault.specs.declared.program.Program.{Program}
use Rattle.class_fault.specs.Graph.{IsGraph}
use Rattle.class_fault.specs.Fault.{IsFirstFrom}
use Rattle.dart_ir.specs.declared.class.Classes.{Classes}
use Rattle.class_table.specs.Rows.{IsTable}
use Rattle.class_table.specs.Members.{AreMembers}

-- No header type has a reason, and the classes are those of the rows.
pub record IsBuilt (p : Program) (k : Classes) : Type 0 where
  pub headers : List Header
  pub rows : List Row
  pub numbers : List ℕ
  pub graph : IsGraph p headers
  pub no_fault : IsFirstFrom p headers 0 None
  pub are_rows : AreRows headers rows numbers
  pub table : IsTable p numbers rows (length rows) k.classes.items
  pub members : AreMembers p numbers rows (length rows) k.classes.items k.members.items
  pub function : k.function.0 ≡ slice_index numbers p.function

-- The first header type in source order that has a reason is the fault's.
pub record IsRefused (p : Program) (f : Fault) : Type 0 where
  pub headers : List Header
  pub graph : IsGraph p headers
  pub first : IsFirstFrom p headers 0 (Some f)
