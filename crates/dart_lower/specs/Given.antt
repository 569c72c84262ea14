-- What is translated of a loaded program (ECMA-408, 18 Libraries and Scripts).
use Rattle.std.specs.Prelude.{ℕ, map, codes}
use Rattle.std.specs.List.{zip}
use Rattle.dart_ir.specs.declared.class.Classes.{Classes}
use Rattle.dart_tree.specs.Unit.{UnitTree}
use Rattle.lower_annotation.specs.Annotated.{annotated}
use Rattle.lower_leaf.specs.Around.{Around}
use Rattle.lower_program.specs.Views.{library_outer, member_info}
use Rattle.lower_table.specs.Rows.{rows_of}
use Rattle.lower_table.specs.Table.{table_around}
use Rattle.scope_load.specs.State.{State}
use Rattle.scope_load.specs.declared.units.UnitName.{UnitName}
use Rattle.scope_load.specs.declared.units.UnitName.TheVariants as n
use Rattle.scope_program.specs.Classes.{position_of}
use Rattle.scope_program.specs.Program.{Scoping}
use Rattle.translation.specs.Program as p
use Rattle.translation.specs.Surroundings.{Text}

-- the name of a unit, as places in it are shown
abbrev pub file_name : UnitName → Text
file_name (n.File name) = name
file_name n.Core = codes "dart:core"
file_name n.Isolate = codes "dart:isolate"

-- the declarations of a unit of that library, with what names mean there
abbrev pub source_unit : Around → ℕ × UnitTree → p.SourceUnit
source_unit a x = record { names = a.names (library_outer x.0); declarations = x.1.declarations }

-- what a loaded program is translated in, whose names mean this and whose table of classes is this, with what its annotations ask for
abbrev pub annotated_around : Scoping → State → Classes → Around
annotated_around s state k = annotated (position_of s.numbered) (table_around s k) s.homes state.units

-- what is translated of it in that, where it starts at this function
abbrev pub given_in : Around → Scoping → State → Classes → ℕ → p.Given
given_in a s state k main = record {
  units = map (source_unit a) (zip s.homes state.units);
  first_names = a.names (library_outer 0);
  tables = a.tables;
  files = map file_name state.names;
  classes = rows_of s.texts k;
  members = map (member_info a) k.members.items;
  function_class = k.function.0;
  main = main;
}

-- What is translated of a loaded program, whose names mean this, whose table of classes is this, and which starts at this function.
abbrev pub given_of : Scoping → State → Classes → ℕ → p.Given
given_of s state k main = given_in (annotated_around s state k) s state k main
