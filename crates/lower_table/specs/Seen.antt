-- What contracts see of the rows of a table, in which names are texts.
use Rattle.std.specs.Prelude.{List, map, Option, Some, None}
use Rattle.std.specs.Borrow.{Bor}
use Rattle.dart_ir.specs.Ty as dart
use Rattle.dart_ir.specs.Ty.{TysOf}
use Rattle.dart_ir.specs.declared.class.ClassInfo.{ClassInfo}
use Rattle.dart_ir.specs.declared.types.TypeRef.{TypeRef}
use Rattle.core_program.specs.Named as with_names
use Rattle.core_program.specs.Program as p
use Rattle.core_program.specs.ProgramView as pv
use Rattle.lower_leaf.specs.declared.meaning.Mixin.{Mixin}
use Rattle.translation.specs.Surroundings.{Text, Ty}
use Rattle.translation.specs.Surroundings as m
use Rattle.lower_table.specs.Rows.{Rows}

abbrev pub ty : List Text → TypeRef → Ty
ty texts of = with_names.ty (pv.text_at texts) (dart.ty of)

abbrev pub tys : List Text → List TypeRef → TysOf Text
tys texts all = with_names.tys (pv.text_at texts) (dart.tys all)

abbrev pub option_ty : List Text → Option (Bor TypeRef) → Option Ty
option_ty texts None = None
option_ty texts (Some x) = Some (ty texts x.now)

abbrev pub row : List Text → ClassInfo → p.Class Text
row texts x = with_names.class (pv.text_at texts) (pv.class x)

abbrev pub rows : List Text → List ClassInfo → Rows
rows texts xs = map (row texts) xs

abbrev pub mixin : List Text → Option Mixin → Option m.Mixin
mixin texts None = None
mixin texts (Some x) = Some (record { class = x.class.0; arguments = map (ty texts) x.arguments.items })
