-- The declarations of a program as the code has them, with names as their texts.
use Rattle.std.specs.Prelude.{◌≡◌, List, map, Option, Some, None, codes}
use Rattle.dart_ir.specs.Ty.{ty, function_ty}
use Rattle.dart_ir.specs.declared.types.TypeRef.{TypeRef}
use Rattle.class_fault.specs.declared.program.HeaderType.{HeaderType}
use Rattle.class_fault.specs.declared.program.Member.{Member}
use Rattle.class_fault.specs.declared.program.Declaration.{Declaration}
use Rattle.class_fault.specs.declared.program.Program.{Program}
use Rattle.core_program.specs.ProgramView.{text_at}
use Rattle.core_program.specs.Named as named
use Rattle.translation.specs.Surroundings.{Text, Ty}
use Rattle.class_source.specs.Rows as r
use Rattle.class_source.specs.Source.{SourceUnit, Given, classes_of}

abbrev pub text_type : List Text → TypeRef → Ty
text_type texts t = named.ty (text_at texts) (ty t)

abbrev pub bound : List Text → Option TypeRef → Option Ty
bound texts None = None
bound texts (Some t) = Some (text_type texts t)

abbrev pub header_type : List Text → HeaderType → r.HeaderType
header_type texts t = record { place = t.place; of = text_type texts t.of }

abbrev pub superclass : List Text → Option HeaderType → Option r.HeaderType
superclass texts None = None
superclass texts (Some t) = Some (header_type texts t)

abbrev pub member : List Text → Member → r.Member
member texts m = record {
  name = text_at texts m.name.0;
  role = m.role;
  function = m.function.0;
  signature = named.ty (text_at texts) (function_ty m.signature);
  place = m.place;
  has_body = m.has_body;
}

abbrev pub class : List Text → Declaration → r.Class
class texts i = record {
  name = text_at texts i.name.0;
  library = i.library;
  place = i.place;
  declaration = i.decl.0;
  is_abstract = i.is_abstract;
  is_application = i.is_application;
  standing = i.standing;
  bounds = map (bound texts) i.bounds.items;
  superclass = superclass texts i.superclass;
  mixins = map (header_type texts) i.mixins.items;
  interfaces = map (header_type texts) i.interfaces.items;
  members = map (member texts) i.members.items;
  fields = i.fields;
}

-- The program has the classes that the units declare, under a table of names in which it has the name `call`.
pub record IsSource (given : Given) (units : List SourceUnit) (texts : List Text) (p : Program) : Type 0 where
  pub classes : map (class texts) p.declarations.items ≡ (classes_of given units).classes
  pub object : p.object ≡ (classes_of given units).object
  pub function : p.function ≡ (classes_of given units).function
  pub call : text_at texts p.call.0 ≡ codes "call"
