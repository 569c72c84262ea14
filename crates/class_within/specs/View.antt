-- What contracts see of the declarations of a program: two programs of one view are the same but for the room that they take.
use Rattle.std.specs.Prelude.{map, Option, Some, None}
use Rattle.dart_ir.specs.Ty.{ty, function_ty}
use Rattle.core_program.specs.ProgramView.{ty_option}
use Rattle.class_fault.specs.declared.program.HeaderType.{HeaderType}
use Rattle.class_fault.specs.declared.program.Member.{Member}
use Rattle.class_fault.specs.declared.program.Declaration.{Declaration}
use Rattle.class_fault.specs.declared.program.Program.{Program}
use Rattle.class_within.specs.Seen as s

abbrev pub header_type : HeaderType → s.HeaderType
header_type t = record { place = t.place; of = ty t.of }

abbrev pub superclass : Option HeaderType → Option s.HeaderType
superclass None = None
superclass (Some t) = Some (header_type t)

abbrev pub member : Member → s.Member
member m = record {
  name = m.name.0;
  role = m.role;
  function = m.function.0;
  signature = function_ty m.signature;
  place = m.place;
  has_body = m.has_body;
}

abbrev pub class : Declaration → s.Class
class i = record {
  name = i.name.0;
  library = i.library;
  place = i.place;
  declaration = i.decl.0;
  is_abstract = i.is_abstract;
  is_application = i.is_application;
  standing = i.standing;
  bounds = map ty_option i.bounds.items;
  superclass = superclass i.superclass;
  mixins = map header_type i.mixins.items;
  interfaces = map header_type i.interfaces.items;
  members = map member i.members.items;
  fields = i.fields;
}

abbrev pub program : Program → s.Program
program p = record {
  classes = map class p.declarations.items;
  object = p.object;
  function = p.function;
  call = p.call.0;
}
