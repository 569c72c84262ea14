-- The program that a value of the code is: with names as their numbers, and with names as their texts.
use Rattle.std.specs.Prelude.{ℕ, List, [], map, Option, Some, None, unwrap_or, slice_get}
use Rattle.dart_ir.specs.Ty.{Ty, ty, function_ty}
use Rattle.dart_ir.specs.Object.{heap_object}
use Rattle.dart_ir.specs.declared.number.MemberId.{MemberId}
use Rattle.dart_ir.specs.declared.number.DeclId.{DeclId}
use Rattle.dart_ir.specs.declared.number.ClassId.{ClassId}
use Rattle.dart_ir.specs.declared.types.TypeRef.{TypeRef}
use Rattle.dart_ir.specs.declared.class.ClassInfo.{ClassInfo}
use Rattle.dart_ir.specs.declared.class.MemberInfo.{MemberInfo}
use Rattle.core_program.specs.declared.program.Function.{Function}
use Rattle.core_program.specs.declared.program.Parameter.{Parameter}
use Rattle.core_program.specs.declared.program.StaticVar.{StaticVar}
use Rattle.core_program.specs.declared.program.Site.{Site}
use Rattle.core_program.specs.declared.program.CoreProgram.{CoreProgram}
use Rattle.core_program.specs.View as v
use Rattle.core_program.specs.Named as named
use Rattle.core_program.specs.Program as p

abbrev pub ty_option : Option TypeRef → Option Ty
ty_option None = None
ty_option (Some t) = Some (ty t)

abbrev pub class_option : Option ClassId → Option ℕ
class_option None = None
class_option (Some k) = Some k.0

abbrev pub declaration_option : Option DeclId → Option ℕ
declaration_option None = None
declaration_option (Some d) = Some d.0

abbrev pub class : ClassInfo → p.Class ℕ
class i = record {
  name = i.name.0;
  library = i.library;
  place = i.place;
  bounds = map ty_option i.bounds.items;
  superclass = ty_option i.superclass;
  interfaces = map ty i.interfaces.items;
  is_abstract = i.is_abstract;
  declaration = declaration_option i.decl;
  fields = i.fields;
  members = map (λ (m : MemberId). m.0) i.members.items;
  callable = i.callable;
}

abbrev pub member : MemberInfo → p.Member ℕ
member i = record {
  name = i.name.0;
  role = i.role;
  owner = i.owner.0;
  function = i.function.0;
  signature = function_ty i.signature;
  place = i.place;
  has_body = i.has_body;
}

abbrev pub parameter : Parameter → p.Parameter ℕ
parameter x = record { var = x.var; name = x.name.0; shape = x.shape; default = x.default; site = x.site.0 }

abbrev pub function : Function → p.Function ℕ
function x = record {
  name = x.name.0;
  kind = x.kind;
  class = class_option x.class;
  parameters = map parameter x.parameters.items;
  vars = x.vars;
  cells = x.cells.items;
  captures = x.captures.items;
  signature = function_ty x.signature;
  body = v.part x.body;
}

abbrev pub static : StaticVar → p.Static ℕ
static x = record { name = x.name.0; vars = x.vars; cells = x.cells.items; init = v.part x.init; is_final = x.is_final }

abbrev pub site : Site → p.Site ℕ
site x = record { place = x.place; kind = x.kind; required = ty_option x.required; annotated = x.annotated }

-- the program, with names as their numbers
abbrev pub program : CoreProgram → p.Program ℕ
program x = record {
  units = x.units.items;
  classes = map class x.classes.classes.items;
  members = map member x.classes.members.items;
  function_class = x.classes.function.0;
  functions = map function x.functions.items;
  statics = map static x.statics.items;
  sites = map site x.sites.items;
  literals = x.literals.items;
  constants = map heap_object x.constants.items;
  main = x.main.0;
}

-- the text of a name; of a number that names nothing, no text
abbrev pub text_at : List (List ℕ) → ℕ → List ℕ
text_at texts n = unwrap_or (slice_get texts n) []

-- the program, with names as their texts: what programs are compared by
abbrev pub text_program : CoreProgram → p.Program (List ℕ)
text_program x = named.program (text_at x.names) (program x)
