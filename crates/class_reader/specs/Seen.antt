-- What contracts see of what is read.
use Rattle.std.specs.Prelude.{List, flat_map, map, Bool, Option}
use Rattle.std.specs.Global.{Vec}
use Rattle.class_fault.specs.declared.program.Declaration.{Declaration}
use Rattle.class_fault.specs.declared.program.HeaderType.{HeaderType}
use Rattle.class_fault.specs.declared.program.Member.{Member}
use Rattle.core_program.specs.Named as with_names
use Rattle.core_program.specs.ProgramView.{text_at}
use Rattle.dart_ir.specs.Ty.{function_ty}
use Rattle.dart_ir.specs.declared.types.FunctionType.{FunctionType}
use Rattle.dart_tree.specs.declared.declaration.TypeParameter.{TypeParameter}
use Rattle.dart_tree.specs.declared.statement.Variable.{Variable}
use Rattle.dart_tree.specs.Lists.{more_variables_of}
use Rattle.dart_tree.specs.Unit as u
use Rattle.dart_tree.specs.UnitView as unit_view
use Rattle.dart_tree.specs.View as view
use Rattle.translation.specs.Declarations as d
use Rattle.translation.specs.Surroundings.{Ty}
use Rattle.translation.specs.Types as y
use Rattle.translation.specs.Walk.{Asked, State}
use Rattle.lower_leaf.specs.Around.{Around}
use Rattle.class_source.specs.Headers as h
use Rattle.class_source.specs.Members as m
use Rattle.class_source.specs.Rows as r
use Rattle.class_source.specs.View as shown
use Rattle.class_reader.specs.declared.header.Heading.{Heading}
use Rattle.class_reader.specs.declared.header.Clauses.{Clauses}
use Rattle.class_reader.specs.declared.method.Declared.{Declared}

unfoldable pub signature : Around → FunctionType → Ty
signature a x = with_names.ty (text_at a.texts) (function_ty x)

abbrev pub declared : Declared → d.Declared
declared x = record {
  external = x.external;
  name = y.word_of x.name.now;
  result = view.result_option x.result_type.now;
  parameters = view.parameters x.parameters.now;
  body = view.body x.body.now;
}

abbrev pub header_types : Around → Vec HeaderType → List r.HeaderType
header_types a x = map (shown.header_type a.texts) x.items

abbrev pub clauses : Around → Clauses → h.Named
clauses a x = record {
  superclass = shown.superclass a.texts x.superclass;
  mixins = header_types a x.mixins;
  interfaces = header_types a x.interfaces;
}

-- what the header of a class says
pub record Headed : Type 0 where
  pub bounds : List (Option Ty)
  pub clauses : h.Named

abbrev pub heading : Around → Heading → Headed
heading a x = record { bounds = map (shown.bound a.texts) x.bounds.items; clauses = clauses a x.clauses }

abbrev pub heading_of : State → u.Class → Headed
heading_of st x = record { bounds = h.bounds st x.parameters; clauses = h.named st x.kind }

-- the bounds of type parameters
abbrev pub bounds_of : State → List TypeParameter → List (Option Ty)
bounds_of st all = map (λ (p : u.TypeParameter). h.bound st p.bound) (map unit_view.type_parameter all)

abbrev pub all_members : Around → Vec Member → List r.Member
all_members a x = map (shown.member a.texts) x.items

abbrev pub members_in : m.Numbers → State → List u.Member → List r.Member
members_in number st all = flat_map (m.instance_members number st) all

-- the members of the fields of a declaration behind the first
abbrev pub more_members : m.Numbers → State → Bool → Asked → List Variable → List r.Member
more_members number st final_one asked all = flat_map (m.field_members number st final_one asked) (m.more_words (more_variables_of all))

abbrev pub classes : Around → Vec Declaration → List r.Class
classes a x = map (shown.class a.texts) x.items
