-- A unit as it is once columns are forgotten.
use Rattle.std.specs.Prelude.{map}
use Rattle.core_program.specs.Alike.{line}
use Rattle.dart_tree.specs.UnitView.{maybe}
use Rattle.dart_tree.specs.declared.declaration.Modifier.{Modifier}
use Rattle.dart_tree.specs.declared.declaration.Modifier.TheVariants as mo
use Rattle.dart_tree.specs.declared.declaration.OperatorName.{OperatorName}
use Rattle.dart_tree.specs.declared.declaration.OperatorName.TheVariants as op
use Rattle.dart_tree.specs.declared.declaration.ConstructorName.{ConstructorName}
use Rattle.dart_tree.specs.Unit as u
use Rattle.laws_translation.specs.LinedLeaf as l
use Rattle.laws_translation.specs.Lined as t

abbrev pub bound : u.Bound → u.Bound
bound x = record { word = line x.word; bound = l.type_node x.bound }

abbrev pub type_parameter : u.TypeParameter → u.TypeParameter
type_parameter x = record {
  comma = maybe line x.comma;
  metadata = t.metadata x.metadata;
  name = l.identifier x.name;
  bound = maybe bound x.bound;
}

abbrev pub type_parameters : u.TypeParameters → u.TypeParameters
type_parameters x = record { opening = line x.opening; items = map type_parameter x.items; closing = line x.closing }

abbrev pub type_clause : u.TypeClause → u.TypeClause
type_clause x = record { word = line x.word; types = l.type_list x.types }

abbrev pub superclass : u.Superclass → u.Superclass
superclass x = record { word = line x.word; superclass = l.type_node x.superclass; mixins = maybe type_clause x.mixins }

abbrev pub init_kind : u.InitKind → u.InitKind
init_kind (u.super_init word name given) = u.super_init (line word) (maybe l.dot_name name) (t.arguments given)
init_kind (u.field_init this_dot name equals base more) =
    u.field_init (maybe l.this_dot this_dot) (l.identifier name) (line equals) (t.operand base) (t.cascades more)

abbrev pub init : u.Init → u.Init
init x = record { comma = maybe line x.comma; kind = init_kind x.kind }

abbrev pub initializers : u.Initializers → u.Initializers
initializers x = record { colon = line x.colon; items = map init x.items }

abbrev pub constructor_name : ConstructorName → ConstructorName
constructor_name x = record { class = l.identifier x.class; name = maybe l.dot_name x.name }

abbrev pub constructor : u.Constructor → u.Constructor
constructor (u.generative constant name given inits body) =
    u.generative (maybe line constant) (constructor_name name) (t.parameters given) (maybe initializers inits) (t.body body)
constructor (u.redirecting name given colon this other handed semicolon) =
    u.redirecting (constructor_name name) (t.parameters given) (line colon) (line this) (maybe l.dot_name other) (t.arguments handed)
    (line semicolon)
constructor (u.factory external word name given body) =
    u.factory (maybe line external) (line word) (constructor_name name) (t.parameters given) (t.body body)
constructor (u.redirecting_factory external word name given equals target other semicolon) =
    u.redirecting_factory (maybe line external) (line word) (constructor_name name) (t.parameters given) (line equals)
    (l.type_node target) (maybe l.dot_name other) (line semicolon)

abbrev pub accessor_kind : u.AccessorKind → u.AccessorKind
accessor_kind (u.getter place name) = u.getter (line place) (l.identifier name)
accessor_kind (u.setter place name given) = u.setter (line place) (l.identifier name) (t.parameters given)

abbrev pub accessor : u.Accessor → u.Accessor
accessor x = record {
  external = maybe line x.external;
  result_type = maybe l.result_type x.result_type;
  kind = accessor_kind x.kind;
  body = t.body x.body;
}

abbrev pub operator_name : OperatorName → OperatorName
operator_name (op.Sign place sign) = op.Sign (line place) sign
operator_name (op.ShiftRight first second) = op.ShiftRight (line first) (line second)
operator_name (op.Index opening closing) = op.Index (line opening) (line closing)
operator_name (op.IndexAssign opening closing equals) = op.IndexAssign (line opening) (line closing) (line equals)

abbrev pub operator_member : u.OperatorMember → u.OperatorMember
operator_member x = record {
  external = maybe line x.external;
  result_type = maybe l.result_type x.result_type;
  word = line x.word;
  name = operator_name x.name;
  parameters = t.parameters x.parameters;
  body = t.body x.body;
}

abbrev pub member_kind : u.MemberKind → u.MemberKind
member_kind (u.constructor_member x) = u.constructor_member (constructor x)
member_kind (u.function_member x) = u.function_member (t.function x)
member_kind (u.accessor_member x) = u.accessor_member (accessor x)
member_kind (u.variables_member x) = u.variables_member (t.variables x)
member_kind (u.operator_member x) = u.operator_member (operator_member x)

abbrev pub modifier : Modifier → Modifier
modifier mo.Omitted = mo.Omitted
modifier (mo.Static place) = mo.Static (line place)
modifier (mo.ExternalStatic first second) = mo.ExternalStatic (line first) (line second)

abbrev pub member : u.Member → u.Member
member x = record { metadata = t.metadata x.metadata; modifier = modifier x.modifier; kind = member_kind x.kind }

abbrev pub class_kind : u.ClassKind → u.ClassKind
class_kind (u.declared_class above interfaces opening members closing) = u.declared_class (maybe superclass above)
    (maybe type_clause interfaces) (line opening) (map member members) (line closing)
class_kind (u.mixed_class equals above mixins interfaces semicolon) =
    u.mixed_class (line equals) (l.type_node above) (type_clause mixins) (maybe type_clause interfaces) (line semicolon)

abbrev pub class : u.Class → u.Class
class x = record {
  abstracted = maybe line x.abstracted;
  word = line x.word;
  name = l.identifier x.name;
  parameters = maybe type_parameters x.parameters;
  kind = class_kind x.kind;
}

abbrev pub alias : u.Alias → u.Alias
alias x = record {
  word = line x.word;
  result_type = maybe l.result_type x.result_type;
  name = l.identifier x.name;
  type_parameters = maybe type_parameters x.type_parameters;
  parameters = t.parameters x.parameters;
  semicolon = line x.semicolon;
}

abbrev pub enum : u.Enum → u.Enum
enum x = record {
  word = line x.word;
  name = l.identifier x.name;
  opening = line x.opening;
  first = l.identifier x.first;
  more = map l.comma_name x.more;
  comma = maybe line x.comma;
  closing = line x.closing;
}

abbrev pub decl_kind : u.DeclKind → u.DeclKind
decl_kind (u.class_decl x) = u.class_decl (class x)
decl_kind (u.alias_decl x) = u.alias_decl (alias x)
decl_kind (u.function_decl x) = u.function_decl (t.function x)
decl_kind (u.accessor_decl x) = u.accessor_decl (accessor x)
decl_kind (u.variables_decl x) = u.variables_decl (t.variables x)
decl_kind (u.enum_decl x) = u.enum_decl (enum x)

abbrev pub decl : u.Decl → u.Decl
decl x = record { metadata = t.metadata x.metadata; kind = decl_kind x.kind }
