-- Units and declarations without annotations: no accessor, operator or alias has a result type, and
-- what a declaration holds is erased. Bounds, supertypes, interfaces, enums and metadata stay.
use Rattle.std.specs.Prelude.{map, None}
use Rattle.dart_tree.specs.Unit as u
use Rattle.dart_tree.specs.UnitView.{maybe}
use Rattle.dart_erase.specs.Erased as erased

abbrev pub type_parameter : u.TypeParameter → u.TypeParameter
type_parameter x = record {
  comma = x.comma;
  metadata = erased.metadata x.metadata;
  name = x.name;
  bound = x.bound;
}

abbrev pub type_parameters : u.TypeParameters → u.TypeParameters
type_parameters x = record {
  opening = x.opening;
  items = map type_parameter x.items;
  closing = x.closing;
}

abbrev pub init_kind : u.InitKind → u.InitKind
init_kind (u.super_init place name given) = u.super_init place name (erased.arguments given)
init_kind (u.field_init this_dot name equals first cascades) =
    u.field_init this_dot name equals (erased.operand first) (erased.cascades cascades)

abbrev pub init : u.Init → u.Init
init x = record { comma = x.comma; kind = init_kind x.kind }

abbrev pub initializers : u.Initializers → u.Initializers
initializers x = record { colon = x.colon; items = map init x.items }

abbrev pub constructor : u.Constructor → u.Constructor
constructor (u.generative constant name given inits body) =
    u.generative constant name (erased.parameters given) (maybe initializers inits)
    (erased.body body)
constructor (u.redirecting name given colon this other handed semicolon) =
    u.redirecting name (erased.parameters given) colon this other
    (erased.arguments handed) semicolon
constructor (u.factory external word name given body) =
    u.factory external word name (erased.parameters given) (erased.body body)
constructor (u.redirecting_factory external word name given equals target other semicolon) =
    u.redirecting_factory external word name (erased.parameters given) equals target other semicolon

abbrev pub accessor_kind : u.AccessorKind → u.AccessorKind
accessor_kind (u.getter place name) = u.getter place name
accessor_kind (u.setter place name given) = u.setter place name (erased.parameters given)

abbrev pub accessor : u.Accessor → u.Accessor
accessor x = record {
  external = x.external;
  result_type = None;
  kind = accessor_kind x.kind;
  body = erased.body x.body;
}

abbrev pub operator_member : u.OperatorMember → u.OperatorMember
operator_member x = record {
  external = x.external;
  result_type = None;
  word = x.word;
  name = x.name;
  parameters = erased.parameters x.parameters;
  body = erased.body x.body;
}

abbrev pub member_kind : u.MemberKind → u.MemberKind
member_kind (u.constructor_member x) = u.constructor_member (constructor x)
member_kind (u.function_member x) = u.function_member (erased.function x)
member_kind (u.accessor_member x) = u.accessor_member (accessor x)
member_kind (u.variables_member x) = u.variables_member (erased.variables x)
member_kind (u.operator_member x) = u.operator_member (operator_member x)

abbrev pub member : u.Member → u.Member
member x = record {
  metadata = erased.metadata x.metadata;
  modifier = x.modifier;
  kind = member_kind x.kind;
}

abbrev pub class_kind : u.ClassKind → u.ClassKind
class_kind (u.declared_class above interfaces opening members closing) =
    u.declared_class above interfaces opening (map member members) closing
class_kind (u.mixed_class equals above mixins interfaces semicolon) =
    u.mixed_class equals above mixins interfaces semicolon

abbrev pub class : u.Class → u.Class
class x = record {
  abstracted = x.abstracted;
  word = x.word;
  name = x.name;
  parameters = maybe type_parameters x.parameters;
  kind = class_kind x.kind;
}

abbrev pub alias : u.Alias → u.Alias
alias x = record {
  word = x.word;
  result_type = None;
  name = x.name;
  type_parameters = maybe type_parameters x.type_parameters;
  parameters = erased.parameters x.parameters;
  semicolon = x.semicolon;
}

abbrev pub decl_kind : u.DeclKind → u.DeclKind
decl_kind (u.class_decl x) = u.class_decl (class x)
decl_kind (u.alias_decl x) = u.alias_decl (alias x)
decl_kind (u.function_decl x) = u.function_decl (erased.function x)
decl_kind (u.accessor_decl x) = u.accessor_decl (accessor x)
decl_kind (u.variables_decl x) = u.variables_decl (erased.variables x)
decl_kind (u.enum_decl x) = u.enum_decl x

abbrev pub decl : u.Decl → u.Decl
decl x = record { metadata = erased.metadata x.metadata; kind = decl_kind x.kind }

abbrev pub directive_kind : u.DirectiveKind → u.DirectiveKind
directive_kind (u.part_of_directive part of name more) = u.part_of_directive part of name more
directive_kind (u.library_directive word name more) = u.library_directive word name more
directive_kind (u.import_directive word uri prefix combinators) =
    u.import_directive word (erased.pieces uri) prefix combinators
directive_kind (u.export_directive word uri combinators) =
    u.export_directive word (erased.pieces uri) combinators
directive_kind (u.part_directive word uri) = u.part_directive word (erased.pieces uri)

abbrev pub directive : u.Directive → u.Directive
directive x = record {
  metadata = erased.metadata x.metadata;
  kind = directive_kind x.kind;
  semicolon = x.semicolon;
}

abbrev pub unit : u.UnitTree → u.UnitTree
unit x = record { directives = map directive x.directives; declarations = map decl x.declarations }
