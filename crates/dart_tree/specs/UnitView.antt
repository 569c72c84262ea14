-- The unit or declaration that a value of the code is.
use Rattle.std.specs.Prelude.{Option, None, Some, map}
use Rattle.dart_tree.specs.declared.declaration.Bound.{Bound}
use Rattle.dart_tree.specs.declared.declaration.TypeParameter.{TypeParameter}
use Rattle.dart_tree.specs.declared.declaration.TypeParameters.{TypeParameters}
use Rattle.dart_tree.specs.declared.declaration.TypeClause.{TypeClause}
use Rattle.dart_tree.specs.declared.declaration.Superclass.{Superclass}
use Rattle.dart_tree.specs.declared.declaration.InitKind.{InitKind}
use Rattle.dart_tree.specs.declared.declaration.InitKind.TheVariants as ik
use Rattle.dart_tree.specs.declared.declaration.Init.{Init}
use Rattle.dart_tree.specs.declared.declaration.Initializers.{Initializers}
use Rattle.dart_tree.specs.declared.declaration.Constructor.{Constructor}
use Rattle.dart_tree.specs.declared.declaration.Constructor.TheVariants as c
use Rattle.dart_tree.specs.declared.declaration.AccessorKind.{AccessorKind}
use Rattle.dart_tree.specs.declared.declaration.AccessorKind.TheVariants as ak
use Rattle.dart_tree.specs.declared.declaration.Accessor.{Accessor}
use Rattle.dart_tree.specs.declared.declaration.OperatorMember.{OperatorMember}
use Rattle.dart_tree.specs.declared.declaration.MemberKind.{MemberKind}
use Rattle.dart_tree.specs.declared.declaration.MemberKind.TheVariants as mk
use Rattle.dart_tree.specs.declared.declaration.Member.{Member}
use Rattle.dart_tree.specs.declared.declaration.ClassKind.{ClassKind}
use Rattle.dart_tree.specs.declared.declaration.ClassKind.TheVariants as ck
use Rattle.dart_tree.specs.declared.declaration.Class.{Class}
use Rattle.dart_tree.specs.declared.declaration.Alias.{Alias}
use Rattle.dart_tree.specs.declared.declaration.Enum.{Enum}
use Rattle.dart_tree.specs.declared.declaration.DeclKind.{DeclKind}
use Rattle.dart_tree.specs.declared.declaration.DeclKind.TheVariants as dk
use Rattle.dart_tree.specs.declared.declaration.Decl.{Decl}
use Rattle.dart_tree.specs.declared.unit.Combinator.{Combinator}
use Rattle.dart_tree.specs.declared.unit.DirectiveKind.{DirectiveKind}
use Rattle.dart_tree.specs.declared.unit.DirectiveKind.TheVariants as d
use Rattle.dart_tree.specs.declared.unit.Directive.{Directive}
use Rattle.dart_tree.specs.declared.unit.Unit as a
use Rattle.dart_tree.specs.Lists.{metadata_of, pieces_of, cascades_of, type_list_of}
use Rattle.dart_tree.specs.Unit as u
use Rattle.dart_tree.specs.View as view

-- of what may be missing
abbrev pub maybe : {A B : Type 0} → (A → B) → Option A → Option B
maybe f None = None
maybe f (Some x) = Some (f x)

abbrev pub bound : Bound → u.Bound
bound x = record { word = x.word; bound = view.type_node x.bound }

abbrev pub type_parameter : TypeParameter → u.TypeParameter
type_parameter x = record {
  comma = x.comma;
  metadata = metadata_of x.metadata.items;
  name = x.name;
  bound = maybe bound x.bound;
}

abbrev pub type_parameters : TypeParameters → u.TypeParameters
type_parameters x = record {
  opening = x.opening;
  items = map type_parameter x.items.items;
  closing = x.closing;
}

abbrev pub type_clause : TypeClause → u.TypeClause
type_clause x = record { word = x.word; types = type_list_of x.types.items }

abbrev pub superclass : Superclass → u.Superclass
superclass x = record {
  word = x.word;
  superclass = view.type_node x.superclass;
  mixins = maybe type_clause x.mixins;
}

abbrev pub init_kind : InitKind → u.InitKind
init_kind (ik.Super place name given) = u.super_init place name (view.arguments given)
init_kind (ik.Field this_dot name equals first cascades) =
    u.field_init this_dot name equals (view.operand first) (cascades_of cascades.items)

abbrev pub init : Init → u.Init
init x = record { comma = x.comma; kind = init_kind x.kind }

abbrev pub initializers : Initializers → u.Initializers
initializers x = record { colon = x.colon; items = map init x.items.items }

abbrev pub constructor : Constructor → u.Constructor
constructor (c.Generative constant name given inits body) =
    u.generative constant name (view.parameters given) (maybe initializers inits) (view.body body)
constructor (c.Redirecting name given colon this other handed semicolon) =
    u.redirecting name (view.parameters given) colon this other (view.arguments handed) semicolon
constructor (c.Factory external word name given body) =
    u.factory external word name (view.parameters given) (view.body body)
constructor (c.RedirectingFactory external word name given equals target other semicolon) =
    u.redirecting_factory external word name (view.parameters given) equals
    (view.type_node target) other semicolon

abbrev pub accessor_kind : AccessorKind → u.AccessorKind
accessor_kind (ak.Get place name) = u.getter place name
accessor_kind (ak.Set place name given) = u.setter place name (view.parameters given)

abbrev pub accessor : Accessor → u.Accessor
accessor x = record {
  external = x.external;
  result_type = view.result_option x.result_type;
  kind = accessor_kind x.kind;
  body = view.body x.body;
}

abbrev pub operator_member : OperatorMember → u.OperatorMember
operator_member x = record {
  external = x.external;
  result_type = view.result_option x.result_type;
  word = x.word;
  name = x.name;
  parameters = view.parameters x.parameters;
  body = view.body x.body;
}

abbrev pub member_kind : MemberKind → u.MemberKind
member_kind (mk.Constructor x) = u.constructor_member (constructor x)
member_kind (mk.Function x) = u.function_member (view.function x)
member_kind (mk.Accessor x) = u.accessor_member (accessor x)
member_kind (mk.Variables x) = u.variables_member (view.variables x)
member_kind (mk.Operator x) = u.operator_member (operator_member x)

abbrev pub member : Member → u.Member
member x = record {
  metadata = metadata_of x.metadata.items;
  modifier = x.modifier;
  kind = member_kind x.kind;
}

abbrev pub class_kind : ClassKind → u.ClassKind
class_kind (ck.Declared above interfaces opening members closing) =
    u.declared_class (maybe superclass above) (maybe type_clause interfaces) opening
    (map member members.items) closing
class_kind (ck.Mixed equals above mixins interfaces semicolon) =
    u.mixed_class equals (view.type_node above) (type_clause mixins)
    (maybe type_clause interfaces) semicolon

abbrev pub class : Class → u.Class
class x = record {
  abstracted = x.abstracted;
  word = x.word;
  name = x.name;
  parameters = maybe type_parameters x.parameters;
  kind = class_kind x.kind;
}

abbrev pub alias : Alias → u.Alias
alias x = record {
  word = x.word;
  result_type = view.result_option x.result_type;
  name = x.name;
  type_parameters = maybe type_parameters x.type_parameters;
  parameters = view.parameters x.parameters;
  semicolon = x.semicolon;
}

abbrev pub enum : Enum → u.Enum
enum x = record {
  word = x.word;
  name = x.name;
  opening = x.opening;
  first = x.first;
  more = x.more.items;
  comma = x.comma;
  closing = x.closing;
}

abbrev pub decl_kind : DeclKind → u.DeclKind
decl_kind (dk.Class x) = u.class_decl (class x)
decl_kind (dk.Alias x) = u.alias_decl (alias x)
decl_kind (dk.Function x) = u.function_decl (view.function x)
decl_kind (dk.Accessor x) = u.accessor_decl (accessor x)
decl_kind (dk.Variables x) = u.variables_decl (view.variables x)
decl_kind (dk.Enum x) = u.enum_decl (enum x)

abbrev pub decl : Decl → u.Decl
decl x = record { metadata = metadata_of x.metadata.items; kind = decl_kind x.kind }

abbrev pub combinator : Combinator → u.Combinator
combinator x = record { kind = x.kind; word = x.word; first = x.first; more = x.more.items }

abbrev pub directive_kind : DirectiveKind → u.DirectiveKind
directive_kind (d.PartOf part of name more) = u.part_of_directive part of name more.items
directive_kind (d.Library word name more) = u.library_directive word name more.items
directive_kind (d.Import word uri prefix combinators) =
    u.import_directive word (pieces_of uri.items) prefix (map combinator combinators.items)
directive_kind (d.Export word uri combinators) =
    u.export_directive word (pieces_of uri.items) (map combinator combinators.items)
directive_kind (d.Part word uri) = u.part_directive word (pieces_of uri.items)

abbrev pub directive : Directive → u.Directive
directive x = record {
  metadata = metadata_of x.metadata.items;
  kind = directive_kind x.kind;
  semicolon = x.semicolon;
}

abbrev pub unit : a.Unit → u.UnitTree
unit x = record {
  directives = map directive x.directives.items;
  declarations = map decl x.declarations.items;
}
