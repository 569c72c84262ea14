-- Where in a unit there is no instance, so that `this` and `super` mean nothing and neither do members of objects: in static
-- members (10.7 Static Methods and 10.8 Static Variables), in the initialisers of instance variables (10.5 Instance
-- Variables), in factories (10.6.2 Factories), and in what stands between a constructor's parameters and its body (10.6.1
-- Generative Constructors).
use Rattle.std.specs.Prelude.{List, [], flat_map, Option, None, Some}
use Rattle.std.specs.Option.{option_to_list}
use Rattle.dart_base.specs.declared.place.Place.{Place}
use Rattle.dart_tree.specs.declared.declaration.Modifier.{Modifier}
use Rattle.dart_tree.specs.declared.declaration.Modifier.TheVariants as m
use Rattle.dart_tree.specs.Tree as t
use Rattle.dart_tree.specs.Unit as u
use Rattle.scope_declared.specs.Last.{body_last, function_last, variables_last, identifier_place}
use Rattle.scope_table.specs.declared.instance.Stretch.{Stretch}

-- from one token to another, both included
abbrev pub stretch : Place → Place → Stretch
stretch first last = record { first = first; last = last }

abbrev pub body_first : t.Body → Place
body_first (t.arrow_body arrow value semicolon) = arrow
body_first (t.block_body (t.the_block opening statements closing)) = opening
body_first (t.no_body semicolon) = semicolon

abbrev pub constructor_last : u.Constructor → Place
constructor_last (u.generative constant name parameters inits body) = body_last body
constructor_last (u.redirecting name parameters colon this other given semicolon) = semicolon
constructor_last (u.factory external word name parameters body) = body_last body
constructor_last (u.redirecting_factory external word name parameters equals target other
    semicolon) =
    semicolon

abbrev pub member_last : u.MemberKind → Place
member_last (u.constructor_member x) = constructor_last x
member_last (u.function_member x) = function_last x
member_last (u.accessor_member x) = body_last x.body
member_last (u.variables_member x) = variables_last x
member_last (u.operator_member x) = body_last x.body

-- from the colon up to the body
abbrev pub initializers_stretch : Option u.Initializers → t.Body → Option Stretch
initializers_stretch None body = None
initializers_stretch (Some x) body = Some (stretch x.colon (body_first body))

abbrev pub constructor_stretch : u.Constructor → Option Stretch
constructor_stretch (u.generative constant name parameters inits body) =
    initializers_stretch inits body
constructor_stretch (u.redirecting name parameters colon this other given semicolon) =
    Some (stretch colon semicolon)
constructor_stretch (u.factory external word name parameters body) =
    Some (stretch word (body_last body))
constructor_stretch (u.redirecting_factory external word name parameters equals target other
    semicolon) =
    Some (stretch word semicolon)

-- from the first name up to the semicolon
abbrev pub variables_stretch : t.Variables → Stretch
variables_stretch (t.the_variables kind name value more semicolon) =
    stretch (identifier_place name) semicolon

abbrev pub object_member_stretch : u.MemberKind → Option Stretch
object_member_stretch (u.constructor_member x) = constructor_stretch x
object_member_stretch (u.function_member x) = None
object_member_stretch (u.accessor_member x) = None
object_member_stretch (u.variables_member x) = Some (variables_stretch x)
object_member_stretch (u.operator_member x) = None

-- a static member has none from the word `static` on
abbrev pub member_kind_stretch : Modifier → u.MemberKind → Option Stretch
member_kind_stretch m.Omitted x = object_member_stretch x
member_kind_stretch (m.Static word) x = Some (stretch word (member_last x))
member_kind_stretch (m.ExternalStatic external word) x = Some (stretch word (member_last x))

abbrev pub member_stretch : u.Member → Option Stretch
member_stretch x = member_kind_stretch x.modifier x.kind

abbrev pub member_stretches : u.Member → List Stretch
member_stretches x = option_to_list (member_stretch x)

abbrev pub class_kind_stretches : u.ClassKind → List Stretch
class_kind_stretches (u.declared_class above interfaces opening members closing) =
    flat_map member_stretches members
class_kind_stretches (u.mixed_class equals above mixins interfaces semicolon) = []

abbrev pub decl_kind_stretches : u.DeclKind → List Stretch
decl_kind_stretches (u.class_decl x) = class_kind_stretches x.kind
decl_kind_stretches (u.alias_decl x) = []
decl_kind_stretches (u.function_decl x) = []
decl_kind_stretches (u.accessor_decl x) = []
decl_kind_stretches (u.variables_decl x) = []
decl_kind_stretches (u.enum_decl x) = []

abbrev pub decl_stretches : u.Decl → List Stretch
decl_stretches x = decl_kind_stretches x.kind

unfoldable pub unit_stretches : u.UnitTree → List Stretch
unit_stretches x = flat_map decl_stretches x.declarations
