-- Members that have a result type and the name of their class (ECMA-408, 10.6 Constructors). Where the result type is left out such a
-- member is a constructor, so this reason alone hangs on what erasure drops.
use Rattle.std.specs.Prelude.{List, [], ◌∷◌, Option, None, Some, Bool, ◌&&◌, nat_lt, bytes_eq, if◌then◌else◌, true, false}
use Rattle.std.specs.Option.{is_some, option_or}
use Rattle.dart_base.specs.declared.place.Place.{Place}
use Rattle.dart_tree.specs.declared.identifier.Identifier.{Identifier}
use Rattle.dart_tree.specs.Places.{place_of}
use Rattle.dart_tree.specs.Types as y
use Rattle.dart_tree.specs.Tree as t
use Rattle.dart_tree.specs.Unit as u
use Rattle.translation.specs.Surroundings.{Text}
use Rattle.translation.specs.Types.{text_of}

abbrev pub place_if : Bool → Place → Option Place
place_if true place = Some place
place_if false place = None

-- the place of the name, where it is the class's and a result type is written
abbrev pub named_as : Text → Option y.ResultType → Identifier → Option Place
named_as class result name = place_if (is_some result && bytes_eq (text_of name) class) (place_of name)

abbrev pub accessor_name : u.AccessorKind → Identifier
accessor_name (u.getter place name) = name
accessor_name (u.setter place name parameters) = name

abbrev pub of_function : Text → t.Function → Option Place
of_function class (t.the_function external result name parameters body) = named_as class result name

abbrev pub of_member : Text → u.MemberKind → Option Place
of_member class (u.function_member x) = of_function class x
of_member class (u.accessor_member x) = named_as class x.result_type (accessor_name x.kind)
of_member class other = None

abbrev pub of_members : Text → List u.Member → Option Place
of_members class [] = None
of_members class (x ∷ xs) = option_or (of_member class x.kind) (of_members class xs)

abbrev pub of_class : Text → u.ClassKind → Option Place
of_class class (u.declared_class above interfaces opening members closing) = of_members class members
of_class class (u.mixed_class equals above mixins interfaces semicolon) = None

abbrev pub of_declaration : u.DeclKind → Option Place
of_declaration (u.class_decl x) = of_class (text_of x.name) x.kind
of_declaration other = None

-- the first in these declarations
abbrev pub of_declarations : List u.Decl → Option Place
of_declarations [] = None
of_declarations (x ∷ xs) = option_or (of_declaration x.kind) (of_declarations xs)

-- ---- the order of places

abbrev pub is_left_of : Place → Place → Bool
is_left_of x y = nat_lt x.column y.column

abbrev pub is_above : Place → Place → Bool
is_above x y = if nat_lt x.line y.line then true else if nat_lt y.line x.line then false else is_left_of x y

-- whether a place stands before another: by units, then lines, then columns
abbrev pub is_before : Place → Place → Bool
is_before x y = if nat_lt x.unit y.unit then true else if nat_lt y.unit x.unit then false else is_above x y
