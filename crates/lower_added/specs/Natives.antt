-- The native functions that declarations of the prelude are.
use Rattle.std.specs.Prelude.{◌==◌, ◌&&◌, ◌||◌, not, List, [], ◌∷◌, ◌++◌, Option, Some, None, Bool, true, false, codes, if◌then◌else◌}
use Rattle.std.specs.List.{before_first}
use Rattle.dart_base.specs.declared.name.Name.{Name}
use Rattle.dart_base.specs.declared.place.Place.{Place}
use Rattle.dart_ir.specs.declared.native.NativeId.{NativeId}
use Rattle.core_program.specs.ProgramView.{text_at}
use Rattle.scope_declared.specs.declared.declaration.DeclaredKind.{DeclaredKind}
use Rattle.scope_declared.specs.declared.declaration.DeclaredKind.TheVariants as k
use Rattle.scope_declared.specs.declared.declaration.Owner.{Owner}
use Rattle.scope_declared.specs.declared.declaration.Owner.TheVariants as owner
use Rattle.scope_declared.specs.declared.declaration.Role.{Role}
use Rattle.scope_declared.specs.declared.declaration.Role.TheVariants as role
use Rattle.scope_declared.specs.declared.declaration.Declared.{Declared}
use Rattle.translation.specs.Surroundings.{Text}
use Rattle.scope_class.specs.Members.{is_outermost}
use Rattle.native_name.specs.Name.{native_named}
use Rattle.lower_added.specs.declared.native.TheConstants.{CORE_UNIT, ISOLATE_UNIT}

-- Whether it stands in the prelude.
abbrev pub is_prelude : Declared → Bool
is_prelude one = one.place.unit == CORE_UNIT || one.place.unit == ISOLATE_UNIT

-- A name as it is written: that of a private one without what stands behind it in the table (6.2 Privacy).
abbrev pub written_text : List Text → Name → Text
written_text texts name = before_first (λ b. b == 64) (text_at texts name.0)

-- the class inside of which a declaration stands, of which none is a library's
abbrev pub owner_text : Owner → Text → Text
owner_text owner.Library class = []
owner_text owner.Class class = class
owner_text owner.Object class = class

abbrev pub is_setter : Role → Bool
is_setter role.Setter = true
is_setter other = false

-- a setter's name ends in `=`
abbrev pub role_text : Role → Text → Text
role_text which name = if is_setter which then name ++ codes "=" else name

-- the native that a declaration of that name is, behind the name of the class that was declared last
abbrev pub native_by : Text → DeclaredKind → Text → Option NativeId
native_by class (k.Owned whose which) name = native_named (owner_text whose class) (role_text which name)
native_by class k.Operator name = native_named class name
native_by class k.Constructor name = native_named class []
native_by class k.NamedConstructor name = native_named class name
native_by class other name = None

-- the text of the class that was declared last, if there is one
abbrev pub class_text : List Text → Option Name → Text
class_text texts None = []
class_text texts (Some name) = written_text texts name

abbrev pub native_of : List Text → Option Name → Declared → Option NativeId
native_of texts class one =
    if is_prelude one then native_by (class_text texts class) one.kind (written_text texts one.name) else None

abbrev pub class_declared : Option Name → Name → DeclaredKind → Option Name
class_declared class name k.Class = Some name
class_declared class name other = class

-- the class that was declared last, with one declaration more
abbrev pub class_after : Option Name → Declared → Option Name
class_after class one = class_declared class one.name one.kind

-- the native that each declaration is, behind the class that was declared last
abbrev pub natives_from : List Text → Option Name → List Declared → List (Option NativeId)
natives_from texts class [] = []
natives_from texts class (x ∷ xs) = native_of texts class x ∷ natives_from texts (class_after class x) xs

-- ---- the declarations that translation numbers

abbrev pub is_class : DeclaredKind → Bool
is_class k.Class = true
is_class other = false

abbrev pub is_at : Place → Place → Bool
is_at x y = x.unit == y.unit && (x.line == y.line && x.column == y.column)

-- whether a declaration is an enum: what is added to the class that it stands for stands at its name (13 Enums)
abbrev pub is_enum : Declared → List Declared → Bool
is_enum x [] = false
is_enum x (next ∷ more) = is_class x.kind && is_at x.place next.place

-- All but what is declared inside of enums; the first may stand inside of one.
abbrev pub without_enums : Bool → List Declared → List Declared
without_enums in_enum [] = []
without_enums in_enum (x ∷ xs) = if in_enum && not (is_outermost x.kind)
    then without_enums true xs
    else x ∷ without_enums (is_enum x xs) xs

-- The native that each of a program's declarations is, where an enum counts as one.
abbrev pub natives : List Text → List Declared → List (Option NativeId)
natives texts numbered = natives_from texts None (without_enums false numbered)
