-- The chain of a class, the members found on it, and the type arguments that an object has at a class above its own
-- (ECMA-408, 10 Classes, 12 Mixins and 14 Generics).
use Rattle.std.specs.Prelude.{ℕ, zero, suc, List, [], ◌∷◌, ◌++◌, length, Bool, true, false, ◌&&◌, cond, nat_eq, Option, Some, None, find, slice_get}
use Rattle.dart_ir.specs.declared.class.Role.{Role}
use Rattle.dart_ir.specs.declared.class.Role.TheVariants.{Method, Getter, Setter}
use Rattle.dart_ir.specs.Ty.{Ty, Tys, class, nil, cons}
use Rattle.dart_type.specs.Instance.{instance}
use Rattle.core_program.specs.declared.program.FunctionKind.{FunctionKind}
use Rattle.core_program.specs.declared.program.FunctionKind.TheVariants as kind
use Rattle.core_program.specs.Program.{Class, Member, Function, Static, Site, Program}

-- ---- what a program lists

abbrev pub class_at : Program ℕ → ℕ → Option (Class ℕ)
class_at p c = slice_get p.classes c

abbrev pub member_at : Program ℕ → ℕ → Option (Member ℕ)
member_at p m = slice_get p.members m

abbrev pub function_at : Program ℕ → ℕ → Option (Function ℕ)
function_at p f = slice_get p.functions f

abbrev pub static_of : Program ℕ → ℕ → Option (Static ℕ)
static_of p d = slice_get p.statics d

abbrev pub site_at : Program ℕ → ℕ → Option (Site ℕ)
site_at p s = slice_get p.sites s

-- how many fields an instance has
abbrev pub field_count : Option (Class ℕ) → ℕ
field_count None = 0
field_count (Some c) = c.fields

abbrev pub is_abstract : Option (Class ℕ) → Bool
is_abstract None = false
is_abstract (Some c) = c.is_abstract

-- ---- the chain

abbrev pub class_number : Option Ty → Option ℕ
class_number (Some (class c ts)) = Some c
class_number t = None

abbrev pub supertype : Option (Class ℕ) → Option Ty
supertype None = None
supertype (Some c) = c.superclass

-- the number of the superclass
abbrev pub superclass : Program ℕ → ℕ → Option ℕ
superclass p c = class_number (supertype (class_at p c))

-- the class and those above it, at most n
abbrev pub chain_within : ℕ → Program ℕ → Option ℕ → List ℕ
chain_within zero p c = []
chain_within (suc n) p None = []
chain_within (suc n) p (Some c) = c ∷ chain_within n p (superclass p c)

-- The chain of a class, from it to `Object`. No chain is longer than the table, since a class is listed after its superclass.
abbrev pub chain : Program ℕ → Option ℕ → List ℕ
chain p c = chain_within (length p.classes) p c

-- ---- members (10.1 Instance Methods, 10.2 Getters, 10.3 Setters)

abbrev pub same_role : Role → Role → Bool
same_role Method Method = true
same_role Getter Getter = true
same_role Setter Setter = true
same_role role other = false

abbrev pub is_declaration : Option (Member ℕ) → ℕ → Role → Bool
is_declaration None name role = false
is_declaration (Some m) name role = nat_eq m.name name && (same_role m.role role && m.has_body)

abbrev pub own_members : Option (Class ℕ) → List ℕ
own_members None = []
own_members (Some c) = c.members

-- the members of the classes, in order
abbrev pub members_along : Program ℕ → List ℕ → List ℕ
members_along p [] = []
members_along p (c ∷ cs) = own_members (class_at p c) ++ members_along p cs

-- The first declaration of that name and role on the chain of the class. One without a body is no declaration.
abbrev pub member : Program ℕ → Option ℕ → ℕ → Role → Option ℕ
member p c name role = find (λ m. is_declaration (member_at p m) name role) (members_along p (chain p c))

-- ---- type arguments

abbrev pub type_list : Tys → List Ty
type_list nil = []
type_list (cons t ts) = t ∷ type_list ts

abbrev pub put_in : Tys → Option Ty → Option Ty
put_in ts None = None
put_in ts (Some t) = Some (instance ts t)

-- the supertype of that class, up the chain from a type
abbrev pub up_to : ℕ → Program ℕ → ℕ → Option Ty → Option Ty
up_to (suc n) p c (Some (class k ts)) =
    cond (nat_eq k c) (Some (class k ts)) (up_to n p c (put_in ts (supertype (class_at p k))))
up_to n p c t = None

abbrev pub first_type : List Ty → Option Ty
first_type [] = None
first_type (t ∷ ts) = Some t

abbrev pub interfaces : Option (Class ℕ) → List Ty
interfaces None = []
interfaces (Some c) = c.interfaces

-- The type of that class whose members a class has: itself, or the mixin that it applies, which is the first of its
-- interfaces, or what this one applies.
abbrev pub mixed_in : ℕ → Program ℕ → ℕ → Option Ty → Option Ty
mixed_in (suc n) p c (Some (class k ts)) =
    cond (nat_eq k c) (Some (class k ts)) (mixed_in n p c (put_in ts (first_type (interfaces (class_at p k)))))
mixed_in n p c t = None

abbrev pub arguments_in : Option Ty → List Ty
arguments_in (Some (class k ts)) = type_list ts
arguments_in t = []

-- The type arguments that an object of the type has at class c, of which the owner is a class or an application.
abbrev pub arguments_at : Program ℕ → ℕ → ℕ → Option Ty → List Ty
arguments_at p owner c t = arguments_in (mixed_in (length p.classes) p c (up_to (length p.classes) p owner t))

-- ---- functions

abbrev pub class_of_function : Option (Function ℕ) → Option ℕ
class_of_function None = None
class_of_function (Some f) = f.class

abbrev pub kind_of_function : Option (Function ℕ) → FunctionKind
kind_of_function None = kind.Absent
kind_of_function (Some f) = f.kind

-- the function of a member, and the class that lists it
abbrev pub member_function : Option (Member ℕ) → ℕ
member_function None = 0
member_function (Some m) = m.function

abbrev pub member_owner : Option (Member ℕ) → ℕ
member_owner None = 0
member_owner (Some m) = m.owner
