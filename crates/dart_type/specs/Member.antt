-- The first declaration of a member on the chain of superclasses (ECMA-408, Classes).
use Rattle.std.specs.Prelude.{◌≡◌, ℕ, ◌==◌, ◌&&◌, ◌++◌, List, [], ◌∷◌, Bool, true, false, Option, Some, None, find}
use Rattle.dart_base.specs.declared.name.Name.{Name}
use Rattle.dart_ir.specs.Ty.{Ty, class, ty}
use Rattle.dart_ir.specs.Classes.{class_at, member_at}
use Rattle.dart_ir.specs.declared.number.MemberId.{MemberId}
use Rattle.dart_ir.specs.declared.types.TypeRef.{TypeRef}
use Rattle.dart_ir.specs.declared.class.Role.{Role}
use Rattle.dart_ir.specs.declared.class.Role.TheVariants.{Method, Getter, Setter}
use Rattle.dart_ir.specs.declared.class.ClassInfo.{ClassInfo}
use Rattle.dart_ir.specs.declared.class.MemberInfo.{MemberInfo}
use Rattle.dart_ir.specs.declared.class.Classes.{Classes}

abbrev pub class_number : Ty → Option ℕ
class_number (class c given) = Some c
class_number _ = None

-- the number of the superclass, where there is one
abbrev pub superclass_number : Option TypeRef → Option ℕ
superclass_number None = None
superclass_number (Some superclass) = class_number (ty superclass)

abbrev pub superclass_in : Option ClassInfo → Option ℕ
superclass_in None = None
superclass_in (Some info) = superclass_number info.superclass

-- The chain of a class: the list from it to the class without a superclass.
pub data IsChain (classes : Classes) : ℕ → List ℕ → Type 0 where
  ends : (c : ℕ) → superclass_in (class_at classes c) ≡ None → IsChain classes c (c ∷ [])
  goes : (c superclass : ℕ) (chain : List ℕ) → superclass_in (class_at classes c) ≡ Some superclass
      → IsChain classes superclass chain → IsChain classes c (c ∷ chain)

abbrev pub same_role : Role → Role → Bool
same_role Method Method = true
same_role Getter Getter = true
same_role Setter Setter = true
same_role role other = false

abbrev pub is_declaration : Option MemberInfo → Name → Role → Bool
is_declaration None name role = false
is_declaration (Some info) name role =
    info.name.0 == name.0 && (same_role info.role role && info.has_body)

-- Whether a member has that name and role. One without a body is no declaration.
abbrev pub declares : Classes → Name → Role → MemberId → Bool
declares classes name role member = is_declaration (member_at classes member.0) name role

abbrev pub members_in : Option ClassInfo → List MemberId
members_in None = []
members_in (Some info) = info.members.items

-- the members of the classes in order
abbrev pub members_along : Classes → List ℕ → List MemberId
members_along classes [] = []
members_along classes (c ∷ chain) = members_in (class_at classes c) ++ members_along classes chain

-- the first declaration on the chain of the class, or none
pub record IsFirstMember (classes : Classes) (c : ℕ) (name : Name) (role : Role)
    (found : Option MemberId) : Type 0 where
  pub chain : List ℕ
  pub is_chain : IsChain classes c chain
  pub first : found ≡ find (declares classes name role) (members_along classes chain)
