-- Which types a class header may not name, and why.
use Rattle.std.specs.Prelude.{◌≡◌, ℕ, ◌≤◌, ◌+◌, ◌&&◌, ◌==◌, List, [], ◌∷◌, ◌++◌, map, Bool, true, false, not, cond, length, Option, Some, None}
use Rattle.class_order.specs.declared.header.Header.{Header}
use Rattle.dart_ir.specs.Ty.{ty}
use Rattle.class_fault.specs.declared.program.Clause.{Clause}
use Rattle.class_fault.specs.declared.program.Clause.TheVariants.{Extends, With, Implements}
use Rattle.class_fault.specs.declared.program.HeaderType.{HeaderType}
use Rattle.class_fault.specs.declared.program.Declaration.{Declaration}
use Rattle.class_fault.specs.declared.program.Program.{Program}
use Rattle.class_fault.specs.declared.fault.Reason.{Reason}
use Rattle.class_fault.specs.declared.fault.Reason.TheVariants.{CyclicClasses, BadSuper, BadMixin}
use Rattle.class_fault.specs.declared.fault.Fault.{Fault}
use Rattle.class_fault.specs.Program.{declaration_at, class_named}
use Rattle.class_fault.specs.Reach.{LeadsTo}

abbrev pub is_inherited : Clause → Bool
is_inherited Extends = true
is_inherited With = true
is_inherited Implements = false

-- A class of a user's file names int, num, double, String, bool or Null of `dart:core`, or extends or mixes in a class
-- of a library of the system that has external members, other than Object.
abbrev pub is_forbidden : Program → Declaration → ℕ → Declaration → Clause → Bool
is_forbidden p c e n clause = c.standing.is_user && (not n.standing.is_user
    && cond n.standing.is_basic true (is_inherited clause && (n.standing.has_external && not (e == p.object))))

abbrev pub is_object : Program → Option ℕ → Bool
is_object p None = false
is_object p (Some e) = e == p.object

-- it names no superclass but Object
abbrev pub is_plain : Program → Option HeaderType → Bool
is_plain p None = true
is_plain p (Some t) = is_object p (class_named (ty t.of))

-- Its superclass is Object, and it declares no constructor and names no `super`. What is written as an application of a
-- mixin has one mixin, and another class none.
abbrev pub can_mix : Program → ℕ → Declaration → Bool
can_mix p e n = not (e == p.object) && (is_plain p n.superclass && (not n.standing.has_constructor
    && (not n.standing.names_super && (length n.mixins.items == cond n.is_application 1 0))))

abbrev pub is_bad_mixin : Program → ℕ → Declaration → Clause → Bool
is_bad_mixin p e n Extends = false
is_bad_mixin p e n With = not (can_mix p e n)
is_bad_mixin p e n Implements = false

-- why a clause of class c may not name class e, which doesn't lead back to c
abbrev pub static_reason : Program → Declaration → ℕ → Declaration → Clause → Option Reason
static_reason p c e n clause =
    cond (is_forbidden p c e n clause) (Some BadSuper) (cond (is_bad_mixin p e n clause) (Some BadMixin) None)

-- the verdict on a type in a clause of class d
pub data IsVerdict (p : Program) (hs : List Header) (d : ℕ) (clause : Clause) (t : HeaderType) : Option Reason → Type 0 where
  no_class : class_named (ty t.of) ≡ None → IsVerdict p hs d clause t (Some BadSuper)
  leads_back : (e : ℕ) → class_named (ty t.of) ≡ Some e → LeadsTo hs e d → IsVerdict p hs d clause t (Some CyclicClasses)
  decided : (e : ℕ) (c n : Declaration) → class_named (ty t.of) ≡ Some e → (LeadsTo hs e d → ⊥)
      → declaration_at p d ≡ Some c → declaration_at p e ≡ Some n
      → IsVerdict p hs d clause t (static_reason p c e n clause)

-- types with the clause in which they stand
abbrev pub in_clause : Clause → List HeaderType → List (Clause × HeaderType)
in_clause clause ts = map (λ t. (clause, t)) ts

abbrev pub extended : Option HeaderType → List (Clause × HeaderType)
extended None = []
extended (Some t) = (Extends, t) ∷ []

-- the types that a header names, in source order
abbrev pub header_types : Declaration → List (Clause × HeaderType)
header_types i = extended i.superclass ++ in_clause With i.mixins.items ++ in_clause Implements i.interfaces.items

-- the first fault among some types of the header of class d
pub data IsFirst (p : Program) (hs : List Header) (d : ℕ) : List (Clause × HeaderType) → Option Fault → Type 0 where
  no_more : IsFirst p hs d [] None
  here : (clause : Clause) (t : HeaderType) (ts : List (Clause × HeaderType)) (r : Reason)
      → IsVerdict p hs d clause t (Some r)
      → IsFirst p hs d ((clause, t) ∷ ts) (Some (record { place = t.place; reason = r }))
  later : (clause : Clause) (t : HeaderType) (ts : List (Clause × HeaderType)) (f : Option Fault)
      → IsVerdict p hs d clause t None → IsFirst p hs d ts f → IsFirst p hs d ((clause, t) ∷ ts) f

-- the first fault among the classes from d on
pub data IsFirstFrom (p : Program) (hs : List Header) : ℕ → Option Fault → Type 0 where
  past : (d : ℕ) → length p.declarations.items ≤ d → IsFirstFrom p hs d None
  in_class : (d : ℕ) (i : Declaration) (f : Fault) → declaration_at p d ≡ Some i
      → IsFirst p hs d (header_types i) (Some f) → IsFirstFrom p hs d (Some f)
  in_later : (d : ℕ) (i : Declaration) (f : Option Fault) → declaration_at p d ≡ Some i
      → IsFirst p hs d (header_types i) None → IsFirstFrom p hs (d + 1) f → IsFirstFrom p hs d f
