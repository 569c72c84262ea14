-- When a type is more specific than another, a subtype of it, or assignable to it (ECMA-408, Types),
-- as derivations.
use Rattle.std.specs.Prelude.{◌≡◌, ℕ, ◌≤◌, Bool, true, false, Option, Some, None}
use Rattle.dart_ir.specs.Ty.{Ty, Tys, NamedTys, dynamic, bottom, void, class, parameter, function, nil, cons, unnamed, named, tys}
use Rattle.dart_ir.specs.Classes.{class_at, direct_supertypes, count}
use Rattle.dart_ir.specs.declared.class.ClassInfo.{ClassInfo}
use Rattle.dart_ir.specs.declared.class.Classes.{Classes}
use Rattle.dart_type.specs.Instance.{instance}

-- What the relation asks of a program: of each class its direct supertypes, over its own parameters,
-- and whether it has a method `call`; which class is `Function`; and of each type parameter in scope
-- what stands above it: its bound, and `Object`.
pub record Table : Type 0 where
  pub supertypes : ℕ → Tys
  pub has_call : ℕ → Bool
  pub function_class : ℕ
  pub bounds : ℕ → Tys

abbrev pub supertypes_in : Option ClassInfo → Tys
supertypes_in None = nil
supertypes_in (Some info) = tys (direct_supertypes info)

abbrev pub call_in : Option ClassInfo → Bool
call_in None = false
call_in (Some info) = info.callable

-- The table of a program's classes, with no type parameter in scope.
abbrev pub table_of : Classes → Table
table_of classes = record {
  supertypes = λ c. supertypes_in (class_at classes c);
  has_call = λ c. call_in (class_at classes c);
  function_class = classes.function.0;
  bounds = λ i. nil;
}

-- each dynamic replaced by Bottom
abbrev mutual
  pub floor : Ty → Ty
  floor dynamic = bottom
  floor bottom = bottom
  floor void = void
  floor (class c given) = class c (floors given)
  floor (parameter i) = parameter i
  floor (function result required optional names) =
      function (floor result) (floors required) (floors optional) (named_floors names)

  pub floors : Tys → Tys
  floors nil = nil
  floors (cons first others) = cons (floor first) (floors others)

  pub named_floors : NamedTys → NamedTys
  named_floors unnamed = unnamed
  named_floors (named name first others) = named name (floor first) (named_floors others)

abbrev pub append : Tys → Tys → Tys
append nil others = others
append (cons first more) others = cons first (append more others)

-- a type stands in a list
pub data In : Ty → Tys → Type 0 where
  first : (t : Ty) (ts : Tys) → In t (cons t ts)
  later : (t other : Ty) (ts : Tys) → In t ts → In t (cons other ts)

-- a named parameter has a type
pub data HasName : ℕ → Ty → NamedTys → Type 0 where
  first_name : (name : ℕ) (t : Ty) (names : NamedTys) → HasName name t (named name t names)
  later_name : (name other : ℕ) (t u : Ty) (names : NamedTys) → HasName name t names
      → HasName name t (named other u names)

mutual
  -- A derivation that t is more specific than s. It uses the function rule only where the flag is true,
  -- and of the two parts of a transitivity at most one does.
  pub data Derives (table : Table) : Bool → Ty → Ty → Type 0 where
    same : (rule : Bool) (t : Ty) → Derives table rule t t
    from_bottom : (rule : Bool) (s : Ty) → Derives table rule bottom s
    to_dynamic : (rule : Bool) (t : Ty) → Derives table rule t dynamic
    supertype : (rule : Bool) (c : ℕ) (ts : Tys) (u : Ty) → In u (table.supertypes c)
        → Derives table rule (class c ts) (instance ts u)
    bound : (rule : Bool) (i : ℕ) (u : Ty) → In u (table.bounds i)
        → Derives table rule (parameter i) u
    arguments : (rule : Bool) (c : ℕ) (ts ss : Tys) → DeriveAll table rule ts ss
        → Derives table rule (class c ts) (class c ss)
    function_to_class : (rule : Bool) (result : Ty) (required optional : Tys) (names : NamedTys)
        → Derives table rule (function result required optional names)
        (class table.function_class nil)
    call_to_class : (rule : Bool) (c : ℕ) (ts : Tys) → table.has_call c ≡ true
        → Derives table rule (class c ts) (class table.function_class nil)
    call_to_function : (rule : Bool) (c : ℕ) (ts : Tys) (result : Ty) (required optional : Tys)
        (names : NamedTys) → table.has_call c ≡ true
        → Derives table rule (class c ts) (function result required optional names)
    function_rule : (t s : Ty) → Meets table t s → Derives table true t s
    left : (rule : Bool) (t u s : Ty) → Derives table rule t u → Derives table false u s
        → Derives table rule t s
    right : (rule : Bool) (t u s : Ty) → Derives table false t u → Derives table rule u s
        → Derives table rule t s

  -- place by place
  pub data DeriveAll (table : Table) : Bool → Tys → Tys → Type 0 where
    no_more : (rule : Bool) → DeriveAll table rule nil nil
    one_more : (rule : Bool) (t s : Ty) (ts ss : Tys) → Derives table rule t s
        → DeriveAll table rule ts ss
        → DeriveAll table rule (cons t ts) (cons s ss)

  -- t is assignable to s
  pub data IsAssignable (table : Table) : Ty → Ty → Type 0 where
    to : (t s : Ty) → Derives table true (floor t) s → IsAssignable table t s
    from : (t s : Ty) → Derives table true (floor s) t → IsAssignable table t s

  -- The function rule: the result is void or assignable, the first type requires no more positional
  -- parameters, it accepts as many and has all names, and the parameters that face each other are
  -- assignable.
  pub data Meets (table : Table) : Ty → Ty → Type 0 where
    meets : (t_result s_result : Ty) (t_required s_required t_optional s_optional : Tys)
        (t_names s_names : NamedTys)
        → MeetsResult table t_result s_result → count t_required ≤ count s_required
        → MeetAll table (append t_required t_optional) (append s_required s_optional)
        → MeetNamed table t_names s_names
        → Meets table (function t_result t_required t_optional t_names)
        (function s_result s_required s_optional s_names)

  pub data MeetsResult (table : Table) : Ty → Ty → Type 0 where
    to_void : (t : Ty) → MeetsResult table t void
    to_result : (t s : Ty) → IsAssignable table t s → MeetsResult table t s

  pub data MeetAll (table : Table) : Tys → Tys → Type 0 where
    past_end : (ts : Tys) → MeetAll table ts nil
    facing : (t s : Ty) (ts ss : Tys) → IsAssignable table t s → MeetAll table ts ss
        → MeetAll table (cons t ts) (cons s ss)

  pub data MeetNamed (table : Table) : NamedTys → NamedTys → Type 0 where
    no_name : (t_names : NamedTys) → MeetNamed table t_names unnamed
    one_name : (t_names : NamedTys) (name : ℕ) (t s : Ty) (s_names : NamedTys)
        → HasName name t t_names → IsAssignable table t s → MeetNamed table t_names s_names
        → MeetNamed table t_names (named name s s_names)

-- t << s: t is more specific than s
abbrev pub IsMoreSpecific : Table → Ty → Ty → Type 0
IsMoreSpecific table t s = Derives table true t s

-- t <: s: t with each dynamic replaced by Bottom is more specific than s
abbrev pub IsSubtype : Table → Ty → Ty → Type 0
IsSubtype table t s = IsMoreSpecific table (floor t) s
