-- Types in expressions: tests, casts, type literals, and type arguments put in (ECMA-408, 14 Generics, 16.34 Type Test,
-- 16.35 Type Cast).
use Rattle.std.specs.Prelude.{List, [], ◌∷◌, map, Bool, true, false, ◌&&◌, nat_eq, nat_le, Option, Some, None}
use Rattle.dart_base.specs.declared.limit.TheConstants.{TYPE_NODES}
use Rattle.dart_base.specs.declared.place.Place.{Place}
use Rattle.dart_ir.specs.declared.kind.ThrowKind.TheVariants.{CastError}
use Rattle.dart_ir.specs.declared.value.Value.{Value}
use Rattle.dart_ir.specs.declared.value.Value.TheVariants.{Null, Bool as Truth}
use Rattle.dart_ir.specs.Object.{type_value}
use Rattle.dart_ir.specs.Ty.{Ty, dynamic, class, of_list}
use Rattle.dart_type.specs.Instance.{instance, node_count}
use Rattle.dart_store.specs.Heap.{Heap}
use Rattle.evaluation.specs.State.{answer, ended, type_limit, ends, Meaning, Setting, now}
use Rattle.evaluation.specs.Sequence.{chosen}
use Rattle.evaluation.specs.Values.{either, value_type, arguments_here}
use Rattle.evaluation.specs.Objects.{add, throw_new}

-- ---- type arguments put in

abbrev pub is_small : Ty → Bool
is_small t = nat_le (node_count t) TYPE_NODES

-- goes on with the type, where it isn't too large
abbrev pub closed : Ty → (Ty → Meaning) → Meaning
closed t go = chosen (is_small t) (go t) (λ st. ends (ended type_limit) st)

-- goes on with the type over the type arguments in scope
abbrev pub with_type : Setting → Ty → (Ty → Meaning) → Meaning
with_type s t go st = closed (instance (of_list (arguments_here s (now st))) t) go st

abbrev pub are_small : List Ty → Bool
are_small [] = true
are_small (t ∷ ts) = is_small t && are_small ts

abbrev pub all_closed : List Ty → (List Ty → Meaning) → Meaning
all_closed ts go = chosen (are_small ts) (go ts) (λ st. ends (ended type_limit) st)

-- the same for several types, each by itself
abbrev pub with_types : Setting → List Ty → (List Ty → Meaning) → Meaning
with_types s ts go st = all_closed (map (instance (of_list (arguments_here s (now st)))) ts) go st

-- ---- tests

-- whether null is of a type: of `Object`, which is class 0, `dynamic` or `Null`
abbrev pub takes_null : Setting → Ty → Bool
takes_null s dynamic = true
takes_null s (class c ts) = either (nat_eq c 0) (nat_eq c s.known.null_class)
takes_null s t = false

abbrev pub type_is : Setting → Option Ty → Ty → Bool
type_is s None t = takes_null s t
type_is s (Some u) t = s.is_subtype u t

-- whether a value is of a type
abbrev pub is_of : Setting → Heap → Value → Ty → Bool
is_of s h v t = type_is s (value_type s h v) t

abbrev pub told_whether : Setting → Value → Ty → Meaning
told_whether s v t st = ends (answer (Truth (is_of s st.heap v t))) st

abbrev pub is_type : Setting → Ty → Value → Meaning
is_type s t v = with_type s t (told_whether s v)

-- Null passes each cast.
abbrev pub passes_cast : Setting → Heap → Value → Ty → Bool
passes_cast s h Null t = true
passes_cast s h v t = is_of s h v t

abbrev pub cast : Setting → Place → Value → Ty → Meaning
cast s at v t st =
    chosen (passes_cast s st.heap v t) (λ st. ends (answer v) st) (throw_new s.known at CastError Null) st

abbrev pub as_type : Setting → Place → Ty → Value → Meaning
as_type s at t v = with_type s t (cast s at v)

-- a type as a value (16.33 Identifier Reference)
abbrev pub type_object : Setting → Ty → Meaning
type_object s t = with_type s t (λ t. add (type_value t))
