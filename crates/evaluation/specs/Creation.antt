-- New objects, constructors, lists and strings (ECMA-408, 10.6 Constructors, 16.5 Strings, 16.7 Lists, 16.12 Instance Creation).
use Rattle.std.specs.Prelude.{ℕ, List, [], ◌∷◌, ◌++◌, false, Option, Some, None, replicate}
use Rattle.dart_base.specs.declared.place.Place.{Place}
use Rattle.dart_ir.specs.declared.kind.ThrowKind.TheVariants.{AbstractClassInstantiationError, ArgumentError, NoSuchMethodError}
use Rattle.dart_ir.specs.declared.value.Value.{Value}
use Rattle.dart_ir.specs.declared.value.Value.TheVariants.{Null}
use Rattle.dart_ir.specs.Object.{instance, list, text}
use Rattle.dart_ir.specs.Ty.{Ty}
use Rattle.dart_store.specs.Heap.{Heap}
use Rattle.core_program.specs.declared.program.FunctionKind.{FunctionKind}
use Rattle.core_program.specs.declared.program.FunctionKind.TheVariants as kind
use Rattle.evaluation.specs.State.{answer, ends, Meaning, Setting, World, Given}
use Rattle.evaluation.specs.Sequence.{on_answer, chosen}
use Rattle.evaluation.specs.Classes.{class_at, field_count, is_abstract, function_at, kind_of_function, class_of_function}
use Rattle.evaluation.specs.Values.{units_of}
use Rattle.evaluation.specs.Objects.{add, throw_new, throw_named}
use Rattle.evaluation.specs.Arguments.{fits}
use Rattle.evaluation.specs.Invocation.{called, receiving, name_of}
use Rattle.evaluation.specs.Types.{with_types}

abbrev pub class_or_first : Option ℕ → ℕ
class_or_first None = 0
class_or_first (Some c) = c

-- a constructor goes on with an object (10.6.1 Generative Constructors)
abbrev pub construct_on : World → Place → ℕ → Value → Given → Meaning
construct_on w at f this g =
    chosen (fits (function_at w.setting.program f) g)
    (called w at f (receiving this (class_or_first (class_of_function (function_at w.setting.program f)))) g)
    (throw_named w.setting at NoSuchMethodError (name_of (function_at w.setting.program f)) false)

-- a constructor of this class or of its superclass goes on with `this`
abbrev pub construct : World → Place → ℕ → Given → Meaning
construct w at f g st = construct_on w at f st.activation.this g st

-- a factory is called with the type arguments of the `new` (10.6.2 Factories)
abbrev pub factory_call : World → Place → ℕ → List Ty → Given → Meaning
factory_call w at f ts g =
    chosen (fits (function_at w.setting.program f) g)
    (called w at f (record { this = Null; owner = 0; closure = Null; types = ts }) g)
    (throw_named w.setting at NoSuchMethodError (name_of (function_at w.setting.program f)) false)

-- an instance whose fields are null, with which the constructor goes on; the answer is the instance
abbrev pub instantiate : World → Place → ℕ → ℕ → Given → List Ty → Meaning
instantiate w at c f g ts st =
    on_answer (λ this st. on_answer (λ _ st. ends (answer this) st) (construct_on w at f this g st))
    (add (instance c ts (replicate (field_count (class_at w.setting.program c)) Null)) st)

abbrev pub create : World → Place → FunctionKind → ℕ → ℕ → Given → List Ty → Meaning
create w at kind.Factory c f g ts st = factory_call w at f ts g st
create w at k c f g ts st =
    chosen (is_abstract (class_at w.setting.program c))
    (throw_new w.setting.known at AbstractClassInstantiationError Null) (instantiate w at c f g ts) st

-- After the arguments the type arguments are put in; then a factory is called, or a class that is abstract has no instance.
abbrev pub new : World → Place → ℕ → ℕ → List Ty → Given → Meaning
new w at c f ts g =
    with_types w.setting ts (create w at (kind_of_function (function_at w.setting.program f)) c f g)

-- After the items the type argument is put in (16.7 Lists).
abbrev pub new_list : Setting → List Ty → List Value → Meaning
new_list s ts items = with_types s ts (λ ts. add (list ts items false))

-- ---- strings with parts (16.5 Strings)

abbrev pub behind : Option (List ℕ) → Option (List ℕ) → Option (List ℕ)
behind (Some x) (Some y) = Some (x ++ y)
behind x y = None

-- the units of all parts, where each is a string
abbrev pub joined : Setting → Heap → List Value → Option (List ℕ)
joined s h [] = Some []
joined s h (v ∷ vs) = behind (units_of s h v) (joined s h vs)

abbrev pub joined_to : Setting → Place → Option (List ℕ) → Meaning
joined_to s at (Some units) st = add (text units) st
joined_to s at None st = throw_new s.known at ArgumentError Null st

abbrev pub join : Setting → Place → List Value → Meaning
join s at vs st = joined_to s at (joined s st.heap vs) st
