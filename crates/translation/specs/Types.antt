-- What types stand for where they are written, and what annotations ask for (ECMA-408, 19.1 Static Types, 19.3 Type
-- Declarations).
use Rattle.std.specs.Prelude.{ℕ, List, [], ◌∷◌, length, nat_eq, Option, None, Some, Bool, true, false, if◌then◌else◌, slice_get}
use Rattle.std.specs.Option.{option_or, unwrap_or}
use Rattle.dart_base.specs.declared.place.Place.{Place}
use Rattle.dart_base.specs.declared.feature.Feature.TheVariants.{FunctionTypes}
use Rattle.dart_tree.specs.declared.identifier.Identifier.{Identifier}
use Rattle.dart_tree.specs.declared.identifier.Identifier.TheVariants as i
use Rattle.dart_tree.specs.declared.identifier.DotName.{DotName}
use Rattle.dart_tree.specs.declared.parameter.Brackets.{Brackets}
use Rattle.dart_tree.specs.declared.parameter.BracketKind.{BracketKind}
use Rattle.dart_tree.specs.declared.parameter.BracketKind.TheVariants as k
use Rattle.std.specs.Prelude.{codes, replicate}
use Rattle.dart_tree.specs.Places.{place_of}
use Rattle.dart_tree.specs.Types as y
use Rattle.dart_tree.specs.Tree as t
use Rattle.dart_ir.specs.Ty.{TysOf, NamedTysOf, dynamic, void, class, parameter, function, nil, cons, unnamed, named}
use Rattle.translation.specs.Surroundings.{Text, Ty, Meaning, name_in}
use Rattle.translation.specs.Surroundings as m
use Rattle.translation.specs.Walk.{Asked, unasked, Entry, State, Walk, went, refused, left_out, entry_of}

-- ---- names as they are written

abbrev pub text_of : Identifier → Text
text_of (i.Name place text) = text
text_of (i.Get place) = codes "get"
text_of (i.Set place) = codes "set"

-- an identifier at its place
pub record PlacedName : Type 0 where
  pub place : Place
  pub text : Text

abbrev pub word_of : Identifier → PlacedName
word_of name = record { place = place_of name; text = text_of name }

abbrev pub option_word : Option DotName → Option PlacedName
option_word None = None
option_word (Some dot) = Some (word_of dot.name)

-- the last id of a name with or without a dot
abbrev pub last_of : PlacedName → Option PlacedName → PlacedName
last_of first None = first
last_of first (Some second) = second

-- ---- what the name of a type means

-- A local name hides what is outside, and is no type.
abbrev pub outside : Option Entry → Meaning → Meaning
outside None meaning = meaning
outside (Some entry) meaning = m.unknown

abbrev pub meaning_of : State → Text → Meaning
meaning_of st name = outside (entry_of st name) (st.names.meaning name)

abbrev pub behind_prefix : Meaning → Meaning → Meaning
behind_prefix m.prefix meaning = meaning
behind_prefix first meaning = m.unknown

abbrev pub type_meaning : State → PlacedName → Option PlacedName → Meaning
type_meaning st first None = meaning_of st first.text
type_meaning st first (Some second) = behind_prefix (meaning_of st first.text) (st.names.prefixed first.text second.text)

-- what a type stands for, or that it is malformed, with the last id of its name
pub data Typed : Type 0 where
  well_formed : Ty → Typed
  malformed : Text → Typed

-- a malformed type counts as dynamic in an annotation and as a type argument
abbrev pub or_dynamic : Typed → Ty
or_dynamic (well_formed of) = of
or_dynamic (malformed name) = dynamic

abbrev pub tys : List Ty → TysOf Text
tys [] = nil
tys (one ∷ more) = cons one (tys more)

-- type arguments of a wrong number count as omitted, and omitted ones are dynamic
abbrev pub fitting : ℕ → List Ty → List Ty
fitting count given = if nat_eq (length given) count then given else replicate count dynamic

-- what a type parameter stands for: itself, or what a mixin application gives its mixin
abbrev pub argument_in : Option (List Ty) → ℕ → Ty
argument_in None n = parameter n
argument_in (Some given) n = unwrap_or (slice_get given n) dynamic

-- a type parameter of the class around, which static members haven't
abbrev pub parameter_type : Option ℕ → Ty → Text → Typed
parameter_type None of name = malformed name
parameter_type (Some around) of name = well_formed of

-- what an alias with its type arguments stands for
abbrev pub AliasType : Type 0
AliasType = ℕ → List Ty → Ty

abbrev pub typed_as : AliasType → State → Meaning → List Ty → Text → Typed
typed_as alias_type st (m.class n) given name = well_formed (class n (tys (fitting (st.tables.parameters n) given)))
typed_as alias_type st (m.alias n) given name = well_formed (alias_type n given)
typed_as alias_type st (m.type_parameter n) given name =
    parameter_type st.inside.class (argument_in st.inside.arguments n) name
typed_as alias_type st other given name = malformed name

abbrev mutual
  pub typed : AliasType → State → y.TypeNode → Typed
  typed alias_type st (y.dynamic_type place) = well_formed dynamic
  typed alias_type st (y.named_type name dot arguments) =
      typed_as alias_type st (type_meaning st (word_of name) (option_word dot)) (type_arguments alias_type st arguments)
      (name_in st.names.library (last_of (word_of name) (option_word dot)).text)

  pub type_arguments : AliasType → State → y.TypeArguments → List Ty
  type_arguments alias_type st y.no_types = []
  type_arguments alias_type st (y.listed_types opening types closing) = type_list alias_type st types

  pub type_list : AliasType → State → y.TypeList → List Ty
  type_list alias_type st y.no_more_types = []
  type_list alias_type st (y.type_more comma one more) = or_dynamic (typed alias_type st one) ∷ type_list alias_type st more

-- ---- annotations

abbrev pub annotation_type : State → y.TypeNode → Ty
annotation_type st node = or_dynamic (typed st.tables.alias_type st node)

abbrev pub asked_of : State → Option y.TypeNode → Asked
asked_of st None = unasked
asked_of st (Some of) = record { of = Some (annotation_type st of); annotated = true }

-- what the declaration of a variable asks of its values (8 Variables)
abbrev pub asked_of_kind : State → y.VariableKind → Asked
asked_of_kind st y.no_kind = unasked
asked_of_kind st (y.var_kind place) = unasked
asked_of_kind st (y.final_kind place of) = asked_of st of
asked_of_kind st (y.const_kind place of) = asked_of st of
asked_of_kind st (y.typed_kind of) = asked_of st (Some of)

abbrev pub is_final : y.VariableKind → Bool
is_final y.no_kind = false
is_final (y.var_kind place) = false
is_final (y.final_kind place of) = true
is_final (y.const_kind place of) = true
is_final (y.typed_kind of) = false

abbrev pub is_const : y.VariableKind → Bool
is_const (y.const_kind place of) = true
is_const other = false

abbrev pub result_type : State → Option y.ResultType → Ty
result_type st None = dynamic
result_type st (Some (y.void_result place)) = void
result_type st (Some (y.typed_result of)) = annotation_type st of

-- what a function asks of the value that it returns: `void` asks for nothing (9 Functions)
abbrev pub asked_of_result : State → Option y.ResultType → Asked
asked_of_result st None = unasked
asked_of_result st (Some (y.void_result place)) = record { of = None; annotated = true }
asked_of_result st (Some (y.typed_result of)) = asked_of st (Some of)

-- ---- signatures (19.5 Function Types)

abbrev pub type_asked : Asked → Ty
type_asked asked = unwrap_or asked.of dynamic

-- optional parameters in square brackets, and those in braces
abbrev pub in_brackets : {A : Type 0} → BracketKind → A → A → A
in_brackets k.Square square curly = square
in_brackets k.Curly square curly = curly

abbrev pub positional : Option Brackets → TysOf Text → TysOf Text
positional None types = nil
positional (Some brackets) types = in_brackets brackets.kind types nil

abbrev pub by_name : Option Brackets → NamedTysOf Text → NamedTysOf Text
by_name None types = unnamed
by_name (Some brackets) types = in_brackets brackets.kind unnamed types

abbrev pub parameter_name : t.ParameterKind → Identifier
parameter_name (t.plain_parameter kind this_dot name) = name
parameter_name (t.function_parameter result this_dot name parameters) = name

-- a parameter that is written as a function asks for a function type (9.2.1 Required Formals)
abbrev mutual
  pub asked_of_parameter : State → t.ParameterKind → Asked
  asked_of_parameter st (t.plain_parameter kind this_dot name) = asked_of_kind st kind
  asked_of_parameter st (t.function_parameter result this_dot name parameters) =
      record { of = Some (function_type st (result_type st result) parameters); annotated = true }

  -- the type of a function with this result
  pub function_type : State → Ty → t.Parameters → Ty
  function_type st result (t.the_parameters opening required brackets optional closing) =
      function result (parameter_types st required) (positional brackets (parameter_types st optional))
      (by_name brackets (named_types st optional))

  pub parameter_types : State → t.ParameterList → TysOf Text
  parameter_types st t.no_parameters = nil
  parameter_types st (t.parameter one more) = cons (type_of_parameter st one) (parameter_types st more)

  pub named_types : State → t.ParameterList → NamedTysOf Text
  named_types st t.no_parameters = unnamed
  named_types st (t.parameter one more) =
      named (name_in st.names.library (name_of_parameter one)) (type_of_parameter st one) (named_types st more)

  pub type_of_parameter : State → t.Parameter → Ty
  type_of_parameter st (t.the_parameter comma _ kind value) = type_asked (asked_of_parameter st kind)

  pub name_of_parameter : t.Parameter → Text
  name_of_parameter (t.the_parameter comma _ kind value) = text_of (parameter_name kind)

-- ---- types outside of annotations

abbrev pub alias_place : Meaning → Place → Option Place
alias_place (m.alias n) place = Some place
alias_place other place = None

-- the first name of an alias in a type
abbrev mutual
  pub alias_in : State → y.TypeNode → Option Place
  alias_in st (y.dynamic_type place) = None
  alias_in st (y.named_type name dot arguments) =
      option_or (alias_place (type_meaning st (word_of name) (option_word dot)) (last_of (word_of name) (option_word dot)).place)
      (alias_in_arguments st arguments)

  pub alias_in_arguments : State → y.TypeArguments → Option Place
  alias_in_arguments st y.no_types = None
  alias_in_arguments st (y.listed_types opening types closing) = alias_in_list st types

  pub alias_in_list : State → y.TypeList → Option Place
  alias_in_list st y.no_more_types = None
  alias_in_list st (y.type_more comma one more) = option_or (alias_in st one) (alias_in_list st more)

-- no alias stands there
abbrev pub no_alias : AliasType
no_alias n given = dynamic

abbrev pub unless_alias : {A : Type 0} → Option Place → A → Walk A
unless_alias None a st = went a st
unless_alias (Some place) a st = refused (left_out place FunctionTypes)

-- A type that erasure keeps: the profile has no function type there.
abbrev pub kept_type : y.TypeNode → Walk Typed
kept_type node st = unless_alias (alias_in st node) (typed no_alias st node) st

abbrev pub kept_arguments : y.TypeArguments → Walk (List Ty)
kept_arguments arguments st = unless_alias (alias_in_arguments st arguments) (type_arguments no_alias st arguments) st
