-- Types that are read where names mean declared classes and type parameters are formed.
use Rattle.std.proofs.Common.{◌≡◌, ◌∙◌, ℕ, zero, suc, List, [], ◌∷◌, length, nat_eq, replicate, Option, None, Some, Bool, true, false, arith, refl, if◌then◌else◌}
use Rattle.std.proofs.lemmas.Bool.{eqb-true}
use Rattle.dart_tree.specs.declared.parameter.Brackets.{Brackets}
use Rattle.dart_tree.specs.declared.parameter.BracketKind.{BracketKind}
use Rattle.dart_tree.specs.declared.parameter.BracketKind.TheVariants as k
use Rattle.dart_tree.specs.Types as y
use Rattle.dart_tree.specs.Tree as t
use Rattle.dart_ir.specs.Ty.{TysOf, NamedTysOf, dynamic, nil, unnamed}
use Rattle.translation.specs.Surroundings.{Text, Ty, Meaning, Names}
use Rattle.translation.specs.Surroundings as m
use Rattle.translation.specs.Types.{PlacedName, word_of, option_word, type_meaning, behind_prefix, tys, fitting, typed_as, typed, type_arguments, type_list, AliasType, no_alias, or_dynamic, asked_of, asked_of_kind, type_asked, result_type, in_brackets, positional, by_name, asked_of_parameter, function_type, parameter_types, named_types, type_of_parameter}
use Rattle.class_source.specs.Headers.{type_in}
use Rattle.class_source.specs.Source.{Given, reading}
use Rattle.class_source.specs.Resolved.{IsScoped, AreScoped}
use Rattle.class_source.specs.Formed.{count, IsFormed, AreFormed, AreNamedFormed, IsPlain, ArePlain, AreAliasesFormed}

count_tys : (ts : List Ty) → count (tys ts) ≡ length ts
count_tys [] = refl
count_tys (t ∷ ts) = let e = count_tys ts in omega (arith, e)

abbrev dynamics : ℕ → List Ty
dynamics k = replicate k dynamic

count_dynamics : (k : ℕ) → count (tys (dynamics k)) ≡ k
count_dynamics zero = refl
count_dynamics (suc k) = let e = count_dynamics k in omega (arith, e)

count_chosen : (k : ℕ) (ts : List Ty) (b : Bool) → nat_eq (length ts) k ≡ b → count (tys (if b then ts else dynamics k)) ≡ k
count_chosen k ts true q = count_tys ts ∙ eqb-true (length ts) k q
count_chosen k ts false q = count_dynamics k

count_fitting : (k : ℕ) (ts : List Ty) → count (tys (fitting k ts)) ≡ k
count_fitting k ts = count_chosen k ts (nat_eq (length ts) k) refl

dynamics_plain : (k : ℕ) → ArePlain (tys (dynamics k))
dynamics_plain zero = tt
dynamics_plain (suc k) = (tt, dynamics_plain k)

chosen_plain : (k : ℕ) (ts : List Ty) (b : Bool) → ArePlain (tys ts) → ArePlain (tys (if b then ts else dynamics k))
chosen_plain k ts true h = h
chosen_plain k ts false h = dynamics_plain k

module _ (given : Given) (names : Names) where
  meant_plain : (x : Meaning) (ts : List Ty) → ArePlain (tys ts) → (name : Text) → IsPlain (or_dynamic (typed_as no_alias (reading given names) x ts name))
  meant_plain (m.class c) ts f name = chosen_plain (given.tables.parameters c) ts (nat_eq (length ts) (given.tables.parameters c)) f
  meant_plain (m.alias k) ts f name = tt
  meant_plain (m.type_parameter i) ts f name = tt
  meant_plain (m.function k) ts f name = tt
  meant_plain (m.variable k b) ts f name = tt
  meant_plain (m.accessors a b) ts f name = tt
  meant_plain m.member ts f name = tt
  meant_plain m.prefix ts f name = tt
  meant_plain m.ambiguous ts f name = tt
  meant_plain m.unknown ts f name = tt

  mutual
    pub type_plain : (node : y.TypeNode) → IsPlain (type_in (reading given names) node)
    type_plain (y.dynamic_type place) = tt
    type_plain (y.named_type name dot arguments) =
        meant_plain (type_meaning (reading given names) (word_of name) (option_word dot)) (type_arguments no_alias (reading given names) arguments) (arguments_plain arguments) _

    arguments_plain : (arguments : y.TypeArguments) → ArePlain (tys (type_arguments no_alias (reading given names) arguments))
    arguments_plain y.no_types = tt
    arguments_plain (y.listed_types opening types closing) = list_plain types

    list_plain : (types : y.TypeList) → ArePlain (tys (type_list no_alias (reading given names) types))
    list_plain y.no_more_types = tt
    list_plain (y.type_more comma one more) = (type_plain one, list_plain more)

module _ (given : Given) (names : Names) (classes n : ℕ) (scoped : AreScoped classes n names) where
  dynamics_formed : (k : ℕ) → AreFormed given.tables classes n (tys (dynamics k))
  dynamics_formed zero = tt
  dynamics_formed (suc k) = (tt, dynamics_formed k)

  chosen_formed : (k : ℕ) (ts : List Ty) (b : Bool) → AreFormed given.tables classes n (tys ts) → AreFormed given.tables classes n (tys (if b then ts else dynamics k))
  chosen_formed k ts true h = h
  chosen_formed k ts false h = dynamics_formed k

  behind_scoped : (x z : Meaning) → IsScoped classes n z → IsScoped classes n (behind_prefix x z)
  behind_scoped (m.class c) z h = tt
  behind_scoped (m.alias k) z h = tt
  behind_scoped (m.type_parameter i) z h = tt
  behind_scoped (m.function k) z h = tt
  behind_scoped (m.variable k b) z h = tt
  behind_scoped (m.accessors a b) z h = tt
  behind_scoped m.member z h = tt
  behind_scoped m.prefix z h = h
  behind_scoped m.ambiguous z h = tt
  behind_scoped m.unknown z h = tt

  meaning_scoped : (first : PlacedName) (second : Option PlacedName) → IsScoped classes n (type_meaning (reading given names) first second)
  meaning_scoped first None = scoped.alone first.text
  meaning_scoped first (Some second) = behind_scoped (names.meaning first.text) (names.prefixed first.text second.text) (scoped.prefixed first.text second.text)

  module _ (alias_type : AliasType) (aliases : (k : ℕ) (ts : List Ty) → AreFormed given.tables classes n (tys ts) → IsFormed given.tables classes n (alias_type k ts)) where
    meant_formed : (x : Meaning) → IsScoped classes n x → (ts : List Ty) → AreFormed given.tables classes n (tys ts) → (name : Text) → IsFormed given.tables classes n (or_dynamic (typed_as alias_type (reading given names) x ts name))
    meant_formed (m.class c) h ts f name = (h, count_fitting (given.tables.parameters c) ts, chosen_formed (given.tables.parameters c) ts (nat_eq (length ts) (given.tables.parameters c)) f)
    meant_formed (m.alias k) h ts f name = aliases k ts f
    meant_formed (m.type_parameter i) h ts f name = h
    meant_formed (m.function k) h ts f name = tt
    meant_formed (m.variable k b) h ts f name = tt
    meant_formed (m.accessors a b) h ts f name = tt
    meant_formed m.member h ts f name = tt
    meant_formed m.prefix h ts f name = tt
    meant_formed m.ambiguous h ts f name = tt
    meant_formed m.unknown h ts f name = tt

    mutual
      typed_formed : (node : y.TypeNode) → IsFormed given.tables classes n (or_dynamic (typed alias_type (reading given names) node))
      typed_formed (y.dynamic_type place) = tt
      typed_formed (y.named_type name dot arguments) =
          meant_formed (type_meaning (reading given names) (word_of name) (option_word dot)) (meaning_scoped (word_of name) (option_word dot))
          (type_arguments alias_type (reading given names) arguments) (arguments_formed arguments) _

      arguments_formed : (arguments : y.TypeArguments) → AreFormed given.tables classes n (tys (type_arguments alias_type (reading given names) arguments))
      arguments_formed y.no_types = tt
      arguments_formed (y.listed_types opening types closing) = list_formed types

      list_formed : (types : y.TypeList) → AreFormed given.tables classes n (tys (type_list alias_type (reading given names) types))
      list_formed y.no_more_types = tt
      list_formed (y.type_more comma one more) = (typed_formed one, list_formed more)

  pub type_formed : (node : y.TypeNode) → IsFormed given.tables classes n (type_in (reading given names) node)
  type_formed node = typed_formed no_alias (λ k ts h. tt) node

  -- ---- signatures

  module _ (aliases : AreAliasesFormed given.tables classes n) where
    annotation_formed : (node : y.TypeNode) → IsFormed given.tables classes n (or_dynamic (typed given.tables.alias_type (reading given names) node))
    annotation_formed node = typed_formed given.tables.alias_type aliases node

    asked_formed : (of : Option y.TypeNode) → IsFormed given.tables classes n (type_asked (asked_of (reading given names) of))
    asked_formed None = tt
    asked_formed (Some of) = annotation_formed of

    pub kind_formed : (kind : y.VariableKind) → IsFormed given.tables classes n (type_asked (asked_of_kind (reading given names) kind))
    kind_formed y.no_kind = tt
    kind_formed (y.var_kind place) = tt
    kind_formed (y.final_kind place of) = asked_formed of
    kind_formed (y.const_kind place of) = asked_formed of
    kind_formed (y.typed_kind of) = annotation_formed of

    result_formed : (result : Option y.ResultType) → IsFormed given.tables classes n (result_type (reading given names) result)
    result_formed None = tt
    result_formed (Some (y.void_result place)) = tt
    result_formed (Some (y.typed_result of)) = annotation_formed of

    bracket_formed : (kind : BracketKind) (ts : TysOf Text) → AreFormed given.tables classes n ts → AreFormed given.tables classes n (in_brackets kind ts nil)
    bracket_formed k.Square ts h = h
    bracket_formed k.Curly ts h = tt

    positional_formed : (brackets : Option Brackets) (ts : TysOf Text) → AreFormed given.tables classes n ts → AreFormed given.tables classes n (positional brackets ts)
    positional_formed None ts h = tt
    positional_formed (Some brackets) ts h = bracket_formed brackets.kind ts h

    brace_formed : (kind : BracketKind) (ts : NamedTysOf Text) → AreNamedFormed given.tables classes n ts → AreNamedFormed given.tables classes n (in_brackets kind unnamed ts)
    brace_formed k.Square ts h = tt
    brace_formed k.Curly ts h = h

    by_name_formed : (brackets : Option Brackets) (ts : NamedTysOf Text) → AreNamedFormed given.tables classes n ts → AreNamedFormed given.tables classes n (by_name brackets ts)
    by_name_formed None ts h = tt
    by_name_formed (Some brackets) ts h = brace_formed brackets.kind ts h

    mutual
      parameter_formed : (x : t.ParameterKind) → IsFormed given.tables classes n (type_asked (asked_of_parameter (reading given names) x))
      parameter_formed (t.plain_parameter kind this_dot name) = kind_formed kind
      parameter_formed (t.function_parameter result this_dot name parameters) = function_formed (result_type (reading given names) result) (result_formed result) parameters

      function_formed : (result : Ty) → IsFormed given.tables classes n result → (x : t.Parameters) → IsFormed given.tables classes n (function_type (reading given names) result x)
      function_formed result h (t.the_parameters opening required brackets optional closing) = (
        h,
        parameters_formed required,
        positional_formed brackets (parameter_types (reading given names) optional) (parameters_formed optional),
        by_name_formed brackets (named_types (reading given names) optional) (named_formed optional),
      )

      parameters_formed : (xs : t.ParameterList) → AreFormed given.tables classes n (parameter_types (reading given names) xs)
      parameters_formed t.no_parameters = tt
      parameters_formed (t.parameter one more) = (one_formed one, parameters_formed more)

      named_formed : (xs : t.ParameterList) → AreNamedFormed given.tables classes n (named_types (reading given names) xs)
      named_formed t.no_parameters = tt
      named_formed (t.parameter one more) = (one_formed one, named_formed more)

      one_formed : (x : t.Parameter) → IsFormed given.tables classes n (type_of_parameter (reading given names) x)
      one_formed (t.the_parameter comma _ kind value) = parameter_formed kind

    pub signature_formed : (result : Option y.ResultType) (x : t.Parameters) → IsFormed given.tables classes n (function_type (reading given names) (result_type (reading given names) result) x)
    signature_formed result x = function_formed (result_type (reading given names) result) (result_formed result) x
