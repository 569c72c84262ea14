-- What types stand for, and what is asked for, once annotations and columns are forgotten.
use Rattle.std.proofs.Common.{◌≡◌, refl, ap, ◌∙◌, List, ◌∷◌, Option, None, Some}
use Rattle.std.specs.Option.{option_or}
use Rattle.dart_base.specs.declared.place.Place.{Place}
use Rattle.dart_base.specs.declared.feature.Feature.TheVariants.{FunctionTypes}
use Rattle.dart_tree.specs.declared.identifier.Identifier.{Identifier}
use Rattle.dart_tree.specs.declared.identifier.Identifier.TheVariants as i
use Rattle.dart_tree.specs.declared.identifier.DotName.{DotName}
use Rattle.dart_tree.specs.declared.parameter.Brackets.{Brackets}
use Rattle.dart_tree.specs.declared.parameter.BracketKind.{BracketKind}
use Rattle.dart_tree.specs.declared.parameter.BracketKind.TheVariants as bk
use Rattle.dart_tree.specs.UnitView.{maybe}
use Rattle.dart_tree.specs.Types as y
use Rattle.dart_tree.specs.Tree as t
use Rattle.dart_ir.specs.Ty.{TysOf, NamedTysOf, dynamic, function, nil, cons, unnamed, named}
use Rattle.core_program.specs.Stripped as stripped
use Rattle.dart_erase.specs.Erased as erased
use Rattle.laws_translation.specs.LinedLeaf as leaf
use Rattle.laws_translation.specs.Lined as lined
use Rattle.translation.specs.Surroundings.{Text, Ty, Meaning, name_in}
use Rattle.translation.specs.Surroundings as m
use Rattle.translation.specs.Walk.{Entry, State, left_out, entry_of}
use Rattle.translation.specs.Types as ty
use Rattle.translation.specs.Types.{PlacedName, word_of, option_word, last_of, Typed, well_formed, malformed}
use Rattle.laws_translation.proofs.Kept as k
use Rattle.laws_translation.proofs.Kept.{line, Goes, ends}
use Rattle.laws_translation.proofs.Ends.{done, stop, option_entry, entry_same}

-- ---- names

pub word_same : (x : Identifier) → word_of (leaf.identifier x) ≡ k.word (word_of x)
word_same (i.Name place text) = refl
word_same (i.Get place) = refl
word_same (i.Set place) = refl

pub text_same : (x : Identifier) → ty.text_of (leaf.identifier x) ≡ ty.text_of x
text_same (i.Name place text) = refl
text_same (i.Get place) = refl
text_same (i.Set place) = refl

abbrev pub option_lined : Option PlacedName → Option PlacedName
option_lined None = None
option_lined (Some x) = Some (k.word x)

pub option_same : (x : Option DotName) → option_word (maybe leaf.dot_name x) ≡ option_lined (option_word x)
option_same None = refl
option_same (Some x) = ap Some (word_same x.name)

pub last_same : (x : PlacedName) (o : Option PlacedName) → last_of (k.word x) (option_lined o) ≡ k.word (last_of x o)
last_same x None = refl
last_same x (Some o) = refl

-- ---- what they mean

outside_same : (e : Option Entry) (meaning : Meaning) → ty.outside (option_entry e) meaning ≡ ty.outside e meaning
outside_same None meaning = refl
outside_same (Some e) meaning = refl

pub meaning_same : (s : State) (name : Text) → ty.meaning_of (k.state s) name ≡ ty.meaning_of s name
meaning_same s name = ap (λ (e : Option Entry). ty.outside e (s.names.meaning name)) (entry_same s name) ∙ outside_same (entry_of s name) (s.names.meaning name)

type_meaning_same : (s : State) (x : PlacedName) (o : Option PlacedName) → ty.type_meaning (k.state s) (k.word x) (option_lined o) ≡ ty.type_meaning s x o
type_meaning_same s x None = meaning_same s x.text
type_meaning_same s x (Some o) = ap (λ (m : Meaning). ty.behind_prefix m (s.names.prefixed x.text o.text)) (meaning_same s x.text)

named_meaning : (s : State) (name : Identifier) (dot : Option DotName) →
    ty.type_meaning (k.state s) (word_of (leaf.identifier name)) (option_word (maybe leaf.dot_name dot)) ≡ ty.type_meaning s (word_of name) (option_word dot)
named_meaning s name dot = (λ i. ty.type_meaning (k.state s) (word_same name i) (option_same dot i)) ∙ type_meaning_same s (word_of name) (option_word dot)

pub last_word : (name : Identifier) (dot : Option DotName) →
    last_of (word_of (leaf.identifier name)) (option_word (maybe leaf.dot_name dot)) ≡ k.word (last_of (word_of name) (option_word dot))
last_word name dot = (λ i. last_of (word_same name i) (option_same dot i)) ∙ last_same (word_of name) (option_word dot)

typed_as_same : (al : ty.AliasType) (s : State) (m : Meaning) (given : List Ty) (name : Text) → ty.typed_as al (k.state s) m given name ≡ ty.typed_as al s m given name
typed_as_same al s (m.class n) given name = refl
typed_as_same al s (m.alias n) given name = refl
typed_as_same al s (m.type_parameter n) given name = refl
typed_as_same al s (m.function n) given name = refl
typed_as_same al s (m.variable n is_final) given name = refl
typed_as_same al s (m.accessors getter setter) given name = refl
typed_as_same al s m.member given name = refl
typed_as_same al s m.prefix given name = refl
typed_as_same al s m.ambiguous given name = refl
typed_as_same al s m.unknown given name = refl

mutual
  pub typed_same : (al : ty.AliasType) (s : State) (x : y.TypeNode) → ty.typed al (k.state s) (leaf.type_node x) ≡ ty.typed al s x
  typed_same al s (y.dynamic_type place) = refl
  typed_same al s (y.named_type name dot given) =
      (λ i. ty.typed_as al (k.state s) (named_meaning s name dot i) (arguments_same al s given i) (name_in s.names.library (last_word name dot i).text)) ∙
      typed_as_same al s (ty.type_meaning s (word_of name) (option_word dot)) (ty.type_arguments al s given) (name_in s.names.library (last_of (word_of name) (option_word dot)).text)

  pub arguments_same : (al : ty.AliasType) (s : State) (x : y.TypeArguments) → ty.type_arguments al (k.state s) (leaf.type_arguments x) ≡ ty.type_arguments al s x
  arguments_same al s y.no_types = refl
  arguments_same al s (y.listed_types opening types closing) = list_same al s types

  list_same : (al : ty.AliasType) (s : State) (x : y.TypeList) → ty.type_list al (k.state s) (leaf.type_list x) ≡ ty.type_list al s x
  list_same al s y.no_more_types = refl
  list_same al s (y.type_more comma of more) = λ i. ty.or_dynamic (typed_same al s of i) ∷ list_same al s more i

-- ---- aliases

abbrev option_line : Option Place → Option Place
option_line None = None
option_line (Some place) = Some (line place)

first_same : (a b : Option Place) → option_or (option_line a) (option_line b) ≡ option_line (option_or a b)
first_same None b = refl
first_same (Some a) b = refl

alias_place_same : (m : Meaning) (place : Place) → ty.alias_place m (line place) ≡ option_line (ty.alias_place m place)
alias_place_same (m.class n) place = refl
alias_place_same (m.alias n) place = refl
alias_place_same (m.type_parameter n) place = refl
alias_place_same (m.function n) place = refl
alias_place_same (m.variable n is_final) place = refl
alias_place_same (m.accessors getter setter) place = refl
alias_place_same m.member place = refl
alias_place_same m.prefix place = refl
alias_place_same m.ambiguous place = refl
alias_place_same m.unknown place = refl

mutual
  pub alias_same : (s : State) (x : y.TypeNode) → ty.alias_in (k.state s) (leaf.type_node x) ≡ option_line (ty.alias_in s x)
  alias_same s (y.dynamic_type place) = refl
  alias_same s (y.named_type name dot given) =
      (λ i. option_or (ty.alias_place (named_meaning s name dot i) (last_word name dot i).place) (alias_arguments_same s given i)) ∙
      ap (λ (a : Option Place). option_or a (option_line (ty.alias_in_arguments s given)))
      (alias_place_same (ty.type_meaning s (word_of name) (option_word dot)) (last_of (word_of name) (option_word dot)).place) ∙
      first_same (ty.alias_place (ty.type_meaning s (word_of name) (option_word dot)) (last_of (word_of name) (option_word dot)).place) (ty.alias_in_arguments s given)

  pub alias_arguments_same : (s : State) (x : y.TypeArguments) → ty.alias_in_arguments (k.state s) (leaf.type_arguments x) ≡ option_line (ty.alias_in_arguments s x)
  alias_arguments_same s y.no_types = refl
  alias_arguments_same s (y.listed_types opening types closing) = alias_list_same s types

  alias_list_same : (s : State) (x : y.TypeList) → ty.alias_in_list (k.state s) (leaf.type_list x) ≡ option_line (ty.alias_in_list s x)
  alias_list_same s y.no_more_types = refl
  alias_list_same s (y.type_more comma of more) =
      (λ i. option_or (alias_same s of i) (alias_list_same s more i)) ∙ first_same (ty.alias_in s of) (ty.alias_in_list s more)

unless_ends : {A : Type 0} (o : Option Place) (a : A) (s : State) → ty.unless_alias (option_line o) a (k.state s) ≡ ends (λ x. x) (ty.unless_alias o a s)
unless_ends None a s = done _ _ a _ s refl refl
unless_ends (Some place) a s = stop _ _ (left_out place FunctionTypes) refl

pub kept_type_goes : (x : y.TypeNode) → Goes (λ t. t) (ty.kept_type (leaf.type_node x)) (ty.kept_type x)
kept_type_goes x s = (λ i. ty.unless_alias (alias_same s x i) (typed_same ty.no_alias s x i) (k.state s)) ∙ unless_ends (ty.alias_in s x) (ty.typed ty.no_alias s x) s

pub kept_arguments_goes : (x : y.TypeArguments) → Goes (λ ts. ts) (ty.kept_arguments (leaf.type_arguments x)) (ty.kept_arguments x)
kept_arguments_goes x s = (λ i. ty.unless_alias (alias_arguments_same s x i) (arguments_same ty.no_alias s x i) (k.state s)) ∙
    unless_ends (ty.alias_in_arguments s x) (ty.type_arguments ty.no_alias s x) s

-- ---- what is asked for

pub asked_kind : (name : Identifier) (s' s : State) (x : y.VariableKind) → ty.asked_of_kind s' (leaf.variable_kind (erased.variable_kind name x)) ≡ k.asked (ty.asked_of_kind s x)
asked_kind name s' s y.no_kind = refl
asked_kind name s' s (y.var_kind place) = refl
asked_kind name s' s (y.final_kind place None) = refl
asked_kind name s' s (y.final_kind place (Some of)) = refl
asked_kind name s' s (y.const_kind place None) = refl
asked_kind name s' s (y.const_kind place (Some of)) = refl
asked_kind name s' s (y.typed_kind of) = refl

pub final_same : (name : Identifier) (x : y.VariableKind) → ty.is_final (leaf.variable_kind (erased.variable_kind name x)) ≡ ty.is_final x
final_same name y.no_kind = refl
final_same name (y.var_kind place) = refl
final_same name (y.final_kind place of) = refl
final_same name (y.const_kind place of) = refl
final_same name (y.typed_kind of) = refl

pub const_same : (name : Identifier) (x : y.VariableKind) → ty.is_const (leaf.variable_kind (erased.variable_kind name x)) ≡ ty.is_const x
const_same name y.no_kind = refl
const_same name (y.var_kind place) = refl
const_same name (y.final_kind place of) = refl
const_same name (y.const_kind place of) = refl
const_same name (y.typed_kind of) = refl

pub asked_result : (s' s : State) (x : Option y.ResultType) → ty.asked_of_result s' None ≡ k.asked (ty.asked_of_result s x)
asked_result s' s None = refl
asked_result s' s (Some (y.void_result place)) = refl
asked_result s' s (Some (y.typed_result of)) = refl

asked_plain : (s' s : State) (x : y.VariableKind) → ty.asked_of_kind s' (leaf.variable_kind (erased.parameter_type x)) ≡ k.asked (ty.asked_of_kind s x)
asked_plain s' s y.no_kind = refl
asked_plain s' s (y.var_kind place) = refl
asked_plain s' s (y.final_kind place None) = refl
asked_plain s' s (y.final_kind place (Some of)) = refl
asked_plain s' s (y.const_kind place None) = refl
asked_plain s' s (y.const_kind place (Some of)) = refl
asked_plain s' s (y.typed_kind of) = refl

-- a parameter that is written as a function asks for nothing once it is erased
pub asked_parameter : (s' s : State) (x : t.ParameterKind) → ty.asked_of_parameter s' (lined.parameter_kind (erased.parameter_kind x)) ≡ k.asked (ty.asked_of_parameter s x)
unfolding lined.parameter_kind erased.parameter_kind
asked_parameter s' s (t.plain_parameter kind this_dot name) = asked_plain s' s kind
asked_parameter s' s (t.function_parameter result this_dot name parameters) = refl

pub final_parameter_kind : (x : y.VariableKind) → ty.is_final (leaf.variable_kind (erased.parameter_type x)) ≡ ty.is_final x
final_parameter_kind y.no_kind = refl
final_parameter_kind (y.var_kind place) = refl
final_parameter_kind (y.final_kind place of) = refl
final_parameter_kind (y.const_kind place of) = refl
final_parameter_kind (y.typed_kind of) = refl

pub name_parameter : (x : t.ParameterKind) → ty.parameter_name (lined.parameter_kind (erased.parameter_kind x)) ≡ leaf.identifier (ty.parameter_name x)
unfolding lined.parameter_kind erased.parameter_kind
name_parameter (t.plain_parameter kind this_dot name) = refl
name_parameter (t.function_parameter result this_dot name parameters) = refl

-- ---- signatures

asked_is_dynamic : (s : State) (x : y.VariableKind) → ty.type_asked (ty.asked_of_kind s (leaf.variable_kind (erased.parameter_type x))) ≡ dynamic
asked_is_dynamic s y.no_kind = refl
asked_is_dynamic s (y.var_kind place) = refl
asked_is_dynamic s (y.final_kind place of) = refl
asked_is_dynamic s (y.const_kind place of) = refl
asked_is_dynamic s (y.typed_kind of) = refl

kind_is_dynamic : (s : State) (x : t.ParameterKind) → ty.type_asked (ty.asked_of_parameter s (lined.parameter_kind (erased.parameter_kind x))) ≡ dynamic
unfolding lined.parameter_kind erased.parameter_kind
kind_is_dynamic s (t.plain_parameter kind this_dot name) = asked_is_dynamic s kind
kind_is_dynamic s (t.function_parameter result this_dot name parameters) = refl

parameter_is_dynamic : (s : State) (x : t.Parameter) → ty.type_of_parameter s (lined.parameter (erased.parameter x)) ≡ dynamic
unfolding lined.parameter erased.parameter
parameter_is_dynamic s (t.the_parameter comma _ kind value) = kind_is_dynamic s kind

parameter_name_same : (x : t.Parameter) → ty.name_of_parameter (lined.parameter (erased.parameter x)) ≡ ty.name_of_parameter x
unfolding lined.parameter erased.parameter
parameter_name_same (t.the_parameter comma _ kind value) = ap ty.text_of (name_parameter kind) ∙ text_same (ty.parameter_name kind)

types_loose : (s : State) (x : t.ParameterList) → ty.parameter_types (k.state s) (lined.parameter_list (erased.parameter_list x)) ≡ stripped.all_dynamic (ty.parameter_types s x)
unfolding lined.parameter_list erased.parameter_list
types_loose s t.no_parameters = refl
types_loose s (t.parameter x rest) = λ i. cons (parameter_is_dynamic (k.state s) x i) (types_loose s rest i)

named_loose : (s : State) (x : t.ParameterList) → ty.named_types (k.state s) (lined.parameter_list (erased.parameter_list x)) ≡ stripped.all_named_dynamic (ty.named_types s x)
unfolding lined.parameter_list erased.parameter_list
named_loose s t.no_parameters = refl
named_loose s (t.parameter x rest) =
    λ i. named (name_in s.names.library (parameter_name_same x i)) (parameter_is_dynamic (k.state s) x i) (named_loose s rest i)

square_loose : (b : BracketKind) (ts : TysOf Text) → ty.in_brackets b (stripped.all_dynamic ts) nil ≡ stripped.all_dynamic (ty.in_brackets b ts nil)
square_loose bk.Square ts = refl
square_loose bk.Curly ts = refl

curly_loose : (b : BracketKind) (ts : NamedTysOf Text) → ty.in_brackets b unnamed (stripped.all_named_dynamic ts) ≡ stripped.all_named_dynamic (ty.in_brackets b unnamed ts)
curly_loose bk.Square ts = refl
curly_loose bk.Curly ts = refl

positional_loose : (b : Option Brackets) (ts : TysOf Text) → ty.positional (maybe leaf.brackets b) (stripped.all_dynamic ts) ≡ stripped.all_dynamic (ty.positional b ts)
positional_loose None ts = refl
positional_loose (Some b) ts = square_loose b.kind ts

by_name_loose : (b : Option Brackets) (ts : NamedTysOf Text) → ty.by_name (maybe leaf.brackets b) (stripped.all_named_dynamic ts) ≡ stripped.all_named_dynamic (ty.by_name b ts)
by_name_loose None ts = refl
by_name_loose (Some b) ts = curly_loose b.kind ts

pub signature_loose : (s : State) (result : Ty) (x : t.Parameters) → ty.function_type (k.state s) dynamic (lined.parameters (erased.parameters x)) ≡ stripped.loose (ty.function_type s result x)
unfolding lined.parameters erased.parameters
signature_loose s result (t.the_parameters opening required brackets optional closing) =
    λ i. function dynamic (types_loose s required i)
    (((λ j. ty.positional (maybe leaf.brackets brackets) (types_loose s optional j)) ∙ positional_loose brackets (ty.parameter_types s optional)) i)
    (((λ j. ty.by_name (maybe leaf.brackets brackets) (named_loose s optional j)) ∙ by_name_loose brackets (ty.named_types s optional)) i)
