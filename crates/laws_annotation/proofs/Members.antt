-- The instance members of an erased class are those of the class, but for the types in their signatures.
use Rattle.std.proofs.Common.{◌≡◌, refl, sym, ap, ◌∙◌, ◌+◌, Bool, true, false, ◌||◌, if◌then◌else◌, List, [], ◌∷◌, ◌++◌, length, map, flat_map, Option, None, is_some}
use Rattle.std.specs.Prelude.{nat_eq}
use Rattle.std.specs.List.{list_any}
use Rattle.std.proofs.lemmas.List.{map-append}
use Rattle.dart_base.specs.declared.place.Place.{Place}
use Rattle.dart_token.specs.declared.token.Token.{Token}
use Rattle.dart_tree.specs.Types as y
use Rattle.dart_tree.specs.Tree as t
use Rattle.dart_tree.specs.Unit as u
use Rattle.dart_tree.specs.UnitTokens.{member_tokens}
use Rattle.dart_erase.specs.Erased as erased
use Rattle.dart_erase.specs.UnitErased as of_unit
use Rattle.dart_erase.proofs.Twice.{twice_member}
use Rattle.dart_ir.specs.declared.class.Role.{Role}
use Rattle.dart_ir.specs.declared.class.Role.TheVariants.{Method}
use Rattle.translation.specs.Surroundings.{Tables, name_in}
use Rattle.translation.specs.Walk.{Asked, State}
use Rattle.translation.specs.Types.{PlacedName, word_of, asked_of_kind, is_final, result_type}
use Rattle.translation.specs.Declarations.{Declared, count, parameter_count, function_declared, accessor_declared}
use Rattle.translation.specs.Classes.{is_static, external_of, operator_word, operator_declared}
use Rattle.class_source.specs.Rows.{Member}
use Rattle.class_source.specs.Members.{is_written, Numbers, function_member, accessor_role, field_members, more_words, variable_words, variable_members, declared_by, instance_members, field_words, fields_of_member, field_count, constructor_external, written_external, is_external_member, is_constructor_member, is_super, names_super}
use Rattle.laws_table.specs.Loose.{loose_member}
use Rattle.laws_annotation.proofs.Mapped.{flat_same, any_same}
use Rattle.laws_annotation.proofs.Classes.{final_same, constructor_kind_same}
use Rattle.laws_annotation.proofs.Signatures.{signature_same}

-- ---- lists of which something is forgotten

flat_alike : {A B : Type 0} (g : B → B) (f h : A → List B) → ((x : A) → map g (f x) ≡ map g (h x)) → (xs : List A) → map g (flat_map f xs) ≡ map g (flat_map h xs)
flat_alike g f h each [] = refl
flat_alike g f h each (x ∷ xs) = map-append g (f x) (flat_map f xs) ∙ (λ i. each x i ++ flat_alike g f h each xs i) ∙ sym (map-append g (h x) (flat_map h xs))

flat_alike_of : {A B : Type 0} (e : A → A) (g : B → B) (f h : A → List B) → ((x : A) → map g (f (e x)) ≡ map g (h x)) → (xs : List A)
    → map g (flat_map f (map e xs)) ≡ map g (flat_map h xs)
flat_alike_of e g f h each [] = refl
flat_alike_of e g f h each (x ∷ xs) = map-append g (f (e x)) (flat_map f (map e xs)) ∙ (λ i. each x i ++ flat_alike_of e g f h each xs i) ∙ sym (map-append g (h x) (flat_map h xs))

-- ---- methods and accessors

written_same : (x : t.Body) → is_written (erased.body x) ≡ is_written x
unfolding erased.body
written_same (t.arrow_body arrow given semicolon) = refl
written_same (t.block_body inside) = refl
written_same (t.no_body semicolon) = refl

count_same : (x : t.ParameterList) → count (erased.parameter_list x) ≡ count x
unfolding erased.parameter_list
count_same t.no_parameters = refl
count_same (t.parameter x rest) = λ i. 1 + count_same rest i

parameter_count_same : (x : t.Parameters) → parameter_count (erased.parameters x) ≡ parameter_count x
unfolding erased.parameters
parameter_count_same (t.the_parameters opening required brackets optional closing) = λ i. count_same required i + count_same optional i

role_same : (x : u.AccessorKind) → accessor_role (of_unit.accessor_kind x) ≡ accessor_role x
role_same (u.getter place name) = refl
role_same (u.setter place name given) = refl

more_words_same : (x : t.MoreVariables) → more_words (erased.more_variables x) ≡ more_words x
unfolding erased.more_variables
more_words_same t.no_variables = refl
more_words_same (t.variable comma name value rest) = λ i. word_of name ∷ more_words_same rest i

abbrev declared_as : Option Place → PlacedName → Option y.ResultType → t.Parameters → t.Body → Declared
declared_as external name result given inner = record { external = external; name = name; result = result; parameters = given; body = inner }

module _ (number : Numbers) (st : State) (tables : Tables) where
  -- where aliases and variables may have other types
  abbrev other : State
  other = record st { tables = tables }

  member_alike : (role : Role) (external : Option Place) (name : PlacedName) (result : Option y.ResultType) (given : t.Parameters) (inner : t.Body)
      → loose_member (function_member number other role (declared_as external name None (erased.parameters given) (erased.body inner)))
      ≡ loose_member (function_member number st role (declared_as external name result given inner))
  member_alike role external name result given inner = λ i. record {
    name = name_in st.names.library name.text;
    role = role;
    function = number name.place;
    signature = signature_same st tables (result_type other None) (result_type st result) given i;
    place = name.place;
    has_body = is_some external || written_same inner i;
  }

  function_alike : (x : t.Function) → loose_member (function_member number other Method (function_declared (erased.function x))) ≡ loose_member (function_member number st Method (function_declared x))
  unfolding erased.function
  function_alike (t.the_function external result name given inner) = member_alike Method external (word_of name) result given inner

  accessor_alike : (role : Role) (external : Option Place) (result : Option y.ResultType) (kind : u.AccessorKind) (inner : t.Body)
      → loose_member (function_member number other role (accessor_declared (of_unit.accessor (record { external = external; result_type = result; kind = kind; body = inner }))))
      ≡ loose_member (function_member number st role (accessor_declared (record { external = external; result_type = result; kind = kind; body = inner })))
  unfolding erased.parameters erased.parameter_list
  accessor_alike role external result (u.getter place name) inner =
      member_alike role external (word_of name) result (t.the_parameters place t.no_parameters None t.no_parameters place) inner
  accessor_alike role external result (u.setter place name given) inner = member_alike role external (word_of name) result given inner

  operator_alike : (x : u.OperatorMember) → loose_member (function_member number other Method (operator_declared (of_unit.operator_member x)))
      ≡ loose_member (function_member number st Method (operator_declared x))
  operator_alike x =
      (λ i. loose_member (function_member number other Method (declared_as x.external (operator_word x.name (nat_eq (parameter_count_same x.parameters i) 0)) None
      (erased.parameters x.parameters) (erased.body x.body))))
      ∙ member_alike Method x.external (operator_word x.name (nat_eq (parameter_count x.parameters) 0)) x.result_type x.parameters x.body

  -- ---- fields

  field_alike : (final_one : Bool) (asked asked2 : Asked) (name : PlacedName)
      → map loose_member (field_members number other final_one asked name) ≡ map loose_member (field_members number st final_one asked2 name)
  field_alike true asked asked2 name = refl
  field_alike false asked asked2 name = refl

  variables_alike : (x : t.Variables) → map loose_member (variable_members number other (erased.variables x)) ≡ map loose_member (variable_members number st x)
  unfolding erased.variables
  variables_alike (t.the_variables kind name value more semicolon) =
      (λ i. map loose_member (flat_map (field_members number other (final_same name kind i) (asked_of_kind other (erased.variable_kind name kind))) (word_of name ∷ more_words_same more i)))
      ∙ flat_alike loose_member (field_members number other (is_final kind) (asked_of_kind other (erased.variable_kind name kind)))
      (field_members number st (is_final kind) (asked_of_kind st kind)) (field_alike (is_final kind) (asked_of_kind other (erased.variable_kind name kind)) (asked_of_kind st kind))
      (word_of name ∷ more_words more)

  -- ---- all members

  declared_alike : (x : u.MemberKind) → map loose_member (declared_by number other (of_unit.member_kind x)) ≡ map loose_member (declared_by number st x)
  declared_alike (u.constructor_member x) = refl
  declared_alike (u.function_member x) = λ i. function_alike x i ∷ []
  declared_alike (u.accessor_member x) =
      (λ i. loose_member (function_member number other (role_same x.kind i) (accessor_declared (of_unit.accessor x))) ∷ [])
      ∙ (λ i. accessor_alike (accessor_role x.kind) x.external x.result_type x.kind x.body i ∷ [])
  declared_alike (u.variables_member x) = variables_alike x
  declared_alike (u.operator_member x) = λ i. operator_alike x i ∷ []

  if_alike : (b : Bool) (xs ys : List Member) → map loose_member xs ≡ map loose_member ys → map loose_member (if b then [] else xs) ≡ map loose_member (if b then [] else ys)
  if_alike true xs ys e = refl
  if_alike false xs ys e = e

  instance_alike : (x : u.Member) → map loose_member (instance_members number other (of_unit.member x)) ≡ map loose_member (instance_members number st x)
  instance_alike x = if_alike (is_static x.modifier) (declared_by number other (of_unit.member_kind x.kind)) (declared_by number st x.kind) (declared_alike x.kind)

  pub members_alike : (xs : List u.Member) → map loose_member (flat_map (instance_members number other) (map of_unit.member xs))
      ≡ map loose_member (flat_map (instance_members number st) xs)
  members_alike xs = flat_alike_of of_unit.member loose_member (instance_members number other) (instance_members number st) instance_alike xs

-- ---- what headers ask of members

variable_words_same : (x : t.Variables) → variable_words (erased.variables x) ≡ variable_words x
unfolding erased.variables
variable_words_same (t.the_variables kind name value more semicolon) = λ i. word_of name ∷ more_words_same more i

field_words_same : (static : Bool) (x : u.MemberKind) → field_words static (of_unit.member_kind x) ≡ field_words static x
field_words_same true x = refl
field_words_same false (u.constructor_member x) = refl
field_words_same false (u.function_member x) = refl
field_words_same false (u.accessor_member x) = refl
field_words_same false (u.variables_member x) = variable_words_same x
field_words_same false (u.operator_member x) = refl

pub field_count_same : (xs : List u.Member) → field_count (map of_unit.member xs) ≡ field_count xs
field_count_same xs = λ i. length (flat_same of_unit.member fields_of_member (λ (x : u.Member). field_words_same (is_static x.modifier) x.kind) xs i)

constructor_external_same : (x : u.Constructor) → constructor_external (of_unit.constructor x) ≡ constructor_external x
constructor_external_same (u.generative constant name given inits inner) = refl
constructor_external_same (u.redirecting name given colon this other handed semicolon) = refl
constructor_external_same (u.factory external word name given inner) = refl
constructor_external_same (u.redirecting_factory external word name given equals target other semicolon) = refl

function_external_same : (x : t.Function) → (function_declared (erased.function x)).external ≡ (function_declared x).external
unfolding erased.function
function_external_same (t.the_function external result name given inner) = refl

written_external_same : (x : u.MemberKind) → written_external (of_unit.member_kind x) ≡ written_external x
written_external_same (u.constructor_member x) = constructor_external_same x
written_external_same (u.function_member x) = function_external_same x
written_external_same (u.accessor_member x) = refl
written_external_same (u.variables_member x) = refl
written_external_same (u.operator_member x) = refl

pub external_same : (xs : List u.Member) → list_any is_external_member (map of_unit.member xs) ≡ list_any is_external_member xs
external_same xs = any_same of_unit.member is_external_member (λ x. ap (λ (o : Option Place). is_some (external_of x.modifier o)) (written_external_same x.kind)) xs

pub constructors_same : (xs : List u.Member) → list_any is_constructor_member (map of_unit.member xs) ≡ list_any is_constructor_member xs
constructors_same xs = any_same of_unit.member is_constructor_member (λ x. constructor_kind_same x.kind) xs

-- ---- `super`, which is asked of a member without its annotations

super_same : (x : u.Member) → names_super (of_unit.member x) ≡ names_super x
super_same x = ap (λ (y : u.Member). list_any (λ (token : Token). is_super token.kind) (member_tokens y)) (twice_member x)

pub supers_same : (xs : List u.Member) → list_any names_super (map of_unit.member xs) ≡ list_any names_super xs
supers_same xs = any_same of_unit.member names_super super_same xs
