-- Erasure keeps what a unit declares.
use Rattle.std.proofs.Common.{◌≡◌, refl, ℕ, suc, List, [], ◌∷◌, ◌++◌, map, Option, None, Some, ◌&&◌}
use Rattle.dart_base.specs.declared.place.Place.{Place}
use Rattle.dart_tree.specs.declared.identifier.Identifier.{Identifier}
use Rattle.dart_tree.specs.UnitView.{maybe}
use Rattle.dart_tree.specs.Types as y
use Rattle.dart_tree.specs.Tree as t
use Rattle.dart_tree.specs.Unit as u
use Rattle.dart_erase.specs.Erased as erased
use Rattle.dart_erase.specs.UnitErased as of_unit
use Rattle.scope_declared.specs.declared.declaration.Extent.{Extent}
use Rattle.scope_declared.specs.declared.declaration.Owner.{Owner}
use Rattle.scope_declared.specs.declared.declaration.Owner.TheVariants as owner
use Rattle.scope_declared.specs.declared.declaration.Role.TheVariants as role
use Rattle.scope_declared.specs.declared.declaration.DeclaredKind.{DeclaredKind}
use Rattle.scope_declared.specs.declared.declaration.DeclaredKind.TheVariants as k
use Rattle.scope_declared.specs.declared.declaration.Declared.{Declared}
use Rattle.scope_declared.specs.Making.{nowhere, of_identifier, variable_role, owner_of, is_no_list, has_no_parameters, operator_text, operator_place}
use Rattle.scope_declared.specs.UnitDeclared as d
use Rattle.scope_declared.specs.UnitDeclared.{unit_declares}
use Rattle.laws_annotation.proofs.Mapped.{flat_same}
use Rattle.laws_annotation.proofs.Lasts.{body_end}
use Rattle.laws_annotation.proofs.Declares.{operand_same, value_same, arguments_same, parameters_same, body_same, cascades_same}

role_same : (name : Identifier) (kind : y.VariableKind) → variable_role (erased.variable_kind name kind) ≡ variable_role kind
role_same name y.no_kind = refl
role_same name (y.var_kind place) = refl
role_same name (y.final_kind place of) = refl
role_same name (y.const_kind place of) = refl
role_same name (y.typed_kind of) = refl

no_list_same : (x : t.ParameterList) → is_no_list (erased.parameter_list x) ≡ is_no_list x
unfolding erased.parameter_list
no_list_same t.no_parameters = refl
no_list_same (t.parameter x rest) = refl

no_parameters_same : (x : t.Parameters) → has_no_parameters (erased.parameters x) ≡ has_no_parameters x
unfolding erased.parameters
no_parameters_same (t.the_parameters opening required brackets optional closing) = λ i. no_list_same required i && no_list_same optional i

if_same : {A : Type 0} (f : A → List Declared) (e : A → A) → ((x : A) → f (e x) ≡ f x) → (o : Option A) → d.declares_if f (maybe e o) ≡ d.declares_if f o
if_same f e h None = refl
if_same f e h (Some x) = h x

class_end : (x : u.ClassKind) → d.class_last (of_unit.class_kind x) ≡ d.class_last x
class_end (u.declared_class above interfaces opening members closing) = refl
class_end (u.mixed_class equals above mixins interfaces semicolon) = refl

module _ (n : List ℕ → ℕ) where
  function_same : (extent : Extent) (whose : Owner) (x : t.Function) → d.function_declares n extent whose (erased.function x) ≡ d.function_declares n extent whose x
  unfolding erased.function
  function_same extent whose (t.the_function external result_type name given inner) =
      λ i. of_identifier n extent (k.Owned whose role.Function) name ∷ (parameters_same n (body_end inner i) given i ++ body_same n inner i)

  accessor_kind_same : (extent : Extent) (whose : Owner) (last : Place) (x : u.AccessorKind) →
      d.accessor_kind_declares n extent whose last (of_unit.accessor_kind x) ≡ d.accessor_kind_declares n extent whose last x
  accessor_kind_same extent whose last (u.getter word name) = refl
  accessor_kind_same extent whose last (u.setter word name given) =
      λ i. of_identifier n extent (k.Owned whose role.Setter) name ∷ parameters_same n last given i

  accessor_same : (extent : Extent) (whose : Owner) (x : u.Accessor) → d.accessor_declares n extent whose (of_unit.accessor x) ≡ d.accessor_declares n extent whose x
  accessor_same extent whose x = λ i. accessor_kind_same extent whose (body_end x.body i) x.kind i ++ body_same n x.body i

  more_fields_same : (extent : Extent) (kind : DeclaredKind) (x : t.MoreVariables) →
      d.more_fields_declares n extent kind (erased.more_variables x) ≡ d.more_fields_declares n extent kind x
  unfolding erased.more_variables
  more_fields_same extent kind t.no_variables = refl
  more_fields_same extent kind (t.variable comma name term rest) =
      λ i. of_identifier n extent kind name ∷ (value_same n term i ++ more_fields_same extent kind rest i)

  fields_same : (extent : Extent) (whose : Owner) (x : t.Variables) → d.fields_declares n extent whose (erased.variables x) ≡ d.fields_declares n extent whose x
  unfolding erased.variables
  fields_same extent whose (t.the_variables kind name term more semicolon) =
      λ i. of_identifier n extent (k.Owned whose (role_same name kind i)) name ∷
      (value_same n term i ++ more_fields_same extent (k.Owned whose (role_same name kind i)) more i)

  operator_same : (extent : Extent) (x : u.OperatorMember) → d.operator_declares n extent (of_unit.operator_member x) ≡ d.operator_declares n extent x
  operator_same extent x = λ i. record {
    name = record { 0 = n (operator_text x.name (no_parameters_same x.parameters i)) };
    place = operator_place x.name;
    kind = k.Operator;
    extent = extent;
  } ∷ (parameters_same n (body_end x.body i) x.parameters i ++ body_same n x.body i)

  init_kind_same : (x : u.InitKind) → d.init_kind_declares n (of_unit.init_kind x) ≡ d.init_kind_declares n x
  init_kind_same (u.super_init word name given) = arguments_same n given
  init_kind_same (u.field_init this_dot name equals first cascades) = λ i. operand_same n first i ++ cascades_same n cascades i

  init_same : (x : u.Init) → d.init_declares n (of_unit.init x) ≡ d.init_declares n x
  init_same x = init_kind_same x.kind

  initializers_same : (x : u.Initializers) → d.initializers_declares n (of_unit.initializers x) ≡ d.initializers_declares n x
  initializers_same x = flat_same of_unit.init (d.init_declares n) init_same x.items

  constructor_same : (scope : Place) (x : u.Constructor) → d.constructor_declares n scope (of_unit.constructor x) ≡ d.constructor_declares n scope x
  constructor_same scope (u.generative constant name given inits inner) =
      λ i. d.of_constructor n scope name ∷ (parameters_same n (body_end inner i) given i ++
      (if_same (d.initializers_declares n) of_unit.initializers initializers_same inits i ++ body_same n inner i))
  constructor_same scope (u.redirecting name given colon this other handed semicolon) =
      λ i. d.of_constructor n scope name ∷ (parameters_same n semicolon given i ++ arguments_same n handed i)
  constructor_same scope (u.factory external word name given inner) =
      λ i. d.of_constructor n scope name ∷ (parameters_same n (body_end inner i) given i ++ body_same n inner i)
  constructor_same scope (u.redirecting_factory external word name given equals target other semicolon) =
      λ i. d.of_constructor n scope name ∷ parameters_same n semicolon given i

  member_kind_same : (extent : Extent) (whose : Owner) (x : u.MemberKind) → d.member_kind_declares n extent whose (of_unit.member_kind x) ≡ d.member_kind_declares n extent whose x
  member_kind_same extent whose (u.constructor_member x) = constructor_same extent.scope x
  member_kind_same extent whose (u.function_member x) = function_same extent whose x
  member_kind_same extent whose (u.accessor_member x) = accessor_same extent whose x
  member_kind_same extent whose (u.variables_member x) = fields_same extent whose x
  member_kind_same extent whose (u.operator_member x) = operator_same extent x

  member_same : (extent : Extent) (x : u.Member) → d.member_declares n extent (of_unit.member x) ≡ d.member_declares n extent x
  member_same extent x = member_kind_same extent (owner_of x.modifier) x.kind

  type_parameter_list_same : (extent : Extent) (at : ℕ) (xs : List u.TypeParameter) →
      d.type_parameter_list_declares n extent at (map of_unit.type_parameter xs) ≡ d.type_parameter_list_declares n extent at xs
  type_parameter_list_same extent at [] = refl
  type_parameter_list_same extent at (x ∷ xs) =
      λ i. of_identifier n extent (k.TypeParameter at) x.name ∷ type_parameter_list_same extent (suc at) xs i

  type_parameters_same : (word last : Place) (x : u.TypeParameters) → d.type_parameters_declares n word last (of_unit.type_parameters x) ≡ d.type_parameters_declares n word last x
  type_parameters_same word last x = type_parameter_list_same (record { scope = x.opening; after = word; last = last }) 0 x.items

  class_kind_same : (x : u.ClassKind) → d.class_kind_declares n (of_unit.class_kind x) ≡ d.class_kind_declares n x
  class_kind_same (u.declared_class above interfaces opening members closing) =
      let extent : Extent = record { scope = opening; after = opening; last = closing } in
      flat_same of_unit.member (d.member_declares n extent) (member_same extent) members
  class_kind_same (u.mixed_class equals above mixins interfaces semicolon) = refl

  class_same : (extent : Extent) (x : u.Class) → d.class_declares n extent (of_unit.class x) ≡ d.class_declares n extent x
  class_same extent x = λ i. of_identifier n extent k.Class x.name ∷
      (if_same (d.type_parameters_declares n x.word (class_end x.kind i)) of_unit.type_parameters (type_parameters_same x.word (class_end x.kind i)) x.parameters i ++
      class_kind_same x.kind i)

  alias_same : (extent : Extent) (x : u.Alias) → d.alias_declares n extent (of_unit.alias x) ≡ d.alias_declares n extent x
  alias_same extent x = λ i. of_identifier n extent k.Alias x.name ∷
      if_same (d.type_parameters_declares n x.word x.semicolon) of_unit.type_parameters (type_parameters_same x.word x.semicolon) x.type_parameters i

  decl_kind_same : (extent : Extent) (x : u.DeclKind) → d.decl_kind_declares n extent (of_unit.decl_kind x) ≡ d.decl_kind_declares n extent x
  decl_kind_same extent (u.class_decl x) = class_same extent x
  decl_kind_same extent (u.alias_decl x) = alias_same extent x
  decl_kind_same extent (u.function_decl x) = function_same extent owner.Library x
  decl_kind_same extent (u.accessor_decl x) = accessor_same extent owner.Library x
  decl_kind_same extent (u.variables_decl x) = fields_same extent owner.Library x
  decl_kind_same extent (u.enum_decl x) = refl

  decl_same : (extent : Extent) (x : u.Decl) → d.decl_declares n extent (of_unit.decl x) ≡ d.decl_declares n extent x
  decl_same extent x = decl_kind_same extent x.kind

  pub unit_same : (library : Place) (x : u.UnitTree) → unit_declares n library (of_unit.unit x) ≡ unit_declares n library x
  unfolding unit_declares
  unit_same library x = flat_same of_unit.decl (d.decl_declares n (nowhere library)) (decl_same (nowhere library)) x.declarations
