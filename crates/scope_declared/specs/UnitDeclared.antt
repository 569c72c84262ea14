-- What declarations, members and units declare, in the order of their tokens (6.1 Scoping).
use Rattle.std.specs.Prelude.{ℕ, suc, List, [], ◌∷◌, ◌++◌, flat_map, codes, Option, None, Some}
use Rattle.dart_base.specs.declared.place.Place.{Place}
use Rattle.dart_tree.specs.declared.identifier.Identifier.{Identifier}
use Rattle.dart_tree.specs.declared.identifier.DotName.{DotName}
use Rattle.dart_tree.specs.declared.identifier.CommaName.{CommaName}
use Rattle.dart_tree.specs.declared.declaration.ConstructorName.{ConstructorName}
use Rattle.dart_tree.specs.Tree as t
use Rattle.dart_tree.specs.Unit as u
use Rattle.scope_declared.specs.declared.declaration.Extent.{Extent}
use Rattle.scope_declared.specs.declared.declaration.Owner.{Owner}
use Rattle.scope_declared.specs.declared.declaration.Owner.TheVariants as owner
use Rattle.scope_declared.specs.declared.declaration.Role.TheVariants as role
use Rattle.scope_declared.specs.declared.declaration.DeclaredKind.{DeclaredKind}
use Rattle.scope_declared.specs.declared.declaration.DeclaredKind.TheVariants as k
use Rattle.scope_declared.specs.declared.declaration.Declared.{Declared}
use Rattle.scope_declared.specs.Last.{body_last}
use Rattle.scope_declared.specs.Making.{nowhere, of_identifier, of_text, variable_role, owner_of, has_no_parameters, operator_text, operator_place}
use Rattle.scope_declared.specs.TreeDeclared.{parameters_declares, body_declares, value_declares, arguments_declares, operand_declares, cascades_declares}

-- of what may be missing
abbrev pub declares_if : {A : Type 0} → (A → List Declared) → Option A → List Declared
declares_if f None = []
declares_if f (Some x) = f x

abbrev pub class_last : u.ClassKind → Place
class_last (u.declared_class above interfaces opening members closing) = closing
class_last (u.mixed_class equals above mixins interfaces semicolon) = semicolon

module _ (number : List ℕ → ℕ) where
  -- functions, accessors and variables of a library or class

  abbrev pub function_declares : Extent → Owner → t.Function → List Declared
  function_declares extent whose (t.the_function external result_type name parameters body) =
      of_identifier number extent (k.Owned whose role.Function) name ∷
      (parameters_declares number (body_last body) parameters ++ body_declares number body)

  abbrev pub accessor_kind_declares : Extent → Owner → Place → u.AccessorKind → List Declared
  accessor_kind_declares extent whose last (u.getter word name) =
      of_identifier number extent (k.Owned whose role.Getter) name ∷ []
  accessor_kind_declares extent whose last (u.setter word name parameters) =
      of_identifier number extent (k.Owned whose role.Setter) name ∷
      parameters_declares number last parameters

  abbrev pub accessor_declares : Extent → Owner → u.Accessor → List Declared
  accessor_declares extent whose x =
      accessor_kind_declares extent whose (body_last x.body) x.kind ++ body_declares number x.body

  abbrev pub more_fields_declares : Extent → DeclaredKind → t.MoreVariables → List Declared
  more_fields_declares extent kind t.no_variables = []
  more_fields_declares extent kind (t.variable comma name value rest) =
      of_identifier number extent kind name ∷
      (value_declares number value ++ more_fields_declares extent kind rest)

  abbrev pub fields_declares : Extent → Owner → t.Variables → List Declared
  fields_declares extent whose (t.the_variables kind name value more semicolon) =
      of_identifier number extent (k.Owned whose (variable_role kind)) name ∷
      (value_declares number value ++
      more_fields_declares extent (k.Owned whose (variable_role kind)) more)

  -- operators and constructors

  abbrev pub of_operator : Extent → u.OperatorMember → Declared
  of_operator extent x = record {
    name = record { 0 = number (operator_text x.name (has_no_parameters x.parameters)) };
    place = operator_place x.name;
    kind = k.Operator;
    extent = extent;
  }

  abbrev pub operator_declares : Extent → u.OperatorMember → List Declared
  operator_declares extent x =
      of_operator extent x ∷ (parameters_declares number (body_last x.body) x.parameters ++
      body_declares number x.body)

  abbrev pub of_constructor_part : Place → Identifier → Option DotName → Declared
  of_constructor_part scope class None = of_identifier number (nowhere scope) k.Constructor class
  of_constructor_part scope class (Some own) =
      of_identifier number (nowhere scope) k.NamedConstructor own.name

  abbrev pub of_constructor : Place → ConstructorName → Declared
  of_constructor scope x = of_constructor_part scope x.class x.name

  abbrev pub init_kind_declares : u.InitKind → List Declared
  init_kind_declares (u.super_init word name given) = arguments_declares number given
  init_kind_declares (u.field_init this_dot name equals first cascades) =
      operand_declares number first ++ cascades_declares number cascades

  abbrev pub init_declares : u.Init → List Declared
  init_declares x = init_kind_declares x.kind

  abbrev pub initializers_declares : u.Initializers → List Declared
  initializers_declares x = flat_map init_declares x.items

  abbrev pub constructor_declares : Place → u.Constructor → List Declared
  constructor_declares scope (u.generative constant name parameters inits body) =
      of_constructor scope name ∷ (parameters_declares number (body_last body) parameters ++
      (declares_if initializers_declares inits ++ body_declares number body))
  constructor_declares scope (u.redirecting name parameters colon this other given semicolon) =
      of_constructor scope name ∷ (parameters_declares number semicolon parameters ++
      arguments_declares number given)
  constructor_declares scope (u.factory external word name parameters body) =
      of_constructor scope name ∷ (parameters_declares number (body_last body) parameters ++
      body_declares number body)
  constructor_declares scope (u.redirecting_factory external word name parameters equals target
      other semicolon) =
      of_constructor scope name ∷ parameters_declares number semicolon parameters

  -- members, which count from the class's opening brace to its closing one

  abbrev pub member_kind_declares : Extent → Owner → u.MemberKind → List Declared
  member_kind_declares extent whose (u.constructor_member x) = constructor_declares extent.scope x
  member_kind_declares extent whose (u.function_member x) = function_declares extent whose x
  member_kind_declares extent whose (u.accessor_member x) = accessor_declares extent whose x
  member_kind_declares extent whose (u.variables_member x) = fields_declares extent whose x
  member_kind_declares extent whose (u.operator_member x) = operator_declares extent x

  abbrev pub member_declares : Extent → u.Member → List Declared
  member_declares extent x = member_kind_declares extent (owner_of x.modifier) x.kind

  -- type parameters, which count from the word of the class or alias to its end (14 Generics)

  abbrev pub type_parameter_list_declares : Extent → ℕ → List u.TypeParameter → List Declared
  type_parameter_list_declares extent at [] = []
  type_parameter_list_declares extent at (x ∷ more) =
      of_identifier number extent (k.TypeParameter at) x.name ∷
      type_parameter_list_declares extent (suc at) more

  abbrev pub type_parameters_declares : Place → Place → u.TypeParameters → List Declared
  type_parameters_declares word last x =
      type_parameter_list_declares (record { scope = x.opening; after = word; last = last }) 0
      x.items

  -- classes, aliases and enums

  abbrev pub class_kind_declares : u.ClassKind → List Declared
  class_kind_declares (u.declared_class above interfaces opening members closing) =
      flat_map (member_declares (record { scope = opening; after = opening; last = closing })) members
  class_kind_declares (u.mixed_class equals above mixins interfaces semicolon) = []

  abbrev pub class_declares : Extent → u.Class → List Declared
  class_declares extent x =
      of_identifier number extent k.Class x.name ∷
      (declares_if (type_parameters_declares x.word (class_last x.kind)) x.parameters ++
      class_kind_declares x.kind)

  -- the parameters of an alias are no part of the unit (19.3.1 Typedef)
  abbrev pub alias_declares : Extent → u.Alias → List Declared
  alias_declares extent x =
      of_identifier number extent k.Alias x.name ∷
      declares_if (type_parameters_declares x.word x.semicolon) x.type_parameters

  -- An enum stands for a class (13 Enums). Its elements are constant static variables. Before them each element has its
  -- `index` and its text, which the class's constructor sets; the name of both, `enum`, no source can spell. Behind them
  -- are `toString` and the list of all elements. What is added stands at the enum's name.

  abbrev pub element_declares : Extent → CommaName → List Declared
  element_declares extent x =
      of_identifier number extent (k.Owned owner.Class role.Final) x.name ∷ []

  abbrev pub elements_declare : Extent → u.Enum → List Declared
  elements_declare extent x =
      of_identifier number extent (k.Owned owner.Class role.Final) x.first ∷
      flat_map (element_declares extent) x.more

  abbrev pub before_elements : Extent → Identifier → List Declared
  before_elements extent enum =
      of_text number extent (k.Owned owner.Object role.Final) enum (codes "index") ∷
      of_text number extent (k.Owned owner.Object role.Final) enum (codes "enum") ∷
      of_text number (nowhere extent.scope) k.NamedConstructor enum (codes "enum") ∷ []

  abbrev pub behind_elements : Extent → Identifier → List Declared
  behind_elements extent enum =
      of_text number extent (k.Owned owner.Object role.Function) enum (codes "toString") ∷
      of_text number extent (k.Owned owner.Class role.Final) enum (codes "values") ∷ []

  abbrev pub enum_members_declare : Extent → u.Enum → List Declared
  enum_members_declare extent x =
      before_elements extent x.name ++ (elements_declare extent x ++ behind_elements extent x.name)

  abbrev pub enum_declares : Extent → u.Enum → List Declared
  enum_declares extent x =
      of_identifier number extent k.Class x.name ∷
      enum_members_declare (record { scope = x.opening; after = x.opening; last = x.closing }) x

  -- what a library's unit declares, which counts in namespaces alone

  abbrev pub decl_kind_declares : Extent → u.DeclKind → List Declared
  decl_kind_declares extent (u.class_decl x) = class_declares extent x
  decl_kind_declares extent (u.alias_decl x) = alias_declares extent x
  decl_kind_declares extent (u.function_decl x) = function_declares extent owner.Library x
  decl_kind_declares extent (u.accessor_decl x) = accessor_declares extent owner.Library x
  decl_kind_declares extent (u.variables_decl x) = fields_declares extent owner.Library x
  decl_kind_declares extent (u.enum_decl x) = enum_declares extent x

  abbrev pub decl_declares : Extent → u.Decl → List Declared
  decl_declares extent x = decl_kind_declares extent x.kind

  unfoldable pub unit_declares : Place → u.UnitTree → List Declared
  unit_declares library x = flat_map (decl_declares (nowhere library)) x.declarations
