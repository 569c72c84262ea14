-- Units and declarations without where they lie in memory.
use Rattle.std.specs.Prelude.{List, Option}
use Rattle.dart_base.specs.declared.place.Place.{Place}
use Rattle.dart_tree.specs.declared.identifier.Identifier.{Identifier}
use Rattle.dart_tree.specs.declared.identifier.DotName.{DotName}
use Rattle.dart_tree.specs.declared.identifier.CommaName.{CommaName}
use Rattle.dart_tree.specs.declared.parameter.ThisDot.{ThisDot}
use Rattle.dart_tree.specs.declared.declaration.Modifier.{Modifier}
use Rattle.dart_tree.specs.declared.declaration.OperatorName.{OperatorName}
use Rattle.dart_tree.specs.declared.declaration.ConstructorName.{ConstructorName}
use Rattle.dart_tree.specs.declared.unit.Prefix.{Prefix}
use Rattle.dart_tree.specs.declared.unit.CombinatorKind.{CombinatorKind}
use Rattle.dart_tree.specs.Types as y
use Rattle.dart_tree.specs.Tree as t

pub record Bound : Type 0 where
  pub word : Place
  pub bound : y.TypeNode

pub record TypeParameter : Type 0 where
  pub comma : Option Place
  pub metadata : t.Metadata
  pub name : Identifier
  pub bound : Option Bound

pub record TypeParameters : Type 0 where
  pub opening : Place
  pub items : List TypeParameter
  pub closing : Place

pub record TypeClause : Type 0 where
  pub word : Place
  pub types : y.TypeList

pub record Superclass : Type 0 where
  pub word : Place
  pub superclass : y.TypeNode
  pub mixins : Option TypeClause

pub data InitKind : Type 0 where
  super_init : Place → Option DotName → t.Arguments → InitKind
  field_init : Option ThisDot → Identifier → Place → t.Operand → t.Cascades → InitKind

pub record Init : Type 0 where
  pub comma : Option Place
  pub kind : InitKind

pub record Initializers : Type 0 where
  pub colon : Place
  pub items : List Init

pub data Constructor : Type 0 where
  generative :
      Option Place → ConstructorName → t.Parameters → Option Initializers → t.Body → Constructor
  redirecting :
      ConstructorName → t.Parameters → Place → Place → Option DotName → t.Arguments → Place →
      Constructor
  factory : Option Place → Place → ConstructorName → t.Parameters → t.Body → Constructor
  redirecting_factory :
      Option Place → Place → ConstructorName → t.Parameters → Place → y.TypeNode → Option DotName →
      Place → Constructor

pub data AccessorKind : Type 0 where
  getter : Place → Identifier → AccessorKind
  setter : Place → Identifier → t.Parameters → AccessorKind

pub record Accessor : Type 0 where
  pub external : Option Place
  pub result_type : Option y.ResultType
  pub kind : AccessorKind
  pub body : t.Body

pub record OperatorMember : Type 0 where
  pub external : Option Place
  pub result_type : Option y.ResultType
  pub word : Place
  pub name : OperatorName
  pub parameters : t.Parameters
  pub body : t.Body

pub data MemberKind : Type 0 where
  constructor_member : Constructor → MemberKind
  function_member : t.Function → MemberKind
  accessor_member : Accessor → MemberKind
  variables_member : t.Variables → MemberKind
  operator_member : OperatorMember → MemberKind

pub record Member : Type 0 where
  pub metadata : t.Metadata
  pub modifier : Modifier
  pub kind : MemberKind

pub data ClassKind : Type 0 where
  declared_class : Option Superclass → Option TypeClause → Place → List Member → Place → ClassKind
  mixed_class : Place → y.TypeNode → TypeClause → Option TypeClause → Place → ClassKind

pub record Class : Type 0 where
  pub abstracted : Option Place
  pub word : Place
  pub name : Identifier
  pub parameters : Option TypeParameters
  pub kind : ClassKind

pub record Alias : Type 0 where
  pub word : Place
  pub result_type : Option y.ResultType
  pub name : Identifier
  pub type_parameters : Option TypeParameters
  pub parameters : t.Parameters
  pub semicolon : Place

pub record Enum : Type 0 where
  pub word : Place
  pub name : Identifier
  pub opening : Place
  pub first : Identifier
  pub more : List CommaName
  pub comma : Option Place
  pub closing : Place

pub data DeclKind : Type 0 where
  class_decl : Class → DeclKind
  alias_decl : Alias → DeclKind
  function_decl : t.Function → DeclKind
  accessor_decl : Accessor → DeclKind
  variables_decl : t.Variables → DeclKind
  enum_decl : Enum → DeclKind

pub record Decl : Type 0 where
  pub metadata : t.Metadata
  pub kind : DeclKind

pub record Combinator : Type 0 where
  pub kind : CombinatorKind
  pub word : Place
  pub first : Identifier
  pub more : List CommaName

pub data DirectiveKind : Type 0 where
  part_of_directive : Place → Place → Identifier → List DotName → DirectiveKind
  library_directive : Place → Identifier → List DotName → DirectiveKind
  import_directive : Place → t.Pieces → Option Prefix → List Combinator → DirectiveKind
  export_directive : Place → t.Pieces → List Combinator → DirectiveKind
  part_directive : Place → t.Pieces → DirectiveKind

pub record Directive : Type 0 where
  pub metadata : t.Metadata
  pub kind : DirectiveKind
  pub semicolon : Place

pub record UnitTree : Type 0 where
  pub directives : List Directive
  pub declarations : List Decl
