-- Classes, their members, aliases, functions, accessors and variables.
use Rattle.std.specs.Prelude.{ℕ, zero, suc, Bool, true, false, List, [], ◌∷◌, Option, None, Some}
use Rattle.dart_base.specs.declared.place.Place.{Place}
use Rattle.dart_token.specs.declared.sign.Sign.{Sign}
use Rattle.dart_token.specs.declared.sign.Sign.TheVariants as s
use Rattle.dart_token.specs.declared.word.Word.TheVariants as w
use Rattle.dart_tree.specs.declared.identifier.Identifier.{Identifier}
use Rattle.dart_tree.specs.declared.identifier.Identifier.TheVariants as i
use Rattle.dart_tree.specs.declared.identifier.DotName.{DotName}
use Rattle.dart_tree.specs.declared.declaration.Modifier.{Modifier}
use Rattle.dart_tree.specs.declared.declaration.Modifier.TheVariants as m
use Rattle.dart_tree.specs.declared.declaration.OperatorName.{OperatorName}
use Rattle.dart_tree.specs.declared.declaration.OperatorName.TheVariants as o
use Rattle.dart_tree.specs.declared.declaration.ConstructorName.{ConstructorName}
use Rattle.dart_tree.specs.LeafTokens.{identifier_tokens}
use Rattle.dart_tree.specs.Types.{TypeNode, ResultType, named_type, no_types}
use Rattle.dart_tree.specs.Tree as t
use Rattle.dart_tree.specs.Tree.{Body, Function, Parameters, Metadata}
use Rattle.dart_tree.specs.Tokens.{body_tokens, function_tokens}
use Rattle.dart_tree.specs.Unit as d
use Rattle.dart_tree.specs.Unit.{Bound, TypeClause, TypeParameter, TypeParameters, Superclass, Alias, AccessorKind, Accessor, OperatorMember, InitKind, Init, Initializers, Constructor, MemberKind, Member, ClassKind, Class, Enum, DeclKind, Decl}
use Rattle.dart_tree.specs.UnitTokens.{clause_tokens, bound_tokens, type_parameters_tokens, superclass_tokens, alias_tokens, accessor_kind_tokens, accessor_tokens, operator_name_tokens, operator_member_tokens, constructor_name_tokens, init_kind_tokens, initializers_tokens, constructor_tokens, modifier_tokens, member_kind_tokens, member_tokens, class_kind_tokens, class_tokens, enum_tokens, decl_kind_tokens, decl_tokens}
use Rattle.dart_syntax.specs.Phrases.{Phrase, ◌~◌, ◌<|>◌, seq_if, seq_by, opt, many, rather, made, made₂, made₃, made₄, made₅, made₆, made₇, made₈, such, no_room, exactly}
use Rattle.dart_syntax.specs.Leaves.{sign, word, named, identifier, plain_identifier, dot_name, comma_name, commas}
use Rattle.dart_syntax.specs.Types.{types, result_over, result_leaves_name}
use Rattle.dart_syntax.specs.Expressions.{to_cascades, cascaded_over}
use Rattle.dart_syntax.specs.Statements.{StmtNodes, Within, within, metadata_of, this_dot, body_of, function_over}

-- ---- the lists of the trees

abbrev pub more_type_parameters : List (Place × (Metadata × (Identifier × Option Bound))) →
    List TypeParameter
more_type_parameters [] = []
more_type_parameters ((comma, (metadata, (name, bound))) ∷ more) =
    record { comma = Some comma; metadata = metadata; name = name; bound = bound }
    ∷ more_type_parameters more

abbrev pub to_type_parameters : (Metadata × (Identifier × Option Bound)) ×
    List (Place × (Metadata × (Identifier × Option Bound))) → List TypeParameter
to_type_parameters ((metadata, (name, bound)), more) =
    record { comma = None; metadata = metadata; name = name; bound = bound }
    ∷ more_type_parameters more

abbrev pub more_inits : List (Place × InitKind) → List Init
more_inits [] = []
more_inits ((comma, kind) ∷ more) = record { comma = Some comma; kind = kind } ∷ more_inits more

abbrev pub to_inits : InitKind × List (Place × InitKind) → List Init
to_inits (kind, more) = record { comma = None; kind = kind } ∷ more_inits more

-- what stands before an accessor's word, with its kind
abbrev pub an_accessor : Option Place → Option ResultType × AccessorKind → Body → Accessor
an_accessor external (result, kind) body =
    record { external = external; result_type = result; kind = kind; body = body }

-- what stands before a class's kind
abbrev pub ClassHeader : Type 0
ClassHeader = Option Place × (Place × (Identifier × Option TypeParameters))

abbrev pub a_class : ClassHeader → ClassKind → Class
a_class (abstracted, (word, (name, parameters))) kind =
    record {
      abstracted = abstracted;
      word = word;
      name = name;
      parameters = parameters;
      kind = kind;
    }

abbrev pub text_of : Identifier → List ℕ
text_of (i.Name place text) = text
text_of x = []

abbrev pub class_name : ClassHeader → List ℕ
class_name (abstracted, (word, (name, parameters))) = text_of name

-- a factory's target stands apart only where the type before it could not take it
abbrev pub target_takes_names : TypeNode × (Option DotName × Place) → Bool
target_takes_names (named_type name None no_types, (Some constructor, semicolon)) = false
target_takes_names x = true

-- ---- parts of declarations, over the nodes that stand inside

module _ (inner : StmtNodes) where
  open inner.expr_nodes use {type, parameters}

  -- extends type
  abbrev pub bound_over : Phrase Bound
  bound_over =
      made₂ bound_tokens (λ word bound. record { word = word; bound = bound })
      (word w.Extends ~ type)

  -- typeParameters: < typeParameter {, typeParameter} >
  -- typeParameter: metadata id [extends type] (14 Generics)
  abbrev pub type_parameters_over : Phrase TypeParameters
  type_parameters_over = made₃ type_parameters_tokens
      (λ opening items closing. record {
        opening = opening;
        items = to_type_parameters items;
        closing = closing;
      })
      (sign s.Less ~ commas (metadata_of inner.expr_nodes ~ plain_identifier ~ opt bound_over)
      ~ sign s.Greater)

  -- mixins: with typeList (10.9 Superclasses)
  abbrev pub mixins_over : Phrase TypeClause
  mixins_over =
      made₂ (clause_tokens w.With) (λ word items. record { word = word; types = items })
      (word w.With ~ types type)

  -- interfaces: implements typeList (10.10 Superinterfaces)
  abbrev pub interfaces_over : Phrase TypeClause
  interfaces_over =
      made₂ (clause_tokens w.Implements) (λ word items. record { word = word; types = items })
      (word w.Implements ~ types type)

  -- superclass [mixins], where superclass: extends type (10.9 Superclasses)
  abbrev pub superclass_over : Phrase Superclass
  superclass_over = made₃ superclass_tokens
      (λ word superclass mixins. record { word = word; superclass = superclass; mixins = mixins })
      (word w.Extends ~ type ~ opt mixins_over)

  -- functionTypeAlias: typedef [returnType] id [typeParameters] formalParameterList ;
  -- (19.3.1 Typedef)
  abbrev pub alias_over : Phrase Alias
  alias_over = made₆ alias_tokens (λ word result name type_parameters given semicolon. record {
    word = word;
    result_type = result;
    name = name;
    type_parameters = type_parameters;
    parameters = given;
    semicolon = semicolon;
  })
      (word w.Typedef ~ opt (result_over type) ~ plain_identifier ~ opt type_parameters_over
      ~ parameters ~ sign s.Semicolon)

  -- functionSignature functionBody, with or without `external` (9 Functions)
  abbrev pub function_node_over : Phrase (Option Place) → Phrase Function
  function_node_over external = function_over inner external (body_of inner.expr_nodes)

  -- get id (10.2 Getters) | set id formalParameterList (10.3 Setters)
  abbrev pub accessor_kind_over : Phrase AccessorKind
  accessor_kind_over = made₂ accessor_kind_tokens d.getter (word w.Get ~ identifier)
      <|> made₃ accessor_kind_tokens d.setter (word w.Set ~ identifier ~ parameters)

  -- getterSignature and setterSignature: [returnType] and one of these, with their body
  abbrev pub accessor_over : Phrase (Option Place) → Phrase Accessor
  accessor_over external = made₃ accessor_tokens an_accessor
      (external ~ seq_if result_leaves_name (opt (result_over type)) accessor_kind_over
      ~ body_of inner.expr_nodes)

  abbrev pub signs_of : List Sign → Phrase OperatorName
  signs_of [] = no_room operator_name_tokens
  signs_of (x ∷ more) =
      made operator_name_tokens (λ place. o.Sign place x) (sign x) <|> signs_of more

-- + - * / ~/ % < > <= >= == << & | ^ ~
abbrev pub operator_signs : List Sign
operator_signs = s.Plus ∷ s.Minus ∷ s.Star ∷ s.Slash ∷ s.TildeSlash ∷ s.Percent ∷ s.Less ∷ s.Greater
    ∷ s.LessEqual ∷ s.GreaterEqual ∷ s.EqualEqual ∷ s.ShiftLeft ∷ s.Ampersand ∷ s.Bar ∷ s.Caret
    ∷ s.Tilde ∷ []

module _ (inner : StmtNodes) where
  open inner.expr_nodes use {type, parameters}

  -- one of these signs, or > >, [ ], [ ] = (10.1.1 Operators)
  abbrev pub operator_name_over : Phrase OperatorName
  operator_name_over = signs_of inner operator_signs
      <|> made₂ operator_name_tokens o.ShiftRight (sign s.Greater ~ sign s.Greater)
      <|> made₂ operator_name_tokens o.Index (sign s.LeftBracket ~ sign s.RightBracket)
      <|> made₃ operator_name_tokens o.IndexAssign
      (sign s.LeftBracket ~ sign s.RightBracket ~ sign s.Assign)

  -- operatorSignature: [returnType] operator and its name, formalParameterList, with its body
  -- (10.1.1 Operators)
  abbrev pub operator_member_over : Phrase OperatorMember
  operator_member_over = made₆ operator_member_tokens
      (λ external result word name given body. record {
        external = external;
        result_type = result;
        word = word;
        name = name;
        parameters = given;
        body = body;
      })
      (opt (word w.External) ~ opt (result_over type) ~ word w.Operator ~ operator_name_over
      ~ parameters ~ body_of inner.expr_nodes)

  -- C [. id], where C is the class's name
  abbrev pub constructor_name_over : List ℕ → Phrase ConstructorName
  constructor_name_over class =
      made₂ constructor_name_tokens (λ class name. record { class = class; name = name })
      (made identifier_tokens (λ place. i.Name place class) (named class) ~ opt dot_name)

-- ---- constructors

-- superCallOrFieldInitializer: super [. id] arguments | fieldInitializer
-- fieldInitializer: [this .] id = conditionalExpression {cascadeSection}
-- (10.6.1 Generative Constructors)
abbrev pub init_over : Within → Phrase InitKind
init_over inner =
    made₃ init_kind_tokens d.super_init
    (word w.Super ~ opt dot_name ~ inner.nodes.expr_nodes.arguments)
    <|> made₄ init_kind_tokens
    (λ this name equals value. d.field_init this name equals value.0 (to_cascades value.1))
    (opt (this_dot inner.nodes.expr_nodes) ~ identifier ~ sign s.Assign
    ~ cascaded_over inner.nodes.expr_nodes inner.levels)

abbrev pub init_within : ℕ → Phrase InitKind
init_within zero = no_room init_kind_tokens
init_within (suc n) = init_over (within n)

module _ (inner : StmtNodes) (init : Phrase InitKind) (class : List ℕ) where
  open inner.expr_nodes use {type, arguments, parameters, block}

  -- initializers: : superCallOrFieldInitializer {, superCallOrFieldInitializer}
  abbrev pub initializers_over : Phrase Initializers
  initializers_over =
      made₂ initializers_tokens (λ colon items. record { colon = colon; items = to_inits items })
      (sign s.Colon ~ commas init)

  -- constructorSignature [initializers] (block | ;)
  -- constructorSignature: C [. id] formalParameterList (10.6.1 Generative Constructors)
  abbrev pub generative_over : Phrase Constructor
  generative_over = made₄ constructor_tokens (d.generative None)
      (constructor_name_over inner class ~ parameters ~ opt initializers_over
      ~ (made body_tokens t.block_body block <|> made body_tokens t.no_body (sign s.Semicolon)))

  -- constantConstructorSignature [initializers] ;
  -- constantConstructorSignature: const C [. id] formalParameterList (10.6.3 Constant Constructors)
  abbrev pub constant_over : Phrase Constructor
  constant_over = made₅ constructor_tokens
      (λ word name given inits semicolon.
      d.generative (Some word) name given inits (t.no_body semicolon))
      (word w.Const ~ constructor_name_over inner class ~ parameters ~ opt initializers_over
      ~ sign s.Semicolon)

  -- constructorSignature redirection ;, where redirection: : this [. id] arguments
  abbrev pub redirecting_over : Phrase Constructor
  redirecting_over = made₇ constructor_tokens d.redirecting
      (constructor_name_over inner class ~ parameters
      ~ sign s.Colon ~ word w.This ~ opt dot_name ~ arguments ~ sign s.Semicolon)

  -- [external] factoryConstructorSignature and its body, or
  -- [external] redirectingFactoryConstructorSignature ; (10.6.2 Factories)
  -- factoryConstructorSignature: factory C [. id] formalParameterList
  -- redirectingFactoryConstructorSignature: factory C [. id] formalParameterList = type [. id]
  abbrev pub factory_over : Phrase Constructor
  factory_over =
      made₅ constructor_tokens d.factory
      (opt (word w.External) ~ word w.Factory ~ constructor_name_over inner class ~ parameters
      ~ body_of inner.expr_nodes)
      <|> made₈ constructor_tokens d.redirecting_factory
      (opt (word w.External) ~ word w.Factory ~ constructor_name_over inner class ~ parameters
      ~ sign s.Assign ~ such target_takes_names (type ~ opt dot_name ~ sign s.Semicolon))

  abbrev pub constructor_over : Phrase Constructor
  constructor_over = generative_over <|> constant_over <|> redirecting_over <|> factory_over

abbrev pub constructor_within : List ℕ → ℕ → Phrase Constructor
constructor_within class zero = no_room constructor_tokens
constructor_within class (suc n) = constructor_over (within n).nodes (init_within n) class

-- ---- functions and accessors that are declared

abbrev pub external_or_none : Phrase (Option Place)
external_or_none = opt (word w.External)

abbrev pub without_external : Phrase (Option Place)
without_external = exactly external_or_none.spelling None

abbrev pub function_within : Phrase (Option Place) → ℕ → Phrase Function
function_within external zero = no_room function_tokens
function_within external (suc n) = function_node_over (within n).nodes external

abbrev pub accessor_within : Phrase (Option Place) → ℕ → Phrase Accessor
accessor_within external zero = no_room accessor_tokens
accessor_within external (suc n) = accessor_over (within n).nodes external

abbrev pub alias_within : ℕ → Phrase Alias
alias_within zero = no_room alias_tokens
alias_within (suc n) = alias_over (within n).nodes

-- ---- members and classes

module _ (n : ℕ) where
  -- a function or an accessor
  abbrev pub callable_within : Phrase (Option Place) → Phrase MemberKind
  callable_within external = made member_kind_tokens d.function_member (function_within external n)
      <|> made member_kind_tokens d.accessor_member (accessor_within external n)

  abbrev pub variables_within : Phrase MemberKind
  variables_within = made member_kind_tokens d.variables_member (within n).nodes.variables

  abbrev pub operator_within : Phrase MemberKind
  operator_within =
      made member_kind_tokens d.operator_member (operator_member_over (within n).nodes)

  -- a member's kind behind no modifier, behind `static`, and behind `external static`
  abbrev pub unmodified : Phrase MemberKind → Phrase (Modifier × MemberKind)
  unmodified kind = exactly modifier_tokens m.Omitted ~ kind

  abbrev pub static : Phrase MemberKind → Phrase (Modifier × MemberKind)
  static kind = made modifier_tokens m.Static (word w.Static) ~ kind

  abbrev pub external_static : Phrase MemberKind → Phrase (Modifier × MemberKind)
  external_static kind =
      made₂ modifier_tokens m.ExternalStatic (word w.External ~ word w.Static) ~ kind

  -- a constructor, in a class of this name
  abbrev pub constructor_member : List ℕ → Phrase (Modifier × MemberKind)
  constructor_member class =
      unmodified (made member_kind_tokens d.constructor_member (constructor_within class n))

  -- a function, an accessor, variables or an operator
  abbrev pub other_member : Phrase (Modifier × MemberKind)
  other_member =
      unmodified (callable_within external_or_none <|> variables_within <|> operator_within)
      <|> static (callable_within without_external <|> variables_within)
      <|> external_static (callable_within without_external)

  -- metadata classMemberDefinition, which is a constructor wherever the tokens can be read so
  -- (10 Classes)
  abbrev pub member_within : List ℕ → Phrase Member
  member_within class = made₂ member_tokens
      (λ metadata x. record { metadata = metadata; modifier = x.0; kind = x.1 })
      (metadata_of (within n).nodes.expr_nodes ~ rather (constructor_member class) other_member)

  -- what follows a class's name and type parameters (10 Classes, 12.1 Mixin Application):
  -- [superclass [mixins]] [interfaces] { {metadata classMemberDefinition} } | = mixinApplication ;
  -- mixinApplication: type mixins [interfaces]
  abbrev pub class_kind_within : List ℕ → Phrase ClassKind
  class_kind_within class =
      made₅ class_kind_tokens d.declared_class
      (opt (superclass_over (within n).nodes) ~ opt (interfaces_over (within n).nodes)
      ~ sign s.LeftBrace ~ many (member_within class) ~ sign s.RightBrace)
      <|> made₅ class_kind_tokens d.mixed_class
      (sign s.Assign ~ (within n).nodes.expr_nodes.type ~ mixins_over (within n).nodes
      ~ opt (interfaces_over (within n).nodes) ~ sign s.Semicolon)

  -- classDefinition: [abstract] class id [typeParameters] and its kind, in which constructors have
  -- the class's name
  abbrev pub class_over : Phrase Class
  class_over = made₂ class_tokens a_class
      (seq_by class_kind_tokens
      (opt (word w.Abstract) ~ word w.Class ~ plain_identifier
      ~ opt (type_parameters_over (within n).nodes))
      (λ header. class_kind_within (class_name header)))

abbrev pub class_within : ℕ → Phrase Class
class_within zero = no_room class_tokens
class_within (suc n) = class_over n

-- ---- enums and declarations

-- enumType: enum id { id {, id} [,] } (13 Enums)
abbrev pub enum_over : Phrase Enum
enum_over = made₇ enum_tokens
    (λ word name opening first more comma closing. record {
      word = word;
      name = name;
      opening = opening;
      first = first;
      more = more;
      comma = comma;
      closing = closing;
    })
    (word w.Enum ~ plain_identifier ~ sign s.LeftBrace ~ identifier ~ many comma_name
    ~ opt (sign s.Comma) ~ sign s.RightBrace)

abbrev pub enum_within : ℕ → Phrase Enum
enum_within zero = no_room enum_tokens
enum_within (suc n) = enum_over

-- topLevelDefinition with its metadata, as deep as what holds it (18 Libraries and Scripts)
abbrev pub decl_within : ℕ → Phrase Decl
decl_within n = made₂ decl_tokens (λ metadata kind. record { metadata = metadata; kind = kind })
    (metadata_of (within n).nodes.expr_nodes
    ~ (made decl_kind_tokens d.class_decl (class_within n)
    <|> made decl_kind_tokens d.alias_decl (alias_within n)
    <|> made decl_kind_tokens d.function_decl (function_within external_or_none n)
    <|> made decl_kind_tokens d.accessor_decl (accessor_within external_or_none n)
    <|> made decl_kind_tokens d.variables_decl (within n).nodes.variables
    <|> made decl_kind_tokens d.enum_decl (enum_within n)))
