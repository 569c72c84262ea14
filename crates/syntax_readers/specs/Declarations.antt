-- Readers of classes, their members, enums, aliases, functions, accessors and variables.
use Rattle.std.specs.Prelude.{ℕ, zero, suc, Bool, false, not, ◌&&◌, if◌then◌else◌, List, [], ◌∷◌, Option, Some, None}
use Rattle.dart_base.specs.declared.place.Place.{Place}
use Rattle.dart_token.specs.declared.token.Token.{Token}
use Rattle.dart_token.specs.declared.sign.Sign.{Sign}
use Rattle.dart_token.specs.declared.sign.Sign.TheVariants as s
use Rattle.dart_token.specs.declared.word.Word.TheVariants as w
use Rattle.dart_tree.specs.declared.declaration.ConstructorName.{ConstructorName}
use Rattle.dart_tree.specs.declared.declaration.Modifier.{Modifier}
use Rattle.dart_tree.specs.declared.declaration.Modifier.TheVariants as m
use Rattle.dart_tree.specs.declared.declaration.OperatorName.{OperatorName}
use Rattle.dart_tree.specs.declared.declaration.OperatorName.TheVariants as o
use Rattle.dart_tree.specs.declared.identifier.CommaName.{CommaName}
use Rattle.dart_tree.specs.declared.identifier.Identifier.{Identifier}
use Rattle.dart_tree.specs.declared.identifier.Identifier.TheVariants as i
use Rattle.dart_tree.specs.Types.{TypeNode, ResultType}
use Rattle.dart_tree.specs.Tree as t
use Rattle.dart_tree.specs.Tree.{Block, Body, Function, Parameters}
use Rattle.dart_tree.specs.Unit as d
use Rattle.dart_tree.specs.Unit.{Bound, TypeClause, TypeParameters, Superclass, Alias, AccessorKind, Accessor, OperatorMember, InitKind, Initializers, Constructor, MemberKind, Member, ClassKind, Class, Enum, DeclKind}
use Rattle.grammar_laws.specs.Readers.{Reader, nothing, always, mapped, checked, both_by, starts, starts_two, option, many, separated, trailed, by_first, by_two, tried, sought}
use Rattle.grammar_laws.specs.Halves.{strict}
use Rattle.dart_syntax.specs.Types.{result_leaves_name}
use Rattle.dart_syntax.specs.Declarations.{to_type_parameters, to_inits, an_accessor, ClassHeader, a_class, class_name, operator_signs}
use Rattle.token_codes.specs.Codes.{class_of, middle_code, names, sign_code, tail_code, word_code, these, this_word}
use Rattle.token_codes.specs.Leaves.{sign, word, identifier, plain_identifier, named, dot_name, this_dot}
use Rattle.syntax_readers.specs.Combinators.{◌~◌, made₂, made₃, made₄, made₅, made₆, made₇, made₈, always_gives, option_where, open_behind, behind_brackets, up_to}
use Rattle.syntax_readers.specs.Types.{types, type_first, result_comes, result}
use Rattle.syntax_readers.specs.Primaries.{ExprReaders}
use Rattle.syntax_readers.specs.Expressions.{cascaded_over}
use Rattle.syntax_readers.specs.Parameters.{metadata, body, function_over}
use Rattle.syntax_readers.specs.Statements.{Stage, stage}

-- ---- parts of declarations, over the nodes that stand inside

-- extends type
unfoldable pub bound : Reader Token TypeNode → Reader Token Bound
bound type = made₂ (λ word bound. record { word = word; bound = bound }) (word w.Extends ~ type)

-- typeParameters: < typeParameter {, typeParameter} >, typeParameter: metadata id [extends type]
-- (14 Generics)
unfoldable pub type_parameters : ExprReaders → Reader Token TypeParameters
type_parameters inner = made₃
    (λ opening items closing. record {
      opening =
          opening;
      items = to_type_parameters items;
      closing = closing;
    })
    (sign s.Less
    ~ separated class_of (these s.Comma)
    (metadata inner ~ plain_identifier ~ option class_of (this_word w.Extends) (bound inner.type))
    (sign s.Comma)
    ~ sign s.Greater)

-- mixins: with typeList (10.9 Superclasses)
unfoldable pub mixins : Reader Token TypeNode → Reader Token TypeClause
mixins type = made₂ (λ word items. record { word = word; types = items }) (word w.With ~ types type)

-- interfaces: implements typeList (10.10 Superinterfaces)
unfoldable pub interfaces : Reader Token TypeNode → Reader Token TypeClause
interfaces type = made₂ (λ word items. record { word = word; types = items })
    (word w.Implements ~ types type)

-- superclass [mixins], where superclass: extends type
unfoldable pub superclass : Reader Token TypeNode → Reader Token Superclass
superclass type =
    made₃ (λ word above mixed. record { word = word; superclass = above; mixins = mixed })
    (word w.Extends ~ type ~ option class_of (this_word w.With) (mixins type))

-- functionTypeAlias: typedef [returnType] id [typeParameters] formalParameterList ; (19.3.1
-- Typedef)
-- what stands before the name is read as its result if it can be
unfoldable pub alias_over : ExprReaders → Reader Token (Option ResultType) → Reader Token Alias
alias_over inner result = made₆ (λ word result name type_parameters given semicolon. record {
  word = word;
  result_type = result;
  name = name;
  type_parameters = type_parameters;
  parameters = given;
  semicolon = semicolon;
})
    (word w.Typedef ~ result ~ plain_identifier ~ option class_of (these s.Less)
    (type_parameters inner)
    ~ inner.parameters ~ sign s.Semicolon)

unfoldable pub alias : ExprReaders → Reader Token Alias
alias inner = tried (alias_over inner (mapped (λ x. Some x) (result inner.type)))
    (alias_over inner (always_gives None))

-- [external], and none
unfoldable pub external_or_none : Reader Token (Option Place)
external_or_none = option class_of (this_word w.External) (word w.External)

-- ---- accessors

-- the word of an accessor comes: `get` or `set` before an identifier
abbrev pub accessor_comes : List Token → Bool
accessor_comes ts = starts_two class_of (word_code w.Get ∷ word_code w.Set ∷ []) names ts

abbrev pub result_before_accessor : List Token → Bool
result_before_accessor ts = result_comes ts && not (accessor_comes ts)

-- get id (10.2 Getters) | set id formalParameterList (10.3 Setters)
unfoldable pub accessor_kind : Reader Token Parameters → Reader Token AccessorKind
accessor_kind parameters = by_first class_of (this_word w.Get)
    (made₂ d.getter (word w.Get ~ identifier))
    (made₃ d.setter (word w.Set ~ identifier ~ parameters))

-- getterSignature and setterSignature: [returnType] and one of these, with their body
unfoldable pub accessor_over : ExprReaders → Reader Token (Option Place) → Reader Token Accessor
accessor_over inner external = made₃ an_accessor (external
    ~ (checked result_leaves_name (option_where result_before_accessor (result inner.type))
    ~ accessor_kind inner.parameters)
    ~ body inner)

-- ---- operators (10.1.1 Operators)

abbrev pub operator_sign : Sign → Reader Token OperatorName
operator_sign which = mapped (λ place. o.Sign place which) (sign which)

unfoldable pub operator_signs_of : List Sign → Reader Token OperatorName
operator_signs_of [] = nothing
operator_signs_of (x ∷ more) = by_first class_of (these x) (operator_sign x)
    (operator_signs_of more)

-- one of these signs, or > >, [ ], [ ] =
abbrev pub shift_or_greater : Place × Option Place → OperatorName
shift_or_greater (first, None) = o.Sign first s.Greater
shift_or_greater (first, Some second) = o.ShiftRight first second

abbrev pub index_or_assign : (Place × Place) × Option Place → OperatorName
index_or_assign ((opening, closing), None) = o.Index opening closing
index_or_assign ((opening, closing), Some equals) = o.IndexAssign opening closing equals

unfoldable pub operator_name : Reader Token OperatorName
operator_name = by_first class_of (these s.Greater)
    (mapped shift_or_greater (sign s.Greater ~ option class_of (these s.Greater) (sign s.Greater)))
    (by_first class_of (these s.LeftBracket)
    (mapped index_or_assign
    ((sign s.LeftBracket ~ sign s.RightBracket) ~ option class_of (these s.Assign) (sign s.Assign)))
    (operator_signs_of operator_signs))

-- operatorSignature: [returnType] operator and its name, formalParameterList, with its body
unfoldable pub operator_member : ExprReaders → Reader Token OperatorMember
operator_member inner = made₆ (λ external result word name given body. record {
  external = external;
  result_type = result;
  word = word;
  name = name;
  parameters = given;
  body = body;
})
    (external_or_none ~ option_where result_comes (result inner.type) ~ word w.Operator
    ~ operator_name
    ~ inner.parameters ~ body inner)

-- ---- constructors

-- C [. id], where C is the class's name
unfoldable pub constructor_name : List ℕ → Reader Token ConstructorName
constructor_name class = made₂ (λ class name. record { class = class; name = name })
    (mapped (λ place. i.Name place class) (named class) ~ option class_of (these s.Dot) dot_name)

-- superCallOrFieldInitializer: super [. id] arguments | fieldInitializer
-- fieldInitializer: [this .] id = conditionalExpression {cascadeSection} (10.6.1 Generative
-- Constructors)
unfoldable pub init_over : Stage → Reader Token InitKind
init_over inner = by_first class_of (this_word w.Super)
    (made₃ d.super_init
    (word w.Super ~ option class_of (these s.Dot) dot_name ~ inner.nodes.exprs.arguments))
    (made₄ (λ this name equals value. d.field_init this name equals value.0 value.1)
    (option class_of (this_word w.This) this_dot ~ identifier ~ sign s.Assign
    ~ strict (cascaded_over inner.nodes.exprs inner.levels)))

unfoldable pub init : ℕ → Reader Token InitKind
init zero = nothing
init (suc n) = init_over (stage n)

-- initializers: : superCallOrFieldInitializer {, superCallOrFieldInitializer}
unfoldable pub initializers : Reader Token InitKind → Reader Token Initializers
initializers init = made₂ (λ colon items. record { colon = colon; items = to_inits items })
    (sign s.Colon ~ separated class_of (these s.Comma) init (sign s.Comma))

-- behind a block that ends an initialiser the constructor goes on with one of these
abbrev pub behind_init : List ℕ
behind_init = sign_code s.LeftBrace ∷ sign_code s.Semicolon ∷ sign_code s.Comma ∷ sign_code s.Dot
    ∷ sign_code s.LeftBracket
    ∷ sign_code s.LeftParenthesis ∷ sign_code s.DotDot ∷ sign_code s.Question ∷ sign_code s.Star
    ∷ sign_code s.Slash
    ∷ sign_code s.TildeSlash ∷ sign_code s.Percent ∷ sign_code s.Plus ∷ sign_code s.Minus
    ∷ sign_code s.ShiftLeft
    ∷ sign_code s.Greater ∷ sign_code s.Ampersand ∷ sign_code s.Caret ∷ sign_code s.Bar
    ∷ sign_code s.Less
    ∷ sign_code s.LessEqual ∷ sign_code s.GreaterEqual ∷ sign_code s.EqualEqual
    ∷ sign_code s.NotEqual
    ∷ sign_code s.AndAnd ∷ sign_code s.OrOr ∷ word_code w.Is ∷ word_code w.As ∷ sign_code s.Colon
    ∷ middle_code ∷ tail_code ∷ []

-- a block begins here, with no bracket open, and nothing goes on behind it
abbrev pub is_body : ℕ → List Token → Bool
is_body zero ts = starts class_of (these s.LeftBrace) ts && not
    (starts class_of behind_init (behind_brackets ts))
is_body (suc n) ts = false

-- how many tokens stand before that block
abbrev pub before_body : ℕ → List Token → ℕ
before_body n [] = 0
before_body n (t ∷ ts) = if is_body n (t ∷ ts) then 0 else suc
    (before_body (open_behind n (class_of t)) ts)

-- constructorSignature [initializers] (block | ;), constructorSignature: C [. id]
-- formalParameterList
unfoldable pub block_or_none : Reader Token Block → Reader Token Body
block_or_none block = by_first class_of (these s.LeftBrace) (mapped t.block_body block)
    (mapped t.no_body (sign s.Semicolon))

unfoldable pub generative_with : ExprReaders → List ℕ → Reader Token (Option Initializers × Body) →
    Reader Token Constructor
generative_with inner class rest =
    made₃ (λ name given rest. d.generative None name given rest.0 rest.1)
    (constructor_name class ~ inner.parameters ~ rest)

-- an initialiser takes the block of a function literal, or leaves it to the constructor where
-- nothing goes on behind it
unfoldable pub with_initializers : Reader Token InitKind → Reader Token Block →
    Reader Token (Option Initializers × Body)
with_initializers init block = option class_of (these s.Colon) (initializers init)
    ~ block_or_none block

unfoldable pub with_own_body : Reader Token InitKind → Reader Token Block →
    Reader Token (Option Initializers × Body)
with_own_body init block ts =
    (mapped (λ x. Some x) (up_to (before_body 0 ts) (initializers init))
    ~ mapped t.block_body block) ts

unfoldable pub generative : ExprReaders → Reader Token InitKind → List ℕ → Reader Token Constructor
generative inner init class = sought (generative_with inner class
    (with_initializers init inner.block))
    (generative_with inner class (with_own_body init inner.block))

-- constantConstructorSignature [initializers] ;, constantConstructorSignature: const C [. id]
-- formalParameterList
-- (10.6.3 Constant Constructors)
unfoldable pub constant : ExprReaders → Reader Token InitKind → List ℕ → Reader Token Constructor
constant inner init class = made₅ (λ word name given inits semicolon. d.generative
    (Some word) name given inits (t.no_body semicolon))
    (word w.Const ~ constructor_name class ~ inner.parameters
    ~ option class_of (these s.Colon) (initializers init) ~ sign s.Semicolon)

-- constructorSignature redirection ;, redirection: : this [. id] arguments
unfoldable pub redirecting : ExprReaders → List ℕ → Reader Token Constructor
redirecting inner class = made₇ d.redirecting (constructor_name class ~ inner.parameters
    ~ sign s.Colon ~ word w.This
    ~ option class_of (these s.Dot) dot_name ~ inner.arguments ~ sign s.Semicolon)

-- [external] factoryConstructorSignature and its body, or [external]
-- redirectingFactoryConstructorSignature ;
-- factoryConstructorSignature: factory C [. id] formalParameterList (10.6.2 Factories)
-- redirectingFactoryConstructorSignature: factory C [. id] formalParameterList = type [. id]
unfoldable pub factory : ExprReaders → List ℕ → Reader Token Constructor
factory inner class = made₅ d.factory
    (external_or_none ~ word w.Factory ~ constructor_name class ~ inner.parameters ~ body inner)

unfoldable pub redirecting_factory : ExprReaders → List ℕ → Reader Token Constructor
redirecting_factory inner class = made₈ d.redirecting_factory
    (external_or_none ~ word w.Factory ~ constructor_name class ~ inner.parameters ~ sign s.Assign
    ~ inner.type
    ~ option class_of (these s.Dot) dot_name ~ sign s.Semicolon)

unfoldable pub constructor_over : ExprReaders → Reader Token InitKind → List ℕ →
    Reader Token Constructor
constructor_over inner init class = by_first class_of (word_code w.External ∷ word_code w.Factory
    ∷ [])
    (tried (factory inner class) (redirecting_factory inner class))
    (by_first class_of (this_word w.Const) (constant inner init class)
    (tried (generative inner init class) (redirecting inner class)))

unfoldable pub constructor : List ℕ → ℕ → Reader Token Constructor
constructor class zero = nothing
constructor class (suc n) = constructor_over (stage n).nodes.exprs (init n) class

-- ---- functions and accessors that are declared

unfoldable pub function : Reader Token (Option Place) → ℕ → Reader Token Function
function external zero = nothing
function external (suc n) = function_over (stage n).nodes.exprs external
    (body (stage n).nodes.exprs)

unfoldable pub accessor : Reader Token (Option Place) → ℕ → Reader Token Accessor
accessor external zero = nothing
accessor external (suc n) = accessor_over (stage n).nodes.exprs external

-- ---- members and classes

-- a function or an accessor, or variables
unfoldable pub callable : ℕ → Reader Token (Option Place) → Reader Token MemberKind
callable n external = tried (mapped d.accessor_member (accessor external n))
    (mapped d.function_member (function external n))

unfoldable pub callable_or_variables : ℕ → Reader Token (Option Place) → Reader Token MemberKind
callable_or_variables n external = by_first class_of (word_code w.Var ∷ word_code w.Final
    ∷ word_code w.Const ∷ [])
    (mapped d.variables_member (stage n).nodes.variables)
    (tried (callable n external) (mapped d.variables_member (stage n).nodes.variables))

unfoldable pub static_member : ℕ → Reader Token (Modifier × MemberKind)
static_member n = mapped m.Static (word w.Static) ~ callable_or_variables n (always_gives None)

unfoldable pub external_static_member : ℕ → Reader Token (Modifier × MemberKind)
external_static_member n = made₂ m.ExternalStatic (word w.External ~ word w.Static) ~ callable n
    (always_gives None)

unfoldable pub plain_member : ℕ → Reader Token (Modifier × MemberKind)
plain_member n = always_gives m.Omitted ~ tried (callable_or_variables n external_or_none)
    (mapped d.operator_member (operator_member (stage n).nodes.exprs))

-- the members that are no constructors
unfoldable pub other_member : ℕ → Reader Token (Modifier × MemberKind)
other_member n = by_first class_of (this_word w.Static) (static_member n)
    (by_two class_of (this_word w.External) (this_word w.Static) (external_static_member n)
    (plain_member n))

unfoldable pub constructor_member : ℕ → List ℕ → Reader Token (Modifier × MemberKind)
constructor_member n class = always_gives m.Omitted ~ mapped d.constructor_member
    (constructor class n)

-- metadata classMemberDefinition, which is a constructor wherever the tokens can be read so (10
-- Classes)
unfoldable pub member : ℕ → List ℕ → Reader Token Member
member n class = made₂ (λ metadata x. record { metadata = metadata; modifier = x.0; kind = x.1 })
    (metadata (stage n).nodes.exprs ~ tried (constructor_member n class) (other_member n))

-- what begins a member
abbrev pub member_first : List ℕ
member_first = sign_code s.AtSign ∷ word_code w.Static ∷ word_code w.External ∷ word_code w.Factory
    ∷ word_code w.Operator
    ∷ word_code w.Var ∷ word_code w.Final ∷ word_code w.Const ∷ word_code w.Void ∷ type_first

-- what follows a class's name and type parameters (10 Classes, 12.1 Mixin Application):
-- [superclass [mixins]] [interfaces] { {metadata classMemberDefinition} } | = mixinApplication ;
-- mixinApplication: type mixins [interfaces]
unfoldable pub declared_class : ℕ → List ℕ → Reader Token ClassKind
declared_class n class =
    let type = (stage n).nodes.exprs.type in
    made₅ d.declared_class (option class_of (this_word w.Extends) (superclass type)
    ~ option class_of (this_word w.Implements) (interfaces type)
    ~ sign s.LeftBrace ~ many class_of always member_first (member n class) ~ sign s.RightBrace)

unfoldable pub mixed_class : ℕ → Reader Token ClassKind
mixed_class n =
    let type = (stage n).nodes.exprs.type in
    made₅ d.mixed_class
    (sign s.Assign ~ type ~ mixins type ~ option class_of (this_word w.Implements) (interfaces type)
    ~ sign s.Semicolon)

unfoldable pub class_kind : ℕ → List ℕ → Reader Token ClassKind
class_kind n class = by_first class_of (these s.Assign) (mixed_class n) (declared_class n class)

-- classDefinition: [abstract] class id [typeParameters] and its kind, in which constructors have
-- the class's name
unfoldable pub class_header : ℕ → Reader Token ClassHeader
class_header n = option class_of (this_word w.Abstract) (word w.Abstract) ~ word w.Class
    ~ plain_identifier
    ~ option class_of (these s.Less) (type_parameters (stage n).nodes.exprs)

unfoldable pub class_over : ℕ → Reader Token Class
class_over n = made₂ a_class (both_by (class_header n) (λ header. class_kind n (class_name header)))

-- ---- enums: enum id { id {, id} [,] } (13 Enums)

abbrev pub to_names : List (Place × Identifier) → List CommaName
to_names [] = []
to_names ((comma, name) ∷ more) = record { comma = comma; name = name } ∷ to_names more

unfoldable pub enum : Reader Token Enum
enum = made₆ (λ word name opening first more closing. record {
  word = word;
  name = name;
  opening = opening;
  first = first;
  more = to_names more.0;
  comma = more.1;
  closing = closing;
})
    (word w.Enum ~ plain_identifier ~ sign s.LeftBrace ~ identifier
    ~ trailed class_of (these s.Comma) names (sign s.Comma) identifier ~ sign s.RightBrace)

-- ---- what is a node of its own, by the number of nodes

abbrev pub node : {A : Type 0} → (ℕ → Reader Token A) → ℕ → Reader Token A
node over zero = nothing
node over (suc n) = over n

-- topLevelDefinition, as deep as what holds it (18 Libraries and Scripts)
unfoldable pub typed_decl : ℕ → Reader Token DeclKind
typed_decl n = by_first class_of (word_code w.Var ∷ word_code w.Final ∷ word_code w.Const ∷ [])
    (mapped d.variables_decl (stage n).nodes.variables)
    (tried (tried (mapped d.accessor_decl (accessor external_or_none n))
    (mapped d.function_decl (function external_or_none n)))
    (mapped d.variables_decl (stage n).nodes.variables))

unfoldable pub decl_kind : ℕ → Reader Token DeclKind
decl_kind n = by_first class_of (word_code w.Abstract ∷ word_code w.Class ∷ [])
    (mapped d.class_decl (node class_over n))
    (by_first class_of (this_word w.Typedef)
    (mapped d.alias_decl (node (λ m. alias (stage m).nodes.exprs) n))
    (by_first class_of (this_word w.Enum) (mapped d.enum_decl (node (λ m. enum) n)) (typed_decl n)))
