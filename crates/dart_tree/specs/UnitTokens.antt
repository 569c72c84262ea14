-- The tokens of units and declarations, in order, with their places.
use Rattle.std.specs.Prelude.{ℕ, List, [], ◌∷◌, ◌++◌, flat_map, codes, Option, None, Some}
use Rattle.dart_base.specs.declared.place.Place.{Place}
use Rattle.dart_token.specs.declared.token.Token.{Token}
use Rattle.dart_token.specs.declared.token.TokenKind.TheVariants as tk
use Rattle.dart_token.specs.declared.sign.Sign.TheVariants as s
use Rattle.dart_token.specs.declared.word.Word.{Word}
use Rattle.dart_token.specs.declared.word.Word.TheVariants as w
use Rattle.dart_tree.specs.declared.identifier.CommaName.{CommaName}
use Rattle.dart_tree.specs.declared.declaration.Modifier.{Modifier}
use Rattle.dart_tree.specs.declared.declaration.Modifier.TheVariants as m
use Rattle.dart_tree.specs.declared.declaration.OperatorName.{OperatorName}
use Rattle.dart_tree.specs.declared.declaration.OperatorName.TheVariants as o
use Rattle.dart_tree.specs.declared.declaration.ConstructorName.{ConstructorName}
use Rattle.dart_tree.specs.declared.unit.Prefix.{Prefix}
use Rattle.dart_tree.specs.declared.unit.CombinatorKind.{CombinatorKind}
use Rattle.dart_tree.specs.declared.unit.CombinatorKind.TheVariants as k
use Rattle.dart_tree.specs.LeafTokens.{sign_at, word_at, maybe_sign, maybe_word, identifier_tokens}
use Rattle.dart_tree.specs.LeafTokens.{maybe_dot_name, dot_names_tokens, maybe_this, type_tokens}
use Rattle.dart_tree.specs.LeafTokens.{type_list_tokens, maybe_result}
use Rattle.dart_tree.specs.Tokens.{metadata_tokens, parameters_tokens, arguments_tokens}
use Rattle.dart_tree.specs.Tokens.{body_tokens, function_tokens, variables_tokens, operand_tokens}
use Rattle.dart_tree.specs.Tokens.{cascades_tokens, pieces_tokens}
use Rattle.dart_tree.specs.Unit as u

-- of what may be missing
abbrev pub tokens_if : {A : Type 0} → (A → List Token) → Option A → List Token
tokens_if f None = []
tokens_if f (Some x) = f x

-- a word of this place only: `of`, `show` and `hide` are identifiers elsewhere
abbrev pub contextual : Place → List ℕ → Token
contextual place text = record { kind = tk.Identifier; place = place; lexeme = text }

abbrev pub of_text : List ℕ
of_text = codes "of"

abbrev pub show_text : List ℕ
show_text = codes "show"

abbrev pub hide_text : List ℕ
hide_text = codes "hide"

abbrev pub bound_tokens : u.Bound → List Token
bound_tokens x = word_at x.word w.Extends ∷ type_tokens x.bound

abbrev pub type_parameter_tokens : u.TypeParameter → List Token
type_parameter_tokens x =
    maybe_sign x.comma s.Comma ++ (metadata_tokens x.metadata ++
    (identifier_tokens x.name ++ tokens_if bound_tokens x.bound))

abbrev pub type_parameters_tokens : u.TypeParameters → List Token
type_parameters_tokens x =
    sign_at x.opening s.Less ∷ (flat_map type_parameter_tokens x.items ++
    sign_at x.closing s.Greater ∷ [])

-- `with` or `implements` and types
abbrev pub clause_tokens : Word → u.TypeClause → List Token
clause_tokens which x = word_at x.word which ∷ type_list_tokens x.types

abbrev pub superclass_tokens : u.Superclass → List Token
superclass_tokens x =
    word_at x.word w.Extends ∷ (type_tokens x.superclass ++
    tokens_if (clause_tokens w.With) x.mixins)

abbrev pub constructor_name_tokens : ConstructorName → List Token
constructor_name_tokens x = identifier_tokens x.class ++ maybe_dot_name x.name

abbrev pub init_kind_tokens : u.InitKind → List Token
init_kind_tokens (u.super_init place name given) =
    word_at place w.Super ∷ (maybe_dot_name name ++ arguments_tokens given)
init_kind_tokens (u.field_init this_dot name equals first cascades) =
    maybe_this this_dot ++ (identifier_tokens name ++ sign_at equals s.Assign ∷
    (operand_tokens first ++ cascades_tokens cascades))

abbrev pub init_tokens : u.Init → List Token
init_tokens x = maybe_sign x.comma s.Comma ++ init_kind_tokens x.kind

abbrev pub initializers_tokens : u.Initializers → List Token
initializers_tokens x = sign_at x.colon s.Colon ∷ flat_map init_tokens x.items

abbrev pub constructor_tokens : u.Constructor → List Token
constructor_tokens (u.generative constant name given inits body) =
    maybe_word constant w.Const ++ (constructor_name_tokens name ++
    (parameters_tokens given ++ (tokens_if initializers_tokens inits ++ body_tokens body)))
constructor_tokens (u.redirecting name given colon this other handed semicolon) =
    constructor_name_tokens name ++ (parameters_tokens given ++ sign_at colon s.Colon ∷
    word_at this w.This ∷ (maybe_dot_name other ++ (arguments_tokens handed ++
    sign_at semicolon s.Semicolon ∷ [])))
constructor_tokens (u.factory external word name given body) =
    maybe_word external w.External ++ word_at word w.Factory ∷
    (constructor_name_tokens name ++ (parameters_tokens given ++ body_tokens body))
constructor_tokens (u.redirecting_factory external word name given equals target other semicolon) =
    maybe_word external w.External ++ word_at word w.Factory ∷
    (constructor_name_tokens name ++ (parameters_tokens given ++ sign_at equals s.Assign ∷
    (type_tokens target ++ (maybe_dot_name other ++ sign_at semicolon s.Semicolon ∷ []))))

abbrev pub accessor_kind_tokens : u.AccessorKind → List Token
accessor_kind_tokens (u.getter place name) = word_at place w.Get ∷ identifier_tokens name
accessor_kind_tokens (u.setter place name given) =
    word_at place w.Set ∷ (identifier_tokens name ++ parameters_tokens given)

abbrev pub accessor_tokens : u.Accessor → List Token
accessor_tokens x =
    maybe_word x.external w.External ++ (maybe_result x.result_type ++
    (accessor_kind_tokens x.kind ++ body_tokens x.body))

abbrev pub operator_name_tokens : OperatorName → List Token
operator_name_tokens (o.Sign place sign) = sign_at place sign ∷ []
operator_name_tokens (o.ShiftRight first second) =
    sign_at first s.Greater ∷ sign_at second s.Greater ∷ []
operator_name_tokens (o.Index opening closing) =
    sign_at opening s.LeftBracket ∷ sign_at closing s.RightBracket ∷ []
operator_name_tokens (o.IndexAssign opening closing equals) =
    sign_at opening s.LeftBracket ∷ sign_at closing s.RightBracket ∷ sign_at equals s.Assign ∷ []

abbrev pub operator_member_tokens : u.OperatorMember → List Token
operator_member_tokens x =
    maybe_word x.external w.External ++ (maybe_result x.result_type ++ word_at x.word w.Operator ∷
    (operator_name_tokens x.name ++ (parameters_tokens x.parameters ++ body_tokens x.body)))

abbrev pub modifier_tokens : Modifier → List Token
modifier_tokens m.Omitted = []
modifier_tokens (m.Static place) = word_at place w.Static ∷ []
modifier_tokens (m.ExternalStatic external place) =
    word_at external w.External ∷ word_at place w.Static ∷ []

abbrev pub member_kind_tokens : u.MemberKind → List Token
member_kind_tokens (u.constructor_member x) = constructor_tokens x
member_kind_tokens (u.function_member x) = function_tokens x
member_kind_tokens (u.accessor_member x) = accessor_tokens x
member_kind_tokens (u.variables_member x) = variables_tokens x
member_kind_tokens (u.operator_member x) = operator_member_tokens x

abbrev pub member_tokens : u.Member → List Token
member_tokens x =
    metadata_tokens x.metadata ++ (modifier_tokens x.modifier ++ member_kind_tokens x.kind)

abbrev pub class_kind_tokens : u.ClassKind → List Token
class_kind_tokens (u.declared_class above interfaces opening members closing) =
    tokens_if superclass_tokens above ++ (tokens_if (clause_tokens w.Implements) interfaces ++
    sign_at opening s.LeftBrace ∷ (flat_map member_tokens members ++ sign_at closing s.RightBrace ∷
    []))
class_kind_tokens (u.mixed_class equals above mixins interfaces semicolon) =
    sign_at equals s.Assign ∷ (type_tokens above ++ (clause_tokens w.With mixins ++
    (tokens_if (clause_tokens w.Implements) interfaces ++ sign_at semicolon s.Semicolon ∷ [])))

abbrev pub class_tokens : u.Class → List Token
class_tokens x =
    maybe_word x.abstracted w.Abstract ++ word_at x.word w.Class ∷
    (identifier_tokens x.name ++ (tokens_if type_parameters_tokens x.parameters ++
    class_kind_tokens x.kind))

abbrev pub alias_tokens : u.Alias → List Token
alias_tokens x =
    word_at x.word w.Typedef ∷ (maybe_result x.result_type ++
    (identifier_tokens x.name ++ (tokens_if type_parameters_tokens x.type_parameters ++
    (parameters_tokens x.parameters ++ sign_at x.semicolon s.Semicolon ∷ []))))

abbrev pub comma_name_tokens : CommaName → List Token
comma_name_tokens x = sign_at x.comma s.Comma ∷ identifier_tokens x.name

abbrev pub enum_tokens : u.Enum → List Token
enum_tokens x =
    word_at x.word w.Enum ∷ (identifier_tokens x.name ++ sign_at x.opening s.LeftBrace ∷
    (identifier_tokens x.first ++ (flat_map comma_name_tokens x.more ++
    (maybe_sign x.comma s.Comma ++ sign_at x.closing s.RightBrace ∷ []))))

abbrev pub decl_kind_tokens : u.DeclKind → List Token
decl_kind_tokens (u.class_decl x) = class_tokens x
decl_kind_tokens (u.alias_decl x) = alias_tokens x
decl_kind_tokens (u.function_decl x) = function_tokens x
decl_kind_tokens (u.accessor_decl x) = accessor_tokens x
decl_kind_tokens (u.variables_decl x) = variables_tokens x
decl_kind_tokens (u.enum_decl x) = enum_tokens x

abbrev pub decl_tokens : u.Decl → List Token
decl_tokens x = metadata_tokens x.metadata ++ decl_kind_tokens x.kind

abbrev pub combinator_text : CombinatorKind → List ℕ
combinator_text k.Show = show_text
combinator_text k.Hide = hide_text

abbrev pub combinator_tokens : u.Combinator → List Token
combinator_tokens x =
    contextual x.word (combinator_text x.kind) ∷ (identifier_tokens x.first ++
    flat_map comma_name_tokens x.more)

abbrev pub prefix_tokens : Prefix → List Token
prefix_tokens x = word_at x.word w.As ∷ identifier_tokens x.name

abbrev pub directive_kind_tokens : u.DirectiveKind → List Token
directive_kind_tokens (u.part_of_directive part place name more) =
    word_at part w.Part ∷ contextual place of_text ∷ (identifier_tokens name ++
    dot_names_tokens more)
directive_kind_tokens (u.library_directive word name more) =
    word_at word w.Library ∷ (identifier_tokens name ++ dot_names_tokens more)
directive_kind_tokens (u.import_directive word uri prefix combinators) =
    word_at word w.Import ∷ (pieces_tokens uri ++ (tokens_if prefix_tokens prefix ++
    flat_map combinator_tokens combinators))
directive_kind_tokens (u.export_directive word uri combinators) =
    word_at word w.Export ∷ (pieces_tokens uri ++ flat_map combinator_tokens combinators)
directive_kind_tokens (u.part_directive word uri) = word_at word w.Part ∷ pieces_tokens uri

abbrev pub directive_tokens : u.Directive → List Token
directive_tokens x =
    metadata_tokens x.metadata ++ (directive_kind_tokens x.kind ++ sign_at x.semicolon s.Semicolon ∷
    [])

abbrev pub unit_tokens : u.UnitTree → List Token
unit_tokens x = flat_map directive_tokens x.directives ++ flat_map decl_tokens x.declarations
