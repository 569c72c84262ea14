-- Readers of metadata, parameters, variables and functions, over the nodes that stand inside.
use Rattle.std.specs.Prelude.{ℕ, Bool, true, false, ◌||◌, List, [], ◌∷◌, Option, Some, None}
use Rattle.dart_base.specs.declared.place.Place.{Place}
use Rattle.dart_token.specs.declared.token.Token.{Token}
use Rattle.dart_token.specs.declared.sign.Sign.{Sign}
use Rattle.dart_token.specs.declared.sign.Sign.TheVariants as s
use Rattle.dart_token.specs.declared.word.Word.TheVariants as w
use Rattle.dart_tree.specs.declared.identifier.Identifier.{Identifier}
use Rattle.dart_tree.specs.declared.operator.Operator.TheVariants as o
use Rattle.dart_tree.specs.declared.parameter.BracketKind.{BracketKind}
use Rattle.dart_tree.specs.declared.parameter.BracketKind.TheVariants as b
use Rattle.dart_tree.specs.LeafTokens.{left_of, right_of}
use Rattle.dart_tree.specs.declared.parameter.ThisDot.{ThisDot}
use Rattle.dart_tree.specs.Types.{TypeNode, ResultType, VariableKind, no_kind, var_kind, final_kind, typed_kind, void_result, typed_result}
use Rattle.dart_tree.specs.Tree as t
use Rattle.dart_tree.specs.Tree.{Expr, Value, ParameterKind, Body, Parameters, Variables, Function, ParameterList, Metadata}
use Rattle.grammar_laws.specs.Readers.{Reader, always, mapped, checked, starts, option, many, continued, continued_by, trailed, separated, by_first}
use Rattle.grammar_laws.specs.Halves.{strict}
use Rattle.dart_syntax.specs.Types.{kind_leaves_name, result_leaves_name}
use Rattle.dart_syntax.specs.Statements.{to_metadata, to_annotation, to_required, to_optional, the_variables, the_function}
use Rattle.token_codes.specs.Codes.{class_of, sign_code, word_code, these, this_word}
use Rattle.token_codes.specs.Leaves.{sign, word, identifier, dot_name, this_dot}
use Rattle.syntax_readers.specs.Combinators.{◌~◌, made₃, made₄, option_where, past_name}
use Rattle.syntax_readers.specs.Types.{type_first, type_comes, kind, variables_kind, result_before_name}
use Rattle.syntax_readers.specs.Primaries.{ExprReaders}

-- a value behind this sign, or none
abbrev pub value_behind : Sign → Option (Place × Expr) → Value
value_behind which None = t.omitted
value_behind which (Some (place, e)) = t.given (Some (o.Sign place which)) e

unfoldable pub after_sign : Sign → Reader Token Expr → Reader Token Value
after_sign which expr = mapped (value_behind which) (option class_of (these which)
    (sign which ~ expr))

-- metadata: {@ id {. id} [arguments]} (15 Metadata)
unfoldable pub metadata : ExprReaders → Reader Token Metadata
metadata here = mapped to_metadata (many class_of always (these s.AtSign)
    (mapped to_annotation (sign s.AtSign ~ identifier ~ many class_of always (these s.Dot) dot_name
    ~ option class_of (these s.LeftParenthesis) here.arguments)))

-- functionBody: => expression ; | block (9 Functions)
unfoldable pub arrow_body : Reader Token Expr → Reader Token Body
arrow_body expr = made₃ (λ arrow value semicolon. t.arrow_body arrow value (Some semicolon))
    (sign s.Arrow ~ expr ~ sign s.Semicolon)

unfoldable pub whole_body : ExprReaders → Reader Token Body
whole_body here = by_first class_of (these s.Arrow) (arrow_body (strict here.expr))
    (mapped t.block_body here.block)

-- the same, or none: ;
unfoldable pub body : ExprReaders → Reader Token Body
body here = by_first class_of (these s.Semicolon) (mapped t.no_body (sign s.Semicolon))
    (whole_body here)

-- ---- parameters (9.2 Formal Parameters)

-- what begins a parameter
abbrev pub parameter_first : List ℕ
parameter_first = sign_code s.AtSign ∷ word_code w.Var ∷ word_code w.Final ∷ word_code w.Void
    ∷ word_code w.This ∷ type_first

-- a kind comes before the name
abbrev pub kind_comes : List Token → Bool
kind_comes ts = starts class_of (word_code w.Var ∷ word_code w.Final ∷ []) ts || type_comes ts

abbrev pub or_no_kind : Option VariableKind → VariableKind
or_no_kind None = no_kind
or_no_kind (Some x) = x

-- [finalConstVarOrType], without `const`
unfoldable pub maybe_kind : Reader Token TypeNode → Reader Token VariableKind
maybe_kind type = mapped or_no_kind (option_where kind_comes (past_name (kind type)))

-- what stands before a parameter's name: void, which only a function has, or a kind or none
pub data ParameterType : Type 0 where
  void_type : Place → ParameterType
  kind_or_none : VariableKind → ParameterType

abbrev pub ParameterHead : Type 0
ParameterHead = ParameterType × (Option ThisDot × Identifier)

unfoldable pub parameter_type : Reader Token TypeNode → Reader Token ParameterType
parameter_type type = by_first class_of (this_word w.Void) (mapped void_type (word w.Void))
    (mapped kind_or_none (maybe_kind type))

unfoldable pub parameter_head : Reader Token TypeNode → Reader Token ParameterHead
parameter_head type = parameter_type type ~ option class_of (this_word w.This) this_dot ~ identifier

-- parameters of its own must stand behind void, and may stand behind a type or none
abbrev pub needs_parameters : ParameterHead → Bool
needs_parameters (void_type word, name) = true
needs_parameters (kind_or_none kind, name) = false

abbrev pub may_have_parameters : ParameterHead → Bool
may_have_parameters (kind_or_none (var_kind word), name) = false
may_have_parameters (kind_or_none (final_kind word type), name) = false
may_have_parameters x = true

abbrev pub result_of : ParameterType → Option ResultType
result_of (void_type word) = Some (void_result word)
result_of (kind_or_none (typed_kind type)) = Some (typed_result type)
result_of x = None

abbrev pub kind_of : ParameterType → VariableKind
kind_of (kind_or_none kind) = kind
kind_of x = no_kind

abbrev pub a_parameter : ParameterHead × Option Parameters → ParameterKind
a_parameter ((type, (this, name)), None) = t.plain_parameter (kind_of type) this name
a_parameter ((type, (this, name)), Some parameters) = t.function_parameter
    (result_of type) this name parameters

unfoldable pub parameter_kind : Reader Token TypeNode → Reader Token Parameters →
    Reader Token ParameterKind
parameter_kind type parameters =
    mapped a_parameter (continued class_of needs_parameters may_have_parameters
    (these s.LeftParenthesis) (parameter_head type) parameters)

-- normalFormalParameter: metadata ([finalConstVarOrType] [this .] id | [returnType] [this .] id
-- formalParameterList)
unfoldable pub parameter_over : ExprReaders → Reader Token (Metadata × ParameterKind)
parameter_over inner = metadata inner ~ parameter_kind inner.type inner.parameters

-- the optional parameters, with defaults behind this sign, in their brackets
abbrev pub Optional : Type 0
Optional = BracketKind × (Place × (ParameterList × Place))

unfoldable pub optional_as : BracketKind → Sign → Reader Token (Metadata × ParameterKind) →
    Reader Token Expr → Reader Token Optional
optional_as brackets before parameter expr = mapped (λ x. (brackets, x)) (sign (left_of brackets)
    ~ mapped to_optional
    (separated class_of (these s.Comma) (parameter ~ after_sign before expr) (sign s.Comma))
    ~ sign (right_of brackets))

abbrev pub optional_first : List ℕ
optional_first = sign_code s.LeftBracket ∷ sign_code s.LeftBrace ∷ []

-- optionalPositionalFormalParameters: [ parameter [= expression] {, ..} ] (9.2.2 Optional Formals)
-- namedFormalParameters: { parameter [: expression] {, ..} }
unfoldable pub optional_over : Reader Token (Metadata × ParameterKind) → Reader Token Expr →
    Reader Token Optional
optional_over parameter expr = by_first class_of (these s.LeftBracket)
    (optional_as b.Square s.Assign parameter expr)
    (optional_as b.Curly s.Colon parameter expr)

-- the required parameters, and the comma behind them, which stands exactly where optional ones
-- follow
abbrev pub Required : Type 0
Required = ParameterList × Option Place

abbrev pub required_of : Option ((Metadata × ParameterKind) × (List (Place × (Metadata × ParameterKind)) × Option Place)) →
    Required
required_of None = (t.no_parameters, None)
required_of (Some (first, (more, comma))) = (to_required (first, more), comma)

unfoldable pub required : Reader Token (Metadata × ParameterKind) → Reader Token Required
required parameter = mapped required_of (option class_of parameter_first
    (parameter ~ trailed class_of (these s.Comma) parameter_first (sign s.Comma) parameter))

abbrev pub has_comma : Required → Bool
has_comma (t.no_parameters, comma) = false
has_comma (x, None) = false
has_comma (x, Some comma) = true

-- optional ones may come behind a comma, or where there are no others
abbrev pub allows_optional : Required → Bool
allows_optional (t.no_parameters, comma) = true
allows_optional x = has_comma x

abbrev pub the_parameters : Place → Required × Option Optional → Place → Parameters
the_parameters opening (required, None) closing =
    t.the_parameters opening required.0 None t.no_parameters closing
the_parameters opening (required, Some (brackets, (left, (optional, right)))) closing =
    t.the_parameters opening required.0
    (Some (record {
      comma =
          required.1;
      kind = brackets;
      opening = left;
      closing = right;
    })) optional closing

-- formalParameterList: ( [normalFormalParameters] ) | ( [normalFormalParameters ,]
-- optionalFormalParameters )
unfoldable pub parameters_over : Reader Token (Metadata × ParameterKind) → Reader Token Expr →
    Reader Token Parameters
parameters_over parameter expr = made₃ the_parameters
    (sign s.LeftParenthesis
    ~ continued_by class_of has_comma allows_optional (λ x. optional_first) (required parameter)
    (λ x. optional_over parameter expr)
    ~ sign s.RightParenthesis)

-- ---- variables and functions

-- a further variable: , id [= expression]
unfoldable pub more_variables : Reader Token Expr →
    Reader Token (List (Place × (Identifier × Value)))
more_variables expr = many class_of always (these s.Comma) (sign s.Comma ~ identifier
    ~ after_sign s.Assign expr)

-- variableDeclaration: finalConstVarOrType id [= expression] {, id [= expression]} ; (8 Variables)
unfoldable pub variables_over : Reader Token TypeNode → Reader Token Expr → Reader Token Variables
variables_over type expr = made₄ the_variables ((checked kind_leaves_name (variables_kind type)
    ~ identifier)
    ~ after_sign s.Assign expr ~ more_variables expr ~ sign s.Semicolon)

-- functionSignature: [returnType] id formalParameterList, with this before it and this body behind
-- it (9 Functions)
unfoldable pub function_over : ExprReaders → Reader Token (Option Place) → Reader Token Body →
    Reader Token Function
function_over inner external body = made₄ the_function (external
    ~ (checked result_leaves_name (result_before_name inner.type) ~ identifier) ~ inner.parameters
    ~ body)
