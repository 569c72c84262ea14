-- What contracts see of the parts of parameters, metadata, variables and functions, and their readers by the number of nodes
-- above one another.
use Rattle.std.specs.Prelude.{ℕ, suc, max, List, [], ◌∷◌, map, Option, Some, None}
use Rattle.std.specs.Global.{Vec}
use Rattle.dart_base.specs.declared.place.Place.{Place}
use Rattle.dart_token.specs.declared.sign.Sign.{Sign}
use Rattle.dart_token.specs.declared.sign.Sign.TheVariants as s
use Rattle.dart_token.specs.declared.token.Token.{Token}
use Rattle.dart_token.specs.declared.word.Word.TheVariants as w
use Rattle.dart_tree.specs.declared.expression.Arguments.{Arguments}
use Rattle.dart_tree.specs.declared.expression.Value.{Value}
use Rattle.dart_tree.specs.declared.identifier.Identifier.{Identifier}
use Rattle.dart_tree.specs.declared.parameter.Annotation.{Annotation}
use Rattle.dart_tree.specs.declared.parameter.Parameter.{Parameter}
use Rattle.dart_tree.specs.declared.parameter.ParameterKind.{ParameterKind}
use Rattle.dart_tree.specs.declared.statement.Variable.{Variable}
use Rattle.dart_tree.specs.declared.types.ResultType.{ResultType}
use Rattle.dart_tree.specs.Depth as height
use Rattle.dart_tree.specs.Lists as lists
use Rattle.dart_tree.specs.Tree as t
use Rattle.dart_tree.specs.Types as y
use Rattle.dart_tree.specs.View as view
use Rattle.grammar_laws.specs.Readers.{Reader, always, checked, mapped, both, many, option, separated, trailed, continued_by}
use Rattle.dart_syntax.specs.Types.{result_leaves_name}
use Rattle.dart_syntax.specs.Statements.{the_function, more_variables, to_annotation, to_required, to_optional}
use Rattle.syntax_readers.specs.Combinators.{◌~◌, made₄, always_gives}
use Rattle.syntax_readers.specs.Parameters as spec
use Rattle.syntax_readers.specs.Primaries.{ExprReaders}
use Rattle.syntax_readers.specs.Statements.{stage}
use Rattle.syntax_readers.specs.Types.{result_before_name}
use Rattle.token_codes.specs.Codes.{class_of, these, word_code}
use Rattle.token_codes.specs.Leaves.{sign, identifier, dot_name}
use Rattle.parse_parameter.specs.declared.list.Optional.{Optional}
use Rattle.parse_parameter.specs.declared.parameter.BeforeName.{BeforeName}
use Rattle.parse_parameter.specs.declared.parameter.BeforeName.TheVariants as bn
use Rattle.parse_parameter.specs.declared.parameter.ParameterHead.{ParameterHead}
use Rattle.parse_nest.specs.Stages.{exprs_at}

-- ---- what comes

-- the words that begin variables
abbrev pub variables_first : List ℕ
variables_first = word_code w.Var ∷ word_code w.Final ∷ word_code w.Const ∷ []

-- the words that begin a declaration
abbrev pub declaring_first : List ℕ
declaring_first = word_code w.Var ∷ word_code w.Final ∷ word_code w.Const ∷ word_code w.Void ∷ word_code w.Dynamic ∷ []

-- ---- variables and functions

abbrev pub variable_of : Variable → Place × (Identifier × t.Value)
variable_of x = (x.comma, (x.name, view.value x.value))

abbrev pub variable_height : Place × (Identifier × t.Value) → ℕ
variable_height x = height.value_height x.1.1

abbrev pub variables_of : Vec Variable → List (Place × (Identifier × t.Value))
variables_of v = map variable_of v.items

abbrev pub more_height : List (Place × (Identifier × t.Value)) → ℕ
more_height items = height.more_variables_height (more_variables items)

-- variables and local functions, which are nodes
abbrev pub variables_at : ℕ → Reader Token t.Variables
variables_at n = (stage n).nodes.variables

abbrev pub local_function_at : ℕ → Reader Token t.Function
local_function_at n = (stage n).nodes.local_function

-- a local function over its parts, with the reader of its type beside the others
abbrev pub local_parts : Reader Token y.TypeNode → ExprReaders → Reader Token t.Function
local_parts type here = made₄ the_function (always_gives None
    ~ (checked result_leaves_name (result_before_name type) ~ identifier) ~ here.parameters
    ~ spec.whole_body here)

-- what a function answers with, and its name
abbrev pub named_result_of : Option ResultType × Identifier → Option y.ResultType × Identifier
named_result_of x = (view.result_option x.0, x.1)

abbrev pub named_result_height : Option y.ResultType × Identifier → ℕ
named_result_height x = height.result_height x.0

-- ---- metadata

abbrev pub arguments_of : Option Arguments → Option t.Arguments
arguments_of None = None
arguments_of (Some x) = Some (view.arguments x)

abbrev pub arguments_height : Option t.Arguments → ℕ
arguments_height None = 0
arguments_height (Some x) = height.arguments_height x

abbrev pub metadata_of : Vec Annotation → t.Metadata
metadata_of v = lists.metadata_of v.items

-- an annotation
abbrev pub annotation_at : ℕ → Reader Token t.Annotation
annotation_at n = mapped to_annotation (sign s.AtSign ~ identifier ~ many class_of always (these s.Dot) dot_name
    ~ option class_of (these s.LeftParenthesis) (exprs_at n).arguments)

-- ---- a parameter

abbrev pub before_of : BeforeName → spec.ParameterType
before_of (bn.Void word) = spec.void_type word
before_of (bn.Kind kind) = spec.kind_or_none (view.variable_kind kind)

abbrev pub before_height : spec.ParameterType → ℕ
before_height (spec.void_type word) = 0
before_height (spec.kind_or_none kind) = height.kind_height kind

abbrev pub head_of : ParameterHead → spec.ParameterHead
head_of x = (before_of x.before, (x.this_dot, x.name))

abbrev pub head_height : spec.ParameterHead → ℕ
head_height x = before_height x.0

-- a parameter without its default, which is a node
abbrev pub parameter_at : ℕ → Reader Token (t.Metadata × t.ParameterKind)
parameter_at n = (stage n).nodes.parameter

abbrev pub Bare : Type 0
Bare = t.Metadata × t.ParameterKind

abbrev pub bare_of : Vec Annotation × ParameterKind → Bare
bare_of x = (metadata_of x.0, view.parameter_kind x.1)

abbrev pub node_height : Bare → ℕ
node_height x = suc (max (height.metadata_height x.0) (height.parameter_kind_height x.1))

abbrev pub parameters_of : Vec Parameter → t.ParameterList
parameters_of v = lists.parameter_list_of v.items

-- a parameter that may have a default, which stands beside it and not inside it
abbrev pub Default : Type 0
Default = Bare × t.Value

abbrev pub default_of : (Vec Annotation × ParameterKind) × Value → Default
default_of x = (bare_of x.0, view.value x.1)

abbrev pub default_height : Default → ℕ
default_height x = max (node_height x.0) (height.value_height x.1)

abbrev pub comma_default_of : Place × ((Vec Annotation × ParameterKind) × Value) → Place × Default
comma_default_of x = (x.0, default_of x.1)

abbrev pub comma_default_height : Place × Default → ℕ
comma_default_height x = default_height x.1

abbrev pub default_list : Sign → Reader Token Bare → Reader Token t.Expr → Reader Token t.ParameterList
default_list before parameter expr = mapped to_optional
    (separated class_of (these s.Comma) (parameter ~ spec.after_sign before expr) (sign s.Comma))

abbrev pub optional_of : Optional → spec.Optional
optional_of x = (x.kind, (x.opening, (parameters_of x.parameters, x.closing)))

abbrev pub optional_height : spec.Optional → ℕ
optional_height x = height.parameter_list_height x.1.1.0

abbrev pub required_of : Vec Parameter × Option Place → spec.Required
required_of x = (parameters_of x.0, x.1)

abbrev pub required_height : spec.Required → ℕ
required_height x = height.parameter_list_height x.0

abbrev pub some_required : Reader Token Bare → Reader Token spec.Required
some_required parameter = mapped (λ x. (to_required (x.0, x.1.0), x.1.1))
    (both parameter (trailed class_of (these s.Comma) spec.parameter_first (sign s.Comma) parameter))

-- the required parameters and the optional ones
abbrev pub Listed : Type 0
Listed = spec.Required × Option spec.Optional

abbrev pub listed_of : (Vec Parameter × Option Place) × Option Optional → Listed
listed_of (required, None) = (required_of required, None)
listed_of (required, Some optional) = (required_of required, Some (optional_of optional))

abbrev pub listed_height : Listed → ℕ
listed_height (required, None) = required_height required
listed_height (required, Some optional) = max (required_height required) (optional_height optional)

abbrev pub listed : Reader Token Bare → Reader Token t.Expr → Reader Token Listed
listed parameter expr = continued_by class_of spec.has_comma spec.allows_optional (λ x. spec.optional_first)
    (spec.required parameter) (λ x. spec.optional_over parameter expr)
