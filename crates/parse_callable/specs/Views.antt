-- What contracts see of functions, accessors, operators and members, and their readers with the reader of types beside the others.
use Rattle.std.specs.Prelude.{ℕ, max, Bool, true, false, Option, None}
use Rattle.dart_base.specs.declared.place.Place.{Place}
use Rattle.dart_token.specs.declared.token.Token.{Token}
use Rattle.dart_token.specs.declared.word.Word.TheVariants as w
use Rattle.dart_tree.specs.declared.declaration.AccessorKind.{AccessorKind}
use Rattle.dart_tree.specs.declared.declaration.MemberKind.{MemberKind}
use Rattle.dart_tree.specs.declared.declaration.Modifier.{Modifier}
use Rattle.dart_tree.specs.declared.types.ResultType.{ResultType}
use Rattle.dart_tree.specs.Depth as height
use Rattle.dart_tree.specs.Tree as t
use Rattle.dart_tree.specs.Types as y
use Rattle.dart_tree.specs.Unit as u
use Rattle.dart_tree.specs.UnitView as unit_view
use Rattle.dart_tree.specs.View as view
use Rattle.dart_syntax.specs.Declarations.{an_accessor}
use Rattle.dart_syntax.specs.Statements.{the_function}
use Rattle.dart_syntax.specs.Types.{result_leaves_name}
use Rattle.grammar_laws.specs.Readers.{Reader, checked}
use Rattle.syntax_readers.specs.Combinators.{◌~◌, made₃, made₄, made₆, always_gives, option_where}
use Rattle.syntax_readers.specs.Declarations.{external_or_none, result_before_accessor, accessor_kind, operator_name}
use Rattle.syntax_readers.specs.Parameters.{body}
use Rattle.syntax_readers.specs.Primaries.{ExprReaders}
use Rattle.syntax_readers.specs.Types.{result, result_comes, result_before_name}
use Rattle.token_codes.specs.Leaves.{word, identifier}

-- ---- what comes

-- `external` or nothing where it may stand, and else nothing
abbrev pub external_if : Bool → Reader Token (Option Place)
external_if true = external_or_none
external_if false = always_gives None

-- ---- functions

abbrev pub function_parts : Reader Token y.TypeNode → ExprReaders → Reader Token (Option Place) → Reader Token t.Function
function_parts type here external = made₄ the_function (external
    ~ (checked result_leaves_name (result_before_name type) ~ identifier) ~ here.parameters ~ body here)

-- ---- accessors

-- what an accessor answers with, and which accessor it is
abbrev pub AccessorHead : Type 0
AccessorHead = Option y.ResultType × u.AccessorKind

abbrev pub accessor_head_of : Option ResultType × AccessorKind → AccessorHead
accessor_head_of x = (view.result_option x.0, unit_view.accessor_kind x.1)

abbrev pub accessor_head_height : AccessorHead → ℕ
accessor_head_height x = max (height.result_height x.0) (height.accessor_kind_height x.1)

abbrev pub accessor_head : Reader Token y.TypeNode → Reader Token t.Parameters → Reader Token AccessorHead
accessor_head type parameters = checked result_leaves_name (option_where result_before_accessor (result type))
    ~ accessor_kind parameters

abbrev pub accessor_parts : Reader Token y.TypeNode → ExprReaders → Reader Token (Option Place) → Reader Token u.Accessor
accessor_parts type here external = made₃ an_accessor (external ~ accessor_head type here.parameters ~ body here)

-- ---- operators

abbrev pub operator_parts : Reader Token y.TypeNode → ExprReaders → Reader Token u.OperatorMember
operator_parts type here = made₆ (λ external result word name given body. record {
  external = external;
  result_type = result;
  word = word;
  name = name;
  parameters = given;
  body = body;
})
    (external_or_none ~ option_where result_comes (result type) ~ word w.Operator ~ operator_name ~ here.parameters
    ~ body here)

-- ---- members

-- what stands before a member, and what it declares
abbrev pub modified_of : Modifier × MemberKind → Modifier × u.MemberKind
modified_of x = (x.0, unit_view.member_kind x.1)

abbrev pub modified_height : Modifier × u.MemberKind → ℕ
modified_height x = height.member_kind_height x.1
