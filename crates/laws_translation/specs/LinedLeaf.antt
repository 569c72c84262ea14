-- Names, types and other leaves of a tree as they are once columns are forgotten.
use Rattle.core_program.specs.Alike.{line}
use Rattle.dart_tree.specs.declared.identifier.Identifier.{Identifier}
use Rattle.dart_tree.specs.declared.identifier.Identifier.TheVariants as i
use Rattle.dart_tree.specs.declared.identifier.DotName.{DotName}
use Rattle.dart_tree.specs.declared.identifier.CommaName.{CommaName}
use Rattle.dart_tree.specs.declared.identifier.Label.{Label}
use Rattle.dart_tree.specs.declared.operator.Operator.{Operator}
use Rattle.dart_tree.specs.declared.operator.Operator.TheVariants as o
use Rattle.dart_tree.specs.declared.expression.Atom.{Atom}
use Rattle.dart_tree.specs.declared.expression.Atom.TheVariants as a
use Rattle.dart_tree.specs.declared.expression.Creation.{Creation}
use Rattle.dart_tree.specs.declared.expression.Creation.TheVariants as n
use Rattle.dart_tree.specs.declared.parameter.Brackets.{Brackets}
use Rattle.dart_tree.specs.declared.parameter.Parentheses.{Parentheses}
use Rattle.dart_tree.specs.declared.parameter.ThisDot.{ThisDot}
use Rattle.dart_tree.specs.declared.statement.Jump.{Jump}
use Rattle.dart_tree.specs.declared.statement.Jump.TheVariants as j
use Rattle.dart_tree.specs.declared.statement.Catch.{Catch}
use Rattle.dart_tree.specs.UnitView.{maybe}
use Rattle.dart_tree.specs.Types as y

abbrev pub identifier : Identifier → Identifier
identifier (i.Name place text) = i.Name (line place) text
identifier (i.Get place) = i.Get (line place)
identifier (i.Set place) = i.Set (line place)

abbrev pub dot_name : DotName → DotName
dot_name x = record { dot = line x.dot; name = identifier x.name }

abbrev pub comma_name : CommaName → CommaName
comma_name x = record { comma = line x.comma; name = identifier x.name }

abbrev pub label : Label → Label
label x = record { name = identifier x.name; colon = line x.colon }

abbrev pub operator : Operator → Operator
operator (o.Sign place sign) = o.Sign (line place) sign
operator (o.ShiftRight first second) = o.ShiftRight (line first) (line second)
operator (o.ShiftRightAssign first second) = o.ShiftRightAssign (line first) (line second)

abbrev pub atom : Atom → Atom
atom (a.This place) = a.This (line place)
atom (a.Null place) = a.Null (line place)
atom (a.True place) = a.True (line place)
atom (a.False place) = a.False (line place)
atom (a.Integer place text) = a.Integer (line place) text
atom (a.Name name) = a.Name (identifier name)

abbrev pub creation : Creation → Creation
creation (n.New place) = n.New (line place)
creation (n.Const place) = n.Const (line place)

abbrev pub brackets : Brackets → Brackets
brackets x = record { comma = maybe line x.comma; kind = x.kind; opening = line x.opening; closing = line x.closing }

abbrev pub parentheses : Parentheses → Parentheses
parentheses x = record { opening = line x.opening; closing = line x.closing }

abbrev pub this_dot : ThisDot → ThisDot
this_dot x = record { this = line x.this; dot = line x.dot }

abbrev pub jump : Jump → Jump
jump (j.Break word name semicolon) = j.Break (line word) (maybe identifier name) (line semicolon)
jump (j.Continue word name semicolon) = j.Continue (line word) (maybe identifier name) (line semicolon)
jump (j.Rethrow word semicolon) = j.Rethrow (line word) (line semicolon)

abbrev pub catch : Catch → Catch
catch x = record {
  word = line x.word;
  opening = line x.opening;
  exception = identifier x.exception;
  trace = maybe comma_name x.trace;
  closing = line x.closing;
}

abbrev mutual
  pub type_node : y.TypeNode → y.TypeNode
  type_node (y.dynamic_type place) = y.dynamic_type (line place)
  type_node (y.named_type name dot given) = y.named_type (identifier name) (maybe dot_name dot) (type_arguments given)

  pub type_arguments : y.TypeArguments → y.TypeArguments
  type_arguments y.no_types = y.no_types
  type_arguments (y.listed_types opening types closing) = y.listed_types (line opening) (type_list types) (line closing)

  pub type_list : y.TypeList → y.TypeList
  type_list y.no_more_types = y.no_more_types
  type_list (y.type_more comma of more) = y.type_more (maybe line comma) (type_node of) (type_list more)

abbrev pub result_type : y.ResultType → y.ResultType
result_type (y.void_result place) = y.void_result (line place)
result_type (y.typed_result of) = y.typed_result (type_node of)

abbrev pub variable_kind : y.VariableKind → y.VariableKind
variable_kind y.no_kind = y.no_kind
variable_kind (y.var_kind place) = y.var_kind (line place)
variable_kind (y.final_kind place of) = y.final_kind (line place) (maybe type_node of)
variable_kind (y.const_kind place of) = y.const_kind (line place) (maybe type_node of)
variable_kind (y.typed_kind of) = y.typed_kind (type_node of)

abbrev pub try_kind : y.TryKind → y.TryKind
try_kind (y.on_part word of names) = y.on_part (line word) (type_node of) (maybe catch names)
try_kind (y.catch_part names) = y.catch_part (catch names)
try_kind (y.finally_part word) = y.finally_part (line word)
