-- What contracts see of types in lists and before names.
use Rattle.std.specs.Prelude.{ℕ, nat_lt, if◌then◌else◌, List, drop, length, Some, None}
use Rattle.std.specs.Global.{Vec}
use Rattle.dart_base.specs.declared.place.Place.{Place}
use Rattle.dart_token.specs.declared.token.Token.{Token}
use Rattle.dart_tree.specs.declared.types.TypeArgument.{TypeArgument}
use Rattle.dart_tree.specs.declared.types.TypeNode.{TypeNode}
use Rattle.dart_tree.specs.Depth.{type_height, result_height}
use Rattle.dart_tree.specs.Lists.{type_list_of}
use Rattle.dart_tree.specs.Types as y
use Rattle.dart_tree.specs.View as view
use Rattle.grammar_laws.specs.Readers.{starts}
use Rattle.token_codes.specs.Codes.{class_of, names}

abbrev pub view_types : Vec TypeArgument → y.TypeList
view_types v = type_list_of v.items

abbrev pub view_pair : Place × TypeNode → Place × y.TypeNode
view_pair x = (x.0, view.type_node x.1)

abbrev pub pair_height : Place × y.TypeNode → ℕ
pair_height x = type_height x.1

-- a list of one type
abbrev pub only_type : y.TypeNode → y.TypeList
only_type x = y.type_more None x y.no_more_types

abbrev pub one_result_height : y.ResultType → ℕ
one_result_height x = result_height (Some x)

-- the tokens behind an identifier, where one comes
abbrev pub behind_name : List Token → List Token
behind_name ts = if starts class_of names ts then drop 1 ts else ts

-- the place that comes later, of two in one list
abbrev pub later : List Token → List Token → List Token
later d e = if nat_lt (length d) (length e) then d else e
