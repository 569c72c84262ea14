-- The lists of parts that a value of the code holds.
use Rattle.std.specs.Prelude.{List, [], ◌∷◌}
use Rattle.dart_tree.specs.declared.expression.Selector.{Selector}
use Rattle.dart_tree.specs.declared.expression.Tail.{Tail}
use Rattle.dart_tree.specs.declared.expression.StringPiece.{StringPiece}
use Rattle.dart_tree.specs.declared.expression.Cascade.{Cascade}
use Rattle.dart_tree.specs.declared.expression.Item.{Item}
use Rattle.dart_tree.specs.declared.expression.Entry.{Entry}
use Rattle.dart_tree.specs.declared.parameter.Parameter.{Parameter}
use Rattle.dart_tree.specs.declared.parameter.Annotation.{Annotation}
use Rattle.dart_tree.specs.declared.statement.Variable.{Variable}
use Rattle.dart_tree.specs.declared.statement.Stmt.{Stmt}
use Rattle.dart_tree.specs.declared.statement.Block.{Block}
use Rattle.dart_tree.specs.declared.statement.SwitchPart.{SwitchPart}
use Rattle.dart_tree.specs.declared.statement.TryPart.{TryPart}
use Rattle.dart_tree.specs.declared.types.TypeArgument.{TypeArgument}
use Rattle.dart_tree.specs.Tree as t
use Rattle.dart_tree.specs.Types as y
use Rattle.dart_tree.specs.View as view

abbrev pub type_list_of : List TypeArgument → y.TypeList
type_list_of [] = y.no_more_types
type_list_of (x ∷ xs) = y.type_more x.comma (view.type_node x.argument) (type_list_of xs)

abbrev pub selectors_of : List Selector → t.Selectors
selectors_of [] = t.no_selectors
selectors_of (x ∷ xs) = t.selector (view.selector x) (selectors_of xs)

abbrev pub tails_of : List Tail → t.Tails
tails_of [] = t.no_tails
tails_of (x ∷ xs) = t.tail x.operator (view.operand x.operand) (tails_of xs)

abbrev pub pieces_of : List StringPiece → t.Pieces
pieces_of [] = t.no_pieces
pieces_of (x ∷ xs) = t.piece x.kind x.place x.text (view.value x.value) (pieces_of xs)

abbrev pub cascades_of : List Cascade → t.Cascades
cascades_of [] = t.no_cascades
cascades_of (x ∷ xs) =
    t.cascade x.dots (selectors_of x.selectors.items) (view.value x.value) (cascades_of xs)

abbrev pub items_of : List Item → t.Items
items_of [] = t.no_items
items_of (x ∷ xs) = t.item x.comma x.label (view.expr x.value) (items_of xs)

abbrev pub entries_of : List Entry → t.Entries
entries_of [] = t.no_entries
entries_of (x ∷ xs) = t.entry x.comma (view.expr x.key) x.colon (view.expr x.value) (entries_of xs)

abbrev pub parameter_list_of : List Parameter → t.ParameterList
parameter_list_of [] = t.no_parameters
parameter_list_of (x ∷ xs) = t.parameter (view.parameter x) (parameter_list_of xs)

abbrev pub metadata_of : List Annotation → t.Metadata
metadata_of [] = t.no_metadata
metadata_of (x ∷ xs) = t.annotation (view.annotation x) (metadata_of xs)

abbrev pub more_variables_of : List Variable → t.MoreVariables
more_variables_of [] = t.no_variables
more_variables_of (x ∷ xs) = t.variable x.comma x.name (view.value x.value) (more_variables_of xs)

abbrev pub stmts_of : List Stmt → t.Stmts
stmts_of [] = t.no_stmts
stmts_of (x ∷ xs) = t.stmt (view.stmt x) (stmts_of xs)

abbrev pub block_of : Block → t.Block
block_of x = t.the_block x.opening (stmts_of x.statements.items) x.closing

abbrev pub switch_parts_of : List SwitchPart → t.SwitchParts
switch_parts_of [] = t.no_switch_parts
switch_parts_of (x ∷ xs) =
    t.switch_part x.labels.items x.word (view.value x.value) x.colon (stmts_of x.statements.items)
    (switch_parts_of xs)

abbrev pub try_parts_of : List TryPart → t.TryParts
try_parts_of [] = t.no_try_parts
try_parts_of (x ∷ xs) = t.try_part (view.try_kind x.kind) (block_of x.block) (try_parts_of xs)
