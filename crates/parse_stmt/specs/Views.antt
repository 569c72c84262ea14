-- What contracts see of the parts of statements that hold others, and their readers by the number of nodes above one another.
use Rattle.std.specs.Prelude.{ℕ, max, List, None}
use Rattle.std.specs.Global.{Vec}
use Rattle.dart_base.specs.declared.place.Place.{Place}
use Rattle.dart_syntax.specs.Expressions.{plain_items}
use Rattle.dart_syntax.specs.Statements.{on_parts}
use Rattle.dart_token.specs.declared.sign.Sign.TheVariants as s
use Rattle.dart_token.specs.declared.token.Token.{Token}
use Rattle.dart_token.specs.declared.word.Word.TheVariants as w
use Rattle.dart_tree.specs.declared.expression.Expr.{Expr}
use Rattle.dart_tree.specs.declared.statement.Stmt.{Stmt}
use Rattle.dart_tree.specs.declared.statement.TryPart.{TryPart}
use Rattle.dart_tree.specs.Depth as height
use Rattle.dart_tree.specs.Lists.{block_of, items_of, try_parts_of}
use Rattle.dart_tree.specs.Tree as t
use Rattle.dart_tree.specs.Types as y
use Rattle.dart_tree.specs.View as view
use Rattle.grammar_laws.specs.Readers.{Reader, mapped, option, separated, by_first, tried}
use Rattle.parse_block.specs.Views.{condition_of}
use Rattle.parse_jump.specs.Views.{catch_at}
use Rattle.parse_nest.specs.Stages.{closed_at, block_at, stmt_at}
use Rattle.parse_parameter.specs.Views.{variables_at}
use Rattle.parse_stmt.specs.declared.branch.IfHead.{IfHead}
use Rattle.parse_stmt.specs.declared.iterate.ForEnd.{ForEnd}
use Rattle.syntax_readers.specs.Combinators.{◌~◌, made₂, made₃, many_where}
use Rattle.syntax_readers.specs.Statements as spec
use Rattle.syntax_readers.specs.Types.{type_reader}
use Rattle.token_codes.specs.Codes.{class_of, these, this_word}
use Rattle.token_codes.specs.Leaves.{sign, word}

-- ---- `if`

abbrev pub if_head_of : IfHead → spec.IfHead
if_head_of x = (x.word, (condition_of x.condition, view.stmt x.first))

abbrev pub if_head_height : spec.IfHead → ℕ
if_head_height x = max (height.expr_height x.1.0.1.0) (height.stmt_height x.1.1)

abbrev pub if_head : Reader Token t.Expr → Reader Token t.Stmt → Reader Token spec.IfHead
if_head expr stmt = word w.If ~ spec.condition_over expr ~ stmt

abbrev pub else_of : Place × Stmt → Place × t.Stmt
else_of x = (x.0, view.stmt x.1)

abbrev pub else_height : Place × t.Stmt → ℕ
else_height x = height.stmt_height x.1

abbrev pub else_part : Reader Token t.Stmt → Reader Token (Place × t.Stmt)
else_part stmt = word w.Else ~ stmt

-- ---- `for`

abbrev pub comma_expr_of : Place × Expr → Place × t.Expr
comma_expr_of x = (x.0, view.expr x.1)

abbrev pub comma_expr_height : Place × t.Expr → ℕ
comma_expr_height x = height.expr_height x.1

-- one expression or more
abbrev pub some_updates : Reader Token t.Expr → Reader Token t.Items
some_updates expr = mapped plain_items (separated class_of (these s.Comma) expr (sign s.Comma))

-- the end of a `for`, from its updates on
abbrev pub ForTail : Type 0
ForTail = t.Items × (Place × t.Stmt)

abbrev pub for_end_of : ForEnd → ForTail
for_end_of x = (items_of x.updates.items, (x.closing, view.stmt x.body))

abbrev pub for_end_height : ForTail → ℕ
for_end_height x = max (height.items_height x.0) (height.stmt_height x.1.1)

abbrev pub for_end : Reader Token t.Expr → Reader Token t.Stmt → Reader Token ForTail
for_end expr stmt = spec.updates_over expr ~ sign s.RightParenthesis ~ stmt

abbrev pub for_loop_at : ℕ → Reader Token t.Loop
for_loop_at n = spec.for_loop_over (closed_at n) (stmt_at n)

abbrev pub for_variables_at : ℕ → Reader Token t.Loop
for_variables_at n = spec.for_variables_over (variables_at n) (closed_at n) (stmt_at n)

abbrev pub for_in_at : ℕ → Reader Token t.Loop
for_in_at n = spec.for_in_over (type_reader n) (closed_at n) (stmt_at n)

-- with a condition and updates
abbrev pub counted_at : ℕ → Reader Token t.Loop
counted_at n = tried (for_variables_at n) (for_loop_at n)

abbrev pub for_at : ℕ → Reader Token t.Loop
for_at n = tried (for_in_at n) (counted_at n)

-- ---- `try`

-- one part, as a list
abbrev pub part_of : TryPart → t.TryParts
part_of x = t.try_part (view.try_kind x.kind) (block_of x.block) t.no_try_parts

abbrev pub view_parts : Vec TryPart → t.TryParts
view_parts v = try_parts_of v.items

abbrev pub catch_part_at : ℕ → Reader Token t.TryParts
catch_part_at n = made₂ (λ clause body. t.try_part (y.catch_part clause) body t.no_try_parts) (catch_at n ~ block_at n)

abbrev pub on_part_at : ℕ → Reader Token t.TryParts
on_part_at n = made₃ (λ on clause body. t.try_part (y.on_part on.0 on.1 clause) body t.no_try_parts)
    (spec.on_type (type_reader n) ~ option class_of (this_word w.Catch) (catch_at n) ~ block_at n)

abbrev pub try_part_at : ℕ → Reader Token t.TryParts
try_part_at n = by_first class_of (this_word w.Catch) (catch_part_at n) (on_part_at n)

-- one part or more
abbrev pub some_parts_at : ℕ → Reader Token (t.TryParts × List t.TryParts)
some_parts_at n = try_part_at n ~ many_where (spec.try_part_comes (type_reader n)) (try_part_at n)

abbrev pub handlers_at : ℕ → Reader Token t.TryParts
handlers_at n = mapped (λ x. on_parts x None) (some_parts_at n)

abbrev pub finally_at : ℕ → Reader Token t.TryParts
finally_at n = made₂ (λ word body. t.try_part (y.finally_part word) body t.no_try_parts) (spec.finally_over (block_at n))

abbrev pub handled_at : ℕ → Reader Token t.TryParts
handled_at n = made₂ on_parts (some_parts_at n ~ option class_of (this_word w.Finally) (spec.finally_over (block_at n)))

abbrev pub try_parts_at : ℕ → Reader Token t.TryParts
try_parts_at n = by_first class_of (this_word w.Finally) (finally_at n) (handled_at n)

abbrev pub try_at : ℕ → Reader Token t.Stmt
try_at n = made₃ t.try_stmt (word w.Try ~ block_at n ~ try_parts_at n)

-- ---- statements that are nodes

abbrev pub compound_at : ℕ → Reader Token t.Stmt
compound_at n = (spec.stage n).nodes.compound
