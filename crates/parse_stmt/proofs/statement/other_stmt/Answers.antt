use Rattle.std.proofs.Common.{sym}
use Rattle.dart_tree.specs.Depth as height
use Rattle.dart_tree.specs.Tree as tree
use Rattle.dart_tree.specs.View as view
use Rattle.grammar_laws.specs.Readers.{mapped}
use Rattle.syntax_readers.specs.Statements.{other_stmt, jump, expression_stmt}
use Rattle.parse_nest.specs.Stages.{nodes_at, closed_at, block_at}
use Rattle.parse_stmt.specs.Views.{compound_at}
use Rattle.parse_stmt.proofs.Stages.{gives_by}
use Rattle.parse_stmt.proofs.Beginning.{block_comes, compound_comes, jump_comes, expression_comes}
use Rattle.parse_stmt.proofs.statement.other_stmt.Goals as goal

pub returns-then-sees : goal.returns-then-sees
returns-then-sees g c =
    let d = c.args.depth in
    let start = c.args.cursor.now in
    gives_by view.stmt height.stmt_height d (other_stmt (nodes_at d) start) (mapped tree.block_stmt (block_at d) start) c.block_stmt.result c.block_stmt.new.cursor
    (block_comes d start (sym c.if-sees.ensures)) c.block_stmt.ensures

pub returns-then-sees_compound : goal.returns-then-sees_compound
returns-then-sees_compound g c =
    let d = c.args.depth in
    let start = c.args.cursor.now in
    gives_by view.stmt height.stmt_height d (other_stmt (nodes_at d) start) (compound_at d start) c.compound.result c.compound.new.cursor
    (compound_comes d start (sym c.if-sees.ensures) (sym c.if-sees_compound.ensures)) c.compound.ensures

pub returns-then-sees_jump : goal.returns-then-sees_jump
returns-then-sees_jump g c =
    let d = c.args.depth in
    let start = c.args.cursor.now in
    gives_by view.stmt height.stmt_height d (other_stmt (nodes_at d) start) (jump (closed_at d) start) c.jump.result c.jump.new.cursor
    (jump_comes d start (sym c.if-sees.ensures) (sym c.if-sees_compound.ensures) (sym c.if-sees_jump.ensures)) c.jump.ensures

pub returns : goal.returns
returns g c =
    let d = c.args.depth in
    let start = c.args.cursor.now in
    gives_by view.stmt height.stmt_height d (other_stmt (nodes_at d) start) (expression_stmt (closed_at d) start) c.expression_stmt.result c.expression_stmt.new.cursor
    (expression_comes d start (sym c.if-sees.ensures) (sym c.if-sees_compound.ensures) (sym c.if-sees_jump.ensures)) c.expression_stmt.ensures
