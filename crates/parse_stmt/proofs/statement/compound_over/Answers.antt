use Rattle.std.proofs.Common.{◌+◌, sym}
use Rattle.dart_tree.specs.Depth as height
use Rattle.dart_tree.specs.Tree as tree
use Rattle.dart_tree.specs.View as view
use Rattle.grammar_laws.specs.Readers.{mapped}
use Rattle.syntax_readers.specs.Statements.{stage, compound_over, if_over, while_over, do_over, switch_over}
use Rattle.parse_nest.specs.Stages.{closed_at, stmt_at}
use Rattle.parse_stmt.specs.Views.{for_at, try_at}
use Rattle.parse_stmt.proofs.Stages.{gives_by}
use Rattle.parse_stmt.proofs.Beginning.{if_comes, for_comes, while_comes, do_comes, switch_comes, try_comes}
use Rattle.parse_stmt.proofs.statement.compound_over.Goals as goal

pub returns-then-sees_word : goal.returns-then-sees_word
returns-then-sees_word g c =
    let d = c.args.depth in
    let start = c.args.cursor.now in
    gives_by view.stmt height.stmt_height (d + 1) (compound_over d (stage d) start) (if_over (closed_at d) (stmt_at d) start) c.if_stmt.result c.if_stmt.new.cursor
    (if_comes d start (sym c.if-sees_word.ensures)) c.if_stmt.ensures

pub returns-then-sees_word-2 : goal.returns-then-sees_word-2
returns-then-sees_word-2 g c =
    let d = c.args.depth in
    let start = c.args.cursor.now in
    gives_by view.stmt height.stmt_height (d + 1) (compound_over d (stage d) start) (mapped tree.loop (for_at d) start) c.for_stmt.result c.for_stmt.new.cursor
    (for_comes d start (sym c.if-sees_word.ensures) (sym c.if-sees_word-2.ensures)) c.for_stmt.ensures

pub returns-then-sees_word-3 : goal.returns-then-sees_word-3
returns-then-sees_word-3 g c =
    let d = c.args.depth in
    let start = c.args.cursor.now in
    gives_by view.stmt height.stmt_height (d + 1) (compound_over d (stage d) start) (mapped tree.loop (while_over (closed_at d) (stmt_at d)) start) c.while_stmt.result c.while_stmt.new.cursor
    (while_comes d start (sym c.if-sees_word.ensures) (sym c.if-sees_word-2.ensures) (sym c.if-sees_word-3.ensures)) c.while_stmt.ensures

pub returns-then-sees_word-4 : goal.returns-then-sees_word-4
returns-then-sees_word-4 g c =
    let d = c.args.depth in
    let start = c.args.cursor.now in
    gives_by view.stmt height.stmt_height (d + 1) (compound_over d (stage d) start) (mapped tree.loop (do_over d (closed_at d) (stmt_at d)) start) c.do_stmt.result c.do_stmt.new.cursor
    (do_comes d start (sym c.if-sees_word.ensures) (sym c.if-sees_word-2.ensures) (sym c.if-sees_word-3.ensures) (sym c.if-sees_word-4.ensures)) c.do_stmt.ensures

pub returns-then-sees_word-5 : goal.returns-then-sees_word-5
returns-then-sees_word-5 g c =
    let d = c.args.depth in
    let start = c.args.cursor.now in
    gives_by view.stmt height.stmt_height (d + 1) (compound_over d (stage d) start) (switch_over d (closed_at d) (stmt_at d) start) c.switch_stmt.result c.switch_stmt.new.cursor
    (switch_comes d start (sym c.if-sees_word.ensures) (sym c.if-sees_word-2.ensures) (sym c.if-sees_word-3.ensures) (sym c.if-sees_word-4.ensures) (sym c.if-sees_word-5.ensures)) c.switch_stmt.ensures

pub returns : goal.returns
returns g c =
    let d = c.args.depth in
    let start = c.args.cursor.now in
    gives_by view.stmt height.stmt_height (d + 1) (compound_over d (stage d) start) (try_at d start) c.try_stmt.result c.try_stmt.new.cursor
    (try_comes d start (sym c.if-sees_word.ensures) (sym c.if-sees_word-2.ensures) (sym c.if-sees_word-3.ensures) (sym c.if-sees_word-4.ensures) (sym c.if-sees_word-5.ensures)) c.try_stmt.ensures
