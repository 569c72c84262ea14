use Rattle.std.proofs.Common.{sym}
use Rattle.dart_tree.specs.Depth as height
use Rattle.dart_tree.specs.View as view
use Rattle.grammar_laws.specs.Readers.{tried}
use Rattle.syntax_readers.specs.Statements.{other_stmt, declaration, unlabelled}
use Rattle.parse_nest.specs.Stages.{nodes_at}
use Rattle.parse_stmt.proofs.Stages.{gives_by}
use Rattle.parse_stmt.proofs.Beginning.{no_declaration, call_comes, declaration_comes}
use Rattle.parse_stmt.proofs.statement.unlabelled.Goals as goal

pub returns-then-not-sees_declaration : goal.returns-then-not-sees_declaration
returns-then-not-sees_declaration g c =
    let d = c.args.depth in
    let start = c.args.cursor.now in
    gives_by view.stmt height.stmt_height d (unlabelled (nodes_at d) start) (other_stmt (nodes_at d) start) c.other_stmt.result c.other_stmt.new.cursor
    (no_declaration d start (sym c.if-not-sees_declaration.ensures)) c.other_stmt.ensures

pub returns-then-calls : goal.returns-then-calls
returns-then-calls g c =
    let d = c.args.depth in
    let start = c.args.cursor.now in
    gives_by view.stmt height.stmt_height d (unlabelled (nodes_at d) start) (tried (other_stmt (nodes_at d)) (declaration (nodes_at d)) start) c.other_or_declaration.result c.other_or_declaration.new.cursor
    (call_comes d start (sym c.if-not-sees_declaration.ensures) (sym c.if-calls.ensures)) c.other_or_declaration.ensures

pub returns : goal.returns
returns g c =
    let d = c.args.depth in
    let start = c.args.cursor.now in
    gives_by view.stmt height.stmt_height d (unlabelled (nodes_at d) start) (tried (declaration (nodes_at d)) (other_stmt (nodes_at d)) start) c.declaration_or_other.result c.declaration_or_other.new.cursor
    (declaration_comes d start (sym c.if-not-sees_declaration.ensures) (sym c.if-calls.ensures)) c.declaration_or_other.ensures
