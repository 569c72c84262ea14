use Rattle.std.proofs.Common.{List}
use Rattle.dart_base.specs.declared.place.Place.{Place}
use Rattle.dart_tree.specs.declared.statement.Stmt.{Stmt}
use Rattle.dart_tree.specs.Lists.{stmts_of}
use Rattle.dart_tree.specs.View as view
use Rattle.scope_declared.specs.Last.{stmt_last, stmts_last}
use Rattle.scope_declared.proofs.Ending.{more_stmts, none_stmts, turn, over}
use Rattle.scope_declared.proofs.last.stmts_last.Goals as goal

pub loop-statement-preserved : goal.loop-statement-preserved
loop-statement-preserved c =
    turn (λ (before : Place) (xs : List Stmt). stmts_last before (stmts_of xs)) (λ (x : Stmt). stmt_last (view.stmt x)) more_stmts c.args.all.now.items c.deref-statement-items.result.now c.loop-statement.statement-index c.statement-item.result c.loop-statement.last _ _ c.deref-statement-items.ensures.value c.loop-statement-test.true c.statement-item.is c.loop-statement.invariant
    (c.stmt_last-last.ensures)

pub returns : goal.returns
returns c = over (λ (before : Place) (xs : List Stmt). stmts_last before (stmts_of xs)) none_stmts c.args.all.now.items c.deref-statement-items.result.now c.loop-statement.statement-index c.loop-statement.last _ c.deref-statement-items.ensures.value c.loop-statement-test.false c.loop-statement.invariant
