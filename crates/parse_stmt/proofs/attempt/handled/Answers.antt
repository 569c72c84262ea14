use Rattle.std.proofs.Common.{◌∙◌, sym, ap, arith}
use Rattle.std.proofs.lemmas.Result.{err_from_is_err_and}
use Rattle.dart_tree.specs.Depth as height
use Rattle.dart_tree.specs.Tree as tree
use Rattle.grammar_laws.proofs.Cuts.{gave}
use Rattle.token_cursor.proofs.Passing.{passes}
use Rattle.parse_stmt.specs.Views.{part_of, view_parts, handlers_at, finally_at, handled_at}
use Rattle.parse_stmt.proofs.Handling.{taller, pushed, no_handlers, handlers_alone, no_finally, with_finally}
use Rattle.parse_stmt.proofs.attempt.handled.Goals as goal

pub returns-in_err-found : goal.returns-in_err-found
returns-in_err-found g c =
    let p = err_from_is_err_and c.from_residual.result c.from_residual.ensures.1 in
    let d = c.args.depth in
    let start = c.args.cursor.now in
    rw (p.1, p.2) (passes view_parts height.try_parts_height d (handlers_at d start) view_parts height.try_parts_height d (handled_at d start) c.in_err-found.field-0.0 c.handlers.new.cursor
    (λ end e. no_handlers d start end e) c.in_err-found.ensures)

pub returns-then-not-sees_word : goal.returns-then-not-sees_word
returns-then-not-sees_word g c =
    let r = c.in_ok-found.ensures in
    (handlers_alone c.args.depth c.args.cursor.now (view_parts c.in_ok-found.found) c.handlers.new.cursor r.0 (sym c.if-not-sees_word.ensures), r.1, r.2)

pub returns-in_err-last : goal.returns-in_err-last
returns-in_err-last g c =
    let p = err_from_is_err_and c.from_residual-in_err-last.result c.from_residual-in_err-last.ensures.1 in
    let d = c.args.depth in
    let start = c.args.cursor.now in
    let mid = c.handlers.new.cursor in
    rw (p.1, p.2) (passes part_of height.try_parts_height d (finally_at d mid) view_parts height.try_parts_height d (handled_at d start) c.in_err-last.field-0.0 c.finally_part.new.cursor
    (λ end e. no_finally d start (view_parts c.in_ok-found.found) mid end c.in_ok-found.ensures.0 (sym c.if-not-sees_word.ensures) e) c.in_err-last.ensures)

pub returns : goal.returns
returns g c =
    let r = c.in_ok-found.ensures in
    let q = c.in_ok-last.ensures in
    let end = c.finally_part.new.cursor in
    let is = pushed c.in_ok-found.found.items c.push.new.self.items c.in_ok-last.last c.in_ok-push.ensures.items in
    let k = ap height.try_parts_height is in
    let high = taller (view_parts c.in_ok-found.found) (part_of c.in_ok-last.last) in (
      with_finally c.args.depth c.args.cursor.now (view_parts c.in_ok-found.found) c.handlers.new.cursor (part_of c.in_ok-last.last) end r.0 (sym c.if-not-sees_word.ensures) q.0
          ∙ ap (λ (l : tree.TryParts). gave l end) (sym is),
      omega (arith, k, high, r.1, q.1),
      omega (arith, r.2, q.2),
    )
