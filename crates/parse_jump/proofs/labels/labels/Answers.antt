use Rattle.std.proofs.Common.{◌≡◌, ◌-◌, ℕ, [], length, sym, refl, ap, arith}
use Rattle.std.proofs.lemmas.Result.{err_from_is_err_and}
use Rattle.token_codes.specs.Leaves.{label}
use Rattle.token_cursor.specs.Gives.{same}
use Rattle.syntax_readers.specs.Combinators.{many_where, many_where_turns}
use Rattle.syntax_readers.specs.Statements.{label_comes}
use Rattle.parse_loop.proofs.Alike.{flat, same_shape}
use Rattle.parse_jump.specs.Views.{labels_of}
use Rattle.parse_jump.proofs.Behind.{passes_flat}
use Rattle.parse_jump.proofs.Loops.{begins, ended, stopped, goes_on, where_over, where_stops, where_fails, where_more}
use Rattle.parse_jump.proofs.labels.labels.Goals as goal

pub loop-turn-init : goal.loop-turn-init
loop-turn-init c =
    let start = c.args.cursor.now in
    let all : c.left-turn-end.result - 0 ≡ length start = omega (arith, c.left-turn-end.ensures) in
    begins (flat [] label) 0 (many_where label_comes label start) tt (many_where label_comes label) start _ 0 _ (same_shape (many_where label_comes label) start) (ap (λ (k : ℕ). many_where_turns label_comes label k start) all) c.new-found.ensures.items refl (omega arith)

pub returns-then-not-label_comes : goal.returns-then-not-label_comes
returns-then-not-label_comes c =
    ended (flat [] label) 0 (many_where label_comes label c.args.cursor.now) c.loop-turn.found.items 0 _ c.loop-turn.cursor c.loop-turn.invariant
    (where_stops label_comes label c.left-turn-end.result c.loop-turn._turn c.loop-turn.cursor c.loop-turn-test.true (sym c.if-not-label_comes.ensures))

pub returns-in_err-label : goal.returns-in_err-label
returns-in_err-label c =
    let p = err_from_is_err_and c.from_residual.result c.from_residual.ensures.1 in
    rw (p.1, p.2) (passes_flat same (label c.loop-turn.cursor) labels_of (many_where label_comes label c.args.cursor.now) c.in_err-label.field-0.0 c.label.new.self
    (λ end e. stopped (flat [] label) 0 (many_where label_comes label c.args.cursor.now) c.loop-turn.found.items 0 _ end c.loop-turn.invariant
    (where_fails label_comes label c.left-turn-end.result c.loop-turn._turn c.loop-turn.cursor end c.loop-turn-test.true (sym c.if-not-label_comes.ensures) e)) c.in_err-label.ensures)

pub loop-turn-preserved : goal.loop-turn-preserved
loop-turn-preserved c =
    goes_on (flat [] label) 0 (many_where label_comes label c.args.cursor.now) c.loop-turn.found.items _ 0 0 _ _ c.in_ok-label.label c.loop-turn.invariant
    (where_more label_comes label c.left-turn-end.result c.loop-turn._turn c.loop-turn.cursor _ c.in_ok-label.label c.loop-turn-test.true (sym c.if-not-label_comes.ensures) c.in_ok-label.ensures)
    c.in_ok-push.ensures.items (omega arith) (omega arith)

pub returns : goal.returns
returns c =
    ended (flat [] label) 0 (many_where label_comes label c.args.cursor.now) c.loop-turn.found.items 0 _ c.loop-turn.cursor c.loop-turn.invariant
    (where_over label_comes label c.left-turn-end.result c.loop-turn._turn c.loop-turn.cursor (omega (arith, c.loop-turn-test.false)))
