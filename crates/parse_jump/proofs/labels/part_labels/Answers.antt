use Rattle.std.proofs.Common.{◌-◌, sym, refl, arith}
use Rattle.std.proofs.lemmas.Result.{err_from_is_err_and}
use Rattle.grammar_laws.specs.Readers.{always, many}
use Rattle.token_codes.specs.Codes.{class_of, names}
use Rattle.token_codes.specs.Leaves.{label}
use Rattle.token_cursor.specs.Gives.{same}
use Rattle.parse_loop.proofs.Plain.{begins, stops, over, fails, goes_on}
use Rattle.parse_loop.proofs.Alike.{flat, same_shape}
use Rattle.parse_jump.specs.Views.{labels_of}
use Rattle.parse_jump.proofs.Behind.{passes_flat}
use Rattle.parse_jump.proofs.labels.part_labels.Goals as goal

pub loop-turn-init : goal.loop-turn-init
loop-turn-init c =
    let start = c.args.cursor.now in
    begins (flat names label) 0 (many class_of always names label start) tt start _ 0 (c.left-turn-end.result - 0) (same_shape (many class_of always names label) start) c.new-found.ensures.items refl (omega arith) (omega (arith, c.left-turn-end.ensures))

pub returns-then-not-sees_name : goal.returns-then-not-sees_name
returns-then-not-sees_name c =
    stops (flat names label) 0 (many class_of always names label c.args.cursor.now) c.loop-turn.found.items 0 c.left-turn-end.result c.loop-turn._turn c.loop-turn.cursor c.loop-turn.invariant c.loop-turn-test.true (sym c.if-not-sees_name.ensures)

pub returns-in_err-label : goal.returns-in_err-label
returns-in_err-label c =
    let p = err_from_is_err_and c.from_residual.result c.from_residual.ensures.1 in
    rw (p.1, p.2) (passes_flat same (label c.loop-turn.cursor) labels_of (many class_of always names label c.args.cursor.now) c.in_err-label.field-0.0 c.label.new.self
    (λ end e. fails (flat names label) 0 (many class_of always names label c.args.cursor.now) c.loop-turn.found.items 0 c.left-turn-end.result c.loop-turn._turn c.loop-turn.cursor end c.loop-turn.invariant c.loop-turn-test.true (sym c.if-not-sees_name.ensures) e) c.in_err-label.ensures)

pub loop-turn-preserved : goal.loop-turn-preserved
loop-turn-preserved c =
    goes_on (flat names label) 0 (many class_of always names label c.args.cursor.now) c.loop-turn.found.items _ 0 0 c.left-turn-end.result c.loop-turn._turn c.loop-turn.cursor _ c.in_ok-label.label c.loop-turn.invariant c.loop-turn-test.true (sym c.if-not-sees_name.ensures) c.in_ok-label.ensures
    c.in_ok-push.ensures.items (omega arith) (omega arith)

pub returns : goal.returns
returns c =
    over (flat names label) 0 (many class_of always names label c.args.cursor.now) c.loop-turn.found.items 0 c.left-turn-end.result c.loop-turn._turn c.loop-turn.cursor c.loop-turn.invariant (omega (arith, c.loop-turn-test.false))
