use Rattle.std.proofs.Common.{◌-◌, sym, refl, ap, arith, map, [], ◌∷◌}
use Rattle.std.proofs.lemmas.Result.{err_from_is_err_and}
use Rattle.dart_tree.specs.UnitView as view
use Rattle.token_codes.specs.Codes.{show_code, hide_code}
use Rattle.syntax_readers.specs.Units.{combinators}
use Rattle.parse_loop.proofs.Plain.{begins, stops, over, fails, goes_on}
use Rattle.parse_loop.proofs.Alike.{flat, same_shape, pushed}
use Rattle.parse_head.specs.Heads.{combinator_reader, combinators_of}
use Rattle.parse_head.proofs.Passing.{passes_flat}
use Rattle.parse_head.proofs.directive.combinators.Goals as goal

pub loop-turn-init : goal.loop-turn-init
unfolding combinators
loop-turn-init c =
    let start = c.args.cursor.now in
    begins (flat (show_code ∷ hide_code ∷ []) combinator_reader) 0 (combinators start) tt start _ 0 (c.left-turn-end.result - 0) (same_shape combinators start) (ap (map view.combinator) c.new-found.ensures.items) refl (omega arith) (omega (arith, c.left-turn-end.ensures))

pub returns-then-not-combinator_comes : goal.returns-then-not-combinator_comes
returns-then-not-combinator_comes c =
    stops (flat (show_code ∷ hide_code ∷ []) combinator_reader) 0 (combinators c.args.cursor.now) (map view.combinator c.loop-turn.found.items) 0 c.left-turn-end.result c.loop-turn._turn c.loop-turn.cursor c.loop-turn.invariant c.loop-turn-test.true (sym c.if-not-combinator_comes.ensures)

pub returns-in_err-next : goal.returns-in_err-next
returns-in_err-next c =
    let p = err_from_is_err_and c.from_residual.result c.from_residual.ensures.1 in
    let start = c.args.cursor.now in
    rw (p.1, p.2) (passes_flat view.combinator (combinator_reader c.loop-turn.cursor) combinators_of (combinators start) c.in_err-next.field-0.0 c.combinator.new.cursor
    (λ end e. fails (flat (show_code ∷ hide_code ∷ []) combinator_reader) 0 (combinators start) (map view.combinator c.loop-turn.found.items) 0 c.left-turn-end.result c.loop-turn._turn c.loop-turn.cursor end c.loop-turn.invariant c.loop-turn-test.true (sym c.if-not-combinator_comes.ensures) e) c.in_err-next.ensures)

pub loop-turn-preserved : goal.loop-turn-preserved
loop-turn-preserved c =
    goes_on (flat (show_code ∷ hide_code ∷ []) combinator_reader) 0 (combinators c.args.cursor.now) (map view.combinator c.loop-turn.found.items) _ 0 0 c.left-turn-end.result c.loop-turn._turn c.loop-turn.cursor _ (view.combinator c.in_ok-next.next) c.loop-turn.invariant c.loop-turn-test.true (sym c.if-not-combinator_comes.ensures) c.in_ok-next.ensures
    (pushed view.combinator c.loop-turn.found.items _ c.in_ok-next.next c.in_ok-push.ensures.items) (omega arith) (omega arith)

pub returns : goal.returns
returns c =
    over (flat (show_code ∷ hide_code ∷ []) combinator_reader) 0 (combinators c.args.cursor.now) (map view.combinator c.loop-turn.found.items) 0 c.left-turn-end.result c.loop-turn._turn c.loop-turn.cursor c.loop-turn.invariant (omega (arith, c.loop-turn-test.false))
