use Rattle.std.proofs.Common.{◌-◌, sym, refl, arith}
use Rattle.std.proofs.lemmas.Result.{err_from_is_err_and}
use Rattle.dart_token.specs.declared.sign.Sign.TheVariants as s
use Rattle.token_codes.specs.Codes.{these}
use Rattle.token_codes.specs.Leaves.{dot_name}
use Rattle.token_cursor.specs.Gives.{same}
use Rattle.parse_loop.proofs.Plain.{begins, stops, over, fails, goes_on}
use Rattle.parse_loop.proofs.Alike.{flat, same_shape}
use Rattle.parse_head.specs.Heads.{dot_names, items_of}
use Rattle.parse_head.proofs.Passing.{passes_flat}
use Rattle.parse_head.proofs.listing.dot_names.Goals as goal

pub loop-turn-init : goal.loop-turn-init
loop-turn-init c =
    let start = c.args.cursor.now in
    begins (flat (these s.Dot) dot_name) 0 (dot_names start) tt start _ 0 (c.left-turn-end.result - 0) (same_shape dot_names start) c.new-found.ensures.items refl (omega arith) (omega (arith, c.left-turn-end.ensures))

pub returns-then-not-sees : goal.returns-then-not-sees
returns-then-not-sees c =
    stops (flat (these s.Dot) dot_name) 0 (dot_names c.args.cursor.now) c.loop-turn.found.items 0 c.left-turn-end.result c.loop-turn._turn c.loop-turn.cursor c.loop-turn.invariant c.loop-turn-test.true (sym c.if-not-sees.ensures)

pub returns-in_err-name : goal.returns-in_err-name
returns-in_err-name c =
    let p = err_from_is_err_and c.from_residual.result c.from_residual.ensures.1 in
    let start = c.args.cursor.now in
    rw (p.1, p.2) (passes_flat same (dot_name c.loop-turn.cursor) items_of (dot_names start) c.in_err-name.field-0.0 c.dot_name.new.self
    (λ end e. fails (flat (these s.Dot) dot_name) 0 (dot_names start) c.loop-turn.found.items 0 c.left-turn-end.result c.loop-turn._turn c.loop-turn.cursor end c.loop-turn.invariant c.loop-turn-test.true (sym c.if-not-sees.ensures) e) c.in_err-name.ensures)

pub loop-turn-preserved : goal.loop-turn-preserved
loop-turn-preserved c =
    goes_on (flat (these s.Dot) dot_name) 0 (dot_names c.args.cursor.now) c.loop-turn.found.items _ 0 0 c.left-turn-end.result c.loop-turn._turn c.loop-turn.cursor _ c.in_ok-name.name c.loop-turn.invariant c.loop-turn-test.true (sym c.if-not-sees.ensures) c.in_ok-name.ensures
    c.in_ok-push.ensures.items (omega arith) (omega arith)

pub returns : goal.returns
returns c =
    over (flat (these s.Dot) dot_name) 0 (dot_names c.args.cursor.now) c.loop-turn.found.items 0 c.left-turn-end.result c.loop-turn._turn c.loop-turn.cursor c.loop-turn.invariant (omega (arith, c.loop-turn-test.false))
