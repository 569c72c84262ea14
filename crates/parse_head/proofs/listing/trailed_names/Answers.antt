use Rattle.std.proofs.Common.{◌-◌, sym, refl, ap, arith, map}
use Rattle.std.proofs.lemmas.Result.{err_from_is_err_and}
use Rattle.dart_token.specs.declared.sign.Sign.TheVariants as s
use Rattle.token_codes.specs.Codes.{names}
use Rattle.token_codes.specs.Leaves.{sign, identifier}
use Rattle.token_cursor.specs.Gives.{same}
use Rattle.parse_loop.proofs.Trailing.{trail_begins, trail_stops, trail_over, trail_fails, trail_item_fails, trail_last, trail_goes_on}
use Rattle.parse_loop.proofs.Alike.{pushed, same_pair}
use Rattle.parse_head.specs.Heads.{trailed_names, trailed_of, pair_of}
use Rattle.parse_head.proofs.Passing.{passes_flat}
use Rattle.parse_head.proofs.Naming.{names_list}
use Rattle.parse_head.proofs.listing.trailed_names.Goals as goal

pub loop-turn-init : goal.loop-turn-init
loop-turn-init c =
    let start = c.args.cursor.now in
    trail_begins names_list names (sign s.Comma) identifier 0 (trailed_names start) tt start _ 0 (c.left-turn-end.result - 0) (same_pair trailed_names start) (ap (map pair_of) c.new-found.ensures.items) refl (omega arith) (omega (arith, c.left-turn-end.ensures))

pub returns-then-not-sees : goal.returns-then-not-sees
returns-then-not-sees c =
    trail_stops names_list names (sign s.Comma) identifier 0 (trailed_names c.args.cursor.now) (map pair_of c.loop-turn.found.items) 0 c.left-turn-end.result c.loop-turn._turn c.loop-turn.cursor c.loop-turn.invariant c.loop-turn-test.true (sym c.if-not-sees.ensures)

pub returns-in_err-comma : goal.returns-in_err-comma
returns-in_err-comma c =
    let p = err_from_is_err_and c.from_residual.result c.from_residual.ensures.1 in
    let start = c.args.cursor.now in
    rw (p.1, p.2) (passes_flat same (sign s.Comma c.loop-turn.cursor) trailed_of (trailed_names start) c.in_err-comma.field-0.0 c.expect.new.self
    (λ end e. trail_fails names_list names (sign s.Comma) identifier 0 (trailed_names start) (map pair_of c.loop-turn.found.items) 0 c.left-turn-end.result c.loop-turn._turn c.loop-turn.cursor end c.loop-turn.invariant c.loop-turn-test.true (sym c.if-not-sees.ensures) e) c.in_err-comma.ensures)

pub returns-then-not-sees_name : goal.returns-then-not-sees_name
returns-then-not-sees_name c =
    trail_last names_list names (sign s.Comma) identifier 0 (trailed_names c.args.cursor.now) (map pair_of c.loop-turn.found.items) 0 c.left-turn-end.result c.loop-turn._turn c.loop-turn.cursor _ c.in_ok-comma.comma c.loop-turn.invariant c.loop-turn-test.true (sym c.if-not-sees.ensures) c.in_ok-comma.ensures (sym c.if-not-sees_name.ensures)

pub returns-in_err-name : goal.returns-in_err-name
returns-in_err-name c =
    let p = err_from_is_err_and c.from_residual-in_err-name.result c.from_residual-in_err-name.ensures.1 in
    let start = c.args.cursor.now in
    rw (p.1, p.2) (passes_flat same (identifier c.expect.new.self) trailed_of (trailed_names start) c.in_err-name.field-0.0 c.identifier.new.self
    (λ end e. trail_item_fails names_list names (sign s.Comma) identifier 0 (trailed_names start) (map pair_of c.loop-turn.found.items) 0 c.left-turn-end.result c.loop-turn._turn c.loop-turn.cursor _ end c.in_ok-comma.comma c.loop-turn.invariant c.loop-turn-test.true (sym c.if-not-sees.ensures) c.in_ok-comma.ensures (sym c.if-not-sees_name.ensures) e) c.in_err-name.ensures)

pub loop-turn-preserved : goal.loop-turn-preserved
loop-turn-preserved c =
    trail_goes_on names_list names (sign s.Comma) identifier 0 (trailed_names c.args.cursor.now) (map pair_of c.loop-turn.found.items) _ 0 0 c.left-turn-end.result c.loop-turn._turn c.loop-turn.cursor _ _ c.in_ok-comma.comma c.in_ok-name.name c.loop-turn.invariant c.loop-turn-test.true (sym c.if-not-sees.ensures) c.in_ok-comma.ensures (sym c.if-not-sees_name.ensures) c.in_ok-name.ensures
    (pushed pair_of c.loop-turn.found.items _ (record { comma = c.in_ok-comma.comma; name = c.in_ok-name.name }) c.in_ok-push.ensures.items) (omega arith) (omega arith)

pub returns : goal.returns
returns c =
    trail_over names_list names (sign s.Comma) identifier 0 (trailed_names c.args.cursor.now) (map pair_of c.loop-turn.found.items) 0 c.left-turn-end.result c.loop-turn._turn c.loop-turn.cursor c.loop-turn.invariant (omega (arith, c.loop-turn-test.false))
