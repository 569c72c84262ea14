use Rattle.std.proofs.Common.{◌≡◌, ◌<◌, ◌∷◌, length, ap, rules, arith, subst as transport}
use Rattle.machine_flow.proofs.handlers.+handle.Goals as goal

pub handle-requires : goal.handle-requires
handle-requires t c =
    let e : length c.args.handlers.now ≡ t = c.decreases in
    let first : c.args.handlers.now ≡ c.in-Some.handler.now ∷ c.in-Some.rest.now = first_of (cc, search rules, grind arith) in
    let l = ap length first in
    let m : length c.in-Some.rest.now < length c.args.handlers.now = omega (arith, l) in
    (transport (λ x. length c.in-Some.rest.now < x) e m, c.requires.valid)
