use Rattle.std.proofs.Common.{◌==◌, ◌&&◌, sym, ap, ◌∙◌}
use Rattle.std.proofs.lemmas.Bool.{eq-eqb, ne_eqb}
use Rattle.machine_loop.proofs.Operated.{equal_is}
use Rattle.machine_loop.proofs.operators.equal_integers.Goals as goal

pub returns-then-high-other_high : goal.returns-then-high-other_high
returns-then-high-other_high c =
    let x = c.in-Int in
    let y = c.in-Int-y in
    equal_is c.args.x c.args.y x.high x.low y.other_high y.other_low _ x.is y.is
    (ap (λ b. b && (x.low == y.other_low)) (eq-eqb x.high y.other_high c.if-high-other_high.true))

pub returns-else-high-other_high : goal.returns-else-high-other_high
returns-else-high-other_high c =
    let x = c.in-Int in
    let y = c.in-Int-y in
    let differ = ne_eqb x.high y.other_high c.if-high-other_high.false in
    equal_is c.args.x c.args.y x.high x.low y.other_high y.other_low _ x.is y.is (ap (λ b. b && (x.low == y.other_low)) differ ∙ sym differ)
