use Rattle.std.proofs.Common.{◌≡◌, ◌≢◌, false, length, rules, arith}
use Rattle.machine_form.proofs.Entered.{comes_to}
use Rattle.machine_form.proofs.Switched.{falls_through}
use Rattle.machine_form.proofs.switches.next_case.Goals as goal

pub returns-else-is_empty-clause-meaning : goal.returns-else-is_empty-clause-meaning
returns-else-is_empty-clause-meaning c =
    let some : length c.args.behind.now ≢ 0 = first_of (cc, search rules, grind arith) in
    let not_empty : c.args.is_empty ≡ false = first_of (cc, search rules, grind arith) in
    comes_to c.args.a c.throw_new.new.run c.throw_new.result _ _
    (falls_through c.args.a c.args.run.now c.args.one c.args.is_empty c.args.behind.now some not_empty) c.throw_new.ensures.meaning
