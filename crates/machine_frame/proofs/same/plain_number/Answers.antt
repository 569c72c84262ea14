use Rattle.std.proofs.Common.{◌≡◌, length, refl, rules, arith}
use Rattle.machine_frame.proofs.Admitted.{no_types, plain_type}
use Rattle.machine_frame.proofs.same.plain_number.Goals as goal

pub returns-then-len-eq0 : goal.returns-then-len-eq0
returns-then-len-eq0 c =
    let form = c.in-Class in
    let none : length form.arguments.items ≡ 0 = first_of (omega (arith, form.arguments.ok), search rules, grind arith) in
    plain_type c.args.of.now form.class form.arguments form.class.0 form.is refl (no_types form.arguments.items none)
