use Rattle.std.proofs.Common.{◌≡◌, ◌≤◌, length, true, refl, ap, ◌∙◌, rules, arith}
use Rattle.dart_ir.specs.Ty.{ty}
use Rattle.dart_ir.proofs.View.{ty_dynamic}
use Rattle.machine_frame.proofs.Admitted.{is_dynamic, is_dynamic_alone, is_reached, is_reached_alone, no_types, plain_type}
use Rattle.machine_frame.proofs.sites.is_of.Goals as goal

pub returns-in-Dynamic-clause-given : goal.returns-in-Dynamic-clause-given
returns-in-Dynamic-clause-given c = λ e args. is_dynamic c.args.a c.args.class (ty c.args.wanted.now) (ap ty c.in-Dynamic.is ∙ ty_dynamic) (c.is_plain.ensures e) args

pub returns-in-Dynamic-clause-alone : goal.returns-in-Dynamic-clause-alone
returns-in-Dynamic-clause-alone c = λ e. is_dynamic_alone c.args.a c.args.class (ty c.args.wanted.now) (ap ty c.in-Dynamic.is ∙ ty_dynamic) (c.is_plain.ensures e)

pub returns-else-not-is_plain-2-clause-given : goal.returns-else-not-is_plain-2-clause-given
returns-else-not-is_plain-2-clause-given c = λ e args.
    let form = c.in-Class in
    let none : length form.arguments.items ≡ 0 = first_of (omega (arith, form.arguments.ok), search rules, grind arith) in
    let plain : c.is_plain-in-Class.result ≡ true = first_of (cc, search rules) in
    let plain_too : c.is_plain-else-not-is_plain.result ≡ true = first_of (cc, search rules) in
    is_reached c.args.a c.args.class form.other.0 3 (ty c.args.wanted.now)
    (plain_type c.args.wanted.now form.other form.arguments form.other.0 form.is refl (no_types form.arguments.items none)) (let few : 3 ≤ 3 = omega arith in few)
    (c.reaches.ensures e) (c.is_plain-in-Class.ensures plain) (c.is_plain-else-not-is_plain.ensures plain_too) args

pub returns-else-not-is_plain-2-clause-alone : goal.returns-else-not-is_plain-2-clause-alone
returns-else-not-is_plain-2-clause-alone c = λ e.
    let form = c.in-Class in
    let none : length form.arguments.items ≡ 0 = first_of (omega (arith, form.arguments.ok), search rules, grind arith) in
    let plain : c.is_plain-in-Class.result ≡ true = first_of (cc, search rules) in
    let plain_too : c.is_plain-else-not-is_plain.result ≡ true = first_of (cc, search rules) in
    is_reached_alone c.args.a c.args.class form.other.0 3 (ty c.args.wanted.now)
    (plain_type c.args.wanted.now form.other form.arguments form.other.0 form.is refl (no_types form.arguments.items none)) (let few : 3 ≤ 3 = omega arith in few)
    (c.reaches.ensures e) (c.is_plain-in-Class.ensures plain) (c.is_plain-else-not-is_plain.ensures plain_too)
