use Rattle.std.proofs.Common.{◌≡◌, true, rules}
use Rattle.dart_ir.specs.Ty.{ty}
use Rattle.machine_frame.proofs.Itself.{both_dynamic, first_dynamic, second_dynamic, same_fit}
use Rattle.machine_frame.proofs.same.fits.Goals as goal

pub returns-then-is_dynamic-2 : goal.returns-then-is_dynamic-2
returns-then-is_dynamic-2 c = λ e.
    both_dynamic c.args.a.program.now.classes (ty c.args.first.now) (ty c.args.second.now) (c.is_dynamic.ensures c.if-is_dynamic.true)
    (c.is_dynamic-then-is_dynamic.ensures c.if-is_dynamic-2.true)

pub returns-then-is_dynamic : goal.returns-then-is_dynamic
returns-then-is_dynamic c = λ e.
    first_dynamic c.args.a.program.now.classes (ty c.args.first.now) (ty c.args.second.now) (c.is_dynamic.ensures c.if-is_dynamic.true) (c.is_plain_type.ensures e)

pub returns-then-is_dynamic-3 : goal.returns-then-is_dynamic-3
returns-then-is_dynamic-3 c = λ e.
    let plain : c.is_plain_type-2.result ≡ true = first_of (cc, search rules) in
    second_dynamic c.args.a.program.now.classes (ty c.args.first.now) (ty c.args.second.now) (c.is_plain_type-2.ensures plain) (c.is_dynamic-2.ensures c.if-is_dynamic-3.true)

pub returns : goal.returns
returns c = λ e.
    let plain : c.is_plain_type-2.result ≡ true = first_of (cc, search rules) in
    same_fit c.args.a.program.now.classes (ty c.args.first.now) (ty c.args.second.now) (c.is_plain_type-2.ensures plain) (c.are_same.ensures e)
