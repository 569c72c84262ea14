use Rattle.std.proofs.Common.{◌≡◌, length, slice_get, sym, ap, ◌∙◌, rules, arith}
use Rattle.core_program.specs.declared.program.CoreProgram.{CoreProgram}
use Rattle.machine_frame.proofs.Admitted.{no_types, superclass_first}
use Rattle.machine_frame.proofs.sites.plain_superclass.Goals as goal

pub returns : goal.returns
returns c =
    let form = c.in-Class in
    let n = c.args.class in
    let none : length form.arguments.items ≡ 0 = first_of (omega (arith, form.arguments.ok), search rules, grind arith) in
    superclass_first (slice_get c.args.a.program.now.classes.classes.items n) c.in-Some.info.now c.in-Some-superclass.superclass form.above form.arguments
    (ap (λ (x : CoreProgram). slice_get x.classes.classes.items n) (sym c.core.ensures) ∙ c.in-Some.ensures)
    c.in-Some-superclass.is form.is (no_types form.arguments.items none)
