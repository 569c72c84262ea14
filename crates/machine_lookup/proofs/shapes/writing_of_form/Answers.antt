use Rattle.std.proofs.Common.{◌≡◌, true, rules}
use Rattle.core_program.specs.View as v
use Rattle.core_program.specs.declared.form.Form.TheViews.{out-Core}
use Rattle.machine_lookup.specs.Shapes.{reads}
use Rattle.machine_lookup.proofs.Short.{writing_seen}
use Rattle.machine_lookup.proofs.shapes.writing_of_form.Goals as goal

pub returns : goal.returns
returns c =
    let inner = c.deref.result.now in
    let read : reads (v.form (out-Core inner).form) c.args.var ≡ true = first_of (cc, search rules) in
    let seen = writing_seen c.args.form.now c.in-Unary.one c.in-Unary.operand inner c.args.var c.in-Unary.is c.deref.ensures read in
    first_of (cc, search rules)
