use Rattle.std.proofs.Common.{◌≡◌, true, rules}
use Rattle.core_program.specs.View as v
use Rattle.core_program.specs.declared.form.Form.TheViews.{out-Core}
use Rattle.machine_lookup.specs.Shapes.{is_this, reads}
use Rattle.machine_lookup.proofs.Short.{native_seen}
use Rattle.machine_lookup.proofs.shapes.native_of_form.Goals as goal

pub returns : goal.returns
returns c =
    let two = c.in-Some in
    let this : is_this (v.form (out-Core two.first.now).form) ≡ true = first_of (cc, search rules) in
    let read : reads (v.form (out-Core two.second.now).form) c.args.var ≡ true = first_of (cc, search rules) in
    native_seen c.args.form.now c.in-Row.job c.in-Row.arguments c.in-Native.id c.args.var two.first.now two.second.now c.in-Row.is c.in-Native.is
    two.ensures.0 two.ensures.1 this read
