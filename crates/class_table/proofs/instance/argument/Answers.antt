use Rattle.std.proofs.Common.{◌∙◌, ap}
use Rattle.dart_ir.specs.Ty.{ty}
use Rattle.dart_type.proofs.Instances.{argument_below, argument_past}
use Rattle.class_table.proofs.instance.argument.Goals as goal

pub returns-in_ok-try_clone-in-Some : goal.returns-in_ok-try_clone-in-Some
returns-in_ok-try_clone-in-Some c =
    let h = c.in-Some.ensures.lookup in
    c.in_ok-try_clone-in-Some.ensures ∙ ap ty h.1 ∙ argument_below c.args.args.now c.args.i c.in-Some.t.now h.3.0

pub returns-in-None : goal.returns-in-None
returns-in-None c = argument_past c.args.args.now c.args.i c.in-None.ensures.lookup.3
