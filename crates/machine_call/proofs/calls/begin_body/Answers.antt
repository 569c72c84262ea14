use Rattle.std.proofs.Common.{◌≡◌, true, false, length, sym, ap, ◌∙◌}
use Rattle.core_program.specs.View as v
use Rattle.core_program.proofs.Views.{view_missing}
use Rattle.machine_frame.specs.Frames.{given_of}
use Rattle.machine_call.proofs.Bodies.{nothing_entered, body_goes}
use Rattle.machine_call.proofs.calls.begin_body.Goals as goal

pub unreachable-requires : goal.unreachable-requires
unreachable-requires c =
    let f = c.args.function.now in
    let none : length f.parameters.items ≡ 0 = sym (ap length c.as_slice.ensures.value) ∙ c.in-None.ensures.cases in
    let e : true ≡ false = sym (nothing_entered (v.part f.body) f.parameters.items (ap v.part c.in-Missing.is ∙ view_missing) none) ∙ c.requires.entered in
    cc

pub returns-in-Given-clause-meaning : goal.returns-in-Given-clause-meaning
returns-in-Given-clause-meaning c =
    let f = c.args.function.now in
    let none : length f.parameters.items ≡ 0 = sym (ap length c.as_slice.ensures.value) ∙ c.in-None.ensures.cases in
    body_goes c.args.a c.args.run.now (given_of c.args.passed c.args.run.now.operands.items) f.parameters.items f.body c.in-Given.core c.deref.result.now none c.in-Given.is c.deref.ensures
