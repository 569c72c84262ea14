use Rattle.std.proofs.Common.{◌-◌, ap, ◌∙◌}
use Rattle.dart_store.specs.Heap.{Heap}
use Rattle.evaluation.specs.State.{answer, ends}
use Rattle.machine_frame.specs.Frames.{seen, below_of, resume, mute}
use Rattle.machine_form.proofs.Stored.{stored_at_once}
use Rattle.machine_form.proofs.Entered.{comes_to, set_class}
use Rattle.machine_form.proofs.operands.set_operands.Goals as goal

pub returns-in-None-clause-meaning : goal.returns-in-None-clause-meaning
returns-in-None-clause-meaning c =
    let r = c.args.run.now in
    comes_to c.args.a c.set_from.new.run c.set_from.result _ _
    (set_class c.args.a r c.args.at c.args.name c.args.object c.args.value c.class_of-class.result c.class_of-class.ensures) c.set_from.ensures.meaning

pub returns-in-Some-clause-meaning : goal.returns-in-Some-clause-meaning
returns-in-Some-clause-meaning c =
    let a = c.args.a in
    let r = c.args.run.now in
    let found = c.in-Some in
    c.answer.ensures.meaning
    ∙ ap (λ (h : Heap). mute (resume a (below_of r) r.frames.items (ends (answer c.args.value) (record (seen r) { left = r.left - 3; heap = h })))) c.set_field.ensures
    ∙ stored_at_once a r c.args.at c.args.name c.class_of-class.result found.index found.r c.args.object c.args.value c.class_of-class.ensures found.ensures.object found.ensures.field
    found.ensures.writes found.ensures.enters.0 found.ensures.enters.1
