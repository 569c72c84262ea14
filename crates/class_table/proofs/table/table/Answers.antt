use Rattle.std.proofs.Common.{ap, ◌∙◌, get_or, length, subst as transport}
use Rattle.class_table.specs.Rows.{IsTable}
use Rattle.class_table.specs.Members.{AreMembers}
use Rattle.class_table.proofs.Tabled.{valid}
use Rattle.class_table.proofs.table.table.Goals as goal

pub returns-clause-valid : goal.returns-clause-valid
returns-clause-valid c =
    let p = c.args.program.now in
    let numbers = c.in_ok-numbers.ensures ∙ c.deref.ensures.value in
    valid p c.args.headers.now c.requires.program c.requires.graph c.requires.no_fault c.args.rows.now.numbers.items c.args.rows.now.rows.items c.requires.rows (record { classes = c.in_ok-classes.classes; members = c.classes_of.new.members; function = record { 0 = c.number_of.result } })
    (transport (λ z. IsTable p c.args.rows.now.numbers.items z (length z) c.in_ok-classes.classes.items) c.deref-3.ensures.value (transport (λ z. IsTable p z c.deref-3.result.now (length c.deref-3.result.now) c.in_ok-classes.classes.items) (c.deref-2.ensures.value ∙ numbers) c.in_ok-classes.ensures.table))
    (transport (λ z. AreMembers p c.args.rows.now.numbers.items z (length z) c.in_ok-classes.classes.items c.classes_of.new.members.items) c.deref-3.ensures.value (transport (λ z. AreMembers p z c.deref-3.result.now (length c.deref-3.result.now) c.in_ok-classes.classes.items c.classes_of.new.members.items) (c.deref-2.ensures.value ∙ numbers) c.in_ok-classes.ensures.members)) (c.number_of.ensures ∙ ap (λ z. get_or z p.function 0) (c.deref-4.ensures.value ∙ numbers))
