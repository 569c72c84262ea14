use Rattle.std.proofs.Common.{◌≡◌, ◌∙◌, List, length, map, ap, rules}
use Rattle.std.specs.Vec.{with_items}
use Rattle.std.proofs.lemmas.List.{with_items_is}
use Rattle.core_program.specs.ProgramView as pv
use Rattle.dart_ir.specs.declared.class.MemberInfo.{MemberInfo}
use Rattle.table_accessor.specs.Numbered.{all_numbered}
use Rattle.table_accessor.proofs.Stays.{stays_valid}
use Rattle.table_accessor.proofs.number.number_accessors.Goals as goal

pub returns-clause-valid : goal.returns-clause-valid
returns-clause-valid c =
    let old = c.args.classes.members in
    let new = c.number_members.new.members in
    let as_long : length new ≡ old.len = search rules in
    stays_valid c.args.classes (with_items old new) c.deref.result.now c.deref-2.result.now
    (ap (map pv.member) (with_items_is old new as_long) ∙ c.in_ok-number_members.ensures
    ∙ ap (λ (l : List MemberInfo). all_numbered c.deref.result.now c.deref-2.result.now (map pv.member l)) c.deref_mut.ensures.value)
