use Rattle.std.proofs.Common.{◌≡◌, ◌≤◌, ◌+◌, ◌++◌, ◌∷◌, [], take, List, map, length, Some, refl, sym, ap, subst as transport}
use Rattle.std.proofs.lemmas.List.{take_all}
use Rattle.class_fault.specs.declared.program.Member.{Member}
use Rattle.class_table.specs.Members.{Described, described, declared_in, Adds}
use Rattle.class_table.proofs.Added.{adds_none, adds_more, next_described}
use Rattle.class_table.proofs.members.add_declared.Goals as goal

pub loop-member-init : goal.loop-member-init
loop-member-init c = transport (λ z. Adds c.args.members.now.items c.args.members.now.items z _ c.args.draft.now.row) (sym c.new-ids.ensures.items) (adds_none c.args.members.now.items c.args.draft.now.row)

pub loop-member-preserved : goal.loop-member-preserved
loop-member-preserved c =
    adds_more c.args.members.now.items c.loop-member.members.items c.add.new.members.items c.loop-member.ids.items c.add.new.ids.items _ _ c.args.draft.now.row c.in_ok-info.info (record { 0 = length c.loop-member.members.items })
    c.loop-member.invariant c.in_ok-add.ensures.members c.in_ok-add.ensures.ids refl
    (transport (λ (zs : List Member). map (λ (m : Member). Some (declared_in c.args.draft.now.numbers.now c.args.draft.now.row m)) (take (c.loop-member.member-index + 1) zs) ≡ map (λ (m : Member). Some (declared_in c.args.draft.now.numbers.now c.args.draft.now.row m)) (take c.loop-member.member-index zs) ++ Some (described c.in_ok-info.info) ∷ []) c.deref-member-items.ensures.value
    (next_described (λ (m : Member). Some (declared_in c.args.draft.now.numbers.now c.args.draft.now.row m)) c.deref-member-items.result.now c.loop-member.member-index c.member-item.result c.in_ok-info.info c.loop-member-test.true c.member-item.is (ap (λ (z : Described). Some z) (sym c.in_ok-info.ensures))))
    (ap (λ (z : Described). z.owner) c.in_ok-info.ensures)

pub returns : goal.returns
returns c =
    transport (λ z. Adds c.args.members.now.items c.loop-member.members.items c.loop-member.ids.items (map (λ (m : Member). Some (declared_in c.args.draft.now.numbers.now c.args.draft.now.row m)) z) c.args.draft.now.row)
    (take_all c.loop-member.member-index c.args.declaration.now.members.items (transport (λ (zs : List Member). length zs ≤ c.loop-member.member-index) c.deref-member-items.ensures.value c.loop-member-test.false)) c.loop-member.invariant
