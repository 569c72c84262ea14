use Rattle.std.proofs.Common.{map, option_map, length, refl, ap, subst as transport}
use Rattle.std.proofs.lemmas.List.{take_all}
use Rattle.dart_ir.specs.Ty.{tys}
use Rattle.dart_ir.specs.declared.number.MemberId.{MemberId}
use Rattle.class_table.specs.Members.{Described, described_at, descriptions, mixed_in, Adds}
use Rattle.class_table.proofs.Added.{adds_more, next_mapped, mixed_at}
use Rattle.class_table.proofs.members.add_mixed.Goals as goal

pub loop-id-preserved : goal.loop-id-preserved
loop-id-preserved c =
    adds_more c.args.members.now.items c.loop-id.members.items c.add.new.members.items c.loop-id.ids.items c.add.new.ids.items _ _ c.args.row c.in_ok-info.info (record { 0 = length c.loop-id.members.items })
    c.loop-id.invariant c.in_ok-add.ensures.members c.in_ok-add.ensures.ids refl
    (next_mapped (option_map (mixed_in c.args.row (tys c.args.arguments.now))) (λ (m : MemberId). described_at c.args.members.now.items m.0) c.args.mixin.now c.loop-id.id-index (record { 0 = 0 }) c.in_ok-info.info c.loop-id-test.true
    (mixed_at c.args.members.now.items c.loop-id.members.items c.loop-id.ids.items _ c.args.row (tys c.args.arguments.now) c.args.mixin.now c.loop-id.id-index (record { 0 = 0 }) c.index.result.now c.in_ok-info.info c.loop-id.invariant c.requires c.loop-id-test.true c.index.ensures c.in_ok-info.ensures))
    (ap (λ (z : Described). z.owner) c.in_ok-info.ensures)

pub returns : goal.returns
returns c =
    transport (λ z. Adds c.args.members.now.items c.loop-id.members.items c.loop-id.ids.items (map (option_map (mixed_in c.args.row (tys c.args.arguments.now))) (descriptions c.args.members.now.items z)) c.args.row)
    (take_all c.loop-id.id-index c.args.mixin.now c.loop-id-test.false) c.loop-id.invariant
