use Rattle.std.proofs.Common.{◌<◌, refl, sym, length, slice_get, arith, subst as transport}
use Rattle.std.proofs.lemmas.Option.{slice_get_read}
use Rattle.class_order.specs.Rows.{row_at}
use Rattle.class_table.specs.Rows.{IsRow}
use Rattle.class_table.specs.Members.{row_members, Adds}
use Rattle.class_table.proofs.Tabled.{table_more}
use Rattle.class_table.proofs.Membered.{members_more}
use Rattle.class_table.proofs.table.classes_of.Goals as goal

pub loop-c-preserved : goal.loop-c-preserved
loop-c-preserved c =
    let p = c.args.program.now in
    let rs = c.args.rows.now in
    let n = c.loop-c.c in
    let l : n < length rs = omega (arith, c.loop-c-test.true, c.loop-c.auto.c-end) in
    let m = c.requires.rows.listed n l in
    let s = c.requires.graph.size in
    let k : (row_at rs n).class < length p.declarations.items = omega (arith, m, s) in
    let at = slice_get_read p.declarations.items (length p.declarations.items) (row_at rs n).class c.index-declaration.result.now refl k c.index-declaration.ensures in
    record {
      table = table_more p c.args.numbers.now rs n c.loop-c.classes.items c.push.new.self.items c.in_ok-class_of.field-0 c.index-declaration.result.now c.loop-c.invariant.table c.in_ok-push.ensures.items at
          (transport (λ z. IsRow p c.args.numbers.now z (row_at rs n).class c.index-declaration.result.now (row_at rs n).step n c.in_ok-class_of.field-0) c.deref-in-loop-c.ensures.value
          (transport (λ z. IsRow p c.args.numbers.now c.deref-in-loop-c.result.now (row_at rs n).class c.index-declaration.result.now (row_at rs n).step z c.in_ok-class_of.field-0) c.in_ok-narrow.ensures c.in_ok-class_of.ensures.row));
      members = members_more p c.args.numbers.now rs n c.loop-c.classes.items c.push.new.self.items c.loop-c.members.items c.add_members.new.members.items c.in_ok-class_of.field-0 c.index-declaration.result.now c.loop-c.invariant.table.size c.loop-c.invariant.members c.in_ok-push.ensures.items at
          (transport (λ z. Adds c.loop-c.members.items c.add_members.new.members.items z (row_members c.loop-c.members.items c.loop-c.classes.items c.args.numbers.now n c.index-declaration.result.now (slice_get c.index-declaration.result.now.mixins.items (row_at rs n).step)) n) (sym c.in_ok-class_of.ensures.members)
          (transport (λ z. Adds c.loop-c.members.items c.add_members.new.members.items c.in_ok-ids.ids.items (row_members c.loop-c.members.items z c.args.numbers.now n c.index-declaration.result.now (slice_get c.index-declaration.result.now.mixins.items (row_at rs n).step)) n) c.deref.ensures.value
          (transport (λ z. Adds c.loop-c.members.items c.add_members.new.members.items c.in_ok-ids.ids.items (row_members c.loop-c.members.items c.deref.result.now c.args.numbers.now z c.index-declaration.result.now (slice_get c.index-declaration.result.now.mixins.items (row_at rs n).step)) z) c.in_ok-narrow.ensures c.in_ok-ids.ensures)));
    }
