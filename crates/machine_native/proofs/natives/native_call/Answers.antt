use Rattle.std.specs.Global.{Vec}
use Rattle.std.proofs.Common.{◌≡◌, List, map, Err, OnErr, sym, ap, ◌∙◌, subst}
use Rattle.dart_ir.specs.declared.value.Value.{Value}
use Rattle.dart_store.specs.Heap.{Heap}
use Rattle.dart_store.specs.declared.store.StoreFault.{StoreFault}
use Rattle.dart_store.specs.declared.store.StoreFault.TheVariants as fault
use Rattle.native_base.specs.Plan.{done, full as no_room}
use Rattle.native_object.specs.Shown as shown
use Rattle.native_object.specs.ShownView.{around}
use Rattle.dart_native.specs.Native as n
use Rattle.machine_lookup.specs.Rows.{last_of}
use Rattle.evaluation.specs.State.{ended, out_of_objects, ends}
use Rattle.evaluation.specs.Externals.{native_call, native_answer}
use Rattle.machine_frame.specs.Natives.{read_of}
use Rattle.machine_frame.specs.Outside.{setting_of}
use Rattle.dart_ir.specs.declared.types.TypeRef.{TypeRef}
use Rattle.dart_ir.specs.Ty.{Ty, ty}
use Rattle.machine_frame.specs.Frames.{seen, types_of, below_of, resume, mute}
use Rattle.machine_native.proofs.Carried.{called, filled, rest}
use Rattle.machine_native.proofs.natives.native_call.Goals as goal

pub returns-in_ok-control-in-Ok-clause-meaning : goal.returns-in_ok-control-in-Ok-clause-meaning
returns-in_ok-control-in-Ok-clause-meaning c =
    let r = c.args.run.now in
    let s = setting_of c.args.a in
    let vs = last_of c.args.count r.operands.items in
    let ts = (seen r).activation.types in
    let x = c.in-Ok.outcome in
    let h = c.call-end.new.store in
    let own : map ty c.own_types.result.now ≡ ts = c.own_types.ensures ∙ ap (λ (l : List (Vec TypeRef)). types_of r.body.has_types l) c.as_slice.ensures.value in
    let values : c.last_of.result.now ≡ vs = c.last_of.ensures ∙ ap (last_of c.args.count) c.as_slice-2.ensures.value in
    let e : n.native (read_of c.args.a) c.args.id ts vs r.store ≡ done x h =
    ap (λ (k : shown.Around). n.native k c.args.id ts vs r.store) (sym c.read_of-read.ensures)
    ∙ ap (λ (l : List Value). n.native (around c.read_of-read.result) c.args.id ts l r.store) (sym values)
    ∙ ap (λ (l : List Ty). n.native (around c.read_of-read.result) c.args.id l c.last_of.result.now r.store) (sym own) ∙ c.in-Ok.ensures.done in
    c.in_ok-control-in-Ok.ensures.meaning
    ∙ rest c.args.a r c.args.count c.cut.new.values.items (native_answer s c.args.at x (record (seen r) { heap = h }))
    (native_call s.natives c.args.id ts vs (native_answer s c.args.at) (seen r)) c.cut.ensures (sym (called c.args.a c.args.at c.args.id ts vs (seen r) x h e))

pub returns-in-Full-clause-meaning : goal.returns-in-Full-clause-meaning
returns-in-Full-clause-meaning c =
    let r = c.args.run.now in
    let s = setting_of c.args.a in
    let vs = last_of c.args.count r.operands.items in
    let ts = (seen r).activation.types in
    let h = c.call-end.new.store in
    let own : map ty c.own_types.result.now ≡ ts = c.own_types.ensures ∙ ap (λ (l : List (Vec TypeRef)). types_of r.body.has_types l) c.as_slice.ensures.value in
    let values : c.last_of.result.now ≡ vs = c.last_of.ensures ∙ ap (last_of c.args.count) c.as_slice-2.ensures.value in
    let is : c.call-end.result ≡ Err fault.Full = c.in-Err.is ∙ ap (λ (f : StoreFault). Err f) c.in-Full.is in
    let same : h ≡ r.store = subst (λ o. OnErr o (h ≡ r.store)) is c.call-end.ensures.refused in
    let e : n.native (read_of c.args.a) c.args.id ts vs r.store ≡ no_room =
    ap (λ (k : shown.Around). n.native k c.args.id ts vs r.store) (sym c.read_of-read.ensures)
    ∙ ap (λ (l : List Value). n.native (around c.read_of-read.result) c.args.id ts l r.store) (sym values)
    ∙ ap (λ (l : List Ty). n.native (around c.read_of-read.result) c.args.id l c.last_of.result.now r.store) (sym own) ∙ c.call-end.ensures.full is in
    ap (λ (k : Heap). mute (resume c.args.a (record (below_of r) { operands = c.cut.new.values.items }) r.frames.items (ends (ended out_of_objects) (record (seen r) { heap = k })))) same
    ∙ rest c.args.a r c.args.count c.cut.new.values.items (ends (ended out_of_objects) (seen r))
    (native_call s.natives c.args.id ts vs (native_answer s c.args.at) (seen r)) c.cut.ensures (sym (filled c.args.a c.args.at c.args.id ts vs (seen r) e))
