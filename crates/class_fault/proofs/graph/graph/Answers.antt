use Rattle.std.proofs.Common.{◌≡◌, ap, sym, ◌∙◌, refl, arith, length, List, slice_get, subst as transport}
use Rattle.std.proofs.lemmas.Option.{slice_get_read}
use Rattle.class_fault.specs.declared.program.Declaration.{Declaration}
use Rattle.class_fault.proofs.Graphs.{AreHeaders, headers_more, graph_whole}
use Rattle.class_fault.proofs.graph.graph.Goals as goal

pub loop-d-preserved : goal.loop-d-preserved
loop-d-preserved c =
    headers_more c.args.program.now c.loop-d.d c.loop-d.headers.items c.push.new.self.items c.in_ok-header_of.field-0 c.declaration-item.result c.loop-d.invariant c.in_ok-push.ensures.items
    (ap (λ (xs : List Declaration). slice_get xs c.loop-d.d) (sym c.deref-declaration-items.ensures.value) ∙ slice_get_read c.deref-declaration-items.result.now (length c.deref-declaration-items.result.now) c.loop-d.d c.declaration-item.result refl c.loop-d-test.true c.declaration-item.is)
    c.in_ok-header_of.ensures.above c.in_ok-header_of.ensures.applications

pub returns : goal.returns
returns c =
    let v = ap length c.deref-declaration-items.ensures.value in
    let e : c.loop-d.d ≡ length c.args.program.now.declarations.items = omega (arith, v, c.loop-d-test.false, c.loop-d.auto.d-end) in
    graph_whole c.args.program.now c.loop-d.headers.items (transport (λ n. AreHeaders c.args.program.now n c.loop-d.headers.items) e c.loop-d.invariant)
