use Rattle.std.proofs.Common.{◌∙◌, ap}
use Rattle.std.specs.Prelude.{slice_get}
use Rattle.dart_store.specs.Heap.{Heap, length_of}
use Rattle.dart_store.proofs.store.Store.length.Goals as goal

pub returns : goal.returns
returns c =
    c.length_among.ensures c.self.inside.pool c.self.invariant.5
    ∙ ap (λ (h : Heap). length_of (slice_get h.objects c.args.r.0)) c.self.view_is
