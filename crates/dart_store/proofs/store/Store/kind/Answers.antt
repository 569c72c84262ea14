use Rattle.std.proofs.Common.{◌∙◌, ap}
use Rattle.std.specs.Prelude.{slice_get}
use Rattle.dart_store.specs.Heap.{Heap, kind_of}
use Rattle.dart_store.proofs.store.Store.kind.Goals as goal

pub returns : goal.returns
returns c = c.kind_among.ensures c.self.inside.pool ∙ ap (λ (h : Heap). kind_of (slice_get h.objects c.args.r.0)) c.self.view_is
