use Rattle.std.proofs.Common.{◌∙◌, ap}
use Rattle.dart_store.specs.Heap.{Heap, field_at}
use Rattle.dart_store.proofs.store.Store.field.Goals as goal

pub returns : goal.returns
returns c = c.field_among.ensures c.self.inside.pool ∙ ap (λ (h : Heap). field_at h c.args.r.0 c.args.index) c.self.view_is
