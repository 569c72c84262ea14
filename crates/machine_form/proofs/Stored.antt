-- Setters that write a field at once.
use Rattle.std.proofs.Common.{◌≡◌, ◌≢◌, ℕ, ◌-◌, ◌≤◌, nat_lt, slice_get, true, Some, sym, ap, ◌∙◌}
use Rattle.dart_base.specs.declared.place.Place.{Place}
use Rattle.dart_ir.specs.declared.number.Ref.{Ref}
use Rattle.dart_ir.specs.declared.value.Value.{Value}
use Rattle.dart_ir.specs.declared.value.Value.TheVariants.{At}
use Rattle.dart_store.specs.Heap.{with_field_at}
use Rattle.evaluation.specs.State.{answer, ends}
use Rattle.evaluation.specs.Invocation.{set_from, set}
use Rattle.evaluation.specs.Values.{class_of}
use Rattle.evaluation.specs.Variables as vars
use Rattle.machine_frame.specs.declared.around.Around.{Around}
use Rattle.machine_frame.specs.declared.run.Run.{Run}
use Rattle.machine_frame.specs.Outside.{setting_of, world_in}
use Rattle.machine_frame.specs.Frames.{seen, below_of, resume, does, mute}
use Rattle.machine_frame.proofs.Mute.{quiet}
use Rattle.machine_loop.proofs.Written.{written}
use Rattle.machine_form.specs.Stored.{WritesField}

pub stored_at_once : (a : Around) (run : Run) (at : Place) (name k i : ℕ) (r : Ref) (this v : Value) → class_of (setting_of a) run.store this ≡ Some k → this ≡ At r
    → nat_lt i (vars.field_total (slice_get run.store.objects r.0)) ≡ true → WritesField a k name i → run.depth ≢ 0 → 3 ≤ run.left
    → mute (resume a (below_of run) run.frames.items (ends (answer v) (record (seen run) { left = run.left - 3; heap = with_field_at run.store r.0 i v })))
    ≡ does a run (λ w. set w at name this v)
stored_at_once a run at name k i r this v is_of is there writes h l =
    let w = world_in a run.depth in
    let st = seen run in
    sym (quiet a (below_of run) run.frames.items (set w at name this v st) (ends (answer v) (record st { left = run.left - 3; heap = with_field_at run.store r.0 i v }))
    (ap (λ o. mute (set_from w at o name this v st)) is_of ∙ written a writes.0 run.depth name k i r this v st h l is is_of writes.1 there at))
