use Rattle.std.proofs.Common.{◌≡◌, length, refl, slice_get, Some, subst as transport}
use Rattle.std.proofs.lemmas.Option.{slice_get_read}
use Rattle.dart_type.proofs.Risen.{above_given}
use Rattle.dart_type.proofs.above.above_class.Goals as goal

pub returns-in_ok-extend_from_slice-in-Some : goal.returns-in_ok-extend_from_slice-in-Some
returns-in_ok-extend_from_slice-in-Some c =
    let h = c.in-Some.ensures.lookup in
    rw (c.in_ok-extend_from_slice-in-Some.ensures.items, c.deref-in-Some.ensures.value)
    (above_given c.args.classes.now c.args.nodes.now.items c.supertypes.new.nodes.items c.function_class.new.nodes.items c.args.c c.args.ts.now c.in_ok-us-in-Some.us.items c.in_ok-calls-in-Some.calls.items c.in-Some.info.now
    (transport (λ xs. slice_get xs c.args.c ≡ Some c.in-Some.info.now) c.deref.ensures.value (slice_get_read c.deref.result.now (length c.deref.result.now) c.args.c c.in-Some.info.now refl h.3.0 h.1)) c.in_ok-us-in-Some.ensures c.in_ok-calls-in-Some.ensures)
