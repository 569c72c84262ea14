use Rattle.std.proofs.Common.{◌≡◌, Some, length, slice_get, refl}
use Rattle.std.proofs.lemmas.Option.{slice_get_read}
use Rattle.dart_ir.specs.Ty.{tys}
use Rattle.class_size.proofs.Bounded.{unknown_above, bound_times}
use Rattle.class_size.proofs.bound.bound_above.Goals as goal

pub returns-in-None : goal.returns-in-None
returns-in-None c = λ k h. unknown_above k c.args.class (tys c.args.args.now)

pub returns-in-Some : goal.returns-in-Some
returns-in-Some c = λ k h.
    let l = c.in-Some.ensures.lookup in
    bound_times k c.args.bounds.now c.args.class c.in-Some.bound.now c.largest.result c.product.result (tys c.args.args.now) h (slice_get_read c.args.bounds.now (length c.args.bounds.now) c.args.class c.in-Some.bound.now refl l.3.0 l.1) c.largest.ensures.positive c.largest.ensures.most c.product.ensures
