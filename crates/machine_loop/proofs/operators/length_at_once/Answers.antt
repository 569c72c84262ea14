use Rattle.std.proofs.Common.{◌≡◌, pos, slice_get, rules}
use Rattle.dart_ir.specs.Integer.{integer_value}
use Rattle.dart_store.specs.declared.store.Kind.TheVariants as kind
use Rattle.dart_store.specs.Heap.{kind_of, length_of}
use Rattle.machine_loop.proofs.Listed.{length_at_once}
use Rattle.machine_loop.proofs.operators.length_at_once.Goals as goal

pub returns : goal.returns
returns c =
    let h = c.args.store.now in
    let r = c.in-At.r in
    let is_list : kind_of (slice_get h.objects r.0) ≡ kind.List c.in-List.field-0 = first_of (cc, search rules) in
    let holds : c.integer_value.result ≡ integer_value (pos (length_of (slice_get h.objects r.0))) = first_of (cc, search rules) in
    length_at_once r c.in-List.field-0 c.args.list h c.integer_value.result c.in-At.is is_list holds
