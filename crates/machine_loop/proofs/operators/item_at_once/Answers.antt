use Rattle.std.proofs.Common.{◌≡◌, Some, slice_get, rules}
use Rattle.dart_store.specs.declared.store.Kind.TheVariants as kind
use Rattle.dart_store.specs.Heap.{kind_of, length_of, field_at}
use Rattle.native_base.specs.Plan.{place}
use Rattle.native_number.specs.Number.{number_of}
use Rattle.machine_loop.proofs.Listed.{item_at_once}
use Rattle.machine_loop.proofs.operators.item_at_once.Goals as goal

pub returns-in-Ok : goal.returns-in-Ok
returns-in-Ok c =
    let h = c.args.store.now in
    let r = c.in-At.r in
    let is_list : kind_of (slice_get h.objects r.0) ≡ kind.List c.in-List.field-0 = first_of (cc, search rules) in
    let number : number_of c.args.index ≡ Some c.in-Some.number = first_of (cc, search rules) in
    let inside : place (length_of (slice_get h.objects r.0)) c.in-Some.number ≡ Some c.in-Ok.at = first_of (cc, search rules) in
    let holds : c.field.result ≡ field_at h r.0 c.in-Ok.at = first_of (cc, search rules) in
    item_at_once r c.in-List.field-0 c.args.list c.args.index h c.in-Some.number c.in-Ok.at c.field.result c.in-At.is is_list number inside holds
