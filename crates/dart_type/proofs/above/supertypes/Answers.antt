use Rattle.std.proofs.Common.{map, subst as transport}
use Rattle.dart_ir.specs.Ty.{ty}
use Rattle.dart_type.specs.Instance.{instance}
use Rattle.dart_type.specs.Intern.{types, reads, GivesAll}
use Rattle.dart_type.proofs.Risen.{supertypes_given}
use Rattle.dart_type.proofs.above.supertypes.Goals as goal

pub returns : goal.returns
returns c =
    let n1 = c.superclass.new.nodes.items in
    let n2 = c.enter_all.new.nodes.items in
    let g = transport (λ us. GivesAll n1 n2 c.in_ok-interfaces.interfaces.items (map (λ t. instance (reads (types n1) c.args.ts.now) (ty t)) us)) c.deref.ensures.value c.in_ok-interfaces.ensures in
    rw (c.in_ok-extend_from_slice.ensures.items, c.deref-2.ensures.value)
    (supertypes_given c.args.nodes.now.items n1 n2 c.args.ts.now c.in_ok-us.us.items c.in_ok-interfaces.interfaces.items c.args.info.now c.requires.listed c.in_ok-us.ensures g)
