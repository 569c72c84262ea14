use Rattle.std.proofs.Common.{map, take}
use Rattle.dart_ir.specs.Ty.{ty, named_ty}
use Rattle.dart_type.specs.Instance.{instance, named_instance}
use Rattle.dart_type.specs.Intern.{types, reads, GivesAll, GivesNamed}
use Rattle.dart_type.proofs.enter.+entering.Given as goal

abbrev pub invariant-enter_all-loop-t : goal.invariant-enter_all-loop-t
invariant-enter_all-loop-t l = GivesAll l.initial.nodes.items l.nodes.items l.is.items (map (λ t. instance (reads (types l.initial.nodes.items) l.args) (ty t)) (take l.t-index l.ts))

abbrev pub invariant-enter_named-loop-n : goal.invariant-enter_named-loop-n
invariant-enter_named-loop-n l = GivesNamed l.initial.nodes.items l.nodes.items l.is.items (map (λ n. named_instance (reads (types l.initial.nodes.items) l.args) (named_ty n)) (take l.n-index l.ns))
