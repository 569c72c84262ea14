use Rattle.std.proofs.Common.{◌≡◌, drop}
use Rattle.class_fault.specs.Program.{has_method}
use Rattle.class_fault.proofs.graph.declares_call.Given as goal

abbrev pub invariant-loop-member : goal.invariant-loop-member
invariant-loop-member l = has_method l.call (drop l.member-index l.declaration.members.items) ≡ has_method l.call l.declaration.members.items
