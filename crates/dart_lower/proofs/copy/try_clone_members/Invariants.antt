use Rattle.std.proofs.Common.{◌≡◌, map, take}
use Rattle.core_program.specs.ProgramView as v
use Rattle.dart_lower.proofs.copy.try_clone_members.Given as goal

abbrev pub invariant-loop-one : goal.invariant-loop-one
invariant-loop-one l = map v.member l.copies.items ≡ map v.member (take l.one-index l.members)
