use Rattle.std.proofs.Common.{◌≡◌, map, take}
use Rattle.core_program.specs.ProgramView as v
use Rattle.core_program.proofs.tables.try_clone_classes.Given as goal

abbrev pub invariant-loop-one : goal.invariant-loop-one
invariant-loop-one l = map v.class l.copies.items ≡ map v.class (take l.one-index l.classes)
