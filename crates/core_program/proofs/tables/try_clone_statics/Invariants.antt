use Rattle.std.proofs.Common.{◌≡◌, map, take}
use Rattle.core_program.specs.ProgramView as v
use Rattle.core_program.proofs.tables.try_clone_statics.Given as goal

abbrev pub invariant-loop-one : goal.invariant-loop-one
invariant-loop-one l = map v.static l.copies.items ≡ map v.static (take l.one-index l.statics)
