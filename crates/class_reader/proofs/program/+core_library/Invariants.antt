use Rattle.std.proofs.Common.{length}
use Rattle.class_reader.proofs.program.+core_library.Given as goal

abbrev pub decreases-core_library : goal.decreases-core_library
decreases-core_library l = length l.homes.now
