use Rattle.std.proofs.Common.{length, ap, arith}
use Rattle.dart_scope.proofs.Meant.{no_library}
use Rattle.dart_scope.proofs.program.binding.Goals as goal

pub returns-then-library-libraries : goal.returns-then-library-libraries
returns-then-library-libraries c = no_library c.args.spaces.now c.args.library c.args.name.0 (omega (arith, ap length c.libraries.ensures))
