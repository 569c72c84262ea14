use Rattle.std.proofs.Common.{◌≡◌, length, map}
use Rattle.std.specs.String.{string_bytes}
use Rattle.dart_words.specs.Words.{nothing_given, run_command}
use Rattle.dart_words.proofs.words.run_command.Given as goal

abbrev pub invariant-loop-rest : goal.invariant-loop-rest
invariant-loop-rest l = run_command nothing_given (map string_bytes l.words) ≡ run_command l.given (map string_bytes l.rest)

abbrev pub decreases-loop-rest : goal.decreases-loop-rest
decreases-loop-rest l = length l.rest
