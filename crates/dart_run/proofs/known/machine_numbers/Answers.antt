use Rattle.std.proofs.Common.{◌∙◌}
use Rattle.dart_run.proofs.known.machine_numbers.Goals as goal

pub returns : goal.returns
returns c = c.machine_known.ensures ∙ c.known_numbers-numbers.ensures
