use Rattle.std.proofs.Common.{rules, arith}
use Rattle.std.proofs.lemmas.Grind.{common_steps}
use Rattle.scope_table.specs.Instance.{unit_stretches}
use Rattle.scope_table.proofs.instance.stretches.Goals as goal

pub returns : goal.returns
unfolding unit_stretches
returns c = first_of (search rules, grind (arith, common_steps))
