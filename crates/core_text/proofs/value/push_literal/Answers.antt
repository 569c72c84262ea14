use Rattle.std.proofs.Common.{ap}
use Rattle.core_text.specs.Constant.{units}
use Rattle.core_text.proofs.Added.{behind, told}
use Rattle.core_text.proofs.value.push_literal.Goals as goal

pub returns : goal.returns
returns c =
    behind c.in_ok-push_text.ensures
    (behind (told (ap units c.literal_units.ensures) c.in_ok-push_units.ensures) c.push_text-2.ensures)
