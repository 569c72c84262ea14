use Rattle.std.proofs.Common.{ap}
use Rattle.core_text.specs.Declaration.{slots, variable}
use Rattle.core_text.proofs.Added.{behind, told}
use Rattle.core_text.proofs.declaration.push_variable.Goals as goal

pub returns : goal.returns
unfolding variable
returns c =
    behind c.in_ok-push_text.ensures (behind c.in_ok-push_variable_line.ensures
    (behind (told (ap (slots c.args.variable.now.vars) c.deref.ensures.value) c.in_ok-push_slots.ensures)
    (behind c.in_ok-push_text-2.ensures c.push_part.ensures)))
