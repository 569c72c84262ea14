use Rattle.std.proofs.Common.{ap}
use Rattle.core_text.specs.Line.{word}
use Rattle.core_text.specs.Declaration.{variable_line}
use Rattle.core_text.proofs.Added.{behind, told}
use Rattle.core_text.proofs.declaration.push_variable_line.Goals as goal

pub returns : goal.returns
unfolding variable_line
returns c =
    behind (told c.variable_word.ensures c.in_ok-push_text.ensures) (behind c.in_ok-push_behind.ensures
    (behind (told (ap word c.name_text.ensures) c.in_ok-push_word.ensures) c.push_text-2.ensures))
