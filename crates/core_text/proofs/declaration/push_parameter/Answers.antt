use Rattle.std.proofs.Common.{ap}
use Rattle.core_text.specs.Line.{word}
use Rattle.core_text.specs.Declaration.{parameter}
use Rattle.core_text.proofs.Added.{behind, told}
use Rattle.core_text.proofs.declaration.push_parameter.Goals as goal

pub returns : goal.returns
unfolding parameter
returns c =
    behind c.in_ok-push_counted.ensures (behind (told (ap word c.name_text.ensures) c.in_ok-push_word.ensures)
    (behind c.in_ok-push_shape.ensures (behind c.in_ok-push_site.ensures c.push_text.ensures)))
