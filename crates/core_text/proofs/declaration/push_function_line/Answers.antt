use Rattle.std.proofs.Common.{ap}
use Rattle.core_text.specs.Line.{word}
use Rattle.core_text.specs.Declaration.{function_line}
use Rattle.core_text.proofs.Added.{behind, told}
use Rattle.core_text.proofs.declaration.push_function_line.Goals as goal

pub returns : goal.returns
unfolding function_line
returns c =
    behind (told c.kind_text.ensures c.in_ok-push_text.ensures) (behind c.in_ok-push_key.ensures
    (behind (told (ap word c.class_or_nothing.ensures) c.in_ok-push_word.ensures)
    (behind (told (ap word c.name_text.ensures) c.in_ok-push_word-2.ensures) c.push_text-2.ensures)))
