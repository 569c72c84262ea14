use Rattle.core_text.specs.Declaration.{function}
use Rattle.core_text.proofs.Added.{behind}
use Rattle.core_text.proofs.declaration.push_function.Goals as goal

pub returns : goal.returns
unfolding function
returns c =
    behind c.in_ok-push_text.ensures (behind c.in_ok-push_function_line.ensures
    (behind c.in_ok-push_function_lines.ensures c.push_part.ensures))
