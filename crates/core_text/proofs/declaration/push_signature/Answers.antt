use Rattle.core_text.specs.Declaration.{signature}
use Rattle.core_text.proofs.Added.{behind}
use Rattle.core_text.proofs.declaration.push_signature.Goals as goal

pub returns : goal.returns
unfolding signature
returns c = behind c.in_ok-push_text.ensures (behind c.in_ok-push_function_type.ensures c.push_text-2.ensures)
