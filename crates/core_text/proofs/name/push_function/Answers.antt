use Rattle.std.proofs.Common.{ap}
use Rattle.core_text.specs.Line.{word}
use Rattle.core_text.proofs.Added.{behind, told}
use Rattle.core_text.proofs.name.push_function.Goals as goal

pub returns : goal.returns
returns c = behind c.in_ok-push_number.ensures (told (ap word c.function_name.ensures) c.push_word.ensures)
