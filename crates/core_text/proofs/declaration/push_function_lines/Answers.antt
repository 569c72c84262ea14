use Rattle.std.proofs.Common.{ap}
use Rattle.core_text.specs.Line.{numbers}
use Rattle.core_text.specs.Declaration.{function_lines, parameters, slots}
use Rattle.core_text.proofs.Added.{behind, told}
use Rattle.core_text.proofs.declaration.push_function_lines.Goals as goal

pub returns : goal.returns
unfolding function_lines
returns c =
    behind (told (ap (slots c.args.function.now.vars) c.deref.ensures.value) c.in_ok-push_slots.ensures)
    (behind c.in_ok-push_text.ensures
    (behind (told (ap numbers c.deref-2.ensures.value) c.in_ok-push_numbers.ensures)
    (behind c.in_ok-push_text-2.ensures
    (behind c.in_ok-push_signature.ensures (told (ap (parameters c.args.program.now) c.deref-3.ensures.value) c.push_parameters.ensures)))))
