use Rattle.std.proofs.Common.{List, ℕ, ◌++◌, ap, ◌∙◌}
use Rattle.core_text.specs.Program.{program_text}
use Rattle.core_text.proofs.program.program_text.Goals as goal

pub returns : goal.returns
returns c =
    c.in_ok-push_program.ensures.on_ok ∙ ap (λ (b : List ℕ). b ++ program_text c.args.program.now c.args.choice) c.new-bytes.ensures
