use Rattle.std.proofs.Common.{◌≡◌, ℕ, ap, ◌∙◌}
use Rattle.core_text.specs.Program.{functions, root_count, variables}
use Rattle.core_text.proofs.Added.{behind, told}
use Rattle.core_text.proofs.program.push_program.Goals as goal

pub returns : goal.returns
returns c =
    let e : c.root_count-count.result ≡ root_count c.args.program.now.functions.items = c.root_count-count.ensures ∙ ap root_count c.deref.ensures.value in
    behind c.in_ok-push_text.ensures (behind c.in_ok-push_function.ensures (behind c.in_ok-push_text-2.ensures
    (behind (told (ap (λ (n : ℕ). functions c.args.program.now c.args.choice n 0 c.args.program.now.functions.items) e) c.in_ok-push_functions.ensures)
    (told (ap (λ (n : ℕ). variables c.args.program.now c.args.choice n 0 c.args.program.now.statics.items) e) c.push_variables.ensures))))
