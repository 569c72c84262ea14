use Rattle.std.proofs.Common.{Bool, [], ap, sym, ◌∙◌}
use Rattle.std.specs.Prelude.{if◌then◌else◌}
use Rattle.core_text.specs.Declaration.{variable}
use Rattle.core_text.specs.Program.{shown_variable}
use Rattle.core_text.proofs.Added.{nothing, told}
use Rattle.core_text.proofs.program.push_shown_variable.Goals as goal

pub returns-then-is_variable_shown : goal.returns-then-is_variable_shown
unfolding shown_variable
returns-then-is_variable_shown c =
    told (ap (λ (b : Bool). if b then variable c.args.program.now c.args.number c.args.variable.now else []) (sym c.if-is_variable_shown.true ∙ c.is_variable_shown.ensures)) c.push_variable.ensures

pub returns-else-is_variable_shown : goal.returns-else-is_variable_shown
unfolding shown_variable
returns-else-is_variable_shown c =
    told (ap (λ (b : Bool). if b then variable c.args.program.now c.args.number c.args.variable.now else []) (sym c.if-is_variable_shown.false ∙ c.is_variable_shown.ensures))
    (nothing c.args.bytes.now)
