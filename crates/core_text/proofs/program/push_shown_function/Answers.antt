use Rattle.std.proofs.Common.{Bool, [], ap, sym, ◌∙◌}
use Rattle.std.specs.Prelude.{if◌then◌else◌}
use Rattle.core_text.specs.Declaration.{function}
use Rattle.core_text.specs.Program.{shown_function}
use Rattle.core_text.proofs.Added.{nothing, told}
use Rattle.core_text.proofs.program.push_shown_function.Goals as goal

pub returns-then-is_shown : goal.returns-then-is_shown
unfolding shown_function
returns-then-is_shown c =
    told (ap (λ (b : Bool). if b then function c.args.program.now c.args.number c.args.function.now else []) (sym c.if-is_shown.true ∙ c.is_shown.ensures)) c.push_function.ensures

pub returns-else-is_shown : goal.returns-else-is_shown
unfolding shown_function
returns-else-is_shown c =
    told (ap (λ (b : Bool). if b then function c.args.program.now c.args.number c.args.function.now else []) (sym c.if-is_shown.false ∙ c.is_shown.ensures))
    (nothing c.args.bytes.now)
