use Rattle.std.proofs.Common.{ℕ, Option, length, unwrap_or, sym, ap, ◌∙◌}
use Rattle.machine_form.proofs.switches.default_case.Goals as goal

pub returns-in-None : goal.returns-in-None
returns-in-None c = ap (λ (q : Option ℕ). unwrap_or q (length c.args.cases.now)) (sym c.in-None.is ∙ c.default_at.ensures)

pub returns-in-Some : goal.returns-in-Some
returns-in-Some c = ap (λ (q : Option ℕ). unwrap_or q (length c.args.cases.now)) (sym c.in-Some.is ∙ c.default_at.ensures)
