use Rattle.std.proofs.Common.{ℕ, subst, sym, ◌∙◌}
use Rattle.std.proofs.lemmas.Option.{same_Some}
use Rattle.machine_frame.specs.Outside.{IsAdmitted}
use Rattle.machine_loop.proofs.operators.takes.Goals as goal

pub returns-in-Some : goal.returns-in-Some
returns-in-Some c = λ e n is.
    subst (λ (n : ℕ). IsAdmitted c.args.a c.args.run.now.store n c.args.value) (same_Some c.in-Some.number n (sym c.in-Some.is ∙ is)) (c.admits.ensures e)
