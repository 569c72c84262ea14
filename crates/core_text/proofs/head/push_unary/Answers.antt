use Rattle.std.proofs.Common.{ap, sym}
use Rattle.core_program.specs.declared.form.Unary.{Unary}
use Rattle.core_program.specs.View as v
use Rattle.core_text.specs.Head.{unary}
use Rattle.core_text.proofs.Added.{behind, told}
use Rattle.core_text.proofs.head.push_unary.Goals as goal

pub returns-in_ok-push_text-in-StaticWrite : goal.returns-in_ok-push_text-in-StaticWrite
returns-in_ok-push_text-in-StaticWrite c =
    told (ap (λ (u : Unary). unary c.args.program.now (v.unary u)) (sym c.in-StaticWrite.is))
    (behind c.in_ok-push_text-in-StaticWrite.ensures c.push_static.ensures)
