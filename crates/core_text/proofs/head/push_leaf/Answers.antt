use Rattle.std.proofs.Common.{ap, sym}
use Rattle.core_program.specs.declared.form.Leaf.{Leaf}
use Rattle.core_program.specs.View as v
use Rattle.core_text.specs.Head.{leaf}
use Rattle.core_text.proofs.Added.{behind, told}
use Rattle.core_text.proofs.head.push_leaf.Goals as goal

pub returns-in_ok-push_text-in-StaticRead : goal.returns-in_ok-push_text-in-StaticRead
returns-in_ok-push_text-in-StaticRead c =
    told (ap (λ (l : Leaf). leaf c.args.program.now (v.leaf l)) (sym c.in-StaticRead.is))
    (behind c.in_ok-push_text-in-StaticRead.ensures c.push_static.ensures)
