use Rattle.std.proofs.Common.{◌∙◌, not, eqb, length, ap}
use Rattle.scope_space.proofs.Parts.{any_kept}
use Rattle.scope_space.proofs.table.Table.has.Goals as goal

pub returns : goal.returns
returns g c =
    ap not c.is_empty.ensures ∙ ap (λ xs. not (eqb (length xs) 0)) c.under.ensures ∙ any_kept (λ item. eqb (g.T.Keyed.key_of item) c.args.key) c.args.self.now
