use Rattle.std.proofs.Common.{◌∙◌, ap}
use Rattle.lower_table.specs.Rows.{mixin_number, row_by}
use Rattle.lower_table.proofs.row.added_row.Goals as goal

pub returns : goal.returns
returns c = λ texts. c.row_by.ensures
    ∙ (λ i. row_by c.args.declared.now (c.found_at-own.ensures i) ((c.mixin_class.ensures texts ∙ ap mixin_number (c.in_ok-mixin.ensures texts)) i)
    (c.superclass_of.ensures texts i))
