use Rattle.std.proofs.Common.{◌∙◌, ap, Some}
use Rattle.parse_unit.proofs.Found.{end_by_last}
use Rattle.parse_unit.proofs.answer.end_of.Goals as goal

pub returns-in-len1-up : goal.returns-in-len1-up
returns-in-len1-up c =
    ap (λ place. Some place) c.place_behind.ensures
    ∙ end_by_last c.args.tokens.now c.last-item.result c.in-len1-up.len_at_least c.last-item.is
