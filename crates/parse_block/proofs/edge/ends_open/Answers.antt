use Rattle.std.proofs.Common.{◌-◌, ◌∙◌, not, length, sym, ap, arith}
use Rattle.parse_block.proofs.Ends.{by_last}
use Rattle.parse_block.proofs.edge.ends_open.Goals as goal

pub returns-in-Some : goal.returns-in-Some
returns-in-Some c =
    let items = c.args.parts.now in
    let last = c.in-Some.ensures.item in
    ap not c.is_finally.ensures ∙ sym (by_last items c.in-Some.part.now (length items - 1) (omega (arith, last.3.0)) last.1)
