use Rattle.std.proofs.Common.{◌∙◌, sym, ap}
use Rattle.std.specs.List.{list_any}
use Rattle.std.specs.Option.{is_some}
use Rattle.core_program.specs.ProgramView as pv
use Rattle.lower_table.proofs.Typed.{bounds_named}
use Rattle.lower_table.proofs.row.is_bounded.Goals as goal

pub returns : goal.returns
returns c = λ texts. c.any_bound.ensures ∙ ap (list_any is_some) c.deref.ensures.value ∙ sym (bounds_named (pv.text_at texts) c.args.info.now.bounds.items)
