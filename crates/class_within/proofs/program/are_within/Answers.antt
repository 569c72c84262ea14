use Rattle.std.proofs.Common.{◌↔◌, IsTrue, Bool, sym, subst as transport}
use Rattle.core_names.proofs.Below.{below_decides}
use Rattle.class_within.specs.View as view
use Rattle.class_within.specs.Names.{program_names}
use Rattle.class_within.specs.Within.{AreWithin}
use Rattle.class_within.proofs.program.are_within.Goals as goal

pub returns : goal.returns
returns c =
    transport (λ (b : Bool). IsTrue b ↔ AreWithin c.args.count c.args.program.now) (sym c.is_program_within.ensures)
    (below_decides c.args.count (program_names (view.program c.args.program.now)))
