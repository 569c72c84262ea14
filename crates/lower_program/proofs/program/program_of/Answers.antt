use Rattle.std.proofs.Common.{map}
use Rattle.lower_leaf.specs.Seen.{seen}
use Rattle.lower_program.specs.Views.{function_slot, static_slot}
use Rattle.lower_program.proofs.Answered.{program_same}
use Rattle.lower_program.proofs.program.program_of.Goals as goal

pub returns : goal.returns
returns g c =
    let a = g.S.Surroundings.around c.args.outside.now in
    program_same a c.args.classes c.args.files c.args.main (seen a c.args.state) (map (function_slot a) c.in_ok-functions.functions.items)
    (map (static_slot a) c.in_ok-statics.statics.items) (c.in_ok-functions.ensures a) (c.in_ok-statics.ensures a)
