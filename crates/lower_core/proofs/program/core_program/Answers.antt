use Rattle.lower_core.proofs.Programs.{seen_program}
use Rattle.lower_core.proofs.program.core_program.Goals as goal

pub returns-clause-program : goal.returns-clause-program
returns-clause-program c = λ a same.
    let empty = c.in_ok-nameless.ensures a same in
    seen_program a c.args.names c.args.lowered c.in_ok-functions.functions c.in_ok-statics.statics c.new.result same
    (c.in_ok-functions.ensures a empty) (c.in_ok-statics.ensures a empty) c.new.ensures.items
