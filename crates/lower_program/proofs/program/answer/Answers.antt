use Rattle.std.proofs.Common.{◌≡◌, IfOk, subst}
use Rattle.translation.specs.Program as p
use Rattle.lower_leaf.specs.Seen.{seen}
use Rattle.lower_program.specs.Views.{outcome, reason}
use Rattle.lower_program.proofs.Answered.{answer_went, answer_refused}
use Rattle.lower_program.proofs.program.answer.Goals as goal

pub returns-in-Ok : goal.returns-in-Ok
returns-in-Ok g c =
    let a = g.S.Surroundings.around c.args.outside.now in
    subst (λ (z : p.Answer). IfOk c.built.result (λ made. outcome a made ≡ z))
    (answer_went a c.args.all.now.items c.args.classes c.args.files c.args.main (seen a c.start-state.result) (seen a c.walk.new.state)
    c.start-state.ensures c.in-Ok.ensures) c.built.ensures

pub returns-in_ok-reason_of-in-Err : goal.returns-in_ok-reason_of-in-Err
returns-in_ok-reason_of-in-Err g c =
    let a = g.S.Surroundings.around c.args.outside.now in
    answer_refused a c.args.all.now.items c.args.classes c.args.files c.args.main c.in-Err.fault (seen a c.start-state.result) (seen a c.walk.new.state)
    (reason c.in_ok-reason_of-in-Err.field-0) c.start-state.ensures c.in-Err.ensures c.in_ok-reason_of-in-Err.ensures
