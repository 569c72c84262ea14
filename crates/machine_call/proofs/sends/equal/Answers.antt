use Rattle.machine_frame.specs.Outside.{world_in}
use Rattle.std.proofs.Common.{◌≡◌, false, sym, ap}
use Rattle.machine_call.proofs.Pushed.{comes_to}
use Rattle.machine_frame.specs.Frames.{ending, seen}
use Rattle.machine_call.proofs.Equal.{equal_other}
use Rattle.machine_call.specs.Bodies.{is_null}
use Rattle.machine_call.proofs.sends.equal.Goals as goal

pub returns-clause-meaning : goal.returns-clause-meaning
returns-clause-meaning c =
    let e : is_null c.args.first ≡ false = cc in
    let h : is_null c.args.second ≡ false = cc in
    comes_to c.args.a c.equal_by_call.new.run c.equal_by_call.result _ _ (ap (ending c.args.a c.args.run.now) (sym (equal_other (world_in c.args.a c.args.run.now.depth) c.args.at c.args.first c.args.second (seen c.args.run.now) e h))) c.equal_by_call.ensures.meaning
