use Rattle.machine_frame.proofs.Admitted.{itself, reached}
use Rattle.machine_frame.proofs.sites.+reaches.Goals as goal

pub returns-then-class-wanted : goal.returns-then-class-wanted
returns-then-class-wanted t c = λ e n l. itself c.args.a.program.now.classes c.args.class c.args.wanted n c.if-class-wanted.true

pub returns-in-Some : goal.returns-in-Some
returns-in-Some t c = λ e.
    reached c.args.a.program.now.classes c.args.class c.args.wanted c.in-Some.above c.args.levels c.if-levels-eq0.false c.in-Some.ensures (c.reaches.ensures e)
