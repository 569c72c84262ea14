use Rattle.machine_call.proofs.Pushed.{comes_to}
use Rattle.machine_turn.proofs.Place.{none_made, one_made}
use Rattle.machine_turn.proofs.start.start_with_words.Goals as goal

pub returns-in-None : goal.returns-in-None
returns-in-None c =
    let made = c.in_ok-made in
    none_made c.args.a c.args.run.now c.put_object.new.run made.made c.in_ok-object.object c.in_ok-object.ensures made.ensures.added made.ensures.beside c.in-None.is

pub returns-in-Some : goal.returns-in-Some
returns-in-Some c =
    let made = c.in_ok-made in
    comes_to c.args.a c.start_with.new.run c.start_with.result _ _
    (one_made c.args.a c.args.run.now c.put_object.new.run made.made c.in_ok-object.object c.in_ok-object.ensures made.ensures.added made.ensures.beside c.in-Some.words c.in-Some.is)
    c.start_with.ensures
