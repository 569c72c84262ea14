use Rattle.std.proofs.Common.{◌≡◌, false, rules, arith}
use Rattle.evaluation.specs.Arguments.{alone}
use Rattle.evaluation.specs.Invocation.{member_fits}
use Rattle.machine_frame.specs.Outside.{setting_of}
use Rattle.machine_frame.specs.Frames.{given_of}
use Rattle.machine_call.proofs.Told.{told_again, units_fall, same_room}
use Rattle.machine_call.proofs.missing.tell.Goals as goal

pub returns-then-not-takes_alone-clause-meaning : goal.returns-then-not-takes_alone-clause-meaning
returns-then-not-takes_alone-clause-meaning c =
    let r = c.args.run.now in
    let made = c.in_ok-made in
    let fits : false ≡ member_fits (setting_of c.args.a).program c.in-Some-member.m (alone c.in-Some.one) = first_of (cc, search rules, grind arith) in
    told_again c.args.a r c.invocation.new.run c.args.at c.args.class c.args.role c.args.name c.args.this (given_of c.args.passed r.operands.items) c.args.passed.count made.made c.cut.new.values
    made.ensures.made made.ensures.beside c.cut.ensures c.in-Some.one c.in-Some-member.m c.in-Some.is c.in-Some-member.ensures fits

pub returns-then-not-takes_alone-clause-nearer : goal.returns-then-not-takes_alone-clause-nearer
returns-then-not-takes_alone-clause-nearer c =
    let r = c.args.run.now in
    let made = c.in_ok-made in
    let g = given_of c.args.passed r.operands.items in
    let same = same_room c.args.a r c.invocation.new.run c.args.at c.args.class c.args.role c.args.name c.args.this g c.args.passed.count made.made c.cut.new.values made.ensures.made made.ensures.beside c.cut.ensures in
    let fall = units_fall c.args.a r c.invocation.new.run c.args.at c.args.class c.args.role c.args.name c.args.this g c.args.passed.count made.made c.cut.new.values made.ensures.made made.ensures.beside c.cut.ensures
    c.in-Some.one c.in-Some.is in
    (same, fall)
