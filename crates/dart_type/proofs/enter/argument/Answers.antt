use Rattle.std.proofs.Common.{◌≡◌, ◌<◌, ap, ◌∙◌, length, arith, get_or}
use Rattle.dart_type.specs.Intern.{types, read}
use Rattle.dart_type.proofs.Interned.{grows_refl}
use Rattle.dart_type.proofs.Entered.{given_as, argument_read, argument_missing}
use Rattle.dart_type.proofs.enter.argument.Goals as goal

pub returns-in-Some : goal.returns-in-Some
returns-in-Some c =
    let h = c.in-Some.ensures.lookup in
    let e : c.in-Some.j.now ≡ get_or c.args.args.now c.args.i 0 = h.3.1 0 in
    let l : get_or c.args.args.now c.args.i 0 < length c.args.nodes.now.items = c.requires.listed c.args.i 0 h.3.0 in
    record {
      grows = grows_refl c.args.nodes.now.items c.requires.built;
      listed = omega (arith, e, l);
      shows = ap (read (types c.args.nodes.now.items)) e ∙ argument_read (types c.args.nodes.now.items) c.args.args.now c.args.i 0 h.3.0;
    }

pub returns-in-None : goal.returns-in-None
returns-in-None c =
    given_as c.args.nodes.now.items c.intern.new.nodes.items c.intern.result _ _ (argument_missing (types c.args.nodes.now.items) c.args.args.now c.args.i c.in-None.ensures.lookup.3) c.intern.ensures
