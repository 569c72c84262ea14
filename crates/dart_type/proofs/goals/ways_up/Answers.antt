use Rattle.std.proofs.Common.{map, ap, ◌∙◌}
use Rattle.dart_type.proofs.Entered.{if_ok}
use Rattle.dart_type.proofs.Taken.{ways_given}
use Rattle.dart_type.proofs.goals.ways_up.Goals as goal

pub returns : goal.returns
returns c =
    if_ok c.each_below_of.result _ _
    (λ w e. ways_given c.args.nodes.now.items c.above_of.new.nodes.items c.in_ok-us.us.items _ c.args.s w.items c.in_ok-us.ensures c.requires.s_listed
    (e ∙ ap (map (λ u. record { t = u; s = c.args.s })) c.deref.ensures.value)) c.each_below_of.ensures
