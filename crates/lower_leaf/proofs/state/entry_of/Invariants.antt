use Rattle.std.proofs.Common.{◌≡◌, map, drop}
use Rattle.std.specs.Option.{option_map}
use Rattle.std.specs.Rc.{rc_value}
use Rattle.translation.specs.Walk as w
use Rattle.lower_leaf.specs.Seen.{seen, entry}
use Rattle.lower_leaf.proofs.state.entry_of.Given as goal

abbrev pub invariant-loop-one : goal.invariant-loop-one
invariant-loop-one g l = w.entry_from (map (λ e. entry (g.S.Surroundings.around l.outside) (rc_value e)) (drop l.one-index l.state.scopes.items)) l.name
    (option_map (λ e. entry (g.S.Surroundings.around l.outside) (rc_value e.now)) l.best)
    ≡ w.entry_of (seen (g.S.Surroundings.around l.outside) l.state) l.name
