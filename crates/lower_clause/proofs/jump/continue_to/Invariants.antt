use Rattle.std.proofs.Common.{◌≡◌, map, drop, None}
use Rattle.translation.specs.Statements as s
use Rattle.lower_leaf.specs.Seen.{target}
use Rattle.lower_clause.specs.Jumps.{landing_option}
use Rattle.lower_clause.proofs.jump.continue_to.Given as goal

abbrev pub invariant-loop-one : goal.invariant-loop-one
invariant-loop-one l = s.continue_from l.n (s.option_text l.name) (map target (drop l.one-index l.targets.items)) (landing_option l.best)
    ≡ s.continue_from 0 (s.option_text l.name) (map target l.targets.items) None
