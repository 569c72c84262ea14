use Rattle.std.proofs.Common.{◌≡◌, ◌++◌, drop, map}
use Rattle.dart_tree.specs.UnitView.{directive}
use Rattle.scope_mention.specs.Mention.{mentions_from}
use Rattle.scope_mention.proofs.mention.mentions.Given as goal

-- the mentions so far and those by what is left are those of the unit
abbrev pub invariant-loop-number : goal.invariant-loop-number
invariant-loop-number l = l.mentions.items ++ mentions_from l.number (map directive (drop l.number l.unit.directives.items)) ≡ mentions_from 0 (map directive l.unit.directives.items)
