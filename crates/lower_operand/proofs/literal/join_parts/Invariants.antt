use Rattle.std.proofs.Common.{◌≡◌, map, drop}
use Rattle.translation.specs.Expressions as e
use Rattle.lower_leaf.specs.Seen.{seen}
use Rattle.lower_string.specs.Parts.{part}
use Rattle.lower_operand.specs.Made.{joined}
use Rattle.lower_operand.proofs.Joining.{others_joined}
use Rattle.lower_operand.proofs.literal.join_parts.Given as goal

abbrev pub invariant-loop-one : goal.invariant-loop-one
invariant-loop-one g l = let a = g.S.Surroundings.around l.outside in
    others_joined l.place l.at (map part (drop l.one-index l.parts.items)) (joined a l.found) (seen a l.state)
    ≡ e.join_parts l.place l.at (map part l.parts.items) l.fn.before (seen a l.fn.state)
