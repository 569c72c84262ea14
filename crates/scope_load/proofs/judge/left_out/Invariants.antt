use Rattle.std.proofs.Common.{◌≡◌, drop}
use Rattle.scope_load.specs.Judge.{left_out}
use Rattle.scope_load.proofs.judge.left_out.Given as goal

-- the mentions that are left decide
abbrev pub invariant-loop-mention : goal.invariant-loop-mention
invariant-loop-mention l = left_out (drop l.mention-index l.mentions) ≡ left_out l.mentions
