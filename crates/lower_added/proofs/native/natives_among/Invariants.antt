use Rattle.std.proofs.Common.{◌≡◌, ◌++◌, None, drop}
use Rattle.lower_added.specs.Natives.{natives_from}
use Rattle.lower_added.proofs.native.natives_among.Given as goal

-- those that are found, and those of what is left, are all
abbrev pub invariant-loop-one : goal.invariant-loop-one
invariant-loop-one l = l.made.items ++ natives_from l.names l.class (drop l.one-index l.declarations) ≡ natives_from l.names None l.declarations
