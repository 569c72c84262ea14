use Rattle.std.proofs.Common.{◌≡◌, drop}
use Rattle.lower_annotation.specs.Seen.{alike}
use Rattle.lower_annotation.proofs.round.are_alike.Given as goal

abbrev pub invariant-loop-place : goal.invariant-loop-place
invariant-loop-place l = alike l.first l.second ≡ alike (drop l.place l.first) (drop l.place l.second)
