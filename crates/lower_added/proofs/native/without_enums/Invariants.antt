use Rattle.std.proofs.Common.{◌≡◌, ◌++◌, false, drop}
use Rattle.lower_added.specs.Natives.{without_enums}
use Rattle.lower_added.proofs.native.without_enums.Given as goal

-- those that are kept, and those of what is left, are all
abbrev pub invariant-loop-place : goal.invariant-loop-place
invariant-loop-place l = l.made.items ++ without_enums l.in_enum (drop l.place l.numbered) ≡ without_enums false l.numbered
