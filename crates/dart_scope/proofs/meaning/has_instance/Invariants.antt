use Rattle.std.proofs.Common.{◌≡◌, drop}
use Rattle.std.specs.List.{list_any}
use Rattle.dart_scope.specs.Meaning.{is_within}
use Rattle.dart_scope.proofs.meaning.has_instance.Given as goal

-- the stretches that are left decide
abbrev pub invariant-loop-stretch : goal.invariant-loop-stretch
invariant-loop-stretch l = list_any (is_within l.at) (drop l.stretch-index l.stretches) ≡ list_any (is_within l.at) l.stretches
