use Rattle.std.proofs.Common.{◌≡◌, drop, find, map}
use Rattle.dart_tree.specs.UnitView.{unit}
use Rattle.scope_load.specs.Judge.{is_wrong}
use Rattle.scope_load.proofs.judge.wrong_link.Given as goal

-- the links that are left decide
abbrev pub invariant-loop-link : goal.invariant-loop-link
invariant-loop-link l = find (is_wrong (map unit l.units) l.links l.at) (drop l.link-index l.links) ≡ find (is_wrong (map unit l.units) l.links l.at) l.links
