use Rattle.std.proofs.Common.{◌≡◌, take}
use Rattle.std.specs.List.{flat_map}
use Rattle.scope_space.specs.Building.{offered_by}
use Rattle.scope_space.proofs.offer.offers_of.Given as goal

abbrev pub invariant-loop-import : goal.invariant-loop-import
invariant-loop-import l = l.offers.items ≡ flat_map (offered_by l.handed) (take l.import-index l.library.imports.items)
