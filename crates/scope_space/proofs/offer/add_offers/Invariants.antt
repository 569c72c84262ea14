use Rattle.std.proofs.Common.{◌≡◌, ◌++◌, take}
use Rattle.std.specs.List.{filter_map}
use Rattle.scope_space.specs.Building.{offered}
use Rattle.scope_space.proofs.offer.add_offers.Given as goal

abbrev pub invariant-loop-one : goal.invariant-loop-one
invariant-loop-one l = l.offers.items ≡ l.fn.offers.items ++ filter_map (offered l.import) (take l.one-index l.handed)
