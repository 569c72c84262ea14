-- Lists with more behind them.
use Rattle.std.proofs.Common.{append_assoc}
use Rattle.std.proofs.lemmas.List.{map-append}

pub ruleset pushes = (map-append, append_assoc)

pub ruleset joins = (append_assoc)
