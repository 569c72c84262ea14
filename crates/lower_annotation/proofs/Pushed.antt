-- Lists with more behind them.
use Rattle.std.proofs.Common.{append_assoc, append-nil}
use Rattle.std.proofs.lemmas.List.{map-append}

pub ruleset pushes = (map-append, append_assoc, append-nil)
