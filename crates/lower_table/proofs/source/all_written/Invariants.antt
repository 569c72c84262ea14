use Rattle.std.proofs.Common.{◌≡◌, map, take}
use Rattle.lower_added.specs.Written.{written}
use Rattle.lower_table.specs.Made.{written_made}
use Rattle.lower_table.proofs.source.all_written.Given as goal

abbrev pub invariant-loop-class : goal.invariant-loop-class
invariant-loop-class l = map (written l.scopes.kept) l.made.items ≡ map (written_made l.scopes) (take l.class-index l.scopes.classes.items)
