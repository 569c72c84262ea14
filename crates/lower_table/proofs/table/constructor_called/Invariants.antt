use Rattle.std.proofs.Common.{◌≡◌, drop, map}
use Rattle.std.specs.Prelude.{bytes_eq, find}
use Rattle.lower_added.specs.Added.{Generative}
use Rattle.lower_added.specs.Written.{generative}
use Rattle.lower_table.proofs.table.constructor_called.Given as goal

-- it is not among those that were passed
abbrev pub invariant-loop-one : goal.invariant-loop-one
invariant-loop-one l = find (λ (x : Generative). bytes_eq x.id l.id) (map (generative l.names) l.all) ≡ find (λ (x : Generative). bytes_eq x.id l.id) (map (generative l.names) (drop l.one-index l.all))
