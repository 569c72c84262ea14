use Rattle.std.proofs.Common.{◌≡◌, ℕ, ◌<◌, ◌≤◌, false, get_or}
use Rattle.scope_declared.specs.declared.declaration.Declared.{Declared}
use Rattle.scope_table.specs.Order.{place_before}
use Rattle.scope_table.proofs.lookup.first_within.Given as goal

-- from here up to the index none counts longer
abbrev pub invariant-loop-first : goal.invariant-loop-first
invariant-loop-first l = record {
  low : l.first ≤ l.index;
  shorter : (j : ℕ) (d : Declared) → l.first ≤ j → j < l.index → place_before l.last (get_or l.entries j d).extent.last ≡ false;
}

abbrev pub decreases-loop-first : goal.decreases-loop-first
decreases-loop-first l = l.first
