use Rattle.std.proofs.Common.{◌≡◌, ◌+◌, ◌≤◌, false, drop}
use Rattle.lower_added.specs.Written.{inner_count}
use Rattle.lower_added.proofs.written.inner_count.Given as goal

-- what is counted, and what is left to count, are all
abbrev pub invariant-loop-one : goal.invariant-loop-one
invariant-loop-one l = record {
  within : l.count ≤ l.one-index;
  counted : l.count + inner_count l.in_field (drop l.one-index l.inside) ≡ inner_count false l.inside;
}
