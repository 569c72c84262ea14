use Rattle.std.proofs.Common.{◌≡◌, ◌+◌, ◌++◌, List, ℕ, drop, map}
use Rattle.lower_added.specs.Added.{forwarders}
use Rattle.lower_added.specs.Written.{generative}
use Rattle.lower_added.proofs.added.forwarders.Given as goal

-- those that are made, and those of what is left, are all
abbrev pub invariant-loop-one : goal.invariant-loop-one
invariant-loop-one l = record {
  count : l.next ≡ l.first + l.one-index;
  known : (texts : List (List ℕ)) → map (generative texts) l.constructors.items ++ forwarders l.next (map (generative texts) (drop l.one-index l.above))
      ≡ forwarders l.first (map (generative texts) l.above);
}
