use Rattle.std.proofs.Common.{◌≡◌, ◌+◌, ◌≤◌, ◌++◌, List, ℕ, drop, map}
use Rattle.std.specs.List.{enumerate_from}
use Rattle.lower_added.specs.Written.{generative, generatives}
use Rattle.lower_added.proofs.written.generatives.Given as goal

-- those that are made, and those among what is left, are all
abbrev pub invariant-loop-one : goal.invariant-loop-one
invariant-loop-one l = record {
  count : l.number ≡ l.first + l.one-index;
  within : l.place ≤ l.one-index;
  known : (texts : List (List ℕ)) → map (generative texts) l.made.items ++ generatives texts (enumerate_from l.number (drop l.one-index l.inside)) (drop l.place l.ways)
      ≡ generatives texts (enumerate_from l.first l.inside) l.ways;
}
