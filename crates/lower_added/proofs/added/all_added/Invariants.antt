use Rattle.std.proofs.Common.{◌≡◌, ◌++◌, List, ℕ, drop, map}
use Rattle.lower_added.specs.Added.{added_from, constructors_added, starts_added, starts_from}
use Rattle.lower_added.specs.Written.{all_generative, written}
use Rattle.lower_added.proofs.added.all_added.Given as goal

-- what is left is added behind those that are done
abbrev pub invariant-loop-row : goal.invariant-loop-row
invariant-loop-row l = record {
  constructors : (texts : List (List ℕ)) → added_from (map (written texts) l.all) l.number (map (all_generative texts) l.done.items) (drop l.row-index l.rows)
      ≡ constructors_added (map (written texts) l.all) l.first l.rows;
  starts : (texts : List (List ℕ)) → l.starts.items ++ starts_from (map (written texts) l.all) l.number (map (all_generative texts) l.done.items) (drop l.row-index l.rows)
      ≡ starts_added (map (written texts) l.all) l.first l.rows;
}
