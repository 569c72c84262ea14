use Rattle.std.proofs.Common.{◌≡◌, ◌++◌, map, drop, length}
use Rattle.lower_annotation.specs.Seen.{alias, entries}
use Rattle.lower_annotation.specs.Written as w
use Rattle.lower_annotation.proofs.round.first_entries.Given as goal

abbrev pub invariant-loop-one : goal.invariant-loop-one
invariant-loop-one g l = let a = g.S.Surroundings.around l.outside in record {
  length : length l.made.items ≡ l.one-index;
  entries : entries a l.made.items ++ map (w.first_entry l.waiting) (map alias (drop l.one-index l.all)) ≡ map (w.first_entry l.waiting) (map alias l.all);
}
