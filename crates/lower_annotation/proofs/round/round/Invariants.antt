use Rattle.std.proofs.Common.{◌≡◌, ◌++◌, map, drop, length}
use Rattle.lower_annotation.specs.Seen.{alias, entries, entry, place_at}
use Rattle.lower_annotation.specs.Written as w
use Rattle.lower_annotation.proofs.round.round.Given as goal

abbrev pub invariant-loop-place : goal.invariant-loop-place
invariant-loop-place g l = let a = g.S.Surroundings.around l.outside in let next = w.next_entry l.writes a (place_at l.places) (entries a l.before) in record {
  length : length l.made.items ≡ l.place;
  entries : entries a l.made.items ++ w.with_each next (map alias (drop l.place l.all)) (map (entry a) (drop l.place l.before))
      ≡ w.round l.writes a (place_at l.places) (map alias l.all) (entries a l.before);
}
