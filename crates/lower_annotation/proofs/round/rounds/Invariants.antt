use Rattle.std.proofs.Common.{◌≡◌, ◌-◌, map, length}
use Rattle.lower_annotation.specs.Seen.{alias, entries, place_at}
use Rattle.lower_annotation.specs.Written as w
use Rattle.lower_annotation.proofs.round.rounds.Given as goal

-- what is left of the rounds leads to all of them
abbrev pub invariant-loop-round : goal.invariant-loop-round
invariant-loop-round g l = let a = g.S.Surroundings.around l.outside in let all = map alias l.all in record {
  long : length l.made.items ≡ length l.all;
  rounds : w.rounds l.writes a (place_at l.places) all (length all - l._round) (entries a l.made.items)
      ≡ w.rounds l.writes a (place_at l.places) all (length all) (entries a l.fn.first.items);
}
