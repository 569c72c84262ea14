use Rattle.std.proofs.Common.{◌∙◌, ◌+◌, ◌<◌, arith, List, [], ◌∷◌, ◌++◌, length, map, drop, sym, ap, append_assoc}
use Rattle.std.proofs.lemmas.List.{length-append, map-append}
use Rattle.lower_annotation.specs.Seen.{alias, entries, entry, place_at}
use Rattle.lower_annotation.specs.Written as w
use Rattle.lower_annotation.specs.declared.entry.Entry.{Entry}
use Rattle.lower_annotation.proofs.Rounds.{each-more}
use Rattle.lower_annotation.proofs.round.round.Goals as goal

pub loop-place-preserved : goal.loop-place-preserved
loop-place-preserved g c =
    let a = g.S.Surroundings.around c.args.outside.now in
    let all = c.args.all.now in
    let before = c.args.before.now in
    let i = c.loop-place.place in
    let made = c.loop-place.made.items in
    let one : List Entry = c.in_ok-next.next ∷ [] in
    let next = w.next_entry c.args.writes a (place_at c.args.places.now) (entries a before) in
    let rest = w.with_each next (map alias (drop (i + 1) all)) (map (entry a) (drop (i + 1) before)) in
    let beside : i < length before = omega (arith, c.loop-place-test.true, c.requires) in
    record {
      length = omega (arith, ap length c.in_ok-push.ensures.items, length-append made one, c.loop-place.invariant.length);
      entries =
          ap (λ (l : List w.Entry). l ++ rest) (ap (entries a) c.in_ok-push.ensures.items ∙ map-append (entry a) made one)
          ∙ append_assoc (entries a made) (entries a one) rest
          ∙ ap (λ (e : w.Entry). entries a made ++ e ∷ rest) c.in_ok-next.ensures
          ∙ ap (λ (l : List w.Entry). entries a made ++ l)
          (sym (each-more next alias (entry a) all before i c.index-all-place.result c.index-before-place.result c.loop-place-test.true beside c.index-all-place.is c.index-before-place.is))
          ∙ c.loop-place.invariant.entries;
    }
