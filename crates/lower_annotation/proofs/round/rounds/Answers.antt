use Rattle.std.proofs.Common.{◌≡◌, ◌∙◌, suc, ◌+◌, ◌-◌, arith, true, List, length, map, sym, ap}
use Rattle.std.proofs.lemmas.List.{length-map}
use Rattle.lower_annotation.specs.Seen.{alias, alike, entries, place_at}
use Rattle.lower_annotation.specs.Written as w
use Rattle.lower_annotation.specs.declared.entry.Entry.{Entry}
use Rattle.lower_annotation.proofs.Rounds.{alike-same, rounds-kept}
use Rattle.lower_annotation.proofs.round.rounds.Goals as goal

-- where a round changes nothing, no more are needed
pub returns-then-are_alike-clause-entries : goal.returns-then-are_alike-clause-entries
returns-then-are_alike-clause-entries g c =
    let a = g.S.Surroundings.around c.args.outside.now in
    let place = place_at c.args.places.now in
    let writes = c.args.writes in
    let all = map alias c.args.all.now in
    let i = c.loop-round._round in
    let k = length all - (i + 1) in
    let made = c.loop-round.made.items in
    let next = c.in_ok-next.next.items in
    let less : length all - i ≡ suc k = omega (arith, length-map c.args.all.now alias, c.loop-round-test.true) in
    let long : length made ≡ length all = c.loop-round.invariant.long ∙ sym (length-map c.args.all.now alias) in
    let is : entries a next ≡ w.round writes a place all (entries a made) =
    c.in_ok-next.ensures.entries ∙ ap (λ (l : List Entry). w.round writes a place all (entries a l)) c.deref.ensures.value in
    let flags : alike made next ≡ true =
    (λ j. alike (sym c.deref-in-loop-round.ensures.value j) (sym c.deref-in-loop-round-2.ensures.value j)) ∙ sym c.are_alike.ensures ∙ c.if-are_alike.true in
    let same : entries a next ≡ entries a made = alike-same a place writes (entries a made) all made next long is flags in
    sym (rounds-kept a place writes all k (entries a next) (ap (w.round writes a place all) same ∙ sym is))
    ∙ ap (w.rounds writes a place all k) is ∙ sym (ap (λ m. w.rounds writes a place all m (entries a made)) less) ∙ c.loop-round.invariant.rounds

pub loop-round-preserved : goal.loop-round-preserved
loop-round-preserved g c =
    let a = g.S.Surroundings.around c.args.outside.now in
    let place = place_at c.args.places.now in
    let writes = c.args.writes in
    let all = map alias c.args.all.now in
    let i = c.loop-round._round in
    let k = length all - (i + 1) in
    let less : length all - i ≡ suc k = omega (arith, length-map c.args.all.now alias, c.loop-round-test.true) in
    record {
      long = c.in_ok-next.ensures.length;
      rounds =
          ap (w.rounds writes a place all k)
          (c.in_ok-next.ensures.entries ∙ ap (λ (l : List Entry). w.round writes a place all (entries a l)) c.deref.ensures.value)
          ∙ sym (ap (λ m. w.rounds writes a place all m (entries a c.loop-round.made.items)) less) ∙ c.loop-round.invariant.rounds;
    }
