use Rattle.std.proofs.Common.{◌≡◌, ◌∙◌, ◌++◌, ◌+◌, ◌∷◌, [], List, ℕ, drop, get_or, map, sym, ap}
use Rattle.std.proofs.lemmas.List.{map-append}
use Rattle.lower_added.specs.Added.{added_from, added_to, constructors_at, starts_from, written_at}
use Rattle.lower_added.specs.Written.{all_generative, written, added}
use Rattle.lower_added.specs.declared.written.Generative.{Generative}
use Rattle.std.specs.Global.{Vec}
use Rattle.lower_added.proofs.Forwarding.{added-step, starts-step}
use Rattle.lower_added.proofs.Nothing.{no_row}
use Rattle.lower_added.proofs.added.all_added.Goals as goal

-- what is added to the class at hand
is_next : (c : goal.In_ok-push-2) (texts : List (List ℕ)) → let row = get_or c.args.rows.now c.loop-row.row-index no_row in
    added texts c.in_ok-one.one ≡ added_to row.is_application (written_at (map (written texts) c.args.all.now) row.writes)
    (constructors_at (map (all_generative texts) c.loop-row.done.items) row.superclass) c.loop-row.number
is_next c texts = let row = get_or c.args.rows.now c.loop-row.row-index no_row in
    c.in_ok-one.ensures texts
    ∙ (λ i. added_to row.is_application (c.written_at-of.ensures texts i)
    ((c.constructors_at-above.ensures texts ∙ ap (λ (l : List (Vec Generative)). constructors_at (map (all_generative texts) l) row.superclass) c.deref.ensures.value) i)
    c.loop-row.number)

-- the constructors of all that are done
more_done : (c : goal.In_ok-push-2) (texts : List (List ℕ)) → map (all_generative texts) c.push-in-loop-row.new.self.items
    ≡ map (all_generative texts) c.loop-row.done.items ++ all_generative texts c.in_ok-one.one.constructors ∷ []
more_done c texts = ap (map (all_generative texts)) c.in_ok-push-2.ensures.items
    ∙ map-append (all_generative texts) c.loop-row.done.items (c.in_ok-one.one.constructors ∷ [])

pub loop-row-preserved : goal.loop-row-preserved
loop-row-preserved c = record {
  constructors = λ texts. let all = map (written texts) c.args.all.now in let i = c.loop-row.row-index in
      ap (λ done. added_from all c.in_ok-one.one.next done (drop (i + 1) c.args.rows.now)) (more_done c texts)
      ∙ sym (added-step all c.loop-row.number (map (all_generative texts) c.loop-row.done.items) c.args.rows.now i c.loop-row-test.true
      (added texts c.in_ok-one.one) (is_next c texts))
      ∙ c.loop-row.invariant.constructors texts;
  starts = λ texts. let all = map (written texts) c.args.all.now in let i = c.loop-row.row-index in
      (λ j. c.in_ok-push.ensures.items j ++ starts_from all c.in_ok-one.one.next (more_done c texts j) (drop (i + 1) c.args.rows.now))
      ∙ sym (starts-step all c.loop-row.number (map (all_generative texts) c.loop-row.done.items) c.args.rows.now i c.loop-row-test.true
      (added texts c.in_ok-one.one) (is_next c texts) c.loop-row.starts.items)
      ∙ c.loop-row.invariant.starts texts;
}
