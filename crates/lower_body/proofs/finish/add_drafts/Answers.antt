use Rattle.std.proofs.Common.{◌≡◌, ◌∙◌, ◌∷◌, [], ◌++◌, List, map, length, sym, ap, arith}
use Rattle.std.specs.Vec.Iter.{into_iter_items}
use Rattle.translation.specs.ClassBodies as b
use Rattle.lower_leaf.specs.Forms.{cores}
use Rattle.lower_leaf.specs.Seen.{seen}
use Rattle.lower_class.specs.Views.{draft}
use Rattle.lower_class.specs.declared.construct.Draft.{Draft}
use Rattle.lower_body.proofs.Drafted.{added_step, made_step, added_end, made_end, nothing_left}
use Rattle.lower_body.proofs.finish.add_drafts.Goals as goal

pub loop-one-preserved : goal.loop-one-preserved
loop-one-preserved g c =
    let a = g.S.Surroundings.around c.args.outside.now in
    let at = c.loop-one in
    let x = c.in-Some.one in
    let steps : into_iter_items at.one-iterator ≡ x ∷ into_iter_items c.next.new.self = c.in-Some.ensures.steps.0 in record {
      made = made_step a (into_iter_items at.one-iterator) (into_iter_items c.next.new.self) x at.found.items c.push.new.self.items c.in_ok-add_draft.field-0 _
          steps c.in_ok-push.ensures.items c.in_ok-add_draft.ensures.made at.invariant.made;
      added = added_step a (cores a c.args.values.now.items) (into_iter_items at.one-iterator) (into_iter_items c.next.new.self) x
          (seen a at.state) (seen a c.add_draft.new.state) _ steps c.in_ok-add_draft.ensures.added at.invariant.added;
      left = (let was = at.invariant.left in let gone = c.in-Some.ensures.steps.1 in let short = ap length steps in omega arith);
    }

pub returns : goal.returns
returns g c =
    let a = g.S.Surroundings.around c.args.outside.now in
    let at = c.loop-one in
    let none = c.in-None.ensures.steps in
    let empty : into_iter_items at.one-iterator ≡ [] = nothing_left _ (sym at.invariant.left ∙ none.0) in
    let all = c.into_iter-one-iterator.ensures.into_iter_gives.0 in record {
      made = made_end a (into_iter_items at.one-iterator) at.found.items _ empty at.invariant.made
          ∙ ap (λ (l : List Draft). map b.generated (map (draft a) l)) all;
      added = added_end a (cores a c.args.values.now.items) (into_iter_items at.one-iterator) (seen a at.state) _ empty at.invariant.added
          ∙ ap (λ (l : List Draft). b.with_drafts (cores a c.args.values.now.items) (map (draft a) l) (seen a c.args.state.now)) all;
    }
