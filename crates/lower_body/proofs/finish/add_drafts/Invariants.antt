use Rattle.std.proofs.Common.{◌≡◌, ◌++◌, map, length}
use Rattle.std.specs.Vec.Iter.{into_iter_items, into_iter_len}
use Rattle.translation.specs.ClassBodies as b
use Rattle.lower_leaf.specs.Forms.{cores}
use Rattle.lower_leaf.specs.Seen.{seen}
use Rattle.lower_class.specs.Views.{draft}
use Rattle.lower_body.specs.Views.{all_generated}
use Rattle.lower_body.proofs.finish.add_drafts.Given as goal

abbrev pub invariant-loop-one : goal.invariant-loop-one
invariant-loop-one g l = let a = g.S.Surroundings.around l.outside in record {
  made : all_generated a l.found ++ map b.generated (map (draft a) (into_iter_items l.one-iterator))
      ≡ map b.generated (map (draft a) (into_iter_items l.initial.one-iterator));
  added : b.with_drafts (cores a l.values.items) (map (draft a) (into_iter_items l.one-iterator)) (seen a l.state)
      ≡ b.with_drafts (cores a l.values.items) (map (draft a) (into_iter_items l.initial.one-iterator)) (seen a l.fn.state);
  left : into_iter_len l.one-iterator ≡ length (into_iter_items l.one-iterator);
}
