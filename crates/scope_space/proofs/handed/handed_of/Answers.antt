use Rattle.std.proofs.Common.{length, sym, subst, inl, inr, arith}
use Rattle.std.proofs.lemmas.Bool.{cases_lt}
use Rattle.scope_space.specs.Building.{ListsAll}
use Rattle.scope_space.proofs.Entries.{cases_last, still_all, none_past}
use Rattle.scope_space.proofs.handed.handed_of.Goals as goal

pub loop-owner-preserved : goal.loop-owner-preserved
loop-owner-preserved c =
    let libraries = c.args.libraries.now in
    let next = c.hand_all.new.handed.items in
    record {
      are = c.in_ok-hand_all.ensures.sound;
      all = λ owner l. elim (cases_last owner c.loop-owner.owner l) [
        | inl below ↦ still_all libraries c.loop-owner.handed.items next owner c.in_ok-hand_all.ensures.kept (c.loop-owner.invariant.all owner below)
        | inr same ↦ subst (ListsAll libraries next) (sym same) c.in_ok-hand_all.ensures.complete
      ];
    }

pub returns-clause-complete : goal.returns-clause-complete
returns-clause-complete c owner = elim (cases_lt owner (length c.args.libraries.now)) [
  | inl below ↦ c.loop-owner.invariant.all owner (omega (arith, below, c.loop-owner-test.false))
  | inr past ↦ none_past c.args.libraries.now c.loop-owner.handed.items owner (omega (arith, past))
]
