use Rattle.std.proofs.Common.{◌≡◌, ◌∙◌, ◌<◌, ◌++◌, ◌∷◌, [], true, Some, length, slice_get, sym, ap, subst, inl, inr, arith}
use Rattle.std.proofs.lemmas.Option.{slice_get_read, slice_get_within}
use Rattle.scope_space.specs.declared.handed.Handed.{Handed}
use Rattle.scope_space.specs.Building.{AreHanded, Keeps, Lists}
use Rattle.scope_space.proofs.Entries.{cases_last, more_handed, keeps_all, keeps_more, still_listed, last_listed}
use Rattle.scope_space.proofs.handed.hand_on.Goals as goal

pub loop-at-preserved : goal.loop-at-preserved
loop-at-preserved c =
    let libraries = c.args.libraries.now in
    let owner = c.args.owner in
    let name = c.args.name.0 in
    let now = c.loop-at.handed.items in
    let marks = c.in_ok-marks.marks.items in
    let one : Handed = record { library = c.loop-at.at; name = c.args.name; owner = owner; is_dart = c.is_of_dart-is_dart.result } in
    let listed : c.loop-at.at < length marks = subst (λ n. c.loop-at.at < n) (sym c.in_ok-marks.ensures.each) c.loop-at-test.true in
    let mark : slice_get marks c.loop-at.at ≡ Some true =
    slice_get_read marks (length marks) c.loop-at.at c.index.result.now (λ _. length marks) listed c.index.ensures ∙ ap Some c.if-not-index.false in
    let items = c.in_ok-push.ensures.items in
    record {
      are = subst (AreHanded libraries) (sym items) (more_handed libraries now one c.loop-at.invariant.are
          (record { hands = (c.in_ok-marks.ensures.hands c.loop-at.at).0 mark; dart = c.is_of_dart-is_dart.ensures }));
      kept = subst (Keeps c.args.handed.now.items) (sym items) (keeps_more c.args.handed.now.items now one c.loop-at.invariant.kept);
      marked = λ k l h. subst (λ list. Lists list owner name k) (sym items) (elim (cases_last k c.loop-at.at l) [
        | inl below ↦ still_listed now (now ++ one ∷ []) owner name k (keeps_more now now one (keeps_all now)) (c.loop-at.invariant.marked k below h)
        | inr same ↦ subst (λ k. Lists (now ++ one ∷ []) owner name k) (sym same) (last_listed now one)
      ]);
    }

pub returns-clause-complete : goal.returns-clause-complete
returns-clause-complete c = record {
  each = λ at hands.
      let mark = (c.in_ok-marks.ensures.hands at).1 hands in
      let l = slice_get_within c.in_ok-marks.marks.items at true mark in
      c.loop-at.invariant.marked at (omega (arith, l, c.in_ok-marks.ensures.each, c.loop-at-test.false)) mark;
}
