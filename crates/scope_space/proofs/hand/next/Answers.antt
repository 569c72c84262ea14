use Rattle.std.proofs.Common.{◌≡◌, ◌∙◌, true, false, true≢false, Some, length, slice_get, sym, ap, arith}
use Rattle.std.proofs.lemmas.Option.{same_Some, slice_get_read, slice_get_within}
use Rattle.scope_space.specs.declared.library.Library.{Library}
use Rattle.scope_space.specs.Building.{takes_over}
use Rattle.scope_space.proofs.Marks.{below, mark_at}
use Rattle.scope_space.proofs.hand.next.Goals.{else-not-marks-at-via-then-not-marks-at+else-takes_over, else-not-marks-at-via-else-not-marks-at}
use Rattle.scope_space.proofs.hand.next.Goals as goal

pub returns-then-takes_over-clause-found : goal.returns-then-takes_over-clause-found
returns-then-takes_over-clause-found c = (
  mark_at c.args.marks.now c.loop-at.at false (omega (arith, c.requires, c.loop-at-test.true)) c.if-not-marks-at.true,
  c.index-libraries-at.result,
  slice_get_read c.args.libraries.now (length c.args.libraries.now) c.loop-at.at c.index-libraries-at.result (λ _. length c.args.libraries.now) c.loop-at-test.true c.index-libraries-at.is,
  sym c.takes_over.ensures ∙ c.if-takes_over.true,
)

pub loop-at-preserved : goal.loop-at-preserved
loop-at-preserved c at library l is h =
    below (λ k. (library : Library) → slice_get c.args.libraries.now k ≡ Some library → takes_over c.args.marks.now c.args.name.0 library ≡ true → slice_get c.args.marks.now k ≡ Some true)
    c.loop-at.at (λ k l library. c.loop-at.invariant k library l)
    (λ library is h. elim c.else-not-marks-at.branch [
      | else-not-marks-at-via-then-not-marks-at+else-takes_over w ↦
          let read = slice_get_read c.args.libraries.now (length c.args.libraries.now) c.loop-at.at w.index-libraries-at.result (λ _. length c.args.libraries.now) c.loop-at-test.true w.index-libraries-at.is in
          let same = same_Some library w.index-libraries-at.result (sym is ∙ read) in
          absurd (true≢false (sym h ∙ ap (takes_over c.args.marks.now c.args.name.0) same ∙ sym w.takes_over.ensures ∙ w.if-takes_over.false))
      | else-not-marks-at-via-else-not-marks-at w ↦
          mark_at c.args.marks.now c.loop-at.at true (omega (arith, c.requires, c.loop-at-test.true)) w.if-not-marks-at.false
    ]) at l library is h

pub returns-clause-closed : goal.returns-clause-closed
returns-clause-closed c at library is h = c.loop-at.invariant at library (let l = slice_get_within c.args.libraries.now at library is in omega (arith, l, c.loop-at-test.false)) is h
