use Rattle.std.proofs.Common.{◌≡◌, fold, drop}
use Rattle.scope_mention.specs.Text.{step, at, unwritten}
use Rattle.scope_mention.specs.declared.text.Mode.TheVariants.{Text}
use Rattle.scope_mention.proofs.text.cooked.Given as goal

-- what reading the rest comes to is what reading all does
abbrev pub invariant-loop-b : goal.invariant-loop-b
invariant-loop-b l = fold step l.reader (drop l.b-index l.inner) ≡ fold step (at Text unwritten) l.inner
