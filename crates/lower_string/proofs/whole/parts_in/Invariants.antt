use Rattle.std.proofs.Common.{◌≡◌, [], fold, drop}
use Rattle.translation.specs.Strings as s
use Rattle.lower_string.specs.Parts.{reading}
use Rattle.lower_string.proofs.whole.parts_in.Given as goal

abbrev pub invariant-loop-b : goal.invariant-loop-b
invariant-loop-b l = fold s.step (reading l.reading) (drop l.b-index l.inner)
    ≡ fold s.step (record { is_raw = l.is_raw; begun = s.plain; units = []; parts = [] }) l.inner
