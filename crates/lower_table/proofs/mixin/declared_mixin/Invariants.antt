use Rattle.std.proofs.Common.{◌≡◌, ◌+◌, List, ℕ, length}
use Rattle.lower_table.specs.Rows.{declared_mixin}
use Rattle.lower_table.specs.Seen.{rows, ty}
use Rattle.lower_table.proofs.mixin.declared_mixin.Given as goal

-- what is left of the steps leads from here to the same mixin
abbrev pub invariant-loop-step : goal.invariant-loop-step
invariant-loop-step l = (texts : List (List ℕ)) (left : ℕ) → l._step + left ≡ length l.classes
    → declared_mixin (rows texts l.classes) l.applications left (ty texts l.mixin) ≡ declared_mixin (rows texts l.classes) l.applications (length l.classes) (ty texts l.of)
