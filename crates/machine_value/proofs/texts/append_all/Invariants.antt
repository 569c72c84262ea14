-- the units so far and those of the values that are left are those of all
use Rattle.std.proofs.Common.{◌≡◌, Some}
use Rattle.evaluation.specs.Creation.{behind, joined}
use Rattle.machine_frame.specs.Outside.{setting_of}
use Rattle.machine_value.proofs.Joined.{rest}
use Rattle.machine_value.proofs.texts.append_all.Given as goal

abbrev pub invariant-loop-value : goal.invariant-loop-value
invariant-loop-value l =
    behind (Some l.units) (rest (setting_of l.a) l.run.store l.values l.value-index) ≡ behind (Some l.initial.units) (joined (setting_of l.a) l.run.store l.values)
