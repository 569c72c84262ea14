use Rattle.std.proofs.Common.{◌≡◌, ◌++◌}
use Rattle.machine_value.proofs.Shown.{rest}
use Rattle.machine_value.proofs.texts.append_shown.Given as goal

abbrev pub invariant-loop-byte : goal.invariant-loop-byte
invariant-loop-byte l = l.units ++ rest l.bytes l.byte-index ≡ l.initial.units ++ rest l.bytes 0
