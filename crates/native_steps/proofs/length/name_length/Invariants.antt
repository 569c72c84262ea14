-- what is left up to a mark is not counted yet
use Rattle.std.proofs.Common.{◌≡◌, ◌+◌, ◌≤◌, length, drop}
use Rattle.native_object.specs.Shown.{before_mark}
use Rattle.native_steps.proofs.length.name_length.Given as goal

abbrev pub invariant-loop-byte : goal.invariant-loop-byte
invariant-loop-byte l = (l.count ≤ l.byte-index) × (l.count + length (before_mark (drop l.byte-index l.name)) ≡ length (before_mark l.name))
