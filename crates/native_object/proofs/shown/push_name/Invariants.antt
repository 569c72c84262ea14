-- what is left up to a mark makes the whole
use Rattle.std.proofs.Common.{◌≡◌, ◌++◌, drop}
use Rattle.native_object.specs.Shown.{before_mark}
use Rattle.native_object.proofs.shown.push_name.Given as goal

abbrev pub invariant-loop-byte : goal.invariant-loop-byte
invariant-loop-byte l = l.units ++ before_mark (drop l.byte-index l.name) ≡ l.fn.units ++ before_mark l.name
