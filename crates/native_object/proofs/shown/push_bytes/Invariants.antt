-- the bytes so far are added
use Rattle.std.proofs.Common.{◌≡◌, ◌++◌, take}
use Rattle.native_object.proofs.shown.push_bytes.Given as goal

abbrev pub invariant-loop-byte : goal.invariant-loop-byte
invariant-loop-byte l = l.units ≡ l.fn.units ++ take l.byte-index l.bytes
