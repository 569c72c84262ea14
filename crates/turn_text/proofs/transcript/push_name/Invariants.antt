-- the bytes so far are added
use Rattle.std.proofs.Common.{◌≡◌, ◌++◌, take}
use Rattle.turn_text.specs.Transcript.{shown_name}
use Rattle.turn_text.proofs.transcript.push_name.Given as goal

abbrev pub invariant-loop-byte : goal.invariant-loop-byte
invariant-loop-byte l = l.bytes ≡ l.fn.bytes ++ shown_name (take l.byte-index l.name)
