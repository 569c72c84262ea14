-- What the answer of a write says.
use Rattle.std.specs.Prelude.{◌≡◌, ℕ, List, [], ◌++◌, take, length, Bool, true, false, ◌&&◌, ◌==◌, nat_lt, Option, Result, Ok, Err}
use Rattle.std.specs.Io.KnownBytes.{append_known}
use Rattle.dart_edge.specs.declared.sink.SinkFault.{SinkFault}
use Rattle.dart_edge.specs.declared.sink.SinkFault.TheVariants.{Failed, Memory}

-- what the call took of the piece
abbrev pub taken : Result ℕ SinkFault → List ℕ → List ℕ
taken (Ok count) piece = take count piece
taken (Err fault) piece = []

-- the answer is that the sink failed
abbrev pub sink_failed : {T : Type 0} → Result T SinkFault → Bool
sink_failed (Ok done) = false
sink_failed (Err Memory) = false
sink_failed (Err Failed) = true

-- the answer is that the sink failed, or took nothing of a piece that isn't empty
abbrev pub write_failed : Result ℕ SinkFault → List ℕ → Bool
write_failed (Ok count) piece = (count == 0) && nat_lt 0 (length piece)
write_failed (Err Memory) piece = false
write_failed (Err Failed) piece = true

-- the list begins with this prefix
abbrev pub IsPrefix : List ℕ → List ℕ → Type 0
IsPrefix prefix whole = (rest : List ℕ) × (whole ≡ prefix ++ rest)

-- What was written grew by a prefix of the text.
abbrev pub WrotePrefix : Option (List ℕ) → Option (List ℕ) → List ℕ → Type 0
WrotePrefix before after text = (prefix : List ℕ) × IsPrefix prefix text
    × (after ≡ append_known before prefix)
