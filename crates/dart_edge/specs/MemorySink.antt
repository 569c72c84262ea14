-- What the sink in memory whose listed calls fail holds.
use Rattle.std.specs.Prelude.{ℕ, List}
use Rattle.dart_edge.specs.declared.memory.MemSink.{MemSink}

abbrev pub sink_written : MemSink → List ℕ
sink_written s = s.written

-- the numbers of the calls that fail
abbrev pub sink_fail : MemSink → List ℕ
sink_fail s = s.calls.fail.items

-- the number of the next call
abbrev pub sink_calls : MemSink → ℕ
sink_calls s = s.calls.made

abbrev pub sink_faults : MemSink → ℕ
sink_faults s = s.calls.faults

-- the most bytes that a call takes
abbrev pub sink_piece : MemSink → ℕ
sink_piece s = s.piece
