use Rattle.std.proofs.Common.{length, take, ◌-◌, ◌≡◌, ◌≤◌}
use Rattle.std.specs.Io.KnownBytes.{append_known}
use Rattle.dart_edge.specs.Writes.{WrotePrefix}
use Rattle.dart_edge.proofs.sink.write_whole.Given as goal

abbrev pub invariant-loop-at : goal.invariant-loop-at
invariant-loop-at g l = record {
  within : l.at ≤ length l.piece;
  written : g.K.Sink.written l.sink ≡ append_known (g.K.Sink.written l.initial.sink) (take l.at l.piece);
  part : WrotePrefix (g.K.Sink.written l.initial.sink) (g.K.Sink.written l.sink) l.piece;
  faults : g.K.Sink.faults l.sink ≡ g.K.Sink.faults l.initial.sink;
}

abbrev pub decreases-loop-at : goal.decreases-loop-at
decreases-loop-at g l = length l.piece - l.at
