use Rattle.std.proofs.Common.{rules}
use Rattle.dart_edge.proofs.Written.{append_known-take, wrote_take}
use Rattle.dart_edge.proofs.sink.write_whole.Goals as goal

pub loop-at-preserved : goal.loop-at-preserved
loop-at-preserved g c =
    let more = append_known-take _ _ _ _ _ _ c.loop-at.invariant.written c.in-Ok.ensures.ok in
    record {
      within = search rules;
      written = more;
      part = wrote_take _ _ _ _ more;
      faults = search rules;
    }
