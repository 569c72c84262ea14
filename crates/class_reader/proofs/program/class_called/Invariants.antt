use Rattle.std.proofs.Common.{◌≡◌}
use Rattle.class_source.specs.Source.{class_called}
use Rattle.class_source.specs.View as shown
use Rattle.class_reader.specs.Seen.{classes}
use Rattle.class_reader.proofs.Called.{called_from}
use Rattle.class_reader.proofs.program.class_called.Given as goal

abbrev pub invariant-loop-index : goal.invariant-loop-index
invariant-loop-index g l = let a = g.S.Surroundings.around l.outside in
    called_from (shown.class a.texts) l.library l.name l.all.items l.index ≡ class_called l.library l.name 0 (classes a l.all)
