-- What the files of the system and standard output count.
use Rattle.std.specs.Prelude.{ℕ}
use Rattle.dart_edge.specs.declared.real.Folder.{Folder}
use Rattle.dart_edge.specs.declared.real.StdSink.{StdSink}

abbrev pub folder_faults : {R F D : Type 0} → Folder R F D → ℕ
folder_faults s = s.faults

abbrev pub output_faults : {R : Type 0} → StdSink R → ℕ
output_faults s = s.faults
