-- What sources in memory, and the sink in memory that never fails, hold.
use Rattle.std.specs.Prelude.{ℕ, List}
use Rattle.dart_edge.specs.Files.{Files}
use Rattle.dart_edge.specs.declared.memory.NoFaultSources.{NoFaultSources}
use Rattle.dart_edge.specs.declared.memory.MemSources.{MemSources}
use Rattle.dart_edge.specs.declared.memory.NoFaultSink.{NoFaultSink}

abbrev pub safe_files : NoFaultSources → Files
safe_files s = s.files.items

abbrev pub mem_files : MemSources → Files
mem_files s = s.files.items

-- the numbers of the calls that fail
abbrev pub mem_fail : MemSources → List ℕ
mem_fail s = s.calls.fail.items

-- the number of the next call
abbrev pub mem_calls : MemSources → ℕ
mem_calls s = s.calls.made

abbrev pub mem_faults : MemSources → ℕ
mem_faults s = s.calls.faults

abbrev pub safe_written : NoFaultSink → List ℕ
safe_written s = s.written
