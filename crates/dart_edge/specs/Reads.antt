-- What the answer of a read says.
use Rattle.std.specs.Prelude.{◌≡◌, ℕ, List, Bool, true, false, Option, Result, Ok, Err, IfOk, IfSome}
use Rattle.dart_edge.specs.declared.source.SourceFault.{SourceFault}
use Rattle.dart_edge.specs.declared.source.SourceFault.TheVariants.{Failed, Memory}
use Rattle.dart_edge.specs.Files.{Files, file_of}

-- the answer is that the source failed
abbrev pub read_failed : {T : Type 0} → Result T SourceFault → Bool
read_failed (Ok found) = false
read_failed (Err Memory) = false
read_failed (Err Failed) = true

-- If the files are told, the answer is what they have under the name.
abbrev pub ReadsFile : Option Files → List ℕ → Result (Option (List ℕ)) SourceFault → Type 0
ReadsFile told name result =
    IfSome told (λ files. IfOk result (λ found. found ≡ file_of files name))
