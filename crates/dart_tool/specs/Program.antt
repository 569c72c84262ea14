-- Which reason there is against a program of several files (ECMA-408, 18 Libraries and Scripts).
use Rattle.std.specs.Prelude.{◌≡◌, ◌⊎◌, ℕ, List, [], codes, Bool, true, false, Option, None, Some, Result, Ok, Err, IfSome, slice_get, unwrap_or}
use Rattle.dart_base.specs.declared.place.Place.{Place}
use Rattle.dart_edge.specs.Files.{Files, file_of}
use Rattle.dart_execute.specs.declared.cause.Cause.{Cause}
use Rattle.dart_execute.specs.declared.execution.Execution.TheVariants as execution
use Rattle.dart_execute.specs.Execution.{ExecutesAs}
use Rattle.dart_run.specs.declared.written.Written.{Written}
use Rattle.dart_words.specs.declared.options.Options.{Options}
use Rattle.scope_files.specs.Files.{NameGives}
use Rattle.scope_load.specs.declared.reason.Reason.{Reason}
use Rattle.scope_load.specs.declared.reason.LoadFault.{LoadFault}
use Rattle.scope_load.specs.declared.reason.LoadFault.TheVariants as l
use Rattle.scope_load.specs.declared.units.UnitName.{UnitName}
use Rattle.scope_load.specs.declared.units.UnitName.TheVariants as n
use Rattle.scope_load.specs.Load.{Loads, Stops, load_failed}
use Rattle.scope_load.specs.declared.loaded.Loaded.{Loaded}
use Rattle.scope_load.specs.State.{State, state_of}
use Rattle.scope_reason.specs.declared.reason.ProgramReason.{ProgramReason}
use Rattle.scope_reason.specs.declared.reason.ProgramReason.TheVariants as w
use Rattle.scope_reason.specs.Reason.{program_reason}
use Rattle.dart_tool.specs.declared.program.FileRefusal.{FileRefusal}
use Rattle.dart_tool.specs.declared.program.RunStop.{RunStop}
use Rattle.dart_tool.specs.declared.program.RunStop.TheVariants.{Refused, Failed, Memory}
use Rattle.dart_tool.specs.declared.status.Refusal.TheVariants.{ProgramTooLarge, Duplicate, NoMain}
use Rattle.dart_tool.specs.Status.{reason_refusal, cause_refusal}

-- the name by which a refusal calls a unit
abbrev pub unit_file : UnitName → List ℕ
unit_file (n.File name) = name
unit_file n.Core = codes "dart:core"
unit_file n.Isolate = codes "dart:isolate"

abbrev pub unit_refusal : UnitName → Reason → FileRefusal
unit_refusal name reason = record { file = unit_file name; why = reason_refusal reason }

-- what a fault of loading stops: a unit is refused, or the program as a whole, or there was a fault
abbrev pub load_stop : LoadFault → RunStop
load_stop (l.Refused name reason) = Refused (unit_refusal name reason)
load_stop l.TooLarge = Refused (record { file = []; why = ProgramTooLarge })
load_stop l.Failed = Failed
load_stop l.Memory = Memory

-- the refusal of a program whose units are all loaded
abbrev pub program_refusal : ProgramReason → FileRefusal
program_refusal (w.Duplicate unit place name) = record { file = unit_file unit; why = Duplicate place name }
program_refusal w.NoMain = record { file = []; why = NoMain }

-- The units aren't loaded, since this is the first reason that loading comes to.
abbrev pub LoadRefused : Files → List ℕ → FileRefusal → Type 0
LoadRefused files root against =
    (fault : LoadFault) × Stops (NameGives (Some files)) root fault × (load_stop fault ≡ Refused against)

-- All units are loaded, and this is the first reason against them as a whole.
abbrev pub WholeRefused : Files → List ℕ → FileRefusal → Type 0
WholeRefused files root against =
    (state : State) × (reason : ProgramReason) × Loads (NameGives (Some files)) root state ×
    (program_reason state ≡ Some reason) × (against ≡ program_refusal reason)

-- With these files, the program with this root is refused for this: it is the first reason of all.
abbrev pub ProgramRefused : Files → List ℕ → FileRefusal → Type 0
ProgramRefused files root against = LoadRefused files root against ⊎ WholeRefused files root against

-- All units are loaded, and nothing is against them, one by one or as a whole.
pub record IsSound (files : Files) (root : List ℕ) (state : State) : Type 0 where
  pub loads : Loads (NameGives (Some files)) root state
  pub sound : program_reason state ≡ None

-- the unit that a place is in; each place of a program is in a unit of it
abbrev pub unit_at : State → Place → UnitName
unit_at state place = unwrap_or (slice_get state.names place.unit) n.Core

-- the refusal of a program whose units are loaded, for what is found at a place
abbrev pub execution_refusal : State → Place → Cause → FileRefusal
execution_refusal state place cause = record { file = unit_file (unit_at state place); why = cause_refusal place cause }

-- What an answer says of a program whose units are loaded: it ran and wrote this, or has what isn't built, or is refused for this.
abbrev pub EndsAs : State → Options → Result (Option Written) RunStop → Type 0
EndsAs state options (Ok (Some made)) = ExecutesAs state options (execution.Ran made)
EndsAs state options (Ok None) = ExecutesAs state options execution.NotBuilt
EndsAs state options (Err (Refused against)) = (place : Place) × (cause : Cause) ×
    ExecutesAs state options (execution.Refused place cause) × (against ≡ execution_refusal state place cause)
EndsAs state options (Err Failed) = ⊥
EndsAs state options (Err Memory) = Unit {0}

-- The units are loaded with nothing against them, and this is found as the options ask.
abbrev pub ExecutionRefused : Files → List ℕ → Options → FileRefusal → Type 0
ExecutionRefused files root options against =
    (state : State) × (place : Place) × (cause : Cause) × IsSound files root state ×
    ExecutesAs state options (execution.Refused place cause) × (against ≡ execution_refusal state place cause)

-- The units are loaded with nothing against them, and the program runs as the options ask and writes this.
abbrev pub Finishes : Files → List ℕ → Options → Written → Type 0
Finishes files root options made =
    (state : State) × IsSound files root state × ExecutesAs state options (execution.Ran made)

-- a file could not be read
abbrev pub stop_failed : RunStop → Bool
stop_failed (Refused against) = false
stop_failed Failed = true
stop_failed Memory = false

-- loading failed, by this fault
abbrev pub fault_failed : LoadFault → Bool
fault_failed fault = load_failed {T = Unit {0}} (Err fault)

-- the answer is that a file could not be read
abbrev pub run_failed : {T : Type 0} → Result T RunStop → Bool
run_failed (Ok done) = false
run_failed (Err stop) = stop_failed stop

-- What is said of the files, where they are told and have this text under this name.
abbrev pub WhereHas : Option Files → List ℕ → List ℕ → (Files → Type 0) → Type 0
WhereHas told name text Says = IfSome told (λ files. file_of files name ≡ Some text → Says files)

-- What an answer of loading says of the root with this name and text: these are its units, with nothing against them; or it is refused
-- for this; or there was a fault.
abbrev pub LoadGives : Option Files → List ℕ → List ℕ → Result Loaded RunStop → Type 0
LoadGives told name text (Ok loaded) = WhereHas told name text (λ files. IsSound files name (state_of loaded))
LoadGives told name text (Err (Refused against)) = WhereHas told name text (λ files. ProgramRefused files name against)
LoadGives told name text (Err Failed) = Unit {0}
LoadGives told name text (Err Memory) = Unit {0}

-- What an answer says of the root with this name and text: it is refused for none of these reasons, or for this one, or there
-- was a fault.
abbrev pub Judges : {T : Type 0} → (Files → FileRefusal → Type 0) → Option Files → List ℕ → List ℕ → Result T RunStop → Type 0
Judges IsReason told name text (Ok value) = WhereHas told name text (λ files. (against : FileRefusal) → IsReason files against → ⊥)
Judges IsReason told name text (Err (Refused against)) = WhereHas told name text (λ files. IsReason files against)
Judges IsReason told name text (Err Failed) = Unit {0}
Judges IsReason told name text (Err Memory) = Unit {0}
