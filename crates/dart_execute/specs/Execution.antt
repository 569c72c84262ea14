-- What becomes of a program whose units are all loaded, with nothing against them: it is refused for its classes, or for what
-- translation finds, or it runs (ECMA-408, 10 Classes, 18.4 Scripts).
use Rattle.std.specs.Prelude.{◌≡◌, ◌⊎◌, ℕ, nat_eq, List, length, Bool, true, false, Some}
use Rattle.std.specs.List.{list_any}
use Rattle.std.specs.Option.{option_map_or}
use Rattle.dart_base.specs.declared.limit.TheConstants.{NESTED_CALLS}
use Rattle.dart_base.specs.declared.place.Place.{Place}
use Rattle.dart_base.specs.Names.{AreDistinct}
use Rattle.dart_ir.specs.declared.class.Classes.{Classes}
use Rattle.class_fault.specs.declared.fault.Fault.{Fault}
use Rattle.class_fault.specs.declared.fault.Reason as class_reason
use Rattle.class_fault.specs.declared.fault.Reason.TheVariants as r
use Rattle.class_reader.specs.Built.{IsBuiltFrom, IsRefusedIn, IsOverlargeIn}
use Rattle.core_program.specs.declared.program.CoreProgram.{CoreProgram}
use Rattle.core_program.specs.Program as core
use Rattle.core_program.specs.ProgramView.{text_program, program}
use Rattle.core_names.specs.Within.{AreWithin}
use Rattle.dart_words.specs.declared.budget.Budget as words
use Rattle.dart_words.specs.declared.options.Options.{Options}
use Rattle.evaluation.specs.Turn.{Budget}
use Rattle.scope_load.specs.State.{State}
use Rattle.scope_load.specs.declared.loaded.Link.{Link}
use Rattle.translation.specs.Surroundings.{Text}
use Rattle.translation.specs.Program as p
use Rattle.translation.specs.Walk as w
use Rattle.scope_program.specs.Program.{Scoping, IsScoping}
use Rattle.dart_class.specs.Given.{class_given, source_units}
use Rattle.dart_lower.specs.Given.{given_of}
use Rattle.table_accessor.specs.Numbered.{IsNumbered}
use Rattle.lower_core.specs.Runnable as runnable
use Rattle.dart_run.specs.Run.{IsRunOf, on_failure}
use Rattle.dart_run.specs.declared.mode.Mode.{Mode}
use Rattle.dart_run.specs.declared.mode.Mode.TheVariants.{Production, Checked}
use Rattle.dart_run.specs.declared.written.Written.{Written}
use Rattle.dart_execute.specs.declared.cause.Cause.{Cause}
use Rattle.dart_execute.specs.declared.cause.Cause.TheVariants as cause
use Rattle.dart_execute.specs.declared.execution.Execution.{Execution}
use Rattle.dart_execute.specs.declared.execution.Execution.TheVariants.{Refused, NotBuilt, Ran}
use Rattle.dart_execute.specs.declared.isolate.TheConstants.{ISOLATE_UNIT}

-- ---- reasons

-- why the header of a class is refused
abbrev pub class_cause : class_reason.Reason → Cause
class_cause r.CyclicClasses = cause.CyclicClasses
class_cause r.BadSuper = cause.BadSuper
class_cause r.BadMixin = cause.BadMixin

-- why a program has no core
abbrev pub core_cause : w.Reason → Cause
core_cause (w.left_out place feature) = cause.LeftOut feature
core_cause (w.not_constant place) = cause.NotConstant
core_cause (w.bad_label place) = cause.BadLabel
core_cause (w.bad_constructor place) = cause.BadConstructor
core_cause (w.bad_switch place) = cause.BadSwitch
core_cause (w.bad_word place) = cause.BadWord
core_cause (w.too_large place) = cause.TooManyParameters

-- ---- runs

abbrev pub is_isolate : Link → Bool
is_isolate link = option_map_or (λ n. nat_eq n ISOLATE_UNIT) link.target false

-- A file of the program mentions `dart:isolate`.
abbrev pub mentions_isolate : State → Bool
mentions_isolate state = list_any is_isolate state.links

-- The program that runs: that core, with names by their numbers in the table of names, over that table of classes.
pub record IsCoreOf (texts : List Text) (k : Classes) (of : core.Program Text) (x : CoreProgram) : Type 0 where
  pub names : x.names ≡ texts
  pub classes : x.classes ≡ k
  pub same : text_program x ≡ runnable.program of
  pub within : AreWithin (length texts) (program x)

-- what a run shows of names: those that the units have without their annotations, which come first in the table
abbrev pub with_names : List Text → CoreProgram → CoreProgram
with_names kept x = record x { names = kept }

-- A program with a core runs, in a mode and within a budget. What may start isolates isn't built.
abbrev pub RunsIf : Bool → List Text → List Text → Classes → core.Program Text → Mode → Budget → Execution → Type 0
RunsIf true kept texts k of mode budget out = out ≡ NotBuilt
RunsIf false kept texts k of mode budget out =
    (x : CoreProgram) × (made : Written) × IsCoreOf texts k of x × IsRunOf (with_names kept x) (on_failure mode) budget made × (out ≡ Ran made)

-- What becomes of a program of which translation says this.
abbrev pub Follows : State → List Text → List Text → Classes → Mode → Budget → p.Answer → Execution → Type 0
Follows state kept texts k mode budget (p.accepted of) out = RunsIf (mentions_isolate state) kept texts k of mode budget out
Follows state kept texts k mode budget (p.rejected why) out = out ≡ Refused (p.place_of why) (core_cause why)
Follows state kept texts k mode budget p.not_built out = out ≡ NotBuilt

-- ---- the whole

-- The table of its classes, in which implicit accessors have numbers of their own.
pub record IsTableOf (state : State) (s : Scoping) (k : Classes) : Type 0 where
  pub built : Classes
  pub is_built : IsBuiltFrom (class_given state s) (source_units state) s.texts built
  pub numbered : IsNumbered s built k

-- It is translated over that table, and starts at its function `main`.
pub record IsTranslated (state : State) (s : Scoping) (mode : Mode) (budget : Budget) (out : Execution) : Type 0 where
  pub classes : Classes
  pub main : ℕ
  pub table : IsTableOf state s classes
  pub starts : s.main ≡ Some main
  pub follows : Follows state s.kept s.texts classes mode budget (p.core (given_of s state classes main)) out

-- the first header that is refused, or that is too large
abbrev pub IsRefusedBy : State → Scoping → Execution → Type 0
IsRefusedBy state s out = (f : Fault) × IsRefusedIn (class_given state s) (source_units state) s.texts f × (out ≡ Refused f.place (class_cause f.reason))

abbrev pub IsTooLarge : State → Scoping → Execution → Type 0
IsTooLarge state s out = (place : Place) × IsOverlargeIn (class_given state s) (source_units state) s.texts place × (out ≡ Refused place cause.TypesTooLarge)

-- It is refused for a header, or translated.
abbrev pub ExecutesIn : State → Scoping → Mode → Budget → Execution → Type 0
ExecutesIn state s mode budget out = IsRefusedBy state s out ⊎ (IsTooLarge state s out ⊎ IsTranslated state s mode budget out)

-- What becomes of a loaded program in a mode and within a budget, whose names mean this. No text has two numbers.
abbrev pub Executes : State → Mode → Budget → Execution → Type 0
Executes state mode budget out = (s : Scoping) × IsScoping state s × AreDistinct s.texts × ExecutesIn state s mode budget out

-- the mode that words ask for: checked mode where they say so
abbrev pub asked_mode : Bool → Mode
asked_mode false = Production
asked_mode true = Checked

-- what a run may use, within the budget that words give
abbrev pub allowed : words.Budget → Budget
allowed budget = record { steps = budget.steps; units = budget.units; depth = NESTED_CALLS }

-- What becomes of a loaded program as the options of words ask.
abbrev pub ExecutesAs : State → Options → Execution → Type 0
ExecutesAs state options out = Executes state (asked_mode options.checked) (allowed options.budget) out
