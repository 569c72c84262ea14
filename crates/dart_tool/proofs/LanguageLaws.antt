-- Why a text stops, and what is said of a root where its units are loaded.
use Rattle.std.proofs.Common.{◌≡◌, refl, ℕ, List, Option, None, Some, Result, Ok, Err, IfOk, ◌⊎◌, inl, inr}
use Rattle.dart_edge.specs.Files.{Files}
use Rattle.dart_run.specs.declared.written.Written.{Written}
use Rattle.dart_words.specs.declared.options.Options.{Options}
use Rattle.scope_load.specs.State.{State}
use Rattle.parse_unit.specs.declared.fault.ParseFault.{ParseFault}
use Rattle.dart_front.specs.declared.fault.TextFault.{TextFault}
use Rattle.dart_front.specs.declared.fault.TextFault.TheVariants as t
use Rattle.dart_front.specs.Texts.{HasFault, IsNoUnit}
use Rattle.dart_lex.specs.declared.lexer.LexFault.{LexFault}
use Rattle.dart_lex.specs.declared.lexer.LexFault.TheVariants as lf
use Rattle.dart_lex.specs.Spelling.{HasReason}
use Rattle.dart_tool.specs.declared.language.Stop.{Stop}
use Rattle.dart_tool.specs.declared.language.Stop.TheVariants as text_stop
use Rattle.dart_tool.specs.declared.program.RunStop.{RunStop}
use Rattle.dart_tool.specs.declared.program.RunStop.TheVariants.{Refused, Failed, Memory}
use Rattle.dart_tool.specs.declared.status.Refusal.{Refusal}
use Rattle.dart_tool.specs.Language.{LexisRefuses, SyntaxRefuses, IsNoUnitFor, RefusedFor, GivesEnd, Stops, stop_for}
use Rattle.dart_tool.specs.Program.{EndsAs, IsSound, Judges, LoadGives, WhereHas}
use Rattle.dart_tool.specs.Status.{lexical_refusal, syntax_refusal, text_refusal}
use Rattle.dart_tool.proofs.ProgramLaws.{finished_unrefused, not_built_unrefused, not_built_unwritten}

-- ---- why a text stops

lexical_reason : (text : List ℕ) (fault : LexFault) (why : Option Refusal) → lexical_refusal fault ≡ why → HasReason 0 text fault → Stops (LexisRefuses text) (stop_for why)
lexical_reason text fault (Some why) e reason = (fault, reason, e)
lexical_reason text fault None e reason = tt

-- a lexical fault is a reason, or memory ran out
pub lexical_stop : (text : List ℕ) (fault : LexFault) → (fault ≡ lf.Memory) ⊎ HasReason 0 text fault → Stops (LexisRefuses text) (stop_for (lexical_refusal fault))
lexical_stop text fault (inl is) = rw is tt
lexical_stop text fault (inr reason) = lexical_reason text fault (lexical_refusal fault) refl reason

syntax_reason : (text : List ℕ) (fault : ParseFault) (why : Option Refusal) → syntax_refusal fault ≡ why → IsNoUnit 0 text fault → Stops (SyntaxRefuses text) (stop_for why)
syntax_reason text fault (Some why) e no_unit = (fault, no_unit, e)
syntax_reason text fault None e no_unit = tt

-- a fault of the parser is a reason, or memory ran out
pub syntax_stop : (text : List ℕ) (fault : ParseFault) → IsNoUnit 0 text fault → Stops (SyntaxRefuses text) (stop_for (syntax_refusal fault))
syntax_stop text fault no_unit = syntax_reason text fault (syntax_refusal fault) refl no_unit

-- what is a reason of one kind is one of another
pub stops_by : (IsOne IsAnother : Refusal → Type 0) (why_not : Stop) → ((why : Refusal) → IsOne why → IsAnother why) → Stops IsOne why_not → Stops IsAnother why_not
stops_by IsOne IsAnother (text_stop.Refused why) by is = by why is
stops_by IsOne IsAnother text_stop.Memory by is = tt

pub fault_stop : (text : List ℕ) (fault : TextFault) → HasFault 0 text fault → Stops (IsNoUnitFor text) (stop_for (text_refusal fault))
fault_stop text (t.Lexis fault) has = stops_by (LexisRefuses text) (IsNoUnitFor text) (stop_for (lexical_refusal fault)) (λ why is. inl is) (lexical_stop text fault has)
fault_stop text (t.Syntax fault) has = stops_by (SyntaxRefuses text) (IsNoUnitFor text) (stop_for (syntax_refusal fault)) (λ why is. inr is) (syntax_stop text fault has)
fault_stop text t.Memory has = tt

-- ---- what a root gives, where the files are told

-- what loading stops is refused
pub told_unloaded : (told : Option Files) (name text : List ℕ) (options : Options) (stop : RunStop) → LoadGives told name text (Err stop)
    → Judges {T = Option Written} (λ files. RefusedFor files name options) told name text (Err stop)
told_unloaded None name text options (Refused against) gives = tt
told_unloaded (Some files) name text options (Refused against) gives = λ has. inl (gives has)
told_unloaded told name text options Failed gives = tt
told_unloaded told name text options Memory gives = tt

-- what becomes of loaded units

pub told_ended : (told : Option Files) (name text : List ℕ) (options : Options) (state : State) (result : Result (Option Written) RunStop)
    → WhereHas told name text (λ files. IsSound files name state) → EndsAs state options result
    → Judges (λ files. RefusedFor files name options) told name text result
told_ended None name text options state (Ok made) sound ends = tt
told_ended None name text options state (Err (Refused against)) sound ends = tt
told_ended (Some files) name text options state (Ok None) sound ends = λ has against refused.
    not_built_unrefused files name options state (sound has) ends against refused
told_ended (Some files) name text options state (Ok (Some made)) sound ends = λ has against refused.
    finished_unrefused files name options state made (sound has) ends against refused
told_ended (Some files) name text options state (Err (Refused against)) sound (place, cause, is, e) = λ has.
    inr (state, place, cause, sound has, is, e)
told_ended told name text options state (Err Failed) sound ends = absurd ends
told_ended told name text options state (Err Memory) sound ends = tt

pub told_given : (told : Option Files) (name text : List ℕ) (options : Options) (state : State) (result : Result (Option Written) RunStop)
    → WhereHas told name text (λ files. IsSound files name state) → EndsAs state options result → IfOk result (GivesEnd told name text options)
told_given None name text options state (Ok None) sound ends = tt
told_given (Some files) name text options state (Ok None) sound ends = λ has made finishes.
    not_built_unwritten files name options state (sound has) ends made finishes
told_given None name text options state (Ok (Some made)) sound ends = tt
told_given (Some files) name text options state (Ok (Some made)) sound ends = λ has. (state, sound has, ends)
told_given told name text options state (Err stop) sound ends = tt
