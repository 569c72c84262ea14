-- What the tool writes and how it ends, from its words and files alone.
use Rattle.std.specs.Prelude.{◌≡◌, ℕ, nat_lt, List, [], ◌∷◌, ◌++◌, map, if◌then◌else◌, Option, None, Some, ◌⊎◌, codes, Bool, true, false}
use Rattle.std.specs.Fmt.{decimal}
use Rattle.std.specs.Str.{byte}
use Rattle.dart_base.specs.declared.place.Place.{Place}
use Rattle.dart_base.specs.Feature.{feature_text}
use Rattle.dart_edge.specs.Files.{Files, file_of}
use Rattle.dart_front.specs.Texts.{ErasesTo}
use Rattle.dart_run.specs.declared.written.Written.{Written}
use Rattle.dart_words.specs.declared.options.Options.{Options}
use Rattle.dart_words.specs.declared.words.Verb.{Verb}
use Rattle.dart_words.specs.declared.words.Verb.TheVariants as v
use Rattle.dart_words.specs.Words.{Command, command_of}
use Rattle.turn_text.specs.declared.finish.Finish.{Finish}
use Rattle.turn_text.specs.declared.finish.Finish.TheVariants as f
use Rattle.dart_tool.specs.declared.outcome.Outcome.{Outcome}
use Rattle.dart_tool.specs.declared.program.FileRefusal.{FileRefusal}
use Rattle.dart_tool.specs.declared.status.Status.{Status}
use Rattle.dart_tool.specs.declared.status.Status.TheVariants.{Done, Usage, Refused, Uncaught, CheckFailed, Limit, ReadFault, WriteFault, Memory}
use Rattle.dart_tool.specs.declared.status.Refusal.{Refusal}
use Rattle.dart_tool.specs.declared.status.Refusal.TheVariants.{NotFound, NotUtf8, BadToken, LeftOut, IntegerTooLarge, Syntax, TooDeep, BadDirective, ProgramTooLarge, Duplicate, NoMain, CyclicClasses, BadSuper, BadMixin, TypesTooLarge, NotConstant, BadLabel, BadConstructor, BadSwitch, BadWord, TooManyParameters, NotBuilt}
use Rattle.dart_tool.specs.Language.{IsNoUnitFor, RefusedFor}
use Rattle.dart_tool.specs.Program.{Finishes}
use Rattle.dart_tool.specs.Status.{refusal_text}

-- a line with its end
abbrev pub with_end : List ℕ → List ℕ
with_end line = line ++ codes "\n"

abbrev pub usage_line : List ℕ
usage_line =
    codes "usage: dart run|trace [--checked] [--steps N] [--units N] [--workers N] FILE" ++
    codes " | erase FILE | analyse FILE | soak N"

-- the line that says how the tool is called
abbrev pub usage_outcome : Outcome
usage_outcome = record { status = Usage; bytes = with_end usage_line }

-- a file's name as it is written: a control byte is a blank
abbrev pub shown : List ℕ → List ℕ
shown name = map (λ b. if nat_lt b (byte " ") then byte " " else b) name

-- a blank and a file's name
abbrev pub named : List ℕ → List ℕ
named name = byte " " ∷ shown name

-- a blank and FILE:LINE:COLUMN
abbrev pub named_place : Place → List ℕ → List ℕ
named_place place name =
    named name ++ byte ":" ∷ (decimal place.line ++ byte ":" ∷ decimal place.column)

-- what the line of a refusal says after the kind: the file, with the place where there is one, and then an offset, a feature
-- or a name; nothing where the refusal is against the program
abbrev pub refusal_details : Refusal → List ℕ → List ℕ
refusal_details (NotUtf8 offset) name = named name ++ byte " " ∷ decimal offset
refusal_details (BadToken place) name = named_place place name
refusal_details (LeftOut place feature) name = named_place place name ++ byte " " ∷ feature_text feature
refusal_details (IntegerTooLarge place) name = named_place place name
refusal_details (Syntax place) name = named_place place name
refusal_details (TooDeep place) name = named_place place name
refusal_details (BadDirective place) name = named_place place name
refusal_details (Duplicate place declared) name = named_place place name ++ byte " " ∷ declared
refusal_details (CyclicClasses place) name = named_place place name
refusal_details (BadSuper place) name = named_place place name
refusal_details (BadMixin place) name = named_place place name
refusal_details (TypesTooLarge place) name = named_place place name
refusal_details (NotConstant place) name = named_place place name
refusal_details (BadLabel place) name = named_place place name
refusal_details (BadConstructor place) name = named_place place name
refusal_details (BadSwitch place) name = named_place place name
refusal_details (BadWord place) name = named_place place name
refusal_details (TooManyParameters place) name = named_place place name
refusal_details ProgramTooLarge name = []
refusal_details NoMain name = []
refusal_details why name = named name

abbrev pub refused : Refusal → List ℕ → Outcome
refused why name = record {
  status = Refused;
  bytes = with_end (codes "** refused " ++ (refusal_text why ++ refusal_details why name));
}

abbrev pub finish_status : Finish → Status
finish_status f.Done = Done
finish_status f.Uncaught = Uncaught
finish_status f.CheckFailed = CheckFailed
finish_status f.Limit = Limit

-- what a program writes, and how it finishes
abbrev pub written_outcome : Written → Outcome
written_outcome made = record { status = finish_status made.finish; bytes = made.bytes }

-- What `run` gives, as options ask, for a root that isn't there, or for one with this text: the refusal for the program's reason, or
-- what it writes, or, where it has neither, NotBuilt.
abbrev pub FileGives : List ℕ → Files → Options → Option (List ℕ) → Outcome → Type 0
FileGives name files options None out = out ≡ refused NotFound name
FileGives name files options (Some text) out =
    ((against : FileRefusal) × RefusedFor files name options against × (out ≡ refused against.why against.file)) ⊎
    (((made : Written) × Finishes files name options made × (out ≡ written_outcome made)) ⊎
    (((against : FileRefusal) → RefusedFor files name options against → ⊥) ×
    ((made : Written) → Finishes files name options made → ⊥) × (out ≡ refused NotBuilt name)))

-- the text of a unit without annotations
abbrev pub erased_outcome : List ℕ → Outcome
erased_outcome bytes = record { status = Done; bytes = bytes }

-- What `erase` gives for a file that isn't there, or for one with this text: the refusal for the reason why the text is no
-- unit, or the text of its unit without annotations.
abbrev pub EraseGives : List ℕ → Option (List ℕ) → Outcome → Type 0
EraseGives name None out = out ≡ refused NotFound name
EraseGives name (Some text) out =
    ((why : Refusal) × IsNoUnitFor text why × (out ≡ refused why name)) ⊎
    ((bytes : List ℕ) × ErasesTo text bytes × (out ≡ erased_outcome bytes))

-- What a command gives for its file, where these are the files.
abbrev pub VerbGives : Verb → List ℕ → Files → Option (List ℕ) → Outcome → Type 0
VerbGives (v.Run options) name files content out = FileGives name files options content out
VerbGives v.Erase name files content out = EraseGives name content out

-- What a command gives.
abbrev pub CommandGives : Option Command → Files → Outcome → Type 0
CommandGives None files out = out ≡ usage_outcome
CommandGives (Some command) files out =
    VerbGives command.verb command.file files (file_of files command.file) out

-- The outcome of the words and the files.
abbrev pub IsOutcome : List (List ℕ) → Files → Outcome → Type 0
IsOutcome words files out = CommandGives (command_of words) files out

-- one of the statuses of a call that was cut short
abbrev pub is_cut_short : Status → Bool
is_cut_short ReadFault = true
is_cut_short WriteFault = true
is_cut_short Memory = true
is_cut_short status = false
