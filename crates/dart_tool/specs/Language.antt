-- What the tool knows of the language: for which reason a program is refused, and what it writes.
use Rattle.std.specs.Prelude.{◌≡◌, ◌⊎◌, ℕ, List, Option, None, Some}
use Rattle.dart_edge.specs.Files.{Files}
use Rattle.dart_front.specs.Texts.{IsNoUnit}
use Rattle.dart_lex.specs.declared.lexer.LexFault.{LexFault}
use Rattle.dart_lex.specs.Spelling.{HasReason}
use Rattle.dart_run.specs.declared.written.Written.{Written}
use Rattle.dart_words.specs.declared.options.Options.{Options}
use Rattle.parse_unit.specs.declared.fault.ParseFault.{ParseFault}
use Rattle.dart_tool.specs.declared.language.Stop.{Stop}
use Rattle.dart_tool.specs.declared.language.Stop.TheVariants.{Refused, Memory}
use Rattle.dart_tool.specs.declared.program.FileRefusal.{FileRefusal}
use Rattle.dart_tool.specs.declared.status.Refusal.{Refusal}
use Rattle.dart_tool.specs.Program.{ExecutionRefused, Finishes, ProgramRefused, WhereHas}
use Rattle.dart_tool.specs.Status.{lexical_refusal, syntax_refusal}

-- The text spells no tokens, for this reason.
abbrev pub LexisRefuses : List ℕ → Refusal → Type 0
LexisRefuses text why =
    (fault : LexFault) × HasReason 0 text fault × (lexical_refusal fault ≡ Some why)

-- The text spells tokens that are no unit, for this reason.
abbrev pub SyntaxRefuses : List ℕ → Refusal → Type 0
SyntaxRefuses text why =
    (fault : ParseFault) × IsNoUnit 0 text fault × (syntax_refusal fault ≡ Some why)

-- The text is no unit, for this reason.
abbrev pub IsNoUnitFor : List ℕ → Refusal → Type 0
IsNoUnitFor text why = LexisRefuses text why ⊎ SyntaxRefuses text why

-- The root with this name is not run, for this reason against the program.
abbrev pub RefusedFor : Files → List ℕ → Options → FileRefusal → Type 0
RefusedFor files name options against = ProgramRefused files name against ⊎ ExecutionRefused files name options against

-- What running a text gives: what its program writes, or nothing where it writes nothing.
abbrev pub GivesEnd : Option Files → List ℕ → List ℕ → Options → Option Written → Type 0
GivesEnd told name text options None = WhereHas told name text (λ files. (made : Written) → Finishes files name options made → ⊥)
GivesEnd told name text options (Some made) = WhereHas told name text (λ files. Finishes files name options made)

-- Why nothing is made of a text: it is refused for one of these reasons, or memory ran out.
abbrev pub Stops : (Refusal → Type 0) → Stop → Type 0
Stops IsReason (Refused why) = IsReason why
Stops IsReason Memory = Unit {0}

abbrev pub stop_for : Option Refusal → Stop
stop_for (Some why) = Refused why
stop_for None = Memory
