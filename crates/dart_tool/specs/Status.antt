-- The tables of statuses and refusals.
use Rattle.std.specs.Prelude.{ℕ, List, codes, Option, None, Some}
use Rattle.dart_base.specs.declared.place.Place.{Place}
use Rattle.dart_execute.specs.declared.cause.Cause.{Cause}
use Rattle.dart_execute.specs.declared.cause.Cause.TheVariants as c
use Rattle.dart_lex.specs.declared.lexer.LexFault.{LexFault}
use Rattle.dart_lex.specs.declared.lexer.LexFault.TheVariants as e
use Rattle.dart_front.specs.declared.fault.TextFault.{TextFault}
use Rattle.dart_front.specs.declared.fault.TextFault.TheVariants as t
use Rattle.parse_unit.specs.declared.fault.ParseFault.{ParseFault}
use Rattle.parse_unit.specs.declared.fault.ParseFault.TheVariants as p
use Rattle.scope_load.specs.declared.reason.Reason.{Reason}
use Rattle.scope_load.specs.declared.reason.Reason.TheVariants as r
use Rattle.scope_load.specs.declared.units.TextReason.{TextReason}
use Rattle.scope_load.specs.declared.units.TextReason.TheVariants as x
use Rattle.dart_tool.specs.declared.status.Status.{Status}
use Rattle.dart_tool.specs.declared.status.Status.TheVariants.{Done, Usage, Refused, Uncaught, CheckFailed, Limit, ReadFault, WriteFault, Memory}
use Rattle.dart_tool.specs.declared.status.Refusal.{Refusal}
use Rattle.dart_tool.specs.declared.status.Refusal.TheVariants.{NotFound, NotUtf8, BadToken, LeftOut, IntegerTooLarge, Syntax, TooDeep, TooLarge, BadDirective, ProgramTooLarge, Duplicate, NoMain, CyclicClasses, BadSuper, BadMixin, TypesTooLarge, NotConstant, BadLabel, BadConstructor, BadSwitch, BadWord, TooManyParameters, NotBuilt}

-- the number with which the process ends
abbrev pub status_number : Status → ℕ
status_number Done = 0
status_number Usage = 2
status_number Refused = 3
status_number Uncaught = 4
status_number CheckFailed = 5
status_number Limit = 6
status_number ReadFault = 7
status_number WriteFault = 8
status_number Memory = 9

-- the kind as the line of a refusal shows it
abbrev pub refusal_text : Refusal → List ℕ
refusal_text NotFound = codes "NotFound"
refusal_text TooLarge = codes "TooLarge"
refusal_text (NotUtf8 offset) = codes "NotUtf8"
refusal_text (BadToken place) = codes "BadToken"
refusal_text (LeftOut place feature) = codes "LeftOut"
refusal_text (IntegerTooLarge place) = codes "IntegerTooLarge"
refusal_text (Syntax place) = codes "Syntax"
refusal_text (TooDeep place) = codes "TooDeep"
refusal_text (BadDirective place) = codes "BadDirective"
refusal_text ProgramTooLarge = codes "TooLarge"
refusal_text (Duplicate place name) = codes "Duplicate"
refusal_text NoMain = codes "NoMain"
refusal_text (CyclicClasses place) = codes "CyclicClasses"
refusal_text (BadSuper place) = codes "BadSuper"
refusal_text (BadMixin place) = codes "BadMixin"
refusal_text (TypesTooLarge place) = codes "TypesTooLarge"
refusal_text (NotConstant place) = codes "NotConstant"
refusal_text (BadLabel place) = codes "BadLabel"
refusal_text (BadConstructor place) = codes "BadConstructor"
refusal_text (BadSwitch place) = codes "BadSwitch"
refusal_text (BadWord place) = codes "BadWord"
refusal_text (TooManyParameters place) = codes "TooLarge"
refusal_text NotBuilt = codes "NotBuilt"

-- the refusal for a lexical reason; being out of memory is none
abbrev pub lexical_refusal : LexFault → Option Refusal
lexical_refusal e.TooLarge = Some TooLarge
lexical_refusal (e.NotUtf8 offset) = Some (NotUtf8 offset)
lexical_refusal (e.BadToken place) = Some (BadToken place)
lexical_refusal (e.LeftOut place feature) = Some (LeftOut place feature)
lexical_refusal (e.IntegerTooLarge place) = Some (IntegerTooLarge place)
lexical_refusal e.Memory = None

-- the refusal for the parser's reason; being out of memory is none
abbrev pub syntax_refusal : ParseFault → Option Refusal
syntax_refusal (p.LeftOut place feature) = Some (LeftOut place feature)
syntax_refusal (p.Syntax place) = Some (Syntax place)
syntax_refusal (p.TooDeep place) = Some (TooDeep place)
syntax_refusal p.Memory = None

-- the refusal of a text that is no unit; being out of memory is none
abbrev pub text_refusal : TextFault → Option Refusal
text_refusal (t.Lexis fault) = lexical_refusal fault
text_refusal (t.Syntax fault) = syntax_refusal fault
text_refusal t.Memory = None

-- the refusal of a file whose text is no unit of a program
abbrev pub text_reason_refusal : TextReason → Refusal
text_reason_refusal x.TooLarge = TooLarge
text_reason_refusal (x.NotUtf8 offset) = NotUtf8 offset
text_reason_refusal (x.BadToken place) = BadToken place
text_reason_refusal (x.LeftOut place feature) = LeftOut place feature
text_reason_refusal (x.IntegerTooLarge place) = IntegerTooLarge place
text_reason_refusal (x.Syntax place) = Syntax place
text_reason_refusal (x.TooDeep place) = TooDeep place

-- the refusal of a unit of a program
abbrev pub reason_refusal : Reason → Refusal
reason_refusal r.NotFound = NotFound
reason_refusal (r.Text reason) = text_reason_refusal reason
reason_refusal (r.LeftOut place feature) = LeftOut place feature
reason_refusal (r.BadDirective place) = BadDirective place

-- the refusal of a program whose units are loaded, for what is found at a place
abbrev pub cause_refusal : Place → Cause → Refusal
cause_refusal place c.CyclicClasses = CyclicClasses place
cause_refusal place c.BadSuper = BadSuper place
cause_refusal place c.BadMixin = BadMixin place
cause_refusal place c.TypesTooLarge = TypesTooLarge place
cause_refusal place (c.LeftOut feature) = LeftOut place feature
cause_refusal place c.NotConstant = NotConstant place
cause_refusal place c.BadLabel = BadLabel place
cause_refusal place c.BadConstructor = BadConstructor place
cause_refusal place c.BadSwitch = BadSwitch place
cause_refusal place c.BadWord = BadWord place
cause_refusal place c.TooManyParameters = TooManyParameters place
