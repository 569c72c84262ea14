-- What a text gives as a unit of a program.
use Rattle.std.specs.Prelude.{◌≡◌, ℕ, List, Option, None, Some, Result, Ok}
use Rattle.dart_front.specs.declared.fault.TextFault.{TextFault}
use Rattle.dart_front.specs.declared.fault.TextFault.TheVariants as t
use Rattle.dart_front.specs.Texts.{HasFault}
use Rattle.dart_lex.specs.declared.lexer.LexFault.{LexFault}
use Rattle.dart_lex.specs.declared.lexer.LexFault.TheVariants as lf
use Rattle.dart_lex.specs.Spelling.{Spells, weight}
use Rattle.dart_token.specs.declared.token.Token.{Token}
use Rattle.dart_tree.specs.Unit.{UnitTree}
use Rattle.parse_unit.specs.declared.fault.ParseFault.{ParseFault}
use Rattle.parse_unit.specs.declared.fault.ParseFault.TheVariants as pf
use Rattle.scope_load.specs.declared.units.TextReason.{TextReason}
use Rattle.scope_load.specs.declared.units.TextReason.TheVariants as r
use Rattle.scope_load.specs.Found.{FoundIs, absent, refused, read}
use Rattle.syntax_readers.specs.Units.{found}

abbrev pub lexical_reason : LexFault → Option TextReason
lexical_reason lf.TooLarge = Some r.TooLarge
lexical_reason (lf.NotUtf8 offset) = Some (r.NotUtf8 offset)
lexical_reason (lf.BadToken place) = Some (r.BadToken place)
lexical_reason (lf.LeftOut place feature) = Some (r.LeftOut place feature)
lexical_reason (lf.IntegerTooLarge place) = Some (r.IntegerTooLarge place)
lexical_reason lf.Memory = None

abbrev pub syntax_reason : ParseFault → Option TextReason
syntax_reason (pf.LeftOut place feature) = Some (r.LeftOut place feature)
syntax_reason (pf.Syntax place) = Some (r.Syntax place)
syntax_reason (pf.TooDeep place) = Some (r.TooDeep place)
syntax_reason pf.Memory = None

-- the reason for which a text is no unit; being out of memory is none
abbrev pub text_reason : TextFault → Option TextReason
text_reason (t.Lexis fault) = lexical_reason fault
text_reason (t.Syntax fault) = syntax_reason fault
text_reason t.Memory = None

-- The text spells tokens of this weight, in which the readers find this unit.
abbrev pub IsWeighed : ℕ → List ℕ → UnitTree → ℕ → Type 0
IsWeighed number text unit heavy =
    (tokens : List Token) × Spells number text tokens × (found tokens ≡ Ok unit) × (heavy ≡ weight tokens)

-- The text, as the unit of this number, is this unit of this weight, or none for this reason.
abbrev pub TextGives : ℕ → List ℕ → FoundIs → Type 0
TextGives number text absent = ⊥
TextGives number text (refused reason) = (fault : TextFault) × HasFault number text fault × (text_reason fault ≡ Some reason)
TextGives number text (read unit heavy) = IsWeighed number text unit heavy
