-- What a text is: a unit, or none for a reason; and its text without annotations.
use Rattle.std.specs.Prelude.{◌≡◌, ℕ, List, ◌⊎◌, Result, Ok, Err}
use Rattle.dart_token.specs.declared.token.Token.{Token}
use Rattle.dart_tree.specs.Unit.{UnitTree}
use Rattle.dart_tree.specs.UnitTokens.{unit_tokens}
use Rattle.dart_lex.specs.declared.lexer.LexFault.TheVariants as lf
use Rattle.dart_lex.specs.Render.{rendered}
use Rattle.dart_lex.specs.Spelling.{Spells, HasReason}
use Rattle.dart_erase.specs.UnitErased as of_unit
use Rattle.syntax_readers.specs.Units.{found}
use Rattle.parse_unit.specs.declared.fault.ParseFault.{ParseFault}
use Rattle.parse_unit.specs.Finds.{Finds}
use Rattle.dart_front.specs.declared.fault.TextFault.{TextFault}
use Rattle.dart_front.specs.declared.fault.TextFault.TheVariants.{Lexis, Memory, Syntax}

-- The text of the unit of this number is this tree: the readers find it in the tokens that the text spells.
abbrev pub IsUnit : ℕ → List ℕ → UnitTree → Type 0
IsUnit number text unit = (tokens : List Token) × Spells number text tokens × (found tokens ≡ Ok unit)

-- The text spells tokens in which the readers find no unit, for this reason.
abbrev pub IsNoUnit : ℕ → List ℕ → ParseFault → Type 0
IsNoUnit number text fault = (tokens : List Token) × Spells number text tokens × Finds tokens (Err fault)

-- the text of a unit without its annotations
abbrev pub erased_bytes : UnitTree → List ℕ
erased_bytes unit = rendered (unit_tokens (of_unit.unit unit))

-- The text is a unit, and these bytes are its text without annotations.
abbrev pub ErasesTo : List ℕ → List ℕ → Type 0
ErasesTo text bytes = (unit : UnitTree) × IsUnit 0 text unit × (bytes ≡ erased_bytes unit)

-- The text is no unit for this reason, or memory ran out.
abbrev pub HasFault : ℕ → List ℕ → TextFault → Type 0
HasFault number text (Lexis fault) = (fault ≡ lf.Memory) ⊎ HasReason number text fault
HasFault number text (Syntax fault) = IsNoUnit number text fault
HasFault number text Memory = Unit {0}

-- The tokens are a unit, or why they are none.
abbrev pub Checks : List Token → Result (Unit {0}) ParseFault → Type 0
Checks tokens (Ok done) = (unit : UnitTree) × (found tokens ≡ Ok unit)
Checks tokens (Err fault) = Finds tokens (Err fault)
