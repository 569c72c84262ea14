-- The names of a program: the texts by which its units may call something, in the order in which they get numbers (16.33
-- Identifier Reference, 16.5.1 String Interpolation, 6.2 Privacy).
use Rattle.std.specs.Prelude.{ℕ, ◌==◌, List, [], ◌∷◌, fold, map, if◌then◌else◌}
use Rattle.std.specs.List.{take_while}
use Rattle.std.specs.Str.{byte, is_utf8}
use Rattle.dart_base.specs.Names.{interned}
use Rattle.dart_pieces.specs.Bytes.{is_name_byte}
use Rattle.dart_token.specs.declared.token.Token.{Token}
use Rattle.dart_token.specs.declared.token.TokenKind.{TokenKind}
use Rattle.dart_token.specs.declared.token.TokenKind.TheVariants.{Head, Identifier, Middle, Tail, Whole}
use Rattle.dart_tree.specs.Unit.{UnitTree}
use Rattle.dart_tree.specs.UnitTokens.{unit_tokens}
use Rattle.dart_erase.specs.UnitErased as erased
use Rattle.scope_declared.specs.Number.{name_text}
use Rattle.scope_name.specs.declared.table.TheConstants.{GIVEN}

-- A table of names is a list of texts, and a text that isn't UTF-8 is no name.
abbrev pub with_text : List (List ℕ) → List ℕ → List (List ℕ)
with_text names text = if is_utf8 text then interned names text else names

-- an identifier gives its text, a private one with the library's number
abbrev pub with_identifier : ℕ → List (List ℕ) → List ℕ → List (List ℕ)
with_identifier library names text = with_text names (name_text library text)

-- and so does what stands behind a `$`, where it isn't empty
abbrev pub with_shown : ℕ → List (List ℕ) → List ℕ → List (List ℕ)
with_shown library names [] = names
with_shown library names (b ∷ bytes) = with_identifier library names (b ∷ bytes)

-- The names in a piece of a string: behind each `$` all bytes up to the first that a name can't have. Escapes and raw strings
-- aren't told apart, since a name too many in the table harms nothing.
abbrev pub with_piece : ℕ → List (List ℕ) → List ℕ → List (List ℕ)
with_piece library names [] = names
with_piece library names (b ∷ bytes) = with_piece library
    (if b == byte "$" then with_shown library names (take_while is_name_byte bytes) else names) bytes

abbrev pub with_lexeme : ℕ → List (List ℕ) → List ℕ → TokenKind → List (List ℕ)
with_lexeme library names text Identifier = with_identifier library names text
with_lexeme library names text Whole = with_piece library names text
with_lexeme library names text (Head quote) = with_piece library names text
with_lexeme library names text Middle = with_piece library names text
with_lexeme library names text Tail = with_piece library names text
with_lexeme library names text _ = names

abbrev pub with_token : ℕ → List (List ℕ) → Token → List (List ℕ)
with_token library names token = with_lexeme library names token.lexeme token.kind

-- the identifiers of a unit, and the names in its strings, in the order of its tokens
unfoldable pub with_unit : ℕ → List (List ℕ) → UnitTree → List (List ℕ)
with_unit library names unit = fold (with_token library) names (unit_tokens unit)

-- unit by unit, where each belongs to the library of the number beside it
abbrev pub with_units : List (List ℕ) → List ℕ → List UnitTree → List (List ℕ)
with_units names (library ∷ homes) (unit ∷ units) =
    with_units (with_unit library names unit) homes units
with_units names _ _ = names

-- what no identifier spells, and what is asked for whether a unit has it or not
unfoldable pub given_names : List (List ℕ)
given_names = fold with_text [] (map (λ text. text.now) GIVEN)

-- the names of a program's units
abbrev pub names_of : List ℕ → List UnitTree → List (List ℕ)
names_of homes units = with_units given_names homes units

-- the names that the units have without their annotations
abbrev pub kept_names : List ℕ → List UnitTree → List (List ℕ)
kept_names homes units = names_of homes (map erased.unit units)

-- these, and behind them what only annotations spell
abbrev pub all_names : List ℕ → List UnitTree → List (List ℕ)
all_names homes units = with_units (kept_names homes units) homes units
