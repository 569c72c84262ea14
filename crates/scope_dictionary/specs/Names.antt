-- What the names of a library mean, by their texts as they are written there (ECMA-408, 16.33 Identifier Reference).
use Rattle.std.specs.Prelude.{◌≡◌, ℕ, List, length, slice_get, Option, Some, None}
use Rattle.scope_declared.specs.Number.{number_of}
use Rattle.translation.specs.Surroundings.{Text, Meaning, Names}
use Rattle.translation.specs.Surroundings as m
use Rattle.scope_outer.specs.Outside.{Scopes, Means, MeansBehind}
use Rattle.scope_dictionary.specs.Entries.{at_text}
use Rattle.scope_dictionary.specs.Dictionary.{meaning_in}
use Rattle.scope_dictionary.specs.declared.dictionary.Dictionary.{Dictionary}
use Rattle.scope_dictionary.specs.declared.library.LibraryNames.{LibraryNames}

-- A text means in a library what its number does there, and behind a prefix what it does behind the prefix's number. A text
-- that the table of names lacks has the number of no name.
pub record AreNames (texts : List Text) (scopes : Scopes) (library : ℕ) (names : Names) : Type 0 where
  pub of : names.library ≡ library
  pub meaning : (text : Text) → Means scopes library (number_of texts library text) (names.meaning text)
  pub prefixed : (prefix text : Text)
      → MeansBehind scopes library (number_of texts library prefix) (number_of texts library text) (names.prefixed prefix text)

-- what stands under no prefix means nothing
abbrev pub meaning_behind : Option Dictionary → Text → Meaning
meaning_behind None text = m.unknown
meaning_behind (Some dictionary) text = meaning_in dictionary text

-- the names that a library's dictionaries are
abbrev pub names_of : LibraryNames → Names
names_of made = record {
  library = made.library;
  meaning = meaning_in made.plain;
  prefixed = λ prefix. meaning_behind (at_text made.behind prefix);
}

-- the names of each library of a program, by number
pub record AreAllNames (texts : List Text) (scopes : Scopes) (all : List LibraryNames) : Type 0 where
  pub count : length all ≡ length scopes.libraries
  pub each : (library : ℕ) (made : LibraryNames) → slice_get all library ≡ Some made → AreNames texts scopes library (names_of made)
