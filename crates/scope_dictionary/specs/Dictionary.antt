-- What texts mean in a dictionary, and in the dictionaries of a library.
use Rattle.std.specs.Prelude.{◌≡◌, ℕ, List, Option, Some, None}
use Rattle.std.specs.Global.{Vec}
use Rattle.std.specs.HashMap.{HashMap}
use Rattle.dart_base.specs.declared.name.Name.{Name}
use Rattle.scope_declared.specs.Number.{number_of}
use Rattle.lower_leaf.specs.declared.meaning.Meaning.{Meaning}
use Rattle.lower_leaf.specs.Around.{meaning}
use Rattle.translation.specs.Surroundings.{Text, Names}
use Rattle.translation.specs.Surroundings as m
use Rattle.scope_outer.specs.Outside.{Scopes, Means, MeansBehind}
use Rattle.scope_dictionary.specs.Entries.{at_text}
use Rattle.scope_dictionary.specs.declared.dictionary.Dictionary.{Dictionary}

-- a text without an entry means nothing
abbrev pub sense : Option Meaning → m.Meaning
sense None = m.unknown
sense (Some found) = meaning found

abbrev pub meaning_in : Dictionary → Text → m.Meaning
meaning_in dictionary text = sense (at_text dictionary.senses text)

-- what a name means in a library, behind a prefix or without one
abbrev pub MeansAt : Scopes → ℕ → Option Name → ℕ → m.Meaning → Type 0
MeansAt scopes library None name = Means scopes library name
MeansAt scopes library (Some prefix) name = MeansBehind scopes library prefix.0 name

-- each text means what its number does, behind a prefix or without one
pub record IsDictionary (texts : List Text) (scopes : Scopes) (library : ℕ) (prefix : Option Name) (dictionary : Dictionary) : Type 0 where
  pub each : (text : Text) → MeansAt scopes library prefix (number_of texts library text) (meaning_in dictionary text)

-- the dictionaries that stand under prefixes are of these
pub record AreDictionaries {S : Type 0} (texts : List Text) (scopes : Scopes) (library : ℕ) (behind : HashMap (Vec ℕ) Dictionary S) : Type 0 where
  pub each : (prefix : Text) (dictionary : Dictionary) → at_text behind prefix ≡ Some dictionary
      → IsDictionary texts scopes library (Some (record { 0 = number_of texts library prefix })) dictionary
