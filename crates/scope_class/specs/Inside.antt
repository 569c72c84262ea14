-- What names mean inside of a class: its members, then its type parameters, then what they mean around it (ECMA-408, 10 Classes).
use Rattle.std.specs.Prelude.{◌≡◌, ℕ, Bool, List, Option, unwrap_or, bytes_eq}
use Rattle.std.specs.Option.{option_map, option_or}
use Rattle.std.specs.List.{position_from}
use Rattle.scope_declared.specs.Number.{number_in, number_of}
use Rattle.scope_declared.specs.declared.declaration.DeclaredKind.{DeclaredKind}
use Rattle.scope_declared.specs.declared.declaration.Declared.{Declared}
use Rattle.lower_leaf.specs.Around.{meaning}
use Rattle.translation.specs.Surroundings.{Text, Meaning, Names}
use Rattle.translation.specs.Surroundings as m
use Rattle.scope_dictionary.specs.Entries.{at_text}
use Rattle.scope_class.specs.Members.{is_member, is_static, member_sense, static_sense}
use Rattle.scope_class.specs.declared.members.Wanted.{Wanted}
use Rattle.scope_class.specs.declared.members.Wanted.TheVariants as w
use Rattle.scope_class.specs.declared.class.ClassNames.{ClassNames}

abbrev pub selects : Wanted → DeclaredKind → Bool
selects w.Members kind = is_member kind
selects w.Statics kind = is_static kind

-- a type parameter by its place in its list (14 Generics)
abbrev pub parameter_sense : List Text → Text → Option Meaning
parameter_sense parameters text = option_map m.type_parameter (position_from (bytes_eq text) 0 parameters)

-- what a text that is written in class n means there, if the class has it
abbrev pub own_sense : List Text → List Declared → ℕ → ℕ → List Text → Text → Option Meaning
own_sense texts numbered library n parameters text =
    option_or (member_sense numbered n (number_of texts library text)) (parameter_sense parameters text)

-- what names mean in the header of a class, which has its type parameters alone, where these mean what they do around it
abbrev pub header_names : List Text → Names → Names
header_names parameters around = record around {
  meaning = λ text. unwrap_or (parameter_sense parameters text) (around.meaning text);
}

-- what names mean inside of class n, where these mean what they do around it
abbrev pub class_names : List Text → List Declared → ℕ → List Text → Names → Names
class_names texts numbered n parameters around = record around {
  meaning = λ text. unwrap_or (own_sense texts numbered around.library n parameters text) (around.meaning text);
}

-- what class n declares as static under a name of the table (10.7 Static Methods, 10.8 Static Variables)
abbrev pub static : List Text → List Declared → ℕ → Text → Meaning
static texts numbered n name = unwrap_or (static_sense numbered n (number_in texts name)) m.unknown

-- what is made for a class, as names
abbrev pub header_within : ClassNames → Names → Names
header_within made around = record around {
  meaning = λ text. unwrap_or (option_map meaning (at_text made.header text)) (around.meaning text);
}

abbrev pub names_within : ClassNames → Names → Names
names_within made around = record around {
  meaning = λ text. unwrap_or (option_map meaning (at_text made.senses text)) (around.meaning text);
}

abbrev pub static_within : ClassNames → Text → Meaning
static_within made name = unwrap_or (option_map meaning (at_text made.statics name)) m.unknown

-- what is made for class n of a library: each text means what it does in the header, inside of the class, and as a static member
pub record AreClassNames (texts : List Text) (numbered : List Declared) (library n : ℕ) (parameters : List Text) (made : ClassNames) : Type 0 where
  pub header : (around : Names) (text : Text) → (header_within made around).meaning text ≡ (header_names parameters around).meaning text
  pub inside : (around : Names) (text : Text) → around.library ≡ library
      → (names_within made around).meaning text ≡ (class_names texts numbered n parameters around).meaning text
  pub behind : (name : Text) → static_within made name ≡ static texts numbered n name
