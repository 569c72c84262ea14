-- What a body is translated in: what names mean outside of its local scopes, and the numbers of the table of classes.
use Rattle.std.specs.Prelude.{ℕ, List, [], ◌∷◌, ◌++◌, Option, Bool, decimal, if◌then◌else◌}
use Rattle.std.specs.Str.{byte}
use Rattle.std.specs.Prelude.{◌==◌}
use Rattle.dart_ir.specs.declared.native.NativeId.{NativeId}
use Rattle.dart_ir.specs.Ty.{TyOf}
use Rattle.core_program.specs.Core as c

abbrev pub Text : Type 0
Text = List ℕ

-- a type, and a form, in which names are texts
abbrev pub Ty : Type 0
Ty = TyOf Text

abbrev pub Core : Type 0
Core = c.Core Text

-- what a name means outside of local scopes (ECMA-408, 16.33 Identifier Reference)
pub data Meaning : Type 0 where
  -- a top-level or static function, by the number of its declaration
  function : ℕ → Meaning
  -- a library or static variable, and whether it is final
  variable : ℕ → Bool → Meaning
  -- a top-level or static getter and setter, of which one may be missing
  accessors : Option ℕ → Option ℕ → Meaning
  -- a class, by its number in the table of classes
  class : ℕ → Meaning
  -- an alias of a function type, by the number of its declaration
  alias : ℕ → Meaning
  -- a type parameter of the class around
  type_parameter : ℕ → Meaning
  -- an instance member that the class around declares
  member : Meaning
  -- a prefix of imports
  prefix : Meaning
  -- what several imports give
  ambiguous : Meaning
  unknown : Meaning

-- what the names of a library mean, in the class around where there is one (18 Libraries and Scripts)
pub record Names : Type 0 where
  pub library : ℕ
  pub meaning : Text → Meaning
  -- behind a prefix
  pub prefixed : Text → Text → Meaning

-- a constructor of a class (10.6 Constructors)
pub data Made : Type 0 where
  generative : ℕ → Made
  factory : ℕ → Made
  no_constructor : Made

-- the class whose members a mixin application has, with the type arguments that it gives it (12.1 Mixin Application)
pub record Mixin : Type 0 where
  pub class : ℕ
  pub arguments : List Ty

-- what the table of classes has, and what else the whole program shares
pub record Tables : Type 0 where
  -- how many type parameters a class has, and whether any of them has a bound
  pub parameters : ℕ → ℕ
  pub is_bounded : ℕ → Bool
  -- the superclass, mixin applications included, and how many fields stand above those of a class
  pub superclass : ℕ → Option ℕ
  pub first_field : ℕ → ℕ
  -- of a mixin application alone, one that a class is written as included
  pub mixin : ℕ → Option Mixin
  -- what names mean inside of a class
  pub class_names : ℕ → Names
  -- what a class declares as static under a name (10.7 Static Methods, 10.8 Static Variables)
  pub static : ℕ → Text → Meaning
  -- the constructor of a class with an id, empty for the unnamed one
  pub constructor : ℕ → Text → Made
  -- what the annotation of a library or static variable asks for
  pub variable_type : ℕ → Option Ty
  -- the function type that an alias is with these type arguments (19.3.1 Typedef)
  pub alias_type : ℕ → List Ty → Ty
  -- the native function that an external declaration of the prelude is
  pub native : ℕ → Option NativeId
  pub int_class : ℕ
  pub string_class : ℕ
  pub map_class : ℕ

-- the name of an identifier: a private one is that of its text in its library (6.2 Privacy)
abbrev pub name_in : ℕ → Text → Text
name_in library [] = []
name_in library (first ∷ rest) =
    if first == byte "_" then first ∷ (rest ++ byte "@" ∷ decimal library) else first ∷ rest
