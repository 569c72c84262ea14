-- What a unit says of itself in its first directive (ECMA-408, 18 Libraries and Scripts and 18.3 Parts).
use Rattle.std.specs.Prelude.{ℕ, List, [], ◌∷◌, map, Bool, true, false, ◌&&◌, Option, None, Some, is_some, bytes_eq, codes}
use Rattle.dart_base.specs.declared.place.Place.{Place}
use Rattle.dart_tree.specs.declared.identifier.Identifier.{Identifier}
use Rattle.dart_tree.specs.declared.identifier.Identifier.TheVariants as i
use Rattle.dart_tree.specs.declared.identifier.DotName.{DotName}
use Rattle.dart_tree.specs.Unit as u

-- how an identifier is written
abbrev pub identifier_text : Identifier → List ℕ
identifier_text (i.Name place text) = text
identifier_text (i.Get place) = codes "get"
identifier_text (i.Set place) = codes "set"

abbrev pub dot_text : DotName → List ℕ
dot_text dotted = identifier_text dotted.name

abbrev pub same_texts : List (List ℕ) → List (List ℕ) → Bool
same_texts [] [] = true
same_texts [] (other ∷ others) = false
same_texts (one ∷ some) [] = false
same_texts (one ∷ some) (other ∷ others) = bytes_eq one other && same_texts some others

-- what the first directive says
abbrev pub first_kind : List u.Directive → Option u.DirectiveKind
first_kind [] = None
first_kind (directive ∷ more) = Some directive.kind

-- the place of the word `part` in `part of`
abbrev pub kind_part_place : Option u.DirectiveKind → Option Place
kind_part_place None = None
kind_part_place (Some (u.part_of_directive word of_word name more)) = Some word
kind_part_place (Some (u.library_directive word name more)) = None
kind_part_place (Some (u.import_directive word uri prefix combinators)) = None
kind_part_place (Some (u.export_directive word uri combinators)) = None
kind_part_place (Some (u.part_directive word uri)) = None

-- the place of the word `part` where the unit begins with `part of`
abbrev pub part_place : u.UnitTree → Option Place
part_place unit = kind_part_place (first_kind unit.directives)

-- The unit is a part of a library.
abbrev pub is_part : u.UnitTree → Bool
is_part unit = is_some (part_place unit)

-- The name behind `part of` is that of the library.
abbrev pub names_library : Option u.DirectiveKind → List (List ℕ) → Bool
names_library (Some (u.library_directive word own owns)) names = same_texts names (identifier_text own ∷ map dot_text owns)
names_library (Some (u.part_of_directive word of_word own owns)) names = false
names_library (Some (u.import_directive word uri prefix combinators)) names = false
names_library (Some (u.export_directive word uri combinators)) names = false
names_library (Some (u.part_directive word uri)) names = false
names_library None names = false

abbrev pub kind_is_part_of : Option u.DirectiveKind → Option u.DirectiveKind → Bool
kind_is_part_of (Some (u.part_of_directive word of_word name more)) library = names_library library (identifier_text name ∷ map dot_text more)
kind_is_part_of (Some (u.library_directive word name more)) library = false
kind_is_part_of (Some (u.import_directive word uri prefix combinators)) library = false
kind_is_part_of (Some (u.export_directive word uri combinators)) library = false
kind_is_part_of (Some (u.part_directive word uri)) library = false
kind_is_part_of None library = false

-- The unit is a part of the library that the other unit is, by its name.
abbrev pub is_part_of : u.UnitTree → u.UnitTree → Bool
is_part_of unit library = kind_is_part_of (first_kind unit.directives) (first_kind library.directives)
