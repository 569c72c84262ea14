-- What contracts see of the parts of a string.
use Rattle.std.specs.Prelude.{ℕ, List, map, Option}
use Rattle.std.specs.Global.{Vec}
use Rattle.dart_tree.specs.declared.expression.StringPiece.{StringPiece}
use Rattle.dart_tree.specs.View as view
use Rattle.translation.specs.Strings as s
use Rattle.lower_string.specs.declared.part.StringPart.{StringPart}
use Rattle.lower_string.specs.declared.part.StringPart.TheVariants as k
use Rattle.lower_string.specs.declared.reading.Begun.{Begun}
use Rattle.lower_string.specs.declared.reading.Begun.TheVariants as b
use Rattle.lower_string.specs.declared.reading.Reading.{Reading}

abbrev pub part : StringPart → s.Part
part (k.Units text) = s.units text
part (k.Shown text) = s.shown text

abbrev pub all_parts : Vec StringPart → List s.Part
all_parts xs = map part xs.items

-- what was begun, with the name so far
abbrev pub begun : Begun → List ℕ → s.Begun
begun b.Plain name = s.plain
begun b.Backslash name = s.backslash
begun b.Unicode name = s.unicode
begun (b.Digits left value) name = s.digits left value
begun (b.Braces value) name = s.braces value
begun b.Name name = s.name name
begun (b.Character left value) name = s.character left value

abbrev pub reading : Reading → s.Reading
reading r = record { is_raw = r.is_raw; begun = begun r.begun r.name; units = r.units; parts = map part r.parts.items }

-- the units of a piece that holds no name and no expression
abbrev pub units_of_piece : StringPiece → Option (List ℕ)
units_of_piece x = s.also (s.units_alone (s.parts_of x.kind x.text)) (s.no_value (view.value x.value))
