-- Where a name stands.
use Rattle.dart_base.specs.declared.place.Place.{Place}
use Rattle.dart_tree.specs.declared.identifier.Identifier.{Identifier}
use Rattle.dart_tree.specs.declared.identifier.Identifier.TheVariants as i

abbrev pub place_of : Identifier → Place
place_of (i.Name place text) = place
place_of (i.Get place) = place
place_of (i.Set place) = place
