-- What the innermost declaration of a name makes it mean (ECMA-408, 16.33 Identifier Reference).
use Rattle.std.specs.Prelude.{Bool, true, false, not, ◌&&◌, List}
use Rattle.std.specs.List.{list_any}
use Rattle.dart_base.specs.declared.place.Place.{Place}
use Rattle.scope_declared.specs.declared.declaration.Owner.{Owner}
use Rattle.scope_declared.specs.declared.declaration.Owner.TheVariants as owner
use Rattle.scope_declared.specs.declared.declaration.DeclaredKind.{DeclaredKind}
use Rattle.scope_declared.specs.declared.declaration.DeclaredKind.TheVariants as k
use Rattle.scope_declared.specs.declared.declaration.Declared.{Declared}
use Rattle.scope_table.specs.Order.{place_before}
use Rattle.scope_table.specs.declared.instance.Stretch.{Stretch}
use Rattle.dart_scope.specs.declared.meaning.Meaning.{Meaning}
use Rattle.dart_scope.specs.declared.meaning.Meaning.TheVariants as m

abbrev pub is_within : Place → Stretch → Bool
is_within at x = not (place_before at x.first) && not (place_before x.last at)

-- there is an instance where no stretch without one reaches
abbrev pub has_instance : List Stretch → Place → Bool
has_instance stretches at = not (list_any (is_within at) stretches)

-- an instance member means nothing where there is no instance
abbrev pub member_meaning : Bool → Meaning
member_meaning true = m.Member
member_meaning false = m.NoInstance

abbrev pub owned_meaning : Place → Bool → Owner → Meaning
owned_meaning place instance owner.Object = member_meaning instance
owned_meaning place instance owner.Class = m.Static place
owned_meaning place instance owner.Library = m.Static place

abbrev pub kind_meaning : Place → Bool → DeclaredKind → Meaning
kind_meaning place instance (k.TypeParameter number) = m.TypeParameter number
kind_meaning place instance (k.Owned whose role) = owned_meaning place instance whose
kind_meaning place instance k.Operator = member_meaning instance
kind_meaning place instance _ = m.Local place

-- what a name means whose innermost declaration this is, where there is an instance or not
abbrev pub meaning_of : Bool → Declared → Meaning
meaning_of instance d = kind_meaning d.place instance d.kind
