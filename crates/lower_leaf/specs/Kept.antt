-- What contracts see of what types stand for where they are written.
use Rattle.std.specs.Prelude.{List, [], ◌∷◌, map, Bool, true, false}
use Rattle.std.specs.Global.{Vec}
use Rattle.dart_ir.specs.declared.types.TypeRef.{TypeRef}
use Rattle.dart_ir.specs.declared.types.NamedType.{NamedType}
use Rattle.dart_ir.specs.Ty.{NamedTysOf, unnamed, named, named_ty}
use Rattle.core_program.specs.Named as with_names
use Rattle.core_program.specs.ProgramView.{text_at}
use Rattle.translation.specs.Surroundings.{Text, Ty}
use Rattle.translation.specs.Types as y
use Rattle.lower_leaf.specs.declared.types.Typed.{Typed}
use Rattle.lower_leaf.specs.declared.types.Typed.TheVariants as k
use Rattle.lower_leaf.specs.Around.{Around, ty, types}

abbrev pub typed : Around → Typed → y.Typed
typed a (k.WellFormed of) = y.well_formed (ty a of)
typed a (k.Malformed name) = y.malformed name

abbrev pub all_types : Around → Vec TypeRef → List Ty
all_types a ts = types a ts.items

-- what an alias stands for, if aliases count
abbrev pub aliases_of : Around → Bool → y.AliasType
aliases_of a true = a.tables.alias_type
aliases_of a false = y.no_alias

-- names with types; the code numbers the names
abbrev pub in_order : List (Text × Ty) → NamedTysOf Text
in_order [] = unnamed
in_order (n ∷ ns) = named n.0 n.1 (in_order ns)

unfoldable pub named_type : Around → NamedType → Text × Ty
named_type a n = (text_at a.texts (named_ty n).0, with_names.ty (text_at a.texts) (named_ty n).1)

abbrev pub named_types : Around → List NamedType → NamedTysOf Text
named_types a ns = in_order (map (named_type a) ns)
