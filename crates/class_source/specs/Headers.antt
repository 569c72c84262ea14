-- The header of a class: its type parameters, and the types that it names (ECMA-408, 10.9 Superclasses, 10.10 Superinterfaces,
-- 12 Mixins, 14 Generics). An alias of a function type is no class; among type arguments and in bounds it stands as dynamic.
use Rattle.std.specs.Prelude.{List, [], ◌∷◌, map, Option, None, Some}
use Rattle.dart_base.specs.declared.place.Place.{Place}
use Rattle.dart_tree.specs.Places.{place_of}
use Rattle.dart_tree.specs.Types as y
use Rattle.dart_tree.specs.Unit as u
use Rattle.translation.specs.Surroundings.{Ty}
use Rattle.translation.specs.Walk.{State}
use Rattle.translation.specs.Types.{typed, no_alias, or_dynamic}
use Rattle.class_source.specs.Rows.{HeaderType}

-- the first token of a type
abbrev pub place_of_type : y.TypeNode → Place
place_of_type (y.dynamic_type place) = place
place_of_type (y.named_type name dot arguments) = place_of name

abbrev pub type_in : State → y.TypeNode → Ty
type_in st node = or_dynamic (typed no_alias st node)

abbrev pub header_type : State → y.TypeNode → HeaderType
header_type st node = record { place = place_of_type node; of = type_in st node }

abbrev pub header_types : State → y.TypeList → List HeaderType
header_types st y.no_more_types = []
header_types st (y.type_more comma one more) = header_type st one ∷ header_types st more

abbrev pub clause_types : State → Option u.TypeClause → List HeaderType
clause_types st None = []
clause_types st (Some x) = header_types st x.types

abbrev pub superclass_of : State → Option u.Superclass → Option HeaderType
superclass_of st None = None
superclass_of st (Some x) = Some (header_type st x.superclass)

abbrev pub mixins_of : State → Option u.Superclass → List HeaderType
mixins_of st None = []
mixins_of st (Some x) = clause_types st x.mixins

-- what a header names
pub record Named : Type 0 where
  pub superclass : Option HeaderType
  pub mixins : List HeaderType
  pub interfaces : List HeaderType

abbrev pub named : State → u.ClassKind → Named
named st (u.declared_class above interfaces opening members closing) = record {
  superclass = superclass_of st above;
  mixins = mixins_of st above;
  interfaces = clause_types st interfaces;
}
named st (u.mixed_class equals above mixed interfaces semicolon) = record {
  superclass = Some (header_type st above);
  mixins = clause_types st (Some mixed);
  interfaces = clause_types st interfaces;
}

abbrev pub bound : State → Option u.Bound → Option Ty
bound st None = None
bound st (Some x) = Some (type_in st x.bound)

abbrev pub bounds : State → Option u.TypeParameters → List (Option Ty)
bounds st None = []
bounds st (Some x) = map (λ (p : u.TypeParameter). bound st p.bound) x.items
