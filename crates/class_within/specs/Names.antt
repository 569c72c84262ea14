-- The names in class declarations, each as often as it stands there.
use Rattle.std.specs.Prelude.{ℕ, List, [], ◌∷◌, ◌++◌, Option, Some, None}
use Rattle.std.specs.List.{flat_map}
use Rattle.core_names.specs.Names.{ty_names, ty_option_names}
use Rattle.class_within.specs.Seen.{HeaderType, Member, Class, Program}

-- the names of named parameters in its type
abbrev pub header_type_names : HeaderType → List ℕ
header_type_names t = ty_names t.of

abbrev pub superclass_names : Option HeaderType → List ℕ
superclass_names None = []
superclass_names (Some t) = header_type_names t

abbrev pub member_names : Member → List ℕ
member_names m = m.name ∷ ty_names m.signature

abbrev pub class_names : Class → List ℕ
class_names x =
    x.name ∷ (flat_map ty_option_names x.bounds ++ superclass_names x.superclass ++ flat_map header_type_names x.mixins
    ++ flat_map header_type_names x.interfaces ++ flat_map member_names x.members)

-- the name `call`, and those of the declarations
abbrev pub program_names : Program → List ℕ
program_names p = p.call ∷ flat_map class_names p.classes
