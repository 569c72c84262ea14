-- The constructors that a class writes, by their ids (ECMA-408, 10.6 Constructors).
use Rattle.std.specs.Prelude.{ℕ, Bool, true, false, List, [], ◌∷◌, Option, filter, find, flat_map, slice_get, unwrap_or, bytes_eq}
use Rattle.std.specs.Option.{option_map}
use Rattle.std.specs.List.{zip}
use Rattle.dart_tree.specs.Unit as u
use Rattle.scope_declared.specs.declared.declaration.DeclaredKind.{DeclaredKind}
use Rattle.scope_declared.specs.declared.declaration.DeclaredKind.TheVariants as k
use Rattle.scope_declared.specs.declared.declaration.Declared.{Declared}
use Rattle.lower_leaf.specs.Around.{constructor}
use Rattle.translation.specs.Surroundings.{Text, Made}
use Rattle.translation.specs.Surroundings as m
use Rattle.scope_dictionary.specs.Entries.{at_text}
use Rattle.scope_class.specs.Members.{within}
use Rattle.scope_class.specs.declared.constructor.Making.{Making}
use Rattle.scope_class.specs.declared.constructor.Making.TheVariants as making
use Rattle.scope_class.specs.declared.constructor.Constructors.{Constructors}

-- what writes a constructor, for each that the members write (10.6.1 Generative Constructors, 10.6.2 Factories)
abbrev pub constructor_making : u.Constructor → Making
constructor_making (u.generative constant name parameters inits body) = making.Generative
constructor_making (u.redirecting name parameters colon this other given semicolon) = making.Generative
constructor_making (u.factory external word name parameters body) = making.Factory
constructor_making (u.redirecting_factory external word name parameters equals target other semicolon) = making.Factory

abbrev pub member_makings : u.MemberKind → List Making
member_makings (u.constructor_member x) = constructor_making x ∷ []
member_makings (u.function_member x) = []
member_makings (u.accessor_member x) = []
member_makings (u.variables_member x) = []
member_makings (u.operator_member x) = []

abbrev pub makings : List u.Member → List Making
makings members = flat_map (λ x. member_makings x.kind) members

abbrev pub is_constructor : DeclaredKind → Bool
is_constructor k.Constructor = true
is_constructor k.NamedConstructor = true
is_constructor other = false

-- those among numbered declarations
abbrev pub constructors_among : List (ℕ × Declared) → List (ℕ × Declared)
constructors_among declarations = filter (λ p. is_constructor p.1.kind) declarations

-- the id of a constructor: the name behind its class's, and nothing where there is none
abbrev pub id_in : List Text → DeclaredKind → ℕ → Text
id_in texts k.NamedConstructor name = unwrap_or (slice_get texts name) []
id_in texts other name = []

abbrev pub constructor_id : List Text → Declared → Text
constructor_id texts one = id_in texts one.kind one.name.0

abbrev pub is_called : List Text → Text → (ℕ × Declared) × Making → Bool
is_called texts id p = bytes_eq id (constructor_id texts p.0.1)

abbrev pub made_by : Making → ℕ → Made
made_by making.Generative n = m.generative n
made_by making.Factory n = m.factory n

abbrev pub made_from : (ℕ × Declared) × Making → Made
made_from p = made_by p.1 p.0.0

-- the constructor with the id, of declarations that are written in these ways in turn
abbrev pub constructor_among : List Text → List (ℕ × Declared) → List Making → Text → Option Made
constructor_among texts declarations ways id = option_map made_from (find (is_called texts id) (zip (constructors_among declarations) ways))

-- the constructor of class n with the id, whose members write constructors in these ways
abbrev pub constructor_of : List Text → List Declared → ℕ → List Making → Text → Made
constructor_of texts numbered n ways id = unwrap_or (constructor_among texts (within numbered n) ways id) m.no_constructor

-- what is made for a class
abbrev pub constructor_in : Constructors → Text → Made
constructor_in made id = unwrap_or (option_map constructor (at_text made.made id)) m.no_constructor
