-- What the declaration of a class writes, of all that is declared inside of it (ECMA-408, 10 Classes).
use Rattle.std.specs.Prelude.{ℕ, ◌+◌, List, [], ◌∷◌, Option, Some, None, Bool, true, false, drop, map, filter_map, if◌then◌else◌}
use Rattle.std.specs.Borrow.{Bor}
use Rattle.std.specs.Global.{Vec}
use Rattle.std.specs.List.{before_first, zip}
use Rattle.dart_base.specs.declared.name.Name.{Name}
use Rattle.core_program.specs.ProgramView.{text_at}
use Rattle.scope_declared.specs.declared.declaration.DeclaredKind.{DeclaredKind}
use Rattle.scope_declared.specs.declared.declaration.DeclaredKind.TheVariants as k
use Rattle.scope_declared.specs.declared.declaration.Owner.TheVariants as owner
use Rattle.scope_declared.specs.declared.declaration.Role.TheVariants as role
use Rattle.scope_declared.specs.declared.declaration.Declared.{Declared}
use Rattle.translation.specs.Surroundings.{Text}
use Rattle.scope_class.specs.Members.{stands_outermost, within}
use Rattle.scope_class.specs.Constructors.{constructors_among, constructor_id}
use Rattle.scope_class.specs.declared.constructor.Making.{Making}
use Rattle.scope_class.specs.declared.constructor.Making.TheVariants as making
use Rattle.lower_added.specs.Added.{Generative, Written, Added}
use Rattle.lower_added.specs.declared.added.Added as code_added
use Rattle.lower_added.specs.declared.written.Generative as code_generative
use Rattle.lower_added.specs.declared.written.Written as code_written

-- ---- the generative constructors

abbrev pub generative_by : Making → List Text → ℕ → Declared → Option Generative
generative_by making.Generative texts n one = Some (record { id = constructor_id texts one; number = n })
generative_by making.Factory texts n one = None

abbrev pub generative_of : List Text → (ℕ × Declared) × Making → Option Generative
generative_of texts p = generative_by p.1 texts p.0.0 p.0.1

-- those among declarations, where constructors are written in these ways in turn
abbrev pub generatives : List Text → List (ℕ × Declared) → List Making → List Generative
generatives texts declarations ways = filter_map (generative_of texts) (zip (constructors_among declarations) ways)

-- ---- functions in initial values of fields (10.5 Instance Variables)

abbrev pub is_field : DeclaredKind → Bool
is_field (k.Owned owner.Object role.Variable) = true
is_field (k.Owned owner.Object role.Final) = true
is_field other = false

-- a function literal or local function
abbrev pub is_inner : DeclaredKind → Bool
is_inner k.Literal = true
is_inner k.LocalFunction = true
is_inner other = false

-- how many functions stand in initial values of fields, where the first declarations stand in one or not
abbrev pub inner_count : Bool → List Declared → ℕ
inner_count in_field [] = 0
inner_count in_field (x ∷ xs) = if is_inner x.kind
    then (if in_field then 1 else 0) + inner_count in_field xs
    else inner_count (is_field x.kind) xs

-- what is declared inside of declaration n
abbrev pub inside : List Declared → ℕ → List Declared
inside numbered n = before_first stands_outermost (drop (n + 1) numbered)

-- ---- a class

-- what the class of declaration n writes, which has so many accessors and writes constructors in these ways, if any
abbrev pub written_class : List Text → List Declared → ℕ → ℕ → Bool → List Making → Written
written_class texts numbered n accessors has_constructor ways = record {
  accessors = accessors;
  inner = inner_count false (inside numbered n);
  has_constructor = has_constructor;
  constructors = generatives texts (within numbered n) ways;
}

-- ---- what contracts see

abbrev pub id_text : List Text → Option Name → Text
id_text texts None = []
id_text texts (Some name) = text_at texts name.0

abbrev pub generative : List Text → code_generative.Generative → Generative
generative texts x = record { id = id_text texts x.id; number = x.number }

abbrev pub all_generative : List Text → Vec code_generative.Generative → List Generative
all_generative texts xs = map (generative texts) xs.items

abbrev pub written : List Text → code_written.Written → Written
written texts x = record {
  accessors = x.accessors;
  inner = x.inner;
  has_constructor = x.has_constructor;
  constructors = all_generative texts x.constructors;
}

abbrev pub option_written : List Text → Option (Bor code_written.Written) → Option Written
option_written texts None = None
option_written texts (Some x) = Some (written texts x.now)

abbrev pub added : List Text → code_added.Added → Added
added texts x = record { constructors = all_generative texts x.constructors; next = x.next }

abbrev pub all_done : List Text → Vec (Vec code_generative.Generative) → List (List Generative)
all_done texts done = map (all_generative texts) done.items
