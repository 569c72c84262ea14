-- Where loading stands, and one turn of it (ECMA-408, 18 Libraries and Scripts).
use Rattle.std.specs.Prelude.{ℕ, ◌+◌, nat_lt, List, [], ◌∷◌, ◌++◌, map, fold, length, position, Bool, true, false, Option, None, Some, if◌then◌else◌}
use Rattle.dart_base.specs.declared.limit.TheConstants.{PROGRAM_UNITS}
use Rattle.dart_tree.specs.Unit.{UnitTree}
use Rattle.dart_tree.specs.UnitView as view
use Rattle.scope_mention.specs.declared.mention.Mention.{Mention}
use Rattle.scope_mention.specs.declared.mention.Uri.{Uri}
use Rattle.scope_mention.specs.declared.mention.Uri.TheVariants as uri
use Rattle.scope_mention.specs.Mention.{mentions_of}
use Rattle.scope_load.specs.declared.loaded.Link.{Link}
use Rattle.scope_load.specs.declared.loaded.Loaded.{Loaded}
use Rattle.scope_load.specs.declared.units.UnitName.{UnitName}
use Rattle.scope_load.specs.declared.units.UnitName.TheVariants as n
use Rattle.scope_load.specs.Names.{same_name, folder_of, name_of}

-- the names of the units in order of first mention, the units that are taken, their mentions, the weight of the files, and whether a file too many is mentioned
pub record State : Type 0 where
  pub names : List UnitName
  pub units : List UnitTree
  pub links : List Link
  pub weight : ℕ
  pub over : Bool

abbrev pub state_of : Loaded → State
state_of l = record { names = l.names.items; units = map view.unit l.units.items; links = l.links.items; weight = l.weight; over = l.over }

-- the most units of a program, with the two of the language
abbrev pub most_units : ℕ
most_units = PROGRAM_UNITS + 2

-- the root and the two units that every program has, none of them taken
abbrev pub start : List ℕ → State
start root = record { names = n.File root ∷ n.Core ∷ n.Isolate ∷ []; units = []; links = []; weight = 0; over = false }

abbrev pub link_to : ℕ → Mention → Option ℕ → Link
link_to by mention target = record { by = by; kind = mention.kind; directive = mention.directive; place = mention.place; target = target }

abbrev pub with_link : State → Link → State
with_link state link = record state { links = state.links ++ link ∷ [] }

abbrev pub with_name : State → UnitName → State
with_name state name = record state { names = state.names ++ name ∷ [] }

-- A unit is mentioned that has this number, or none yet: then it gets the next one, unless there are enough.
abbrev pub numbered : ℕ → State → Mention → UnitName → Option ℕ → State
numbered by state mention name (Some at) = with_link state (link_to by mention (Some at))
numbered by state mention name None = if nat_lt (length state.names) most_units
    then with_link (with_name state name) (link_to by mention (Some (length state.names)))
    else record state { over = true }

abbrev pub named : ℕ → State → Mention → Option UnitName → State
named by state mention None = with_link state (link_to by mention None)
named by state mention (Some name) = numbered by state mention name (position (λ other. same_name other name) state.names)

-- A mention by the unit of this number is followed.
abbrev pub mentioned : List ℕ → ℕ → State → Mention → State
mentioned folder by state mention = named by state mention (name_of folder mention.uri)

-- the libraries of the language weigh nothing
abbrev pub weight_of : UnitName → ℕ → ℕ
weight_of (n.File name) weight = weight
weight_of n.Core weight = 0
weight_of n.Isolate weight = 0

-- The next unit is taken, of this name, tree and weight: its mentions are followed in their order.
abbrev pub after : List ℕ → State → UnitName → UnitTree → ℕ → State
after root state name unit weight =
    let next = fold (mentioned (folder_of root) (length state.units)) state (mentions_of unit) in
    record next { units = next.units ++ unit ∷ []; weight = next.weight + weight_of name weight }
