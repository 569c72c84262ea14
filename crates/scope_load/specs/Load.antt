-- The units of a program from its root, or the first reason against them (ECMA-408, 18 Libraries and Scripts).
use Rattle.std.specs.Prelude.{◌≡◌, ℕ, nat_lt, List, length, slice_get, Bool, true, false, ◌||◌, Option, None, Some, Result, Ok, Err, unwrap_or}
use Rattle.std.specs.Option.{option_map, option_or}
use Rattle.dart_base.specs.declared.limit.TheConstants.{PROGRAM_WEIGHT}
use Rattle.dart_base.specs.declared.place.Place.{Place}
use Rattle.dart_tree.specs.Unit.{UnitTree}
use Rattle.scope_mention.specs.Mention.{mentions_of}
use Rattle.scope_load.specs.declared.loaded.Loaded.{Loaded}
use Rattle.scope_load.specs.declared.reason.Reason.{Reason}
use Rattle.scope_load.specs.declared.reason.Reason.TheVariants.{NotFound, Text, LeftOut, BadDirective}
use Rattle.scope_load.specs.declared.reason.LoadFault.{LoadFault}
use Rattle.scope_load.specs.declared.reason.LoadFault.TheVariants.{Refused, TooLarge, Failed, Memory}
use Rattle.scope_load.specs.declared.units.UnitName.{UnitName}
use Rattle.scope_load.specs.Found.{FoundIs, absent, refused, read, Giving}
use Rattle.scope_load.specs.Judge.{left_out, root_part, wrong_link}
use Rattle.scope_load.specs.State.{State, state_of, start, after}

-- a unit, and a reason against it
abbrev pub Against : Type 0
Against = UnitName × Reason

-- what the profile leaves out of what this unit mentions
abbrev pub uri_reason : UnitName → UnitTree → Option Against
uri_reason name unit = option_map (λ found. (name, LeftOut found.0 found.1)) (left_out (mentions_of unit))

-- the root is a part
abbrev pub root_reason : State → ℕ → UnitName → Option Against
root_reason state at name = option_map (λ place. (name, BadDirective place)) (root_part state.units at)

-- a mention is wrong, by this unit or by an earlier one
abbrev pub link_reason : State → ℕ → UnitName → Option Against
link_reason state at name =
    option_map (λ link. (unwrap_or (slice_get state.names link.by) name, BadDirective link.place)) (wrong_link state.units state.links at)

-- the reason against the directives that are known once the unit of this number and name is taken
abbrev pub directive_reason : State → ℕ → UnitName → Option Against
directive_reason state at name = option_or (root_reason state at name) (link_reason state at name)

-- the first reason against the unit that is taken next, where its name gives this
abbrev pub reason_against : List ℕ → State → UnitName → FoundIs → Option Against
reason_against root state name absent = Some (name, NotFound)
reason_against root state name (refused text) = Some (name, Text text)
reason_against root state name (read unit weight) =
    option_or (uri_reason name unit) (directive_reason (after root state name unit weight) (length state.units) name)

-- There are too many files, or they have too much weight.
abbrev pub is_too_large : State → Bool
is_too_large state = state.over || nat_lt PROGRAM_WEIGHT state.weight

module _ (Gives : Giving) (root : List ℕ) where
  -- Loading comes to this state: each unit in turn was there, and nothing was against it.
  pub data Reaches : State → Type 0 where
    begins : Reaches (start root)
    turns : (state : State) (name : UnitName) (unit : UnitTree) (weight : ℕ) → Reaches state → slice_get state.names (length state.units) ≡ Some name
        → Gives (length state.units) name (read unit weight) → reason_against root state name (read unit weight) ≡ None → Reaches (after root state name unit weight)

  -- Loading comes to a unit against which, or against one that mentions it, there is a reason: it is the first.
  pub record Refuses (name : UnitName) (reason : Reason) : Type 0 where
    pub state : State
    pub next : UnitName
    pub found : FoundIs
    pub reached : Reaches state
    pub is_next : slice_get state.names (length state.units) ≡ Some next
    pub given : Gives (length state.units) next found
    pub against : reason_against root state next found ≡ Some (name, reason)

  -- Loading comes to a state in which all units are taken.
  pub record Ends (state : State) : Type 0 where
    pub reached : Reaches state
    pub all : slice_get state.names (length state.units) ≡ None

  -- All units are taken, and they are not too large.
  abbrev pub Loads : State → Type 0
  Loads state = Ends state × (is_too_large state ≡ false)

  -- Why there is no program.
  abbrev pub Stops : LoadFault → Type 0
  Stops (Refused name reason) = Refuses name reason
  Stops TooLarge = (state : State) × Ends state × (is_too_large state ≡ true)
  Stops Failed = Unit {0}
  Stops Memory = Unit {0}

  -- what the answer of `load` says
  abbrev pub Answers : Result Loaded LoadFault → Type 0
  Answers (Ok loaded) = Loads (state_of loaded)
  Answers (Err fault) = Stops fault

  -- What the answer of one turn says: this state is reached, or there is no program.
  abbrev pub Turns : Result (Unit {0}) LoadFault → State → Type 0
  Turns (Ok done) state = Reaches state
  Turns (Err fault) state = Stops fault

-- The answer is that the units failed.
abbrev pub load_failed : {T : Type 0} → Result T LoadFault → Bool
load_failed (Ok done) = false
load_failed (Err (Refused name reason)) = false
load_failed (Err TooLarge) = false
load_failed (Err Failed) = true
load_failed (Err Memory) = false

-- The answer is this reason, or that there is none, or that memory ran out.
abbrev pub Judges : Option Against → Result (Unit {0}) LoadFault → Type 0
Judges reason (Ok done) = reason ≡ None
Judges reason (Err (Refused name why)) = reason ≡ Some (name, why)
Judges reason (Err TooLarge) = ⊥
Judges reason (Err Failed) = ⊥
Judges reason (Err Memory) = Unit {0}
