-- What a turn comes to, and that the same units come to the same.
use Rattle.std.proofs.Common.{◌≡◌, ◌∙◌, ℕ, ◌<◌, ◌≤◌, ◌||◌, Bool, true, false, nat_lt, List, length, slice_get, Some, Result, Ok, Err, OnOk, refl, sym, ap, subst, lt-ltb, le-ltb}
use Rattle.dart_base.specs.declared.limit.TheConstants.{PROGRAM_WEIGHT}
use Rattle.dart_tree.specs.Unit.{UnitTree}
use Rattle.scope_load.specs.declared.reason.Reason.{Reason}
use Rattle.scope_load.specs.declared.reason.LoadFault.{LoadFault}
use Rattle.scope_load.specs.declared.reason.LoadFault.TheVariants.{Refused, TooLarge, Failed, Memory}
use Rattle.scope_load.specs.declared.units.UnitName.{UnitName}
use Rattle.scope_load.specs.Found.{FoundIs, read, Giving, SameUnits}
use Rattle.scope_load.specs.State.{State, after}
use Rattle.scope_load.specs.Load.{reason_against, Reaches, Reaches.begins, Reaches.turns, Refuses, Ends, Stops, Turns, Judges, is_too_large}

pub same_self : (G : Giving) → SameUnits G G
same_self G number name found = (λ h. h, λ h. h)

pub same_on : (F G H : Giving) → SameUnits F G → SameUnits G H → SameUnits F H
same_on F G H fg gh number name found =
    (λ h. (gh number name found).0 ((fg number name found).0 h), λ h. (fg number name found).1 ((gh number name found).1 h))

pub same_back : (G H : Giving) → SameUnits G H → SameUnits H G
same_back G H gh number name found = ((gh number name found).1, (gh number name found).0)

module _ (G H : Giving) (root : List ℕ) (same : SameUnits G H) where
  pub reaches_too : (state : State) → Reaches G root state → Reaches H root state
  reaches_too _ begins = begins
  reaches_too _ (turns state name unit weight reached next given fits) =
      turns state name unit weight (reaches_too state reached) next ((same _ _ _).0 given) fits

  ends_too : (state : State) → Ends G root state → Ends H root state
  ends_too state ends = record { reached = reaches_too state ends.reached; all = ends.all }

  pub stops_too : (fault : LoadFault) → Stops G root fault → Stops H root fault
  stops_too (Refused name reason) h = record {
    state = h.state;
    next = h.next;
    found = h.found;
    reached = reaches_too h.state h.reached;
    is_next = h.is_next;
    given = (same _ _ _).0 h.given;
    against = h.against;
  }
  stops_too TooLarge h = (h.0, ends_too h.0 h.1, h.2)
  stops_too Failed h = tt
  stops_too Memory h = tt

module _ (G : Giving) (root : List ℕ) (state : State) (at : ℕ) (is_at : at ≡ length state.units) (name : UnitName) (named : slice_get state.names at ≡ Some name) where
  next : slice_get state.names (length state.units) ≡ Some name
  next = subst (λ n. slice_get state.names n ≡ Some name) is_at named

  -- the next unit is taken, or there is a reason against it
  pub turned : (unit : UnitTree) (weight : ℕ) (result : Result (Unit {0}) LoadFault) (new : State) → G at name (read unit weight)
      → Judges (reason_against root state name (read unit weight)) result → OnOk result (new ≡ after root state name unit weight)
      → Reaches G root state → Turns G root result new
  turned unit weight (Ok done) new given judged is reached =
      subst (Reaches G root) (sym is) (turns state name unit weight reached next (subst (λ n. G n name (read unit weight)) is_at given) judged)
  turned unit weight (Err (Refused other why)) new given judged is reached = record {
    state = state;
    next = name;
    found = read unit weight;
    reached = reached;
    is_next = next;
    given = subst (λ n. G n name (read unit weight)) is_at given;
    against = judged;
  }
  turned unit weight (Err TooLarge) new given judged is reached = absurd judged
  turned unit weight (Err Failed) new given judged is reached = absurd judged
  turned unit weight (Err Memory) new given judged is reached = tt

  -- what the next name gives has a reason against it
  pub refuses : (found : FoundIs) (reason : Reason) → G at name found → reason_against root state name found ≡ Some (name, reason)
      → Reaches G root state → Refuses G root name reason
  refuses found reason given against reached = record {
    state = state;
    next = name;
    found = found;
    reached = reached;
    is_next = next;
    given = subst (λ n. G n name found) is_at given;
    against = against;
  }

-- a file too many
pub over_large : (state : State) → state.over ≡ true → is_too_large state ≡ true
over_large state h = ap (λ b. b || nat_lt PROGRAM_WEIGHT state.weight) h

-- too much weight
pub heavy_large : (state : State) → PROGRAM_WEIGHT < state.weight → is_too_large state ≡ true
heavy_large state h = by state.over
  where
    by : (b : Bool) → (b || nat_lt PROGRAM_WEIGHT state.weight) ≡ true
    by true = refl
    by false = lt-ltb PROGRAM_WEIGHT state.weight h

pub not_large : (state : State) → state.over ≡ false → state.weight ≤ PROGRAM_WEIGHT → is_too_large state ≡ false
not_large state h low = ap (λ b. b || nat_lt PROGRAM_WEIGHT state.weight) h ∙ le-ltb PROGRAM_WEIGHT state.weight low
