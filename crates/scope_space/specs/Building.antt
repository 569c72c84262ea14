-- Means of proof, which no public contract cites: how the namespaces are built.
use Rattle.std.specs.Prelude.{◌≡◌, ℕ, Bool, true, false, not, ◌==◌, ◌&&◌, ◌||◌, List, length, Option, Some, None, slice_get, slice_index_or, find, filter, Contains, if◌then◌else◌}
use Rattle.std.specs.List.{list_any, filter_map, flat_map}
use Rattle.std.specs.Option.{option_or}
use Rattle.dart_base.specs.declared.name.Name.{Name}
use Rattle.scope_space.specs.declared.library.Import.{Import}
use Rattle.scope_space.specs.declared.library.Library.{Library}
use Rattle.scope_space.specs.declared.handed.Handed.{Handed}
use Rattle.scope_space.specs.declared.offer.Offer.{Offer}
use Rattle.scope_space.specs.declared.space.Space.{Space}
use Rattle.scope_space.specs.declared.bound.Bound.{Bound}
use Rattle.scope_space.specs.declared.bound.Bound.TheVariants.{Given, Ambiguous, Unknown}
use Rattle.scope_space.specs.Library.{declares, shares, passes}
use Rattle.scope_space.specs.Hands.{Hands}
use Rattle.scope_space.specs.Namespace.{is_under, is_dart}

-- whether a marked library hands the name to this one, which doesn't declare it
abbrev pub takes_over : List Bool → ℕ → Library → Bool
takes_over marks name library =
    list_any (λ export. slice_index_or marks export.target false && passes name export.combinators.items) library.exports.items
    && not (declares library name)

abbrev pub exports : Library → ℕ → Bool
exports library owner = list_any (λ export. export.target == owner) library.exports.items

abbrev pub is_exported : List Library → ℕ → Bool
is_exported libraries owner = list_any (λ library. exports library owner) libraries

-- the owner declares the name for others too
abbrev pub SharesAt : List Library → ℕ → ℕ → Type 0
SharesAt libraries owner name = (library : Library) → slice_get libraries owner ≡ Some library → shares library name ≡ true

-- the entry is of a name that its library hands out
pub record IsHanded (libraries : List Library) (one : Handed) : Type 0 where
  pub hands : Hands libraries one.name.0 one.owner one.library
  pub dart : one.is_dart ≡ is_dart libraries one.owner

-- each entry is of a name that its library hands out
pub record AreHanded (libraries : List Library) (list : List Handed) : Type 0 where
  pub each : (one : Handed) → Contains list one → IsHanded libraries one

-- an entry of the list for the name, its owner and the library that hands it out
pub record Lists (list : List Handed) (owner name at : ℕ) : Type 0 where
  pub one : Handed
  pub among : Contains list one
  pub named : one.name.0 ≡ name
  pub owned : one.owner ≡ owner
  pub from : one.library ≡ at

-- the list has an entry for each library that hands out the owner's name
pub record ListsName (libraries : List Library) (list : List Handed) (owner name : ℕ) : Type 0 where
  pub each : (at : ℕ) → Hands libraries name owner at → Lists list owner name at

-- the list has all names of the owner
pub record ListsAll (libraries : List Library) (list : List Handed) (owner : ℕ) : Type 0 where
  pub each : (name : ℕ) → ListsName libraries list owner name

-- no entry went
pub record Keeps (old new : List Handed) : Type 0 where
  pub each : (one : Handed) → Contains old one → Contains new one

-- what an import offers of an entry that its library hands out
abbrev pub offered : Import → Handed → Option Offer
offered import one =
    if passes one.name.0 import.combinators.items
    then Some (record { name = one.name; prefix = import.prefix; owner = one.owner; is_dart = one.is_dart }) else None

-- what an import offers of all entries
abbrev pub offered_by : List Handed → Import → List Offer
offered_by handed import = filter_map (offered import) (filter (λ one. one.library == import.target) handed)

-- the tables of one library
pub record IsSpaceFrom (handed : List Handed) (library : Library) (space : Space) : Type 0 where
  pub offers : (key : ℕ) → filter (λ offer. offer.name.0 == key) space.offers
      ≡ filter (λ offer. offer.name.0 == key) (flat_map (offered_by handed) library.imports.items)
  pub prefixes : (key : ℕ) → filter (λ name. name.0 == key) space.prefixes
      ≡ filter (λ name. name.0 == key) (filter_map (λ import. import.prefix) library.imports.items)

-- a list of all that libraries hand out
pub record IsAllHanded (libraries : List Library) (handed : List Handed) : Type 0 where
  pub sound : AreHanded libraries handed
  pub complete : (owner : ℕ) → ListsAll libraries handed owner

-- the tables of all libraries, from a list of what these hand out
pub record AreSpacesFrom (handed : List Handed) (libraries : List Library) (spaces : List Space) : Type 0 where
  pub long : length spaces ≡ length libraries
  pub each : (at : ℕ) (library : Library) (space : Space) → slice_get libraries at ≡ Some library
      → slice_get spaces at ≡ Some space → IsSpaceFrom handed library space

-- the tables of all libraries, from all that these hand out
pub record AreSpaces (libraries : List Library) (spaces : List Space) : Type 0 where
  pub handed : List Handed
  pub all : IsAllHanded libraries handed
  pub from : AreSpacesFrom handed libraries spaces

abbrev pub is_offered : Option Name → Offer → Bool
is_offered prefix offer = is_under prefix offer.prefix

abbrev pub is_of_files : Option Name → Offer → Bool
is_of_files prefix offer = not offer.is_dart && is_under prefix offer.prefix

abbrev pub first_offer : Option Name → List Offer → Option Offer
first_offer prefix offers = option_or (find (is_of_files prefix) offers) (find (is_offered prefix) offers)

-- whether an offer is as good as the first, and of another owner
abbrev pub is_rival : Option Name → Offer → Offer → Bool
is_rival prefix first offer =
    is_under prefix offer.prefix && (first.is_dart || not offer.is_dart) && not (offer.owner == first.owner)

abbrev pub bound_from : Option Name → List Offer → Option Offer → Bound
bound_from prefix offers None = Unknown
bound_from prefix offers (Some first) = if list_any (is_rival prefix first) offers then Ambiguous else Given first.owner

-- what offers of one name come to
abbrev pub bound_in : Option Name → List Offer → Bound
bound_in prefix offers = bound_from prefix offers (first_offer prefix offers)
