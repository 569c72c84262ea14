-- The functions of classes that no declaration writes, and their numbers (ECMA-408, 10.5 Instance Variables, 10.6 Constructors, 12.1
-- Mixin Application).
use Rattle.std.specs.Prelude.{ℕ, ◌+◌, List, [], ◌∷◌, ◌++◌, length, Option, Some, None, Bool, true, false, slice_get, unwrap_or}
use Rattle.std.specs.Option.{option_and_then}
use Rattle.translation.specs.Surroundings.{Text}
use Rattle.lower_added.specs.declared.added.Row.{Row}

-- a generative constructor: its id, empty for the unnamed one, and its number
pub record Generative : Type 0 where
  pub id : Text
  pub number : ℕ

-- What counts of a declared class: how many implicit accessors its fields have, how many functions stand in their initial values,
-- whether it writes a constructor, and the generative ones that it writes.
pub record Written : Type 0 where
  pub accessors : ℕ
  pub inner : ℕ
  pub has_constructor : Bool
  pub constructors : List Generative

-- the generative constructors of a class of the table, and the next number behind what was added to it
pub record Added : Type 0 where
  pub constructors : List Generative
  pub next : ℕ

-- the unnamed constructor, where none is written
abbrev pub with_unnamed : Bool → List Generative → ℕ → Added
with_unnamed true written n = record { constructors = written; next = n }
with_unnamed false written n = record { constructors = record { id = []; number = n } ∷ []; next = n + 1 }

-- a declared class: its accessors come first
abbrev pub declared_added : Written → ℕ → Added
declared_added x n = with_unnamed x.has_constructor x.constructors (n + x.accessors)

-- one for each, from number n on
abbrev pub forwarders : ℕ → List Generative → List Generative
forwarders n [] = []
forwarders n (x ∷ xs) = record { id = x.id; number = n } ∷ forwarders (n + 1) xs

-- A mixin application: accessors of the mixin's fields, the functions in their initial values once more, and a constructor for each
-- of the superclass.
abbrev pub application_added : Written → List Generative → ℕ → Added
application_added x above n = record {
  constructors = forwarders (n + x.accessors + x.inner) above;
  next = n + x.accessors + x.inner + length above;
}

-- what has no declaration gets nothing
abbrev pub added_to : Bool → Option Written → List Generative → ℕ → Added
added_to is_application None above n = record { constructors = []; next = n }
added_to false (Some x) above n = declared_added x n
added_to true (Some x) above n = application_added x above n

-- what is written that gives a class of the table its fields: its own declaration, or its mixin's
abbrev pub written_at : List Written → Option ℕ → Option Written
written_at all of = option_and_then (slice_get all) of

-- the constructors of a class that was added to
abbrev pub constructors_at : List (List Generative) → Option ℕ → List Generative
constructors_at done of = unwrap_or (option_and_then (slice_get done) of) []

-- class by class in the order of the table, from number n on, behind those that are done
abbrev pub added_from : List Written → ℕ → List (List Generative) → List Row → List (List Generative)
added_from all n done [] = done
added_from all n done (row ∷ rows) =
    let one = added_to row.is_application (written_at all row.writes) (constructors_at done row.superclass) n in
    added_from all one.next (done ++ one.constructors ∷ []) rows

-- the generative constructors of each class of the table, where what is added is numbered from n on
abbrev pub constructors_added : List Written → ℕ → List Row → List (List Generative)
constructors_added all n rows = added_from all n [] rows

-- class by class the number at which what is added to it begins, from number n on, behind the constructors of those that are done
abbrev pub starts_from : List Written → ℕ → List (List Generative) → List Row → List ℕ
starts_from all n done [] = []
starts_from all n done (row ∷ rows) =
    let one = added_to row.is_application (written_at all row.writes) (constructors_at done row.superclass) n in
    n ∷ starts_from all one.next (done ++ one.constructors ∷ []) rows

-- the number at which what is added to each class of the table begins, where all of it is numbered from n on
abbrev pub starts_added : List Written → ℕ → List Row → List ℕ
starts_added all n rows = starts_from all n [] rows
