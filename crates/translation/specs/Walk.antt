-- Walks over a tree in the order of its text. A walk has an answer and what was made by then, or it stops at the first reason
-- for which the program has no core.
use Rattle.std.specs.Prelude.{ℕ, ◌+◌, List, [], ◌∷◌, ◌++◌, Option, None, Some, Bool, true, false, length, take}
use Rattle.std.specs.Prelude.{bytes_eq, if◌then◌else◌}
use Rattle.dart_base.specs.declared.place.Place.{Place}
use Rattle.dart_base.specs.declared.feature.Feature.{Feature}
use Rattle.dart_ir.specs.declared.kind.SiteKind.{SiteKind}
use Rattle.dart_ir.specs.declared.kind.SiteKind.TheVariants as kind
use Rattle.core_program.specs.Core as c
use Rattle.core_program.specs.Program as p
use Rattle.translation.specs.Surroundings.{Text, Ty, Core, Names, Tables}

-- why a program has no core, with the place
pub data Reason : Type 0 where
  left_out : Place → Feature → Reason
  not_constant : Place → Reason
  bad_label : Place → Reason
  bad_constructor : Place → Reason
  bad_switch : Place → Reason
  bad_word : Place → Reason
  too_large : Place → Reason

-- the type that a declaration asks for, and whether an annotation wrote it
pub record Asked : Type 0 where
  pub of : Option Ty
  pub annotated : Bool

abbrev pub unasked : Asked
unasked = record { of = None; annotated = false }

-- a name that a local scope declares
pub record Entry : Type 0 where
  pub name : Text
  pub variable : ℕ
  pub asked : Asked
  pub is_final : Bool

-- what a statement with labels is for a jump (17.13 Labels); a switch has the labels of each of its cases
pub data TargetKind : Type 0 where
  a_loop : TargetKind
  a_switch : List (List Text) → TargetKind
  another : TargetKind

pub record Target : Type 0 where
  pub labels : List Text
  pub kind : TargetKind

-- the function or initialiser around
pub record Inside : Type 0 where
  -- the class whose type parameters may stand there
  pub class : Option ℕ
  -- in what a mixin application takes from its mixin: the type arguments that it gives the mixin
  pub arguments : Option (List Ty)
  -- whether there is a `this` (16.11 This)
  pub has_instance : Bool
  -- what a returned value is asked for, and whether one may be returned (17.12 Return)
  pub result : Asked
  pub gives_value : Bool
  -- whether a handler stands around (17.10 Rethrow)
  pub in_handler : Bool

-- a function or static variable, by the number of its declaration
pub record Made (A : Type 0) : Type 0 where
  pub number : ℕ
  pub made : A

-- What is in scope, the innermost last, and what was made.
pub record State : Type 0 where
  pub names : Names
  pub tables : Tables
  pub inside : Inside
  pub scopes : List Entry
  pub targets : List Target
  -- the numbers of the next variable and of the next declaration
  pub variables : ℕ
  pub declarations : ℕ
  pub sites : List (p.Site Text)
  pub literals : List Text
  pub functions : List (Made (p.Function Text))
  pub statics : List (Made (p.Static Text))
  -- whether a `const` or an `enum` was met
  pub has_constants : Bool

-- how a walk ends
pub data Went (A : Type 0) : Type 0 where
  went : A → State → Went A
  refused : Reason → Went A

abbrev pub Walk : Type 0 → Type 0
Walk A = State → Went A

-- and then
unfoldable pub on : {A B : Type 0} → Went A → (A → State → Went B) → Went B
on (went a st) next = next a st
on (refused reason) next = refused reason

-- ---- sites

abbrev pub site_of : SiteKind → Place → Asked → p.Site Text
site_of kind place asked = record { place = place; kind = kind; required = asked.of; annotated = asked.annotated }

-- a new site
abbrev pub with_site : SiteKind → Place → Asked → Walk ℕ
with_site kind place asked st = went (length st.sites) (record st { sites = st.sites ++ site_of kind place asked ∷ [] })

abbrev pub place_of_core : Core → Place
place_of_core (c.at place form) = place

-- Check(site, e), at the place of its site
abbrev pub checked : SiteKind → Place → Asked → Core → Walk Core
checked kind place asked form st =
    on (with_site kind place asked st) (λ site st. went (c.at place (c.unary (c.check site) form)) st)

-- a condition, which is neither null nor anything but a bool (16.4.1 Boolean Conversion)
abbrev pub tested : Place → Core → Walk Core
tested place form st =
    on (checked kind.Condition place unasked form st) (λ form st. checked kind.NullCondition place unasked form st)

-- ---- scopes and variables

-- a new variable without a name
abbrev pub fresh : Walk ℕ
fresh st = went st.variables (record st { variables = st.variables + 1 })

-- from here on the name is that variable's
abbrev pub entered : Text → ℕ → Asked → Bool → State → State
entered name variable asked is_final st =
    record st { scopes = st.scopes ++ record { name = name; variable = variable; asked = asked; is_final = is_final } ∷ [] }

-- a new variable, which is in scope from here on
abbrev pub declared : Text → Asked → Bool → Walk ℕ
declared name asked is_final st = went st.variables
    (record (entered name st.variables asked is_final st) { variables = st.variables + 1 })

-- What was declared since is out of scope.
unfoldable pub leaving : {A : Type 0} → State → Went A → Went A
leaving before (went a st) = went a (record st { scopes = take (length before.scopes) st.scopes })
leaving before (refused reason) = refused reason

-- in a scope of its own
abbrev pub scoped : {A : Type 0} → Walk A → Walk A
scoped walk st = leaving st (walk st)

-- the last entry of the name
abbrev pub entry_from : List Entry → Text → Option Entry → Option Entry
entry_from [] name best = best
entry_from (e ∷ es) name best = entry_from es name (if bytes_eq e.name name then Some e else best)

abbrev pub entry_of : State → Text → Option Entry
entry_of st name = entry_from st.scopes name None

-- ---- in a function or handler

-- another context for the walk, and the one around behind it
unfoldable pub within : {A : Type 0} → Inside → Walk A → Walk A
within inside walk st = on (walk (record st { inside = inside })) (λ a after. went a (record after { inside = st.inside }))

abbrev pub in_handler : {A : Type 0} → Walk A → Walk A
in_handler walk st = within (record st.inside { in_handler = true }) walk st

-- ---- jumps

-- a statement that can be left
abbrev pub targeted : {A : Type 0} → Target → Walk A → Walk A
targeted target walk st = on (walk (record st { targets = st.targets ++ target ∷ [] }))
    (λ a after. went a (record after { targets = take (length st.targets) after.targets }))

-- a string literal, in units of UTF-16
abbrev pub with_literal : Text → Walk ℕ
with_literal units st = went (length st.literals) (record st { literals = st.literals ++ units ∷ [] })
