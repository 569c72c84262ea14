-- When a value that comes to a site fails its check, and what happens then (ECMA-408, 19 Types; checked mode).
use Rattle.std.specs.Prelude.{ℕ, List, [], ◌∷◌, Bool, true, false, ◌&&◌, nat_eq, Option, Some, None, IsTrue, ◌↔◌}
use Rattle.dart_base.specs.declared.place.Place.{Place}
use Rattle.dart_ir.specs.declared.ending.Line.{Line}
use Rattle.dart_ir.specs.declared.ending.Line.TheVariants as line
use Rattle.dart_ir.specs.declared.kind.SiteKind.{SiteKind}
use Rattle.dart_ir.specs.declared.kind.SiteKind.TheVariants as kind
use Rattle.dart_ir.specs.declared.kind.ThrowKind.TheVariants.{TypeError}
use Rattle.dart_ir.specs.declared.value.Value.{Value}
use Rattle.dart_ir.specs.declared.value.Value.TheVariants.{Null}
use Rattle.dart_ir.specs.Object.{HeadTy, null, of, function}
use Rattle.dart_ir.specs.Ty.{Ty, dynamic, class, of_list}
use Rattle.dart_ir.specs.Classes.{IsFormed}
use Rattle.dart_ir.specs.declared.class.Classes.{Classes}
use Rattle.dart_type.specs.Instance.{instance}
use Rattle.dart_type.specs.Relation.{IsSubtype, table_of}
use Rattle.dart_store.specs.Heap.{Heap}
use Rattle.core_program.specs.Program.{Class, Function, Site, Program}
use Rattle.core_program.specs.Stripped as stripped
use Rattle.evaluation.specs.State.{with_event, with_line, reported, answer, ended, check_failed, ends, Meaning, Natives, Reaction, Setting, World}
use Rattle.evaluation.specs.Classes.{class_at, function_at, site_at, type_list}
use Rattle.evaluation.specs.Objects.{throw_new}
use Rattle.evaluation.specs.Evaluation.{nested, world_over}
use Rattle.evaluation.specs.Prelude.{known}

-- ---- verdicts

-- A program with its annotations, the class of booleans, and whether the first type is a subtype of the second.
pub record Checking : Type 0 where
  pub program : Program ℕ
  pub bool_class : ℕ
  pub is_subtype : Ty → Ty → Bool

abbrev pub signature_of : Option (Function ℕ) → Ty
signature_of None = dynamic
signature_of (Some f) = f.signature

-- the type of a value that isn't null; that of a function value is its signature with the type arguments put in
abbrev pub head_type : Program ℕ → HeadTy → Ty
head_type p null = dynamic
head_type p (of c ts) = class c (of_list ts)
head_type p (function f ts) = instance (of_list ts) (signature_of (function_at p f))

-- null passes
abbrev pub is_of_type : Checking → HeadTy → Ty → Bool
is_of_type k null t = true
is_of_type k head t = k.is_subtype (head_type k.program head) t

abbrev pub passes_type : Checking → Option Ty → HeadTy → List Ty → Bool
passes_type k None head args = true
passes_type k (Some t) head args = is_of_type k head (instance (of_list args) t)

-- a condition is a boolean; that it is null is another site's
abbrev pub is_condition : Checking → HeadTy → Bool
is_condition k null = true
is_condition k (of c ts) = nat_eq c k.bool_class
is_condition k (function f ts) = false

abbrev pub is_there : HeadTy → Bool
is_there null = false
is_there head = true

-- each type argument against its bound, in which the type arguments are put in
abbrev pub keeps_bound : Checking → List Ty → Ty → Option Ty → Bool
keeps_bound k ts t None = true
keeps_bound k ts t (Some bound) = k.is_subtype t (instance (of_list ts) bound)

abbrev pub keep_bounds : Checking → List Ty → List Ty → List (Option Ty) → Bool
keep_bounds k all (t ∷ ts) (bound ∷ bounds) = keeps_bound k all t bound && keep_bounds k all ts bounds
keep_bounds k all ts bounds = true

abbrev pub bounds_of : Option (Class ℕ) → List (Option Ty)
bounds_of None = []
bounds_of (Some c) = c.bounds

abbrev pub within_bounds : Checking → Ty → Bool
within_bounds k (class c ts) = keep_bounds k (type_list ts) (type_list ts) (bounds_of (class_at k.program c))
within_bounds k t = true

abbrev pub passes_bounds : Checking → Option Ty → List Ty → Bool
passes_bounds k None args = true
passes_bounds k (Some t) args = within_bounds k (instance (of_list args) t)

-- a value of the class of the cases, where there is a case
abbrev pub is_of_class : Option Ty → HeadTy → Bool
is_of_class (Some (class c ts)) (of d us) = nat_eq c d
is_of_class (Some t) head = false
is_of_class None head = true

abbrev pub passes_kind : Checking → SiteKind → Option Ty → HeadTy → List Ty → Bool
passes_kind k kind.Condition required head args = is_condition k head
passes_kind k kind.NullCondition required head args = is_there head
passes_kind k kind.Bound required head args = passes_bounds k required args
passes_kind k kind.SwitchClass required head args = is_of_class required head
passes_kind k other required head args = passes_type k required head args

abbrev pub passes_at : Checking → Option (Site ℕ) → HeadTy → List Ty → Bool
passes_at k None head args = true
passes_at k (Some site) head args = passes_kind k site.kind site.required head args

-- Whether the site allows a value of this head, where these type arguments are in scope.
abbrev pub passes : Checking → ℕ → HeadTy → List Ty → Bool
passes k number head args = passes_at k (site_at k.program number) head args

-- ---- reactions

-- What follows a check that fails. In production nothing does, and in checked mode it is reported and an error thrown. That the turn ends
-- there is for the law on the first failed check alone.
pub data OnFailure : Type 0 where
  lets_pass : OnFailure
  stops : OnFailure
  reports : OnFailure

abbrev pub no_place : Place
no_place = record { unit = 0; line = 0; column = 0 }

abbrev pub site_place : Option (Site ℕ) → Place
site_place None = no_place
site_place (Some site) = site.place

abbrev pub site_kind : Option (Site ℕ) → SiteKind
site_kind None = kind.VarInit
site_kind (Some site) = site.kind

abbrev pub report_line : Program ℕ → ℕ → Line
report_line p number = line.Report (record { 0 = number }) (site_kind (site_at p number))

abbrev pub fails : Checking → Setting → OnFailure → ℕ → Value → Meaning
fails k s lets_pass number v st = ends (answer v) st
fails k s stops number v st = ends (ended (check_failed number)) st
fails k s reports number v st =
    throw_new s.known (site_place (site_at k.program number)) TypeError Null
    (with_event (with_line st (report_line k.program number)) (reported number))

abbrev pub judged : Bool → Checking → Setting → OnFailure → ℕ → Value → Meaning
judged true k s how number v st = ends (answer v) st
judged false k s how number v st = fails k s how number v st

abbrev pub reaction : Checking → Setting → OnFailure → Reaction
reaction k s how number head args v = judged (passes k number head args) k s how number v

-- the world of a setting, where calls nest so deep at most
abbrev pub world : Checking → Setting → OnFailure → ℕ → World
world k s how depth = world_over s (reaction k s how) (nested s (reaction k s how) depth)

-- ---- the setting of a program

-- It tells of types without parameters whether the first is a subtype of the second, by the derivations over these classes.
pub record DecidesSubtypes (classes : Classes) (is_subtype : Ty → Ty → Bool) : Type 0 where
  pub decides : (t s : Ty) → IsFormed classes 0 t → IsFormed classes 0 s → IsTrue (is_subtype t s) ↔ IsSubtype (table_of classes) t s

-- what checks of a program ask, with the texts of its names
abbrev pub checking_of : Program ℕ → List (List ℕ) → (Ty → Ty → Bool) → Checking
checking_of p names is_subtype = record { program = p; bool_class = (known p names).bool_class; is_subtype = is_subtype }

-- what evaluation asks of a program: it sees no annotation
abbrev pub setting_of : Program ℕ → List (List ℕ) → (Ty → Ty → Bool) → Natives → ℕ → (Heap → Value → Option ℕ) → Setting
setting_of p names is_subtype natives isolate parcel_cost = record {
  program = stripped.program p;
  names = names;
  known = known p names;
  is_subtype = is_subtype;
  natives = natives;
  isolate = isolate;
  parcel_cost = parcel_cost;
}
