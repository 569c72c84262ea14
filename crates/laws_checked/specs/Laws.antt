-- A checked turn beside the same turn in production, at the level of what is written.
use Rattle.std.specs.Prelude.{◌≡◌, ℕ, List, [], ◌∷◌, ◌++◌, map, false}
use Rattle.dart_ir.specs.declared.ending.Line.{Line}
use Rattle.dart_ir.specs.declared.ending.Line.TheVariants.{Printed, Report}
use Rattle.dart_ir.specs.Object.{HeadTy}
use Rattle.dart_ir.specs.Ty.{Ty}
use Rattle.evaluation.specs.State.{Event, tested, reported, Setting}
use Rattle.evaluation.specs.Checks.{Checking, passes, lets_pass, reports, report_line, world}
use Rattle.evaluation.specs.Turn.{Entry, Isolate, Turn, turn}
use Rattle.evaluation.specs.Laws.{AllPass}

-- no line is the report of a failed check
abbrev pub NoReport : List Line → Type 0
NoReport [] = Unit {0}
NoReport (Printed units ∷ more) = NoReport more
NoReport (Report site kind ∷ more) = ⊥

-- In production no turn writes a report.
abbrev pub ProductionReportsNothing : Type 0
ProductionReportsNothing = (k : Checking) (s : Setting) (depth : ℕ) (entry : Entry) (isolate : Isolate)
    → NoReport (turn (world k s lets_pass depth) entry isolate).output

-- Both begin with these printed lines. Behind them the checked turn has this report first.
pub record WriteUntil (report : Line) (production checked : List Line) : Type 0 where
  pub printed : List (List ℕ)
  pub more : List Line
  pub checked_more : List Line
  pub output : production ≡ map Printed printed ++ more
  pub checked_output : checked ≡ map Printed printed ++ report ∷ checked_more

-- A check of production's turn fails. The checked turn has the same events up to and with the first one at which that is so, with equal
-- steps and units, and reports it at once.
pub record FollowsUntilReport (k : Checking) (production checked : Turn) : Type 0 where
  pub before : List Event
  pub number : ℕ
  pub head : HeadTy
  pub args : List Ty
  pub left : ℕ
  pub used : ℕ
  pub more : List Event
  pub checked_more : List Event
  pub passed : AllPass k before
  pub refused : passes k number head args ≡ false
  pub events : production.events ≡ before ++ tested number head args left used ∷ more
  pub checked_events : checked.events ≡ before ++ tested number head args left used ∷ reported number left used ∷ checked_more
  pub written : WriteUntil (report_line k.program number) production.output checked.output

-- No check fails, and they are the same; or they are up to the first report.
pub data Follows (k : Checking) (production checked : Turn) : Type 0 where
  no_check_fails : checked ≡ production → AllPass k production.events → Follows k production checked
  until_report : FollowsUntilReport k production checked → Follows k production checked

-- Each checked turn follows the turn in production.
abbrev pub CheckedTurnsFollow : Type 0
CheckedTurnsFollow = (k : Checking) (s : Setting) (depth : ℕ) (entry : Entry) (isolate : Isolate)
    → Follows k (turn (world k s lets_pass depth) entry isolate) (turn (world k s reports depth) entry isolate)
