-- A program without its columns and without the marks of annotations. Two programs are alike exactly where, with names as
-- their texts, these are equal.
use Rattle.std.specs.Prelude.{◌≡◌, ℕ, map, Option, Some, None, Bool, false}
use Rattle.dart_base.specs.declared.place.Place.{Place}
use Rattle.core_program.specs.declared.program.CoreProgram.{CoreProgram}
use Rattle.core_program.specs.Core.{Core, Form, Cores, Part, Handler, Test, Handlers, Case, Cases}
use Rattle.core_program.specs.Core as c
use Rattle.core_program.specs.Program as p
use Rattle.core_program.specs.ProgramView.{text_program}

-- the unit and the line alone
abbrev pub line : Place → Place
line x = record x { column = 0 }

abbrev mutual
  pub core : {N : Type 0} → Core N → Core N
  core (c.at place x) = c.at (line place) (form x)

  pub form : {N : Type 0} → Form N → Form N
  form (c.leaf x) = c.leaf x
  form (c.type_literal t) = c.type_literal t
  form (c.unary x operand) = c.unary x (core operand)
  form (c.binary x first second) = c.binary x (core first) (core second)
  form (c.row x operands names) = c.row x (cores operands) names
  form (c.let_in x value body) = c.let_in x (core value) (core body)
  form (c.block forms) = c.block (cores forms)
  form (c.choice condition first second) = c.choice (core condition) (part first) (part second)
  form (c.new k d types operands names) = c.new k d types (cores operands) names
  form (c.list types items) = c.list types (cores items)
  form (c.is_type value t) = c.is_type (core value) t
  form (c.as_type value t) = c.as_type (core value) t
  form (c.loop target copies condition update body) = c.loop target copies (part condition) (part update) (part body)
  form (c.return value) = c.return (part value)
  form (c.try body handlers last) = c.try (core body) (all_handlers handlers) (part last)
  form (c.switch target value cases) = c.switch target (core value) (all_cases cases)
  form (c.labelled target body) = c.labelled target (core body)

  pub cores : {N : Type 0} → Cores N → Cores N
  cores c.no_cores = c.no_cores
  cores (c.core_more x xs) = c.core_more (core x) (cores xs)

  pub part : {N : Type 0} → Part N → Part N
  part c.missing = c.missing
  part (c.given x) = c.given (core x)

  pub handler : {N : Type 0} → Handler N → Handler N
  handler (c.handler x exception trace body) = c.handler (test x) exception trace (core body)

  pub test : {N : Type 0} → Test N → Test N
  test c.everything = c.everything
  test (c.on t) = c.on t
  test (c.malformed x) = c.malformed (core x)

  pub all_handlers : {N : Type 0} → Handlers N → Handlers N
  all_handlers c.no_handlers = c.no_handlers
  all_handlers (c.handler_more x xs) = c.handler_more (handler x) (all_handlers xs)

  pub case : {N : Type 0} → Case N → Case N
  case (c.case value body) = c.case value (core body)

  pub all_cases : {N : Type 0} → Cases N → Cases N
  all_cases c.no_cases = c.no_cases
  all_cases (c.case_more x xs) = c.case_more (case x) (all_cases xs)

abbrev pub class : {N : Type 0} → p.Class N → p.Class N
class x = record x { place = line x.place }

abbrev pub member : {N : Type 0} → p.Member N → p.Member N
member x = record x { place = line x.place }

abbrev pub function : {N : Type 0} → p.Function N → p.Function N
function x = record x { body = part x.body }

abbrev pub static : {N : Type 0} → p.Static N → p.Static N
static x = record x { init = part x.init }

abbrev pub site : {N : Type 0} → p.Site N → p.Site N
site x = record x { place = line x.place; annotated = false }

abbrev pub program : {N : Type 0} → p.Program N → p.Program N
program x = record x {
  classes = map class x.classes;
  members = map member x.members;
  functions = map function x.functions;
  statics = map static x.statics;
  sites = map site x.sites;
}

abbrev pub AreAlike : CoreProgram → CoreProgram → Type 0
AreAlike x y = program (text_program x) ≡ program (text_program y)
