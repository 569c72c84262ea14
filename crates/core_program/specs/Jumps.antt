-- Each jump stands inside its target, and each `rethrow` inside a handler (ECMA-408, Break, Continue and Rethrow).
use Rattle.std.specs.Prelude.{ℕ, suc, ◌<◌, List, [], ◌∷◌, Option, Some, None, Bool, true, false, nat_eq, if◌then◌else◌}
use Rattle.core_program.specs.Core.{Core, Form, Cores, Part, Handler, Test, Handlers, Case, Cases}
use Rattle.core_program.specs.Core as c
use Rattle.core_program.specs.declared.form.Way.{Way}
use Rattle.core_program.specs.declared.form.Way.TheVariants as way

-- what a form stands in, by its number
pub data Target : Type 0 where
  a_loop : ℕ → Target
  -- with how many cases it has
  a_switch : ℕ → ℕ → Target
  a_label : ℕ → Target
  a_handler : Target

abbrev pub has_number : ℕ → Target → Bool
has_number n (a_loop m) = nat_eq n m
has_number n (a_switch m cases) = nat_eq n m
has_number n (a_label m) = nat_eq n m
has_number n a_handler = false

-- each target may be left; a loop goes on, and a switch goes on with one of its cases
abbrev pub Allows : Target → Way → Type 0
Allows a_handler w = ⊥
Allows target way.Break = Unit {0}
Allows (a_loop n) way.Continue = Unit {0}
Allows (a_switch n cases) (way.Case i) = i < cases
Allows target w = ⊥

abbrev pub found : Bool → Type 0 → Type 0 → Type 0
found true here further = here
found false here further = further

-- the innermost target of the number allows the jump
abbrev pub Lands : List Target → Way → ℕ → Type 0
Lands [] w n = ⊥
Lands (target ∷ targets) w n = found (has_number n target) (Allows target w) (Lands targets w n)

abbrev pub InHandler : List Target → Type 0
InHandler [] = ⊥
InHandler (a_handler ∷ targets) = Unit {0}
InHandler (target ∷ targets) = InHandler targets

abbrev pub LeafLands : List Target → c.Leaf ℕ → Type 0
LeafLands targets (c.jump w n) = Lands targets w n
LeafLands targets c.rethrow = InHandler targets
LeafLands targets leaf = Unit {0}

abbrev pub case_count : Cases ℕ → ℕ
case_count c.no_cases = 0
case_count (c.case_more one more) = suc (case_count more)

abbrev mutual
  pub JumpsLand : List Target → Core ℕ → Type 0
  JumpsLand ts (c.at place form) = FormLands ts form

  pub FormLands : List Target → Form ℕ → Type 0
  FormLands ts (c.leaf x) = LeafLands ts x
  FormLands ts (c.type_literal t) = Unit {0}
  FormLands ts (c.unary x operand) = JumpsLand ts operand
  FormLands ts (c.binary x first second) = JumpsLand ts first × JumpsLand ts second
  FormLands ts (c.row x operands names) = CoresLand ts operands
  FormLands ts (c.let_in x value body) = JumpsLand ts value × JumpsLand ts body
  FormLands ts (c.block forms) = CoresLand ts forms
  FormLands ts (c.choice condition first second) = JumpsLand ts condition × PartLands ts first × PartLands ts second
  FormLands ts (c.new k d types operands names) = CoresLand ts operands
  FormLands ts (c.list types items) = CoresLand ts items
  FormLands ts (c.is_type value t) = JumpsLand ts value
  FormLands ts (c.as_type value t) = JumpsLand ts value
  FormLands ts (c.loop n copies condition update body) =
      PartLands (a_loop n ∷ ts) condition × PartLands (a_loop n ∷ ts) update × PartLands (a_loop n ∷ ts) body
  FormLands ts (c.return value) = PartLands ts value
  FormLands ts (c.try body handlers last) = JumpsLand ts body × HandlersLand ts handlers × PartLands ts last
  FormLands ts (c.switch n value cases) = JumpsLand ts value × CasesLand (a_switch n (case_count cases) ∷ ts) cases
  FormLands ts (c.labelled n body) = JumpsLand (a_label n ∷ ts) body

  pub CoresLand : List Target → Cores ℕ → Type 0
  CoresLand ts c.no_cores = Unit {0}
  CoresLand ts (c.core_more x xs) = JumpsLand ts x × CoresLand ts xs

  pub PartLands : List Target → Part ℕ → Type 0
  PartLands ts c.missing = Unit {0}
  PartLands ts (c.given x) = JumpsLand ts x

  pub HandlerLands : List Target → Handler ℕ → Type 0
  HandlerLands ts (c.handler x exception trace body) = TestLands ts x × JumpsLand (a_handler ∷ ts) body

  pub TestLands : List Target → Test ℕ → Type 0
  TestLands ts c.everything = Unit {0}
  TestLands ts (c.on t) = Unit {0}
  TestLands ts (c.malformed x) = JumpsLand ts x

  pub HandlersLand : List Target → Handlers ℕ → Type 0
  HandlersLand ts c.no_handlers = Unit {0}
  HandlersLand ts (c.handler_more x xs) = HandlerLands ts x × HandlersLand ts xs

  pub CaseLands : List Target → Case ℕ → Type 0
  CaseLands ts (c.case value body) = JumpsLand ts body

  pub CasesLand : List Target → Cases ℕ → Type 0
  CasesLand ts c.no_cases = Unit {0}
  CasesLand ts (c.case_more x xs) = CaseLands ts x × CasesLand ts xs
