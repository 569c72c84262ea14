-- What contracts see of loops, local functions and parts of a try.
use Rattle.std.specs.Prelude.{ℕ, List, [], ◌∷◌, false, codes}
use Rattle.dart_base.specs.declared.place.Place.{Place}
use Rattle.core_program.specs.Core as c
use Rattle.dart_tree.specs.Tree as t
use Rattle.dart_tree.specs.Types as ty
use Rattle.translation.specs.Functions as f
use Rattle.translation.specs.Productions as low
use Rattle.translation.specs.Statements as s
use Rattle.translation.specs.Surroundings.{Text, Core}
use Rattle.translation.specs.Types as y
use Rattle.translation.specs.Walk as w
use Rattle.lower_clause.specs.Parts.{for_block, turn_block, handled_behind}

-- the loop of a `for`, behind the forms with which it starts
abbrev pub for_turns : List Text → Place → ℕ → List Core → w.Walk (c.Part Text) → w.Walk (List Core) → w.Walk (c.Part Text) → w.Walk (List Core)
for_turns labels place number forms test updates body st =
    w.on (s.looping labels (λ after. w.on (test after) (λ test after. w.on (updates after) (λ steps after. w.on (body after)
    (λ body after. w.went (for_block place number forms test steps body ∷ []) after)))) st) w.went

-- a turn of a for-in on the iterator
abbrev pub turn : Place → (Core → w.Walk Core) → w.Walk (List Core) → Core → w.Walk Core
turn place next body t st = w.scoped (λ after. w.on (next (s.get place t (codes "current")) after) (λ first after.
    w.on (s.part body after) (λ rest after. w.went (turn_block place first rest) after))) st

abbrev pub for_in_core : Place → ℕ → ℕ → Core → Core → Core → Core
for_in_core place number t form test body =
    c.at place (c.let_in t (s.get place form (codes "iterator")) (s.loop place number [] (c.given test) c.missing (c.given body)))

abbrev pub for_in : List Text → Place → Place → w.Walk Core → y.PlacedName → ty.VariableKind → w.Walk (List Core) → w.Walk (List Core)
for_in labels place at iterated name kind body st =
    s.for_in_form labels place at iterated (s.next place name (y.asked_of_kind st kind) kind) body st

-- one part of a `try`, behind those before it
abbrev pub try_part : ty.TryKind → t.Block → s.TryParts → w.Walk s.TryParts
try_part kind block before st = w.on (low.try_parts (t.try_part kind block t.no_try_parts) st)
    (λ parts st. w.went (handled_behind before parts) st)

abbrev pub local_made : Text → t.Function → w.Walk ℕ
local_made name (t.the_function external result _ given inner) outer = f.inner_function name
    (y.function_type outer (y.result_type outer result) given) (y.asked_of_result outer result) (f.bind_parameters false outer given) (low.body inner) outer
