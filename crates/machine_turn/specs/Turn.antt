-- What a turn comes to, and the turn that starts a program.
use Rattle.std.specs.Prelude.{ℕ, List, [], ◌∷◌, Option, option_map}
use Rattle.dart_ir.specs.declared.ending.TurnEnd.{TurnEnd}
use Rattle.dart_ir.specs.declared.ending.TurnEnd.TheVariants as e
use Rattle.dart_ir.specs.Object.{HeapObject}
use Rattle.dart_store.specs.Heap.{Heap, with_object}
use Rattle.core_program.specs.declared.program.CoreProgram.{CoreProgram}
use Rattle.core_program.specs.ProgramView as p
use Rattle.evaluation.specs.State.{out_of_steps, out_of_objects, out_of_depth, integer_limit, needs_double, type_limit, World}
use Rattle.evaluation.specs.Turn.{End, returned, uncaught, limit, Turn, turn, main, Isolate, Budget, new_isolate}
use Rattle.machine_turn.specs.declared.turned.Turned.{Turned}
use Rattle.machine_turn.specs.declared.turned.Limits.{Limits}

abbrev pub ending : TurnEnd → End
ending e.Returned = returned
ending (e.Uncaught place text) = uncaught place text
ending e.OutOfSteps = limit out_of_steps
ending e.OutOfObjects = limit out_of_objects
ending e.OutOfDepth = limit out_of_depth
ending e.IntegerLimit = limit integer_limit
ending e.NeedsDouble = limit needs_double
ending e.TypeLimit = limit type_limit

abbrev pub isolate : ℕ → Heap → Isolate
isolate steps heap = record { left = steps; heap = heap; ports = [] }

-- what a turn shows and leaves, events aside
abbrev pub shown : Turned → Turn
shown t = record { output = t.output; events = []; end = ending t.end; after = isolate t.left t.store }

-- a turn, events aside
abbrev pub quiet : Turn → Turn
quiet t = record t { events = [] }

abbrev pub budget : Limits → Budget
budget l = record { steps = l.steps; units = l.units; depth = l.depth }

-- The turn of the program's first isolate. There is none where the program's constants pass the limit of units.
abbrev pub first_turn : World → CoreProgram → Budget → Option Turn
first_turn w x b = option_map (λ i. quiet (turn w (main x.main.0) i)) (new_isolate (p.program x) b)

-- the objects are added one by one
abbrev pub with_objects : Heap → List HeapObject → Heap
with_objects h [] = h
with_objects h (object ∷ more) = with_objects (with_object h object) more
