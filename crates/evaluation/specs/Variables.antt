-- Variables, fields and static variables (ECMA-408, 8 Variables, 16.9 Function Expressions, 17.3 Local Variable Declaration).
use Rattle.std.specs.Prelude.{ℕ, List, [], length, map, Bool, true, false, nat_eq, nat_lt, Option, Some, None, position, is_some, slice_index_or, slice_set}
use Rattle.dart_base.specs.declared.place.Place.{Place}
use Rattle.dart_ir.specs.declared.kind.ThrowKind.TheVariants.{CyclicInitializationError}
use Rattle.dart_ir.specs.declared.value.Value.{Value}
use Rattle.dart_ir.specs.declared.value.Value.TheVariants.{Null, At}
use Rattle.dart_ir.specs.Object.{HeapObject, closure, cell}
use Rattle.dart_store.specs.Heap.{Heap, fields_of, field_of, with_field_at, static_at, with_static}
use Rattle.dart_store.specs.declared.store.Static.{Static as Held}
use Rattle.dart_store.specs.declared.store.Static.TheVariants.{Unset, Starting, Holds}
use Rattle.core_program.specs.Program.{Function, Static}
use Rattle.evaluation.specs.State.{Activation, Source, a_function, an_initialiser, answer, ended, Outcome, ends, Meaning, Setting, World, Now, now}
use Rattle.evaluation.specs.Sequence.{on_answer, in_order}
use Rattle.evaluation.specs.Parts.{is_given}
use Rattle.evaluation.specs.Classes.{function_at, static_of}
use Rattle.evaluation.specs.Values.{object_at, arguments_here}
use Rattle.evaluation.specs.Objects.{add, throw_new}

-- ---- where a variable stands

abbrev pub function_cells : Option (Function ℕ) → List ℕ
function_cells None = []
function_cells (Some f) = f.cells

abbrev pub function_captures : Option (Function ℕ) → List ℕ
function_captures None = []
function_captures (Some f) = f.captures

abbrev pub static_cells : Option (Static ℕ) → List ℕ
static_cells None = []
static_cells (Some d) = d.cells

-- the variables that a body declares and that have cells
abbrev pub own_cells : Setting → Source → List ℕ
own_cells s (a_function f) = function_cells (function_at s.program f)
own_cells s (an_initialiser d) = static_cells (static_of s.program d)

-- the variables declared outside whose cells its closure has, in that order
abbrev pub taken_along : Setting → Source → List ℕ
taken_along s (a_function f) = function_captures (function_at s.program f)
taken_along s (an_initialiser d) = []

abbrev pub slot : Activation → ℕ → Value
slot a x = slice_index_or a.slots x Null

abbrev pub with_slot : Activation → ℕ → Value → Activation
with_slot a x v = record a { slots = slice_set a.slots x v }

-- a slot of the body at work, or a cell
pub data Room : Type 0 where
  in_slot : ℕ → Room
  in_cell : Value → Room

abbrev pub has_cell : Setting → Activation → ℕ → Bool
has_cell s a x = is_some (position (nat_eq x) (own_cells s a.source))

abbrev pub own_room : Bool → Activation → ℕ → Room
own_room true a x = in_cell (slot a x)
own_room false a x = in_slot x

abbrev pub room_at : Option ℕ → Setting → Heap → Activation → ℕ → Room
room_at (Some j) s h a x = in_cell (field_of (object_at h a.closure) j)
room_at None s h a x = own_room (has_cell s a x) a x

abbrev pub room : Setting → Heap → Activation → ℕ → Room
room s h a x = room_at (position (nat_eq x) (taken_along s a.source)) s h a x

-- ---- reading and writing (16.33 Identifier Reference, 16.19 Assignment)

abbrev pub value_in : Heap → Activation → Room → Value
value_in h a (in_slot x) = slot a x
value_in h a (in_cell c) = field_of (object_at h c) 0

abbrev pub variable : Setting → Now → ℕ → Value
variable s n x = value_in n.heap n.activation (room s n.heap n.activation x)

abbrev pub read : Setting → ℕ → Meaning
read s x st = ends (answer (variable s (now st) x)) st

abbrev pub write_in : Room → Value → Meaning
write_in (in_slot x) v st = ends (answer v) (record st { activation = with_slot st.activation x v })
write_in (in_cell (At r)) v st = ends (answer v) (record st { heap = with_field_at st.heap r.0 0 v })
write_in room v st = ends (answer v) st

-- the answer is the value written
abbrev pub write : Setting → ℕ → Value → Meaning
write s x v st = write_in (room s st.heap st.activation x) v st

abbrev pub slot_filled : ℕ → Value → Meaning
slot_filled x v st = ends (answer v) (record st { activation = with_slot st.activation x v })

abbrev pub declared : Bool → ℕ → Value → Meaning
declared true x v st = on_answer (slot_filled x) (add (cell v true) st)
declared false x v st = slot_filled x v st

-- a fresh variable with the value: a cell, where a function inside names it
abbrev pub declare : Setting → ℕ → Value → Meaning
declare s x v st = declared (has_cell s st.activation x) x v st

abbrev pub copied : Bool → Setting → ℕ → Meaning
copied true s x st = declare s x (variable s (now st) x) st
copied false s x st = ends (answer Null) st

-- a fresh copy of a variable of a loop (17.6.1 For Loop)
abbrev pub copy : Setting → ℕ → Meaning
copy s x st = copied (has_cell s st.activation x) s x st

abbrev pub copies : Setting → List ℕ → Meaning
copies s xs st = in_order (map (copy s) xs) Null st

-- ---- closures (16.9 Function Expressions)

abbrev pub cell_in : Activation → Room → Value
cell_in a (in_slot x) = slot a x
cell_in a (in_cell c) = c

-- the cells of the variables that the function takes along
abbrev pub cells_for : Setting → Heap → Activation → Option (Function ℕ) → List Value
cells_for s h a f = map (λ x. cell_in a (room s h a x)) (function_captures f)

-- It has the `this` and the type arguments of the place where it is made.
abbrev pub make_closure : Setting → ℕ → Meaning
make_closure s f st =
    add (closure f st.activation.this (arguments_here s (now st)) (cells_for s st.heap st.activation (function_at s.program f))) st

-- ---- fields of `this`

abbrev pub field : ℕ → Meaning
field i st = ends (answer (field_of (object_at st.heap st.activation.this) i)) st

abbrev pub field_total : Option HeapObject → ℕ
field_total None = 0
field_total (Some object) = length (fields_of object)

abbrev pub field_written : Bool → Value → ℕ → Value → Meaning
field_written true (At r) i v st = ends (answer v) (record st { heap = with_field_at st.heap r.0 i v })
field_written there this i v st = ends (answer Null) st

-- the answer is the value written, or null where `this` has no such field
abbrev pub field_write : ℕ → Value → Meaning
field_write i v st =
    field_written (nat_lt i (field_total (object_at st.heap st.activation.this))) st.activation.this i v st

-- ---- static variables (8.1 Evaluation of Implicit Variable Getters)

-- what becomes of a static variable whose initialiser has ended: its value, or null where it threw
abbrev pub settled : ℕ → Outcome → Outcome
settled d (ends (answer v) st) = ends (answer v) (record st { heap = with_static st.heap d (Holds v) })
settled d (ends (ended e) st) = ends (ended e) st
settled d (ends c st) = ends c (record st { heap = with_static st.heap d (Holds Null) })

abbrev pub initialised : Bool → World → ℕ → Meaning
initialised true w d st = settled d (w.inits d (record st { heap = with_static st.heap d Starting }))
initialised false w d st = ends (answer Null) st

abbrev pub has_initialiser : Option (Static ℕ) → Bool
has_initialiser None = false
has_initialiser (Some d) = is_given d.init

-- The first read runs the initialiser; a read meanwhile throws.
abbrev pub static_value : Held → World → Place → ℕ → Meaning
static_value (Holds v) w at d st = ends (answer v) st
static_value Starting w at d st = throw_new w.setting.known at CyclicInitializationError Null st
static_value Unset w at d st = initialised (has_initialiser (static_of w.setting.program d)) w d st

abbrev pub static_read : World → Place → ℕ → Meaning
static_read w at d st = static_value (static_at st.heap d) w at d st

-- What is written while the initialiser runs is lost.
abbrev pub static_written : Held → ℕ → Value → Meaning
static_written Starting d v st = ends (answer v) st
static_written held d v st = ends (answer v) (record st { heap = with_static st.heap d (Holds v) })

abbrev pub static_write : ℕ → Value → Meaning
static_write d v st = static_written (static_at st.heap d) d v st
