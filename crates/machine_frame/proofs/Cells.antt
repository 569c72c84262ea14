-- Variables that have cells.
use Rattle.std.proofs.Common.{◌≡◌, ℕ, Bool, true, false, refl}
use Rattle.dart_ir.specs.declared.value.Value.{Value}
use Rattle.dart_ir.specs.declared.value.Value.TheVariants.{Null, Bool as Truth, Int, Literal, Code, At}
use Rattle.evaluation.specs.State.{State, Activation, answer, ends}
use Rattle.evaluation.specs.Variables.{slot, in_cell, own_room, cell_in, write_in}
use Rattle.machine_frame.specs.Frames.{with_cell}

pub write_in_cell : (cell value : Value) (st : State) → write_in (in_cell cell) value st ≡ ends (answer value) (record st { heap = with_cell st.heap cell value })
write_in_cell Null value st = refl
write_in_cell (Truth b) value st = refl
write_in_cell (Int high low) value st = refl
write_in_cell (Literal n) value st = refl
write_in_cell (Code f) value st = refl
write_in_cell (At r) value st = refl

pub own_cell : (b : Bool) (a : Activation) (x : ℕ) → cell_in a (own_room b a x) ≡ slot a x
own_cell true a x = refl
own_cell false a x = refl
