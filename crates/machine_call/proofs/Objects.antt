-- Calls of an object that has a method `call`.
use Rattle.std.proofs.Common.{◌≡◌, ℕ, Bool, true, false, Option, Some, refl, ap}
use Rattle.dart_base.specs.declared.place.Place.{Place}
use Rattle.dart_ir.specs.declared.class.Role.TheVariants.{Method}
use Rattle.dart_ir.specs.declared.value.Value.{Value}
use Rattle.evaluation.specs.State.{State, Meaning, World, Given}
use Rattle.evaluation.specs.Sequence.{chosen}
use Rattle.evaluation.specs.Values.{class_of}
use Rattle.evaluation.specs.Invocation.{member_fits, member_call, missing, missing_from, fitting, object_call}

chosen_same : (b : Bool) (first second other : Meaning) (st : State) → second st ≡ other st → chosen b first second st ≡ chosen b first other st
chosen_same true first second other st h = refl
chosen_same false first second other st h = h

pub object_method : (w : World) (at : Place) (v : Value) (g : Given) (again : Value → Meaning) (m : ℕ) (getter : Option ℕ) (c : ℕ) (st : State)
    → class_of w.setting st.heap v ≡ Some c
    → object_call w at v g again (Some m) getter st ≡ fitting w at (Some c) Method w.setting.known.call v g m st
object_method w at v g again m getter c st e =
    chosen_same (member_fits w.setting.program m g) (member_call w at m v g) (missing w at Method w.setting.known.call v g)
    (missing_from w at (Some c) Method w.setting.known.call v g) st
    (ap (λ k. missing_from w at k Method w.setting.known.call v g st) e)
