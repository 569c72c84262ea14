-- Equality where neither is null.
use Rattle.std.proofs.Common.{◌≡◌, true, false, refl}
use Rattle.dart_base.specs.declared.place.Place.{Place}
use Rattle.dart_ir.specs.declared.value.Value.{Value}
use Rattle.dart_ir.specs.declared.value.Value.TheVariants.{Null, Bool as Truth, Int, Literal, Code, At}
use Rattle.evaluation.specs.State.{State, answer, ends, World}
use Rattle.evaluation.specs.Arguments.{alone}
use Rattle.evaluation.specs.Invocation.{send, equal}
use Rattle.machine_call.specs.Bodies.{is_null}

pub equal_null : (w : World) (at : Place) (v u : Value) (st : State) → is_null v ≡ true → equal w at v u st ≡ ends (answer (Truth (is_null u))) st
equal_null w at Null Null st e = refl
equal_null w at Null (Truth b) st e = refl
equal_null w at Null (Int h l) st e = refl
equal_null w at Null (Literal n) st e = refl
equal_null w at Null (Code f) st e = refl
equal_null w at Null (At r) st e = refl
equal_null w at v u st e = cc

pub equal_to_null : (w : World) (at : Place) (v u : Value) (st : State) → is_null v ≡ false → is_null u ≡ true → equal w at v u st ≡ ends (answer (Truth false)) st
equal_to_null w at Null u st e h = cc
equal_to_null w at (Truth b) Null st e h = refl
equal_to_null w at (Int x l) Null st e h = refl
equal_to_null w at (Literal n) Null st e h = refl
equal_to_null w at (Code f) Null st e h = refl
equal_to_null w at (At r) Null st e h = refl
equal_to_null w at v u st e h = cc

pub equal_other : (w : World) (at : Place) (v u : Value) (st : State) → is_null v ≡ false → is_null u ≡ false
    → equal w at v u st ≡ send w at w.setting.known.equals v (alone u) st
equal_other w at Null u st e h = cc
equal_other w at (Truth b) Null st e h = cc
equal_other w at (Int x l) Null st e h = cc
equal_other w at (Literal n) Null st e h = cc
equal_other w at (Code f) Null st e h = cc
equal_other w at (At r) Null st e h = cc
equal_other w at v u st e h = refl
