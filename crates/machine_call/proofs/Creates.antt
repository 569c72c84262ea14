-- New objects by a constructor that is no factory.
use Rattle.std.proofs.Common.{◌≡◌, ℕ, true, false, List, refl}
use Rattle.dart_base.specs.declared.place.Place.{Place}
use Rattle.dart_ir.specs.declared.kind.ThrowKind.TheVariants.{AbstractClassInstantiationError}
use Rattle.dart_ir.specs.declared.value.Value.TheVariants.{Null}
use Rattle.dart_ir.specs.Ty.{Ty}
use Rattle.core_program.specs.declared.program.FunctionKind.{FunctionKind}
use Rattle.core_program.specs.declared.program.FunctionKind.TheVariants as kind
use Rattle.machine_lookup.specs.Rows.{is_factory_kind}
use Rattle.evaluation.specs.State.{State, World, Given}
use Rattle.evaluation.specs.Sequence.{chosen}
use Rattle.evaluation.specs.Classes.{class_at, is_abstract}
use Rattle.evaluation.specs.Objects.{throw_new}
use Rattle.evaluation.specs.Creation.{create, factory_call, instantiate}

pub creates : (k : FunctionKind) (w : World) (at : Place) (c f : ℕ) (g : Given) (ts : List Ty) (st : State) → is_factory_kind k ≡ false
    → create w at k c f g ts st ≡ chosen (is_abstract (class_at w.setting.program c))
    (throw_new w.setting.known at AbstractClassInstantiationError Null) (instantiate w at c f g ts) st
creates kind.Factory w at c f g ts st h = cc
creates kind.Plain w at c f g ts st h = refl
creates kind.Inner w at c f g ts st h = refl
creates kind.Generative w at c f g ts st h = refl
creates kind.Absent w at c f g ts st h = refl

pub creates_by_factory : (k : FunctionKind) (w : World) (at : Place) (c f : ℕ) (g : Given) (ts : List Ty) (st : State) → is_factory_kind k ≡ true
    → create w at k c f g ts st ≡ factory_call w at f ts g st
creates_by_factory kind.Factory w at c f g ts st h = refl
creates_by_factory kind.Plain w at c f g ts st h = cc
creates_by_factory kind.Inner w at c f g ts st h = cc
creates_by_factory kind.Generative w at c f g ts st h = cc
creates_by_factory kind.Absent w at c f g ts st h = cc
