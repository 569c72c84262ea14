-- A new object, where the constant that it may be is met first.
use Rattle.std.proofs.Common.{◌≡◌, ◌∙◌, Option, sym, ap}
use Rattle.dart_base.specs.declared.place.Place.{Place}
use Rattle.dart_tree.specs.declared.expression.Creation.{Creation}
use Rattle.dart_tree.specs.declared.identifier.DotName.{DotName}
use Rattle.dart_tree.specs.Tree as t
use Rattle.dart_tree.specs.Types as y
use Rattle.translation.specs.Surroundings.{Text}
use Rattle.translation.specs.Expressions as e
use Rattle.translation.specs.Firsts.{place_of_creation}
use Rattle.translation.specs.Productions as low
use Rattle.translation.specs.References.{Arguments, Reference}
use Rattle.translation.specs.Types.{Typed, PlacedName, kept_type}
use Rattle.translation.specs.Walk as w
use Rattle.lower_operand.proofs.Creating.{creating_met, type_name_met}

abbrev pub new_at : Creation → t.Arguments → e.Creating → Text → w.Walk Reference
new_at creation given creating name st = w.on (kept_type creating.node st) (λ typed st. w.on (low.arguments given st)
    (λ all st. e.as_value (e.created (place_of_creation creation) typed name creating.id all) st))

abbrev pub new_in : Creation → y.TypeNode → Option DotName → t.Arguments → w.Walk Reference
new_in creation of constructor given st = new_at creation given (e.creating st of constructor) (e.type_name st (e.creating st of constructor).node) st

-- It is all the same in the state in which the constant is met.
pub new_met : (creation : Creation) (of : y.TypeNode) (constructor : Option DotName) (given : t.Arguments) (st after : w.State) →
    after ≡ e.meeting_constant (e.is_constant creation) st →
    low.primary (t.new_object creation of constructor given) st ≡ new_in creation of constructor given after
new_met creation of constructor given st after is =
    ap (λ (x : e.Creating). new_at creation given x (e.type_name st x.node) (e.meeting_constant (e.is_constant creation) st))
    (sym (creating_met (e.is_constant creation) st of constructor))
    ∙ ap (λ (name : Text). new_at creation given (e.creating (e.meeting_constant (e.is_constant creation) st) of constructor) name
    (e.meeting_constant (e.is_constant creation) st))
    (sym (type_name_met (e.is_constant creation) st (e.creating (e.meeting_constant (e.is_constant creation) st) of constructor).node))
    ∙ ap (new_in creation of constructor given) (sym is)

-- behind the type, and behind the arguments
abbrev pub created_behind : Creation → Typed → e.Creating → Text → Arguments → w.Walk Reference
created_behind creation typed creating name all st = e.as_value (e.created (place_of_creation creation) typed name creating.id all) st

pub new_argued : (creation : Creation) (of : y.TypeNode) (constructor : Option DotName) (given : t.Arguments) (st : w.State) (typed : Typed) →
    kept_type (e.creating st of constructor).node st ≡ w.went typed st →
    new_in creation of constructor given st
    ≡ w.on (low.arguments given st) (created_behind creation typed (e.creating st of constructor) (e.type_name st (e.creating st of constructor).node))
unfolding w.on
new_argued creation of constructor given st typed kept =
    ap (λ (walk : w.Went Typed). w.on walk (λ typed st2. w.on (low.arguments given st2)
    (created_behind creation typed (e.creating st of constructor) (e.type_name st (e.creating st of constructor).node)))) kept

pub new_created : (creation : Creation) (of : y.TypeNode) (constructor : Option DotName) (given : t.Arguments) (st st2 : w.State) (typed : Typed)
    (all : Arguments) (place : Place) (name : Text) (id : Option PlacedName) →
    kept_type (e.creating st of constructor).node st ≡ w.went typed st → low.arguments given st ≡ w.went all st2 →
    place ≡ place_of_creation creation → name ≡ e.type_name st (e.creating st of constructor).node → id ≡ (e.creating st of constructor).id →
    new_in creation of constructor given st ≡ e.as_value (e.created place typed name id all) st2
unfolding w.on
new_created creation of constructor given st st2 typed all place name id kept argued placed named identified =
    new_argued creation of constructor given st typed kept
    ∙ ap (λ (walk : w.Went Arguments). w.on walk (created_behind creation typed (e.creating st of constructor) (e.type_name st (e.creating st of constructor).node))) argued
    ∙ ap (λ (p : Place). e.as_value (e.created p typed (e.type_name st (e.creating st of constructor).node) (e.creating st of constructor).id all) st2) (sym placed)
    ∙ ap (λ (n : Text). e.as_value (e.created place typed n (e.creating st of constructor).id all) st2) (sym named)
    ∙ ap (λ (i : Option PlacedName). e.as_value (e.created place typed name i all) st2) (sym identified)
