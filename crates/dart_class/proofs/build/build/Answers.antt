use Rattle.std.proofs.Common.{◌≡◌, ◌∙◌, true, false, List, IfOk, map, sym, ap}
use Rattle.dart_tree.specs.UnitView as view
use Rattle.scope_load.specs.State.{state_of}
use Rattle.class_source.specs.Resolved.{IsResolved}
use Rattle.class_reader.specs.Built.{IsBuiltFrom, IsOverlargeIn, IsRefusedIn}
use Rattle.scope_program.specs.declared.class.ClassScope.{ClassScope}
use Rattle.lower_annotation.specs.Annotated.{annotated}
use Rattle.scope_program.specs.Places.{at_place}
use Rattle.dart_class.specs.Around.{around, is_simple}
use Rattle.dart_class.specs.Homes.{homes_from}
use Rattle.dart_class.proofs.Built.{read-as, read-from}
use Rattle.dart_class.proofs.Rows.{resolved}
use Rattle.dart_class.proofs.Same.{joint}
use Rattle.dart_class.proofs.build.build.Goals as goal

pub written_out-requires-clause-joint : goal.written_out-requires-clause-joint
written_out-requires-clause-joint c = joint c.args.scopes.now c.in-Ok-annotations_of.annotations

pub written_out-requires-clause-resolved : goal.written_out-requires-clause-resolved
written_out-requires-clause-resolved c =
    let state = state_of c.args.loaded.now in
    let scopes = c.args.scopes.now in
    let homes = c.as_slice-5.result.now in
    let units = c.as_slice-6.result.now in
    let stand : homes ≡ homes_from state.names 0 scopes.homes.items =
    c.as_slice-5.ensures.value ∙ c.in-Ok.ensures ∙ ap (λ l. homes_from l 0 c.as_slice-2.result.now) c.as_slice.ensures.value
    ∙ ap (homes_from state.names 0) c.as_slice-2.ensures.value in
    let seen : map view.unit units ≡ state.units = ap (map view.unit) c.as_slice-6.ensures.value in
    let same : c.as_slice-4.result.now ≡ units = c.as_slice-4.ensures.value ∙ sym c.as_slice-6.ensures.value in
    let asked = c.in-Ok-annotations_of.ensures ∙ (λ i. annotated (at_place scopes.places) (around false scopes) (c.as_slice-3.ensures.value i) (map view.unit (same i))) in
    let int : is_simple scopes.classes.items scopes.int_class ≡ true =
    ap (λ (l : List ClassScope). is_simple l scopes.int_class) (sym c.as_slice-classes.ensures.value) ∙ sym c.is_simple.ensures ∙ c.if-not-is_simple.false in
    let string : is_simple scopes.classes.items scopes.string_class ≡ true =
    ap (λ (l : List ClassScope). is_simple l scopes.string_class) (sym c.as_slice-classes.ensures.value) ∙ sym c.is_simple-else-not-is_simple.ensures
    ∙ c.if-not-is_simple-2.false in
    read-from state c.requires.0 c.requires.1 scopes c.requires.2 homes units stand seen c.in-Ok-annotations_of.annotations asked IsResolved (resolved state c.requires.0 c.requires.1 scopes c.requires.2 int string)

pub returns-clause-built : goal.returns-clause-built
returns-clause-built c =
    let state = state_of c.args.loaded.now in
    let scopes = c.args.scopes.now in
    let homes = c.as_slice-5.result.now in
    let units = c.as_slice-6.result.now in
    let stand : homes ≡ homes_from state.names 0 scopes.homes.items =
    c.as_slice-5.ensures.value ∙ c.in-Ok.ensures ∙ ap (λ l. homes_from l 0 c.as_slice-2.result.now) c.as_slice.ensures.value
    ∙ ap (homes_from state.names 0) c.as_slice-2.ensures.value in
    let seen : map view.unit units ≡ state.units = ap (map view.unit) c.as_slice-6.ensures.value in
    let same : c.as_slice-4.result.now ≡ units = c.as_slice-4.ensures.value ∙ sym c.as_slice-6.ensures.value in
    let asked = c.in-Ok-annotations_of.ensures ∙ (λ i. annotated (at_place scopes.places) (around false scopes) (c.as_slice-3.ensures.value i) (map view.unit (same i))) in
    λ s is are. read-as state s is scopes are homes units stand seen c.in-Ok-annotations_of.annotations asked (λ g l t. IfOk c.written_out.result (λ k. IsBuiltFrom g l t k)) c.written_out.ensures.built

pub returns-clause-refused : goal.returns-clause-refused
returns-clause-refused c =
    let state = state_of c.args.loaded.now in
    let scopes = c.args.scopes.now in
    let homes = c.as_slice-5.result.now in
    let units = c.as_slice-6.result.now in
    let stand : homes ≡ homes_from state.names 0 scopes.homes.items =
    c.as_slice-5.ensures.value ∙ c.in-Ok.ensures ∙ ap (λ l. homes_from l 0 c.as_slice-2.result.now) c.as_slice.ensures.value
    ∙ ap (homes_from state.names 0) c.as_slice-2.ensures.value in
    let seen : map view.unit units ≡ state.units = ap (map view.unit) c.as_slice-6.ensures.value in
    let same : c.as_slice-4.result.now ≡ units = c.as_slice-4.ensures.value ∙ sym c.as_slice-6.ensures.value in
    let asked = c.in-Ok-annotations_of.ensures ∙ (λ i. annotated (at_place scopes.places) (around false scopes) (c.as_slice-3.ensures.value i) (map view.unit (same i))) in
    λ s is are f e. read-as state s is scopes are homes units stand seen c.in-Ok-annotations_of.annotations asked (λ g l t. IsRefusedIn g l t f) (c.written_out.ensures.refused f e)

pub returns-clause-too_large : goal.returns-clause-too_large
returns-clause-too_large c =
    let state = state_of c.args.loaded.now in
    let scopes = c.args.scopes.now in
    let homes = c.as_slice-5.result.now in
    let units = c.as_slice-6.result.now in
    let stand : homes ≡ homes_from state.names 0 scopes.homes.items =
    c.as_slice-5.ensures.value ∙ c.in-Ok.ensures ∙ ap (λ l. homes_from l 0 c.as_slice-2.result.now) c.as_slice.ensures.value
    ∙ ap (homes_from state.names 0) c.as_slice-2.ensures.value in
    let seen : map view.unit units ≡ state.units = ap (map view.unit) c.as_slice-6.ensures.value in
    let same : c.as_slice-4.result.now ≡ units = c.as_slice-4.ensures.value ∙ sym c.as_slice-6.ensures.value in
    let asked = c.in-Ok-annotations_of.ensures ∙ (λ i. annotated (at_place scopes.places) (around false scopes) (c.as_slice-3.ensures.value i) (map view.unit (same i))) in
    λ s is are place e. read-as state s is scopes are homes units stand seen c.in-Ok-annotations_of.annotations asked (λ g l t. IsOverlargeIn g l t place) (c.written_out.ensures.too_large place e)
