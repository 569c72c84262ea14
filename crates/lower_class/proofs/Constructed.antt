-- Constructors and factories, from what the code has of them.
use Rattle.std.proofs.Common.{◌≡◌, ℕ, List, Bool, false, cond, Option, Some, ap, ◌∙◌}
use Rattle.dart_base.specs.declared.place.Place.{Place}
use Rattle.dart_ir.specs.Ty.{parameter}
use Rattle.dart_ir.specs.declared.native.NativeId.{NativeId}
use Rattle.dart_ir.specs.declared.types.TypeRef as k
use Rattle.dart_ir.proofs.View.{ty_param}
use Rattle.core_program.specs.Named as with_names
use Rattle.core_program.specs.ProgramView.{text_at}
use Rattle.lower_leaf.specs.Around.{Around, ty}
use Rattle.dart_tree.specs.declared.declaration.ConstructorName.{ConstructorName}
use Rattle.dart_tree.specs.Tree as t
use Rattle.core_program.specs.declared.program.FunctionKind.TheVariants.{Generative, Factory}
use Rattle.core_program.specs.Program as p
use Rattle.translation.specs.Classes as cl
use Rattle.translation.specs.Declarations as d
use Rattle.translation.specs.Functions as f
use Rattle.translation.specs.Productions as low
use Rattle.translation.specs.Surroundings.{Text, Core}
use Rattle.translation.specs.Walk as w
use Rattle.lower_function.specs.Formals.{bind_formals}
use Rattle.lower_decl.proofs.Begun.{bound_walk}
use Rattle.lower_class.specs.Views.{SignedConstructor, signed_of, constructing, formed_there, constructed_with, written_factory}

-- the head of a constructor in this context
abbrev pub head_with : ℕ → SignedConstructor → w.Inside → f.Head
head_with n q around = record { number = n; kind = Generative; name = q.name; signature = q.signature; inside = around }

pub constructed_same : (around : cl.Around) (name : ConstructorName) (has_values : Bool) (given : t.Parameters) (n start : ℕ)
    (forms : List (p.Parameter Text) → w.Walk (List Core)) (st st1 : w.State) (made : SignedConstructor) (context : w.Inside) →
    st1 ≡ st → start ≡ cond has_values around.count 0 → made ≡ signed_of around (cl.id_of name.name) given st → context ≡ constructing around false →
    d.outermost start (formed_there name has_values (head_with n made context) (bind_formals has_values made.formals) forms) st1
    ≡ constructed_with around name has_values given n forms st
constructed_same around name has_values given n start forms st st1 made context es en em ec =
    let walk : ℕ → f.Head → w.Walk (List (p.Parameter Text)) → w.State → w.Went cl.Parts = λ k h b z. d.outermost k (formed_there name has_values h b forms) z in
    ap (λ (z : w.State). walk start (head_with n made context) (bind_formals has_values made.formals) z) es
    ∙ ap (λ (k : ℕ). walk k (head_with n made context) (bind_formals has_values made.formals) st) en
    ∙ ap (λ (i : w.Inside). walk (cond has_values around.count 0) (head_with n made i) (bind_formals has_values made.formals) st) ec
    ∙ ap (λ (q : SignedConstructor). walk (cond has_values around.count 0) (head_with n q (constructing around false)) (bind_formals has_values q.formals) st) em
    ∙ ap (λ (b : w.Walk (List (p.Parameter Text))). walk (cond has_values around.count 0)
    (head_with n (signed_of around (cl.id_of name.name) given st) (constructing around false)) b st) (bound_walk has_values (d.standing_in (cl.without_instance around) st) given)

abbrev pub asked_for : cl.Around → w.State → w.Asked
asked_for around st = record { of = Some (cl.own_type around.class st); annotated = false }

abbrev pub factory_with : ℕ → SignedConstructor → w.Inside → f.Head
factory_with n q context = record { number = n; kind = Factory; name = q.name; signature = q.signature; inside = context }

pub factory_same : (around : cl.Around) (external : Option Place) (native : Option NativeId) (name : ConstructorName) (given : t.Parameters) (body : t.Body) (n : ℕ)
    (st st1 : w.State) (made : SignedConstructor) (context : w.Inside) →
    st1 ≡ st → made ≡ signed_of around (cl.id_of name.name) given st → context ≡ d.inside (cl.without_instance around) (asked_for around st) →
    d.outermost 0 (f.function (factory_with n made context) (bind_formals false made.formals) (d.native_body external native false given (low.body body))) st1
    ≡ written_factory around external native name given body n st
factory_same around external native name given body n st st1 made context es em ec =
    let walk : f.Head → w.Walk (List (p.Parameter Text)) → w.State → w.Went ℕ =
    λ h b z. d.outermost 0 (f.function h b (d.native_body external native false given (low.body body))) z in
    let there = d.inside (cl.without_instance around) (asked_for around st) in
    ap (λ (z : w.State). walk (factory_with n made context) (bind_formals false made.formals) z) es
    ∙ ap (λ (i : w.Inside). walk (factory_with n made i) (bind_formals false made.formals) st) ec
    ∙ ap (λ (q : SignedConstructor). walk (factory_with n q there) (bind_formals false q.formals) st) em
    ∙ ap (λ (b : w.Walk (List (p.Parameter Text))). walk (factory_with n (signed_of around (cl.id_of name.name) given st) there) b st)
    (bound_walk false (d.standing_in (cl.without_instance around) st) given)

-- ---- the type of a factory's value

pub parameter_seen : (a : Around) (i : ℕ) → ty a (k.Param i) ≡ parameter i
unfolding ty
parameter_seen a i = ap (with_names.ty (text_at a.texts)) (ty_param i)
