-- Functions from where they begin to where they end.
use Rattle.std.proofs.Common.{◌≡◌, ℕ, List, [], ◌∷◌, ◌++◌, map, length, take, refl, sym, ap, ◌∙◌, Option, Some, None, Bool, false}
use Rattle.dart_base.specs.declared.place.Place.{Place}
use Rattle.dart_base.specs.declared.feature.Feature.TheVariants.{External}
use Rattle.dart_ir.specs.declared.native.NativeId.{NativeId}
use Rattle.core_program.specs.Core as c
use Rattle.core_program.specs.Program as p
use Rattle.translation.specs.Declarations as d
use Rattle.translation.specs.Functions as f
use Rattle.translation.specs.Surroundings.{Text}
use Rattle.translation.specs.Walk as w
use Rattle.lower_function.specs.Formals.{bind_formals, formals_of}
use Rattle.lower_function.proofs.Binding.{all_bound}
use Rattle.dart_tree.specs.Tree as t
use Rattle.core_program.specs.declared.program.FunctionKind.TheVariants.{Plain}
use Rattle.translation.specs.Productions as pr
use Rattle.lower_leaf.specs.Around.{Around, text, class}
use Rattle.lower_leaf.specs.Seen.{inside, target}
use Rattle.lower_function.specs.declared.function.Head.{Head}
use Rattle.lower_function.specs.declared.inside.Before.{Before}
use Rattle.lower_function.specs.Made.{entered, closed, signature}
use Rattle.lower_decl.specs.Standings.{Signed, prepared_of, written_function, missing_native, numbered_from, ended}

-- ---- external functions

pub native_there : {A : Type 0} (external : Option Place) (native : Option NativeId) (walk : w.Walk A) (st : w.State) →
    missing_native external native ≡ None → d.unless_external external native walk st ≡ walk st
native_there None native walk st none = refl
native_there (Some place) (Some native) walk st none = refl
native_there (Some place) None walk st none = cc

pub native_missing : {A : Type 0} (external : Option Place) (native : Option NativeId) (walk : w.Walk A) (st : w.State) (place : Place) →
    missing_native external native ≡ Some place → d.unless_external external native walk st ≡ w.refused (w.left_out place External)
native_missing None None walk st place some = cc
native_missing None (Some native) walk st place some = cc
native_missing (Some at) (Some native) walk st place some = cc
native_missing {A} (Some at) None walk st place some =
    let same : at ≡ place = cc in ap (λ (x : Place). let stop : w.Went A = w.refused (w.left_out x External) in stop) same

pub ruleset natives = (native_there, native_missing)

-- ---- parameters

-- one walk that binds the parameters
pub bound_walk : (allowed : Bool) (outer : w.State) (given : t.Parameters) →
    bind_formals allowed (formals_of outer given) ≡ f.bind_parameters allowed outer given
bound_walk allowed outer given = λ i. λ st. all_bound allowed outer given st i

-- ---- an outermost walk

pub outermost_begun : {A : Type 0} (start : ℕ) (walk : w.Walk A) (st0 st1 : w.State) → st1 ≡ numbered_from start st0 →
    d.outermost start walk st0 ≡ w.on (walk st1) (λ a after. w.went a (d.numbered_since st0 after))
unfolding d.outermost
outermost_begun start walk st0 st1 begun = ap (λ (st : w.State). w.on (walk st) (λ a after. w.went a (d.numbered_since st0 after))) (sym begun)

pub outermost_on : {A : Type 0} (start : ℕ) (walk : w.Walk A) (st0 st1 st2 st3 : w.State) (made : A) (variables functions : ℕ) →
    st1 ≡ numbered_from start st0 → variables ≡ st0.variables → functions ≡ length st0.functions → walk st1 ≡ w.went made st2 →
    st3 ≡ ended variables functions st2 → d.outermost start walk st0 ≡ w.went made st3
unfolding w.on d.outermost
outermost_on {A} start walk st0 st1 st2 st3 made variables functions e1 ev ef e2 e3 =
    ap (λ (st : w.State). w.on (walk st) (λ a after. w.went a (d.numbered_since st0 after))) (sym e1)
    ∙ ap (λ (r : w.Went A). w.on r (λ a after. w.went a (d.numbered_since st0 after))) e2
    ∙ ap (λ (n : ℕ). w.went made (ended n (length st0.functions) st2)) (sym ev)
    ∙ ap (λ (n : ℕ). w.went made (ended variables n st2)) (sym ef)
    ∙ ap (λ (st : w.State). w.went made st) (sym e3)

-- ---- a function from its parameters to its end

-- the state behind a function, part by part
abbrev left_with : List (p.Parameter Text) → c.Part Text → w.State → w.Inside → ℕ → List w.Target → f.Head → w.State
left_with bound made st around depth targets head = record st {
  inside = around;
  scopes = take depth st.scopes;
  targets = targets;
  functions = st.functions ++ record { number = head.number; made = f.function_made head st bound made } ∷ [];
}

-- what the code has of a head, and the context
abbrev head_in : Around → Head → w.Inside → f.Head
head_in a head around = record {
  number = head.number;
  kind = head.kind;
  name = text a head.name;
  signature = signature a head.signature;
  inside = around;
}

-- in the context of another class
abbrev of_class : f.Head → Option ℕ → f.Head
of_class head n = record head { inside = record head.inside { class = n } }

closed_same : (a : Around) (before : Before) (head : Head) (of : f.Head) (bound : List (p.Parameter Text)) (made : c.Part Text) (around st : w.State) →
    inside a before.inside ≡ around.inside → before.depth ≡ length around.scopes → map target before.targets.items ≡ around.targets →
    head_in a head of.inside ≡ of → class head.class ≡ of.inside.class →
    closed a before head bound made st ≡ f.closed around of bound made st
closed_same a before head of bound made around st ei ed et eh ec =
    ap (λ (n : Option ℕ). left_with bound made st (inside a before.inside) before.depth (map target before.targets.items) (of_class (head_in a head of.inside) n)) ec
    ∙ ap (λ (h : f.Head). left_with bound made st (inside a before.inside) before.depth (map target before.targets.items) h) eh
    ∙ ap (λ (z : w.Inside). left_with bound made st z before.depth (map target before.targets.items) of) ei
    ∙ ap (λ (n : ℕ). left_with bound made st around.inside n (map target before.targets.items) of) ed
    ∙ ap (λ (z : List w.Target). left_with bound made st around.inside (length around.scopes) z of) et

pub function_begun : (of : f.Head) (bind : w.Walk (List (p.Parameter Text))) (body : w.Walk (c.Part Text)) (st1 st2 : w.State) → st2 ≡ entered of.inside st1 →
    f.function of bind body st1 ≡ w.on (bind st2) (λ bound after. w.on (body after) (λ made after. w.went of.number (f.closed st1 of bound made after)))
unfolding f.function
function_begun of bind body st1 st2 begun =
    ap (λ (z : w.State). w.on (bind z) (λ bound after. w.on (body after) (λ made after. w.went of.number (f.closed st1 of bound made after)))) (sym begun)

pub function_on : (a : Around) (before : Before) (head : Head) (of : f.Head) (bind : w.Walk (List (p.Parameter Text))) (body : w.Walk (c.Part Text))
    (st1 st2 st3 st4 st5 : w.State) (bound : List (p.Parameter Text)) (made : c.Part Text) →
    st2 ≡ entered of.inside st1 → bind st2 ≡ w.went bound st3 → body st3 ≡ w.went made st4 → st5 ≡ closed a before head bound made st4 →
    inside a before.inside ≡ st1.inside → before.depth ≡ length st1.scopes → map target before.targets.items ≡ st1.targets →
    head_in a head of.inside ≡ of → class head.class ≡ of.inside.class →
    f.function of bind body st1 ≡ w.went of.number st5
unfolding w.on f.function
function_on a before head of bind body st1 st2 st3 st4 st5 bound made e2 e3 e4 e5 ei ed et eh ec =
    ap (λ (z : w.State). w.on (bind z) (λ bound after. w.on (body after) (λ made after. w.went of.number (f.closed st1 of bound made after)))) (sym e2)
    ∙ ap (λ (q : w.Went (List (p.Parameter Text))). w.on q (λ bound after. w.on (body after) (λ made after. w.went of.number (f.closed st1 of bound made after)))) e3
    ∙ ap (λ (q : w.Went (c.Part Text)). w.on q (λ made after. w.went of.number (f.closed st1 of bound made after))) e4
    ∙ ap (λ (z : w.State). w.went of.number z) (sym (closed_same a before head of bound made st1 st4 ei ed et eh ec) ∙ sym e5)

-- ---- a declared function

-- the head of a function in this context
abbrev pub head_with : ℕ → Signed → w.Inside → f.Head
head_with n q around = record { number = n; kind = Plain; name = q.name; signature = q.signature; inside = around }

pub written_same : (standing : d.Standing) (x : d.Declared) (native : Option NativeId) (n : ℕ) (st st1 : w.State) (made : Signed) (around : w.Inside) →
    st1 ≡ st → made ≡ prepared_of x (d.standing_in standing st) → around ≡ d.inside standing made.asked →
    d.outermost 0 (f.function (head_with n made around) (bind_formals false made.formals)
    (d.native_body x.external native standing.has_instance x.parameters (pr.body x.body))) st1
    ≡ written_function standing x native n st
written_same standing x native n st st1 made around es em ea =
    let walk : f.Head → w.Walk (List (p.Parameter Text)) → w.State → w.Went ℕ =
    λ h b z. d.outermost 0 (f.function h b (d.native_body x.external native standing.has_instance x.parameters (pr.body x.body))) z in
    ap (λ (z : w.State). walk (head_with n made around) (bind_formals false made.formals) z) es
    ∙ ap (λ (z : w.Inside). walk (head_with n made z) (bind_formals false made.formals) st) ea
    ∙ ap (λ (q : Signed). walk (head_with n q (d.inside standing q.asked)) (bind_formals false q.formals) st) em
    ∙ ap (λ (b : w.Walk (List (p.Parameter Text))). walk (head_with n (prepared_of x (d.standing_in standing st))
    (d.inside standing (prepared_of x (d.standing_in standing st)).asked)) b st) (bound_walk false (d.standing_in standing st) x.parameters)
