-- Functions inside others, with what they are besides their bodies.
use Rattle.std.proofs.Common.{◌≡◌, ℕ, List, [], ◌∷◌, ◌++◌, map, take, length, Option, false, Bool, sym, ap, ◌∙◌}
use Rattle.dart_tree.specs.Tree as t
use Rattle.core_program.specs.Core as c
use Rattle.core_program.specs.Program as p
use Rattle.core_program.specs.declared.program.FunctionKind.{FunctionKind}
use Rattle.core_program.specs.declared.program.FunctionKind.TheVariants.{Inner}
use Rattle.translation.specs.Functions as f
use Rattle.translation.specs.Surroundings.{Text, Ty}
use Rattle.translation.specs.Walk as w
use Rattle.lower_leaf.specs.Around.{Around, text, class}
use Rattle.lower_leaf.specs.Seen.{inside, target}
use Rattle.lower_function.specs.Formals.{AllFormals, bind_formals, formals_of}
use Rattle.lower_function.specs.Made.{signature, entered, closed}
use Rattle.lower_function.specs.declared.function.Head.{Head}
use Rattle.lower_function.specs.declared.inside.Before.{Before}
use Rattle.lower_function.proofs.Binding.{all_bound}

-- one walk that binds the parameters
bound_walk : (allowed : Bool) (outer : w.State) (given : t.Parameters) →
    ◌≡◌ {A = w.Walk (List (p.Parameter Text))} (bind_formals allowed (formals_of outer given)) (f.bind_parameters allowed outer given)
bound_walk allowed outer given = λ i. λ st. all_bound allowed outer given st i

pub inner_same : (name name2 : Text) (sig sig2 : Ty) (wanted wanted2 : w.Asked) (x : AllFormals) (outer : w.State) (given : t.Parameters)
    (body : w.Walk (c.Part Text)) (st : w.State) → name ≡ name2 → sig ≡ sig2 → wanted ≡ wanted2 → x ≡ formals_of outer given →
    f.inner_function name sig wanted (bind_formals false x) body st ≡ f.inner_function name2 sig2 wanted2 (f.bind_parameters false outer given) body st
inner_same name name2 sig sig2 wanted wanted2 x outer given body st en es ea ex =
    ap (λ (n : Text). f.inner_function n sig wanted (bind_formals false x) body st) en
    ∙ ap (λ (s : Ty). f.inner_function name2 s wanted (bind_formals false x) body st) es
    ∙ ap (λ (a : w.Asked). f.inner_function name2 sig2 a (bind_formals false x) body st) ea
    ∙ ap (λ (y : AllFormals). f.inner_function name2 sig2 wanted2 (bind_formals false y) body st) ex
    ∙ ap (λ (bind : w.Walk (List (p.Parameter Text))). f.inner_function name2 sig2 wanted2 bind body st) (bound_walk false outer given)

-- the state behind a function, part by part
abbrev left_with : List (p.Parameter Text) → c.Part Text → w.State → w.Inside → ℕ → List w.Target → ℕ → Text → FunctionKind → Option ℕ → Ty → w.State
left_with bound made st around depth targets number name kind class sig = record st {
  inside = around;
  scopes = take depth st.scopes;
  targets = targets;
  functions = st.functions ++ record {
    number = number;
    made = record {
      name = name;
      kind = kind;
      class = class;
      parameters = bound;
      vars = st.variables;
      cells = f.cells st.functions st.variables bound made;
      captures = f.captures st.functions st.variables bound made;
      signature = sig;
      body = made;
    };
  } ∷ [];
}

closed_same : (a : Around) (before : Before) (head : Head) (name : Text) (sig : Ty) (wanted : w.Asked) (n : ℕ) (bound : List (p.Parameter Text))
    (made : c.Part Text) (around st : w.State) →
    inside a before.inside ≡ around.inside → before.depth ≡ length around.scopes → map target before.targets.items ≡ around.targets →
    head.number ≡ n → text a head.name ≡ name → head.kind ≡ Inner → class head.class ≡ around.inside.class → signature a head.signature ≡ sig →
    closed a before head bound made st ≡ f.closed around (f.inner_head n name sig wanted around) bound made st
closed_same a before head name sig wanted n bound made around st ei ed et en ex ek ec es =
    ap (λ (z : w.Inside). left_with bound made st z before.depth (map target before.targets.items) head.number (text a head.name) head.kind (class head.class) (signature a head.signature)) ei
    ∙ ap (λ (z : ℕ). left_with bound made st around.inside z (map target before.targets.items) head.number (text a head.name) head.kind (class head.class) (signature a head.signature)) ed
    ∙ ap (λ (z : List w.Target). left_with bound made st around.inside (length around.scopes) z head.number (text a head.name) head.kind (class head.class) (signature a head.signature)) et
    ∙ ap (λ (z : ℕ). left_with bound made st around.inside (length around.scopes) around.targets z (text a head.name) head.kind (class head.class) (signature a head.signature)) en
    ∙ ap (λ (z : Text). left_with bound made st around.inside (length around.scopes) around.targets n z head.kind (class head.class) (signature a head.signature)) ex
    ∙ ap (λ (z : FunctionKind). left_with bound made st around.inside (length around.scopes) around.targets n name z (class head.class) (signature a head.signature)) ek
    ∙ ap (λ (z : Option ℕ). left_with bound made st around.inside (length around.scopes) around.targets n name Inner z (signature a head.signature)) ec
    ∙ ap (λ (z : Ty). left_with bound made st around.inside (length around.scopes) around.targets n name Inner around.inside.class z) es

-- a function inside another, from where its parameters are bound
pub inner_begun : (name : Text) (sig : Ty) (wanted : w.Asked) (bind : w.Walk (List (p.Parameter Text))) (body : w.Walk (c.Part Text)) (st0 st1 st2 : w.State) (n : ℕ) →
    f.numbered st0 ≡ w.went n st1 → st2 ≡ entered (f.inner wanted st1.inside) st1 →
    f.inner_function name sig wanted bind body st0
    ≡ w.on (bind st2) (λ bound after. w.on (body after) (λ made after. w.went n (f.closed st1 (f.inner_head n name sig wanted st1) bound made after)))
unfolding w.on f.function
inner_begun name sig wanted bind body st0 st1 st2 n e1 e2 =
    ap (λ (q : w.Went ℕ). w.on q (λ n after. f.function (f.inner_head n name sig wanted after) bind body after)) e1
    ∙ ap (λ (z : w.State). w.on (bind z) (λ bound after. w.on (body after) (λ made after. w.went n (f.closed st1 (f.inner_head n name sig wanted st1) bound made after)))) (sym e2)

-- and from where its body begins
pub inner_bound : (name : Text) (sig : Ty) (wanted : w.Asked) (bind : w.Walk (List (p.Parameter Text))) (body : w.Walk (c.Part Text)) (st0 st1 st2 st3 : w.State) (n : ℕ)
    (bound : List (p.Parameter Text)) → f.numbered st0 ≡ w.went n st1 → st2 ≡ entered (f.inner wanted st1.inside) st1 → bind st2 ≡ w.went bound st3 →
    f.inner_function name sig wanted bind body st0
    ≡ w.on (body st3) (λ made after. w.went n (f.closed st1 (f.inner_head n name sig wanted st1) bound made after))
unfolding w.on
inner_bound name sig wanted bind body st0 st1 st2 st3 n bound e1 e2 e3 =
    inner_begun name sig wanted bind body st0 st1 st2 n e1 e2
    ∙ ap (λ (q : w.Went (List (p.Parameter Text))). w.on q (λ bound after. w.on (body after) (λ made after. w.went n (f.closed st1 (f.inner_head n name sig wanted st1) bound made after)))) e3

-- a function inside another: its number, its parameters, its body, and what is in scope behind it
pub closed_on : (a : Around) (before : Before) (head : Head) (name : Text) (sig : Ty) (wanted : w.Asked) (bind : w.Walk (List (p.Parameter Text)))
    (body : w.Walk (c.Part Text)) (st0 st1 st2 st3 st4 st5 : w.State) (n : ℕ) (bound : List (p.Parameter Text)) (made : c.Part Text) →
    f.numbered st0 ≡ w.went n st1 → st2 ≡ entered (f.inner wanted st1.inside) st1 → bind st2 ≡ w.went bound st3 → body st3 ≡ w.went made st4 →
    st5 ≡ closed a before head bound made st4 →
    inside a before.inside ≡ st1.inside → before.depth ≡ length st1.scopes → map target before.targets.items ≡ st1.targets →
    head.number ≡ n → text a head.name ≡ name → head.kind ≡ Inner → class head.class ≡ st1.inside.class → signature a head.signature ≡ sig →
    f.inner_function name sig wanted bind body st0 ≡ w.went n st5
unfolding w.on f.function
closed_on a before head name sig wanted bind body st0 st1 st2 st3 st4 st5 n bound made e1 e2 e3 e4 e5 ei ed et en ex ek ec es =
    ap (λ (q : w.Went ℕ). w.on q (λ n after. f.function (f.inner_head n name sig wanted after) bind body after)) e1
    ∙ ap (λ (z : w.State). w.on (bind z) (λ bound after. w.on (body after) (λ made after. w.went n (f.closed st1 (f.inner_head n name sig wanted st1) bound made after)))) (sym e2)
    ∙ ap (λ (q : w.Went (List (p.Parameter Text))). w.on q (λ bound after. w.on (body after) (λ made after. w.went n (f.closed st1 (f.inner_head n name sig wanted st1) bound made after)))) e3
    ∙ ap (λ (q : w.Went (c.Part Text)). w.on q (λ made after. w.went n (f.closed st1 (f.inner_head n name sig wanted st1) bound made after))) e4
    ∙ ap (λ (z : w.State). w.went n z) (sym (closed_same a before head name sig wanted n bound made st1 st4 ei ed et en ex ek ec es) ∙ sym e5)
