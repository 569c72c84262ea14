-- Initialising formals, parameter by parameter with what they are bound to.
use Rattle.std.proofs.Common.{◌≡◌, ◌∙◌, ℕ, ◌+◌, ◌<◌, ◌≤◌, List, [], ◌∷◌, ◌++◌, map, length, drop, get_or, refl, sym, ap, append-nil}
use Rattle.std.proofs.lemmas.List.{drop-map}
use Rattle.core_program.specs.declared.program.Parameter.{Parameter as Bound}
use Rattle.core_program.specs.Program as p
use Rattle.dart_tree.specs.declared.parameter.Parameter.{Parameter, out-Parameter}
use Rattle.dart_tree.specs.declared.parameter.Parameters.{Parameters, out-Parameters}
use Rattle.dart_tree.specs.Lists.{parameter_list_of}
use Rattle.dart_tree.specs.Tree as t
use Rattle.dart_tree.specs.View as view
use Rattle.dart_tree.proofs.Rows.{view_the_parameter, view_the_parameters}
use Rattle.translation.specs.Classes as cl
use Rattle.translation.specs.Declarations as d
use Rattle.translation.specs.Surroundings.{Text, Core}
use Rattle.translation.specs.Walk as w
use Rattle.lower_leaf.specs.Around.{Around}
use Rattle.lower_function.specs.Made.{parameter}
use Rattle.lower_decl.proofs.Parameters.{count_listed}
use Rattle.lower_class.specs.Views.{formal_at}
use Rattle.lower_class.proofs.Items.{rest_at, none_at}
use Rattle.lower_class.proofs.Walking.{behind, behind_then, lists, lists_join}

pub kind_seen : (x : Parameter) → cl.kind_of_parameter (view.parameter x) ≡ view.parameter_kind (out-Parameter x).kind
kind_seen x = ap cl.kind_of_parameter (view_the_parameter x)

pub ruleset kinds = (kind_seen)

-- the formals of a list, bound to these
abbrev pub formals_from : cl.Around → List Parameter → List (p.Parameter Text) → w.Walk (List Core)
formals_from around all bound st = cl.formals around (parameter_list_of all) bound st

unbound : (around : cl.Around) (all : t.ParameterList) (st : w.State) → cl.formals around all [] st ≡ w.went [] st
unbound around t.no_parameters st = refl
unbound around (t.parameter one more) st = refl

bound_at : (a : Around) (bound zs : List Bound) (j : ℕ) (b : Bound) → zs ≡ bound → j < length zs → b ≡ get_or zs j b →
    drop j (map (parameter a) bound) ≡ parameter a b ∷ drop (j + 1) (map (parameter a) bound)
bound_at a bound zs j b same below is =
    drop-map (parameter a) j bound ∙ ap (map (parameter a)) (rest_at bound zs j b same below is)
    ∙ ap (λ (l : List (p.Parameter Text)). parameter a b ∷ l) (sym (drop-map (parameter a) (j + 1) bound))

-- the next parameter
pub next_formal : (a : Around) (around : cl.Around) (all ys : List Parameter) (i : ℕ) (x : Parameter) (bound zs : List Bound) (j : ℕ) (b : Bound) (before : List Core) (st : w.State)
    (whole : w.Went (List Core)) → ys ≡ all → i < length ys → x ≡ get_or ys i x → zs ≡ bound → j < length zs → b ≡ get_or zs j b →
    behind lists before (formals_from around (drop i all) (drop j (map (parameter a) bound)) st) ≡ whole →
    whole ≡ w.on (formal_at around (cl.kind_of_parameter (view.parameter x)) b.var st)
    (λ forms st. behind lists (before ++ forms) (formals_from around (drop (i + 1) all) (drop (j + 1) (map (parameter a) bound)) st))
next_formal a around all ys i x bound zs j b before st whole same below is same2 below2 is2 done =
    sym done ∙ ap (λ (l : List Parameter). behind lists before (formals_from around l (drop j (map (parameter a) bound)) st)) (rest_at all ys i x same below is)
    ∙ ap (λ (l : List (p.Parameter Text)). behind lists before (formals_from around (x ∷ drop (i + 1) all) l st)) (bound_at a bound zs j b same2 below2 is2)
    ∙ behind_then lists lists_join before (formal_at around (cl.kind_of_parameter (view.parameter x)) b.var st)
    (formals_from around (drop (i + 1) all) (drop (j + 1) (map (parameter a) bound)))

pub step_formal : (a : Around) (around : cl.Around) (all ys : List Parameter) (i : ℕ) (x : Parameter) (bound zs : List Bound) (j : ℕ) (b : Bound) (before forms after : List Core)
    (st st2 : w.State) (whole : w.Went (List Core)) → ys ≡ all → i < length ys → x ≡ get_or ys i x → zs ≡ bound → j < length zs → b ≡ get_or zs j b →
    behind lists before (formals_from around (drop i all) (drop j (map (parameter a) bound)) st) ≡ whole →
    formal_at around (cl.kind_of_parameter (view.parameter x)) b.var st ≡ w.went forms st2 → after ≡ before ++ forms →
    behind lists after (formals_from around (drop (i + 1) all) (drop (j + 1) (map (parameter a) bound)) st2) ≡ whole
unfolding w.on
step_formal a around all ys i x bound zs j b before forms after st st2 whole same below is same2 below2 is2 done made joined =
    ap (λ (l : List Core). behind lists l (formals_from around (drop (i + 1) all) (drop (j + 1) (map (parameter a) bound)) st2)) joined
    ∙ sym (next_formal a around all ys i x bound zs j b before st whole same below is same2 below2 is2 done
    ∙ ap (λ (walked : w.Went (List Core)). w.on walked
    (λ forms st. behind lists (before ++ forms) (formals_from around (drop (i + 1) all) (drop (j + 1) (map (parameter a) bound)) st))) made)

-- behind the last parameter
pub end_formals : (around : cl.Around) (all ys : List Parameter) (i : ℕ) (bound : List (p.Parameter Text)) (before : List Core) (st : w.State) (whole : w.Went (List Core)) →
    ys ≡ all → length ys ≤ i → behind lists before (formals_from around (drop i all) bound st) ≡ whole → whole ≡ w.went before st
unfolding w.on
end_formals around all ys i bound before st whole same past done =
    sym done ∙ ap (λ (l : List Parameter). behind lists before (formals_from around l bound st)) (none_at all ys i same past)
    ∙ ap (λ (l : List Core). w.went l st) (append-nil before)

-- where no more is bound
pub unbound_formals : (a : Around) (around : cl.Around) (all : List Parameter) (bound zs : List Bound) (j : ℕ) (before : List Core) (st : w.State) (whole : w.Went (List Core)) →
    zs ≡ bound → length zs ≤ j → behind lists before (formals_from around all (drop j (map (parameter a) bound)) st) ≡ whole → whole ≡ w.went before st
unfolding w.on
unbound_formals a around all bound zs j before st whole same past done =
    sym done
    ∙ ap (λ (l : List (p.Parameter Text)). behind lists before (formals_from around all l st))
    (drop-map (parameter a) j bound ∙ ap (map (parameter a)) (none_at bound zs j same past))
    ∙ ap (λ (walked : w.Went (List Core)). behind lists before walked) (unbound around (parameter_list_of all) st)
    ∙ ap (λ (l : List Core). w.went l st) (append-nil before)

-- the optional parameters behind the required ones
pub all_formals_then : (around : cl.Around) (x : Parameters) (bound : List (p.Parameter Text)) (st st2 : w.State) (found : List Core) (n : ℕ) →
    formals_from around (out-Parameters x).required.items bound st ≡ w.went found st2 → n ≡ length (out-Parameters x).required.items →
    cl.all_formals around (view.parameters x) bound st ≡ w.on (formals_from around (out-Parameters x).optional.items (drop n bound) st2) (λ rest st. w.went (found ++ rest) st)
unfolding w.on
all_formals_then around x bound st st2 found n made counted =
    ap (λ (q : t.Parameters). cl.all_formals around q bound st) (view_the_parameters x)
    ∙ ap (λ (walked : w.Went (List Core)). w.on walked (λ forms st.
    w.on (formals_from around (out-Parameters x).optional.items (drop (d.count (parameter_list_of (out-Parameters x).required.items)) bound) st) (λ rest st. w.went (forms ++ rest) st))) made
    ∙ ap (λ (k : ℕ). w.on (formals_from around (out-Parameters x).optional.items (drop k bound) st2) (λ rest st. w.went (found ++ rest) st))
    (count_listed (out-Parameters x).required.items ∙ sym counted)
