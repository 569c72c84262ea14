-- The next parameter of a list, with what it asks for.
use Rattle.std.proofs.Common.{◌≡◌, ℕ, suc, ◌+◌, ◌<◌, ◌≤◌, List, [], ◌∷◌, ◌++◌, refl, sym, ap, ◌∙◌, subst, map, length, get_or, drop, add-one, drop-cons, append_assoc, append-nil}
use Rattle.std.proofs.lemmas.List.{map-append, drop_all}
use Rattle.dart_tree.specs.declared.parameter.Parameter.{Parameter, out-Parameter}
use Rattle.dart_tree.specs.Lists.{parameter_list_of}
use Rattle.dart_tree.specs.Tree as t
use Rattle.dart_tree.specs.View as view
use Rattle.dart_tree.proofs.Rows.{view_the_parameter, view_plain_parameter, view_function_parameter, view_the_parameters}
use Rattle.translation.specs.Functions as f
use Rattle.translation.specs.Walk as w
use Rattle.lower_leaf.specs.Around.{Around}
use Rattle.lower_function.specs.Formals.{formal, declared_one, declared_list}
use Rattle.lower_function.specs.declared.parameter.Formal.{Formal}

-- a parameter of the list
abbrev pub here : w.State → Parameter → f.Declared
here st x = f.declared_by st (view.parameter_kind (out-Parameter x).kind) (view.value (out-Parameter x).value)

-- those of a list of the code
abbrev pub listed : w.State → List Parameter → List f.Declared
listed st all = declared_list st (parameter_list_of all)

listed_first : (st : w.State) (x : Parameter) (xs : List Parameter) → listed st (x ∷ xs) ≡ here st x ∷ listed st xs
listed_first st x xs = ap (λ (p : t.Parameter). declared_one st p ∷ listed st xs) (view_the_parameter x)

next : (st : w.State) (all : List Parameter) (i : ℕ) (x : Parameter) → i < length all → x ≡ get_or all i x →
    listed st (drop i all) ≡ here st x ∷ listed st (drop (i + 1) all)
next st all i x below is =
    ap (listed st) (drop-cons all i x below ∙ ap (λ (z : Parameter). z ∷ drop (suc i) all) (sym is) ∙ ap (λ (n : ℕ). x ∷ drop n all) (sym (add-one i)))
    ∙ listed_first st x (drop (i + 1) all)

joined : (a : List f.Declared) (z : f.Declared) (r : List f.Declared) → (a ++ z ∷ []) ++ r ≡ a ++ z ∷ r
joined a z r = rw append_assoc refl

pub formals_step : (a : Around) (st : w.State) (all ys : List Parameter) (i : ℕ) (x : Parameter) (found found2 : List Formal) (of : Formal) → ys ≡ all → i < length ys → x ≡ get_or ys i x →
    found2 ≡ found ++ of ∷ [] → formal a of ≡ here st x → map (formal a) found ++ listed st (drop i all) ≡ listed st all →
    map (formal a) found2 ++ listed st (drop (i + 1) all) ≡ listed st all
formals_step a st all ys i x found found2 of same below is pushed e done =
    ap (λ (l : List Formal). map (formal a) l ++ listed st (drop (i + 1) all)) pushed
    ∙ ap (λ (l : List f.Declared). l ++ listed st (drop (i + 1) all)) (map-append (formal a) found (of ∷ []))
    ∙ joined (map (formal a) found) (formal a of) (listed st (drop (i + 1) all))
    ∙ ap (λ (z : f.Declared). map (formal a) found ++ z ∷ listed st (drop (i + 1) all)) e
    ∙ ap (λ (l : List f.Declared). map (formal a) found ++ l) (sym (next st all i x (let P : List Parameter → Type 0 = λ l. i < length l in subst P same below)
    (is ∙ ap (λ (l : List Parameter). get_or l i x) same))) ∙ done

-- behind the last
pub formals_end : (st : w.State) (all ys : List Parameter) (i : ℕ) (found : List f.Declared) → ys ≡ all → length ys ≤ i →
    found ++ listed st (drop i all) ≡ listed st all → found ≡ listed st all
formals_end st all ys i found same past done =
    let over : length all ≤ i = let P : List Parameter → Type 0 = λ l. length l ≤ i in subst P same past in
    sym (append-nil found) ∙ ap (λ (l : List f.Declared). found ++ l) (sym (ap (listed st) (drop_all i all over))) ∙ done

-- what the trees of parameters are
pub ruleset parameter_trees = (view_plain_parameter, view_function_parameter, view_the_parameters)
