-- The next parameter of a list.
use Rattle.std.proofs.Common.{◌≡◌, ℕ, suc, ◌+◌, ◌<◌, ◌≤◌, List, [], ◌∷◌, ◌++◌, refl, sym, ap, ◌∙◌, subst, map, length, get_or, drop, add-one, drop-cons, append_assoc, append-nil}
use Rattle.std.proofs.lemmas.List.{map-append, drop_all}
use Rattle.dart_tree.specs.declared.parameter.Parameter.{Parameter}
use Rattle.dart_tree.specs.Lists.{parameter_list_of}
use Rattle.dart_tree.specs.View as view
use Rattle.dart_ir.specs.declared.types.TypeRef.{TypeRef}
use Rattle.dart_ir.specs.declared.types.NamedType.{NamedType}
use Rattle.translation.specs.Surroundings.{Text, Ty, name_in}
use Rattle.translation.specs.Types as y
use Rattle.translation.specs.Walk.{State}
use Rattle.lower_leaf.specs.Around.{Around, ty, types}
use Rattle.lower_leaf.specs.Kept.{named_type, named_types, in_order}
use Rattle.lower_leaf.proofs.Signatures.{type_list, name_list, types_listed, names_listed}

abbrev pub kind_type : State → Parameter → Ty
kind_type st x = y.type_of_parameter st (view.parameter x)

abbrev pub kind_name : State → Parameter → Text
kind_name st x = name_in st.names.library (y.name_of_parameter (view.parameter x))

next : {A : Type 0} (f : List Parameter → List A) (g : Parameter → A) → ((x : Parameter) (xs : List Parameter) → f (x ∷ xs) ≡ g x ∷ f xs) →
    (all : List Parameter) (i : ℕ) (x : Parameter) → i < length all → x ≡ get_or all i x → f (drop i all) ≡ g x ∷ f (drop (i + 1) all)
next f g step all i x below is =
    ap f (drop-cons all i x below ∙ ap (λ (z : Parameter). z ∷ drop (suc i) all) (sym is) ∙ ap (λ (n : ℕ). x ∷ drop n all) (sym (add-one i)))
    ∙ step x (drop (i + 1) all)

type_step : (st : State) (x : Parameter) (xs : List Parameter) → type_list st (parameter_list_of (x ∷ xs)) ≡ kind_type st x ∷ type_list st (parameter_list_of xs)
type_step st x xs = refl

name_step : (st : State) (x : Parameter) (xs : List Parameter) →
    name_list st (parameter_list_of (x ∷ xs)) ≡ (kind_name st x, kind_type st x) ∷ name_list st (parameter_list_of xs)
name_step st x xs = refl

joined : {A : Type 0} (a : List A) (z : A) (r : List A) → (a ++ z ∷ []) ++ r ≡ a ++ z ∷ r
joined a z r = rw append_assoc refl

abbrev step_of : {A B : Type 0} (f : B → A) (rest : List Parameter → List A) (all : List Parameter) (i : ℕ) (found : List B) → Type 0
step_of f rest all i found = map f found ++ rest (drop i all) ≡ rest all

one_more : {A B : Type 0} (f : B → A) (rest : List Parameter → List A) (here : Parameter → A) → ((x : Parameter) (xs : List Parameter) → rest (x ∷ xs) ≡ here x ∷ rest xs) →
    (all : List Parameter) (i : ℕ) (x : Parameter) (found : List B) (of : B) → i < length all → x ≡ get_or all i x → f of ≡ here x →
    step_of f rest all i found → step_of f rest all (i + 1) (found ++ of ∷ [])
one_more {A = A} f rest here step all i x found of below is e done =
    ap (λ (l : List A). l ++ rest (drop (i + 1) all)) (map-append f found (of ∷ []))
    ∙ joined (map f found) (f of) (rest (drop (i + 1) all))
    ∙ ap (λ (z : A). map f found ++ z ∷ rest (drop (i + 1) all)) e
    ∙ ap (λ (l : List A). map f found ++ l) (sym (next rest here step all i x below is)) ∙ done

pub types_step : (a : Around) (st : State) (all ys : List Parameter) (i : ℕ) (x : Parameter) (found found2 : List TypeRef) (of : TypeRef) → ys ≡ all → i < length ys → x ≡ get_or ys i x →
    found2 ≡ found ++ of ∷ [] → ty a of ≡ kind_type st x → types a found ++ type_list st (parameter_list_of (drop i all)) ≡ type_list st (parameter_list_of all) →
    types a found2 ++ type_list st (parameter_list_of (drop (i + 1) all)) ≡ type_list st (parameter_list_of all)
types_step a st all ys i x found found2 of same below is pushed e done =
    ap (λ (l : List TypeRef). types a l ++ type_list st (parameter_list_of (drop (i + 1) all))) pushed
    ∙ one_more (ty a) (λ (l : List Parameter). type_list st (parameter_list_of l)) (kind_type st) (type_step st) all i x found of
    (let P : List Parameter → Type 0 = λ l. i < length l in subst P same below) (is ∙ ap (λ (l : List Parameter). get_or l i x) same) e done

pub names_step : (a : Around) (st : State) (all ys : List Parameter) (i : ℕ) (x : Parameter) (found found2 : List NamedType) (of : NamedType) → ys ≡ all → i < length ys → x ≡ get_or ys i x →
    found2 ≡ found ++ of ∷ [] → named_type a of ≡ (kind_name st x, kind_type st x) →
    map (named_type a) found ++ name_list st (parameter_list_of (drop i all)) ≡ name_list st (parameter_list_of all) →
    map (named_type a) found2 ++ name_list st (parameter_list_of (drop (i + 1) all)) ≡ name_list st (parameter_list_of all)
names_step a st all ys i x found found2 of same below is pushed e done =
    ap (λ (l : List NamedType). map (named_type a) l ++ name_list st (parameter_list_of (drop (i + 1) all))) pushed
    ∙ one_more (named_type a) (λ (l : List Parameter). name_list st (parameter_list_of l)) (λ (x : Parameter). (kind_name st x, kind_type st x)) (name_step st) all i x found of
    (let P : List Parameter → Type 0 = λ l. i < length l in subst P same below) (is ∙ ap (λ (l : List Parameter). get_or l i x) same) e done

-- behind the last parameter
ended : {A : Type 0} (rest : List Parameter → List A) → rest [] ≡ [] → (all : List Parameter) (i : ℕ) (before : List A) → length all ≤ i →
    before ++ rest (drop i all) ≡ rest all → before ≡ rest all
ended {A = A} rest none all i before past done =
    sym (append-nil before) ∙ ap (λ (l : List A). before ++ l) (sym (ap rest (drop_all i all past) ∙ none)) ∙ done

pub types_end : (a : Around) (st : State) (all ys : List Parameter) (i : ℕ) (found : List TypeRef) → ys ≡ all → length ys ≤ i →
    types a found ++ type_list st (parameter_list_of (drop i all)) ≡ type_list st (parameter_list_of all) →
    y.tys (types a found) ≡ y.parameter_types st (parameter_list_of all)
types_end a st all ys i found same past done =
    ap y.tys (ended (λ (l : List Parameter). type_list st (parameter_list_of l)) refl all i (types a found) (let P : List Parameter → Type 0 = λ l. length l ≤ i in subst P same past) done)
    ∙ sym (types_listed st (parameter_list_of all))

pub names_end : (a : Around) (st : State) (all ys : List Parameter) (i : ℕ) (found : List NamedType) → ys ≡ all → length ys ≤ i →
    map (named_type a) found ++ name_list st (parameter_list_of (drop i all)) ≡ name_list st (parameter_list_of all) →
    named_types a found ≡ y.named_types st (parameter_list_of all)
names_end a st all ys i found same past done =
    ap in_order (ended (λ (l : List Parameter). name_list st (parameter_list_of l)) refl all i (map (named_type a) found) (let P : List Parameter → Type 0 = λ l. length l ≤ i in subst P same past) done)
    ∙ sym (names_listed st (parameter_list_of all))
