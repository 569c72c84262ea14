-- Parameters of one shape, one after another.
use Rattle.std.proofs.Common.{◌≡◌, ◌∙◌, ℕ, ◌+◌, ◌<◌, ◌≤◌, List, [], ◌∷◌, ◌++◌, map, length, get_or, take, Bool, true, false, cond, refl, sym, ap, subst}
use Rattle.std.proofs.lemmas.List.{map-append, take_more, take_all}
use Rattle.std.proofs.lemmas.List.Elements.{filter-append}
use Rattle.core_program.specs.Program as p
use Rattle.core_program.specs.declared.program.Parameter.{Parameter}
use Rattle.dart_ir.specs.declared.kind.Shape.{Shape}
use Rattle.translation.specs.Applications.{of_shape}
use Rattle.translation.specs.Surroundings.{Text}
use Rattle.lower_leaf.specs.Around.{Around}
use Rattle.lower_function.specs.Made.{parameter}

-- the first ones
abbrev pub first_ones : Around → ℕ → List Parameter → List (p.Parameter Text)
first_ones a i all = map (parameter a) (take i all)

one_more : (a : Around) (all ys : List Parameter) (i : ℕ) (d : Parameter) → ys ≡ all → i < length ys →
    first_ones a (i + 1) all ≡ first_ones a i all ++ parameter a (get_or ys i d) ∷ []
one_more a all ys i d same below =
    ap (map (parameter a)) (take_more all i d (let P : List Parameter → Type 0 = λ l. i < length l in subst P same below))
    ∙ map-append (parameter a) (take i all) (get_or all i d ∷ [])
    ∙ ap (λ (l : List Parameter). first_ones a i all ++ parameter a (get_or l i d) ∷ []) (sym same)

-- all of them
pub all_ones : (a : Around) (all ys : List Parameter) (i : ℕ) → ys ≡ all → length ys ≤ i → first_ones a i all ≡ map (parameter a) all
all_ones a all ys i same past = ap (map (parameter a)) (take_all i all (let P : List Parameter → Type 0 = λ l. length l ≤ i in subst P same past))

-- a parameter that counts if its shape does
abbrev if_there : {C : Type 0} → Bool → C → List C
if_there there z = cond there (z ∷ []) []

filtered : (test : Shape → Bool) (q : p.Parameter Text) → of_shape test (q ∷ []) ≡ if_there (test q.shape) q
filtered test q = refl

mapped : {B C : Type 0} (view : B → C) (there : Bool) (z : B) → map view (if_there there z) ≡ if_there there (view z)
mapped view true z = refl
mapped view false z = refl

picked_more : (a : Around) (test : Shape → Bool) (all ys : List Parameter) (i : ℕ) (d : Parameter) → ys ≡ all → i < length ys →
    of_shape test (first_ones a (i + 1) all) ≡ of_shape test (first_ones a i all) ++ if_there (test (get_or ys i d).shape) (parameter a (get_or ys i d))
picked_more a test all ys i d same below =
    ap (of_shape test) (one_more a all ys i d same below)
    ∙ filter-append (λ (q : p.Parameter Text). test q.shape) (first_ones a i all) (parameter a (get_or ys i d) ∷ [])
    ∙ ap (λ (l : List (p.Parameter Text)). of_shape test (first_ones a i all) ++ l) (filtered test (parameter a (get_or ys i d)))

-- what is picked of the parameters, one more looked at
pub picked_step : {B C : Type 0} (a : Around) (view : B → C) (of : p.Parameter Text → C) (test : Shape → Bool) (all ys : List Parameter) (i : ℕ) (d : Parameter)
    (made made2 : List B) (one : B) (there : Bool) → ys ≡ all → i < length ys → there ≡ test (get_or ys i d).shape →
    made2 ≡ made ++ if_there there one → view one ≡ of (parameter a (get_or ys i d)) →
    map view made ≡ map of (of_shape test (first_ones a i all)) → map view made2 ≡ map of (of_shape test (first_ones a (i + 1) all))
picked_step {B} {C} a view of test all ys i d made made2 one there same below tested pushed seen done =
    let x = get_or ys i d in
    ap (map view) pushed ∙ map-append view made (if_there there one)
    ∙ ap (λ (l : List C). map view made ++ l) (mapped view there one ∙ ap (λ (t : Bool). if_there t (view one)) tested
    ∙ ap (λ (z : C). if_there (test x.shape) z) seen ∙ sym (mapped of (test x.shape) (parameter a x)))
    ∙ ap (λ (l : List C). l ++ map of (if_there (test x.shape) (parameter a x))) done
    ∙ sym (map-append of (of_shape test (first_ones a i all)) (if_there (test x.shape) (parameter a x)))
    ∙ ap (map of) (sym (picked_more a test all ys i d same below))

-- behind the last
pub picked_end : {B C : Type 0} (a : Around) (view : B → C) (of : p.Parameter Text → C) (test : Shape → Bool) (all ys : List Parameter) (i : ℕ) (made : List B) →
    ys ≡ all → length ys ≤ i → map view made ≡ map of (of_shape test (first_ones a i all)) → map view made ≡ map of (of_shape test (map (parameter a) all))
picked_end a view of test all ys i made same past done =
    done ∙ ap (λ (l : List (p.Parameter Text)). map of (of_shape test l)) (all_ones a all ys i same past)
