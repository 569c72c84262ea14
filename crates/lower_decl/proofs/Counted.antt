-- The functions behind the first ones, with a count of variables.
use Rattle.std.proofs.Common.{◌≡◌, ℕ, suc, ◌+◌, ◌<◌, ◌≤◌, List, [], ◌∷◌, ◌++◌, map, length, get_or, set, take, drop, refl, sym, ap, ◌∙◌, add-one, drop-cons, append_assoc, append-nil, arith}
use Rattle.std.proofs.lemmas.List.{map-append, take-map, drop-map, take_more_set, drop-set-lt, take_all, drop_all}
use Rattle.translation.specs.Declarations as d
use Rattle.lower_leaf.specs.Around.{Around}
use Rattle.lower_leaf.specs.Seen.{numbered_function, function}
use Rattle.lower_leaf.specs.declared.state.NumberedFunction.{NumberedFunction}
use Rattle.lower_decl.specs.Standings.{with_count}

one_seen : (a : Around) (count : ℕ) (x : NumberedFunction) → numbered_function a (with_count count x) ≡ d.with_vars count (numbered_function a x)
unfolding function
one_seen a count x = refl

all_seen : (a : Around) (count : ℕ) (xs : List NumberedFunction) → map (numbered_function a) (map (with_count count) xs) ≡ map (d.with_vars count) (map (numbered_function a) xs)
all_seen a count [] = refl
all_seen a count (x ∷ xs) = ap (λ l. numbered_function a (with_count count x) ∷ l) (all_seen a count xs)
    ∙ ap (λ y. y ∷ map (d.with_vars count) (map (numbered_function a) xs)) (one_seen a count x)

-- as contracts see them
pub counted_seen : (a : Around) (first count : ℕ) (xs : List NumberedFunction) →
    map (numbered_function a) (take first xs ++ map (with_count count) (drop first xs))
    ≡ take first (map (numbered_function a) xs) ++ map (d.with_vars count) (drop first (map (numbered_function a) xs))
counted_seen a first count xs =
    map-append (numbered_function a) (take first xs) (map (with_count count) (drop first xs))
    ∙ ap (λ l. l ++ map (numbered_function a) (map (with_count count) (drop first xs))) (sym (take-map (numbered_function a) first xs))
    ∙ ap (λ l. take first (map (numbered_function a) xs) ++ l) (all_seen a count (drop first xs) ∙ ap (map (d.with_vars count)) (sym (drop-map (numbered_function a) first xs)))

-- one more of a list that is written over
pub count_step : {X : Type 0} (g : X → X) (now after whole : List X) (i : ℕ) (x : X) → i < length now → x ≡ get_or now i x → after ≡ set now i (g x) →
    take i now ++ map g (drop i now) ≡ whole → take (i + 1) after ++ map g (drop (i + 1) after) ≡ whole
count_step {X} g now after whole i x below is written done =
    let next : drop i now ≡ x ∷ drop (i + 1) now = drop-cons now i x below ∙ ap (λ (z : X). z ∷ drop (suc i) now) (sym is) ∙ ap (λ (n : ℕ). x ∷ drop n now) (sym (add-one i)) in
    let past : i < i + 1 = omega arith in
    ap (λ (l : List X). take (i + 1) l ++ map g (drop (i + 1) l)) written
    ∙ ap (λ (l : List X). l ++ map g (drop (i + 1) (set now i (g x)))) (take_more_set now i (g x) below)
    ∙ ap (λ (l : List X). (take i now ++ g x ∷ []) ++ map g l) (drop-set-lt (i + 1) now i (g x) past)
    ∙ append_assoc (take i now) (g x ∷ []) (map g (drop (i + 1) now))
    ∙ ap (λ (l : List X). take i now ++ map g l) (sym next) ∙ done

-- behind the last
pub count_end : {X : Type 0} (g : X → X) (now whole : List X) (i : ℕ) → length now ≤ i → take i now ++ map g (drop i now) ≡ whole → now ≡ whole
count_end {X} g now whole i past done =
    sym (append-nil now) ∙ ap (λ (l : List X). l ++ []) (sym (take_all i now past)) ∙ ap (λ (l : List X). take i now ++ map g l) (sym (drop_all i now past)) ∙ done
