-- Lists that grow by one item each, and lists that have as many items of each key.
use Rattle.std.proofs.Common.{◌≡◌, ◌∙◌, ℕ, ◌+◌, ◌<◌, ◌≤◌, Bool, not, eqb, ◌&&◌, true, List, [], ◌∷◌, ◌++◌, length, get_or, take, map, sym, ap, subst, arith}
use Rattle.std.specs.List.{AllZip, filter, list_any, list_all, zip}
use Rattle.std.proofs.lemmas.List.{map-append, take_all, take_more}
use Rattle.std.proofs.lemmas.List.Folds.{list_all-append}
use Rattle.std.proofs.lemmas.Slice.Zip.{all_zipped_more, get_or-zip, length-zip}
use Rattle.scope_space.proofs.Parts.{any_kept}

-- two lists that have the same items of a kind have both one or none
pub same_any : {X : Type 0} (p : X → Bool) (xs ys : List X) → filter p xs ≡ filter p ys → list_any p xs ≡ list_any p ys
same_any {X} p xs ys same = sym (any_kept p xs) ∙ ap (λ (kept : List X). not (eqb (length kept) 0)) same ∙ any_kept p ys

-- one item more of a list that is mapped
pub map_more : {A B : Type 0} (f : A → B) (xs : List A) (i : ℕ) (x : A) → i < length xs → x ≡ get_or xs i x
    → map f (take (i + 1) xs) ≡ map f (take i xs) ++ f x ∷ []
map_more {A} f xs i x below is =
    ap (map f) (take_more xs i x below ∙ ap (λ (y : A). take i xs ++ y ∷ []) (sym is)) ∙ map-append f (take i xs) (x ∷ [])

-- one item more on both sides
pub all_more : {A B : Type 0} (p : A → Bool) (q : B → Bool) (xs : List A) (ys : List B) (x : A) (y : B)
    → list_all p xs ≡ list_all q ys → p x ≡ q y → list_all p (xs ++ x ∷ []) ≡ list_all q (ys ++ y ∷ [])
all_more p q xs ys x y before same =
    list_all-append p xs (x ∷ []) ∙ ap (λ (b : Bool). b && (p x && true)) before ∙ ap (λ (b : Bool). list_all q ys && (b && true)) same ∙ sym (list_all-append q ys (y ∷ []))

-- one pair more of items at the same place
pub zip_more : {A B : Type 0} (R : A → B → Type 0) (xs : List A) (ys : List B) (i : ℕ) (x : A) (y : B) → i < length xs → x ≡ get_or xs i x
    → AllZip R (take i xs) ys → R x y → AllZip R (take (i + 1) xs) (ys ++ y ∷ [])
zip_more {A} {B} R xs ys i x y below is before here =
    let cut : take (i + 1) xs ≡ take i xs ++ x ∷ [] = take_more xs i x below ∙ ap (λ (z : A). take i xs ++ z ∷ []) (sym is) in
    let P : List A → Type 0 = λ l. AllZip R l (ys ++ y ∷ []) in
    subst P (sym cut) (all_zipped_more R (take i xs) ys x y before here)

-- what goes with items goes with what they are seen as
pub zipped_map : {A B C : Type 0} (f : A → B) (R : B → C → Type 0) (xs : List A) (ys : List C) → AllZip (λ x y. R (f x) y) xs ys → AllZip R (map f xs) ys
zipped_map f R [] [] h = h
zipped_map f R [] (y ∷ ys) h = h
zipped_map f R (x ∷ xs) [] h = h
zipped_map f R (x ∷ xs) (y ∷ ys) h = (h.0, zipped_map f R xs ys h.1)

same_pair : {A B : Type 0} (x x2 : A) (y y2 : B) → x2 ≡ x → y2 ≡ y → let p : A × B = (x2, y2) in let q : A × B = (x, y) in p ≡ q
same_pair x x2 y y2 e g = cc

-- what is made of the pairs of two lists, one pair more
pub mapped_more : {A B C : Type 0} (f : A × B → C) (xs : List A) (ys : List B) (all all2 : List C) (i : ℕ) (x : A) (y : B) → i < length xs → i < length ys
    → get_or xs i x ≡ x → get_or ys i y ≡ y → all ≡ map f (take i (zip xs ys)) → all2 ≡ all ++ f (x, y) ∷ [] → all2 ≡ map f (take (i + 1) (zip xs ys))
mapped_more {A} {B} {C} f xs ys all all2 i x y in_xs in_ys at_x at_y before step =
    let pairs : List (A × B) = zip xs ys in
    let long : i < length pairs = omega (arith, length-zip xs ys) in
    let here : (x, y) ≡ get_or pairs i (x, y) = sym (get_or-zip xs ys i (x, y) in_xs in_ys ∙ same_pair x (get_or xs i x) y (get_or ys i y) at_x at_y) in
    step ∙ ap (λ (some : List C). some ++ f (x, y) ∷ []) before ∙ sym (map_more f pairs i (x, y) long here)

pub mapped_end : {A B C : Type 0} (f : A × B → C) (xs : List A) (ys : List B) (all : List C) (i : ℕ) → length (zip xs ys) ≤ i
    → all ≡ map f (take i (zip xs ys)) → all ≡ map f (zip xs ys)
mapped_end f xs ys all i past before = before ∙ ap (map f) (take_all i (zip xs ys) past)
