-- What was made, by the numbers of declarations.
use Rattle.std.proofs.Common.{◌≡◌, ◌∙◌, ℕ, zero, suc, ◌+◌, ◌<◌, List, [], ◌∷◌, ◌++◌, map, length, set, replicate, refl, sym, ap, arith}
use Rattle.std.proofs.Common.{Option, Some, None, Bool, true, false, cond}
use Rattle.std.proofs.lemmas.List.{map-append, map-set}
use Rattle.std.specs.List.{range_with_len}
use Rattle.std.specs.Prelude.{nat_eq}
use Rattle.std.proofs.lemmas.Bool.Decides.{nat_tests}
use Rattle.translation.specs.Program as p
use Rattle.translation.specs.Walk as w

-- the list with what was made in place, the first of a number last
pub over : {A : Type 0} → List (w.Made A) → List A → List A
over [] ts = ts
over (x ∷ xs) ts = set (over xs ts) x.number x.made

pub over_last : {A : Type 0} (xs : List (w.Made A)) (x : w.Made A) (ts : List A) → over (xs ++ x ∷ []) ts ≡ over xs (set ts x.number x.made)
unfolding over
over_last [] x ts = refl
over_last {A} (y ∷ ys) x ts = ap (λ (l : List A). set l y.number y.made) (over_last ys x ts)

pub over_none : {A : Type 0} (ts : List A) → over [] ts ≡ ts
unfolding over
over_none ts = refl

-- a value at one number
abbrev written : {A : Type 0} → ℕ → A → (ℕ → A) → ℕ → A
written m v f n = cond (nat_eq m n) v (f n)

written_past : {A : Type 0} (m : ℕ) (v : A) (f : ℕ → A) (k len : ℕ) → m < k → map (written m v f) (range_with_len k len) ≡ map f (range_with_len k len)
written_past m v f k zero below = refl
written_past {A} m v f k (suc len) below =
    let next : m < k + 1 = omega arith in
    let other : nat_eq m k ≡ false = grind (arith, nat_tests) in
    ap (λ (l : List A). cond (nat_eq m k) v (f k) ∷ l) (written_past m v f (k + 1) len next)
    ∙ ap (λ (b : Bool). cond b v (f k) ∷ map f (range_with_len (k + 1) len)) other

written_at : {A : Type 0} (m : ℕ) (v : A) (f : ℕ → A) (k j len : ℕ) → m ≡ k + j →
    map (written m v f) (range_with_len k len) ≡ set (map f (range_with_len k len)) j v
written_at m v f k j zero e = refl
written_at {A} m v f k zero (suc len) e =
    let next : m < k + 1 = omega arith in
    let same : nat_eq m k ≡ true = grind (arith, nat_tests) in
    ap (λ (l : List A). cond (nat_eq m k) v (f k) ∷ l) (written_past m v f (k + 1) len next)
    ∙ ap (λ (b : Bool). cond b v (f k) ∷ map f (range_with_len (k + 1) len)) same
written_at {A} m v f k (suc j) (suc len) e =
    let next : m ≡ (k + 1) + j = omega arith in
    let other : nat_eq m k ≡ false = grind (arith, nat_tests) in
    ap (λ (l : List A). cond (nat_eq m k) v (f k) ∷ l) (written_at m v f (k + 1) j len next)
    ∙ ap (λ (b : Bool). cond b v (f k) ∷ set (map f (range_with_len (k + 1) len)) j v) other

-- a table is what was made over nothing
pub table_over : {A : Type 0} (otherwise : A) (xs : List (w.Made A)) (count : ℕ) → p.table otherwise xs count ≡ over xs (p.table otherwise [] count)
unfolding over
table_over otherwise [] count = refl
table_over {A} otherwise (x ∷ xs) count =
    let e : x.number ≡ 0 + x.number = omega arith in
    written_at x.number x.made (p.made_as otherwise xs) 0 x.number count e
    ∙ ap (λ (l : List A). set l x.number x.made) (table_over otherwise xs count)

-- ---- slots

-- one more put in its place
pub over_step : {X T A : Type 0} (seen : X → w.Made A) (slot : Option T → A) (left left2 : List X) (x : X) (slots slots2 : List (Option T)) (made : T) (whole : List A) →
    left ≡ left2 ++ x ∷ [] → slots2 ≡ set slots (seen x).number (Some made) → slot (Some made) ≡ (seen x).made →
    over (map seen left) (map slot slots) ≡ whole → over (map seen left2) (map slot slots2) ≡ whole
over_step {X} {T} {A} seen slot left left2 x slots slots2 made whole popped written same done =
    ap (λ (l : List (Option T)). over (map seen left2) (map slot l)) written
    ∙ ap (λ (l : List A). over (map seen left2) l) (map-set slot slots (seen x).number (Some made))
    ∙ ap (λ (z : A). over (map seen left2) (set (map slot slots) (seen x).number z)) same
    ∙ sym (over_last (map seen left2) (seen x) (map slot slots))
    ∙ ap (λ (l : List (w.Made A)). over l (map slot slots)) (sym (map-append seen left2 (x ∷ [])))
    ∙ ap (λ (l : List X). over (map seen l) (map slot slots)) (sym popped) ∙ done

pub nothing_left : {X : Type 0} (l : List X) → length l ≡ 0 → l ≡ []
nothing_left [] none = refl
nothing_left (x ∷ xs) none = absurd (omega arith)

-- behind the last
pub over_end : {X T A : Type 0} (seen : X → w.Made A) (slot : Option T → A) (left : List X) (slots : List (Option T)) (whole : List A) →
    left ≡ [] → over (map seen left) (map slot slots) ≡ whole → map slot slots ≡ whole
over_end {X} seen slot left slots whole none done =
    sym (over_none (map slot slots)) ∙ ap (λ (l : List X). over (map seen l) (map slot slots)) (sym none) ∙ done

nothing_made : {T A : Type 0} (slot : Option T → A) (otherwise : A) (k n : ℕ) → slot None ≡ otherwise →
    map slot (replicate n None) ≡ map (p.made_as otherwise []) (range_with_len k n)
nothing_made slot otherwise k zero same = refl
nothing_made {T} {A} slot otherwise k (suc n) same =
    ap (λ (z : A). z ∷ map slot (replicate n None)) same ∙ ap (λ (l : List A). otherwise ∷ l) (nothing_made slot otherwise (k + 1) n same)

-- before the first
pub over_begun : {X T A : Type 0} (seen : X → w.Made A) (slot : Option T → A) (otherwise : A) (all : List X) (count : ℕ) (slots : List (Option T)) →
    slots ≡ replicate count None → slot None ≡ otherwise → over (map seen all) (map slot slots) ≡ p.table otherwise (map seen all) count
over_begun {X} {T} {A} seen slot otherwise all count slots empty same =
    ap (λ (l : List (Option T)). over (map seen all) (map slot l)) empty
    ∙ ap (λ (l : List A). over (map seen all) l) (nothing_made slot otherwise 0 count same)
    ∙ sym (table_over otherwise (map seen all) count)
