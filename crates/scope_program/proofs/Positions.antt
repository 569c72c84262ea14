-- The first place at which a test passes, with one item more.
use Rattle.std.proofs.Common.{◌≡◌, ◌∙◌, ℕ, ◌+◌, ◌<◌, arith, Bool, true, false, cond, List, [], ◌∷◌, ◌++◌, length, take, get_or, length-take, Some, None, refl, sym, ap}
use Rattle.std.specs.Prelude.{position}
use Rattle.std.specs.Option.{option_or}
use Rattle.std.specs.List.{position_from}
use Rattle.std.proofs.lemmas.List.{take_more}
use Rattle.std.proofs.lemmas.Iterator.Adapters.{position_from-zero}

from-push : {X : Type 0} (test : X → Bool) (n : ℕ) (xs : List X) (x : X)
    → position_from test n (xs ++ x ∷ []) ≡ option_or (position_from test n xs) (cond (test x) (Some (n + length xs)) None)
from-push test n [] x = let at : n ≡ n + 0 = omega arith in ap (λ k. cond (test x) (Some k) None) at
from-push test n (y ∷ ys) x = by (test y) (from-push test (n + 1) ys x)
  where
    by : (b : Bool) → position_from test (n + 1) (ys ++ x ∷ []) ≡ option_or (position_from test (n + 1) ys) (cond (test x) (Some (n + 1 + length ys)) None)
        → cond b (Some n) (position_from test (n + 1) (ys ++ x ∷ []))
        ≡ option_or (cond b (Some n) (position_from test (n + 1) ys)) (cond (test x) (Some (n + length (y ∷ ys))) None)
    by true rest = refl
    by false rest =
        let at : n + 1 + length ys ≡ n + length (y ∷ ys) = omega arith in
        rest ∙ ap (λ k. option_or (position_from test (n + 1) ys) (cond (test x) (Some k) None)) at

pub position-from : {X : Type 0} (test : X → Bool) (xs : List X) → position test xs ≡ position_from test 0 xs
position-from test xs = position_from-zero test xs

pub position-push : {X : Type 0} (test : X → Bool) (xs : List X) (x : X)
    → position test (xs ++ x ∷ []) ≡ option_or (position test xs) (cond (test x) (Some (length xs)) None)
position-push test xs x =
    let at : 0 + length xs ≡ length xs = omega arith in
    position-from test (xs ++ x ∷ []) ∙ from-push test 0 xs x
    ∙ ap (λ o. option_or o (cond (test x) (Some (0 + length xs)) None)) (sym (position-from test xs))
    ∙ ap (λ k. option_or (position test xs) (cond (test x) (Some k) None)) at

-- among the first items, and with one more
pub position-more : {X : Type 0} (test : X → Bool) (xs : List X) (i : ℕ) (x : X) → i < length xs → x ≡ get_or xs i x
    → position test (take (i + 1) xs) ≡ option_or (position test (take i xs)) (cond (test x) (Some i) None)
position-more {X} test xs i x below at =
    let long : length (take i xs) ≡ i = omega (arith, length-take i xs, below) in
    ap (position test) (take_more xs i x below ∙ ap (λ (y : X). take i xs ++ y ∷ []) (sym at))
    ∙ position-push test (take i xs) x ∙ ap (λ k. option_or (position test (take i xs)) (cond (test x) (Some k) None)) long
