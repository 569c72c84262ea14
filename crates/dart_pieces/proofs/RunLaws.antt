-- The longest front of a list whose bytes pass a test.
use Rattle.std.proofs.Common.{◌≡◌, ◌∙◌, sym, ap, refl, subst, ℕ, suc, ◌+◌, ◌<◌, ◌≤◌, List, [], ◌∷◌, ◌++◌, zero, Bool, true, false, arith, length, take, drop, get_or, ◌&&◌}
use Rattle.std.specs.List.{prefix_len}
use Rattle.dart_pieces.specs.Bytes.{Passes, Stops, IsRun}

pub by_bool : {A : Type 0} (b : Bool) → (b ≡ true → A) → (b ≡ false → A) → A
by_bool {A} b one other = (elim b as (λ c. b ≡ c → A) [ true ↦ one | false ↦ other ]) refl

pub and_true : (a b : Bool) → (a && b) ≡ true → (a ≡ true) × (b ≡ true)
and_true true b e = (refl, e)
and_true false b e = absurd cc

pub and_no : (a b : Bool) → b ≡ false → (a && b) ≡ false
and_no true b e = e
and_no false b e = refl

pub prefix_yes : (p : ℕ → Bool) (x : ℕ) (xs : List ℕ) → p x ≡ true → prefix_len p (x ∷ xs) ≡ suc (prefix_len p xs)
prefix_yes p x xs e = rw e (omega arith)

pub prefix_no : (p : ℕ → Bool) (x : ℕ) (xs : List ℕ) → p x ≡ false → prefix_len p (x ∷ xs) ≡ 0
prefix_no p x xs e = rw e refl

pub prefix_within : (p : ℕ → Bool) (xs : List ℕ) → prefix_len p xs ≤ length xs
prefix_within p [] = omega arith
prefix_within p (x ∷ xs) =
    let more : prefix_len p xs ≤ length xs = prefix_within p xs in
    by_bool (p x)
    (λ e. let q : prefix_len p (x ∷ xs) ≡ suc (prefix_len p xs) = prefix_yes p x xs e in omega arith)
    (λ e. let q : prefix_len p (x ∷ xs) ≡ 0 = prefix_no p x xs e in omega arith)

pub passes_run : (p : ℕ → Bool) (xs : List ℕ) → Passes p (take (prefix_len p xs) xs)
passes_run p [] = tt
passes_run p (x ∷ xs) =
    let P : ℕ → Type 0 = λ n. Passes p (take n (x ∷ xs)) in
    by_bool (p x)
    (λ e. subst P (sym (prefix_yes p x xs e)) (e, passes_run p xs))
    (λ e. subst P (sym (prefix_no p x xs e)) tt)

pub stops_run : (p : ℕ → Bool) (xs : List ℕ) → Stops p (drop (prefix_len p xs) xs)
stops_run p [] = tt
stops_run p (x ∷ xs) =
    let P : ℕ → Type 0 = λ n. Stops p (drop n (x ∷ xs)) in
    by_bool (p x)
    (λ e. subst P (sym (prefix_yes p x xs e)) (stops_run p xs))
    (λ e. subst P (sym (prefix_no p x xs e)) e)

-- a run is no longer than the longest
pub run_within : (p : ℕ → Bool) (xs rest : List ℕ) → Passes p xs → length xs ≤ prefix_len p (xs ++ rest)
run_within p [] rest h = omega arith
run_within p (x ∷ xs) rest h =
    let e : prefix_len p (x ∷ (xs ++ rest)) ≡ suc (prefix_len p (xs ++ rest)) = prefix_yes p x (xs ++ rest) h.0 in
    let more : length xs ≤ prefix_len p (xs ++ rest) = run_within p xs rest h.1 in
    omega arith

-- and it is the longest where what follows stops it
pub run_stops : (p : ℕ → Bool) (xs rest : List ℕ) → Passes p xs → Stops p rest → prefix_len p (xs ++ rest) ≡ length xs
run_stops p [] [] h e = refl
run_stops p [] (y ∷ rest) h e = prefix_no p y rest e
run_stops p (x ∷ xs) rest h e = prefix_yes p x (xs ++ rest) h.0 ∙ ap suc (run_stops p xs rest h.1 e)

-- the longest run of a text that begins with its first byte
pub run_taken : (first more : ℕ → Bool) (x : ℕ) (xs : List ℕ) → first x ≡ true → more x ≡ true → (0 < prefix_len more (x ∷ xs)) × IsRun first more (take (prefix_len more (x ∷ xs)) (x ∷ xs))
run_taken first more x xs e m =
    let n : prefix_len more (x ∷ xs) ≡ suc (prefix_len more xs) = prefix_yes more x xs m in
    let P : ℕ → Type 0 = λ i. IsRun first more (take i (x ∷ xs)) in
    (omega arith, subst P (sym n) (e, passes_run more xs))

pub some_run : (p : ℕ → Bool) (xs : List ℕ) → 0 < prefix_len p xs → IsRun p p (take (prefix_len p xs) xs)
some_run p [] lt = absurd (omega arith)
some_run p (x ∷ xs) lt = by_bool (p x)
    (λ e. (run_taken p p x xs e e).1)
    (λ e. let z : prefix_len p (x ∷ xs) ≡ 0 = prefix_no p x xs e in absurd (omega arith))

pub run_passes : (first more : ℕ → Bool) (xs : List ℕ) → ((b : ℕ) → first b ≡ true → more b ≡ true) → IsRun first more xs → Passes more xs
run_passes first more [] f h = absurd h
run_passes first more (x ∷ xs) f h = (f x h.0, h.1)

pub append_passes : (p : ℕ → Bool) (a b : List ℕ) → Passes p a → Passes p b → Passes p (a ++ b)
append_passes p [] b h g = g
append_passes p (x ∷ a) b h g = (h.0, append_passes p a b h.1 g)

-- ---- fronts of lists

pub take_front : (a b : List ℕ) → take (length a) (a ++ b) ≡ a
take_front [] b = refl
take_front (x ∷ a) b = ap (λ t. x ∷ t) (take_front a b)

pub drop_front : (a b : List ℕ) → drop (length a) (a ++ b) ≡ b
drop_front [] b = refl
drop_front (x ∷ a) b = drop_front a b

-- the front of a text, when its length is known otherwise
pub take_front_at : (n : ℕ) (a b : List ℕ) → n ≡ length a → take n (a ++ b) ≡ a
take_front_at n a b e = rw e (take_front a b)

pub drop_front_at : (n : ℕ) (a b : List ℕ) → n ≡ length a → drop n (a ++ b) ≡ b
drop_front_at n a b e = rw e (drop_front a b)

pub stops_take : (p : ℕ → Bool) (n : ℕ) (xs : List ℕ) → Stops p xs → Stops p (take n xs)
stops_take p zero xs h = tt
stops_take p (suc n) [] h = tt
stops_take p (suc n) (x ∷ xs) h = h

pub stops_append : (p : ℕ → Bool) (a b : List ℕ) → Stops p a → Stops p b → Stops p (a ++ b)
stops_append p [] b h g = g
stops_append p (x ∷ a) b h g = h

-- one more byte
pub take_one : (n : ℕ) (xs : List ℕ) (a : ℕ) (r : List ℕ) → drop n xs ≡ a ∷ r → (take (suc n) xs ≡ take n xs ++ a ∷ []) × (suc n ≤ length xs)
take_one zero [] a r e = absurd cc
take_one zero (x ∷ xs) a r e = let h : x ≡ a = cc in (cc, omega arith)
take_one (suc n) [] a r e = absurd cc
take_one (suc n) (x ∷ xs) a r e = let more = take_one n xs a r e in let le = more.1 in (ap (λ t. x ∷ t) more.0, omega arith)

-- two more bytes
pub take_two : (n : ℕ) (xs : List ℕ) (a b : ℕ) (r : List ℕ) → drop n xs ≡ a ∷ b ∷ r → (take (suc (suc n)) xs ≡ take n xs ++ a ∷ b ∷ []) × (suc (suc n) ≤ length xs)
take_two zero [] a b r e = absurd cc
take_two zero (x ∷ []) a b r e = absurd cc
take_two zero (x ∷ y ∷ xs) a b r e = let h : x ≡ a = cc in let g : y ≡ b = cc in (cc, omega arith)
take_two (suc n) [] a b r e = absurd cc
take_two (suc n) (x ∷ xs) a b r e = let more = take_two n xs a b r e in let le = more.1 in (ap (λ t. x ∷ t) more.0, omega arith)

-- three more bytes
pub take_three : (n : ℕ) (xs : List ℕ) (a b c : ℕ) (r : List ℕ) → drop n xs ≡ a ∷ b ∷ c ∷ r → (take (suc (suc (suc n))) xs ≡ take n xs ++ a ∷ b ∷ c ∷ []) × (suc (suc (suc n)) ≤ length xs)
take_three zero [] a b c r e = absurd cc
take_three zero (x ∷ []) a b c r e = absurd cc
take_three zero (x ∷ y ∷ []) a b c r e = absurd cc
take_three zero (x ∷ y ∷ z ∷ xs) a b c r e = let h : x ≡ a = cc in let g : y ≡ b = cc in let i : z ≡ c = cc in (cc, omega arith)
take_three (suc n) [] a b c r e = absurd cc
take_three (suc n) (x ∷ xs) a b c r e = let more = take_three n xs a b c r e in let le = more.1 in (ap (λ t. x ∷ t) more.0, omega arith)

-- one way to cut a list at a length
pub cut_at : (a b c d : List ℕ) → a ++ b ≡ c ++ d → length a ≡ length c → (a ≡ c) × (b ≡ d)
cut_at [] b [] d e n = (refl, e)
cut_at [] b (x ∷ c) d e n = absurd (omega arith)
cut_at (x ∷ a) b [] d e n = absurd (omega arith)
cut_at (x ∷ a) b (y ∷ c) d e n =
    let head : x ≡ y = cc in
    let tail : a ++ b ≡ c ++ d = cc in
    let more = cut_at a b c d tail (omega arith) in
    let same : a ≡ c = more.0 in
    (cc, more.1)

take_nothing : (m : ℕ) → ◌≡◌ {A = List ℕ} (take m []) []
take_nothing zero = refl
take_nothing (suc m) = refl

pub take_more : (n m : ℕ) (xs : List ℕ) → take (n + m) xs ≡ take n xs ++ take m (drop n xs)
take_more zero m xs = let z : 0 + m ≡ m = omega arith in rw z refl
take_more (suc n) m [] = let z : suc n + m ≡ suc (n + m) = omega arith in rw z (sym (take_nothing m))
take_more (suc n) m (x ∷ xs) = let z : suc n + m ≡ suc (n + m) = omega arith in rw z (ap (λ t. x ∷ t) (take_more n m xs))

-- ---- steps of a loop

pub at_drop : (at : ℕ) (text : List ℕ) (d : ℕ) → at < length text → drop at text ≡ get_or text at d ∷ drop (at + 1) text
at_drop zero [] d lt = absurd (omega arith)
at_drop zero (x ∷ text) d lt = refl
at_drop (suc at) [] d lt = absurd (omega arith)
at_drop (suc at) (x ∷ text) d lt =
    let more = at_drop at text d (omega arith) in
    let one : suc at + 1 ≡ suc (at + 1) = omega arith in
    rw one more
