-- Comments that nest: what closes them is found, and what is found closes them.
use Rattle.std.proofs.Common.{◌≡◌, ◌∙◌, sym, ap, refl, subst, ℕ, suc, ◌+◌, ◌-◌, ◌<◌, ◌≤◌, List, [], ◌∷◌, ◌++◌, zero, true, false, arith, length, take, drop, get_or, Option, Some, None}
use Rattle.std.proofs.lemmas.Bool.Decides.{nat_tests}
use Rattle.std.proofs.lemmas.List.{length-drop}
use Rattle.dart_pieces.specs.Comments.{Mark, opens, closes, other, marks_bytes, is_open_mark, is_close_mark, Unmarked, Closing}
use Rattle.dart_pieces.specs.Reader.{plus, scan}
use Rattle.dart_pieces.proofs.RunLaws.{by_bool, at_drop}

counted : (k n m : ℕ) (o : Option ℕ) → o ≡ Some n → k + n ≡ m → plus k o ≡ Some m
counted k n m o e f = rw e (ap Some f)

scan_other : (d b : ℕ) (bytes : List ℕ) → Unmarked (b ∷ bytes) → 0 < length bytes → scan (suc d) (b ∷ bytes) ≡ plus 1 (scan (suc d) bytes)
scan_other d b [] h lt = absurd (omega arith)
scan_other d b (c ∷ bytes) h lt = rw (h.0, h.1) refl

unmarked_front : (b : ℕ) (bytes rest : List ℕ) → 0 < length bytes → Unmarked (b ∷ bytes) → Unmarked (b ∷ (bytes ++ rest))
unmarked_front b [] rest lt h = absurd (omega arith)
unmarked_front b (c ∷ bytes) rest lt h = h

closing_some : (d : ℕ) (ms : List Mark) → Closing (suc d) ms → 0 < length (marks_bytes ms)
closing_some d [] h = absurd h
closing_some d (opens ∷ ms) h = omega arith
closing_some d (closes ∷ ms) h = omega arith
closing_some d (other b ∷ ms) h = omega arith

some_front : (a b : List ℕ) → 0 < length a → 0 < length (a ++ b)
some_front [] b lt = absurd (omega arith)
some_front (x ∷ a) b lt = omega arith

pub scan_reach : (d : ℕ) (ms : List Mark) (rest : List ℕ) → Closing d ms → scan d (marks_bytes ms ++ rest) ≡ Some (length (marks_bytes ms))
scan_reach zero [] rest h = refl
scan_reach zero (m ∷ ms) rest h = absurd h
scan_reach (suc d) [] rest h = absurd h
scan_reach (suc d) (opens ∷ ms) rest h = counted 2 (length (marks_bytes ms)) (length (marks_bytes (opens ∷ ms))) (scan (suc (suc d)) (marks_bytes ms ++ rest)) (scan_reach (suc (suc d)) ms rest h) (omega arith)
scan_reach (suc d) (closes ∷ ms) rest h = counted 2 (length (marks_bytes ms)) (length (marks_bytes (closes ∷ ms))) (scan d (marks_bytes ms ++ rest)) (scan_reach d ms rest h) (omega arith)
scan_reach (suc d) (other b ∷ ms) rest h =
    let some : 0 < length (marks_bytes ms) = closing_some d ms h.1 in
    scan_other d b (marks_bytes ms ++ rest) (unmarked_front b (marks_bytes ms) rest some h.0) (some_front (marks_bytes ms) rest some)
    ∙ counted 1 (length (marks_bytes ms)) (length (marks_bytes (other b ∷ ms))) (scan (suc d) (marks_bytes ms ++ rest)) (scan_reach (suc d) ms rest h.1) (omega arith)

less : (k n : ℕ) (o : Option ℕ) → plus k o ≡ Some n → (m : ℕ) × (o ≡ Some m) × (n ≡ k + m)
less k n None e = absurd cc
less k n (Some m) e = let same : k + m ≡ n = cc in (m, refl, sym same)

unmarked_take : (x y m : ℕ) (more : List ℕ) → is_open_mark x y ≡ false → is_close_mark x y ≡ false → Unmarked (x ∷ take m (y ∷ more))
unmarked_take x y zero more e f = tt
unmarked_take x y (suc m) more e f = (e, f)

abbrev pub Closed : ℕ → List ℕ → ℕ → Type 0
Closed d text n = (n ≤ length text) × ((ms : List Mark) × (take n text ≡ marks_bytes ms) × Closing d ms)

pub scan_sound : (d : ℕ) (text : List ℕ) (n : ℕ) → scan d text ≡ Some n → Closed d text n
scan_sound zero text n e = let z : n ≡ 0 = cc in rw z (omega arith, ([], refl, tt))
scan_sound (suc d) [] n e = absurd cc
scan_sound (suc d) (x ∷ []) n e = absurd cc
scan_sound (suc d) (x ∷ y ∷ more) n e = by_bool (is_open_mark x y)
    (λ o.
    let (m, there, size) = less 2 n (scan (suc (suc d)) more) (rw o at e) in
    let (within, (ms, same, closing)) = scan_sound (suc (suc d)) more m there in
    let n2 : n ≡ suc (suc m) = omega arith in
    let ex : x ≡ 47 = grind (arith, nat_tests) in
    let ey : y ≡ 42 = grind (arith, nat_tests) in
    rw n2 (omega arith, (opens ∷ ms, cc, closing)))
    (λ o. by_bool (is_close_mark x y)
    (λ c.
    let (m, there, size) = less 2 n (scan d more) (rw c at (rw o at e)) in
    let (within, (ms, same, closing)) = scan_sound d more m there in
    let n2 : n ≡ suc (suc m) = omega arith in
    let ex : x ≡ 42 = grind (arith, nat_tests) in
    let ey : y ≡ 47 = grind (arith, nat_tests) in
    rw n2 (omega arith, (closes ∷ ms, cc, closing)))
    (λ c.
    let (m, there, size) = less 1 n (scan (suc d) (y ∷ more)) (rw c at (rw o at e)) in
    let (within, (ms, same, closing)) = scan_sound (suc d) (y ∷ more) m there in
    let n2 : n ≡ suc m = omega arith in
    rw n2 (omega arith, (other x ∷ ms, cc, (subst (λ t. Unmarked (x ∷ t)) same (unmarked_take x y m more o c), closing)))))

pub scan_some : (rest : List ℕ) (n : ℕ) → scan 1 rest ≡ Some n → 0 < n
scan_some rest zero e = let (within, (ms, same, closing)) = scan_sound 1 rest zero e in let some : 0 < length (marks_bytes ms) = closing_some 0 ms closing in let none : 0 ≡ length (marks_bytes ms) = ap length same in absurd (omega arith)
scan_some rest (suc n) e = omega arith

-- ---- the loop: what closes one comment is what was passed, and what closes those that are open

abbrev pub Scanned : List ℕ → ℕ → ℕ → Type 0
Scanned text at d = scan 1 text ≡ plus at (scan d (drop at text))

two_ahead : (at : ℕ) (text : List ℕ) → at + 2 ≤ length text → drop at text ≡ get_or text at 0 ∷ get_or text (at + 1) 0 ∷ drop (at + 2) text
two_ahead at text le =
    let a : at < length text = omega arith in
    let b : at + 1 < length text = omega arith in
    let n : at + 1 + 1 ≡ at + 2 = omega arith in
    at_drop at text 0 a ∙ ap (λ t. get_or text at 0 ∷ t) (at_drop (at + 1) text 0 b ∙ ap (λ m. get_or text (at + 1) 0 ∷ drop m text) n)

passed : (n at : ℕ) (v o next : Option ℕ) → v ≡ plus at o → o ≡ plus n next → v ≡ plus (at + n) next
passed n at v o None e f = e ∙ ap (plus at) f
passed n at v o (Some m) e f = e ∙ ap (plus at) f ∙ ap Some (omega arith)

pub scanned_first : (text : List ℕ) → Scanned text 0 1
scanned_first text = zeroed (scan 1 text)
  where
    zeroed : (o : Option ℕ) → o ≡ plus 0 o
    zeroed None = refl
    zeroed (Some n) = ap Some (omega arith)

pub scanned_opens : (text : List ℕ) (at d : ℕ) → at + 2 ≤ length text → 0 < d → is_open_mark (get_or text at 0) (get_or text (at + 1) 0) ≡ true → Scanned text at d → Scanned text (at + 2) (d + 1)
scanned_opens text at zero le lt t h = absurd (omega arith)
scanned_opens text at (suc d) le lt t h =
    let n : suc d + 1 ≡ suc (suc d) = omega arith in
    let s = two_ahead at text le in
    let step : scan (suc d) (drop at text) ≡ plus 2 (scan (suc (suc d)) (drop (at + 2) text)) = rw s (rw t refl) in
    rw n (passed 2 at (scan 1 text) (scan (suc d) (drop at text)) (scan (suc (suc d)) (drop (at + 2) text)) h step)

pub scanned_closes : (text : List ℕ) (at d : ℕ) → at + 2 ≤ length text → 0 < d → is_open_mark (get_or text at 0) (get_or text (at + 1) 0) ≡ false → is_close_mark (get_or text at 0) (get_or text (at + 1) 0) ≡ true → Scanned text at d → Scanned text (at + 2) (d - 1)
scanned_closes text at zero le lt o t h = absurd (omega arith)
scanned_closes text at (suc d) le lt o t h =
    let n : suc d - 1 ≡ d = omega arith in
    let s = two_ahead at text le in
    let step : scan (suc d) (drop at text) ≡ plus 2 (scan d (drop (at + 2) text)) = rw s (rw (o, t) refl) in
    rw n (passed 2 at (scan 1 text) (scan (suc d) (drop at text)) (scan d (drop (at + 2) text)) h step)

pub scanned_other : (text : List ℕ) (at d : ℕ) → at + 2 ≤ length text → 0 < d → is_open_mark (get_or text at 0) (get_or text (at + 1) 0) ≡ false → is_close_mark (get_or text at 0) (get_or text (at + 1) 0) ≡ false → Scanned text at d → Scanned text (at + 1) d
scanned_other text at zero le lt e f h = absurd (omega arith)
scanned_other text at (suc d) le lt e f h =
    let s = two_ahead at text le in
    let b : at + 1 < length text = omega arith in
    let n : at + 1 + 1 ≡ at + 2 = omega arith in
    let next : drop (at + 1) text ≡ get_or text (at + 1) 0 ∷ drop (at + 2) text = at_drop (at + 1) text 0 b ∙ ap (λ m. get_or text (at + 1) 0 ∷ drop m text) n in
    let step : scan (suc d) (drop at text) ≡ plus 1 (scan (suc d) (drop (at + 1) text)) = rw s (rw (e, f) (rw next refl)) in
    passed 1 at (scan 1 text) (scan (suc d) (drop at text)) (scan (suc d) (drop (at + 1) text)) h step

short : (d : ℕ) (text : List ℕ) → length text < 2 → scan (suc d) text ≡ None
short d [] lt = refl
short d (x ∷ []) lt = refl
short d (x ∷ y ∷ text) lt = absurd (omega arith)

pub scanned_end : (text : List ℕ) (at d : ℕ) → length text - at < 2 → 0 < d → Scanned text at d → None ≡ scan 1 text
scanned_end text at zero lt some h = absurd (omega arith)
scanned_end text at (suc d) lt some h =
    let size = length-drop at text in
    let none = short d (drop at text) (omega arith) in
    sym (h ∙ ap (plus at) none)
