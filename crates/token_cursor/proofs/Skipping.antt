-- The table of brackets, from the last token to the first.
use Rattle.std.proofs.Common.{◌≡◌, ℕ, zero, suc, ◌+◌, ◌-◌, ◌<◌, ◌≤◌, Bool, true, false, List, [], ◌∷◌, drop, take, length, get_or, set, refl, sym, ap, ◌∙◌, arith}
use Rattle.std.specs.Prelude.{◌==◌}
use Rattle.std.proofs.Math.Seq.{drop-cons}
use Rattle.std.proofs.lemmas.List.{drop-drop, drop-set, length-drop, take_all}
use Rattle.dart_token.specs.declared.token.Token.{Token}
use Rattle.grammar_laws.specs.Codes.{has}
use Rattle.token_codes.specs.Codes.{class_of}
use Rattle.syntax_readers.specs.Combinators.{opening, closing, open_behind, behind_open, behind_brackets}
use Rattle.token_cursor.specs.Brackets.{Skips, Measured}

-- ---- one token

one_more_by : (k c : ℕ) (o e : Bool) → has opening c ≡ o → has closing c ≡ e → open_behind (suc (suc k)) c ≡ suc (open_behind (suc k) c)
one_more_by k c true e ho he = rw ho (omega arith)
one_more_by k c false true ho he = rw (ho, he) (omega arith)
one_more_by k c false false ho he = rw (ho, he) refl

one_more : (k c : ℕ) → open_behind (suc (suc k)) c ≡ suc (open_behind (suc k) c)
one_more k c = one_more_by k c (has opening c) (has closing c) refl refl

-- the outermost of some open brackets closes behind the others
deeper : (k : ℕ) (ts : List Token) → behind_open (suc k) ts ≡ behind_open 1 (behind_open k ts)
deeper zero ts = refl
deeper (suc k) [] = refl
deeper (suc k) (t ∷ ts) = ap (λ (n : ℕ). behind_open n ts) (one_more k (class_of t)) ∙ deeper (open_behind (suc k) (class_of t)) ts

opened_by : (c : ℕ) → has opening c ≡ true → open_behind 1 c ≡ 2
opened_by c ho = rw ho refl

closed_by : (c : ℕ) → has opening c ≡ false → has closing c ≡ true → open_behind 1 c ≡ 0
closed_by c ho he = rw (ho, he) refl

kept_by : (c : ℕ) → has opening c ≡ false → has closing c ≡ false → open_behind 1 c ≡ 1
kept_by c ho he = rw (ho, he) refl

opens : (t : Token) (ts : List Token) → has opening (class_of t) ≡ true → behind_open 1 (t ∷ ts) ≡ behind_open 1 (behind_open 1 ts)
opens t ts ho = ap (λ (n : ℕ). behind_open n ts) (opened_by (class_of t) ho) ∙ deeper 1 ts

-- ---- the numbers of a table

pub measured_at : (ts : List Token) (skips : List ℕ) (k : ℕ) → Measured ts skips → k < length ts → (behind_open 1 (drop (suc k) ts) ≡ drop (get_or skips k 0) (drop k ts)) × (1 ≤ get_or skips k 0) × (get_or skips k 0 ≤ length ts - k)
measured_at [] skips k m below = absurd (omega arith)
measured_at (t ∷ ts) [] k m below = absurd m
measured_at (t ∷ ts) (s ∷ skips) zero m below = (m.0, m.1, omega (arith, m.2))
measured_at (t ∷ ts) (s ∷ skips) (suc k) m below =
    let i = measured_at ts skips k m.3 (omega arith) in
    (i.0, i.1, omega (arith, i.2))

pub no_fewer : (ts : List Token) (skips : List ℕ) → Measured ts skips → length ts ≤ length skips
no_fewer [] skips m = omega arith
no_fewer (t ∷ ts) [] m = absurd m
no_fewer (t ∷ ts) (s ∷ skips) m = omega (arith, no_fewer ts skips m.3)

pub skips_are : (ts : List Token) (skips : List ℕ) → Measured ts skips → Skips ts skips
skips_are [] skips m = tt
skips_are (t ∷ ts) [] m = absurd m
skips_are (t ∷ ts) (s ∷ skips) m = (m.0, skips_are ts skips m.3)

-- ---- a number for the token before these

module _ (tokens : List Token) (skips : List ℕ) where
  abbrev pub inner : ℕ
  inner = get_or skips 0 0

  abbrev pub outer : ℕ
  outer = get_or skips (inner - 1) 0

opened : (t : Token) (ts : List Token) (skips : List ℕ) → Measured (t ∷ ts) skips → has opening (class_of t) ≡ true → behind_open 1 (t ∷ ts) ≡ drop (inner (t ∷ ts) skips + outer (t ∷ ts) skips - 1) (t ∷ ts)
opened t ts [] m ho = absurd m
opened t ts (s ∷ skips) m ho =
    let i = measured_at (t ∷ ts) (s ∷ skips) (s - 1) m (omega (arith, m.1, m.2)) in
    let back : suc (s - 1) ≡ s = omega (arith, m.1) in
    let sum : (s - 1) + get_or (s ∷ skips) (s - 1) 0 ≡ s + get_or (s ∷ skips) (s - 1) 0 - 1 = omega (arith, m.1) in
    opens t ts ho
    ∙ ap (behind_open 1) (m.0 ∙ ap (λ (n : ℕ). drop n (t ∷ ts)) (sym back))
    ∙ i.0
    ∙ drop-drop (get_or (s ∷ skips) (s - 1) 0) (s - 1) (t ∷ ts)
    ∙ ap (λ (n : ℕ). drop n (t ∷ ts)) sum

pub opening_at : (tokens : List Token) (skips : List ℕ) (t : Token) → Measured tokens skips → 1 ≤ length tokens → t ≡ get_or tokens 0 t → has opening (class_of t) ≡ true → behind_open 1 tokens ≡ drop (inner tokens skips + outer tokens skips - 1) tokens
opening_at [] skips t m some is ho = absurd (omega arith)
opening_at (u ∷ us) skips t m some is ho = opened u us skips m (ap (λ (x : Token). has opening (class_of x)) (sym is) ∙ ho)

within : (t : Token) (ts : List Token) (skips : List ℕ) → Measured (t ∷ ts) skips → (inner (t ∷ ts) skips - 1 < length skips) × (inner (t ∷ ts) skips + outer (t ∷ ts) skips ≤ length (t ∷ ts) + 1)
within t ts [] m = absurd m
within t ts (s ∷ skips) m =
    let i = measured_at (t ∷ ts) (s ∷ skips) (s - 1) m (omega (arith, m.1, m.2)) in
    (omega (arith, m.1, m.2, no_fewer (t ∷ ts) (s ∷ skips) m), omega (arith, m.1, m.2, i.2))

pub opening_within : (tokens : List Token) (skips : List ℕ) → Measured tokens skips → 1 ≤ length tokens → (inner tokens skips - 1 < length skips) × (inner tokens skips + outer tokens skips ≤ length tokens + 1)
opening_within [] skips m some = absurd (omega arith)
opening_within (u ∷ us) skips m some = within u us skips m

-- ---- the table from a token on

lengthened : (t : Token) (ts : List Token) (s : ℕ) (skips : List ℕ) → Measured ts skips → behind_open 1 ts ≡ drop (s - 1) ts → 1 ≤ s → s ≤ length ts + 1 → Measured (t ∷ ts) (s ∷ skips)
lengthened t ts s skips m e some le =
    let back : suc (s - 1) ≡ s = omega arith in
    (e ∙ ap (λ (n : ℕ). drop n (t ∷ ts)) back, some, omega arith, m)

-- one number more, before the others
pub one_before : (tokens : List Token) (found new : List ℕ) (at s : ℕ) → Measured (drop at tokens) (drop at found) → 1 ≤ at → at ≤ length tokens → length found ≡ length tokens → new ≡ set found (at - 1) s →
    behind_open 1 (drop at tokens) ≡ drop (s - 1) (drop at tokens) → 1 ≤ s → s ≤ length (drop at tokens) + 1 → Measured (drop (at - 1) tokens) (drop (at - 1) new)
one_before [] found new at s m some le same is e one up = absurd (omega arith)
one_before (t ∷ ts) found new at s m some le same is e one up =
    let back : (at - 1) + 1 ≡ at = omega arith in
    let next : suc (at - 1) ≡ at = omega arith in
    let first : drop (at - 1) (t ∷ ts) ≡ get_or (t ∷ ts) (at - 1) t ∷ drop at (t ∷ ts) =
    drop-cons (t ∷ ts) (at - 1) t (omega arith) ∙ ap (λ (n : ℕ). get_or (t ∷ ts) (at - 1) t ∷ drop n (t ∷ ts)) next in
    let second : drop (at - 1) new ≡ s ∷ drop at found =
    ap (drop (at - 1)) is ∙ drop-set found (at - 1) s (omega arith) ∙ ap (λ (n : ℕ). s ∷ drop n found) back in
    rw (first, second) (lengthened (get_or (t ∷ ts) (at - 1) t) (drop at (t ∷ ts)) s (drop at found) m e one up)

-- ---- the tokens behind some, and before some

pub skips_enough : (ts : List Token) (skips : List ℕ) → Skips ts skips → length ts ≤ length skips
skips_enough [] skips k = omega arith
skips_enough (t ∷ ts) [] k = absurd k
skips_enough (t ∷ ts) (s ∷ skips) k = omega (arith, skips_enough ts skips k.1)

pub skips_behind : (n : ℕ) (ts : List Token) (skips : List ℕ) → Skips ts skips → Skips (drop n ts) (drop n skips)
skips_behind zero ts skips k = k
skips_behind (suc n) [] skips k = tt
skips_behind (suc n) (t ∷ ts) [] k = absurd k
skips_behind (suc n) (t ∷ ts) (s ∷ skips) k = skips_behind n ts skips k.1

closing_shortens : (k : ℕ) (ts : List Token) → length (behind_open k ts) ≤ length ts
closing_shortens zero ts = omega arith
closing_shortens (suc k) [] = omega arith
closing_shortens (suc k) (t ∷ ts) = omega (arith, closing_shortens (open_behind (suc k) (class_of t)) ts)

nothing_dropped : (s n : ℕ) (ts : List Token) → ts ≡ drop s ts → take n ts ≡ drop s (take n ts)
nothing_dropped zero n ts e = refl
nothing_dropped (suc s) zero ts e = refl
nothing_dropped (suc s) (suc n) [] e = refl
nothing_dropped (suc s) (suc n) (t ∷ ts) e = absurd (omega (arith, ap length e, length-drop s ts))

-- where the brackets close behind so many of all tokens, they close there among the first
closes_before : (n k s : ℕ) (ts : List Token) → behind_open k ts ≡ drop s ts → behind_open k (take n ts) ≡ drop s (take n ts)
closes_before n zero s ts e = nothing_dropped s n ts e
closes_before zero (suc k) zero ts e = refl
closes_before zero (suc k) (suc s) ts e = refl
closes_before (suc n) (suc k) zero [] e = refl
closes_before (suc n) (suc k) (suc s) [] e = refl
closes_before (suc n) (suc k) zero (t ∷ ts) e = absurd (omega (arith, ap length e, closing_shortens (open_behind (suc k) (class_of t)) ts))
closes_before (suc n) (suc k) (suc s) (t ∷ ts) e = closes_before n (open_behind (suc k) (class_of t)) s ts e

one_before_end : (n s : ℕ) (t : Token) (ts : List Token) → behind_open 1 ts ≡ drop s (t ∷ ts) → behind_open 1 (take n ts) ≡ drop s (t ∷ take n ts)
one_before_end n zero t ts e = absurd (omega (arith, ap length e, closing_shortens 1 ts))
one_before_end n (suc s) t ts e = closes_before n 1 s ts e

pub skips_before : (n : ℕ) (ts : List Token) (skips : List ℕ) → Skips ts skips → Skips (take n ts) skips
skips_before zero ts skips k = tt
skips_before (suc n) [] skips k = tt
skips_before (suc n) (t ∷ ts) [] k = absurd k
skips_before (suc n) (t ∷ ts) (s ∷ skips) k = (one_before_end n s t ts k.0, skips_before n ts skips k.1)

-- as ranges of the two slices have them
pub skips_from : (n : ℕ) (ts : List Token) (skips : List ℕ) → Skips ts skips → Skips (take (length ts - n) (drop n ts)) (take (length skips - n) (drop n skips))
skips_from n ts skips k =
    let a : take (length ts - n) (drop n ts) ≡ drop n ts = take_all (length ts - n) (drop n ts) (omega (arith, length-drop n ts)) in
    let b : take (length skips - n) (drop n skips) ≡ drop n skips = take_all (length skips - n) (drop n skips) (omega (arith, length-drop n skips)) in
    rw (a, b) (skips_behind n ts skips k)

-- the first number leads to behind the brackets
pub first_skip : (ts : List Token) (skips : List ℕ) → Skips ts skips → (length ts == 0) ≡ false → drop (get_or skips 0 0) ts ≡ behind_brackets ts
first_skip [] skips k some = absurd cc
first_skip (t ∷ ts) [] k some = absurd k
first_skip (t ∷ ts) (s ∷ skips) k some = sym k.0
