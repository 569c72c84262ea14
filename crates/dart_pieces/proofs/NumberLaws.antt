-- Numbers: the value of digits, and the number at the front of a text.
use Rattle.std.proofs.Common.{◌≡◌, sym, ap, refl, subst, ℕ, suc, ◌+◌, ◌-◌, ◌*◌, ◌<◌, ◌≤◌, List, [], ◌∷◌, ◌++◌, zero, Bool, true, false, arith, length, take, drop, get_or, nat_lt, cond, Option, Some, None, inl, inr, ◌&&◌, ◌||◌, ◌==◌, append_assoc}
use Rattle.std.proofs.lemmas.Bool.Decides.{nat_tests}
use Rattle.std.proofs.lemmas.List.{length-append, length-drop}
use Rattle.std.specs.List.{prefix_len}
use Rattle.dart_token.specs.declared.token.Quote.{Quote}
use Rattle.dart_token.specs.declared.token.TokenKind.TheVariants as t
use Rattle.dart_pieces.specs.declared.piece.PieceClass.TheVariants as k
use Rattle.dart_pieces.specs.declared.piece.LexReason.TheVariants as r
use Rattle.dart_pieces.specs.Bytes.{is_digit, is_hex_digit, is_x, is_exponent, is_plus_or_minus, Passes, Stops, IsRun}
use Rattle.dart_pieces.specs.Numbers.{digit, value_on, value_in, IsInteger, MakesDouble}
use Rattle.dart_pieces.specs.Reader.{hex_len, double_len, decimal_at, number_at}
use Rattle.dart_pieces.proofs.RunLaws.{by_bool, and_no, and_true, at_drop, prefix_yes, prefix_no, prefix_within, run_within, run_stops, run_taken, some_run, run_passes, drop_front, take_more}
use Rattle.dart_pieces.proofs.Found.{Reaches, SoundAt, at_least}

-- ---- values

value_grows : (base v : ℕ) (digits : List ℕ) → 0 < base → v ≤ value_on base v digits
value_grows base v [] lt = omega arith
value_grows zero v (d ∷ digits) lt = absurd (omega arith)
value_grows (suc base) v (d ∷ digits) lt =
    let more : v * suc base + digit d ≤ value_on (suc base) (v * suc base + digit d) digits = value_grows (suc base) (v * suc base + digit d) digits lt in
    let one : v ≤ v * suc base = omega arith in
    omega arith

pub value_step : (base v i : ℕ) (digits : List ℕ) → i < length digits → value_on base v (drop i digits) ≡ value_on base (v * base + digit (get_or digits i 0)) (drop (i + 1) digits)
value_step base v i digits lt = rw (at_drop i digits 0 lt) refl

pub value_above : (limit base v i : ℕ) (digits : List ℕ) → 0 < base → i < length digits → limit < v * base + digit (get_or digits i 0) → value_on base 0 digits ≡ value_on base v (drop i digits) → nat_lt limit (value_in base digits) ≡ true
value_above limit base v i digits some lt above e =
    let step = value_step base v i digits lt in
    let grows : v * base + digit (get_or digits i 0) ≤ value_on base (v * base + digit (get_or digits i 0)) (drop (i + 1) digits) = value_grows base (v * base + digit (get_or digits i 0)) (drop (i + 1) digits) some in
    let all : limit < value_on base 0 digits = omega arith in
    grind (arith, nat_tests)

pub none_above : (limit n : ℕ) (r : Option ℕ) → r ≡ cond (nat_lt limit n) None (Some n) → r ≡ None → limit < n
none_above limit n r e f = by_bool (nat_lt limit n)
    (λ y. grind (arith, nat_tests))
    (λ y. let g : r ≡ Some n = rw y at e in absurd cc)

-- ---- numbers are found

digit_no_x : (b : ℕ) → is_digit b ≡ true → is_x b ≡ false
digit_no_x b e = grind (arith, nat_tests)

x_no_digit : (b : ℕ) → is_x b ≡ true → is_digit b ≡ false
x_no_digit b e = grind (arith, nat_tests)

exponent_no_x : (b : ℕ) → is_exponent b ≡ true → is_x b ≡ false
exponent_no_x b e = grind (arith, nat_tests)

exponent_no_digit : (b : ℕ) → is_exponent b ≡ true → is_digit b ≡ false
exponent_no_digit b e = grind (arith, nat_tests)

plus_no_digit : (b : ℕ) → is_plus_or_minus b ≡ true → is_digit b ≡ false
plus_no_digit b e = grind (arith, nat_tests)

or_yes : (a b : Bool) → b ≡ true → (a || b) ≡ true
or_yes true b e = refl
or_yes false b e = e

hex_none : (a b : ℕ) (more : List ℕ) → is_x b ≡ false → hex_len (a ∷ b ∷ more) ≡ 0
hex_none a b more e = rw (and_no (a == 48) (is_x b) e) refl

-- digits are no longer than a hexadecimal integer there
hex_or_digits : (text : List ℕ) → (hex_len text == 0) ≡ false → prefix_len is_digit text ≤ 1
hex_or_digits [] e = absurd cc
hex_or_digits (a ∷ []) e = absurd cc
hex_or_digits (a ∷ x ∷ more) e = by_bool (is_x x)
    (λ y.
    let none : prefix_len is_digit (x ∷ more) ≡ 0 = prefix_no is_digit x more (x_no_digit x y) in
    by_bool (is_digit a)
    (λ d. let one : prefix_len is_digit (a ∷ x ∷ more) ≡ suc (prefix_len is_digit (x ∷ more)) = prefix_yes is_digit a (x ∷ more) d in omega arith)
    (λ d. let z : prefix_len is_digit (a ∷ x ∷ more) ≡ 0 = prefix_no is_digit a (x ∷ more) d in omega arith))
    (λ y. let z : hex_len (a ∷ x ∷ more) ≡ 0 = hex_none a x more y in let bad : (0 == 0) ≡ false = rw z at e in absurd cc)

decimal_reach : (n m tail : ℕ) → n ≤ m → Reaches (k.Lexeme t.Integer) n (decimal_at m tail)
decimal_reach n m tail le = by_bool (tail == 0)
    (λ y. rw y (at_least (k.Lexeme t.Integer) n m le))
    (λ y. let some : 0 < tail = grind (arith, nat_tests) in rw y (inl (omega arith)))

pub reach_digits : (p rest : List ℕ) → IsRun is_digit is_digit p → Reaches (k.Lexeme t.Integer) (length p) (number_at (p ++ rest))
reach_digits p rest h =
    let run : Passes is_digit p = run_passes is_digit is_digit p (λ b e. e) h in
    let le : length p ≤ prefix_len is_digit (p ++ rest) = run_within is_digit p rest run in
    by_bool (hex_len (p ++ rest) == 0)
    (λ y. rw y (decimal_reach (length p) (prefix_len is_digit (p ++ rest)) (double_len (drop (prefix_len is_digit (p ++ rest)) (p ++ rest))) le))
    (λ y. let one : prefix_len is_digit (p ++ rest) ≤ 1 = hex_or_digits (p ++ rest) y in let some : 0 < hex_len (p ++ rest) = grind (arith, nat_tests) in rw y (inl (omega arith)))

pub reach_hex : (x : ℕ) (digits rest : List ℕ) → is_x x ≡ true → IsRun is_hex_digit is_hex_digit digits → Reaches (k.Lexeme t.Integer) (length (48 ∷ x ∷ digits)) (number_at (48 ∷ x ∷ (digits ++ rest)))
reach_hex x [] rest isx h = absurd h
reach_hex x (d ∷ digits) rest isx h =
    let le : length (d ∷ digits) ≤ prefix_len is_hex_digit ((d ∷ digits) ++ rest) = run_within is_hex_digit (d ∷ digits) rest h in
    let hex : hex_len (48 ∷ x ∷ (d ∷ (digits ++ rest))) ≡ prefix_len is_hex_digit (d ∷ (digits ++ rest)) = rw isx refl in
    let z : (hex_len (48 ∷ x ∷ (d ∷ (digits ++ rest))) == 0) ≡ false = grind (arith, nat_tests) in
    let le2 : length (48 ∷ x ∷ d ∷ digits) ≤ 2 + hex_len (48 ∷ x ∷ (d ∷ (digits ++ rest))) = omega arith in
    rw z (at_least (k.Lexeme t.Integer) (length (48 ∷ x ∷ d ∷ digits)) (2 + hex_len (48 ∷ x ∷ (d ∷ (digits ++ rest)))) le2)

two_tail : (a b : ℕ) (rest : List ℕ) → ((a == 46) || is_exponent a) ≡ true → is_digit b ≡ true → double_len (a ∷ b ∷ rest) ≡ 2
two_tail a b [] e d = rw (e, d) refl
two_tail a b (c ∷ rest) e d = rw (e, d) refl

double_found : (tail rest : List ℕ) → MakesDouble tail → double_len (tail ++ rest) ≡ length tail
double_found tail rest (inl (d, e, isd)) = rw e (two_tail 46 d rest refl isd)
double_found tail rest (inr (inl (x, d, e, isx, isd))) = rw e (two_tail x d rest (or_yes (x == 46) (is_exponent x) isx) isd)
double_found tail rest (inr (inr (x, s, d, e, isx, iss, isd))) = rw e (rw (and_no ((x == 46) || is_exponent x) (is_digit s) (plus_no_digit s iss)) (rw (isx, iss, isd) refl))

tail_stops : (tail rest : List ℕ) → MakesDouble tail → Stops is_digit (tail ++ rest)
tail_stops tail rest (inl (d, e, isd)) = rw e refl
tail_stops tail rest (inr (inl (x, d, e, isx, isd))) = rw e (exponent_no_digit x isx)
tail_stops tail rest (inr (inr (x, s, d, e, isx, iss, isd))) = rw e (exponent_no_digit x isx)

tail_no_x : (tail rest : List ℕ) → MakesDouble tail → Stops is_x (tail ++ rest)
tail_no_x tail rest (inl (d, e, isd)) = rw e refl
tail_no_x tail rest (inr (inl (x, d, e, isx, isd))) = rw e (exponent_no_x x isx)
tail_no_x tail rest (inr (inr (x, s, d, e, isx, iss, isd))) = rw e (exponent_no_x x isx)

pub no_hex : (digits rest : List ℕ) → Passes is_digit digits → Stops is_x rest → 0 < length digits → hex_len (digits ++ rest) ≡ 0
no_hex [] rest h stops lt = absurd (omega arith)
no_hex (a ∷ []) [] h stops lt = refl
no_hex (a ∷ []) (x ∷ rest) h stops lt = hex_none a x rest stops
no_hex (a ∷ b ∷ digits) rest h stops lt = hex_none a b (digits ++ rest) (digit_no_x b h.1.0)

some_tail : (tail : List ℕ) → MakesDouble tail → 0 < length tail
some_tail tail (inl (d, e, isd)) = rw e (omega arith)
some_tail tail (inr (inl (x, d, e, isx, isd))) = rw e (omega arith)
some_tail tail (inr (inr (x, s, d, e, isx, iss, isd))) = rw e (omega arith)

pub reach_double : (digits tail rest : List ℕ) → IsRun is_digit is_digit digits → MakesDouble tail → Reaches (k.Refused r.Fraction) (length (digits ++ tail)) (number_at ((digits ++ tail) ++ rest))
reach_double digits tail rest h makes =
    let more : (digits ++ tail) ++ rest ≡ digits ++ (tail ++ rest) = append_assoc digits tail rest in
    let run : Passes is_digit digits = run_passes is_digit is_digit digits (λ b e. e) h in
    let some : 0 < length digits = some_digits digits h in
    let hex : hex_len (digits ++ (tail ++ rest)) ≡ 0 = no_hex digits (tail ++ rest) run (tail_no_x tail rest makes) some in
    let n : prefix_len is_digit (digits ++ (tail ++ rest)) ≡ length digits = run_stops is_digit digits (tail ++ rest) run (tail_stops tail rest makes) in
    let m : double_len (tail ++ rest) ≡ length tail = double_found tail rest makes in
    let size : length (digits ++ tail) ≡ length digits + length tail = length-append digits tail in
    let more_tail : 0 < length tail = some_tail tail makes in
    let no : (length tail == 0) ≡ false = grind (arith, nat_tests) in
    rw more (rw hex (rw n (rw (drop_front digits (tail ++ rest)) (rw m (rw no (inr (refl, sym size)))))))
  where
    some_digits : (digits : List ℕ) → IsRun is_digit is_digit digits → 0 < length digits
    some_digits [] h = absurd h
    some_digits (d ∷ digits) h = omega arith

-- ---- what is found is a number

sound_hex : (text : List ℕ) → (hex_len text == 0) ≡ false → (2 + hex_len text ≤ length text) × IsInteger (take (2 + hex_len text) text)
sound_hex [] e = absurd cc
sound_hex (a ∷ []) e = absurd cc
sound_hex (a ∷ x ∷ more) e = by_bool ((a == 48) && is_x x)
    (λ y.
    let n : hex_len (a ∷ x ∷ more) ≡ prefix_len is_hex_digit more = rw y refl in
    let isx : is_x x ≡ true = (and_true (a == 48) (is_x x) y).1 in
    let d : a ≡ 48 = grind (arith, nat_tests) in
    let some : 0 < prefix_len is_hex_digit more = grind (arith, nat_tests) in
    let within : prefix_len is_hex_digit more ≤ length more = prefix_within is_hex_digit more in
    let size : 2 + hex_len (a ∷ x ∷ more) ≡ suc (suc (prefix_len is_hex_digit more)) = omega arith in
    let P : ℕ → Type 0 = λ i. IsInteger (take i (a ∷ x ∷ more)) in
    let head : a ∷ x ∷ take (prefix_len is_hex_digit more) more ≡ 48 ∷ x ∷ take (prefix_len is_hex_digit more) more = ap (λ b. b ∷ x ∷ take (prefix_len is_hex_digit more) more) d in
    (omega arith, subst P (sym size) (inr (x, take (prefix_len is_hex_digit more) more, head, isx, some_run is_hex_digit more some))))
    (λ y. let z : hex_len (a ∷ x ∷ more) ≡ 0 = rw y refl in let bad : (0 == 0) ≡ false = rw z at e in absurd cc)

abbrev pub Tailed : List ℕ → ℕ → Type 0
Tailed text n = (n ≤ length text) × MakesDouble (take n text)

two_makes : (a b : ℕ) → (((a == 46) || is_exponent a) && is_digit b) ≡ true → MakesDouble (a ∷ b ∷ [])
two_makes a b y =
    let both = and_true ((a == 46) || is_exponent a) (is_digit b) y in
    by_bool (a == 46)
    (λ p. let same : a ≡ 46 = grind (arith, nat_tests) in inl (b, ap (λ x. x ∷ b ∷ []) same, both.1))
    (λ p. let isx : is_exponent a ≡ true = rw p at both.0 in inr (inl (a, b, refl, isx, both.1)))

double_sound : (text : List ℕ) → (double_len text == 0) ≡ false → Tailed text (double_len text)
double_sound [] e = absurd cc
double_sound (a ∷ []) e = absurd cc
double_sound (a ∷ b ∷ []) e = by_bool (((a == 46) || is_exponent a) && is_digit b)
    (λ y. rw y (omega arith, two_makes a b y))
    (λ y. let bad : (0 == 0) ≡ false = rw y at e in absurd cc)
double_sound (a ∷ b ∷ c ∷ more) e = by_bool (((a == 46) || is_exponent a) && is_digit b)
    (λ y. rw y (omega arith, two_makes a b y))
    (λ y. by_bool (is_exponent a && (is_plus_or_minus b && is_digit c))
    (λ z.
    let one = and_true (is_exponent a) _ z in
    let two = and_true (is_plus_or_minus b) (is_digit c) one.1 in
    rw (y, z) (omega arith, inr (inr (a, b, c, refl, one.0, two.0, two.1))))
    (λ z. let bad : (0 == 0) ≡ false = rw z at (rw y at e) in absurd cc))

decimal_sound : (around : Option Quote) (x : ℕ) (more : List ℕ) → is_digit x ≡ true → (n tail : ℕ) → n ≡ prefix_len is_digit (x ∷ more) → tail ≡ double_len (drop n (x ∷ more)) → SoundAt around (x ∷ more) (decimal_at n tail)
decimal_sound around x more d n tail e f = by_bool (tail == 0)
    (λ y.
    let run = run_taken is_digit is_digit x more d d in
    let within : prefix_len is_digit (x ∷ more) ≤ length (x ∷ more) = prefix_within is_digit (x ∷ more) in
    rw y (rw e (run.0, within, inl run.1)))
    (λ y.
    let run = run_taken is_digit is_digit x more d d in
    let some = run.0 in
    let within : prefix_len is_digit (x ∷ more) ≤ length (x ∷ more) = prefix_within is_digit (x ∷ more) in
    let z : (double_len (drop n (x ∷ more)) == 0) ≡ false = rw f at y in
    let (le, makes) = double_sound (drop n (x ∷ more)) z in
    let size : length (drop n (x ∷ more)) ≡ length (x ∷ more) - n = length-drop n (x ∷ more) in
    let digits : IsRun is_digit is_digit (take n (x ∷ more)) = rw e run.1 in
    let tails : MakesDouble (take tail (drop n (x ∷ more))) = rw f makes in
    rw y (omega arith, omega arith, inr (take n (x ∷ more), take tail (drop n (x ∷ more)), take_more n tail (x ∷ more), digits, tails)))

pub number_sound : (around : Option Quote) (x : ℕ) (more : List ℕ) → is_digit x ≡ true → SoundAt around (x ∷ more) (number_at (x ∷ more))
number_sound around x more d = by_bool (hex_len (x ∷ more) == 0)
    (λ y. rw y (decimal_sound around x more d (prefix_len is_digit (x ∷ more)) (double_len (drop (prefix_len is_digit (x ∷ more)) (x ∷ more))) refl refl))
    (λ y. let h = sound_hex (x ∷ more) y in let le = h.0 in rw y (omega arith, h.0, h.1))
