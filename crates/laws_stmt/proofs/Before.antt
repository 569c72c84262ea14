-- The law of what may stand before a name, such as a type, which the next two tokens tell from the name alone.
use Rattle.std.proofs.Common.{◌≡◌, ℕ, Bool, true, false, ◌||◌, ◌&&◌, if◌then◌else◌, List, [], ◌∷◌, ◌++◌, Option, None, Some, Ok, Err, inl, inr, refl, ap, sym, ◌∙◌, subst, append_assoc}
use Rattle.dart_token.specs.declared.token.Token.{Token}
use Rattle.grammar_laws.specs.Codes.{has, Apart, Within, nowhere}
use Rattle.grammar_laws.specs.Readers.{Outcome, Reader, and_then, mapped, both, checked, either, starts, starts_two, when, always}
use Rattle.grammar_laws.specs.Fronts.{Front, Joint, Either, EitherFit, OneOf, BothFit, GoodFit, Made, both_spelling, option_spelling}
use Rattle.grammar_laws.specs.Laws.{Laws, Stops}
use Rattle.grammar_laws.proofs.Codes.{clash, or_cases, or_left, or_right, or_false, neither, and_both, and_true, and_false, not_true, has_cases, within_none, within_self}
use Rattle.grammar_laws.proofs.Restated.{made_laws, reread, restated, checked_laws}
use Rattle.grammar_laws.proofs.Combined.{both_laws}
use Rattle.grammar_laws.proofs.Chosen.{either_laws}
use Rattle.grammar_laws.proofs.Joints.{begins}
use Rattle.dart_syntax.specs.Phrases.{Phrase, seq_if, seq, opt}
use Rattle.token_codes.specs.Codes.{class_of, names}
use Rattle.token_codes.specs.Reads.{Reads}
use Rattle.syntax_readers.specs.Combinators.{option_where}
use Rattle.syntax_readers.specs.Types.{behind_type_name}

-- a word of its own comes, or a name with another one behind it
abbrev pub comes : List ℕ → List Token → Bool
comes words ts = starts class_of words ts || starts_two class_of names behind_type_name ts

module _ {A B : Type 0} {r : Reader Token A} {p : Phrase A} {first : List ℕ} {next : A → List ℕ} (R : Laws class_of r p.spelling p.Fits (Either (OneOf class_of names) p.front) first next false)
    {q : Reader Token B} {o : Phrase B} {first_q : List ℕ} (Q : Reads q o first_q nowhere false)
    (leaves : Option A → Bool) (free : leaves None ≡ true)
    (words : List ℕ) (kinds : Within first (words ++ names)) (off : (a : A) → p.Fits a → Apart (next a) first_q) (behind : Within first_q behind_type_name) (apart_q : Apart words first_q)
    (two : (t u : Token) (ts : List Token) → has names (class_of t) ≡ true → p.front (t ∷ u ∷ ts) → has behind_type_name (class_of u) ≡ true)
    (name_front : (t : Token) → has names (class_of t) ≡ true → o.front (t ∷ []))
    (one : (t u : Token) (ts : List Token) → has names (class_of t) ≡ true → o.front (t ∷ u ∷ ts) → ⊥) where
  abbrev may : A → Bool
  may a = leaves (Some a)

  abbrev spell : Option A × B → List Token
  spell = both_spelling (option_spelling p.spelling) o.spelling

  abbrev some_of : A × B → Option A × B
  some_of x = (Some x.0, x.1)

  abbrev none_of : B → Option A × B
  none_of b = (None, b)

  abbrev after : Option A × B → List ℕ
  after x = behind_type_name

  abbrev TypedFits : Option A × B → Type 0
  TypedFits = Made some_of (BothFit (GoodFit p.Fits may) o.Fits)

  abbrev typed_front : Front Token
  typed_front = Joint p.spelling (GoodFit p.Fits may) always (Either (OneOf class_of names) p.front) o.front

  typed_laws : Laws class_of (mapped some_of (both (checked may r) q)) spell TypedFits typed_front first after false
  typed_laws = made_laws (both_laws (checked_laws R may) Q (λ a fits. off a fits.0)) some_of spell after (λ x fits. refl) (λ x fits. within_none behind_type_name)

  bare_laws : Laws class_of (mapped none_of q) spell (Made none_of o.Fits) o.front first_q after false
  bare_laws = made_laws Q none_of spell after (λ x fits. refl) (λ x fits. within_none behind_type_name)

  no_word : (t : Token) (ts : List Token) → o.front (t ∷ ts) → has words (class_of t) ≡ false
  no_word t ts f = not_true (has words (class_of t)) (λ h. apart_q.never_both (class_of t) h (Q.firsts t ts f))

  a_name : (t : Token) → has first (class_of t) ≡ true → has words (class_of t) ≡ false → has names (class_of t) ≡ true
  a_name t h w = elim (has_cases words names (class_of t) (kinds.in_second (class_of t) h)) [
    | inl i ↦ clash (has words (class_of t)) i w
    | inr n ↦ n
  ]

  chosen_typed : (x y : List Token) → comes words (x ++ y) ≡ true → o.front x → typed_front x
  chosen_typed [] y h f = typed_laws.none
  chosen_typed (t ∷ []) [] h f = elim (or_cases (has words (class_of t)) false h) [
    | inl w ↦ clash (has words (class_of t)) w (no_word t [] f)
    | inr bad ↦ absurd cc
  ]
  chosen_typed (t ∷ []) (u ∷ y) h f = elim (or_cases (has words (class_of t)) (has names (class_of t) && has behind_type_name (class_of u)) h) [
    | inl w ↦ clash (has words (class_of t)) w (no_word t [] f)
    | inr b ↦ inl (inl (inr (t, refl, (and_both (has names (class_of t)) (has behind_type_name (class_of u)) b).0)))
  ]
  chosen_typed (t ∷ u ∷ x) y h f = elim (or_cases (has words (class_of t)) (has names (class_of t) && has behind_type_name (class_of u)) h) [
    | inl w ↦ clash (has words (class_of t)) w (no_word t (u ∷ x) f)
    | inr b ↦ absurd (one t u x (and_both (has names (class_of t)) (has behind_type_name (class_of u)) b).0 f)
  ]

  over_two : (t u : Token) (x : List Token) → Either (OneOf class_of names) p.front (t ∷ u ∷ x) → has names (class_of t) ≡ true → has behind_type_name (class_of u) ≡ true
  over_two t u x (inl (inl e)) n = absurd cc
  over_two t u x (inl (inr (v, e, k))) n = absurd cc
  over_two t u x (inr f) n = two t u x n f

  split_two : (a : A) (t u : Token) (x m more : List Token) → p.Fits a → p.spelling a ≡ m → t ∷ u ∷ x ≡ m ++ more → o.front more → has names (class_of t) ≡ true → has behind_type_name (class_of u) ≡ true
  split_two a t u x [] more fits is e f n = clash false (R.empties a fits is) refl
  split_two a t u x (s ∷ []) [] fits is e f n = absurd cc
  split_two a t u x (s ∷ []) (v ∷ more) fits is e f n = let same : v ≡ u = cc in subst (λ (w : Token). has behind_type_name (class_of w) ≡ true) same (behind.in_second (class_of v) (Q.firsts v more f))
  split_two a t u x (s ∷ v ∷ m) more fits is e f n =
      let same : v ≡ u = cc in
      let head : t ≡ s = cc in
      subst (λ (w : Token). has behind_type_name (class_of w) ≡ true) same (over_two s v m (subst (Either (OneOf class_of names) p.front) is (R.whole a fits)) (subst (λ (w : Token). has names (class_of w) ≡ true) head n))

  typed_two : (t u : Token) (x : List Token) → typed_front (t ∷ u ∷ x) → has names (class_of t) ≡ true → has behind_type_name (class_of u) ≡ true
  typed_two t u x (inl f) n = over_two t u x f n
  typed_two t u x (inr (a, more, fits, on, e, f)) n = split_two a t u x (p.spelling a) more fits.0 refl e f n

  chosen_bare : (x y : List Token) → comes words (x ++ y) ≡ false → typed_front x → o.front x
  chosen_bare [] y h f = Q.none
  chosen_bare (t ∷ []) y h f = name_front t (a_name t (typed_laws.firsts t [] f) (or_false (has words (class_of t)) (starts_two class_of names behind_type_name (t ∷ y)) h).0)
  chosen_bare (t ∷ u ∷ x) y h f =
      let w = or_false (has words (class_of t)) (has names (class_of t) && has behind_type_name (class_of u)) h in
      let n = a_name t (typed_laws.firsts t (u ∷ x) f) w.0 in
      clash (has names (class_of t) && has behind_type_name (class_of u)) (and_true (has names (class_of t)) (has behind_type_name (class_of u)) n (typed_two t u x f n)) w.1

  -- a first token of what stands before a name, and one more behind it
  tells : (t u : Token) (l : List Token) → has first (class_of t) ≡ true → (has names (class_of t) ≡ true → has behind_type_name (class_of u) ≡ true) → comes words (t ∷ u ∷ l) ≡ true
  tells t u l h on = elim (has_cases words names (class_of t) (kinds.in_second (class_of t) h)) [
    | inl w ↦ or_left (has words (class_of t)) (has names (class_of t) && has behind_type_name (class_of u)) w
    | inr n ↦ or_right (has words (class_of t)) (has names (class_of t) && has behind_type_name (class_of u)) (and_true (has names (class_of t)) (has behind_type_name (class_of u)) n (on n))
  ]

  tells_last : (t : Token) (l : List Token) → has first (class_of t) ≡ true → starts class_of first_q l ≡ true → comes words (t ∷ l) ≡ true
  tells_last t [] h on = absurd cc
  tells_last t (u ∷ l) h on = tells t u l h (λ n. behind.in_second (class_of u) on)

  begun : (a : A) (t : Token) (m : List Token) → p.Fits a → p.spelling a ≡ t ∷ m → has first (class_of t) ≡ true
  begun a t m fits is = R.firsts t m (subst (Either (OneOf class_of names) p.front) is (R.whole a fits))

  typed_tells : (a : A) (m l : List Token) → p.Fits a → p.spelling a ≡ m → starts class_of first_q l ≡ true → comes words (m ++ l) ≡ true
  typed_tells a [] l fits is on = clash false (R.empties a fits is) refl
  typed_tells a (t ∷ []) l fits is on = tells_last t l (begun a t [] fits is) on
  typed_tells a (t ∷ u ∷ m) l fits is on = tells t u (m ++ l) (begun a t (u ∷ m) fits is) (λ n. over_two t u m (subst (Either (OneOf class_of names) p.front) is (R.whole a fits)) n)

  is_typed : (x : Option A × B) (rest : List Token) → TypedFits x → Stops class_of (after x) rest → comes words (spell x ++ rest) ≡ true
  is_typed x rest ((a, b), fits, e) stop = subst (λ (y : Option A × B). comes words (spell y ++ rest) ≡ true) e
      (ap (comes words) (append_assoc (p.spelling a) (o.spelling b) rest) ∙ typed_tells a (p.spelling a) (o.spelling b ++ rest) fits.0.0 refl (begins Q b rest fits.1))

  bare_tells : (b : B) (m rest : List Token) → o.Fits b → o.spelling b ≡ m → Stops class_of behind_type_name rest → comes words (m ++ rest) ≡ false
  bare_tells b [] rest fits is stop = clash false (Q.empties b fits is) refl
  bare_tells b (t ∷ []) [] fits is stop = neither (has words (class_of t)) false (no_word t [] (subst o.front is (Q.whole b fits))) refl
  bare_tells b (t ∷ []) (u ∷ rest) fits is stop = neither (has words (class_of t)) (has names (class_of t) && has behind_type_name (class_of u)) (no_word t [] (subst o.front is (Q.whole b fits))) (and_false (has names (class_of t)) (has behind_type_name (class_of u)) stop)
  bare_tells b (t ∷ u ∷ m) rest fits is stop = neither (has words (class_of t)) (has names (class_of t) && has behind_type_name (class_of u)) (no_word t (u ∷ m) (subst o.front is (Q.whole b fits)))
      (not_true (has names (class_of t) && has behind_type_name (class_of u)) (λ h. one t u m (and_both (has names (class_of t)) (has behind_type_name (class_of u)) h).0 (subst o.front is (Q.whole b fits))))

  is_bare : (x : Option A × B) (rest : List Token) → Made none_of o.Fits x → Stops class_of (after x) rest → comes words (spell x ++ rest) ≡ false
  is_bare x rest (b, fits, e) stop = subst (λ (y : Option A × B). comes words (spell y ++ rest) ≡ false) e (bare_tells b (o.spelling b) rest fits refl stop)

  abbrev Whole : Phrase (Option A × B)
  Whole = seq_if leaves (opt p) o

  forth : (x : Option A × B) → EitherFit TypedFits (Made none_of o.Fits) x → Whole.Fits x
  forth x (inl ((a, b), fits, e)) = subst Whole.Fits e ((fits.0.0, fits.0.1), fits.1)
  forth x (inr (b, fits, e)) = subst Whole.Fits e ((tt, free), fits)

  back : (x : Option A × B) → Whole.Fits x → EitherFit TypedFits (Made none_of o.Fits) x
  back (None, b) fits = inr (b, fits.1, refl)
  back (Some a, b) fits = inl ((a, b), ((fits.0.0, fits.0.1), fits.1), refl)

  out : (ts : List Token) → Either typed_front o.front ts → Whole.front ts
  out ts (inl (inl (inl (inl e)))) = inr (None, ts, tt, free, refl, subst o.front (sym e) Q.none)
  out ts (inl (inl (inl (inr (t, e, h))))) = inr (None, ts, tt, free, refl, subst o.front (sym e) (name_front t h))
  out ts (inl (inl (inr f))) = inl f
  out ts (inl (inr (a, more, fits, on, e, f))) = inr (Some a, more, fits.0, fits.1, e, f)
  out ts (inr f) = inr (None, ts, tt, free, refl, f)

  into : (ts : List Token) → Whole.front ts → Either typed_front o.front ts
  into ts (inl f) = inl (inl (inr f))
  into ts (inr (None, more, fits, on, e, f)) = inr (subst o.front (sym e) f)
  into ts (inr (Some a, more, fits, on, e, f)) = inl (inr (a, more, (fits, on), refl, e, f))

  either_of : Laws class_of (either (comes words) (mapped some_of (both (checked may r) q)) (mapped none_of q)) spell Whole.Fits Whole.front (first ++ first_q) after false
  either_of = restated (either_laws typed_laws bare_laws (comes words) chosen_typed chosen_bare is_typed is_bare) forth back out into (within_self (first ++ first_q)) (λ x fits. within_self behind_type_name) (λ h. h)

  -- ---- the same reader, written with an option

  abbrev goes : Option A → List Token → Outcome Token (Option A × B)
  goes a mid = and_then (q mid) (λ b rest. Ok ((a, b), rest))

  abbrev tested : Bool → Option A → List Token → Outcome Token (Option A)
  tested c a rest = if c then Ok (a, rest) else Err rest

  abbrev tested_one : Bool → A → List Token → Outcome Token A
  tested_one c a rest = if c then Ok (a, rest) else Err rest

  put : (a : A) (o : Outcome Token B) → and_then o (λ b rest. Ok ((Some a, b), rest)) ≡ and_then (and_then o (λ b rest. Ok ((a, b), rest))) (λ x rest. Ok (some_of x, rest))
  put a (Ok x) = refl
  put a (Err x) = refl

  kept : (c : Bool) (a : A) (mid : List Token) → and_then (tested c (Some a) mid) goes ≡ and_then (and_then (tested_one c a mid) (λ a mid. and_then (q mid) (λ b rest. Ok ((a, b), rest)))) (λ x rest. Ok (some_of x, rest))
  kept true a mid = put a (q mid)
  kept false a mid = refl

  read_some : (x : Outcome Token A) → and_then (and_then (and_then x (λ a rest. Ok (Some a, rest))) (λ a rest. tested (leaves a) a rest)) goes ≡ and_then (and_then (and_then x (λ a rest. tested_one (may a) a rest)) (λ a mid. and_then (q mid) (λ b rest. Ok ((a, b), rest)))) (λ x rest. Ok (some_of x, rest))
  read_some (Ok (a, mid)) = kept (leaves (Some a)) a mid
  read_some (Err x) = refl

  read_none : (c : Bool) (ts : List Token) → c ≡ true → and_then (tested c None ts) goes ≡ and_then (q ts) (λ b rest. Ok (none_of b, rest))
  read_none true ts h = refl
  read_none false ts h = absurd cc

  same : (c : Bool) (ts : List Token) → and_then (and_then (when c r ts) (λ a rest. tested (leaves a) a rest)) goes ≡ (if c then mapped some_of (both (checked may r) q) ts else mapped none_of q ts)
  same true ts = read_some (r ts)
  same false ts = read_none (leaves None) ts free

  pub before_laws : Laws class_of (both (checked leaves (option_where (comes words) r)) q) spell Whole.Fits Whole.front (first ++ first_q) after false
  before_laws = reread either_of (λ ts. same (comes words ts) ts)

-- the same where all of them leave the name
module _ {A B : Type 0} {r : Reader Token A} {p : Phrase A} {first : List ℕ} {next : A → List ℕ} (R : Laws class_of r p.spelling p.Fits (Either (OneOf class_of names) p.front) first next false)
    {q : Reader Token B} {o : Phrase B} {first_q : List ℕ} (Q : Reads q o first_q nowhere false)
    (words : List ℕ) (kinds : Within first (words ++ names)) (off : (a : A) → p.Fits a → Apart (next a) first_q) (behind : Within first_q behind_type_name) (apart_q : Apart words first_q)
    (two : (t u : Token) (ts : List Token) → has names (class_of t) ≡ true → p.front (t ∷ u ∷ ts) → has behind_type_name (class_of u) ≡ true)
    (name_front : (t : Token) → has names (class_of t) ≡ true → o.front (t ∷ []))
    (one : (t u : Token) (ts : List Token) → has names (class_of t) ≡ true → o.front (t ∷ u ∷ ts) → ⊥) where
  abbrev on_with : Option A → List Token → Outcome Token (Option A × B)
  on_with a mid = and_then (q mid) (λ b rest. Ok ((a, b), rest))

  abbrev passed : Option A → List Token → Outcome Token (Option A)
  passed a rest = if always a then Ok (a, rest) else Err rest

  unchecked : (x : Outcome Token (Option A)) → and_then x on_with ≡ and_then (and_then x passed) on_with
  unchecked (Ok x) = refl
  unchecked (Err x) = refl

  pub before_any_laws : Reads (both (option_where (comes words) r) q) (seq (opt p) o) (first ++ first_q) (λ x. behind_type_name) false
  before_any_laws = reread (restated (before_laws R Q always refl words kinds off behind apart_q two name_front one) (λ x fits. (fits.0.0, fits.1)) (λ x fits. ((fits.0, refl), fits.1)) (λ ts j. j) (λ ts j. j) (within_self (first ++ first_q)) (λ x fits. within_self behind_type_name) (λ h. h)) (λ ts. unchecked (option_where (comes words) r ts))
