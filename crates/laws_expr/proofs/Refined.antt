-- Behind a tree whose reader stops before a `>` no `>` goes on, so that the set of what goes on may be without it.
use Rattle.std.proofs.Common.{◌≡◌, ℕ, Bool, true, false, not, ◌&&◌, ◌==◌, List, [], ◌∷◌, ◌++◌, None, Some, Ok, Err, inl, inr, refl, ap, sym, ◌∙◌, subst}
use Rattle.std.proofs.lemmas.List.{append-nil}
use Rattle.dart_base.specs.declared.place.Place.{Place}
use Rattle.dart_token.specs.declared.token.Token.{Token}
use Rattle.dart_token.specs.declared.sign.Sign.TheVariants as s
use Rattle.dart_tree.specs.LeafTokens.{sign_at}
use Rattle.grammar_laws.specs.Codes.{has, Apart, Within}
use Rattle.grammar_laws.specs.Readers.{Outcome, Reader}
use Rattle.grammar_laws.specs.Fronts.{Front}
use Rattle.grammar_laws.specs.Laws.{Laws, Stops}
use Rattle.grammar_laws.proofs.Codes.{clash, not_true, only_code, has_code, or_left, or_right, or_cases, and_both, within_self}
use Rattle.grammar_laws.proofs.Joints.{one_more}
use Rattle.token_codes.specs.Codes.{class_of, these, sign_code}
use Rattle.token_codes.proofs.Only.{only_sign}
use Rattle.syntax_readers.specs.Combinators.{Open}
use Rattle.laws_expr.proofs.Open.{OpenLaws, Settled, open_spelling, after_open, half_said}
use Rattle.laws_expr.proofs.Sets.{not_false}

-- ---- a set without one code

abbrev pick : Bool → ℕ → List ℕ → List ℕ
pick true x ws = ws
pick false x ws = x ∷ ws

abbrev pub without : ℕ → List ℕ → List ℕ
without m [] = []
without m (x ∷ xs) = pick (has (m ∷ []) x) x (without m xs)

pub has_without : (m : ℕ) (xs : List ℕ) (n : ℕ) → has xs n ≡ true → has (m ∷ []) n ≡ false → has (without m xs) n ≡ true
has_without m [] n h off = absurd cc
has_without m (x ∷ xs) n h off = elim (or_cases (n == x) (has xs n) h) [
  | inl is ↦ first (only_code n x (or_left (n == x) false is))
  | inr more ↦ behind (has (m ∷ []) x) (has_without m xs n more off)
] where
  first : n ≡ x → has (pick (has (m ∷ []) x) x (without m xs)) n ≡ true
  first is = subst (λ (b : Bool). has (pick b x (without m xs)) n ≡ true) (sym off ∙ ap (has (m ∷ [])) is) (has_first (has_code n x is)) where
    has_first : has (x ∷ []) n ≡ true → has (x ∷ without m xs) n ≡ true
    has_first h = elim (or_cases (n == x) false h) [ inl e ↦ or_left (n == x) (has (without m xs) n) e | inr e ↦ absurd cc ]

  behind : (b : Bool) → has (without m xs) n ≡ true → has (pick b x (without m xs)) n ≡ true
  behind true h = h
  behind false h = or_right (n == x) (has (without m xs) n) h

pub without_has : (m : ℕ) (xs : List ℕ) (n : ℕ) → has (without m xs) n ≡ true → (has xs n ≡ true) × (has (m ∷ []) n ≡ false)
without_has m [] n h = absurd cc
without_has m (x ∷ xs) n h = by_first (λ k. without_has m xs n k) (has (m ∷ []) x) refl h where
  by_first : (has (without m xs) n ≡ true → (has xs n ≡ true) × (has (m ∷ []) n ≡ false)) → (b : Bool) → has (m ∷ []) x ≡ b → has (pick b x (without m xs)) n ≡ true → (has (x ∷ xs) n ≡ true) × (has (m ∷ []) n ≡ false)
  by_first rest true e h = let k = rest h in (or_right (n == x) (has xs n) k.0, k.1)
  by_first rest false e h = elim (or_cases (n == x) (has (without m xs) n) h) [
    | inl is ↦ (or_left (n == x) (has xs n) is, ap (has (m ∷ [])) (only_code n x (or_left (n == x) false is)) ∙ e)
    | inr more ↦ let k = rest more in (or_right (n == x) (has xs n) k.0, k.1)
  ]

pub without_within : (m : ℕ) (xs : List ℕ) → Within (without m xs) xs
without_within m xs = record { in_second = λ n h. (without_has m xs n h).0 }

pub without_apart : (m : ℕ) (xs : List ℕ) → Apart (without m xs) (m ∷ [])
without_apart m xs = record { never_both = λ n h k. clash (has (m ∷ []) n) k (without_has m xs n h).1 }

-- ---- whether a `>` is read as a half, by reading one

abbrev pub origin : Place
origin = record { unit = 0; line = 0; column = 0 }

abbrev took : {A : Type 0} → Outcome Token (Open A) → Bool
took (Ok ((x, None), rest)) = false
took (Ok ((x, Some h), rest)) = true
took (Err rest) = false

module _ {A : Type 0} {read : Reader Token (Open A)} {tokens : A → List Token} {F : A → Type 0} {front : Front Token} {first : List ℕ} {next half : A → List ℕ} (P : OpenLaws read tokens F front first next half) where
  abbrev pub Stays : A → Type 0
  Stays x = (g : Place) (ts : List Token) → read (open_spelling tokens (x, None) ++ sign_at g s.Greater ∷ ts) ≡ Ok ((x, None), sign_at g s.Greater ∷ ts)

  abbrev pub reads_half : A → Bool
  reads_half x = took (read (open_spelling tokens (x, None) ++ sign_at origin s.Greater ∷ []))

  pub half_read : (x : A) → Settled P x → reads_half x ≡ true → (g : Place) → P.Fits (x, Some g)
  half_read x (inl known) on = known
  half_read x (inr stays) on = clash (reads_half x) on (ap took (stays origin []))

  pub half_left : (x : A) → Settled P x → reads_half x ≡ false → Stays x
  half_left x (inl known) off = clash (reads_half x) (ap took (ap read (half_said tokens x origin []) ∙ P.laws.complete (x, Some origin) [] (known origin) refl)) off
  half_left x (inr stays) off = stays

  -- a tree that is read with its half is never left before a `>`
  pub never_left : {X : Type 0} (ts : List Token) (x : A) (t : Token) (rest : List Token) → has (these s.Greater) (class_of t) ≡ true → ((g : Place) → P.Fits (x, Some g)) → read ts ≡ Ok ((x, None), t ∷ rest) → X
  never_left ts x t rest is known e =
      absurd (P.laws.longest ts (x, None) t rest e (subst front (sym (half_said tokens x t.place []) ∙ ap (λ (u : Token). open_spelling tokens (x, None) ++ u ∷ []) (only_sign s.Greater t is)) (subst front (sym (append-nil (open_spelling tokens (x, Some t.place)))) (P.laws.whole (x, Some t.place) (known t.place)))))

  module _ (asks : A → Bool) (settled : (x : A) → F x → asks x ≡ true → Settled P x) where
    abbrev left : A → Bool
    left x = asks x && not (reads_half x)

    abbrev sharp_by : Bool → List ℕ → List ℕ
    sharp_by true xs = without (sign_code s.Greater) xs
    sharp_by false xs = xs

    abbrev pub sharp : A → List ℕ
    sharp x = sharp_by (left x) (next x)

    left_stays : (x : A) → F x → left x ≡ true → Stays x
    left_stays x fits e = let w = and_both (asks x) (not (reads_half x)) e in half_left x (settled x fits w.0) (not_false (reads_half x) w.1)

    complete_by : (x : A) (rest : List Token) (b : Bool) → left x ≡ b → P.Fits (x, None) → Stops class_of (sharp_by b (next x)) rest → read (open_spelling tokens (x, None) ++ rest) ≡ Ok ((x, None), rest)
    complete_by x rest false e fits stop = P.laws.complete (x, None) rest fits stop
    complete_by x [] true e fits stop = P.laws.complete (x, None) [] fits refl
    complete_by x (t ∷ rest) true e fits stop = by_code (has (these s.Greater) (class_of t)) refl where
      by_code : (c : Bool) → has (these s.Greater) (class_of t) ≡ c → read (open_spelling tokens (x, None) ++ t ∷ rest) ≡ Ok ((x, None), t ∷ rest)
      by_code true is = subst (λ (u : Token). read (open_spelling tokens (x, None) ++ u ∷ rest) ≡ Ok ((x, None), u ∷ rest)) (only_sign s.Greater t is) (left_stays x (P.none_out x fits) e t.place rest)
      by_code false is = P.laws.complete (x, None) (t ∷ rest) fits (not_true (has (next x) (class_of t)) (λ h. clash (has (without (sign_code s.Greater) (next x)) (class_of t)) (has_without (sign_code s.Greater) (next x) (class_of t) h is) stop))

    nexts_by : (x : A) (t : Token) (ts : List Token) (b : Bool) → left x ≡ b → P.Fits (x, None) → front (open_spelling tokens (x, None) ++ t ∷ ts) → has (sharp_by b (next x)) (class_of t) ≡ true
    nexts_by x t ts false e fits f = P.laws.nexts (x, None) t ts fits f
    nexts_by x t ts true e fits f = has_without (sign_code s.Greater) (next x) (class_of t) (P.laws.nexts (x, None) t ts fits f) (not_true (has (these s.Greater) (class_of t)) (λ is. never is)) where
      never : has (these s.Greater) (class_of t) ≡ true → ⊥
      never is =
          let stays : read (open_spelling tokens (x, None) ++ t ∷ []) ≡ Ok ((x, None), t ∷ []) = subst (λ (u : Token). read (open_spelling tokens (x, None) ++ u ∷ []) ≡ Ok ((x, None), u ∷ [])) (only_sign s.Greater t is) (left_stays x (P.none_out x fits) e t.place []) in
          P.laws.longest (open_spelling tokens (x, None) ++ t ∷ []) (x, None) t [] stays (one_more P.laws (open_spelling tokens (x, None)) t ts f)

    complete : (y : Open A) (rest : List Token) → P.Fits y → Stops class_of (after_open sharp half y) rest → read (open_spelling tokens y ++ rest) ≡ Ok (y, rest)
    complete (x, None) rest fits stop = complete_by x rest (left x) refl fits stop
    complete (x, Some g) rest fits stop = P.laws.complete (x, Some g) rest fits stop

    nexts : (y : Open A) (t : Token) (ts : List Token) → P.Fits y → front (open_spelling tokens y ++ t ∷ ts) → has (after_open sharp half y) (class_of t) ≡ true
    nexts (x, None) t ts fits f = nexts_by x t ts (left x) refl fits f
    nexts (x, Some g) t ts fits f = P.laws.nexts (x, Some g) t ts fits f

    pub refined_laws : Laws class_of read (open_spelling tokens) P.Fits front first (after_open sharp half) false
    refined_laws = record {
      sound = P.laws.sound;
      longest = P.laws.longest;
      fault = P.laws.fault;
      complete = complete;
      whole = P.laws.whole;
      none = P.laws.none;
      closed = P.laws.closed;
      firsts = P.laws.firsts;
      nexts = nexts;
      empties = P.laws.empties;
    }

    pub sharp_within : (x : A) → Within (sharp x) (next x)
    sharp_within x = by (left x) where
      by : (b : Bool) → Within (sharp_by b (next x)) (next x)
      by true = without_within (sign_code s.Greater) (next x)
      by false = within_self (next x)

    -- what is left before a `>` does not go on with one
    pub sharp_apart : (x : A) → asks x ≡ true → reads_half x ≡ false → Apart (sharp x) (these s.Greater)
    sharp_apart x on none = by (left x) left_is where
      left_is : left x ≡ true
      left_is = ap (λ (b : Bool). b && not (reads_half x)) on ∙ ap not none

      by : (b : Bool) → b ≡ true → Apart (sharp_by b (next x)) (these s.Greater)
      by true e = without_apart (sign_code s.Greater) (next x)
      by false e = absurd cc

    pub sharp_stops : (x : A) → asks x ≡ true → reads_half x ≡ false → has (sharp x) (sign_code s.Greater) ≡ false
    sharp_stops x on none = not_true (has (sharp x) (sign_code s.Greater)) (λ k. (sharp_apart x on none).never_both (sign_code s.Greater) k refl)

    abbrev pub refined_open : OpenLaws read tokens F front first sharp half
    refined_open = record { Fits = P.Fits; none_in = P.none_in; none_out = P.none_out; some_out = P.some_out; laws = refined_laws }
