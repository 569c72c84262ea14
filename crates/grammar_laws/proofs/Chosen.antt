-- The laws of a choice by what comes next.
use Rattle.std.proofs.Common.{◌≡◌, ℕ, Bool, true, false, cond, ◌||◌, ◌&&◌, ◌⊎◌, inl, inr, List, [], ◌∷◌, ◌++◌, Ok, Err, refl, sym, ap, subst, ◌∙◌, append_assoc}
use Rattle.std.proofs.lemmas.List.{append-nil}
use Rattle.grammar_laws.specs.Codes.{has, Apart, Within}
use Rattle.grammar_laws.specs.Readers.{Reader, starts, starts_two, either, by_first, by_two}
use Rattle.grammar_laws.specs.Fronts.{Front, Either, EitherFit}
use Rattle.grammar_laws.specs.Laws.{Stops, Stuck, Laws}
use Rattle.grammar_laws.proofs.Codes.{not_true, clash, cases_bool, or_left, or_right, and_both, has_left, has_right}
use Rattle.grammar_laws.proofs.Joints.{begins}

-- any test: it tells which of the two fronts a list can begin, and, of a tree that does not go on, whether it is of the first kind
module _ {Token : Type 0} {class_of : Token → ℕ} {A : Type 0} {spell : A → List Token} {next : A → List ℕ}
    {p : Reader Token A} {Fits_p : A → Type 0} {front_p : Front Token} {first_p : List ℕ} {empty_p : Bool} (P : Laws class_of p spell Fits_p front_p first_p next empty_p)
    {q : Reader Token A} {Fits_q : A → Type 0} {front_q : Front Token} {first_q : List ℕ} {empty_q : Bool} (Q : Laws class_of q spell Fits_q front_q first_q next empty_q)
    (test : List Token → Bool)
    (chosen_p : (x y : List Token) → test (x ++ y) ≡ true → front_q x → front_p x)
    (chosen_q : (x y : List Token) → test (x ++ y) ≡ false → front_p x → front_q x)
    (is_p : (a : A) (rest : List Token) → Fits_p a → Stops class_of (next a) rest → test (spell a ++ rest) ≡ true)
    (is_q : (a : A) (rest : List Token) → Fits_q a → Stops class_of (next a) rest → test (spell a ++ rest) ≡ false) where
  abbrev Fit : A → Type 0
  Fit = EitherFit Fits_p Fits_q

  abbrev front : Front Token
  front = Either front_p front_q

  abbrev by : Bool → Reader Token A
  by c ts = cond c (p ts) (q ts)

  in_p : (x y : List Token) → test (x ++ y) ≡ true → front x → front_p x
  in_p x y c (inl h) = h
  in_p x y c (inr h) = chosen_p x y c h

  in_q : (x y : List Token) → test (x ++ y) ≡ false → front x → front_q x
  in_q x y c (inl h) = chosen_q x y c h
  in_q x y c (inr h) = h

  sound : (ts : List Token) (a : A) (rest : List Token) (c : Bool) → by c ts ≡ Ok (a, rest) → Fit a × (ts ≡ spell a ++ rest)
  sound ts a rest true e = let l = P.sound ts a rest e in (inl l.0, l.1)
  sound ts a rest false e = let l = Q.sound ts a rest e in (inr l.0, l.1)

  parted : (ts : List Token) (c : Bool) (x : List Token) (t : Token) (rest : List Token) → test ts ≡ c → ts ≡ x ++ t ∷ rest → test ((x ++ t ∷ []) ++ rest) ≡ c
  parted ts c x t rest h e = ap test (append_assoc x (t ∷ []) rest ∙ sym e) ∙ h

  longest : (ts : List Token) (a : A) (t : Token) (rest : List Token) (c : Bool) → test ts ≡ c → by c ts ≡ Ok (a, t ∷ rest) → front (spell a ++ t ∷ []) → ⊥
  longest ts a t rest true c e h =
      let l = P.sound ts a (t ∷ rest) e in
      P.longest ts a t rest e (in_p (spell a ++ t ∷ []) rest (parted ts true (spell a) t rest c l.1) h)
  longest ts a t rest false c e h =
      let l = Q.sound ts a (t ∷ rest) e in
      Q.longest ts a t rest e (in_q (spell a ++ t ∷ []) rest (parted ts false (spell a) t rest c l.1) h)

  fault : (ts rest : List Token) (c : Bool) → test ts ≡ c → by c ts ≡ Err rest → Stuck front ts rest
  fault ts rest true c e =
      let s = P.fault ts rest e in
      (s.0, s.1, inl s.2, λ t more is h. s.3 t more is (in_p (s.0 ++ t ∷ []) more (parted ts true s.0 t more c (s.1 ∙ ap (λ (m : List Token). s.0 ++ m) is)) h))
  fault ts rest false c e =
      let s = Q.fault ts rest e in
      (s.0, s.1, inr s.2, λ t more is h. s.3 t more is (in_q (s.0 ++ t ∷ []) more (parted ts false s.0 t more c (s.1 ∙ ap (λ (m : List Token). s.0 ++ m) is)) h))

  complete : (a : A) (rest : List Token) → Fit a → Stops class_of (next a) rest → either test p q (spell a ++ rest) ≡ Ok (a, rest)
  complete a rest (inl fits) s = rw (is_p a rest fits s) (P.complete a rest fits s)
  complete a rest (inr fits) s = rw (is_q a rest fits s) (Q.complete a rest fits s)

  whole : (a : A) → Fit a → front (spell a)
  whole a (inl fits) = inl (P.whole a fits)
  whole a (inr fits) = inr (Q.whole a fits)

  closed : (x y : List Token) → front (x ++ y) → front x
  closed x y (inl h) = inl (P.closed x y h)
  closed x y (inr h) = inr (Q.closed x y h)

  firsts : (t : Token) (ts : List Token) → front (t ∷ ts) → has (first_p ++ first_q) (class_of t) ≡ true
  firsts t ts (inl h) = has_left first_p _ (class_of t) (P.firsts t ts h)
  firsts t ts (inr h) = has_right first_p _ (class_of t) (Q.firsts t ts h)

  nexts_by : (a : A) (t : Token) (ts : List Token) → Fit a → front (spell a ++ t ∷ ts) → (has (next a) (class_of t) ≡ true) ⊎ (has (next a) (class_of t) ≡ false) → has (next a) (class_of t) ≡ true
  nexts_by a t ts fits h (inl there) = there
  nexts_by a t ts (inl fits) h (inr stop) = P.nexts a t ts fits (in_p (spell a ++ t ∷ ts) [] (ap test (append-nil (spell a ++ t ∷ ts)) ∙ is_p a (t ∷ ts) fits stop) h)
  nexts_by a t ts (inr fits) h (inr stop) = Q.nexts a t ts fits (in_q (spell a ++ t ∷ ts) [] (ap test (append-nil (spell a ++ t ∷ ts)) ∙ is_q a (t ∷ ts) fits stop) h)

  nexts : (a : A) (t : Token) (ts : List Token) → Fit a → front (spell a ++ t ∷ ts) → has (next a) (class_of t) ≡ true
  nexts a t ts fits h = nexts_by a t ts fits h (cases_bool (has (next a) (class_of t)))

  empties : (a : A) → Fit a → spell a ≡ [] → (empty_p || empty_q) ≡ true
  empties a (inl fits) e = or_left empty_p _ (P.empties a fits e)
  empties a (inr fits) e = or_right empty_p _ (Q.empties a fits e)

  pub either_laws : Laws class_of (either test p q) spell (EitherFit Fits_p Fits_q) (Either front_p front_q) (first_p ++ first_q) next (empty_p || empty_q)
  either_laws = record {
    sound = λ ts a rest e. sound ts a rest (test ts) e;
    longest = λ ts a t rest e h. longest ts a t rest (test ts) refl e h;
    fault = λ ts rest e. fault ts rest (test ts) refl e;
    complete = complete;
    whole = whole;
    none = inl P.none;
    closed = closed;
    firsts = firsts;
    nexts = nexts;
    empties = empties;
  }

-- by the next token
module _ {Token : Type 0} {class_of : Token → ℕ} {A : Type 0} {spell : A → List Token} {next : A → List ℕ}
    {p : Reader Token A} {Fits_p : A → Type 0} {front_p : Front Token} {first_p : List ℕ} (P : Laws class_of p spell Fits_p front_p first_p next false)
    {q : Reader Token A} {Fits_q : A → Type 0} {front_q : Front Token} {first_q : List ℕ} (Q : Laws class_of q spell Fits_q front_q first_q next false)
    (apart : Apart first_p first_q) where
  goes_p : (x y : List Token) → starts class_of first_p (x ++ y) ≡ true → front_q x → front_p x
  goes_p [] y h f = P.none
  goes_p (t ∷ x) y h f = absurd (apart.never_both (class_of t) h (Q.firsts t x f))

  goes_q : (x y : List Token) → starts class_of first_p (x ++ y) ≡ false → front_p x → front_q x
  goes_q [] y h f = Q.none
  goes_q (t ∷ x) y h f = clash (has first_p (class_of t)) (P.firsts t x f) h

  not_both : (ts : List Token) → starts class_of first_q ts ≡ true → starts class_of first_p ts ≡ false
  not_both [] h = absurd cc
  not_both (t ∷ ts) h = not_true (has first_p (class_of t)) (λ i. apart.never_both (class_of t) i h)

  pub by_first_laws : Laws class_of (by_first class_of first_p p q) spell (EitherFit Fits_p Fits_q) (Either front_p front_q) (first_p ++ first_q) next false
  by_first_laws = either_laws P Q (starts class_of first_p) goes_p goes_q (λ a rest fits s. begins P a rest fits) (λ a rest fits s. not_both (spell a ++ rest) (begins Q a rest fits))

-- by the next two tokens, where both may begin alike
module _ {Token : Type 0} {class_of : Token → ℕ} {A : Type 0} {spell : A → List Token} {next : A → List ℕ}
    {p : Reader Token A} {Fits_p : A → Type 0} {front_p : Front Token} {first_p : List ℕ} (P : Laws class_of p spell Fits_p front_p first_p next false)
    {q : Reader Token A} {Fits_q : A → Type 0} {front_q : Front Token} {first_q : List ℕ} (Q : Laws class_of q spell Fits_q front_q first_q next false)
    (codes seconds : List ℕ)
    (p_one : (t : Token) → has codes (class_of t) ≡ true → front_p (t ∷ [])) (q_one : (t : Token) → front_p (t ∷ []) → front_q (t ∷ []))
    (p_two : (t u : Token) (ts : List Token) → front_p (t ∷ u ∷ ts) → (has codes (class_of t) && has seconds (class_of u)) ≡ true)
    (q_two : (t u : Token) (ts : List Token) → front_q (t ∷ u ∷ ts) → (has codes (class_of t) && has seconds (class_of u)) ≡ false)
    (p_long : (a : A) (t : Token) → Fits_p a → spell a ≡ t ∷ [] → ⊥)
    (q_alone : (a : A) (t : Token) → Fits_q a → spell a ≡ t ∷ [] → has codes (class_of t) ≡ true → Within seconds (next a)) where
  abbrev test : List Token → Bool
  test = starts_two class_of codes seconds

  two_p : (x y : List Token) → test (x ++ y) ≡ true → front_q x → front_p x
  two_p [] y h f = P.none
  two_p (t ∷ []) [] h f = absurd cc
  two_p (t ∷ []) (u ∷ y) h f = p_one t (and_both (has codes (class_of t)) _ h).0
  two_p (t ∷ u ∷ x) y h f = clash (has codes (class_of t) && has seconds (class_of u)) h (q_two t u x f)

  two_q : (x y : List Token) → test (x ++ y) ≡ false → front_p x → front_q x
  two_q [] y h f = Q.none
  two_q (t ∷ []) y h f = q_one t f
  two_q (t ∷ u ∷ x) y h f = clash (has codes (class_of t) && has seconds (class_of u)) (p_two t u x f) h

  of_p : (a : A) (rest m : List Token) → Fits_p a → spell a ≡ m → test (m ++ rest) ≡ true
  of_p a rest [] fits e = clash false (P.empties a fits e) refl
  of_p a rest (t ∷ []) fits e = absurd (p_long a t fits e)
  of_p a rest (t ∷ u ∷ m) fits e = p_two t u m (subst front_p e (P.whole a fits))

  of_q : (a : A) (rest m : List Token) → Fits_q a → Stops class_of (next a) rest → spell a ≡ m → test (m ++ rest) ≡ false
  of_q a rest [] fits stop e = clash false (Q.empties a fits e) refl
  of_q a [] (t ∷ []) fits stop e = refl
  of_q a (u ∷ rest) (t ∷ []) fits stop e = not_true (has codes (class_of t) && has seconds (class_of u)) (λ h.
      let b = and_both (has codes (class_of t)) _ h in
      clash (has (next a) (class_of u)) ((q_alone a t fits e b.0).in_second (class_of u) b.1) stop)
  of_q a rest (t ∷ u ∷ m) fits stop e = q_two t u m (subst front_q e (Q.whole a fits))

  pub by_two_laws : Laws class_of (by_two class_of codes seconds p q) spell (EitherFit Fits_p Fits_q) (Either front_p front_q) (first_p ++ first_q) next false
  by_two_laws = either_laws P Q test two_p two_q (λ a rest fits stop. of_p a rest (spell a) fits refl) (λ a rest fits stop. of_q a rest (spell a) fits stop refl)
