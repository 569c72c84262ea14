-- The laws of a first, and a second where it may or must follow. The law named `any` lets the first be empty.
use Rattle.std.proofs.Common.{◌≡◌, ℕ, Bool, true, false, ◌||◌, ◌&&◌, inl, inr, List, [], ◌∷◌, ◌++◌, Option, Some, None, Ok, Err, refl, sym, ap, subst, ◌∙◌, append_assoc}
use Rattle.std.proofs.lemmas.List.{append-nil}
use Rattle.grammar_laws.specs.Codes.{has, Apart, Within, given, after_followed_by, after_followed}
use Rattle.grammar_laws.specs.Readers.{Reader, starts, when, continued_by, continued}
use Rattle.grammar_laws.specs.Fronts.{Front, JointBy, Joint, option_spelling, NeedFit, joined_spelling, ContinuedFitBy, ContinuedFit}
use Rattle.grammar_laws.specs.Laws.{Stops, Ends, Stuck, Laws}
use Rattle.grammar_laws.proofs.Codes.{within_self, within_none, within_union, not_true, clash, cases_bool, or_right, or_cases, or_false, neither, and_true, and_both, and_false, has_left, has_right, has_given}
use Rattle.grammar_laws.proofs.Cuts.{both_empty, gave, same_value, same_rest, then_ok, then_err, both_ok, both_err}
use Rattle.grammar_laws.proofs.Joints.{ends, begins, stops_within, joint_second, joint_after, joint_stuck, joint_closed, joint_firsts, joint_nexts}
use Rattle.grammar_laws.proofs.Restated.{wider}

-- ---- what was read where a part may be absent

pub data Rest {Token B : Type 0} (c : Bool) (q : Reader Token B) (mid : List Token) (x : Option B) (rest : List Token) : Type 0 where
  absent : x ≡ None → mid ≡ rest → c ≡ false → Rest c q mid x rest
  present : (b : B) → x ≡ Some b → c ≡ true → q mid ≡ Ok (b, rest) → Rest c q mid x rest

pub when_ok : {Token B : Type 0} (c : Bool) (q : Reader Token B) (mid : List Token) (x : Option B) (rest : List Token) → when c q mid ≡ Ok (x, rest) → Rest c q mid x rest
when_ok true q mid x rest e =
    let w = then_ok (q mid) (λ b rest. Ok (Some b, rest)) x rest e in
    let is = same_value (Some w.0) x w.1 rest w.3 in
    present w.0 (sym is) refl (w.2 ∙ ap (gave w.0) (same_rest (Some w.0) x w.1 rest w.3))
when_ok false q mid x rest e = absent (sym (same_value None x mid rest e)) (same_rest None x mid rest e) refl

pub when_err : {Token B : Type 0} (c : Bool) (q : Reader Token B) (mid rest : List Token) → when c q mid ≡ Err rest → (c ≡ true) × (q mid ≡ Err rest)
when_err true q mid rest e = elim (then_err (q mid) (λ b rest. Ok (Some b, rest)) rest e) [
  | inl h ↦ (refl, h)
  | inr w ↦ absurd cc
]
when_err false q mid rest e = absurd cc

module _ {Token : Type 0} {class_of : Token → ℕ} {A B : Type 0}
    {p : Reader Token A} {spell_p : A → List Token} {Fits_p : A → Type 0} {front_p : Front Token} {first_p : List ℕ} {next_p : A → List ℕ} {empty_p : Bool}
    (P : Laws class_of p spell_p Fits_p front_p first_p next_p empty_p)
    {q : A → Reader Token B} {spell_q : B → List Token} {Fits_q : A → B → Type 0} {front_q : A → Front Token} {first_q : A → List ℕ} {next_q : A → B → List ℕ}
    (Q : (a : A) → Fits_p a → Laws class_of (q a) spell_q (Fits_q a) (front_q a) (first_q a) (next_q a) false)
    (needs may : A → Bool) (allowed : (a : A) → needs a ≡ true → may a ≡ true) (apart : (a : A) → Fits_p a → may a ≡ true → Apart (next_p a) (first_q a))
    (union : List ℕ) (under : empty_p ≡ true → (a : A) → Fits_p a → Within (first_q a) union) where
  abbrev spell : A × Option B → List Token
  spell = joined_spelling spell_p spell_q

  abbrev Fit : A × Option B → Type 0
  Fit = ContinuedFitBy Fits_p needs may Fits_q

  abbrev front : Front Token
  front = JointBy spell_p Fits_p may front_p front_q

  abbrev after : A → Option B → List ℕ
  after a o = after_followed_by next_p may first_q next_q (a, o)

  abbrev goes : A → List Token → Bool
  goes a ts = needs a || (may a && starts class_of (first_q a) ts)

  abbrev read : Reader Token (A × Option B)
  read = continued_by class_of needs may first_q p q

  regroup : (a b : List Token) (t : Token) (z : List Token) → front ((a ++ b) ++ t ∷ z) → front (a ++ (b ++ t ∷ z))
  regroup a b t z h = subst front (append_assoc a b (t ∷ z)) h

  shut : (a : A) → Fits_p a → (x y : List Token) → front_q a (x ++ y) → front_q a x
  shut a fits = (Q a fits).closed

  begun : (a : A) → Fits_p a → (t : Token) (ts : List Token) → front_q a (t ∷ ts) → has (first_q a) (class_of t) ≡ true
  begun a fits = (Q a fits).firsts

  going : (a : A) (ts : List Token) → goes a ts ≡ true → may a ≡ true
  going a ts h = elim (or_cases (needs a) _ h) [ inl n ↦ allowed a n | inr c ↦ (and_both (may a) _ c).0 ]

  stops_p : (a : A) (rest : List Token) → Stops class_of (after a None) rest → Stops class_of (next_p a) rest
  stops_p a rest s = stops_within class_of (next_p a) _ (λ n h. has_left (next_p a) _ n h) rest s

  stops_first : (a : A) (rest : List Token) → Stops class_of (after a None) rest → (may a && starts class_of (first_q a) rest) ≡ false
  stops_first a rest s = elim (cases_bool (may a)) [
    | inl m ↦ and_false (may a) _ (stops_within class_of (first_q a) _ (λ n h. has_right (next_p a) _ n (has_given (may a) (first_q a) n m h)) rest s)
    | inr m ↦ rw m refl
  ]

  stops_before : (a : A) (m : List Token) → Fits_p a → may a ≡ true → starts class_of (first_q a) m ≡ true → Stops class_of (next_p a) m
  stops_before a [] fits on h = absurd cc
  stops_before a (t ∷ m) fits on h = not_true (has (next_p a) (class_of t)) (λ n. (apart a fits on).never_both (class_of t) n h)

  abbrev made : A → Option B → A × Option B
  made a x = (a, x)

  sound : (ts : List Token) (x : A × Option B) (rest : List Token) → read ts ≡ Ok (x, rest) → Fit x × (ts ≡ spell x ++ rest)
  sound ts x rest h =
      let w = both_ok p (λ a ts. when (goes a ts) (q a) ts) ts x rest h in
      let l = P.sound ts x.0 w.0 w.1 in
      elim (when_ok (goes x.0 w.0) (q x.0) w.0 x.1 rest w.2) [
        | absent none is off ↦ (
          (l.0, subst (NeedFit (Fits_q x.0) (needs x.0) (may x.0)) (sym none) (or_false (needs x.0) _ off).0),
          l.1 ∙ ap (λ (m : List Token). spell_p x.0 ++ m) is ∙ ap (λ (m : List Token). m ++ rest) (sym (append-nil (spell_p x.0))) ∙ ap (λ (o : Option B). (spell_p x.0 ++ option_spelling spell_q o) ++ rest) (sym none),
        )
        | present b some on e ↦
            let r = (Q x.0 l.0).sound w.0 b rest e in (
              (l.0, subst (NeedFit (Fits_q x.0) (needs x.0) (may x.0)) (sym some) (going x.0 w.0 on, r.0)),
              l.1 ∙ ap (λ (m : List Token). spell_p x.0 ++ m) r.1 ∙ sym (append_assoc (spell_p x.0) (spell_q b) rest) ∙ ap (λ (o : Option B). (spell_p x.0 ++ option_spelling spell_q o) ++ rest) (sym some),
            )
      ]

  longest : (ts : List Token) (x : A × Option B) (t : Token) (rest : List Token) → read ts ≡ Ok (x, t ∷ rest) → front (spell x ++ t ∷ []) → ⊥
  longest ts x t rest h j =
      let w = both_ok p (λ a ts. when (goes a ts) (q a) ts) ts x (t ∷ rest) h in
      let l = P.sound ts x.0 w.0 w.1 in
      elim (when_ok (goes x.0 w.0) (q x.0) w.0 x.1 (t ∷ rest) w.2) as (λ _. ⊥) [
        | absent none is off ↦
            let plain : front (spell_p x.0 ++ t ∷ []) = subst front (ap (λ (o : Option B). (spell_p x.0 ++ option_spelling spell_q o) ++ t ∷ []) none ∙ ap (λ (m : List Token). m ++ t ∷ []) (append-nil (spell_p x.0))) j in
            let r = joint_second P may front_q first_q shut begun apart x.0 t [] l.0 (ends P ts x.0 w.0 w.1 t rest is) plain in
            let first : starts class_of (first_q x.0) w.0 ≡ true = ap (starts class_of (first_q x.0)) is ∙ (Q x.0 l.0).firsts t [] r.0 in
            clash (may x.0 && starts class_of (first_q x.0) w.0) (and_true (may x.0) _ r.1 first) (or_false (needs x.0) _ off).1
        | present b some on e ↦
            let r = (Q x.0 l.0).sound w.0 b (t ∷ rest) e in
            let ended = subst (Ends front_p (spell_p x.0)) r.1 (ends P ts x.0 w.0 w.1) in
            let j' : front ((spell_p x.0 ++ spell_q b) ++ t ∷ []) = subst front (ap (λ (o : Option B). (spell_p x.0 ++ option_spelling spell_q o) ++ t ∷ []) some) j in
            (Q x.0 l.0).longest w.0 b t rest e (joint_after P may front_q first_q shut begun apart x.0 (spell_q b) t rest l.0 ended (regroup (spell_p x.0) (spell_q b) t [] j'))
      ]

  fault : (ts rest : List Token) → read ts ≡ Err rest → Stuck front ts rest
  fault ts rest h =
      elim (both_err p (λ a ts. when (goes a ts) (q a) ts) ts rest h) as (λ _. Stuck front ts rest) [
        | inl e ↦ joint_stuck P may front_q first_q shut begun apart ts rest e
        | inr w ↦
            let v = when_err (goes w.0 w.1) (q w.0) w.1 rest w.3 in
            let l = P.sound ts w.0 w.1 w.2 in
            let r = (Q w.0 l.0).fault w.1 rest v.1 in
            let ended = subst (Ends front_p (spell_p w.0)) r.1 (ends P ts w.0 w.1 w.2) in (
              spell_p w.0 ++ r.0,
              l.1 ∙ ap (λ (m : List Token). spell_p w.0 ++ m) r.1 ∙ sym (append_assoc (spell_p w.0) r.0 rest),
              inr (w.0, r.0, l.0, going w.0 w.1 v.0, refl, r.2),
              λ t more is j. r.3 t more is (joint_after P may front_q first_q shut begun apart w.0 r.0 t more l.0 (subst (λ (m : List Token). Ends front_p (spell_p w.0) (r.0 ++ m)) is ended) (regroup (spell_p w.0) r.0 t [] j)),
            )
      ]

  complete : (a : A) (o : Option B) (rest : List Token) → Fits_p a → NeedFit (Fits_q a) (needs a) (may a) o → Stops class_of (after a o) rest → read (spell (made a o) ++ rest) ≡ Ok (made a o, rest)
  complete a None rest fa fo stops =
      let off : goes a rest ≡ false = neither (needs a) _ fo (stops_first a rest stops) in
      ap (λ (m : List Token). read (m ++ rest)) (append-nil (spell_p a)) ∙ rw (P.complete a rest fa (stops_p a rest stops), off) refl
  complete a (Some b) rest fa fo stops =
      let begun = begins (Q a fa) b rest fo.1 in
      let on : goes a (spell_q b ++ rest) ≡ true = or_right (needs a) _ (and_true (may a) _ fo.0 begun) in
      ap read (append_assoc (spell_p a) (spell_q b) rest) ∙ rw (P.complete a (spell_q b ++ rest) fa (stops_before a _ fa fo.0 begun), on, (Q a fa).complete b rest fo.1 stops) refl

  whole : (a : A) (o : Option B) → Fits_p a → NeedFit (Fits_q a) (needs a) (may a) o → front (spell_p a ++ option_spelling spell_q o)
  whole a None fa fo = inl (subst front_p (sym (append-nil (spell_p a))) (P.whole a fa))
  whole a (Some b) fa fo = inr (a, spell_q b, fa, fo.0, refl, (Q a fa).whole b fo.1)

  nexts : (a : A) (o : Option B) (t : Token) (ts : List Token) → Fits_p a → NeedFit (Fits_q a) (needs a) (may a) o → front ((spell_p a ++ option_spelling spell_q o) ++ t ∷ ts) → has (after a o) (class_of t) ≡ true
  nexts a None t ts fa fo j =
      elim (joint_nexts P may front_q first_q shut begun apart a [] t ts fa (Q a fa).none (λ s z e. absurd cc) (regroup (spell_p a) [] t ts j)) [
        | inl h ↦ has_right (next_p a) _ (class_of t) (has_given (may a) (first_q a) (class_of t) h.1 ((Q a fa).firsts t ts h.0))
        | inr e ↦ has_left (next_p a) _ (class_of t) e.1
      ]
  nexts a (Some b) t ts fa fo j =
      elim (joint_nexts P may front_q first_q shut begun apart a (spell_q b) t ts fa ((Q a fa).whole b fo.1) (λ s z e. fo.0) (regroup (spell_p a) (spell_q b) t ts j)) [
        | inl h ↦ (Q a fa).nexts b t ts fo.1 h.0
        | inr e ↦ clash false ((Q a fa).empties b fo.1 e.0) refl
      ]

  pub continued_by_any_laws : Laws class_of (continued_by class_of needs may first_q p q) (joined_spelling spell_p spell_q) (ContinuedFitBy Fits_p needs may Fits_q) (JointBy spell_p Fits_p may front_p front_q) (first_p ++ given empty_p union) (after_followed_by next_p may first_q next_q) empty_p
  continued_by_any_laws = record {
    sound = sound;
    longest = longest;
    fault = fault;
    complete = λ x rest fits s. complete x.0 x.1 rest fits.0 fits.1 s;
    whole = λ x fits. whole x.0 x.1 fits.0 fits.1;
    none = inl P.none;
    closed = λ x y j. joint_closed P may front_q first_q shut begun apart x y j;
    firsts = λ t ts j. joint_firsts P may front_q first_q shut begun apart union under t ts j;
    nexts = λ x t ts fits j. nexts x.0 x.1 t ts fits.0 fits.1 j;
    empties = λ x fits e. P.empties x.0 fits.0 (both_empty (spell_p x.0) (option_spelling spell_q x.1) e).0;
  }

-- the same behind a first that is never empty
module _ {Token : Type 0} {class_of : Token → ℕ} {A B : Type 0}
    {p : Reader Token A} {spell_p : A → List Token} {Fits_p : A → Type 0} {front_p : Front Token} {first_p : List ℕ} {next_p : A → List ℕ}
    (P : Laws class_of p spell_p Fits_p front_p first_p next_p false)
    {q : A → Reader Token B} {spell_q : B → List Token} {Fits_q : A → B → Type 0} {front_q : A → Front Token} {first_q : A → List ℕ} {next_q : A → B → List ℕ}
    (Q : (a : A) → Fits_p a → Laws class_of (q a) spell_q (Fits_q a) (front_q a) (first_q a) (next_q a) false)
    (needs may : A → Bool) (allowed : (a : A) → needs a ≡ true → may a ≡ true) (apart : (a : A) → Fits_p a → may a ≡ true → Apart (next_p a) (first_q a)) where
  -- a first that is never empty tells nothing of what begins the second
  pub continued_by_laws : Laws class_of (continued_by class_of needs may first_q p q) (joined_spelling spell_p spell_q) (ContinuedFitBy Fits_p needs may Fits_q) (JointBy spell_p Fits_p may front_p front_q) first_p (after_followed_by next_p may first_q next_q) false
  continued_by_laws = wider (continued_by_any_laws P Q needs may allowed apart [] (λ empty. absurd cc)) (within_union (within_self first_p) (within_none first_p)) (λ x fits. within_self (after_followed_by next_p may first_q next_q x))

-- the same where the second does not depend on the first
module _ {Token : Type 0} {class_of : Token → ℕ} {A B : Type 0}
    {p : Reader Token A} {spell_p : A → List Token} {Fits_p : A → Type 0} {front_p : Front Token} {first_p : List ℕ} {next_p : A → List ℕ}
    {q : Reader Token B} {spell_q : B → List Token} {Fits_q : B → Type 0} {front_q : Front Token} {first_q : List ℕ} {next_q : B → List ℕ} where
  pub continued_any_laws : {empty_p : Bool} → Laws class_of p spell_p Fits_p front_p first_p next_p empty_p → Laws class_of q spell_q Fits_q front_q first_q next_q false →
      (needs may : A → Bool) → ((a : A) → needs a ≡ true → may a ≡ true) → ((a : A) → Fits_p a → may a ≡ true → Apart (next_p a) first_q) →
      Laws class_of (continued class_of needs may first_q p q) (joined_spelling spell_p spell_q) (ContinuedFit Fits_p needs may Fits_q) (Joint spell_p Fits_p may front_p front_q) (first_p ++ given empty_p first_q) (after_followed next_p may first_q next_q) empty_p
  continued_any_laws P Q needs may allowed apart = continued_by_any_laws P (λ a fits. Q) needs may allowed apart first_q (λ empty a fits. within_self first_q)

  pub continued_laws : Laws class_of p spell_p Fits_p front_p first_p next_p false → Laws class_of q spell_q Fits_q front_q first_q next_q false →
      (needs may : A → Bool) → ((a : A) → needs a ≡ true → may a ≡ true) → ((a : A) → Fits_p a → may a ≡ true → Apart (next_p a) first_q) →
      Laws class_of (continued class_of needs may first_q p q) (joined_spelling spell_p spell_q) (ContinuedFit Fits_p needs may Fits_q) (Joint spell_p Fits_p may front_p front_q) first_p (after_followed next_p may first_q next_q) false
  continued_laws P Q needs may allowed apart = continued_by_laws P (λ a fits. Q) needs may allowed apart
