-- The laws of two in a row. Those named `any` let a part be empty.
use Rattle.std.proofs.Common.{◌≡◌, ℕ, Bool, true, false, ◌&&◌, inl, inr, List, [], ◌∷◌, ◌++◌, refl, sym, ap, subst, ◌∙◌, append_assoc}
use Rattle.grammar_laws.specs.Codes.{has, Apart, given, after_both}
use Rattle.grammar_laws.specs.Readers.{Reader, both_by, both, always}
use Rattle.grammar_laws.specs.Fronts.{Front, JointBy, Joint, both_spelling, BothFitBy, BothFit}
use Rattle.grammar_laws.specs.Laws.{Stops, Ends, Stuck, Laws}
use Rattle.grammar_laws.proofs.Restated.{wider}
use Rattle.grammar_laws.proofs.Codes.{within_self, within_none, within_union, not_true, has_left, has_right, has_given, and_true}
use Rattle.grammar_laws.proofs.Cuts.{both_empty, both_ok, both_err}
use Rattle.grammar_laws.proofs.Joints.{ends, stops_within, joint_after, joint_stuck, joint_closed, joint_firsts, joint_nexts}

module _ {Token : Type 0} {class_of : Token → ℕ} {A B : Type 0}
    {p : Reader Token A} {spell_p : A → List Token} {Fits_p : A → Type 0} {front_p : Front Token} {first_p : List ℕ} {next_p : A → List ℕ} {empty_p : Bool}
    (P : Laws class_of p spell_p Fits_p front_p first_p next_p empty_p)
    {q : A → Reader Token B} {spell_q : B → List Token} {Fits_q : A → B → Type 0} {front_q : A → Front Token} {first_q : List ℕ} {next_q : B → List ℕ} {empty_q : Bool}
    (Q : (a : A) → Fits_p a → Laws class_of (q a) spell_q (Fits_q a) (front_q a) first_q next_q empty_q)
    (apart : (a : A) → Fits_p a → Apart (next_p a) first_q) where
  abbrev spell : A × B → List Token
  spell = both_spelling spell_p spell_q

  abbrev front : Front Token
  front = JointBy spell_p Fits_p always front_p front_q

  abbrev next_of : A × B → List ℕ
  next_of = after_both next_p next_q empty_q

  regroup : (a b : List Token) (t : Token) (z : List Token) → front ((a ++ b) ++ t ∷ z) → front (a ++ (b ++ t ∷ z))
  regroup a b t z h = subst front (append_assoc a b (t ∷ z)) h

  stops_at : (a : A) (b : B) (m rest : List Token) → Fits_p a → Fits_q a b → spell_q b ≡ m → Stops class_of (next_of (a, b)) rest → Stops class_of (next_p a) (m ++ rest)
  stops_at a b [] rest fa fb is s = stops_within class_of (next_p a) _ (λ n h. has_right (next_q b) _ n (has_given empty_q (next_p a) n ((Q a fa).empties b fb is) h)) rest s
  stops_at a b (t ∷ m) rest fa fb is s =
      let begins : has first_q (class_of t) ≡ true = (Q a fa).firsts t m (subst (front_q a) is ((Q a fa).whole b fb)) in
      not_true (has (next_p a) (class_of t)) (λ n. (apart a fa).never_both (class_of t) n begins)

  stops_q : (a : A) (b : B) (rest : List Token) → Stops class_of (next_of (a, b)) rest → Stops class_of (next_q b) rest
  stops_q a b rest s = stops_within class_of (next_q b) _ (λ n h. has_left (next_q b) _ n h) rest s

  shut : (a : A) → Fits_p a → (x y : List Token) → front_q a (x ++ y) → front_q a x
  shut a fits = (Q a fits).closed

  begun : (a : A) → Fits_p a → (t : Token) (ts : List Token) → front_q a (t ∷ ts) → has first_q (class_of t) ≡ true
  begun a fits = (Q a fits).firsts

  off : (a : A) → Fits_p a → always a ≡ true → Apart (next_p a) first_q
  off a fits may = apart a fits

  pub both_by_any_laws : Laws class_of (both_by p q) (both_spelling spell_p spell_q) (BothFitBy Fits_p Fits_q) (JointBy spell_p Fits_p always front_p front_q) (first_p ++ given empty_p first_q) (after_both next_p next_q empty_q) (empty_p && empty_q)
  both_by_any_laws = record {
    sound = λ ts x rest h.
        let w = both_ok p q ts x rest h in
        let l = P.sound ts x.0 w.0 w.1 in
        let r = (Q x.0 l.0).sound w.0 x.1 rest w.2 in
        ((l.0, r.0), l.1 ∙ ap (λ (m : List Token). spell_p x.0 ++ m) r.1 ∙ sym (append_assoc (spell_p x.0) (spell_q x.1) rest));
    longest = λ ts x t rest h j.
        let w = both_ok p q ts x (t ∷ rest) h in
        let l = P.sound ts x.0 w.0 w.1 in
        let r = (Q x.0 l.0).sound w.0 x.1 (t ∷ rest) w.2 in
        let ended = subst (Ends front_p (spell_p x.0)) r.1 (ends P ts x.0 w.0 w.1) in
        (Q x.0 l.0).longest w.0 x.1 t rest w.2 (joint_after P always front_q (λ _. first_q) shut begun off x.0 (spell_q x.1) t rest l.0 ended (regroup (spell_p x.0) (spell_q x.1) t [] j));
    fault = λ ts rest h.
        elim (both_err p q ts rest h) as (λ _. Stuck front ts rest) [
          | inl e ↦ joint_stuck P always front_q (λ _. first_q) shut begun off ts rest e
          | inr w ↦
              let l = P.sound ts w.0 w.1 w.2 in
              let r = (Q w.0 l.0).fault w.1 rest w.3 in
              let ended = subst (Ends front_p (spell_p w.0)) r.1 (ends P ts w.0 w.1 w.2) in (
                spell_p w.0 ++ r.0,
                l.1 ∙ ap (λ (m : List Token). spell_p w.0 ++ m) r.1 ∙ sym (append_assoc (spell_p w.0) r.0 rest),
                inr (w.0, r.0, l.0, refl, refl, r.2),
                λ t more is j. r.3 t more is (joint_after P always front_q (λ _. first_q) shut begun off w.0 r.0 t more l.0 (subst (λ (m : List Token). Ends front_p (spell_p w.0) (r.0 ++ m)) is ended) (regroup (spell_p w.0) r.0 t [] j)),
              )
        ];
    complete = λ x rest fits stops.
        let l = P.complete x.0 (spell_q x.1 ++ rest) fits.0 (stops_at x.0 x.1 (spell_q x.1) rest fits.0 fits.1 refl stops) in
        let r = (Q x.0 fits.0).complete x.1 rest fits.1 (stops_q x.0 x.1 rest stops) in
        ap (both_by p q) (append_assoc (spell_p x.0) (spell_q x.1) rest) ∙ rw (l, r) refl;
    whole = λ x fits. inr (x.0, spell_q x.1, fits.0, refl, refl, (Q x.0 fits.0).whole x.1 fits.1);
    none = inl P.none;
    closed = λ x y j. joint_closed P always front_q (λ _. first_q) shut begun off x y j;
    firsts = λ t ts j. joint_firsts P always front_q (λ _. first_q) shut begun off first_q (λ empty a fits. within_self first_q) t ts j;
    nexts = λ x t ts fits j.
        elim (joint_nexts P always front_q (λ _. first_q) shut begun off x.0 (spell_q x.1) t ts fits.0 ((Q x.0 fits.0).whole x.1 fits.1) (λ s z e. refl) (regroup (spell_p x.0) (spell_q x.1) t ts j)) [
          | inl h ↦ has_left (next_q x.1) _ (class_of t) ((Q x.0 fits.0).nexts x.1 t ts fits.1 h.0)
          | inr e ↦ has_right (next_q x.1) _ (class_of t) (has_given empty_q (next_p x.0) (class_of t) ((Q x.0 fits.0).empties x.1 fits.1 e.0) e.1)
        ];
    empties = λ x fits e.
        let s = both_empty (spell_p x.0) (spell_q x.1) e in
        and_true empty_p _ (P.empties x.0 fits.0 s.0) ((Q x.0 fits.0).empties x.1 fits.1 s.1);
  }

-- the same where the second does not depend on the first
pub both_any_laws : {Token : Type 0} {class_of : Token → ℕ} {A B : Type 0}
    {p : Reader Token A} {spell_p : A → List Token} {Fits_p : A → Type 0} {front_p : Front Token} {first_p : List ℕ} {next_p : A → List ℕ} {empty_p : Bool} →
    Laws class_of p spell_p Fits_p front_p first_p next_p empty_p →
    {q : Reader Token B} {spell_q : B → List Token} {Fits_q : B → Type 0} {front_q : Front Token} {first_q : List ℕ} {next_q : B → List ℕ} {empty_q : Bool} →
    Laws class_of q spell_q Fits_q front_q first_q next_q empty_q →
    ((a : A) → Fits_p a → Apart (next_p a) first_q) →
    Laws class_of (both p q) (both_spelling spell_p spell_q) (BothFit Fits_p Fits_q) (Joint spell_p Fits_p always front_p front_q) (first_p ++ given empty_p first_q) (after_both next_p next_q empty_q) (empty_p && empty_q)
both_any_laws P Q apart = both_by_any_laws P (λ a fits. Q) apart

-- two in a row, neither of them empty, where the second may depend on what the first read
pub both_by_laws : {Token : Type 0} {class_of : Token → ℕ} {A B : Type 0}
    {p : Reader Token A} {spell_p : A → List Token} {Fits_p : A → Type 0} {front_p : Front Token} {first_p : List ℕ} {next_p : A → List ℕ} →
    Laws class_of p spell_p Fits_p front_p first_p next_p false →
    {q : A → Reader Token B} {spell_q : B → List Token} {Fits_q : A → B → Type 0} {front_q : A → Front Token} {first_q : List ℕ} {next_q : B → List ℕ} →
    ((a : A) → Fits_p a → Laws class_of (q a) spell_q (Fits_q a) (front_q a) first_q next_q false) →
    ((a : A) → Fits_p a → Apart (next_p a) first_q) →
    Laws class_of (both_by p q) (both_spelling spell_p spell_q) (BothFitBy Fits_p Fits_q) (JointBy spell_p Fits_p always front_p front_q) first_p (λ x. next_q x.1) false
both_by_laws {first_p = first_p} P {next_q = next_q} Q apart =
    wider (both_by_any_laws P Q apart) (within_union (within_self first_p) (within_none first_p)) (λ x fits. within_union (within_self (next_q x.1)) (within_none (next_q x.1)))

-- two in a row, neither of them empty
pub both_laws : {Token : Type 0} {class_of : Token → ℕ} {A B : Type 0}
    {p : Reader Token A} {spell_p : A → List Token} {Fits_p : A → Type 0} {front_p : Front Token} {first_p : List ℕ} {next_p : A → List ℕ} →
    Laws class_of p spell_p Fits_p front_p first_p next_p false →
    {q : Reader Token B} {spell_q : B → List Token} {Fits_q : B → Type 0} {front_q : Front Token} {first_q : List ℕ} {next_q : B → List ℕ} →
    Laws class_of q spell_q Fits_q front_q first_q next_q false →
    ((a : A) → Fits_p a → Apart (next_p a) first_q) →
    Laws class_of (both p q) (both_spelling spell_p spell_q) (BothFit Fits_p Fits_q) (Joint spell_p Fits_p always front_p front_q) first_p (λ x. next_q x.1) false
both_laws P Q apart = both_by_laws P (λ a fits. Q) apart
