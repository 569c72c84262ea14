-- The same reader, said in other words: other well-formedness, other fronts, larger sets, another shape of tree.
use Rattle.std.proofs.Common.{◌≡◌, ℕ, Bool, true, false, cond, inl, inr, List, [], ◌∷◌, ◌++◌, Ok, Err, refl, sym, ap, ap₂, subst, ◌∙◌}
use Rattle.grammar_laws.specs.Codes.{has, Within}
use Rattle.grammar_laws.specs.Readers.{Reader, nothing, mapped, checked}
use Rattle.grammar_laws.specs.Fronts.{Front, Empty, Made, GoodFit, Nothing}
use Rattle.grammar_laws.specs.Laws.{Stuck, Laws}
use Rattle.grammar_laws.proofs.Codes.{within_self}
use Rattle.grammar_laws.proofs.Cuts.{both_empty, gave, same_value, same_rest, same_fault, then_ok, then_err}
use Rattle.grammar_laws.proofs.Joints.{stops_within, ends}

module _ {Token : Type 0} {class_of : Token → ℕ} {A : Type 0} {p : Reader Token A} {spell : A → List Token} {Fits : A → Type 0} {front : Front Token} {first : List ℕ} {next : A → List ℕ} {e : Bool}
    (P : Laws class_of p spell Fits front first next e) where
  -- other words for the trees and the fronts, and larger sets
  pub restated : {Fits' : A → Type 0} {front' : Front Token} {first' : List ℕ} {next' : A → List ℕ} {e' : Bool} →
      ((a : A) → Fits a → Fits' a) → ((a : A) → Fits' a → Fits a) → ((ts : List Token) → front ts → front' ts) → ((ts : List Token) → front' ts → front ts) →
      Within first first' → ((a : A) → Fits a → Within (next a) (next' a)) → (e ≡ true → e' ≡ true) → Laws class_of p spell Fits' front' first' next' e'
  restated {front' = front'} forth back out into f n m = record {
    sound = λ ts a rest h. let l = P.sound ts a rest h in (forth a l.0, l.1);
    longest = λ ts a t rest h j. P.longest ts a t rest h (into (spell a ++ t ∷ []) j);
    fault = λ ts rest h. let s = P.fault ts rest h in (s.0, s.1, out s.0 s.2, λ t more is j. s.3 t more is (into (s.0 ++ t ∷ []) j));
    complete = λ a rest fits s. P.complete a rest (back a fits) (stops_within class_of (next a) _ (n a (back a fits)).in_second rest s);
    whole = λ a fits. out (spell a) (P.whole a (back a fits));
    none = out [] P.none;
    closed = λ x y j. out x (P.closed x y (into (x ++ y) j));
    firsts = λ t ts j. f.in_second (class_of t) (P.firsts t ts (into (t ∷ ts) j));
    nexts = λ a t ts fits j. (n a (back a fits)).in_second (class_of t) (P.nexts a t ts (back a fits) (into (spell a ++ t ∷ ts) j));
    empties = λ a fits h. m (P.empties a (back a fits) h);
  }

  -- other words for the trees
  pub refit : {Fits' : A → Type 0} → ((a : A) → Fits a → Fits' a) → ((a : A) → Fits' a → Fits a) → Laws class_of p spell Fits' front first next e
  refit forth back = restated forth back (λ ts j. j) (λ ts j. j) (within_self first) (λ a fits. within_self (next a)) (λ h. h)

  -- other words for the fronts
  pub refront : {front' : Front Token} → ((ts : List Token) → front ts → front' ts) → ((ts : List Token) → front' ts → front ts) → Laws class_of p spell Fits front' first next e
  refront out into = restated (λ a fits. fits) (λ a fits. fits) out into (within_self first) (λ a fits. within_self (next a)) (λ h. h)

  -- larger sets of first and next tokens
  pub wider : {first' : List ℕ} {next' : A → List ℕ} → Within first first' → ((a : A) → Fits a → Within (next a) (next' a)) → Laws class_of p spell Fits front first' next' e
  wider f n = restated (λ a fits. fits) (λ a fits. fits) (λ ts j. j) (λ ts j. j) f n (λ h. h)

  -- another reader that gives the same
  pub reread : {q : Reader Token A} → ((ts : List Token) → q ts ≡ p ts) → Laws class_of q spell Fits front first next e
  reread same = record {
    sound = λ ts a rest h. P.sound ts a rest (sym (same ts) ∙ h);
    longest = λ ts a t rest h j. P.longest ts a t rest (sym (same ts) ∙ h) j;
    fault = λ ts rest h. P.fault ts rest (sym (same ts) ∙ h);
    complete = λ a rest fits s. same (spell a ++ rest) ∙ P.complete a rest fits s;
    whole = P.whole;
    none = P.none;
    closed = P.closed;
    firsts = P.firsts;
    nexts = P.nexts;
    empties = P.empties;
  }

-- ---- another shape of tree

module _ {Token : Type 0} {class_of : Token → ℕ} {A B : Type 0} {p : Reader Token A} {spell_p : A → List Token} {Fits_p : A → Type 0} {front : Front Token} {first : List ℕ} {next_p : A → List ℕ} {e : Bool}
    (P : Laws class_of p spell_p Fits_p front first next_p e)
    (f : A → B) (spell_q : B → List Token) {Fits_q : B → Type 0} (next_q : B → List ℕ)
    (forth : (a : A) → Fits_p a → Fits_q (f a) × (spell_q (f a) ≡ spell_p a) × Within (next_p a) (next_q (f a)))
    (back : (b : B) → Fits_q b → (a : A) × Fits_p a × (f a ≡ b)) where
  spelled : (b : B) (fits : Fits_q b) → spell_q b ≡ spell_p (back b fits).0
  spelled b fits = let w = back b fits in sym (ap spell_q w.2) ∙ (forth w.0 w.1).1

  nexted : (b : B) (fits : Fits_q b) (n : ℕ) → has (next_p (back b fits).0) n ≡ true → has (next_q b) n ≡ true
  nexted b fits n h = let w = back b fits in subst (λ (y : B). has (next_q y) n ≡ true) w.2 ((forth w.0 w.1).2.in_second n h)

  pub mapped_laws : Laws class_of (mapped f p) spell_q Fits_q front first next_q e
  mapped_laws = record {
    sound = λ ts b rest h.
        let w = then_ok (p ts) (λ a rest. Ok (f a, rest)) b rest h in
        let l = P.sound ts w.0 w.1 w.2 in
        let is = same_value (f w.0) b w.1 rest w.3 in
        let r = forth w.0 l.0 in
        (subst Fits_q is r.0, l.1 ∙ ap₂ (λ (x y : List Token). x ++ y) (sym r.1 ∙ ap spell_q is) (same_rest (f w.0) b w.1 rest w.3));
    longest = λ ts b t rest h j.
        let w = then_ok (p ts) (λ a rest. Ok (f a, rest)) b (t ∷ rest) h in
        let l = P.sound ts w.0 w.1 w.2 in
        let is = same_value (f w.0) b w.1 (t ∷ rest) w.3 in
        P.longest ts w.0 t rest (w.2 ∙ ap (gave w.0) (same_rest (f w.0) b w.1 (t ∷ rest) w.3)) (subst front (ap (λ (x : List Token). x ++ t ∷ []) (sym (ap spell_q is) ∙ (forth w.0 l.0).1)) j);
    fault = λ ts rest h. elim (then_err (p ts) (λ a rest. Ok (f a, rest)) rest h) as (λ _. Stuck front ts rest) [
      | inl k ↦ P.fault ts rest k
      | inr w ↦ absurd cc
    ];
    complete = λ b rest fits s.
        let w = back b fits in
        ap (mapped f p) (ap (λ (x : List Token). x ++ rest) (spelled b fits)) ∙ rw (P.complete w.0 rest w.1 (stops_within class_of _ _ (nexted b fits) rest s)) (ap (λ (y : B). gave y rest) w.2);
    whole = λ b fits. subst front (sym (spelled b fits)) (P.whole (back b fits).0 (back b fits).1);
    none = P.none;
    closed = P.closed;
    firsts = P.firsts;
    nexts = λ b t ts fits j. nexted b fits (class_of t) (P.nexts (back b fits).0 t ts (back b fits).1 (subst front (ap (λ (x : List Token). x ++ t ∷ ts) (spelled b fits)) j));
    empties = λ b fits h. P.empties (back b fits).0 (back b fits).1 (sym (spelled b fits) ∙ h);
  }

-- what is made so of the trees that were read: no way back is asked for
pub made_laws : {Token : Type 0} {class_of : Token → ℕ} {A B : Type 0} {p : Reader Token A} {spell_p : A → List Token} {Fits_p : A → Type 0} {front : Front Token} {first : List ℕ} {next_p : A → List ℕ} {e : Bool} →
    Laws class_of p spell_p Fits_p front first next_p e → (f : A → B) (spell_q : B → List Token) (next_q : B → List ℕ) →
    ((a : A) → Fits_p a → spell_q (f a) ≡ spell_p a) → ((a : A) → Fits_p a → Within (next_p a) (next_q (f a))) → Laws class_of (mapped f p) spell_q (Made f Fits_p) front first next_q e
made_laws P f spell_q next_q said inside = mapped_laws P f spell_q next_q (λ a fits. ((a, fits, refl), said a fits, inside a fits)) (λ b fits. fits)

-- ---- what is refused where it ends

module _ {Token : Type 0} {class_of : Token → ℕ} {A : Type 0} {p : Reader Token A} {spell : A → List Token} {Fits : A → Type 0} {front : Front Token} {first : List ℕ} {next : A → List ℕ} {e : Bool}
    (P : Laws class_of p spell Fits front first next e) (good : A → Bool) where
  abbrev judged : Bool → A → Reader Token A
  judged c a rest = cond c (Ok (a, rest)) (Err rest)

  judged_ok : (c : Bool) (b a : A) (mid rest : List Token) → good b ≡ c → judged c b mid ≡ Ok (a, rest) → (good a ≡ true) × (gave b mid ≡ gave a rest)
  judged_ok true b a mid rest c h = (ap good (sym (same_value b a mid rest h)) ∙ c, h)
  judged_ok false b a mid rest c h = absurd cc

  judged_err : (c : Bool) (b : A) (mid rest : List Token) → judged c b mid ≡ Err rest → mid ≡ rest
  judged_err true b mid rest h = absurd cc
  judged_err false b mid rest h = same_fault {A = A} mid rest h

  read_ok : (ts : List Token) (a : A) (rest : List Token) → checked good p ts ≡ Ok (a, rest) → (good a ≡ true) × (p ts ≡ Ok (a, rest))
  read_ok ts a rest h =
      let w = then_ok (p ts) (λ b mid. judged (good b) b mid) a rest h in
      let g = judged_ok (good w.0) w.0 a w.1 rest refl w.3 in
      (g.0, w.2 ∙ g.1)

  pub checked_laws : Laws class_of (checked good p) spell (GoodFit Fits good) front first next e
  checked_laws = record {
    sound = λ ts a rest h. let w = read_ok ts a rest h in let l = P.sound ts a rest w.1 in ((l.0, w.0), l.1);
    longest = λ ts a t rest h j. P.longest ts a t rest (read_ok ts a (t ∷ rest) h).1 j;
    fault = λ ts rest h. elim (then_err (p ts) (λ b mid. judged (good b) b mid) rest h) as (λ _. Stuck front ts rest) [
      | inl k ↦ P.fault ts rest k
      | inr w ↦
          let is = judged_err (good w.0) w.0 w.1 rest w.3 in
          let l = P.sound ts w.0 w.1 w.2 in
          subst (Stuck front ts) is (spell w.0, l.1, P.whole w.0 l.0, ends P ts w.0 w.1 w.2)
    ];
    complete = λ a rest fits s. rw (P.complete a rest fits.0 s, fits.1) refl;
    whole = λ a fits. P.whole a fits.0;
    none = P.none;
    closed = P.closed;
    firsts = P.firsts;
    nexts = λ a t ts fits j. P.nexts a t ts fits.0 j;
    empties = λ a fits h. P.empties a fits.0 h;
  }

-- ---- nothing at all

pub nothing_laws : {Token : Type 0} {class_of : Token → ℕ} {A : Type 0} (spell : A → List Token) (first : List ℕ) (next : A → List ℕ) (e : Bool) → Laws class_of nothing spell Nothing Empty first next e
nothing_laws {A = A} spell first next e = record {
  sound = λ ts a rest h. absurd cc;
  longest = λ ts a t rest h. absurd cc;
  fault = λ ts rest h. ([], same_fault {A = A} ts rest h, refl, λ t more is f. absurd cc);
  complete = λ a rest no. absurd no;
  whole = λ a no. absurd no;
  none = refl;
  closed = λ x y h. (both_empty x y h).0;
  firsts = λ t ts h. absurd cc;
  nexts = λ a t ts no. absurd no;
  empties = λ a no. absurd no;
}
