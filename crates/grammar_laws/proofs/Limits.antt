-- Readers with a bound on their turns: where a list of tokens has room for no more, the bound is its length.
use Rattle.std.proofs.Common.{◌≡◌, ℕ, ◌≤◌, Bool, List, [], ◌∷◌, ◌++◌, length, ap, ◌∙◌, arith}
use Rattle.std.proofs.lemmas.List.{length-append}
use Rattle.grammar_laws.specs.Readers.{Reader}
use Rattle.grammar_laws.specs.Fronts.{Front}
use Rattle.grammar_laws.specs.Laws.{Laws}

module _ {Token : Type 0} {class_of : Token → ℕ} {A : Type 0} {p : ℕ → Reader Token A} {spell : A → List Token} {Fits_at : ℕ → A → Type 0} {front_at : ℕ → Front Token} {first : List ℕ} {next : A → List ℕ} {e : Bool}
    (P : (n : ℕ) → Laws class_of (p n) spell (Fits_at n) (front_at n) first next e)
    (Fits : A → Type 0) (front : Front Token)
    (fits_in : (n : ℕ) (a : A) → Fits a → length (spell a) ≤ n → Fits_at n a) (fits_out : (n : ℕ) (a : A) → Fits_at n a → Fits a)
    (front_in : (n : ℕ) (ts : List Token) → front ts → length ts ≤ n → front_at n ts) (front_out : (n : ℕ) (ts : List Token) → front_at n ts → front ts) where
  up_to_one : (ts before more : List Token) (t : Token) → ts ≡ before ++ t ∷ more → length (before ++ t ∷ []) ≤ length ts
  up_to_one ts before more t is = omega (arith, length-append before (t ∷ []), length-append before (t ∷ more), ap length is)

  pub limit_laws : Laws class_of (λ ts. p (length ts) ts) spell Fits front first next e
  limit_laws = record {
    sound = λ ts a rest h. let l = (P (length ts)).sound ts a rest h in (fits_out (length ts) a l.0, l.1);
    longest = λ ts a t rest h j.
        let l = (P (length ts)).sound ts a (t ∷ rest) h in
        (P (length ts)).longest ts a t rest h (front_in (length ts) (spell a ++ t ∷ []) j (up_to_one ts (spell a) rest t l.1));
    fault = λ ts rest h.
        let s = (P (length ts)).fault ts rest h in
        (s.0, s.1, front_out (length ts) s.0 s.2, λ t more is j. s.3 t more is (front_in (length ts) (s.0 ++ t ∷ []) j (up_to_one ts s.0 more t (s.1 ∙ ap (λ (m : List Token). s.0 ++ m) is))));
    complete = λ a rest fits s. (P (length (spell a ++ rest))).complete a rest (fits_in (length (spell a ++ rest)) a fits (omega (arith, length-append (spell a) rest))) s;
    whole = λ a fits. front_out (length (spell a)) (spell a) ((P (length (spell a))).whole a (fits_in (length (spell a)) a fits (omega arith)));
    none = front_out 0 [] (P 0).none;
    closed = λ x y j. front_out (length (x ++ y)) x ((P (length (x ++ y))).closed x y (front_in (length (x ++ y)) (x ++ y) j (omega arith)));
    firsts = λ t ts j. (P (length (t ∷ ts))).firsts t ts (front_in (length (t ∷ ts)) (t ∷ ts) j (omega arith));
    nexts = λ a t ts fits j.
        let n : ℕ = length (spell a ++ t ∷ ts) in
        (P n).nexts a t ts (fits_in n a fits (omega (arith, length-append (spell a) (t ∷ ts)))) (front_in n (spell a ++ t ∷ ts) j (omega arith));
    empties = λ a fits h. (P (length (spell a))).empties a (fits_in (length (spell a)) a fits (omega arith)) h;
  }
