-- The law of a reader that is asked only where one of these tokens comes: of its trees and fronts those that they begin are left.
use Rattle.std.proofs.Common.{◌≡◌, ℕ, Bool, true, false, if◌then◌else◌, List, [], ◌∷◌, ◌++◌, Ok, Err, ◌⊎◌, inl, inr, refl, ap, sym, ◌∙◌}
use Rattle.grammar_laws.specs.Codes.{has}
use Rattle.grammar_laws.specs.Readers.{Reader, starts, nothing, either}
use Rattle.grammar_laws.specs.Fronts.{Front}
use Rattle.grammar_laws.specs.Laws.{Laws, Stuck}
use Rattle.grammar_laws.proofs.Codes.{clash}
use Rattle.grammar_laws.proofs.Cuts.{both_empty, same_fault}

module _ {Token : Type 0} {class_of : Token → ℕ} {A : Type 0} {q : Reader Token A} {spell : A → List Token} {Fits : A → Type 0} {front : Front Token} {first : List ℕ} {next : A → List ℕ} (Q : Laws class_of q spell Fits front first next false) (codes : List ℕ) where
  abbrev pub guarded : Reader Token A
  guarded = either (starts class_of codes) q nothing

  abbrev pub GuardedFit : A → Type 0
  GuardedFit a = Fits a × (starts class_of codes (spell a) ≡ true)

  abbrev pub guarded_front : Front Token
  guarded_front ts = (ts ≡ []) ⊎ (front ts × (starts class_of codes ts ≡ true))

  abbrev tested : Bool → Reader Token A
  tested c ts = if c then q ts else nothing ts

  kept : (m rest : List Token) → (m ≡ [] → ⊥) → starts class_of codes (m ++ rest) ≡ true → starts class_of codes m ≡ true
  kept [] rest some e = absurd (some refl)
  kept (t ∷ m) rest some e = e

  still : (m rest : List Token) → starts class_of codes m ≡ true → starts class_of codes (m ++ rest) ≡ true
  still [] rest e = absurd cc
  still (t ∷ m) rest e = e

  begun : (m rest : List Token) → front m → starts class_of codes (m ++ rest) ≡ true → guarded_front m
  begun [] rest f e = inl refl
  begun (t ∷ m) rest f e = inr (f, e)

  filled : (m : List Token) (t : Token) (z : List Token) → guarded_front (m ++ t ∷ z) → front (m ++ t ∷ z) × (starts class_of codes (m ++ t ∷ z) ≡ true)
  filled m t z (inl e) = let bad : t ∷ z ≡ [] = (both_empty m (t ∷ z) e).1 in absurd cc
  filled m t z (inr f) = f

  sound : (ts : List Token) (c : Bool) → starts class_of codes ts ≡ c → (a : A) (rest : List Token) → tested c ts ≡ Ok (a, rest) → GuardedFit a × (ts ≡ spell a ++ rest)
  sound ts true on a rest h = let l = Q.sound ts a rest h in ((l.0, kept (spell a) rest (λ e. clash false (Q.empties a l.0 e) refl) (ap (starts class_of codes) (sym l.1) ∙ on)), l.1)
  sound ts false off a rest h = absurd cc

  longest : (ts : List Token) (c : Bool) → (a : A) (t : Token) (rest : List Token) → tested c ts ≡ Ok (a, t ∷ rest) → guarded_front (spell a ++ t ∷ []) → ⊥
  longest ts true a t rest h f = Q.longest ts a t rest h (filled (spell a) t [] f).0
  longest ts false a t rest h f = absurd cc

  fault : (ts : List Token) (c : Bool) → starts class_of codes ts ≡ c → (rest : List Token) → tested c ts ≡ Err rest → Stuck guarded_front ts rest
  fault ts true on rest h =
      let k = Q.fault ts rest h in (
        k.0,
        k.1,
        begun k.0 rest k.2 (ap (starts class_of codes) (sym k.1) ∙ on),
        λ t more is f. k.3 t more is (filled k.0 t [] f).0,
      )
  fault ts false off rest h =
      let same : ts ≡ rest = same_fault {A = A} ts rest h in (
        [],
        same,
        inl refl,
        λ t more is f. clash (has codes (class_of t)) (filled [] t [] f).1 (ap (starts class_of codes) (sym is ∙ sym same) ∙ off),
      )

  closes : (x y : List Token) → guarded_front (x ++ y) → guarded_front x
  closes x y (inl e) = inl (both_empty x y e).0
  closes x y (inr f) = begun x y (Q.closed x y f.0) f.1

  pub guarded_laws : Laws class_of guarded spell GuardedFit guarded_front codes next false
  guarded_laws = record {
    sound = λ ts a rest h. sound ts (starts class_of codes ts) refl a rest h;
    longest = λ ts a t rest h f. longest ts (starts class_of codes ts) a t rest h f;
    fault = λ ts rest h. fault ts (starts class_of codes ts) refl rest h;
    complete = λ a rest fits stop. ap (λ (c : Bool). tested c (spell a ++ rest)) (still (spell a) rest fits.1) ∙ Q.complete a rest fits.0 stop;
    whole = λ a fits. inr (Q.whole a fits.0, fits.1);
    none = inl refl;
    closed = closes;
    firsts = λ t ts f. (filled [] t ts f).1;
    nexts = λ a t ts fits f. Q.nexts a t ts fits.0 (filled (spell a) t ts f).0;
    empties = λ a fits e. Q.empties a fits.0 e;
  }
