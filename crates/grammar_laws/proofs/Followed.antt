-- The laws of a first and a second where it may follow, and of a part that may be absent.
-- The law named `any` lets the first be empty.
use Rattle.std.proofs.Common.{◌≡◌, ℕ, Bool, true, false, List, [], ◌∷◌, ◌++◌, Option, Some, None, Ok, refl, sym, ap, subst, ◌∙◌}
use Rattle.grammar_laws.specs.Codes.{has, Apart, Within, given, after_option, after_followed}
use Rattle.grammar_laws.specs.Readers.{Reader, starts, option, followed, never}
use Rattle.grammar_laws.specs.Fronts.{Front, Joint, option_spelling, OptionFit, MayFit, NeedFit, joined_spelling, FollowedFit}
use Rattle.grammar_laws.specs.Laws.{Stops, Laws}
use Rattle.grammar_laws.proofs.Codes.{clash, within_self, within_none, within_union, within_option, within_followed}
use Rattle.grammar_laws.proofs.Joints.{begins}
use Rattle.grammar_laws.proofs.Restated.{refit, wider}
use Rattle.grammar_laws.proofs.Continued.{absent, present, when_ok, when_err, continued_any_laws}

module _ {Token : Type 0} {class_of : Token → ℕ} {A B : Type 0}
    {p : Reader Token A} {spell_p : A → List Token} {Fits_p : A → Type 0} {front_p : Front Token} {first_p : List ℕ} {next_p : A → List ℕ} {empty_p : Bool}
    (P : Laws class_of p spell_p Fits_p front_p first_p next_p empty_p)
    {q : Reader Token B} {spell_q : B → List Token} {Fits_q : B → Type 0} {front_q : Front Token} {first_q : List ℕ} {next_q : B → List ℕ}
    (Q : Laws class_of q spell_q Fits_q front_q first_q next_q false)
    (may : A → Bool) (apart : (a : A) → Fits_p a → may a ≡ true → Apart (next_p a) first_q) where
  forth : (a : A) (o : Option B) → NeedFit Fits_q false (may a) o → MayFit Fits_q (may a) o
  forth a None fits = tt
  forth a (Some b) fits = fits

  back : (a : A) (o : Option B) → MayFit Fits_q (may a) o → NeedFit Fits_q false (may a) o
  back a None fits = refl
  back a (Some b) fits = fits

  pub followed_any_laws : Laws class_of (followed class_of may first_q p q) (joined_spelling spell_p spell_q) (FollowedFit Fits_p may Fits_q) (Joint spell_p Fits_p may front_p front_q) (first_p ++ given empty_p first_q) (after_followed next_p may first_q next_q) empty_p
  followed_any_laws = refit (continued_any_laws P Q never may (λ a h. absurd cc) apart) (λ x fits. (fits.0, forth x.0 x.1 fits.1)) (λ x fits. (fits.0, back x.0 x.1 fits.1))

-- the same behind a first that is never empty
pub followed_laws : {Token : Type 0} {class_of : Token → ℕ} {A B : Type 0}
    {p : Reader Token A} {spell_p : A → List Token} {Fits_p : A → Type 0} {front_p : Front Token} {first_p : List ℕ} {next_p : A → List ℕ} →
    Laws class_of p spell_p Fits_p front_p first_p next_p false →
    {q : Reader Token B} {spell_q : B → List Token} {Fits_q : B → Type 0} {front_q : Front Token} {first_q : List ℕ} {next_q : B → List ℕ} →
    Laws class_of q spell_q Fits_q front_q first_q next_q false →
    (may : A → Bool) → ((a : A) → Fits_p a → may a ≡ true → Apart (next_p a) first_q) →
    Laws class_of (followed class_of may first_q p q) (joined_spelling spell_p spell_q) (FollowedFit Fits_p may Fits_q) (Joint spell_p Fits_p may front_p front_q) first_p (after_followed next_p may first_q next_q) false
followed_laws {first_p = first_p} {next_p = next_p} P {first_q = first_q} {next_q = next_q} Q may apart =
    wider (followed_any_laws P Q may apart) (within_union (within_self first_p) (within_none first_p)) (λ x fits. within_self (after_followed next_p may first_q next_q x))

module _ {Token : Type 0} {class_of : Token → ℕ} {B : Type 0}
    {q : Reader Token B} {spell : B → List Token} {Fits : B → Type 0} {front : Front Token} {first : List ℕ} {next : B → List ℕ}
    (Q : Laws class_of q spell Fits front first next false) where
  abbrev read : Reader Token (Option B)
  read = option class_of first q

  sound : (ts : List Token) (x : Option B) (rest : List Token) → read ts ≡ Ok (x, rest) → OptionFit Fits x × (ts ≡ option_spelling spell x ++ rest)
  sound ts x rest h =
      elim (when_ok (starts class_of first ts) q ts x rest h) [
        | absent none is off ↦ (subst (OptionFit Fits) (sym none) tt, is ∙ ap (λ (o : Option B). option_spelling spell o ++ rest) (sym none))
        | present b some on e ↦
            let l = Q.sound ts b rest e in
            (subst (OptionFit Fits) (sym some) l.0, l.1 ∙ ap (λ (o : Option B). option_spelling spell o ++ rest) (sym some))
      ]

  longest : (ts : List Token) (x : Option B) (t : Token) (rest : List Token) → read ts ≡ Ok (x, t ∷ rest) → front (option_spelling spell x ++ t ∷ []) → ⊥
  longest ts x t rest h j =
      elim (when_ok (starts class_of first ts) q ts x (t ∷ rest) h) as (λ _. ⊥) [
        | absent none is off ↦
            let plain : front (t ∷ []) = subst front (ap (λ (o : Option B). option_spelling spell o ++ t ∷ []) none) j in
            clash (starts class_of first ts) (ap (starts class_of first) is ∙ Q.firsts t [] plain) off
        | present b some on e ↦ Q.longest ts b t rest e (subst front (ap (λ (o : Option B). option_spelling spell o ++ t ∷ []) some) j)
      ]

  complete : (x : Option B) (rest : List Token) → OptionFit Fits x → Stops class_of (after_option first next x) rest → read (option_spelling spell x ++ rest) ≡ Ok (x, rest)
  complete None rest fits s = rw s refl
  complete (Some b) rest fits s = rw (begins Q b rest fits, Q.complete b rest fits s) refl

  whole : (x : Option B) → OptionFit Fits x → front (option_spelling spell x)
  whole None fits = Q.none
  whole (Some b) fits = Q.whole b fits

  nexts : (x : Option B) (t : Token) (ts : List Token) → OptionFit Fits x → front (option_spelling spell x ++ t ∷ ts) → has (after_option first next x) (class_of t) ≡ true
  nexts None t ts fits j = Q.firsts t ts j
  nexts (Some b) t ts fits j = Q.nexts b t ts fits j

  pub option_laws : Laws class_of (option class_of first q) (option_spelling spell) (OptionFit Fits) front first (after_option first next) true
  option_laws = record {
    sound = sound;
    longest = longest;
    fault = λ ts rest h. Q.fault ts rest (when_err (starts class_of first ts) q ts rest h).1;
    complete = complete;
    whole = whole;
    none = Q.none;
    closed = Q.closed;
    firsts = Q.firsts;
    nexts = nexts;
    empties = λ x fits e. refl;
  }

-- ---- where one set of codes holds all that may go on

pub followed_plain_laws : {Token : Type 0} {class_of : Token → ℕ} {A B : Type 0}
    {p : Reader Token A} {spell_p : A → List Token} {Fits_p : A → Type 0} {front_p : Front Token} {first_p : List ℕ} {next_p : A → List ℕ} →
    Laws class_of p spell_p Fits_p front_p first_p next_p false →
    {q : Reader Token B} {spell_q : B → List Token} {Fits_q : B → Type 0} {front_q : Front Token} {first_q : List ℕ} {next_q : B → List ℕ} →
    Laws class_of q spell_q Fits_q front_q first_q next_q false →
    (may : A → Bool) {codes : List ℕ} → ((a : A) → Fits_p a → Within (next_p a) codes) → Within first_q codes → ((b : B) → Fits_q b → Within (next_q b) codes) → ((a : A) → Fits_p a → may a ≡ true → Apart (next_p a) first_q) →
    Laws class_of (followed class_of may first_q p q) (joined_spelling spell_p spell_q) (FollowedFit Fits_p may Fits_q) (Joint spell_p Fits_p may front_p front_q) first_p (λ x. codes) false
followed_plain_laws {Fits_p = Fits_p} {first_p = first_p} {next_p = next_p} P {Fits_q = Fits_q} {first_q = first_q} {next_q = next_q} Q may {codes = codes} under_p own under_q apart =
    wider (followed_laws P Q may apart) (within_self first_p) (within_followed next_p may first_q codes next_q Fits_p Fits_q under_p own under_q)

pub option_plain_laws : {Token : Type 0} {class_of : Token → ℕ} {B : Type 0} {q : Reader Token B} {spell : B → List Token} {Fits : B → Type 0} {front : Front Token} {first : List ℕ} {next : B → List ℕ} →
    Laws class_of q spell Fits front first next false → {codes : List ℕ} → Within first codes → ((b : B) → Fits b → Within (next b) codes) → Laws class_of (option class_of first q) (option_spelling spell) (OptionFit Fits) front first (λ x. codes) true
option_plain_laws {Fits = Fits} {first = first} {next = next} Q {codes = codes} own under = wider (option_laws Q) (within_self first) (within_option first codes next Fits own under)
