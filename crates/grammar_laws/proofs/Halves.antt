-- The laws of operators of two tokens whose first token is an operator too.
use Rattle.std.proofs.Common.{◌≡◌, ℕ, Bool, true, false, ◌⊎◌, inl, inr, List, Some, None, refl, sym}
use Rattle.std.proofs.lemmas.List.{append-nil}
use Rattle.grammar_laws.specs.Codes.{Apart, Within, after_followed_by}
use Rattle.grammar_laws.specs.Readers.{Reader, mapped}
use Rattle.grammar_laws.specs.Fronts.{Front, JointBy, GoodFit, joined_spelling, ContinuedFitBy}
use Rattle.grammar_laws.specs.Laws.{Laws}
use Rattle.grammar_laws.specs.Halves.{Pending, no_half, whole_part, with_none, strict, by_half, behind_half, taken, either_spelling, LeftFit, RightFit, TakenFit, after_either}
use Rattle.grammar_laws.proofs.Codes.{clash, within_self}
use Rattle.grammar_laws.proofs.Restated.{mapped_laws, checked_laws}
use Rattle.grammar_laws.proofs.Continued.{continued_by_laws}

-- ---- where the half has no use

module _ {Token : Type 0} {class_of : Token → ℕ} {A H : Type 0} (spell : A → List Token) (spell_h : H → List Token) {p : Reader Token (Pending A H)} {Fits : Pending A H → Type 0} {front : Front Token} {first : List ℕ} {next : Pending A H → List ℕ} {e : Bool}
    (P : Laws class_of p (joined_spelling spell spell_h) Fits front first next e) where
  abbrev FitAlone : A → Type 0
  FitAlone a = Fits (with_none a)

  abbrev next_alone : A → List ℕ
  next_alone a = next (with_none a)

  alone_fit : (x : Pending A H) → GoodFit Fits no_half x → FitAlone (whole_part x) × (spell (whole_part x) ≡ joined_spelling spell spell_h x) × Within (next x) (next_alone (whole_part x))
  alone_fit (a, None) fits = (fits.0, sym (append-nil (spell a)), within_self (next (with_none a)))
  alone_fit (a, Some h) fits = clash false fits.1 refl

  pub strict_laws : Laws class_of (strict p) spell (λ a. Fits (with_none a)) front first (λ a. next (with_none a)) e
  strict_laws = mapped_laws (checked_laws P no_half) whole_part spell next_alone alone_fit (λ a fits. (with_none a, (fits, refl), refl))

-- ---- the level that takes the half

module _ {Token : Type 0} {class_of : Token → ℕ} {A H : Type 0}
    {p : Reader Token (Pending A H)} {spell_p : Pending A H → List Token} {Fits_p : Pending A H → Type 0} {front_p : Front Token} {first_p : List ℕ} {next_p : Pending A H → List ℕ} (P : Laws class_of p spell_p Fits_p front_p first_p next_p false)
    {B : Type 0} {s : Reader Token B} {spell_s : B → List Token} {Fits_s : B → Type 0} {front_s : Front Token} {first_s : List ℕ} {next_s : B → List ℕ} (S : Laws class_of s spell_s Fits_s front_s first_s next_s false)
    {C : Type 0} {r : Reader Token C} {spell_r : C → List Token} {Fits_r : C → Type 0} {front_r : Front Token} {first_r : List ℕ} {next_r : C → List ℕ} (R : Laws class_of r spell_r Fits_r front_r first_r next_r false)
    (needs may : Pending A H → Bool) (allowed : (x : Pending A H) → needs x ≡ true → may x ≡ true)
    (apart_half : (a : A) (h : H) → Fits_p (a, Some h) → may (a, Some h) ≡ true → Apart (next_p (a, Some h)) first_s)
    (apart_none : (a : A) → Fits_p (a, None) → may (a, None) ≡ true → Apart (next_p (a, None)) first_r) where
  abbrev spell : B ⊎ C → List Token
  spell = either_spelling spell_s spell_r

  abbrev next : B ⊎ C → List ℕ
  next = after_either next_s next_r

  left_laws : Laws class_of (mapped (λ b. inl b) s) spell (LeftFit Fits_s) front_s first_s next false
  left_laws = mapped_laws S (λ b. inl b) spell next (λ b fits. (fits, refl, within_self (next_s b))) back where
    back : (x : B ⊎ C) → LeftFit Fits_s x → (b : B) × Fits_s b × (inl b ≡ x)
    back (inl b) fits = (b, fits, refl)
    back (inr c) fits = absurd fits

  right_laws : Laws class_of (mapped (λ c. inr c) r) spell (RightFit Fits_r) front_r first_r next false
  right_laws = mapped_laws R (λ c. inr c) spell next (λ c fits. (fits, refl, within_self (next_r c))) back where
    back : (x : B ⊎ C) → RightFit Fits_r x → (c : C) × Fits_r c × (inr c ≡ x)
    back (inl b) fits = absurd fits
    back (inr c) fits = (c, fits, refl)

  behind_laws : (x : Pending A H) → Fits_p x → Laws class_of (behind_half s r x) spell (TakenFit Fits_s Fits_r x) (by_half front_s front_r x) (by_half first_s first_r x) next false
  behind_laws (a, None) fits = right_laws
  behind_laws (a, Some h) fits = left_laws

  apart : (x : Pending A H) → Fits_p x → may x ≡ true → Apart (next_p x) (by_half first_s first_r x)
  apart (a, None) fits on = apart_none a fits on
  apart (a, Some h) fits on = apart_half a h fits on

  pub taken_laws : Laws class_of (taken class_of needs may first_s first_r p s r) (joined_spelling spell_p (either_spelling spell_s spell_r)) (ContinuedFitBy Fits_p needs may (TakenFit Fits_s Fits_r))
      (JointBy spell_p Fits_p may front_p (by_half front_s front_r)) first_p (after_followed_by next_p may (by_half first_s first_r) (λ x. after_either next_s next_r)) false
  taken_laws = continued_by_laws P behind_laws needs may allowed apart
