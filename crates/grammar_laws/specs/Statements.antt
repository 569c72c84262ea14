-- The laws that the crate's public functions carry, over well-formedness and fronts that a test decides.
use Rattle.std.specs.Prelude.{◌≡◌, ◌↔◌, ℕ, Bool, true, false, List, ◌∷◌, ◌++◌, Result}
use Rattle.std.specs.List.{flat_map}
use Rattle.grammar_laws.specs.Codes.{Apart, nowhere, after_followed, after_list}
use Rattle.grammar_laws.specs.Readers.{Reader, both, followed, always, many, tried}
use Rattle.grammar_laws.specs.Fronts.{Joint, Several, Either, both_spelling, BothFit, joined_spelling, FollowedFit, EachFit, FirstFit}
use Rattle.grammar_laws.specs.Laws.{Laws}
use Rattle.grammar_laws.specs.Wholes.{answer, IsAnswer}

-- what the test accepts
abbrev pub Passes : {A : Type 0} → (A → Bool) → A → Type 0
Passes test a = test a ≡ true

-- the laws of a reader whose well-formedness and fronts are tests
abbrev pub TestedLaws : {T : Type 0} → (T → ℕ) → {A : Type 0} → Reader T A → (A → List T) → (A → Bool) → (List T → Bool) → List ℕ → (A → List ℕ) → Bool → Type 0
TestedLaws class_of read spelling fits front first next empty = Laws class_of read spelling (Passes fits) (Passes front) first next empty

-- the answer on a whole list is the only tree that has its tokens, or that no tree has them with the first token
-- with which the list is no front; and nothing else is such an answer
abbrev pub WholeListLaw : Type 0 → Type 0 → Type 0
WholeListLaw T A = (class_of : T → ℕ) (read : Reader T A) (spelling : A → List T) (fits : A → Bool) (front : List T → Bool) (first : List ℕ) (next : A → List ℕ) (empty : Bool) →
    TestedLaws class_of read spelling fits front first next empty → (ts : List T) (r : Result A ℕ) → (answer read ts ≡ r) ↔ IsAnswer spelling (Passes fits) (Passes front) ts r

-- two in a row
abbrev pub SequenceLaw : Type 0 → Type 0 → Type 0 → Type 0
SequenceLaw T A B = (class_of : T → ℕ)
    (p : Reader T A) (spell_p : A → List T) (fits_p : A → Bool) (front_p : List T → Bool) (first_p : List ℕ) (next_p : A → List ℕ) → TestedLaws class_of p spell_p fits_p front_p first_p next_p false →
    (q : Reader T B) (spell_q : B → List T) (fits_q : B → Bool) (front_q : List T → Bool) (first_q : List ℕ) (next_q : B → List ℕ) → TestedLaws class_of q spell_q fits_q front_q first_q next_q false →
    ((a : A) → fits_p a ≡ true → Apart (next_p a) first_q) →
    Laws class_of (both p q) (both_spelling spell_p spell_q) (BothFit (Passes fits_p) (Passes fits_q)) (Joint spell_p (Passes fits_p) always (Passes front_p) (Passes front_q)) first_p (λ x. next_q x.1) false

-- a first, and a second where the first lets it follow
abbrev pub FollowedLaw : Type 0 → Type 0 → Type 0 → Type 0
FollowedLaw T A B = (class_of : T → ℕ)
    (p : Reader T A) (spell_p : A → List T) (fits_p : A → Bool) (front_p : List T → Bool) (first_p : List ℕ) (next_p : A → List ℕ) → TestedLaws class_of p spell_p fits_p front_p first_p next_p false →
    (q : Reader T B) (spell_q : B → List T) (fits_q : B → Bool) (front_q : List T → Bool) (first_q : List ℕ) (next_q : B → List ℕ) → TestedLaws class_of q spell_q fits_q front_q first_q next_q false →
    (may : A → Bool) → ((a : A) → fits_p a ≡ true → may a ≡ true → Apart (next_p a) first_q) →
    Laws class_of (followed class_of may first_q p q) (joined_spelling spell_p spell_q) (FollowedFit (Passes fits_p) may (Passes fits_q)) (Joint spell_p (Passes fits_p) may (Passes front_p) (Passes front_q)) first_p (after_followed next_p may first_q next_q) false

-- any number of items
abbrev pub RepetitionLaw : Type 0 → Type 0 → Type 0
RepetitionLaw T A = (class_of : T → ℕ)
    (p : Reader T A) (spell_p : A → List T) (fits_p : A → Bool) (front_p : List T → Bool) (first_p : List ℕ) (next_p : A → List ℕ) → TestedLaws class_of p spell_p fits_p front_p first_p next_p false →
    (may : A → Bool) → ((a : A) → fits_p a ≡ true → may a ≡ true → Apart (next_p a) first_p) →
    Laws class_of (many class_of may first_p p) (flat_map spell_p) (EachFit (Passes fits_p) may) (Several spell_p (Passes fits_p) may (Passes front_p)) first_p (after_list first_p may next_p) true

-- a second try, where neither can go on behind a whole of the other
abbrev pub SecondTryLaw : Type 0 → Type 0 → Type 0
SecondTryLaw T A = (class_of : T → ℕ) (spell : A → List T)
    (p : Reader T A) (fits_p : A → Bool) (front_p : List T → Bool) (first_p : List ℕ) → TestedLaws class_of p spell fits_p front_p first_p nowhere false →
    (q : Reader T A) (fits_q : A → Bool) (front_q : List T → Bool) (first_q : List ℕ) (next : A → List ℕ) → TestedLaws class_of q spell fits_q front_q first_q next false →
    ((a : A) (t : T) (ts : List T) → fits_p a ≡ true → front_q (spell a ++ t ∷ ts) ≡ true → ⊥) → ((b : A) (t : T) (ts : List T) → fits_q b ≡ true → front_p (spell b ++ t ∷ ts) ≡ true → ⊥) →
    Laws class_of (tried p q) spell (FirstFit spell (Passes fits_p) (Passes fits_q)) (Either (Passes front_p) (Passes front_q)) (first_p ++ first_q) next false
