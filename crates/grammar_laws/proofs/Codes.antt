-- Sets of codes: tests closed by `refl` give the facts, and unions are `++`.
use Rattle.std.proofs.Common.{◌≡◌, ℕ, Bool, true, false, not, eqb, ◌||◌, ◌&&◌, ◌⊎◌, inl, inr, List, [], ◌∷◌, ◌++◌, Option, Some, None, refl, ap, ◌∙◌}
use Rattle.std.proofs.lemmas.Bool.{eqb-true}
use Rattle.std.proofs.Common.{eq-eqb}
use Rattle.std.specs.List.{AllByRecursion}
use Rattle.grammar_laws.specs.Fronts.{OptionFit, FollowedFit, EndedFit}
use Rattle.grammar_laws.specs.Codes.{has, disjoint, within, Apart, Within, given, after_option, after_followed, after_list, after_ended}

-- ---- tests

pub not_true : (b : Bool) → (b ≡ true → ⊥) → b ≡ false
not_true true h = absurd (h refl)
not_true false h = refl

pub clash : {A : Type 0} (b : Bool) → b ≡ true → b ≡ false → A
clash b p q = absurd cc

pub or_left : (a b : Bool) → a ≡ true → (a || b) ≡ true
or_left true b h = refl
or_left false b h = absurd cc

pub or_right : (a b : Bool) → b ≡ true → (a || b) ≡ true
or_right true b h = refl
or_right false b h = h

pub or_cases : (a b : Bool) → (a || b) ≡ true → (a ≡ true) ⊎ (b ≡ true)
or_cases true b h = inl refl
or_cases false b h = inr h

pub or_false : (a b : Bool) → (a || b) ≡ false → (a ≡ false) × (b ≡ false)
or_false true b h = absurd cc
or_false false b h = (refl, h)

pub neither : (a b : Bool) → a ≡ false → b ≡ false → (a || b) ≡ false
neither true b h k = absurd cc
neither false b h k = k

pub and_true : (a b : Bool) → a ≡ true → b ≡ true → (a && b) ≡ true
and_true true b h k = k
and_true false b h k = absurd cc

pub and_both : (a b : Bool) → (a && b) ≡ true → (a ≡ true) × (b ≡ true)
and_both true b h = (refl, h)
and_both false b h = absurd cc

pub and_false : (a b : Bool) → b ≡ false → (a && b) ≡ false
and_false true b h = h
and_false false b h = refl

pub cases_bool : (b : Bool) → (b ≡ true) ⊎ (b ≡ false)
cases_bool true = inl refl
cases_bool false = inr refl

not_false : (a : Bool) → not a ≡ true → a ≡ false
not_false true h = absurd cc
not_false false h = refl

-- ---- what a list of codes has

disjoint_never : (xs ys : List ℕ) (n : ℕ) → disjoint xs ys ≡ true → has xs n ≡ true → has ys n ≡ true → ⊥
disjoint_never [] ys n d h i = absurd cc
disjoint_never (x ∷ xs) ys n d h i =
    let b = and_both (not (has ys x)) (disjoint xs ys) d in
    elim (or_cases (eqb n x) (has xs n) h) [
      | inl e ↦ clash (has ys n) i (ap (has ys) (eqb-true n x e) ∙ not_false (has ys x) b.0)
      | inr r ↦ disjoint_never xs ys n b.1 r i
    ]

within_has : (xs ys : List ℕ) (n : ℕ) → within xs ys ≡ true → has xs n ≡ true → has ys n ≡ true
within_has [] ys n w h = absurd cc
within_has (x ∷ xs) ys n w h =
    let b = and_both (has ys x) (within xs ys) w in
    elim (or_cases (eqb n x) (has xs n) h) [
      | inl e ↦ ap (has ys) (eqb-true n x e) ∙ b.0
      | inr r ↦ within_has xs ys n b.1 r
    ]

-- a list of one code has that code and no other
pub only_code : (n m : ℕ) → has (m ∷ []) n ≡ true → n ≡ m
only_code n m h = elim (or_cases (eqb n m) false h) [ inl e ↦ eqb-true n m e | inr off ↦ absurd cc ]

pub has_code : (n m : ℕ) → n ≡ m → has (m ∷ []) n ≡ true
has_code n m e = or_left (eqb n m) false (eq-eqb n m e)

pub has_left : (xs ys : List ℕ) (n : ℕ) → has xs n ≡ true → has (xs ++ ys) n ≡ true
has_left [] ys n h = absurd cc
has_left (x ∷ xs) ys n h = elim (or_cases (eqb n x) (has xs n) h) [
  | inl e ↦ or_left (eqb n x) _ e
  | inr r ↦ or_right (eqb n x) _ (has_left xs ys n r)
]

pub has_right : (xs ys : List ℕ) (n : ℕ) → has ys n ≡ true → has (xs ++ ys) n ≡ true
has_right [] ys n h = h
has_right (x ∷ xs) ys n h = or_right (eqb n x) _ (has_right xs ys n h)

pub has_cases : (xs ys : List ℕ) (n : ℕ) → has (xs ++ ys) n ≡ true → (has xs n ≡ true) ⊎ (has ys n ≡ true)
has_cases [] ys n h = inr h
has_cases (x ∷ xs) ys n h = elim (or_cases (eqb n x) (has (xs ++ ys) n) h) [
  | inl e ↦ inl (or_left (eqb n x) _ e)
  | inr r ↦ elim (has_cases xs ys n r) [
    | inl i ↦ inl (or_right (eqb n x) _ i)
    | inr i ↦ inr i
  ]
]

pub has_given : (b : Bool) (xs : List ℕ) (n : ℕ) → b ≡ true → has xs n ≡ true → has (given b xs) n ≡ true
has_given true xs n e h = h
has_given false xs n e h = absurd cc

pub given_has : (b : Bool) (xs : List ℕ) (n : ℕ) → has (given b xs) n ≡ true → (b ≡ true) × (has xs n ≡ true)
given_has true xs n h = (refl, h)
given_has false xs n h = absurd cc

-- ---- apart and within

-- by computing: `apart refl`
pub apart : {xs ys : List ℕ} → disjoint xs ys ≡ true → Apart xs ys
apart {xs} {ys} d = record { never_both = λ n h i. disjoint_never xs ys n d h i }

-- by computing: `inside refl`
pub inside : {xs ys : List ℕ} → within xs ys ≡ true → Within xs ys
inside {xs} {ys} w = record { in_second = λ n h. within_has xs ys n w h }

pub within_self : (xs : List ℕ) → Within xs xs
within_self xs = record { in_second = λ n h. h }

pub within_none : (xs : List ℕ) → Within [] xs
within_none xs = record { in_second = λ n h. absurd cc }

pub within_then : {xs ys zs : List ℕ} → Within xs ys → Within ys zs → Within xs zs
within_then w v = record { in_second = λ n h. v.in_second n (w.in_second n h) }

pub within_union : {xs ys zs : List ℕ} → Within xs zs → Within ys zs → Within (xs ++ ys) zs
within_union {xs} {ys} w v = record { in_second = λ n h. elim (has_cases xs ys n h) [ inl i ↦ w.in_second n i | inr i ↦ v.in_second n i ] }

pub within_given : {xs zs : List ℕ} (b : Bool) → (b ≡ true → Within xs zs) → Within (given b xs) zs
within_given {xs} b w = record { in_second = λ n h. let g = given_has b xs n h in (w g.0).in_second n g.1 }

pub within_left : (xs ys : List ℕ) → Within xs (xs ++ ys)
within_left xs ys = record { in_second = λ n h. has_left xs ys n h }

pub within_right : (xs ys : List ℕ) → Within ys (xs ++ ys)
within_right xs ys = record { in_second = λ n h. has_right xs ys n h }

pub apart_smaller : {xs ys zs : List ℕ} → Within xs ys → Apart ys zs → Apart xs zs
apart_smaller w d = record { never_both = λ n h i. d.never_both n (w.in_second n h) i }

pub apart_union : {xs ys zs : List ℕ} → Apart xs zs → Apart ys zs → Apart (xs ++ ys) zs
apart_union {xs} {ys} d f = record { never_both = λ n h i. elim (has_cases xs ys n h) as (λ _. ⊥) [ inl j ↦ d.never_both n j i | inr j ↦ f.never_both n j i ] }

pub apart_none : (ys : List ℕ) → Apart [] ys
apart_none ys = record { never_both = λ n h i. absurd cc }

-- behind a list come the first tokens of an item, and what may follow one
pub within_list : {A : Type 0} {Fits : A → Type 0} (first codes : List ℕ) (may : A → Bool) (next : A → List ℕ) → ((a : A) → Fits a → Within (next a) codes) → (all : List A) → AllByRecursion Fits all → Within (after_list first may next all) (first ++ codes)
within_list first codes may next under [] fits = within_left first codes
within_list first codes may next under (a ∷ []) fits = within_union (within_then (under a fits.0) (within_right first codes)) (within_given (may a) (λ on. within_left first codes))
within_list first codes may next under (a ∷ b ∷ more) fits = within_list first codes may next under (b ∷ more) fits.1

-- behind a part that may be absent
pub within_option : {B : Type 0} (first zs : List ℕ) (next : B → List ℕ) (Fits : B → Type 0) → Within first zs → ((b : B) → Fits b → Within (next b) zs) → (o : Option B) → OptionFit Fits o → Within (after_option first next o) zs
within_option first zs next Fits w under None fits = w
within_option first zs next Fits w under (Some b) fits = under b fits

-- behind a first that may be followed
pub within_followed : {A B : Type 0} (next_p : A → List ℕ) (may : A → Bool) (first zs : List ℕ) (next_q : B → List ℕ) (Fits_p : A → Type 0) (Fits_q : B → Type 0) →
    ((a : A) → Fits_p a → Within (next_p a) zs) → Within first zs → ((b : B) → Fits_q b → Within (next_q b) zs) → (x : A × Option B) → FollowedFit Fits_p may Fits_q x → Within (after_followed next_p may first next_q x) zs
within_followed next_p may first zs next_q Fits_p Fits_q under_p w under_q (a, None) fits = within_union (under_p a fits.0) (within_given (may a) (λ on. w))
within_followed next_p may first zs next_q Fits_p Fits_q under_p w under_q (a, Some b) fits = under_q b fits.1.1

-- behind whole items and a half item or none
pub within_ended : {B H : Type 0} (first zs : List ℕ) (next : B ⊎ H → List ℕ) (Fits : B ⊎ H → Type 0) → Within first zs → ((x : B ⊎ H) → Fits x → Within (next x) zs) → (x : List B × Option H) → EndedFit Fits x → Within (after_ended first next x) zs
within_ended first zs next Fits w under (all, None) fits = within_then (within_list {Fits = λ b. Fits (inl b)} first zs (λ b. true) (λ b. next (inl b)) (λ b fit. under (inl b) fit) all fits.0) (within_union w (within_self zs))
within_ended first zs next Fits w under (all, Some h) fits = under (inr h) fits.1
