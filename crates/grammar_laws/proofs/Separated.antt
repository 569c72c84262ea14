-- The laws of lists with separators, and of lists whose last item may be half an item.
use Rattle.std.proofs.Common.{◌≡◌, ℕ, true, false, ◌⊎◌, inl, inr, List, [], ◌∷◌, ◌++◌, Option, Some, None, refl, sym, ap, ◌∙◌, append_assoc}
use Rattle.std.specs.List.{flat_map, AllByRecursion}
use Rattle.std.proofs.lemmas.List.{append-nil}
use Rattle.grammar_laws.specs.Codes.{Apart, Within, after_both, after_followed, after_list, after_ended}
use Rattle.grammar_laws.specs.Readers.{Reader, mapped, followed, always, separated, is_left, split, ended, some_ended, separator_or, trailed}
use Rattle.grammar_laws.specs.Fronts.{Front, Joint, GoesOn, Several, both_spelling, BothFit, option_spelling, OptionFit, EachFit, SomeFit, joined_spelling, FollowedFit, ended_spelling, EndedFit, SomeEndedFit, piece_spelling, PieceFit, after_piece}
use Rattle.grammar_laws.specs.Laws.{Laws}
use Rattle.grammar_laws.proofs.Codes.{clash, apart_smaller, within_self, within_none, within_union, within_then, within_right, within_ended}
use Rattle.grammar_laws.proofs.Restated.{refront, wider, mapped_laws}
use Rattle.grammar_laws.proofs.Combined.{both_laws, both_any_laws}
use Rattle.grammar_laws.proofs.Followed.{followed_laws}
use Rattle.grammar_laws.proofs.Repeated.{some_laws, many_laws, many_plain_laws}

-- one item, and others behind separators
module _ {Token : Type 0} {class_of : Token → ℕ} {A S : Type 0}
    {p : Reader Token A} {spell_p : A → List Token} {Fits_p : A → Type 0} {front_p : Front Token} {first_p : List ℕ} {next_p : A → List ℕ} (P : Laws class_of p spell_p Fits_p front_p first_p next_p false)
    {s : Reader Token S} {spell_s : S → List Token} {Fits_s : S → Type 0} {front_s : Front Token} {first_s : List ℕ} {next_s : S → List ℕ} (S_laws : Laws class_of s spell_s Fits_s front_s first_s next_s false)
    (apart_p : (a : A) → Fits_p a → Apart (next_p a) first_s) (apart_s : (x : S) → Fits_s x → Apart (next_s x) first_p) where
  pub separated_laws : Laws class_of (separated class_of first_s p s) (both_spelling spell_p (flat_map (both_spelling spell_s spell_p))) (BothFit Fits_p (EachFit (BothFit Fits_s Fits_p) always))
      (Joint spell_p Fits_p always front_p (Several (both_spelling spell_s spell_p) (BothFit Fits_s Fits_p) always (Joint spell_s Fits_s always front_s front_p)))
      first_p (after_both next_p (after_list first_s always (λ x. next_p x.1)) true) false
  separated_laws = wider (both_any_laws P (many_laws (both_laws S_laws P apart_s) always (λ x fits on. apart_p x.1 fits.1)) apart_p)
      (within_union (within_self first_p) (within_none first_p)) (λ x fits. within_self (after_both next_p (after_list first_s always (λ y. next_p y.1)) true x))

-- the same where one set of codes may follow each item
module _ {Token : Type 0} {class_of : Token → ℕ} {A S : Type 0}
    {p : Reader Token A} {spell_p : A → List Token} {Fits_p : A → Type 0} {front_p : Front Token} {first_p : List ℕ} {next_p : A → List ℕ} (P : Laws class_of p spell_p Fits_p front_p first_p next_p false)
    {s : Reader Token S} {spell_s : S → List Token} {Fits_s : S → Type 0} {front_s : Front Token} {first_s : List ℕ} {next_s : S → List ℕ} (S_laws : Laws class_of s spell_s Fits_s front_s first_s next_s false)
    {codes : List ℕ} (under : (a : A) → Fits_p a → Within (next_p a) codes) (apart_p : Apart codes first_s) (apart_s : (x : S) → Fits_s x → Apart (next_s x) first_p) where
  pub separated_plain_laws : Laws class_of (separated class_of first_s p s) (both_spelling spell_p (flat_map (both_spelling spell_s spell_p))) (BothFit Fits_p (AllByRecursion (BothFit Fits_s Fits_p)))
      (Joint spell_p Fits_p always front_p (Several (both_spelling spell_s spell_p) (BothFit Fits_s Fits_p) always (Joint spell_s Fits_s always front_s front_p)))
      first_p (λ x. first_s ++ codes) false
  separated_plain_laws = wider (both_any_laws P (many_plain_laws (both_laws S_laws P apart_s) {codes = codes} (λ x fits. under x.1 fits.1) apart_p) (λ a fits. apart_smaller (under a fits) apart_p))
      (within_union (within_self first_p) (within_none first_p)) (λ x fits. within_union (within_self (first_s ++ codes)) (within_then (under x.0 fits.0) (within_right first_s codes)))

-- ---- items, of which the last may be half an item

module _ {Token : Type 0} {class_of : Token → ℕ} {B H : Type 0}
    {p : Reader Token (B ⊎ H)} {spell : B ⊎ H → List Token} {Fits : B ⊎ H → Type 0} {front_p : Front Token} {first : List ℕ} {next : B ⊎ H → List ℕ}
    (P : Laws class_of p spell Fits front_p first next false) (apart : (b : B) → Fits (inl b) → Apart (next (inl b)) first) where
  abbrev Items : Type 0
  Items = List (B ⊎ H)

  abbrev left_spelling : B → List Token
  left_spelling b = spell (inl b)

  abbrev LeftFit : B → Type 0
  LeftFit b = Fits (inl b)

  abbrev front : Front Token
  front = Several left_spelling LeftFit always front_p

  off : (x : B ⊎ H) → Fits x → is_left x ≡ true → Apart (next x) first
  off (inl b) fits on = apart b fits
  off (inr h) fits on = absurd cc

  -- ---- fronts

  abbrev ones : List B → Items
  ones [] = []
  ones (b ∷ bs) = inl b ∷ ones bs

  ones_fit : (bs : List B) → AllByRecursion (GoesOn LeftFit always) bs → AllByRecursion (GoesOn Fits is_left) (ones bs)
  ones_fit [] fits = tt
  ones_fit (b ∷ bs) fits = ((fits.0.0, refl), ones_fit bs fits.1)

  ones_spelled : (bs : List B) → flat_map spell (ones bs) ≡ flat_map left_spelling bs
  ones_spelled [] = refl
  ones_spelled (b ∷ bs) = ap (λ (m : List Token). spell (inl b) ++ m) (ones_spelled bs)

  abbrev Lefts : Items → Type 0
  Lefts all = (bs : List B) × AllByRecursion (GoesOn LeftFit always) bs × (ones bs ≡ all)

  lefts : (all : Items) → AllByRecursion (GoesOn Fits is_left) all → Lefts all
  lefts [] fits = ([], tt, refl)
  lefts (inl b ∷ all) fits = let w = lefts all fits.1 in (b ∷ w.0, ((fits.0.0, refl), w.1), ap (λ (l : Items). inl b ∷ l) w.2)
  lefts (inr h ∷ all) fits = clash false fits.0.1 refl

  front_out : (ts : List Token) → Several spell Fits is_left front_p ts → front ts
  front_out ts (all, more, fits, e, h) =
      let w = lefts all fits in
      (w.0, more, w.1, e ∙ ap (λ (m : List Token). m ++ more) (sym (ap (flat_map spell) w.2) ∙ ones_spelled w.0), h)

  front_into : (ts : List Token) → front ts → Several spell Fits is_left front_p ts
  front_into ts (bs, more, fits, e, h) = (ones bs, more, ones_fit bs fits, e ∙ ap (λ (m : List Token). m ++ more) (sym (ones_spelled bs)), h)

  -- ---- trees

  abbrev Parted : Items → Type 0
  Parted all = EndedFit Fits (split all) × (ended_spelling spell (split all) ≡ flat_map spell all) × Within (after_list first is_left next all) (after_ended first next (split all))

  abbrev ending : List B → Option H → List B × Option H
  ending l o = (l, o)

  -- a whole item in front of others changes nothing at the end
  one_more : (b c : B) (l : List B) (o : Option H) (xs : List ℕ) → Within xs (after_ended first next (ending (c ∷ l) o)) → Within xs (after_ended first next (ending (b ∷ c ∷ l) o))
  one_more b c l None xs w = w
  one_more b c l (Some h) xs w = w

  nexts_on : (b : B) (more : Items) → Within (after_list first is_left next more) (after_ended first next (split more)) → Within (after_list first is_left next (inl b ∷ more)) (after_ended first next (split (inl b ∷ more)))
  nexts_on b [] w = within_self _
  nexts_on b (inl c ∷ rest) w = one_more b c (split rest).0 (split rest).1 _ w
  nexts_on b (inr h ∷ rest) w = w

  parted : (all : Items) → EachFit Fits is_left all → Parted all
  parted [] fits = ((tt, tt), refl, within_self first)
  parted (inl b ∷ more) fits =
      let w = parted more fits.2 in
      (((fits.0, w.0.0), w.0.1), append_assoc (spell (inl b)) (flat_map left_spelling (split more).0) _ ∙ ap (λ (m : List Token). spell (inl b) ++ m) w.1, nexts_on b more w.2)
  parted (inr h ∷ []) fits = ((tt, fits.0), sym (append-nil (spell (inr h))), within_union (within_self (next (inr h))) (within_none (next (inr h))))
  parted (inr h ∷ c ∷ more) fits = clash false fits.1 refl

  abbrev Whole : List B × Option H → Type 0
  Whole x = (all : Items) × EachFit Fits is_left all × (split all ≡ x)

  whole_of : (l : List B) (o : Option H) → EndedFit Fits (ending l o) → Whole (ending l o)
  whole_of [] None fits = ([], tt, refl)
  whole_of [] (Some h) fits = (inr h ∷ [], (fits.1, refl, tt), refl)
  whole_of (b ∷ l) o fits =
      let w = whole_of l o (fits.0.1, fits.1) in
      (inl b ∷ w.0, (fits.0.0, refl, w.1), ap (λ (x : List B × Option H). ending (b ∷ x.0) x.1) w.2)

  -- any number of items, the last of which may be half
  pub ended_laws : Laws class_of (ended class_of first p) (ended_spelling spell) (EndedFit Fits) (Several (λ b. spell (inl b)) (λ b. Fits (inl b)) always front_p) first (after_ended first next) true
  ended_laws = refront (mapped_laws (many_laws P is_left off) split (ended_spelling spell) (after_ended first next) parted (λ x fits. whole_of x.0 x.1 fits)) front_out front_into

  some_parted : (all : Items) → SomeFit Fits is_left all → SomeEndedFit Fits (split all) × (ended_spelling spell (split all) ≡ flat_map spell all) × Within (after_list first is_left next all) (after_ended first next (split all))
  some_parted [] fits = clash true refl fits.0
  some_parted (inl b ∷ more) fits = let w = parted (inl b ∷ more) fits.1 in ((refl, w.0), w.1, w.2)
  some_parted (inr h ∷ more) fits = let w = parted (inr h ∷ more) fits.1 in ((refl, w.0), w.1, w.2)

  some_of : (l : List B) (o : Option H) → SomeEndedFit Fits (ending l o) → (all : Items) × SomeFit Fits is_left all × (split all ≡ ending l o)
  some_of [] None fits = clash true refl fits.0
  some_of [] (Some h) fits = (inr h ∷ [], (refl, (fits.1.1, refl, tt)), refl)
  some_of (b ∷ l) o fits = let w = whole_of l o (fits.1.0.1, fits.1.1) in (inl b ∷ w.0, (refl, (fits.1.0.0, refl, w.1)), ap (λ (x : List B × Option H). ending (b ∷ x.0) x.1) w.2)

  -- the same with one item or half at least
  pub some_ended_laws : Laws class_of (some_ended class_of first p) (ended_spelling spell) (SomeEndedFit Fits) (Several (λ b. spell (inl b)) (λ b. Fits (inl b)) always front_p) first (after_ended first next) false
  some_ended_laws = refront (mapped_laws (some_laws P is_left off) split (ended_spelling spell) (after_ended first next) some_parted (λ x fits. some_of x.0 x.1 fits)) front_out front_into

-- ---- a sign, and what it begins or nothing

module _ {Token : Type 0} {class_of : Token → ℕ} {A S : Type 0}
    {s : Reader Token S} {spell_s : S → List Token} {Fits_s : S → Type 0} {front_s : Front Token} {first_s : List ℕ} {next_s : S → List ℕ} (S_laws : Laws class_of s spell_s Fits_s front_s first_s next_s false)
    {p : Reader Token A} {spell_p : A → List Token} {Fits_p : A → Type 0} {front_p : Front Token} {first_p : List ℕ} {next_p : A → List ℕ} (P : Laws class_of p spell_p Fits_p front_p first_p next_p false)
    (apart_s : (x : S) → Fits_s x → Apart (next_s x) first_p) where
  forth : (x : S × Option A) → FollowedFit Fits_s always Fits_p x → PieceFit Fits_s Fits_p (separator_or x) × (piece_spelling spell_s spell_p (separator_or x) ≡ joined_spelling spell_s spell_p x) × Within (after_followed next_s always first_p next_p x) (after_piece next_s first_p next_p (separator_or x))
  forth (x, None) fits = (fits.0, sym (append-nil (spell_s x)), within_self _)
  forth (x, Some a) fits = ((fits.0, fits.1.1), refl, within_self _)

  back : (y : (S × A) ⊎ S) → PieceFit Fits_s Fits_p y → (x : S × Option A) × FollowedFit Fits_s always Fits_p x × (separator_or x ≡ y)
  back (inl y) fits = ((y.0, Some y.1), (fits.0, (refl, fits.1)), refl)
  back (inr x) fits = ((x, None), (fits, tt), refl)

  pub piece_laws : Laws class_of (mapped separator_or (followed class_of always first_p s p)) (piece_spelling spell_s spell_p) (PieceFit Fits_s Fits_p) (Joint spell_s Fits_s always front_s front_p) first_s (after_piece next_s first_p next_p) false
  piece_laws = mapped_laws (followed_laws S_laws P always (λ x fits on. apart_s x fits)) separator_or (piece_spelling spell_s spell_p) (after_piece next_s first_p next_p) forth back

  -- items that separators begin, and one more separator or none
  pub trailed_laws : (apart_p : (a : A) → Fits_p a → Apart (next_p a) first_s) →
      Laws class_of (trailed class_of first_s first_p s p) (λ x. flat_map (both_spelling spell_s spell_p) x.0 ++ option_spelling spell_s x.1) (λ x. AllByRecursion (BothFit Fits_s Fits_p) x.0 × OptionFit Fits_s x.1)
      (Several (both_spelling spell_s spell_p) (BothFit Fits_s Fits_p) always (Joint spell_s Fits_s always front_s front_p)) first_s (after_ended first_s (after_piece next_s first_p next_p)) true
  trailed_laws apart_p = ended_laws piece_laws (λ b fits. apart_p b.1 fits.1)

  -- the same where one set of codes holds all that may go on
  pub trailed_plain_laws : {codes : List ℕ} → Within first_s codes → Within first_p codes → ((x : S) → Fits_s x → Within (next_s x) codes) → ((a : A) → Fits_p a → Within (next_p a) codes) → (apart_p : (a : A) → Fits_p a → Apart (next_p a) first_s) →
      Laws class_of (trailed class_of first_s first_p s p) (λ x. flat_map (both_spelling spell_s spell_p) x.0 ++ option_spelling spell_s x.1) (λ x. AllByRecursion (BothFit Fits_s Fits_p) x.0 × OptionFit Fits_s x.1)
      (Several (both_spelling spell_s spell_p) (BothFit Fits_s Fits_p) always (Joint spell_s Fits_s always front_s front_p)) first_s (λ x. codes) true
  trailed_plain_laws {codes = codes} own_s own_p under_s under_p apart_p =
      wider (trailed_laws apart_p) (within_self first_s) (within_ended first_s codes (after_piece next_s first_p next_p) (PieceFit Fits_s Fits_p) own_s (λ x fits. piece_under x fits)) where
        piece_under : (x : (S × A) ⊎ S) → PieceFit Fits_s Fits_p x → Within (after_piece next_s first_p next_p x) codes
        piece_under (inl x) fits = under_p x.1 fits.1
        piece_under (inr x) fits = within_union (under_s x fits) own_p
