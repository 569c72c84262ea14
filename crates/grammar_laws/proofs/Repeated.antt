-- The laws of lists: one item or more, any number of items.
use Rattle.std.proofs.Common.{◌≡◌, ℕ, zero, suc, ◌≤◌, Bool, true, false, cond, List, [], ◌∷◌, ◌++◌, length, Ok, Err, refl, sym, ap, ◌∙◌}
use Rattle.std.specs.List.{flat_map, AllByRecursion}
use Rattle.grammar_laws.specs.Codes.{is_empty, Apart, Within, after_list, after_list_from}
use Rattle.grammar_laws.specs.Readers.{Outcome, Reader, and_then, starts, always, cons_to, many_turns, many, some, many_from_turns, many_from, some_from}
use Rattle.grammar_laws.specs.Fronts.{Front, GoesOn, Several, EachFit, SomeFit, EachFitFrom, GoOnFrom, SeveralFrom}
use Rattle.grammar_laws.specs.Laws.{Laws}
use Rattle.grammar_laws.proofs.Codes.{apart_smaller, within_self, within_list}
use Rattle.grammar_laws.proofs.Restated.{restated, reread}
use Rattle.grammar_laws.proofs.Stated.{turns_from_enough, many_from_is_some, some_from_laws, many_from_laws}

-- ---- a list whose items change no state

module _ {Token : Type 0} {class_of : Token → ℕ} {A : Type 0}
    {p : Reader Token A} {spell_p : A → List Token} {Fits_p : A → Type 0} {front_p : Front Token} {first_p : List ℕ} {next_p : A → List ℕ}
    (P : Laws class_of p spell_p Fits_p front_p first_p next_p false)
    (may : A → Bool) (apart : (a : A) → Fits_p a → may a ≡ true → Apart (next_p a) first_p) where
  abbrev State : Type 0
  State = Unit {0}

  abbrev begin_from : State → List ℕ
  begin_from s = first_p

  abbrev read_from : State → Reader Token A
  read_from s = p

  abbrev may_from : State → A → Bool
  may_from s a = may a

  abbrev step : State → A → State
  step s a = s

  abbrev FitFrom : State → A → Type 0
  FitFrom s = Fits_p

  abbrev front_from : State → Front Token
  front_from s = front_p

  abbrev turns_from : ℕ → State → Reader Token (List A)
  turns_from = many_from_turns class_of begin_from read_from may_from step

  abbrev more_of : Bool → Reader Token (List A) → Reader Token (List A)
  more_of c q mid = cond c (q mid) (Ok ([], mid))

  same_turn : (q r : Reader Token (List A)) → ((ts : List Token) → q ts ≡ r ts) → (o : Outcome Token A) → and_then o (λ a mid. cons_to a (more_of (may a) q mid)) ≡ and_then o (λ a mid. cons_to a (more_of (may a) r mid))
  same_turn q r same (Err d) = refl
  same_turn q r same (Ok (a, mid)) = ap (λ (o : Outcome Token (List A)). cons_to a (cond (may a) o (Ok ([], mid)))) (same mid)

  same_turns : (n : ℕ) (s : State) (ts : List Token) → many_turns class_of may first_p p n ts ≡ turns_from n s ts
  same_turns zero s ts = refl
  same_turns (suc n) s ts = ap (λ (o : Outcome Token (List A)). cond (starts class_of first_p ts) o (Ok ([], ts))) (same_turn (many_turns class_of may first_p p n) (turns_from n s) (same_turns n s) (p ts))

  same_many : (s : State) (ts : List Token) → many class_of may first_p p ts ≡ many_from class_of begin_from read_from may_from step s ts
  same_many s ts = same_turns (length ts) s ts

  same_some : (s : State) (ts : List Token) → some class_of may first_p p ts ≡ some_from class_of begin_from read_from may_from step s ts
  same_some s ts = same_turn (many class_of may first_p p) (many_from class_of begin_from read_from may_from step s) (same_many s) (p ts)

  -- more turns than tokens change nothing
  pub turns_enough : (n m : ℕ) (ts : List Token) → length ts ≤ n → length ts ≤ m → many_turns class_of may first_p p n ts ≡ many_turns class_of may first_p p m ts
  turns_enough n m ts few less = same_turns n tt ts ∙ turns_from_enough (λ s. P) may_from step (λ s. apart) n m tt ts few less ∙ sym (same_turns m tt ts)

  -- where an item begins, any number of items is one item or more
  pub many_is_some : (ts : List Token) → starts class_of first_p ts ≡ true → many class_of may first_p p ts ≡ some class_of may first_p p ts
  many_is_some ts on = same_many tt ts ∙ many_from_is_some (λ s. P) may_from step (λ s. apart) tt ts on ∙ sym (same_some tt ts)

  -- and none where no item begins
  pub many_is_none : (ts : List Token) → starts class_of first_p ts ≡ false → many class_of may first_p p ts ≡ Ok ([], ts)
  many_is_none [] off = refl
  many_is_none (t ∷ ts) off = rw off refl

  fit_from : (s : State) (all : List A) → EachFit Fits_p may all → EachFitFrom FitFrom may_from step s all
  fit_from s [] fits = tt
  fit_from s (a ∷ more) fits = (fits.0, fits.1, fit_from s more fits.2)

  from_fit : (s : State) (all : List A) → EachFitFrom FitFrom may_from step s all → EachFit Fits_p may all
  from_fit s [] fits = tt
  from_fit s (a ∷ more) fits = (fits.0, fits.1, from_fit s more fits.2)

  go_from : (s : State) (all : List A) → AllByRecursion (GoesOn Fits_p may) all → GoOnFrom FitFrom may_from step s all
  go_from s [] fits = tt
  go_from s (a ∷ more) fits = (fits.0.0, fits.0.1, go_from s more fits.1)

  from_go : (s : State) (all : List A) → GoOnFrom FitFrom may_from step s all → AllByRecursion (GoesOn Fits_p may) all
  from_go s [] fits = tt
  from_go s (a ∷ more) fits = ((fits.0, fits.1), from_go s more fits.2)

  into : (s : State) (ts : List Token) → Several spell_p Fits_p may front_p ts → SeveralFrom spell_p FitFrom may_from step front_from s ts
  into s ts (all, more, fits, e, h) = (all, more, go_from s all fits, e, h)

  out : (s : State) (ts : List Token) → SeveralFrom spell_p FitFrom may_from step front_from s ts → Several spell_p Fits_p may front_p ts
  out s ts (all, more, fits, e, h) = (all, more, from_go s all fits, e, h)

  after_from : (s : State) (all : List A) → Within (after_list_from begin_from may_from step next_p s all) (after_list first_p may next_p all)
  after_from s [] = within_self first_p
  after_from s (a ∷ []) = within_self _
  after_from s (a ∷ b ∷ more) = after_from s (b ∷ more)

  -- one item or more
  pub some_laws : Laws class_of (some class_of may first_p p) (flat_map spell_p) (SomeFit Fits_p may) (Several spell_p Fits_p may front_p) first_p (after_list first_p may next_p) false
  some_laws = restated (reread (some_from_laws (λ s. P) may_from step (λ s. apart) tt) (same_some tt)) (λ all fits. (fits.0, from_fit tt all fits.1)) (λ all fits. (fits.0, fit_from tt all fits.1)) (out tt) (into tt) (within_self first_p) (λ all fits. after_from tt all) (λ h. h)

  -- any number of items
  pub many_laws : Laws class_of (many class_of may first_p p) (flat_map spell_p) (EachFit Fits_p may) (Several spell_p Fits_p may front_p) first_p (after_list first_p may next_p) true
  many_laws = restated (reread (many_from_laws (λ s. P) may_from step (λ s. apart) tt) (same_many tt)) (from_fit tt) (fit_from tt) (out tt) (into tt) (within_self first_p) (λ all fits. after_from tt all) (λ h. h)

-- ---- lists of which each item allows another, and one set of codes may follow each

pub all_fit : {A : Type 0} (F : A → Type 0) (all : List A) → EachFit F always all → AllByRecursion F all
all_fit F [] fits = tt
all_fit F (a ∷ more) fits = (fits.0, all_fit F more fits.2)

pub each_fit : {A : Type 0} (F : A → Type 0) (all : List A) → AllByRecursion F all → EachFit F always all
each_fit F [] fits = tt
each_fit F (a ∷ more) fits = (fits.0, refl, each_fit F more fits.1)

module _ {Token : Type 0} {class_of : Token → ℕ} {A : Type 0}
    {p : Reader Token A} {spell_p : A → List Token} {Fits_p : A → Type 0} {front_p : Front Token} {first_p : List ℕ} {next_p : A → List ℕ}
    (P : Laws class_of p spell_p Fits_p front_p first_p next_p false)
    {codes : List ℕ} (under : (a : A) → Fits_p a → Within (next_p a) codes) (apart : Apart codes first_p) where
  off : (a : A) → Fits_p a → always a ≡ true → Apart (next_p a) first_p
  off a fits on = apart_smaller (under a fits) apart

  pub many_plain_laws : Laws class_of (many class_of always first_p p) (flat_map spell_p) (AllByRecursion Fits_p) (Several spell_p Fits_p always front_p) first_p (λ all. first_p ++ codes) true
  many_plain_laws = restated (many_laws P always off) (all_fit Fits_p) (each_fit Fits_p) (λ ts j. j) (λ ts j. j) (within_self first_p) (λ all fits. within_list first_p codes always next_p under all (all_fit Fits_p all fits)) (λ h. h)

  pub some_plain_laws : Laws class_of (some class_of always first_p p) (flat_map spell_p) (λ all. (is_empty all ≡ false) × AllByRecursion Fits_p all) (Several spell_p Fits_p always front_p) first_p (λ all. first_p ++ codes) false
  some_plain_laws = restated (some_laws P always off) (λ all fits. (fits.0, all_fit Fits_p all fits.1)) (λ all fits. (fits.0, each_fit Fits_p all fits.1)) (λ ts j. j) (λ ts j. j) (within_self first_p)
      (λ all fits. within_list first_p codes always next_p under all (all_fit Fits_p all fits.1)) (λ h. h)
