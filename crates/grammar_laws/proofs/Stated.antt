-- The laws of lists whose items change a state, on which the next item depends: one item or more, any number of items.
use Rattle.std.proofs.Common.{◌≡◌, ℕ, zero, suc, ◌<◌, ◌≤◌, Bool, true, false, cond, ◌||◌, ◌&&◌, inl, inr, List, [], ◌∷◌, ◌++◌, length, Option, Some, None, Ok, Err, refl, sym, ap, subst, ◌∙◌, append_assoc, arith}
use Rattle.std.specs.List.{flat_map}
use Rattle.grammar_laws.specs.Codes.{Apart, Within, after_option, after_followed_by, after_list_from}
use Rattle.grammar_laws.specs.Readers.{Outcome, Reader, and_then, starts, nothing, mapped, when, continued_by, never, cons_to, many_from_turns, many_from, some_from}
use Rattle.grammar_laws.specs.Fronts.{Front, Empty, JointBy, Nothing, option_spelling, OptionFit, joined_spelling, ContinuedFitBy, EachFitFrom, SomeFitFrom, GoOnFrom, state_after, SeveralFrom}
use Rattle.grammar_laws.specs.Laws.{Laws}
use Rattle.grammar_laws.proofs.Codes.{clash, or_right, or_left, or_cases, cases_bool, within_self}
use Rattle.grammar_laws.proofs.Cuts.{failed, both_empty, fewer}
use Rattle.grammar_laws.proofs.Restated.{refit, reread, mapped_laws, nothing_laws}
use Rattle.grammar_laws.proofs.Continued.{continued_by_laws}
use Rattle.grammar_laws.proofs.Followed.{option_laws}
use Rattle.grammar_laws.proofs.Limits.{limit_laws}

-- the shape of a list that has an item
abbrev pub listed : {A : Type 0} → A × Option (List A) → List A
listed (a, None) = a ∷ []
listed (a, Some more) = a ∷ more

abbrev pub opened : {A : Type 0} → Option (List A) → List A
opened None = []
opened (Some all) = all

module _ {Token : Type 0} {class_of : Token → ℕ} {State A : Type 0}
    {p : State → Reader Token A} {spell_p : A → List Token} {Fits_p : State → A → Type 0} {front_p : State → Front Token} {first_p : State → List ℕ} {next_p : A → List ℕ}
    (P : (s : State) → Laws class_of (p s) spell_p (Fits_p s) (front_p s) (first_p s) next_p false)
    (may : State → A → Bool) (step : State → A → State) (apart : (s : State) (a : A) → Fits_p s a → may s a ≡ true → Apart (next_p a) (first_p (step s a))) where
  abbrev spell : List A → List Token
  spell = flat_map spell_p

  abbrev front : State → Front Token
  front = SeveralFrom spell_p Fits_p may step front_p

  abbrev next : State → List A → List ℕ
  next = after_list_from first_p may step next_p

  filled : (s : State) (a : A) → Fits_p s a → spell_p a ≡ [] → ⊥
  filled s a fits e = clash false ((P s).empties a fits e) refl

  -- ---- at most so many

  up_to : ℕ → State → Reader Token (List A)
  up_to zero s = nothing
  up_to (suc n) s = mapped listed (continued_by class_of never (may s) (λ a. first_p (step s a)) (p s) (λ a. up_to n (step s a)))

  abbrev FitUpTo : ℕ → State → List A → Type 0
  FitUpTo n s all = SomeFitFrom Fits_p may step s all × (length all ≤ n)

  abbrev front_up_to : ℕ → State → Front Token
  front_up_to zero s = Empty
  front_up_to (suc n) s = JointBy spell_p (Fits_p s) (may s) (front_p s) (λ a. front_up_to n (step s a))

  abbrev PartsFit : ℕ → State → A × Option (List A) → Type 0
  PartsFit n s = ContinuedFitBy (Fits_p s) never (may s) (λ a. FitUpTo n (step s a))

  abbrev after_parts : State → A × Option (List A) → List ℕ
  after_parts s = after_followed_by next_p (may s) (λ a. first_p (step s a)) (λ a. next (step s a))

  listed_fit : (n : ℕ) (s : State) (x : A × Option (List A)) → PartsFit n s x → FitUpTo (suc n) s (listed x) × (spell (listed x) ≡ joined_spelling spell_p spell x) × Within (after_parts s x) (next s (listed x))
  listed_fit n s (a, None) fits = (((refl, (fits.0, or_right (may s a) true refl, tt)), omega arith), refl, within_self _)
  listed_fit n s (a, Some []) fits = absurd (clash true refl fits.1.1.0.0)
  listed_fit n s (a, Some (b ∷ more)) fits = (((refl, (fits.0, or_left (may s a) _ fits.1.0, fits.1.1.0.1)), omega (arith, fits.1.1.1)), refl, within_self _)

  abbrev Parts : ℕ → State → List A → Type 0
  Parts n s all = (x : A × Option (List A)) × PartsFit n s x × (listed x ≡ all)

  abbrev parted : A → Option (List A) → A × Option (List A)
  parted a o = (a, o)

  goes_on : (s : State) (a : A) → (may s a || false) ≡ true → may s a ≡ true
  goes_on s a h = elim (or_cases (may s a) false h) [ inl m ↦ m | inr off ↦ absurd cc ]

  parts_of : (n : ℕ) (s : State) (all : List A) → FitUpTo (suc n) s all → Parts n s all
  parts_of n s [] fits = clash true refl fits.0.0
  parts_of n s (a ∷ []) fits = (parted a None, (fits.0.1.0, refl), refl)
  parts_of n s (a ∷ b ∷ more) fits = (parted a (Some (b ∷ more)), (fits.0.1.0, (goes_on s a fits.0.1.1, ((refl, fits.0.1.2), omega (arith, fits.1)))), refl)

  none_up_to : (s : State) (all : List A) → FitUpTo 0 s all → Nothing all
  none_up_to s [] fits = clash true refl fits.0.0
  none_up_to s (a ∷ more) fits = omega (arith, fits.1)

  up_to_laws : (n : ℕ) (s : State) → Laws class_of (up_to n s) spell (FitUpTo n s) (front_up_to n s) (first_p s) (next s) false
  unfolding up_to
  up_to_laws zero s = refit (nothing_laws spell (first_p s) (next s) false) (λ all no. absurd no) (none_up_to s)
  up_to_laws (suc n) s = mapped_laws (continued_by_laws (P s) (λ a fits. up_to_laws n (step s a)) never (may s) (λ a h. absurd cc) (apart s)) listed spell (next s) (listed_fit n s) (parts_of n s)

  -- ---- the same, said with no bound

  each_up_to : (all : List A) (n : ℕ) (s : State) → EachFitFrom Fits_p may step s all → length (spell all) ≤ n → length all ≤ n
  each_up_to [] n s fits few = omega arith
  each_up_to (a ∷ more) n s fits few =
      let less : length (spell more) < n = fewer (spell_p a) (spell more) n (filled s a fits.0) few in
      let rest : length more ≤ length (spell more) = each_up_to more (length (spell more)) (step s a) fits.2 (omega arith) in
      omega (arith, less, rest)

  several_up_to : (n : ℕ) (s : State) (all : List A) (more : List Token) → GoOnFrom Fits_p may step s all → front_p (state_after step s all) more → length (spell all ++ more) ≤ n → front_up_to n s (spell all ++ more)
  several_up_to zero s [] [] fits h few = refl
  several_up_to zero s [] (t ∷ more) fits h few = absurd (omega arith)
  several_up_to (suc n) s [] more fits h few = inl h
  several_up_to zero s (a ∷ all) more fits h few =
      absurd (omega (arith, fewer (spell_p a) (spell all ++ more) 0 (filled s a fits.0) (subst (λ (m : List Token). length m ≤ 0) (append_assoc (spell_p a) (spell all) more) few)))
  several_up_to (suc n) s (a ∷ all) more fits h few =
      let group = append_assoc (spell_p a) (spell all) more in
      let less : length (spell all ++ more) < suc n = fewer (spell_p a) (spell all ++ more) (suc n) (filled s a fits.0) (subst (λ (m : List Token). length m ≤ suc n) group few) in
      inr (a, spell all ++ more, fits.0, fits.1, group, several_up_to n (step s a) all more fits.2 h (omega arith))

  up_to_several : (n : ℕ) (s : State) (ts : List Token) → front_up_to n s ts → front s ts
  up_to_several zero s ts h = ([], ts, tt, refl, subst (front_p s) (sym h) (P s).none)
  up_to_several (suc n) s ts (inl h) = ([], ts, tt, refl, h)
  up_to_several (suc n) s ts (inr (a, more, fits, may_a, e, h)) =
      let w = up_to_several n (step s a) more h in
      (a ∷ w.0, w.1, (fits, may_a, w.2), e ∙ ap (λ (m : List Token). spell_p a ++ m) w.3 ∙ sym (append_assoc (spell_p a) (spell w.0) w.1), w.4)

  limited_laws : (s : State) → Laws class_of (λ ts. up_to (length ts) s ts) spell (SomeFitFrom Fits_p may step s) (front s) (first_p s) (next s) false
  limited_laws s = limit_laws (λ n. up_to_laws n s) (SomeFitFrom Fits_p may step s) (front s)
      (λ n all fits few. (fits, each_up_to all n s fits.1 few))
      (λ n all fits. fits.0)
      (λ n ts j few. subst (front_up_to n s) (sym j.3) (several_up_to n s j.0 j.1 j.2 j.4 (subst (λ (m : List Token). length m ≤ n) j.3 few)))
      (λ n. up_to_several n s)

  -- ---- the bound makes no difference

  shorter_behind : (s : State) (ts : List Token) (a : A) (mid : List Token) (n : ℕ) → p s ts ≡ Ok (a, mid) → length ts ≤ n → length mid < n
  shorter_behind s ts a mid n e few =
      let l = (P s).sound ts a mid e in
      fewer (spell_p a) mid n (filled s a l.0) (subst (λ (m : List Token). length m ≤ n) l.1 few)

  over_turns : (m : ℕ) (s : State) (ts : List Token) → starts class_of (first_p s) ts ≡ false → many_from_turns class_of first_p p may step m s ts ≡ Ok ([], ts)
  over_turns zero s ts off = refl
  over_turns (suc m) s ts off = rw off refl

  abbrev turns : Bool → ℕ → State → Reader Token (List A)
  turns c m s mid = cond c (many_from_turns class_of first_p p may step m s mid) (Ok ([], mid))

  abbrev joined : A → Outcome Token (Option (List A)) → Outcome Token (List A)
  joined a o = and_then (and_then o (λ b rest. Ok ((a, b), rest))) (λ x rest. Ok (listed x, rest))

  some_of : Outcome Token (List A) → Outcome Token (Option (List A))
  some_of o = and_then o (λ b rest. Ok (Some b, rest))

  joined_some : (a : A) (o : Outcome Token (List A)) → cons_to a o ≡ joined a (some_of o)
  unfolding some_of
  joined_some a (Ok x) = refl
  joined_some a (Err x) = refl

  abbrev AsMany : ℕ → ℕ → State → List Token → Type 0
  AsMany n m s mid = starts class_of (first_p s) mid ≡ true → many_from_turns class_of first_p p may step m s mid ≡ up_to n s mid

  -- one turn of both
  one_turn : (n m : ℕ) (s : State) (a : A) (mid : List Token) → AsMany n m s mid → (c d : Bool) → starts class_of (first_p s) mid ≡ d → cons_to a (turns c m s mid) ≡ joined a (when (c && d) (up_to n s) mid)
  unfolding some_of
  one_turn n m s a mid alike false d e = refl
  one_turn n m s a mid alike true false e = ap (cons_to a) (over_turns m s mid e)
  one_turn n m s a mid alike true true e = ap (cons_to a) (alike e) ∙ joined_some a (up_to n s mid)

  turn_of : (n m : ℕ) (s : State) (r : Outcome Token A) → ((a : A) (mid : List Token) → r ≡ Ok (a, mid) → AsMany n m (step s a) mid) →
      and_then r (λ a mid. cons_to a (turns (may s a) m (step s a) mid)) ≡
      and_then (and_then r (λ a mid. and_then (when (may s a && starts class_of (first_p (step s a)) mid) (up_to n (step s a)) mid) (λ b rest. Ok ((a, b), rest)))) (λ x rest. Ok (listed x, rest))
  turn_of n m s (Err d) alike = refl
  turn_of n m s (Ok (a, mid)) alike = one_turn n m (step s a) a mid (alike a mid refl) (may s a) (starts class_of (first_p (step s a)) mid) refl

  as_many : (n m : ℕ) (s : State) (ts : List Token) → length ts ≤ n → length ts ≤ m → AsMany n m s ts
  unfolding up_to
  as_many n m s [] few less on = clash false on refl
  as_many zero m s (t ∷ ts) few less on = absurd (omega arith)
  as_many (suc n) zero s (t ∷ ts) few less on = absurd (omega arith)
  as_many (suc n) (suc m) s (t ∷ ts) few less on =
      ap (λ (c : Bool). cond c (and_then (p s (t ∷ ts)) (λ a mid. cons_to a (turns (may s a) m (step s a) mid))) (Ok ([], t ∷ ts))) on ∙ turn_of n m s (p s (t ∷ ts)) (λ a mid e. as_many n m (step s a) mid
      (omega (arith, shorter_behind s (t ∷ ts) a mid (suc n) e few)) (omega (arith, shorter_behind s (t ∷ ts) a mid (suc m) e less)))

  -- more turns than tokens change nothing
  pub turns_from_enough : (n m : ℕ) (s : State) (ts : List Token) → length ts ≤ n → length ts ≤ m → many_from_turns class_of first_p p may step n s ts ≡ many_from_turns class_of first_p p may step m s ts
  turns_from_enough n m s ts few less = elim (cases_bool (starts class_of (first_p s) ts)) [
    | inl on ↦ as_many (length ts) n s ts (omega arith) few on ∙ sym (as_many (length ts) m s ts (omega arith) less on)
    | inr off ↦ over_turns n s ts off ∙ sym (over_turns m s ts off)
  ]

  some_none : (s : State) (r : Outcome Token A) → p s [] ≡ r → and_then r (λ a mid. cons_to a (turns (may s a) (length mid) (step s a) mid)) ≡ failed []
  some_none s (Ok (a, rest)) e = let l = (P s).sound [] a rest e in absurd (filled s a l.0 (both_empty (spell_p a) rest (sym l.1)).0)
  some_none s (Err rest) e = let k = (P s).fault [] rest e in ap (failed {A = List A}) (both_empty k.0 rest (sym k.1)).1

  -- one more turn for the tokens behind the first item
  some_turns : (s : State) (t : Token) (ts : List Token) (r : Outcome Token A) → p s (t ∷ ts) ≡ r → and_then r (λ a mid. cons_to a (turns (may s a) (length mid) (step s a) mid)) ≡ and_then r (λ a mid. cons_to a (turns (may s a) (length ts) (step s a) mid))
  some_turns s t ts (Err d) e = refl
  some_turns s t ts (Ok (a, mid)) e =
      let short : length mid < suc (length ts) = shorter_behind s (t ∷ ts) a mid (suc (length ts)) e (omega arith) in
      ap (λ (o : Outcome Token (List A)). cons_to a (cond (may s a) o (Ok ([], mid)))) (turns_from_enough (length mid) (length ts) (step s a) mid (omega arith) (omega arith))

  some_is : (s : State) (ts : List Token) → some_from class_of first_p p may step s ts ≡ up_to (length ts) s ts
  unfolding up_to
  some_is s [] = some_none s (p s []) refl
  some_is s (t ∷ ts) = some_turns s t ts (p s (t ∷ ts)) refl ∙ turn_of (length ts) (length ts) s (p s (t ∷ ts)) (λ a mid e. as_many (length ts) (length ts) (step s a) mid
      (omega (arith, shorter_behind s (t ∷ ts) a mid (suc (length ts)) e (omega arith))) (omega (arith, shorter_behind s (t ∷ ts) a mid (suc (length ts)) e (omega arith))))

  -- where an item begins, any number of items is one item or more
  pub many_from_is_some : (s : State) (ts : List Token) → starts class_of (first_p s) ts ≡ true → many_from class_of first_p p may step s ts ≡ some_from class_of first_p p may step s ts
  many_from_is_some s ts on = as_many (length ts) (length ts) s ts (omega arith) (omega arith) on ∙ sym (some_is s ts)

  -- one item or more
  pub some_from_laws : (s : State) → Laws class_of (some_from class_of first_p p may step s) (flat_map spell_p) (SomeFitFrom Fits_p may step s) (SeveralFrom spell_p Fits_p may step front_p s) (first_p s) (after_list_from first_p may step next_p s) false
  some_from_laws s = reread (limited_laws s) (some_is s)

  abbrev opening : Outcome Token (Option (List A)) → Outcome Token (List A)
  opening o = and_then o (λ x rest. Ok (opened x, rest))

  opening_some : (o : Outcome Token (List A)) → opening (some_of o) ≡ o
  unfolding some_of
  opening_some (Ok x) = refl
  opening_some (Err x) = refl

  many_by : (s : State) (c : Bool) (ts : List Token) → starts class_of (first_p s) ts ≡ c → many_from class_of first_p p may step s ts ≡ opening (when c (some_from class_of first_p p may step s) ts)
  unfolding some_of
  many_by s false ts e = over_turns (length ts) s ts e
  many_by s true ts e = as_many (length ts) (length ts) s ts (omega arith) (omega arith) e ∙ sym (some_is s ts) ∙ sym (opening_some (some_from class_of first_p p may step s ts))

  opened_fit : (s : State) (o : Option (List A)) → OptionFit (SomeFitFrom Fits_p may step s) o → EachFitFrom Fits_p may step s (opened o) × (spell (opened o) ≡ option_spelling spell o) × Within (after_option (first_p s) (next s) o) (next s (opened o))
  opened_fit s None fits = (tt, refl, within_self (first_p s))
  opened_fit s (Some all) fits = (fits.1, refl, within_self (next s all))

  option_of : (s : State) (all : List A) → EachFitFrom Fits_p may step s all → (o : Option (List A)) × OptionFit (SomeFitFrom Fits_p may step s) o × (opened o ≡ all)
  option_of s [] fits = (None, tt, refl)
  option_of s (a ∷ more) fits = (Some (a ∷ more), (refl, fits), refl)

  -- any number of items
  pub many_from_laws : (s : State) → Laws class_of (many_from class_of first_p p may step s) (flat_map spell_p) (EachFitFrom Fits_p may step s) (SeveralFrom spell_p Fits_p may step front_p s) (first_p s) (after_list_from first_p may step next_p s) true
  many_from_laws s = reread (mapped_laws (option_laws (some_from_laws s)) opened spell (next s) (opened_fit s) (option_of s)) (λ ts. many_by s (starts class_of (first_p s) ts) ts refl)
