-- The laws of the whole ladder of binary levels, by induction on the level.
use Rattle.std.proofs.Common.{◌≡◌, ℕ, zero, suc, ◌<◌, ◌≤◌, Bool, true, false, cond, List, [], ◌∷◌, ◌++◌, Option, Some, None, refl, sym, subst, arith}
use Rattle.std.proofs.lemmas.List.{append-nil}
use Rattle.grammar_laws.specs.Codes.{is_empty, Apart, Within, given, nowhere}
use Rattle.grammar_laws.specs.Readers.{Reader, both}
use Rattle.grammar_laws.specs.Fronts.{Front, both_spelling, BothFit, joined_spelling}
use Rattle.grammar_laws.specs.Laws.{Laws}
use Rattle.grammar_laws.specs.Ladder.{Table, single, row_reader, ladder, row_spelling, OneFit, RowFit, ItemFront, RowFront, after_one, after_row, ladder_front, RowParts, after_parts, after_level, last_shut}
use Rattle.grammar_laws.proofs.Codes.{clash, apart_none, within_self, within_union, within_given}
use Rattle.grammar_laws.proofs.Restated.{mapped_laws}
use Rattle.grammar_laws.proofs.Combined.{both_laws}
use Rattle.grammar_laws.proofs.Followed.{followed_laws}
use Rattle.grammar_laws.proofs.Repeated.{some_laws}

-- ---- one row: operators, and operands behind them

module _ {Token : Type 0} {class_of : Token → ℕ} {O A : Type 0}
    {operator : Reader Token O} {spell_o : O → List Token} {Fits_o : O → Type 0} {front_o : Front Token} {codes : List ℕ} (O_laws : Laws class_of operator spell_o Fits_o front_o codes nowhere false)
    {lower : Reader Token A} {spell : A → List Token} {Fits : A → Type 0} {front : Front Token} {first : List ℕ} {next : A → List ℕ} (L : Laws class_of lower spell Fits front first next false)
    (shut : A → Bool) (apart : (a : A) → Fits a → shut a ≡ true → Apart (next a) codes) where
  item_laws : Laws class_of (both operator lower) (both_spelling spell_o spell) (BothFit Fits_o Fits) (ItemFront spell_o Fits_o front_o spell Fits front) codes (λ x. next x.1) false
  item_laws = both_laws O_laws L (λ o fits. apart_none first)

  single_fit : (x : O × A) → BothFit Fits_o Fits x → OneFit (BothFit Fits_o Fits) (single x) × (row_spelling spell_o spell (single x) ≡ both_spelling spell_o spell x) × Within (next x.1) (after_one (λ y. next y.1) (single x))
  single_fit x fits = (fits, append-nil (both_spelling spell_o spell x), within_self (next x.1))

  single_of : (l : List (O × A)) → OneFit (BothFit Fits_o Fits) l → (x : O × A) × BothFit Fits_o Fits x × (single x ≡ l)
  single_of [] fits = absurd fits
  single_of (x ∷ []) fits = (x, fits, refl)
  single_of (x ∷ y ∷ more) fits = absurd fits

  pub row_laws : (once : Bool) → Laws class_of (row_reader class_of once shut codes operator lower) (row_spelling spell_o spell) (RowFit once shut Fits_o Fits) (RowFront spell_o Fits_o front_o spell Fits front once shut) codes (after_row once shut codes next) false
  row_laws true = mapped_laws item_laws single (row_spelling spell_o spell) (after_one (λ x. next x.1)) single_fit single_of
  row_laws false = some_laws item_laws (λ x. shut x.1) (λ x fits on. apart x.1 fits.1 on)

-- ---- all levels up to the top

module _ {Token : Type 0} {class_of : Token → ℕ} {O A : Type 0} (table : Table Token O A) (top : ℕ)
    {spell_o : O → List Token} {Fits_o : ℕ → O → Type 0} {front_o : ℕ → Front Token}
    (O_laws : (i : ℕ) → i < top → Laws class_of (table.operator i) spell_o (Fits_o i) (front_o i) (table.codes i) nowhere false)
    {spell : A → List Token} (Fit : ℕ → A → Type 0) (next : ℕ → A → List ℕ) {first : List ℕ}
    {here : Reader Token A} {front_here : Front Token} (H : Laws class_of here spell (Fit 0) front_here first (next 0) false)
    {lower : ℕ → Reader Token A} {Below : ℕ → A → Type 0} {front_low : ℕ → Front Token} (L : (i : ℕ) → i < top → Laws class_of (lower i) spell (Below i) (front_low i) first (next i) false)
    (apart_here : (i : ℕ) → i < top → (a : A) → Fit i a → table.may i a ≡ true → Apart (next i a) (table.codes i))
    (apart_low : (i : ℕ) → i < top → (a : A) → Below i a → table.shut a ≡ true → Apart (next i a) (table.codes i))
    (forth : (i : ℕ) → i < top → (x : A × Option (List (O × A))) → RowParts table Fits_o Fit Below i x → Fit (suc i) (table.join i x) × (spell (table.join i x) ≡ joined_spelling spell (row_spelling spell_o spell) x) × Within (after_parts table next i x) (next (suc i) (table.join i x)))
    (back : (i : ℕ) → i < top → (b : A) → Fit (suc i) b → (x : A × Option (List (O × A))) × RowParts table Fits_o Fit Below i x × (table.join i x ≡ b)) where
  pub ladder_laws : (i : ℕ) → i ≤ top → Laws class_of (ladder class_of table here lower i) spell (Fit i) (ladder_front table spell_o Fits_o front_o spell Fit Below front_here front_low i) first (next i) false
  ladder_laws zero le = H
  ladder_laws (suc i) le =
      let there : i < top = omega arith in
      mapped_laws (followed_laws (ladder_laws i (omega arith)) (row_laws (O_laws i there) (L i there) table.shut (apart_low i there) (table.once i)) (table.may i) (apart_here i there)) (table.join i) spell (next (suc i)) (forth i there) (back i there)

-- ---- the same by a table of codes

module _ {A : Type 0} (shut : A → Bool) (after : ℕ → List ℕ) (beyond : List ℕ) where
  abbrev level_next : ℕ → A → List ℕ
  level_next = after_level shut after beyond

  module _ (i : ℕ) (codes : List ℕ) (up : Within (after i) (after (suc i))) (own : Within codes (after (suc i))) where
    -- behind a first operand alone
    one_operand : (a : A) (b may : Bool) → (may ≡ true → b ≡ true) → Within (cond b (after i) beyond ++ given may codes) (cond b (after (suc i)) beyond)
    one_operand a true may on = within_union up (within_given may (λ m. own))
    one_operand a false may on = within_union (within_self beyond) (within_given may (λ m. clash false (on m) refl))

    last_operand : (b : Bool) → Within (cond b (after i) beyond) (cond b (after (suc i)) beyond)
    last_operand true = up
    last_operand false = within_self beyond

    last_of_many : {O : Type 0} (l : List (O × A)) → is_empty l ≡ false → Within (after_row false shut codes (level_next i) l) (cond (last_shut shut l) (after (suc i)) beyond)
    last_of_many [] some = clash true refl some
    last_of_many (x ∷ []) some = one_operand x.1 (shut x.1) (shut x.1) (λ on. on)
    last_of_many (x ∷ y ∷ more) some = last_of_many (y ∷ more) refl

    -- behind the last operand of a row
    last_of : {O : Type 0} (F : O → Type 0) (G : A → Type 0) (once : Bool) (l : List (O × A)) → RowFit once shut F G l → Within (after_row once shut codes (level_next i) l) (cond (last_shut shut l) (after (suc i)) beyond)
    last_of F G true [] fits = absurd fits
    last_of F G true (x ∷ []) fits = last_operand (shut x.1)
    last_of F G true (x ∷ y ∷ more) fits = absurd fits
    last_of F G false l fits = last_of_many l fits.0

row_some : {O A : Type 0} (F : O → Type 0) (G : A → Type 0) (shut : A → Bool) (once : Bool) (l : List (O × A)) → RowFit once shut F G l → is_empty l ≡ false
row_some F G shut true [] fits = absurd fits
row_some F G shut true (x ∷ more) fits = refl
row_some F G shut false l fits = fits.0

module _ {Token : Type 0} {class_of : Token → ℕ} {O A : Type 0} (table : Table Token O A) (top : ℕ)
    {spell_o : O → List Token} {Fits_o : ℕ → O → Type 0} {front_o : ℕ → Front Token}
    (O_laws : (i : ℕ) → i < top → Laws class_of (table.operator i) spell_o (Fits_o i) (front_o i) (table.codes i) nowhere false)
    {spell : A → List Token} (Fit : ℕ → A → Type 0) (after : ℕ → List ℕ) (beyond : List ℕ) {first : List ℕ}
    {here : Reader Token A} {front_here : Front Token} (H : Laws class_of here spell (Fit 0) front_here first (after_level table.shut after beyond 0) false)
    {lower : ℕ → Reader Token A} {Below : ℕ → A → Type 0} {front_low : ℕ → Front Token} (L : (i : ℕ) → i < top → Laws class_of (lower i) spell (Below i) (front_low i) first (after_level table.shut after beyond i) false)
    (may_shut : (i : ℕ) (a : A) → table.may i a ≡ true → table.shut a ≡ true)
    (join_none : (i : ℕ) (a : A) → table.shut (table.join i (a, None)) ≡ table.shut a)
    (join_some : (i : ℕ) (a : A) (l : List (O × A)) → is_empty l ≡ false → table.shut (table.join i (a, Some l)) ≡ last_shut table.shut l)
    (up : (i : ℕ) → i < top → Within (after i) (after (suc i))) (own : (i : ℕ) → i < top → Within (table.codes i) (after (suc i))) (off : (i : ℕ) → i < top → Apart (after i) (table.codes i))
    (forth : (i : ℕ) → i < top → (x : A × Option (List (O × A))) → RowParts table Fits_o Fit Below i x → Fit (suc i) (table.join i x) × (spell (table.join i x) ≡ joined_spelling spell (row_spelling spell_o spell) x))
    (back : (i : ℕ) → i < top → (b : A) → Fit (suc i) b → (x : A × Option (List (O × A))) × RowParts table Fits_o Fit Below i x × (table.join i x ≡ b)) where
  abbrev next : ℕ → A → List ℕ
  next = after_level table.shut after beyond

  apart_shut : (i : ℕ) → i < top → (b : Bool) → b ≡ true → Apart (cond b (after i) beyond) (table.codes i)
  apart_shut i low true on = off i low
  apart_shut i low false on = absurd cc

  nexts_row : (i : ℕ) → i < top → (x : A × Option (List (O × A))) → RowParts table Fits_o Fit Below i x → Within (after_parts table next i x) (next (suc i) (table.join i x))
  nexts_row i low (a, None) fits = subst (λ (b : Bool). Within (after_parts table next i (a, None)) (cond b (after (suc i)) beyond)) (sym (join_none i a)) (one_operand table.shut after beyond i (table.codes i) (up i low) (own i low) a (table.shut a) (table.may i a) (may_shut i a))
  nexts_row i low (a, Some l) fits =
      subst (λ (b : Bool). Within (after_parts table next i (a, Some l)) (cond b (after (suc i)) beyond)) (sym (join_some i a l (row_some (Fits_o i) (Below i) table.shut (table.once i) l fits.1.1)))
      (last_of table.shut after beyond i (table.codes i) (up i low) (own i low) (Fits_o i) (Below i) (table.once i) l fits.1.1)

  pub table_laws : (i : ℕ) → i ≤ top → Laws class_of (ladder class_of table here lower i) spell (Fit i) (ladder_front table spell_o Fits_o front_o spell Fit Below front_here front_low i) first (after_level table.shut after beyond i) false
  table_laws = ladder_laws table top O_laws Fit next H L (λ i low a fits on. apart_shut i low (table.shut a) (may_shut i a on)) (λ i low a fits on. apart_shut i low (table.shut a) on)
      (λ i low x fits. let w = forth i low x fits in (w.0, w.1, nexts_row i low x fits)) back
