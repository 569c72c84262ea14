-- Binary levels by a table: level 0 is the operand, and each level above is the one below with operators of its own row.
use Rattle.std.specs.Prelude.{ℕ, zero, suc, Bool, true, false, if◌then◌else◌, List, [], ◌∷◌, Option}
use Rattle.std.specs.List.{flat_map}
use Rattle.grammar_laws.specs.Codes.{is_empty, after_list, after_followed}
use Rattle.grammar_laws.specs.Readers.{Reader, mapped, both, followed, some, always}
use Rattle.grammar_laws.specs.Fronts.{Front, Joint, Several, both_spelling, BothFit, SomeFit, FollowedFit}

-- for each row: the codes of its operators and how one is read, whether it takes one operator or many,
-- which operand an operator may follow, and the tree; `shut` tells the operands that end before an operator
pub record Table (Token O A : Type 0) : Type 0 where
  pub codes : ℕ → List ℕ
  pub operator : ℕ → Reader Token O
  pub once : ℕ → Bool
  pub may : ℕ → A → Bool
  pub shut : A → Bool
  pub join : ℕ → A × Option (List (O × A)) → A

abbrev pub single : {A : Type 0} → A → List A
single a = a ∷ []

-- ---- what stands behind the first operand: operators, and operands read by `lower`

abbrev pub row_reader : {Token : Type 0} → (Token → ℕ) → {O A : Type 0} → Bool → (A → Bool) → List ℕ → Reader Token O → Reader Token A → Reader Token (List (O × A))
row_reader class_of true shut codes operator lower = mapped single (both operator lower)
row_reader class_of false shut codes operator lower = some class_of (λ x. shut x.1) codes (both operator lower)

abbrev pub ladder : {Token : Type 0} → (Token → ℕ) → {O A : Type 0} → Table Token O A → Reader Token A → (ℕ → Reader Token A) → ℕ → Reader Token A
ladder class_of table here lower zero = here
ladder class_of table here lower (suc i) = mapped (table.join i) (followed class_of (table.may i) (table.codes i) (ladder class_of table here lower i) (row_reader class_of (table.once i) table.shut (table.codes i) (table.operator i) (lower i)))

-- ---- its tokens, its fitting lists and its fronts

abbrev pub row_spelling : {Token O A : Type 0} → (O → List Token) → (A → List Token) → List (O × A) → List Token
row_spelling f g = flat_map (both_spelling f g)

-- exactly one, and it fits
abbrev pub OneFit : {A : Type 0} → (A → Type 0) → List A → Type 0
OneFit F [] = ⊥
OneFit F (a ∷ []) = F a
OneFit F (a ∷ b ∷ more) = ⊥

abbrev pub RowFit : {O A : Type 0} → Bool → (A → Bool) → (O → Type 0) → (A → Type 0) → List (O × A) → Type 0
RowFit true shut F G = OneFit (BothFit F G)
RowFit false shut F G = SomeFit (BothFit F G) (λ x. shut x.1)

module _ {Token O A : Type 0} (spell_o : O → List Token) (Fits_o : O → Type 0) (front_o : Front Token) (spell : A → List Token) (Fits : A → Type 0) (front : Front Token) where
  abbrev pub ItemFront : Front Token
  ItemFront = Joint spell_o Fits_o always front_o front

  abbrev pub RowFront : Bool → (A → Bool) → Front Token
  RowFront true shut = ItemFront
  RowFront false shut = Several (both_spelling spell_o spell) (BothFit Fits_o Fits) (λ x. shut x.1) ItemFront

-- what may go on behind the last operand of a row
abbrev pub after_one : {A : Type 0} → (A → List ℕ) → List A → List ℕ
after_one f [] = []
after_one f (a ∷ more) = f a

abbrev pub after_row : {O A : Type 0} → Bool → (A → Bool) → List ℕ → (A → List ℕ) → List (O × A) → List ℕ
after_row true shut codes f = after_one (λ x. f x.1)
after_row false shut codes f = after_list codes (λ x. shut x.1) (λ x. f x.1)

-- the fronts of each level over those of the operand here and of the operands that are read below
abbrev pub ladder_front : {Token O A : Type 0} → Table Token O A → (O → List Token) → (ℕ → O → Type 0) → (ℕ → Front Token) → (A → List Token) → (ℕ → A → Type 0) → (ℕ → A → Type 0) → Front Token → (ℕ → Front Token) → ℕ → Front Token
ladder_front table spell_o Fits_o front_o spell Fit Below front_here front_low zero = front_here
ladder_front table spell_o Fits_o front_o spell Fit Below front_here front_low (suc i) =
    Joint spell (Fit i) (table.may i) (ladder_front table spell_o Fits_o front_o spell Fit Below front_here front_low i) (RowFront spell_o (Fits_o i) (front_o i) spell (Below i) (front_low i) (table.once i) table.shut)

-- a first operand of a level, with operators of its row or none, and what may go on behind them
abbrev pub RowParts : {Token O A : Type 0} → Table Token O A → (ℕ → O → Type 0) → (ℕ → A → Type 0) → (ℕ → A → Type 0) → ℕ → A × Option (List (O × A)) → Type 0
RowParts table Fits_o Fit Below i = FollowedFit (Fit i) (table.may i) (RowFit (table.once i) table.shut (Fits_o i) (Below i))

abbrev pub after_parts : {Token O A : Type 0} → Table Token O A → (ℕ → A → List ℕ) → ℕ → A × Option (List (O × A)) → List ℕ
after_parts table next i = after_followed (next i) (table.may i) (table.codes i) (after_row (table.once i) table.shut (table.codes i) (next i))

-- ---- operands that end before an operator have one set of next codes for each level; behind the others, which end in
-- a part that takes all it can, there is one larger set

abbrev pub after_level : {A : Type 0} → (A → Bool) → (ℕ → List ℕ) → List ℕ → ℕ → A → List ℕ
after_level shut after beyond i a = if shut a then after i else beyond

-- the last operand of a row ends before an operator
abbrev pub last_shut : {O A : Type 0} → (A → Bool) → List (O × A) → Bool
last_shut shut [] = true
last_shut shut (x ∷ more) = if is_empty more then shut x.1 else last_shut shut more
