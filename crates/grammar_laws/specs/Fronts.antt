-- Fronts: the lists of tokens that begin a list of the language, said by its trees.
-- A front has the first parts of one alternative in order, and the last of them may be unfinished.
use Rattle.std.specs.Prelude.{◌≡◌, ℕ, Bool, true, false, ◌||◌, List, [], ◌∷◌, ◌++◌, Option, Some, None, ◌⊎◌}
use Rattle.std.proofs.Common.{inl, inr}
use Rattle.std.specs.List.{flat_map, AllByRecursion}
use Rattle.grammar_laws.specs.Codes.{has, is_empty}

abbrev pub Front : Type 0 → Type 1
Front Token = List Token → Type 0

-- no token
abbrev pub Empty : {Token : Type 0} → Front Token
Empty ts = ts ≡ []

-- no token, or one whose code is one of these
abbrev pub OneOf : {Token : Type 0} → (Token → ℕ) → List ℕ → Front Token
OneOf {Token} class_of codes ts = (ts ≡ []) ⊎ ((t : Token) × (ts ≡ t ∷ []) × (has codes (class_of t) ≡ true))

-- a whole one that allows another behind it
abbrev pub GoesOn : {A : Type 0} → (A → Type 0) → (A → Bool) → A → Type 0
GoesOn F may a = F a × (may a ≡ true)

module _ {Token A : Type 0} (spelling : A → List Token) (Fits : A → Type 0) (may : A → Bool) where
  -- a front of the first part, or a whole first part that allows a second and a front of that
  abbrev pub JointBy : Front Token → (A → Front Token) → Front Token
  JointBy first second ts = first ts ⊎ ((a : A) × (more : List Token) × Fits a × (may a ≡ true) × (ts ≡ spelling a ++ more) × second a more)

  -- the same where the second does not depend on the first
  abbrev pub Joint : Front Token → Front Token → Front Token
  Joint first second = JointBy first (λ _. second)

  -- some whole items, each of which allows another, and a front of one
  abbrev pub Several : Front Token → Front Token
  Several front ts = (all : List A) × (more : List Token) × AllByRecursion (GoesOn Fits may) all × (ts ≡ flat_map spelling all ++ more) × front more

-- a front of one of two
abbrev pub Either : {Token : Type 0} → Front Token → Front Token → Front Token
Either front other ts = front ts ⊎ other ts

-- ---- the tokens and the well-formedness of parts

abbrev pub alone : {Token : Type 0} → Token → List Token
alone t = t ∷ []

abbrev pub IsOf : {Token : Type 0} → (Token → ℕ) → List ℕ → Token → Type 0
IsOf class_of codes t = has codes (class_of t) ≡ true

abbrev pub both_spelling : {Token A B : Type 0} → (A → List Token) → (B → List Token) → A × B → List Token
both_spelling f g x = f x.0 ++ g x.1

abbrev pub BothFitBy : {A B : Type 0} → (A → Type 0) → (A → B → Type 0) → A × B → Type 0
BothFitBy F G x = F x.0 × G x.0 x.1

abbrev pub BothFit : {A B : Type 0} → (A → Type 0) → (B → Type 0) → A × B → Type 0
BothFit F G x = F x.0 × G x.1

abbrev pub option_spelling : {Token B : Type 0} → (B → List Token) → Option B → List Token
option_spelling f None = []
option_spelling f (Some b) = f b

-- absent, or a fitting one
abbrev pub OptionFit : {B : Type 0} → (B → Type 0) → Option B → Type 0
OptionFit G None = Unit {0}
OptionFit G (Some b) = G b

-- absent, or a fitting one where it may stand
abbrev pub MayFit : {B : Type 0} → (B → Type 0) → Bool → Option B → Type 0
MayFit G may None = Unit {0}
MayFit G may (Some b) = (may ≡ true) × G b

-- absent where it is not needed, or a fitting one where it may stand
abbrev pub NeedFit : {B : Type 0} → (B → Type 0) → Bool → Bool → Option B → Type 0
NeedFit G needs may None = needs ≡ false
NeedFit G needs may (Some b) = (may ≡ true) × G b

-- each fits, and each but the last allows another
abbrev pub EachFit : {A : Type 0} → (A → Type 0) → (A → Bool) → List A → Type 0
EachFit F may [] = Unit {0}
EachFit F may (a ∷ more) = F a × ((may a || is_empty more) ≡ true) × EachFit F may more

-- the same of one or more
abbrev pub SomeFit : {A : Type 0} → (A → Type 0) → (A → Bool) → List A → Type 0
SomeFit F may all = (is_empty all ≡ false) × EachFit F may all

-- made so of a fitting one
abbrev pub Made : {A B : Type 0} → (A → B) → (A → Type 0) → B → Type 0
Made {A} f Fits b = (a : A) × Fits a × (f a ≡ b)

-- well formed, and not refused where it ends
abbrev pub GoodFit : {A : Type 0} → (A → Type 0) → (A → Bool) → A → Type 0
GoodFit F good a = F a × (good a ≡ true)

-- nothing fits
abbrev pub Nothing : {A : Type 0} → A → Type 0
Nothing a = ⊥

-- a first, and a second behind it or none
abbrev pub joined_spelling : {Token A B : Type 0} → (A → List Token) → (B → List Token) → A × Option B → List Token
joined_spelling f g x = f x.0 ++ option_spelling g x.1

abbrev pub FollowedFit : {A B : Type 0} → (A → Type 0) → (A → Bool) → (B → Type 0) → A × Option B → Type 0
FollowedFit F may G x = F x.0 × MayFit G (may x.0) x.1

abbrev pub ContinuedFitBy : {A B : Type 0} → (A → Type 0) → (A → Bool) → (A → Bool) → (A → B → Type 0) → A × Option B → Type 0
ContinuedFitBy F needs may G x = F x.0 × NeedFit (G x.0) (needs x.0) (may x.0) x.1

abbrev pub ContinuedFit : {A B : Type 0} → (A → Type 0) → (A → Bool) → (A → Bool) → (B → Type 0) → A × Option B → Type 0
ContinuedFit F needs may G = ContinuedFitBy F needs may (λ _. G)

-- of one kind or of the other
abbrev pub EitherFit : {A : Type 0} → (A → Type 0) → (A → Type 0) → A → Type 0
EitherFit F G a = F a ⊎ G a

-- no fitting tree has the tokens of this one
abbrev pub Alone : {Token A : Type 0} → (A → List Token) → (A → Type 0) → A → Type 0
Alone {Token} {A} spelling F b = (a : A) → F a → spelling a ≡ spelling b → ⊥

-- of the first kind, or of the second where no tree of the first kind has its tokens
abbrev pub FirstFit : {Token A : Type 0} → (A → List Token) → (A → Type 0) → (A → Type 0) → A → Type 0
FirstFit spelling F G a = F a ⊎ (G a × Alone spelling F a)

-- what is spelled, and fits, by the whole items and the half behind them
abbrev pub ended_spelling : {Token B H : Type 0} → (B ⊎ H → List Token) → List B × Option H → List Token
ended_spelling f x = flat_map (λ b. f (inl b)) x.0 ++ option_spelling (λ h. f (inr h)) x.1

abbrev pub EndedFit : {B H : Type 0} → (B ⊎ H → Type 0) → List B × Option H → Type 0
EndedFit F x = AllByRecursion (λ b. F (inl b)) x.0 × OptionFit (λ h. F (inr h)) x.1

abbrev pub nothing_ended : {B H : Type 0} → List B × Option H → Bool
nothing_ended ([], None) = true
nothing_ended ([], Some h) = false
nothing_ended ((b ∷ more), o) = false

-- the same with one item or half at least
abbrev pub SomeEndedFit : {B H : Type 0} → (B ⊎ H → Type 0) → List B × Option H → Type 0
SomeEndedFit F x = (nothing_ended x ≡ false) × EndedFit F x

-- a sign with what it begins, or the sign alone
abbrev pub piece_spelling : {Token S A : Type 0} → (S → List Token) → (A → List Token) → (S × A) ⊎ S → List Token
piece_spelling f g (inl x) = f x.0 ++ g x.1
piece_spelling f g (inr x) = f x

abbrev pub PieceFit : {S A : Type 0} → (S → Type 0) → (A → Type 0) → (S × A) ⊎ S → Type 0
PieceFit F G (inl x) = F x.0 × G x.1
PieceFit F G (inr x) = F x

abbrev pub after_piece : {S A : Type 0} → (S → List ℕ) → List ℕ → (A → List ℕ) → (S × A) ⊎ S → List ℕ
after_piece f first g (inl x) = g x.1
after_piece f first g (inr x) = f x ++ first

-- ---- lists whose items change a state, on which the next item depends

module _ {State A : Type 0} (F : State → A → Type 0) (may : State → A → Bool) (step : State → A → State) where
  -- each fits where it stands, and each but the last allows another
  abbrev pub EachFitFrom : State → List A → Type 0
  EachFitFrom s [] = Unit {0}
  EachFitFrom s (a ∷ more) = F s a × ((may s a || is_empty more) ≡ true) × EachFitFrom (step s a) more

  abbrev pub SomeFitFrom : State → List A → Type 0
  SomeFitFrom s all = (is_empty all ≡ false) × EachFitFrom s all

  -- each fits where it stands and allows another
  abbrev pub GoOnFrom : State → List A → Type 0
  GoOnFrom s [] = Unit {0}
  GoOnFrom s (a ∷ more) = F s a × (may s a ≡ true) × GoOnFrom (step s a) more

abbrev pub state_after : {State A : Type 0} → (State → A → State) → State → List A → State
state_after step s [] = s
state_after step s (a ∷ more) = state_after step (step s a) more

-- some whole items, each of which allows another, and a front of one in the state behind them
abbrev pub SeveralFrom : {Token State A : Type 0} → (A → List Token) → (State → A → Type 0) → (State → A → Bool) → (State → A → State) → (State → Front Token) → State → Front Token
SeveralFrom {Token} {State} {A} spelling F may step front s ts = (all : List A) × (more : List Token) × GoOnFrom F may step s all × (ts ≡ flat_map spelling all ++ more) × front (state_after step s all) more
