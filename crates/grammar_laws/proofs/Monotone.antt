-- Fronts grow with what may fit: for fronts by depth, where a larger depth only accepts more.
use Rattle.std.proofs.Common.{◌≡◌, Bool, true, inl, inr, List, [], ◌∷◌}
use Rattle.std.specs.List.{AllByRecursion}
use Rattle.grammar_laws.specs.Fronts.{Front, JointBy, GoesOn, Several, Either, GoOnFrom, state_after, SeveralFrom}

pub joint_more : {Token A : Type 0} (spelling : A → List Token) {Fits Fits' : A → Type 0} {may may' : A → Bool} {first first' : Front Token} {second second' : A → Front Token} →
    ((ts : List Token) → first ts → first' ts) → ((a : A) → Fits a → Fits' a) → ((a : A) → Fits a → may a ≡ true → may' a ≡ true) → ((a : A) (ts : List Token) → second a ts → second' a ts) →
    (ts : List Token) → JointBy spelling Fits may first second ts → JointBy spelling Fits' may' first' second' ts
joint_more spelling first fits may second ts (inl h) = inl (first ts h)
joint_more spelling first fits may second ts (inr (a, more, fa, m, e, h)) = inr (a, more, fits a fa, may a fa m, e, second a more h)

pub either_more : {Token : Type 0} {front front' other other' : Front Token} → ((ts : List Token) → front ts → front' ts) → ((ts : List Token) → other ts → other' ts) → (ts : List Token) → Either front other ts → Either front' other' ts
either_more front other ts (inl h) = inl (front ts h)
either_more front other ts (inr h) = inr (other ts h)

module _ {A : Type 0} {Fits Fits' : A → Type 0} {may may' : A → Bool} (fits : (a : A) → Fits a → Fits' a) (may_more : (a : A) → Fits a → may a ≡ true → may' a ≡ true) where
  all_more : (all : List A) → AllByRecursion (GoesOn Fits may) all → AllByRecursion (GoesOn Fits' may') all
  all_more [] h = tt
  all_more (a ∷ all) h = ((fits a h.0.0, may_more a h.0.0 h.0.1), all_more all h.1)

  pub several_more : {Token : Type 0} (spelling : A → List Token) {front front' : Front Token} → ((ts : List Token) → front ts → front' ts) → (ts : List Token) → Several spelling Fits may front ts → Several spelling Fits' may' front' ts
  several_more spelling front_more ts (all, more, h, e, f) = (all, more, all_more all h, e, front_more more f)

module _ {State A : Type 0} {Fits Fits' : State → A → Type 0} {may may' : State → A → Bool} (step : State → A → State) (fits : (s : State) (a : A) → Fits s a → Fits' s a) (may_more : (s : State) (a : A) → Fits s a → may s a ≡ true → may' s a ≡ true) where
  go_more : (s : State) (all : List A) → GoOnFrom Fits may step s all → GoOnFrom Fits' may' step s all
  go_more s [] h = tt
  go_more s (a ∷ all) h = (fits s a h.0, may_more s a h.0 h.1, go_more (step s a) all h.2)

  pub several_from_more : {Token : Type 0} (spelling : A → List Token) {front front' : State → Front Token} → ((s : State) (ts : List Token) → front s ts → front' s ts) → (s : State) (ts : List Token) → SeveralFrom spelling Fits may step front s ts → SeveralFrom spelling Fits' may' step front' s ts
  several_from_more spelling front_more s ts (all, more, h, e, f) = (all, more, go_more s all h, e, front_more (state_after step s all) more f)
