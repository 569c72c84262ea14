-- What holds of a reader, its printer, its well-formedness and its fronts together.
use Rattle.std.specs.Prelude.{◌≡◌, ℕ, Bool, true, false, List, [], ◌∷◌, ◌++◌, Ok, Err}
use Rattle.grammar_laws.specs.Codes.{has}
use Rattle.grammar_laws.specs.Readers.{Reader, starts}
use Rattle.grammar_laws.specs.Fronts.{Front}

-- the next token is none of these, or there is none
abbrev pub Stops : {Token : Type 0} → (Token → ℕ) → List ℕ → List Token → Type 0
Stops class_of codes rest = starts class_of codes rest ≡ false

-- no front goes on from here with the next token
abbrev pub Ends : {Token : Type 0} → Front Token → List Token → List Token → Type 0
Ends {Token} front a rest = (t : Token) (more : List Token) → rest ≡ t ∷ more → front (a ++ t ∷ []) → ⊥

-- what stands before the rest is a front, and it ends there
abbrev pub Stuck : {Token : Type 0} → Front Token → List Token → List Token → Type 0
Stuck {Token} front ts rest = (before : List Token) × (ts ≡ before ++ rest) × front before × Ends front before rest

-- `first` has the codes of the tokens that begin a front, `next` those that may go on behind a whole tree
pub record Laws {Token : Type 0} (class_of : Token → ℕ) {A : Type 0} (read : Reader Token A) (spelling : A → List Token) (Fits : A → Type 0) (front : Front Token) (first : List ℕ) (next : A → List ℕ) (may_be_empty : Bool) : Type 0 where
  -- what was read is well formed, and its tokens are those that were taken
  pub sound : (ts : List Token) (a : A) (rest : List Token) → read ts ≡ Ok (a, rest) → Fits a × (ts ≡ spelling a ++ rest)
  -- what was read is as long as it can be
  pub longest : (ts : List Token) (a : A) (t : Token) (rest : List Token) → read ts ≡ Ok (a, t ∷ rest) → front (spelling a ++ t ∷ []) → ⊥
  -- a fault stands at the first token with which the list is no front
  pub fault : (ts rest : List Token) → read ts ≡ Err rest → Stuck front ts rest
  -- the tokens of a well-formed tree are read as that tree, unless they go on
  pub complete : (a : A) (rest : List Token) → Fits a → Stops class_of (next a) rest → read (spelling a ++ rest) ≡ Ok (a, rest)
  -- the tokens of a well-formed tree are a front
  pub whole : (a : A) → Fits a → front (spelling a)
  pub none : front []
  -- what begins a front is a front
  pub closed : (x y : List Token) → front (x ++ y) → front x
  pub firsts : (t : Token) (ts : List Token) → front (t ∷ ts) → has first (class_of t) ≡ true
  pub nexts : (a : A) (t : Token) (ts : List Token) → Fits a → front (spelling a ++ t ∷ ts) → has (next a) (class_of t) ≡ true
  pub empties : (a : A) → Fits a → spelling a ≡ [] → may_be_empty ≡ true
