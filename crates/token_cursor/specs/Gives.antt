-- What a function that reads ensures: it gives what the reader gives, unless memory runs out.
use Rattle.std.specs.Prelude.{◌≡◌, ℕ, ◌≤◌, List, [], ◌∷◌, Result, Ok, Err}
use Rattle.dart_token.specs.declared.token.Token.{Token}
use Rattle.grammar_laws.specs.Readers.{Outcome}
use Rattle.token_codes.specs.Codes.{class_of}
use Rattle.token_cursor.specs.declared.error.ReadFault.{ReadFault}
use Rattle.token_cursor.specs.declared.error.ReadFault.TheVariants.{Stuck, Memory}

-- what is read is a value of the definitions itself
abbrev pub same : {A : Type 0} → A → A
same a = a

-- the value is the view of what the reader gives, and the cursor stands behind it; or it stands where the reader stops
abbrev pub Gives : {X A : Type 0} → (X → A) → Outcome Token A → Result X ReadFault → List Token → Type 0
Gives view outcome (Ok x) new = outcome ≡ Ok (view x, new)
Gives view outcome (Err Stuck) new = outcome ≡ Err new
Gives view outcome (Err Memory) new = Unit {0}

-- the same for a tree with its height beside it, which is at most the depth
abbrev pub GivesHigh : {X A : Type 0} → (X → A) → (A → ℕ) → ℕ → Outcome Token A → Result (X × ℕ) ReadFault → List Token → Type 0
GivesHigh view height depth outcome (Ok x) new =
    (outcome ≡ Ok (view x.0, new)) × (x.1 ≡ height (view x.0)) × (x.1 ≤ depth)
GivesHigh view height depth outcome (Err Stuck) new = outcome ≡ Err new
GivesHigh view height depth outcome (Err Memory) new = Unit {0}

-- the code of the next token, or one that no token has
abbrev pub end_code : ℕ
end_code = 255

abbrev pub next_code : List Token → ℕ
next_code [] = end_code
next_code (t ∷ ts) = class_of t
