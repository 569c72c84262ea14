-- Ways of making readers that the productions share, beside those of grammar_laws.
use Rattle.std.specs.Prelude.{ℕ, zero, suc, ◌+◌, ◌-◌, Bool, ◌&&◌, if◌then◌else◌, List, [], ◌∷◌, length, take, drop, Option, Some, None, Ok, Err}
use Rattle.dart_base.specs.declared.place.Place.{Place}
use Rattle.dart_token.specs.declared.token.Token.{Token}
use Rattle.dart_token.specs.declared.sign.Sign.TheVariants as s
use Rattle.grammar_laws.specs.Codes.{has}
use Rattle.grammar_laws.specs.Readers.{Outcome, Reader, and_then, mapped, both, when, one, followed, tried, cons_to}
use Rattle.grammar_laws.specs.Halves.{Pending, with_none, no_half}
use Rattle.token_codes.specs.Codes.{class_of, names, sign_code, these}
use Rattle.token_codes.specs.Leaves.{sign}

-- ---- one after the other

infixr 30 ◌~◌
-- one and then the other
abbrev pub ◌~◌ : {A B : Type 0} → Reader Token A → Reader Token B → Reader Token (A × B)
p ~ q = both p q

-- what is made of the parts of a sequence, by their number
abbrev pub made₂ : {A B X : Type 0} → (A → B → X) → Reader Token (A × B) → Reader Token X
made₂ f p = mapped (λ x. f x.0 x.1) p

abbrev pub made₃ : {A B C X : Type 0} → (A → B → C → X) → Reader Token (A × (B × C)) →
    Reader Token X
made₃ f p = made₂ (λ a x. f a x.0 x.1) p

abbrev pub made₄ : {A B C D X : Type 0} → (A → B → C → D → X) →
    Reader Token (A × (B × (C × D))) → Reader Token X
made₄ f p = made₃ (λ a b x. f a b x.0 x.1) p

abbrev pub made₅ : {A B C D E X : Type 0} → (A → B → C → D → E → X) →
    Reader Token (A × (B × (C × (D × E)))) → Reader Token X
made₅ f p = made₄ (λ a b c x. f a b c x.0 x.1) p

abbrev pub made₆ : {A B C D E F X : Type 0} → (A → B → C → D → E → F → X) →
    Reader Token (A × (B × (C × (D × (E × F))))) → Reader Token X
made₆ f p = made₅ (λ a b c d x. f a b c d x.0 x.1) p

abbrev pub made₇ : {A B C D E F G X : Type 0} → (A → B → C → D → E → F → G → X) →
    Reader Token (A × (B × (C × (D × (E × (F × G)))))) → Reader Token X
made₇ f p = made₆ (λ a b c d e x. f a b c d e x.0 x.1) p

abbrev pub made₈ : {A B C D E F G H X : Type 0} → (A → B → C → D → E → F → G → H → X) →
    Reader Token (A × (B × (C × (D × (E × (F × (G × H))))))) → Reader Token X
made₈ f p = made₇ (λ a b c d e g x. f a b c d e g x.0 x.1) p

abbrev pub made₉ : {A B C D E F G H I X : Type 0} → (A → B → C → D → E → F → G → H → I → X) →
    Reader Token (A × (B × (C × (D × (E × (F × (G × (H × I)))))))) → Reader Token X
made₉ f p = made₈ (λ a b c d e g h x. f a b c d e g h x.0 x.1) p

-- nothing, and this tree, whatever comes
abbrev pub always_gives : {A : Type 0} → A → Reader Token A
always_gives a ts = Ok (a, ts)

-- this where the condition holds, and else a fault here
abbrev pub only_if : {A : Type 0} → Bool → Reader Token A → Reader Token A
only_if c p ts = if c then p ts else Err ts

-- this where the test holds of what comes, and else nothing at all
abbrev pub option_where : {A : Type 0} → (List Token → Bool) → Reader Token A →
    Reader Token (Option A)
option_where test p ts = when (test ts) p ts

-- ---- lists whose items a test of what comes tells

module _ {A : Type 0} (test : List Token → Bool) (p : Reader Token A) where
  abbrev pub many_where_turns : ℕ → Reader Token (List A)
  many_where_turns zero ts = Ok ([], ts)
  many_where_turns (suc n) ts = if test ts then and_then (p ts)
      (λ a mid. cons_to a (many_where_turns n mid)) else Ok ([], ts)

  abbrev pub many_where : Reader Token (List A)
  many_where ts = many_where_turns (length ts) ts

-- ---- faults that come later

-- a fault where this ends
abbrev pub halting : {A B : Type 0} → Reader Token A → Reader Token B
halting p ts = and_then (p ts) (λ a rest. Err rest)

-- the same reader where an identifier may come as another thing too: if it has no room for one, the
-- fault stands behind it
abbrev pub past_name : {A : Type 0} → Reader Token A → Reader Token A
past_name p = tried (halting (one class_of names)) p

-- ---- brackets

-- how many brackets are open behind a token of this code
abbrev pub opening : List ℕ
opening = sign_code s.LeftParenthesis ∷ sign_code s.LeftBracket ∷ sign_code s.LeftBrace ∷ []

abbrev pub closing : List ℕ
closing = sign_code s.RightParenthesis ∷ sign_code s.RightBracket ∷ sign_code s.RightBrace ∷ []

abbrev pub open_behind : ℕ → ℕ → ℕ
open_behind n code = if has opening code then n + 1 else if has closing code then n - 1 else n

-- the tokens behind the brackets that close so many open ones
abbrev pub behind_open : ℕ → List Token → List Token
behind_open zero ts = ts
behind_open (suc n) [] = []
behind_open (suc n) (t ∷ ts) = behind_open (open_behind (suc n) (class_of t)) ts

-- the tokens behind the bracket that closes the one that comes
abbrev pub behind_brackets : List Token → List Token
behind_brackets [] = []
behind_brackets (t ∷ ts) = behind_open 1 ts

-- this many tokens read as if no others came, and all of them; a fault stands where as many of them are left
abbrev pub ended_at : {A : Type 0} → ℕ → List Token → Outcome Token A → Outcome Token A
ended_at n ts (Ok (a, [])) = Ok (a, drop n ts)
ended_at n ts (Ok (a, (t ∷ more))) = Err (drop (n - length (t ∷ more)) ts)
ended_at n ts (Err rest) = Err (drop (n - length rest) ts)

abbrev pub up_to : {A : Type 0} → ℕ → Reader Token A → Reader Token A
up_to n p ts = ended_at n ts (p (take n ts))

-- ---- what may end in an operand is read with the half of a `> >` or `> >=` that stands behind it,
-- or none

abbrev pub Open : Type 0 → Type 0
Open A = Pending A Place

-- made of an open part, which stands last
abbrev pub with_half : {A B : Type 0} → (A → B) → Open A → Open B
with_half f x = (f x.0, x.1)

-- what ends in no operand has no half
abbrev pub shut : {A : Type 0} → Reader Token A → Reader Token (Open A)
shut p = mapped with_none p

-- the first `>` behind a tree that may be followed by it
abbrev pub take_half : {A : Type 0} → Open A × Option Place → Open A
take_half (x, None) = x
take_half (x, Some greater) = (x.0, Some greater)

abbrev pub halved : {A : Type 0} → (A → Bool) → Reader Token (Open A) → Reader Token (Open A)
halved may p = mapped take_half
    (followed class_of (λ x. no_half x && may x.0) (these s.Greater) p (sign s.Greater))
