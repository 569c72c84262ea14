-- A test of lists of tokens that tells by how a list begins what kind of declaration it can be: a function, an accessor or variables, by what
-- stands behind a type or a name; an alias with a result or without, by what stands behind a name.
use Rattle.std.proofs.Common.{◌≡◌, ℕ, ◌==◌, Bool, true, false, not, ◌||◌, List, [], ◌∷◌, refl}
use Rattle.dart_token.specs.declared.token.Token.{Token}
use Rattle.dart_token.specs.declared.token.TokenKind.{TokenKind}
use Rattle.dart_token.specs.declared.token.TokenKind.TheVariants as tk
use Rattle.dart_token.specs.declared.sign.Sign.{Sign}
use Rattle.dart_token.specs.declared.sign.Sign.TheVariants as s
use Rattle.dart_token.specs.declared.word.Word.{Word}
use Rattle.dart_token.specs.declared.word.Word.TheVariants as w
use Rattle.laws_apart.proofs.Judges.{all_of, each, implies, implied}

-- ---- the tokens that matter

pub data Sort : Type 0 where
  -- an identifier that is not `get` or `set`, and these
  plain : Sort
  accessor_word : Sort
  void_word : Sort
  dynamic_word : Sort
  -- `var`, `final` and `const`
  variable_word : Sort
  external_word : Sort
  typedef_word : Sort
  extends_word : Sort
  at_sign : Sort
  dot : Sort
  less : Sort
  greater : Sort
  comma : Sort
  left : Sort
  -- `=` and `;`
  ending : Sort
  other : Sort

abbrev pub sign_sort : Sign → Sort
sign_sort s.AtSign = at_sign
sign_sort s.Dot = dot
sign_sort s.Less = less
sign_sort s.Greater = greater
sign_sort s.Comma = comma
sign_sort s.LeftParenthesis = left
sign_sort s.Assign = ending
sign_sort s.Semicolon = ending
sign_sort x = other

abbrev pub word_sort : Word → Sort
word_sort w.Get = accessor_word
word_sort w.Set = accessor_word
word_sort w.Void = void_word
word_sort w.Dynamic = dynamic_word
word_sort w.Var = variable_word
word_sort w.Final = variable_word
word_sort w.Const = variable_word
word_sort w.External = external_word
word_sort w.Typedef = typedef_word
word_sort w.Extends = extends_word
word_sort x = other

abbrev pub kind_sort : TokenKind → Sort
kind_sort tk.Identifier = plain
kind_sort (tk.Word x) = word_sort x
kind_sort (tk.Sign x) = sign_sort x
kind_sort x = other

-- ---- how far a list has come

pub data State : Type 0 where
  -- at the beginning, or behind `external` there
  begun : State
  -- behind `get` or `set` there
  lone : State
  -- in a type, where a name is due
  typing : State
  -- behind that, behind `void`, or behind an identifier at the beginning
  typed : State
  -- behind a type and an identifier
  known : State
  -- behind a type and `get` or `set`
  known_word : State
  -- a function
  calling : State
  -- an accessor
  accessing : State
  -- variables
  holding : State
  -- behind `typedef`
  aliased : State
  -- behind an identifier there
  named : State
  -- behind `<` there, or a comma behind it
  listing : State
  -- behind an identifier there
  listed : State
  -- behind `>`
  closed : State
  -- an alias with a result
  resulting : State
  -- an alias without one
  bare : State
  -- none of these
  lost : State

abbrev pub step : State → Sort → State
step begun plain = typed
step begun accessor_word = lone
step begun void_word = typed
step begun dynamic_word = typed
step begun variable_word = holding
step begun external_word = begun
step begun typedef_word = aliased
step begun x = lost
step lone plain = accessing
step lone accessor_word = accessing
step lone dot = typing
step lone less = typing
step lone left = calling
step lone x = lost
step typing plain = typed
step typing accessor_word = typed
step typing dynamic_word = typed
step typing x = lost
step typed plain = known
step typed accessor_word = known_word
step typed dot = typing
step typed less = typing
step typed comma = typing
step typed greater = typed
step typed left = calling
step typed x = lost
step known comma = holding
step known ending = holding
step known left = calling
step known x = lost
step known_word plain = accessing
step known_word accessor_word = accessing
step known_word comma = holding
step known_word ending = holding
step known_word left = calling
step known_word x = lost
step calling x = calling
step accessing x = accessing
step holding x = holding
step aliased plain = named
step aliased accessor_word = resulting
step aliased void_word = resulting
step aliased dynamic_word = resulting
step aliased x = lost
step named plain = resulting
step named dot = resulting
step named less = listing
step named left = bare
step named x = lost
step listing plain = listed
step listing accessor_word = resulting
step listing dynamic_word = resulting
step listing at_sign = bare
step listing x = lost
step listed dot = resulting
step listed less = resulting
step listed comma = listing
step listed greater = closed
step listed extends_word = bare
step listed x = lost
step closed plain = resulting
step closed left = bare
step closed x = lost
step resulting x = resulting
step bare x = bare
step lost x = lost

abbrev pub judge : State → List Token → State
judge z [] = z
judge z (t ∷ ts) = judge (step z (kind_sort t.kind)) ts

-- ---- sets of states, and tests of all of them

abbrev index : State → ℕ
index begun = 0
index lone = 1
index typing = 2
index typed = 3
index known = 4
index known_word = 5
index calling = 6
index accessing = 7
index holding = 8
index aliased = 9
index named = 10
index listing = 11
index listed = 12
index closed = 13
index resulting = 14
index bare = 15
index lost = 16

abbrev pub among : List State → State → Bool
among [] z = false
among (x ∷ xs) z = index z == index x || among xs z

abbrev pub outside : List State → State → Bool
outside xs z = not (among xs z)

abbrev states : List State
states = begun ∷ lone ∷ typing ∷ typed ∷ known ∷ known_word ∷ calling ∷ accessing ∷ holding
    ∷ aliased ∷ named ∷ listing ∷ listed ∷ closed ∷ resulting ∷ bare ∷ lost ∷ []

abbrev pub every : (State → Bool) → Bool
every g = all_of g states

pub every_gives : (g : State → Bool) → every g ≡ true → (z : State) → g z ≡ true
every_gives g h begun = (each g states h).0
every_gives g h lone = (each g states h).1.0
every_gives g h typing = (each g states h).1.1.0
every_gives g h typed = (each g states h).1.1.1.0
every_gives g h known = (each g states h).1.1.1.1.0
every_gives g h known_word = (each g states h).1.1.1.1.1.0
every_gives g h calling = (each g states h).1.1.1.1.1.1.0
every_gives g h accessing = (each g states h).1.1.1.1.1.1.1.0
every_gives g h holding = (each g states h).1.1.1.1.1.1.1.1.0
every_gives g h aliased = (each g states h).1.1.1.1.1.1.1.1.1.0
every_gives g h named = (each g states h).1.1.1.1.1.1.1.1.1.1.0
every_gives g h listing = (each g states h).1.1.1.1.1.1.1.1.1.1.1.0
every_gives g h listed = (each g states h).1.1.1.1.1.1.1.1.1.1.1.1.0
every_gives g h closed = (each g states h).1.1.1.1.1.1.1.1.1.1.1.1.1.0
every_gives g h resulting = (each g states h).1.1.1.1.1.1.1.1.1.1.1.1.1.1.0
every_gives g h bare = (each g states h).1.1.1.1.1.1.1.1.1.1.1.1.1.1.1.0
every_gives g h lost = (each g states h).1.1.1.1.1.1.1.1.1.1.1.1.1.1.1.1.0

-- each state of the first set is in the second
abbrev pub under : (State → Bool) → (State → Bool) → Bool
under f g = every (λ z. implies (f z) (g z))

pub included : (f g : State → Bool) → under f g ≡ true → (z : State) → f z ≡ true → g z ≡ true
included f g h z from = implied (f z) (g z) (every_gives (λ z. implies (f z) (g z)) h z) from

-- a token of this sort leads from each state of the first set to one of the second
abbrev pub goes : (State → Bool) → Sort → (State → Bool) → Bool
goes f c g = every (λ z. implies (f z) (g (step z c)))

pub moved : (f g : State → Bool) (c : Sort) → goes f c g ≡ true → (z : State) → f z ≡ true → g (step z c) ≡ true
moved f g c h z from = implied (f z) (g (step z c)) (every_gives (λ z. implies (f z) (g (step z c))) h z) from

-- ---- states that no token changes

abbrev pub stay : State → Bool
stay z = among (calling ∷ accessing ∷ holding ∷ resulting ∷ bare ∷ lost ∷ []) z

pub stays : (z : State) → stay z ≡ true → (ts : List Token) → judge z ts ≡ z
stays z h [] = refl
stays calling h (t ∷ ts) = stays calling h ts
stays accessing h (t ∷ ts) = stays accessing h ts
stays holding h (t ∷ ts) = stays holding h ts
stays resulting h (t ∷ ts) = stays resulting h ts
stays bare h (t ∷ ts) = stays bare h ts
stays lost h (t ∷ ts) = stays lost h ts
stays z h (t ∷ ts) = absurd cc
