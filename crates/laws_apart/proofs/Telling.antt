-- A test of lists of tokens that tells by how a list begins what it can be: what begins with a type and a name, with a name, parameters
-- and a body, or with `const` and a type or a name and no parenthesis, declares something.
use Rattle.std.proofs.Common.{◌≡◌, ℕ, ◌==◌, Bool, true, false, not, ◌&&◌, ◌||◌, if◌then◌else◌, List, [], ◌∷◌, refl, sym, ap, ◌∙◌}
use Rattle.dart_token.specs.declared.token.Token.{Token}
use Rattle.dart_token.specs.declared.token.TokenKind.{TokenKind}
use Rattle.dart_token.specs.declared.token.TokenKind.TheVariants as tk
use Rattle.dart_token.specs.declared.sign.Sign.{Sign}
use Rattle.dart_token.specs.declared.sign.Sign.TheVariants as s
use Rattle.dart_token.specs.declared.word.Word.{Word}
use Rattle.dart_token.specs.declared.word.Word.TheVariants as w
use Rattle.grammar_laws.proofs.Codes.{and_both}
use Rattle.syntax_readers.specs.Combinators.{behind_brackets}
use Rattle.laws_apart.proofs.Judges.{all_of, each, implies, implied}

-- ---- the tokens that matter

pub data Sort : Type 0 where
  name : Sort
  -- `var`, `final` and `void`
  declaring : Sort
  dynamic : Sort
  constant : Sort
  inside : Sort
  dot : Sort
  less : Sort
  greater : Sort
  comma : Sort
  left : Sort
  colon : Sort
  -- `=` and `;`
  ending : Sort
  -- `=>` and `{`
  body : Sort
  other : Sort

abbrev pub sign_sort : Sign → Sort
sign_sort s.Dot = dot
sign_sort s.Less = less
sign_sort s.Greater = greater
sign_sort s.Comma = comma
sign_sort s.LeftParenthesis = left
sign_sort s.Colon = colon
sign_sort s.Assign = ending
sign_sort s.Semicolon = ending
sign_sort s.Arrow = body
sign_sort s.LeftBrace = body
sign_sort x = other

abbrev pub word_sort : Word → Sort
word_sort w.Get = name
word_sort w.Set = name
word_sort w.Var = declaring
word_sort w.Final = declaring
word_sort w.Void = declaring
word_sort w.Dynamic = dynamic
word_sort w.Const = constant
word_sort w.In = inside
word_sort x = other

abbrev pub kind_sort : TokenKind → Sort
kind_sort tk.Identifier = name
kind_sort (tk.Word x) = word_sort x
kind_sort (tk.Sign x) = sign_sort x
kind_sort x = other

-- ---- how far a list has come

pub data State : Type 0 where
  -- at the beginning
  begun : State
  -- behind a name with a name behind a dot or none
  named : State
  -- behind a dot there
  dotted : State
  -- behind a name and `<`
  compared : State
  -- behind such a name, and a second one
  second : State
  -- behind a dot there
  second_dotted : State
  -- behind a second name and `>`
  closed : State
  -- behind the parentheses behind a name
  called : State
  -- behind `const`, where a type or a name is due
  opened : State
  -- behind that
  shut : State
  -- in a declaration, where a type or a name is due
  typing : State
  -- behind that
  typed : State
  -- behind a type and a name
  known : State
  -- no declaration
  free : State
  -- no expression
  wrong : State
  -- neither
  neither : State

abbrev pub step : State → Sort → State
step begun name = named
step begun declaring = typing
step begun dynamic = typed
step begun constant = opened
step begun x = free
step named name = known
step named dot = dotted
step named less = compared
step named declaring = neither
step named dynamic = neither
step named inside = neither
step named colon = neither
step named body = neither
step named x = free
step dotted name = named
step dotted x = free
step compared name = second
step compared dynamic = typed
step compared x = free
step second less = typing
step second comma = typing
step second dot = second_dotted
step second greater = closed
step second x = free
step second_dotted name = second
step second_dotted x = free
step closed name = known
step closed x = free
step called body = wrong
step called x = free
step opened name = shut
step opened dynamic = shut
step opened x = neither
step shut name = known
step shut dot = opened
step shut less = opened
step shut comma = opened
step shut greater = shut
step shut left = free
step shut ending = wrong
step shut x = neither
step typing name = typed
step typing dynamic = typed
step typing x = neither
step typed name = known
step typed dot = typing
step typed less = typing
step typed comma = typing
step typed greater = typed
step typed left = wrong
step typed ending = wrong
step typed x = neither
step known comma = wrong
step known left = wrong
step known ending = wrong
step known x = neither
step free x = free
step wrong x = wrong
step neither x = neither

-- parentheses begin here that may be parameters or arguments
abbrev pub is_left : Sort → Bool
is_left left = true
is_left x = false

abbrev pub calls : State → Sort → Bool
calls named c = is_left c
calls z c = false

-- behind such parentheses
abbrev pub look : List Token → State
look [] = called
look (t ∷ ts) = step called (kind_sort t.kind)

abbrev pub judge : State → List Token → State
judge z [] = z
judge z (t ∷ ts) = if calls z (kind_sort t.kind) then look (behind_brackets (t ∷ ts)) else judge (step z (kind_sort t.kind)) ts

-- ---- sets of states, and tests of all of them

abbrev index : State → ℕ
index begun = 0
index named = 1
index dotted = 2
index compared = 3
index second = 4
index second_dotted = 5
index closed = 6
index called = 7
index opened = 8
index shut = 9
index typing = 10
index typed = 11
index known = 12
index free = 13
index wrong = 14
index neither = 15

abbrev pub among : List State → State → Bool
among [] z = false
among (x ∷ xs) z = index z == index x || among xs z

abbrev pub outside : List State → State → Bool
outside xs z = not (among xs z)

abbrev states : List State
states = begun ∷ named ∷ dotted ∷ compared ∷ second ∷ second_dotted ∷ closed ∷ called ∷ opened ∷ shut ∷ typing ∷ typed ∷ known ∷ free ∷ wrong ∷ neither ∷ []

abbrev pub every : (State → Bool) → Bool
every g = all_of g states

pub every_gives : (g : State → Bool) → every g ≡ true → (z : State) → g z ≡ true
every_gives g h begun = (each g states h).0
every_gives g h named = (each g states h).1.0
every_gives g h dotted = (each g states h).1.1.0
every_gives g h compared = (each g states h).1.1.1.0
every_gives g h second = (each g states h).1.1.1.1.0
every_gives g h second_dotted = (each g states h).1.1.1.1.1.0
every_gives g h closed = (each g states h).1.1.1.1.1.1.0
every_gives g h called = (each g states h).1.1.1.1.1.1.1.0
every_gives g h opened = (each g states h).1.1.1.1.1.1.1.1.0
every_gives g h shut = (each g states h).1.1.1.1.1.1.1.1.1.0
every_gives g h typing = (each g states h).1.1.1.1.1.1.1.1.1.1.0
every_gives g h typed = (each g states h).1.1.1.1.1.1.1.1.1.1.1.0
every_gives g h known = (each g states h).1.1.1.1.1.1.1.1.1.1.1.1.0
every_gives g h free = (each g states h).1.1.1.1.1.1.1.1.1.1.1.1.1.0
every_gives g h wrong = (each g states h).1.1.1.1.1.1.1.1.1.1.1.1.1.1.0
every_gives g h neither = (each g states h).1.1.1.1.1.1.1.1.1.1.1.1.1.1.1.0

-- each state of the first set is in the second
abbrev pub under : (State → Bool) → (State → Bool) → Bool
under f g = every (λ z. implies (f z) (g z))

pub included : (f g : State → Bool) → under f g ≡ true → (z : State) → f z ≡ true → g z ≡ true
included f g h z from = implied (f z) (g z) (every_gives (λ z. implies (f z) (g z)) h z) from

-- ---- one token

-- a token of this sort leads from each state of the first set to one of the second
abbrev pub moves : State → Sort → (State → Bool) → Bool
moves z c g = not (calls z c) && g (step z c)

abbrev pub goes : (State → Bool) → Sort → (State → Bool) → Bool
goes f c g = every (λ z. implies (f z) (moves z c g))

not_so : (b : Bool) → not b ≡ true → b ≡ false
not_so true h = absurd cc
not_so false h = refl

pub moved : (f g : State → Bool) (c : Sort) → goes f c g ≡ true → (z : State) → f z ≡ true → (calls z c ≡ false) × (g (step z c) ≡ true)
moved f g c h z from =
    let parts = and_both (not (calls z c)) (g (step z c)) (implied (f z) (moves z c g) (every_gives (λ z. implies (f z) (moves z c g)) h z) from) in
    (not_so (calls z c) parts.0, parts.1)

abbrev onward : State → Sort → List Token → List Token → State
onward z c all ts = if calls z c then look all else judge (step z c) ts

pub judge_by : (z : State) (t : Token) (ts : List Token) (c : Sort) → kind_sort t.kind ≡ c → calls z c ≡ false → judge z (t ∷ ts) ≡ judge (step z c) ts
judge_by z t ts c is off = ap (λ (k : Sort). onward z k (behind_brackets (t ∷ ts)) ts) is ∙ ap
    (λ (b : Bool). if b then look (behind_brackets (t ∷ ts)) else judge (step z c) ts) off

-- ---- states that no token changes

abbrev pub stay : State → Bool
stay z = among (free ∷ wrong ∷ neither ∷ []) z

pub stays : (z : State) → stay z ≡ true → (ts : List Token) → judge z ts ≡ z
stays z h [] = refl
stays free h (t ∷ ts) = stays free h ts
stays wrong h (t ∷ ts) = stays wrong h ts
stays neither h (t ∷ ts) = stays neither h ts
stays z h (t ∷ ts) = absurd cc

stay_behind : (c : Sort) → stay (step called c) ≡ true
stay_behind body = refl
stay_behind c = refl

pub look_is : (ts : List Token) → look ts ≡ judge called ts
look_is [] = refl
look_is (t ∷ ts) = sym (stays (step called (kind_sort t.kind)) (stay_behind (kind_sort t.kind)) ts)
