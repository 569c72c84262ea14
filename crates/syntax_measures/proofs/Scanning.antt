-- A test of lists of tokens that tells a declaration from an expression statement by how it begins: what begins with a type
-- and a name, with a name, parameters and a body, or with `const` and a type or a name and no parenthesis, is none.
use Rattle.std.proofs.Common.{◌≡◌, ℕ, zero, suc, Bool, true, false, ◌&&◌, List, [], ◌∷◌, ◌++◌, refl, ap, ◌∙◌}
use Rattle.dart_token.specs.declared.token.Token.{Token}
use Rattle.dart_token.specs.declared.token.TokenKind.{TokenKind}
use Rattle.dart_token.specs.declared.token.TokenKind.TheVariants as tk
use Rattle.dart_token.specs.declared.sign.Sign.{Sign}
use Rattle.dart_token.specs.declared.sign.Sign.TheVariants as s
use Rattle.dart_token.specs.declared.word.Word.{Word}
use Rattle.dart_token.specs.declared.word.Word.TheVariants as w

-- ---- the tokens that matter

pub data Class : Type 0 where
  name : Class
  declaring : Class
  constant : Class
  dot : Class
  less : Class
  greater : Class
  comma : Class
  left : Class
  right : Class
  arrow : Class
  brace : Class
  other : Class

abbrev pub sign_class : Sign → Class
sign_class s.Dot = dot
sign_class s.Less = less
sign_class s.Greater = greater
sign_class s.Comma = comma
sign_class s.LeftParenthesis = left
sign_class s.RightParenthesis = right
sign_class s.Arrow = arrow
sign_class s.LeftBrace = brace
sign_class x = other

abbrev pub word_class : Word → Class
word_class w.Get = name
word_class w.Set = name
word_class w.Var = declaring
word_class w.Final = declaring
word_class w.Void = declaring
word_class w.Dynamic = declaring
word_class w.Const = constant
word_class x = other

abbrev pub kind_class : TokenKind → Class
kind_class tk.Identifier = name
kind_class (tk.Word x) = word_class x
kind_class (tk.Sign x) = sign_class x
kind_class x = other

-- ---- how far a list has come

pub data State : Type 0 where
  -- at the beginning
  begun : State
  -- behind a name with names behind dots
  named : State
  -- behind a dot there
  dotted : State
  -- behind a name and `<`
  compared : State
  -- behind such a name, and a second one with names behind dots
  second : State
  -- behind a dot there
  second_dotted : State
  -- behind a second name and `>`
  closed : State
  -- behind a name and `(`, and so many more that are open
  inside : ℕ → State
  -- behind the `)` for it
  called : State
  -- behind the brace of a body there
  braced : State
  -- behind `const`
  const_begun : State
  -- behind `const` and a type or a name
  typed : State
  -- behind a dot there
  typed_dotted : State
  -- behind `<` there, and so many more that are open
  angles : ℕ → State
  -- where anything may come
  free : State
  wrong : State

abbrev pub step : State → Class → State
step begun name = named
step begun declaring = wrong
step begun constant = const_begun
step begun x = free
step named name = wrong
step named dot = dotted
step named less = compared
step named left = inside 0
step named x = free
step dotted name = named
step dotted x = free
step compared name = second
step compared declaring = wrong
step compared x = free
step second less = wrong
step second comma = wrong
step second dot = second_dotted
step second greater = closed
step second x = free
step second_dotted name = second
step second_dotted x = free
step closed name = wrong
step closed x = free
step (inside k) left = inside (suc k)
step (inside zero) right = called
step (inside (suc k)) right = inside k
step (inside k) x = inside k
step called arrow = wrong
step called brace = braced
step called x = free
step braced x = braced
step const_begun name = typed
step const_begun declaring = typed
step const_begun x = free
step typed dot = typed_dotted
step typed less = angles 0
step typed left = free
step typed x = wrong
step typed_dotted name = typed
step typed_dotted x = free
step (angles k) less = angles (suc k)
step (angles zero) greater = typed
step (angles (suc k)) greater = angles k
step (angles k) x = angles k
step free x = free
step wrong x = wrong

abbrev pub scan : State → List Token → State
scan state [] = state
scan state (t ∷ ts) = scan (step state (kind_class t.kind)) ts

pub scan_append : (state : State) (xs ys : List Token) → scan state (xs ++ ys) ≡ scan (scan state xs) ys
scan_append state [] ys = refl
scan_append state (x ∷ xs) ys = scan_append (step state (kind_class x.kind)) xs ys

pub free_stays : (xs : List Token) → scan free xs ≡ free
free_stays [] = refl
free_stays (x ∷ xs) = free_stays xs

pub braced_stays : (xs : List Token) → scan braced xs ≡ braced
braced_stays [] = refl
braced_stays (x ∷ xs) = braced_stays xs

pub wrong_stays : (xs : List Token) → scan wrong xs ≡ wrong
wrong_stays [] = refl
wrong_stays (x ∷ xs) = wrong_stays xs

-- ---- what does not change how many parentheses are open

abbrev pub Balanced : List Token → Type 0
Balanced ts = (k : ℕ) → scan (inside k) ts ≡ inside k

pub balanced_append : (xs ys : List Token) → Balanced xs → Balanced ys → Balanced (xs ++ ys)
balanced_append xs ys X Y k = scan_append (inside k) xs ys ∙ ap (λ (z : State). scan z ys) (X k) ∙ Y k

-- no parenthesis
abbrev pub no_parenthesis : Class → Bool
no_parenthesis left = false
no_parenthesis right = false
no_parenthesis x = true

pub plain_stays : (k : ℕ) (c : Class) → no_parenthesis c ≡ true → step (inside k) c ≡ inside k
plain_stays k name plain = refl
plain_stays k declaring plain = refl
plain_stays k constant plain = refl
plain_stays k dot plain = refl
plain_stays k less plain = refl
plain_stays k greater plain = refl
plain_stays k comma plain = refl
plain_stays k left plain = let bad : false ≡ true = plain in cc
plain_stays k right plain = let bad : false ≡ true = plain in cc
plain_stays k arrow plain = refl
plain_stays k brace plain = refl
plain_stays k other plain = refl

pub plain_word : (x : Word) → no_parenthesis (word_class x) ≡ true
plain_word w.Get = refl
plain_word w.Set = refl
plain_word w.Var = refl
plain_word w.Final = refl
plain_word w.Void = refl
plain_word w.Dynamic = refl
plain_word w.Const = refl
plain_word x = refl

-- from one open parenthesis more to where it is closed
abbrev pub Closing : List Token → Type 0
Closing ts = (k : ℕ) → scan (inside (suc k)) ts ≡ inside k

-- ---- tests of two things

pub both_true : (a b : Bool) → (a && b) ≡ true → (a ≡ true) × (b ≡ true)
both_true true true e = (refl, refl)
both_true true false e = (refl, e)
both_true false b e = (e, absurd cc)
