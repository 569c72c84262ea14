-- A token that has the code of a sign or of a word is that sign or word, at its place.
use Rattle.std.proofs.Common.{◌≡◌, ℕ, ◌==◌, Bool, true, false, if◌then◌else◌, List, [], ◌∷◌, refl, sym, ap, ap₂, ◌∙◌}
use Rattle.std.proofs.lemmas.Slice.Eq.{bytes_eq-Decides}
use Rattle.std.specs.Str.{bytes_eq}
use Rattle.std.specs.Prelude.{codes}
use Rattle.dart_base.specs.declared.place.Place.{Place}
use Rattle.dart_token.specs.declared.token.Token.{Token}
use Rattle.dart_token.specs.declared.token.TokenKind.{TokenKind}
use Rattle.dart_token.specs.declared.token.TokenKind.TheVariants as tk
use Rattle.dart_token.specs.declared.token.Quote.{Quote}
use Rattle.dart_token.specs.declared.token.Quote.TheVariants as q
use Rattle.dart_token.specs.declared.sign.Sign.{Sign}
use Rattle.dart_token.specs.declared.sign.Sign.TheVariants as s
use Rattle.dart_token.specs.declared.word.Word.{Word}
use Rattle.dart_token.specs.declared.word.Word.TheVariants as w
use Rattle.dart_token.specs.Sign.{sign_text}
use Rattle.dart_token.specs.Word.{word_text}
use Rattle.dart_tree.specs.LeafTokens.{sign_at, word_at}
use Rattle.grammar_laws.specs.Codes.{has}
use Rattle.grammar_laws.proofs.Codes.{only_code, has_code}
use Rattle.token_codes.specs.Codes.{name_code, on_code, of_code, show_code, hide_code, sign_code, word_code, odd_code, head_code, own_or_odd, code_of_name, kind_code, class_of}

-- what has a code: the table back
data Meaning : Type 0 where
  a_sign : Sign → Meaning
  a_word : Word → Meaning
  other : Meaning

abbrev sign_meaning : ℕ → Meaning
sign_meaning n = if n == 80 then a_sign s.LeftParenthesis
    else if n == 81 then a_sign s.RightParenthesis
    else if n == 82 then a_sign s.LeftBracket
    else if n == 83 then a_sign s.RightBracket
    else if n == 84 then a_sign s.LeftBrace
    else if n == 85 then a_sign s.RightBrace
    else if n == 86 then a_sign s.Semicolon
    else if n == 87 then a_sign s.Comma
    else if n == 88 then a_sign s.Dot
    else if n == 89 then a_sign s.DotDot
    else if n == 90 then a_sign s.Colon
    else if n == 91 then a_sign s.Question
    else if n == 92 then a_sign s.AtSign
    else if n == 93 then a_sign s.Assign
    else if n == 94 then a_sign s.Arrow
    else if n == 95 then a_sign s.EqualEqual
    else if n == 96 then a_sign s.NotEqual
    else if n == 97 then a_sign s.Less
    else if n == 98 then a_sign s.Greater
    else if n == 99 then a_sign s.LessEqual
    else if n == 100 then a_sign s.GreaterEqual
    else if n == 101 then a_sign s.ShiftLeft
    else if n == 102 then a_sign s.Plus
    else if n == 103 then a_sign s.Minus
    else if n == 104 then a_sign s.Star
    else if n == 105 then a_sign s.Slash
    else if n == 106 then a_sign s.TildeSlash
    else if n == 107 then a_sign s.Percent
    else if n == 108 then a_sign s.Ampersand
    else if n == 109 then a_sign s.Bar
    else if n == 110 then a_sign s.Caret
    else if n == 111 then a_sign s.Tilde
    else if n == 112 then a_sign s.Bang
    else if n == 113 then a_sign s.AndAnd
    else if n == 114 then a_sign s.OrOr
    else if n == 115 then a_sign s.PlusPlus
    else if n == 116 then a_sign s.MinusMinus
    else if n == 117 then a_sign s.PlusAssign
    else if n == 118 then a_sign s.MinusAssign
    else if n == 119 then a_sign s.StarAssign
    else if n == 120 then a_sign s.SlashAssign
    else if n == 121 then a_sign s.TildeSlashAssign
    else if n == 122 then a_sign s.PercentAssign
    else if n == 123 then a_sign s.AmpersandAssign
    else if n == 124 then a_sign s.BarAssign
    else if n == 125 then a_sign s.CaretAssign
    else if n == 126 then a_sign s.ShiftLeftAssign
    else other

abbrev word_meaning : ℕ → Meaning
word_meaning n = if n == 20 then a_word w.Assert
    else if n == 21 then a_word w.Break
    else if n == 22 then a_word w.Case
    else if n == 23 then a_word w.Catch
    else if n == 24 then a_word w.Class
    else if n == 25 then a_word w.Const
    else if n == 26 then a_word w.Continue
    else if n == 27 then a_word w.Default
    else if n == 28 then a_word w.Do
    else if n == 29 then a_word w.Else
    else if n == 30 then a_word w.Enum
    else if n == 31 then a_word w.Extends
    else if n == 32 then a_word w.False
    else if n == 33 then a_word w.Final
    else if n == 34 then a_word w.Finally
    else if n == 35 then a_word w.For
    else if n == 36 then a_word w.If
    else if n == 37 then a_word w.In
    else if n == 38 then a_word w.Is
    else if n == 39 then a_word w.New
    else if n == 40 then a_word w.Null
    else if n == 41 then a_word w.Rethrow
    else if n == 42 then a_word w.Return
    else if n == 43 then a_word w.Super
    else if n == 44 then a_word w.Switch
    else if n == 45 then a_word w.This
    else if n == 46 then a_word w.Throw
    else if n == 47 then a_word w.True
    else if n == 48 then a_word w.Try
    else if n == 49 then a_word w.Var
    else if n == 50 then a_word w.Void
    else if n == 51 then a_word w.While
    else if n == 52 then a_word w.With
    else if n == 53 then a_word w.Abstract
    else if n == 54 then a_word w.As
    else if n == 55 then a_word w.Deferred
    else if n == 56 then a_word w.Dynamic
    else if n == 57 then a_word w.Export
    else if n == 58 then a_word w.External
    else if n == 59 then a_word w.Factory
    else if n == 60 then a_word w.Get
    else if n == 61 then a_word w.Implements
    else if n == 62 then a_word w.Import
    else if n == 63 then a_word w.Library
    else if n == 64 then a_word w.Operator
    else if n == 65 then a_word w.Part
    else if n == 66 then a_word w.Set
    else if n == 67 then a_word w.Static
    else if n == 68 then a_word w.Typedef
    else sign_meaning n

sign_means : (x : Sign) → word_meaning (sign_code x) ≡ a_sign x
sign_means s.LeftParenthesis = refl
sign_means s.RightParenthesis = refl
sign_means s.LeftBracket = refl
sign_means s.RightBracket = refl
sign_means s.LeftBrace = refl
sign_means s.RightBrace = refl
sign_means s.Semicolon = refl
sign_means s.Comma = refl
sign_means s.Dot = refl
sign_means s.DotDot = refl
sign_means s.Colon = refl
sign_means s.Question = refl
sign_means s.AtSign = refl
sign_means s.Assign = refl
sign_means s.Arrow = refl
sign_means s.EqualEqual = refl
sign_means s.NotEqual = refl
sign_means s.Less = refl
sign_means s.Greater = refl
sign_means s.LessEqual = refl
sign_means s.GreaterEqual = refl
sign_means s.ShiftLeft = refl
sign_means s.Plus = refl
sign_means s.Minus = refl
sign_means s.Star = refl
sign_means s.Slash = refl
sign_means s.TildeSlash = refl
sign_means s.Percent = refl
sign_means s.Ampersand = refl
sign_means s.Bar = refl
sign_means s.Caret = refl
sign_means s.Tilde = refl
sign_means s.Bang = refl
sign_means s.AndAnd = refl
sign_means s.OrOr = refl
sign_means s.PlusPlus = refl
sign_means s.MinusMinus = refl
sign_means s.PlusAssign = refl
sign_means s.MinusAssign = refl
sign_means s.StarAssign = refl
sign_means s.SlashAssign = refl
sign_means s.TildeSlashAssign = refl
sign_means s.PercentAssign = refl
sign_means s.AmpersandAssign = refl
sign_means s.BarAssign = refl
sign_means s.CaretAssign = refl
sign_means s.ShiftLeftAssign = refl

word_means : (x : Word) → word_meaning (word_code x) ≡ a_word x
word_means w.Assert = refl
word_means w.Break = refl
word_means w.Case = refl
word_means w.Catch = refl
word_means w.Class = refl
word_means w.Const = refl
word_means w.Continue = refl
word_means w.Default = refl
word_means w.Do = refl
word_means w.Else = refl
word_means w.Enum = refl
word_means w.Extends = refl
word_means w.False = refl
word_means w.Final = refl
word_means w.Finally = refl
word_means w.For = refl
word_means w.If = refl
word_means w.In = refl
word_means w.Is = refl
word_means w.New = refl
word_means w.Null = refl
word_means w.Rethrow = refl
word_means w.Return = refl
word_means w.Super = refl
word_means w.Switch = refl
word_means w.This = refl
word_means w.Throw = refl
word_means w.True = refl
word_means w.Try = refl
word_means w.Var = refl
word_means w.Void = refl
word_means w.While = refl
word_means w.With = refl
word_means w.Abstract = refl
word_means w.As = refl
word_means w.Deferred = refl
word_means w.Dynamic = refl
word_means w.Export = refl
word_means w.External = refl
word_means w.Factory = refl
word_means w.Get = refl
word_means w.Implements = refl
word_means w.Import = refl
word_means w.Library = refl
word_means w.Operator = refl
word_means w.Part = refl
word_means w.Set = refl
word_means w.Static = refl
word_means w.Typedef = refl

odd_means : word_meaning odd_code ≡ other
odd_means = refl

head_means : (x : Quote) → word_meaning (head_code x) ≡ other
head_means q.Single = refl
head_means q.Double = refl

name_means : (b c d e : Bool) →
    word_meaning (if b then on_code else if c then of_code else if d then show_code else if e then hide_code else name_code) ≡ other
name_means true c d e = refl
name_means false true d e = refl
name_means false false true e = refl
name_means false false false true = refl
name_means false false false false = refl

text_means : (text : List ℕ) → word_meaning (code_of_name text) ≡ other
text_means text = name_means (bytes_eq text (codes "on")) (bytes_eq text (codes "of")) (bytes_eq text (codes "show")) (bytes_eq text (codes "hide"))

pub own_text : (x y : List ℕ) → bytes_eq x y ≡ true → x ≡ y
own_text x y h = (bytes_eq-Decides x y).0 h

pub same_text : (x : List ℕ) → bytes_eq x x ≡ true
same_text x = (bytes_eq-Decides x x).1 refl

-- ---- what has the code of a sign is the sign with its text

abbrev IsSign : Sign → TokenKind → List ℕ → Type 0
IsSign which kind text = (kind ≡ tk.Sign which) × (text ≡ sign_text which)

abbrev IsWord : Word → TokenKind → List ℕ → Type 0
IsWord which kind text = (kind ≡ tk.Word which) × (text ≡ word_text which)

other_no_sign : (n : ℕ) (which : Sign) → word_meaning n ≡ other → n ≡ sign_code which → ⊥
other_no_sign n which o e = let f : other ≡ a_sign which = sym o ∙ ap word_meaning e ∙ sign_means which in absurd cc

other_no_word : (n : ℕ) (which : Word) → word_meaning n ≡ other → n ≡ word_code which → ⊥
other_no_word n which o e = let f : other ≡ a_word which = sym o ∙ ap word_meaning e ∙ word_means which in absurd cc

sign_by : (which x : Sign) (text : List ℕ) (b : Bool) → bytes_eq text (sign_text x) ≡ b → own_or_odd b (sign_code x) ≡ sign_code which → IsSign which (tk.Sign x) text
sign_by which x text true own e =
    let f : a_sign x ≡ a_sign which = sym (sign_means x) ∙ ap word_meaning e ∙ sign_means which in
    let is : x ≡ which = cc in
    (ap (λ (y : Sign). tk.Sign y) is, own_text text (sign_text x) own ∙ ap sign_text is)
sign_by which x text false own e = absurd (other_no_sign odd_code which odd_means e)

word_no_sign : (which : Sign) (x : Word) (b : Bool) → own_or_odd b (word_code x) ≡ sign_code which → ⊥
word_no_sign which x true e = let f : a_word x ≡ a_sign which = sym (word_means x) ∙ ap word_meaning e ∙ sign_means which in absurd cc
word_no_sign which x false e = other_no_sign odd_code which odd_means e

is_sign : (which : Sign) (kind : TokenKind) (text : List ℕ) → kind_code kind text ≡ sign_code which → IsSign which kind text
is_sign which tk.Identifier text e = absurd (other_no_sign (code_of_name text) which (text_means text) e)
is_sign which (tk.Word x) text e = absurd (word_no_sign which x (bytes_eq text (word_text x)) e)
is_sign which tk.Integer text e = absurd (other_no_sign 2 which refl e)
is_sign which tk.Whole text e = absurd (other_no_sign 3 which refl e)
is_sign which (tk.Head quote) text e = absurd (other_no_sign (head_code quote) which (head_means quote) e)
is_sign which tk.Middle text e = absurd (other_no_sign 6 which refl e)
is_sign which tk.Tail text e = absurd (other_no_sign 7 which refl e)
is_sign which (tk.Sign x) text e = sign_by which x text (bytes_eq text (sign_text x)) refl e

word_by : (which x : Word) (text : List ℕ) (b : Bool) → bytes_eq text (word_text x) ≡ b → own_or_odd b (word_code x) ≡ word_code which → IsWord which (tk.Word x) text
word_by which x text true own e =
    let f : a_word x ≡ a_word which = sym (word_means x) ∙ ap word_meaning e ∙ word_means which in
    let is : x ≡ which = cc in
    (ap (λ (y : Word). tk.Word y) is, own_text text (word_text x) own ∙ ap word_text is)
word_by which x text false own e = absurd (other_no_word odd_code which odd_means e)

sign_no_word : (which : Word) (x : Sign) (b : Bool) → own_or_odd b (sign_code x) ≡ word_code which → ⊥
sign_no_word which x true e = let f : a_sign x ≡ a_word which = sym (sign_means x) ∙ ap word_meaning e ∙ word_means which in absurd cc
sign_no_word which x false e = other_no_word odd_code which odd_means e

is_word : (which : Word) (kind : TokenKind) (text : List ℕ) → kind_code kind text ≡ word_code which → IsWord which kind text
is_word which tk.Identifier text e = absurd (other_no_word (code_of_name text) which (text_means text) e)
is_word which (tk.Word x) text e = word_by which x text (bytes_eq text (word_text x)) refl e
is_word which tk.Integer text e = absurd (other_no_word 2 which refl e)
is_word which tk.Whole text e = absurd (other_no_word 3 which refl e)
is_word which (tk.Head quote) text e = absurd (other_no_word (head_code quote) which (head_means quote) e)
is_word which tk.Middle text e = absurd (other_no_word 6 which refl e)
is_word which tk.Tail text e = absurd (other_no_word 7 which refl e)
is_word which (tk.Sign x) text e = absurd (sign_no_word which x (bytes_eq text (sign_text x)) e)

-- ---- tokens

abbrev with_parts : TokenKind → Place → List ℕ → Token
with_parts kind place text = record { kind = kind; place = place; lexeme = text }

pub only_sign : (which : Sign) (t : Token) → has (sign_code which ∷ []) (class_of t) ≡ true → sign_at t.place which ≡ t
unfolding class_of
only_sign which t h =
    let is = is_sign which t.kind t.lexeme (only_code (class_of t) (sign_code which) h) in
    sym (ap₂ (λ (k : TokenKind) (l : List ℕ). with_parts k t.place l) is.0 is.1)

pub only_word : (which : Word) (t : Token) → has (word_code which ∷ []) (class_of t) ≡ true → word_at t.place which ≡ t
unfolding class_of
only_word which t h =
    let is = is_word which t.kind t.lexeme (only_code (class_of t) (word_code which) h) in
    sym (ap₂ (λ (k : TokenKind) (l : List ℕ). with_parts k t.place l) is.0 is.1)

pub sign_class : (which : Sign) (place : Place) → class_of (sign_at place which) ≡ sign_code which
unfolding class_of
sign_class which place = rw (same_text (sign_text which)) refl

pub word_class : (which : Word) (place : Place) → class_of (word_at place which) ≡ word_code which
unfolding class_of
word_class which place = rw (same_text (word_text which)) refl

pub sign_has : (which : Sign) (place : Place) → has (sign_code which ∷ []) (class_of (sign_at place which)) ≡ true
sign_has which place = rw (sign_class which place) (has_code (sign_code which) (sign_code which) refl)

pub word_has : (which : Word) (place : Place) → has (word_code which ∷ []) (class_of (word_at place which)) ≡ true
word_has which place = rw (word_class which place) (has_code (word_code which) (word_code which) refl)
