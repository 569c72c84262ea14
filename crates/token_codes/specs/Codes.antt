-- The code of each token: by its kind, where its lexeme is the kind's own. Sets of tokens are lists
-- of codes.
use Rattle.std.specs.Prelude.{ℕ, Bool, if◌then◌else◌, List, [], ◌∷◌, codes}
use Rattle.std.specs.Str.{bytes_eq}
use Rattle.dart_token.specs.declared.token.Token.{Token}
use Rattle.dart_token.specs.declared.token.TokenKind.{TokenKind}
use Rattle.dart_token.specs.declared.token.TokenKind.TheVariants as tk
use Rattle.dart_token.specs.declared.token.Quote.{Quote}
use Rattle.dart_token.specs.declared.token.Quote.TheVariants as q
use Rattle.dart_token.specs.declared.sign.Sign.{Sign}
use Rattle.dart_token.specs.declared.sign.Sign.TheVariants as s
use Rattle.dart_token.specs.declared.word.Word.{Word}
use Rattle.dart_token.specs.declared.word.Word.TheVariants as w
use Rattle.dart_token.specs.Sign.{sign_text}
use Rattle.dart_token.specs.Word.{word_text}

-- ---- what is no word and no sign

-- an identifier that means nothing of its own
abbrev pub name_code : ℕ
name_code = 0

-- a sign or a word that has another lexeme: it begins nothing, and nothing goes on with it
abbrev pub odd_code : ℕ
odd_code = 1

abbrev pub integer_code : ℕ
integer_code = 2

abbrev pub whole_code : ℕ
whole_code = 3

abbrev pub head_code : Quote → ℕ
head_code q.Single = 4
head_code q.Double = 5

abbrev pub middle_code : ℕ
middle_code = 6

abbrev pub tail_code : ℕ
tail_code = 7

-- identifiers that mean something in some places have codes of their own
abbrev pub on_code : ℕ
on_code = 10

abbrev pub of_code : ℕ
of_code = 11

abbrev pub show_code : ℕ
show_code = 12

abbrev pub hide_code : ℕ
hide_code = 13

abbrev pub code_of_name : List ℕ → ℕ
code_of_name text = if bytes_eq text (codes "on") then on_code else if bytes_eq text (codes "of")
    then of_code
    else if bytes_eq text (codes "show") then show_code else if bytes_eq text (codes "hide")
    then hide_code else name_code

-- ---- words and signs

abbrev pub word_code : Word → ℕ
word_code w.Assert = 20
word_code w.Break = 21
word_code w.Case = 22
word_code w.Catch = 23
word_code w.Class = 24
word_code w.Const = 25
word_code w.Continue = 26
word_code w.Default = 27
word_code w.Do = 28
word_code w.Else = 29
word_code w.Enum = 30
word_code w.Extends = 31
word_code w.False = 32
word_code w.Final = 33
word_code w.Finally = 34
word_code w.For = 35
word_code w.If = 36
word_code w.In = 37
word_code w.Is = 38
word_code w.New = 39
word_code w.Null = 40
word_code w.Rethrow = 41
word_code w.Return = 42
word_code w.Super = 43
word_code w.Switch = 44
word_code w.This = 45
word_code w.Throw = 46
word_code w.True = 47
word_code w.Try = 48
word_code w.Var = 49
word_code w.Void = 50
word_code w.While = 51
word_code w.With = 52
word_code w.Abstract = 53
word_code w.As = 54
word_code w.Deferred = 55
word_code w.Dynamic = 56
word_code w.Export = 57
word_code w.External = 58
word_code w.Factory = 59
word_code w.Get = 60
word_code w.Implements = 61
word_code w.Import = 62
word_code w.Library = 63
word_code w.Operator = 64
word_code w.Part = 65
word_code w.Set = 66
word_code w.Static = 67
word_code w.Typedef = 68

abbrev pub sign_code : Sign → ℕ
sign_code s.LeftParenthesis = 80
sign_code s.RightParenthesis = 81
sign_code s.LeftBracket = 82
sign_code s.RightBracket = 83
sign_code s.LeftBrace = 84
sign_code s.RightBrace = 85
sign_code s.Semicolon = 86
sign_code s.Comma = 87
sign_code s.Dot = 88
sign_code s.DotDot = 89
sign_code s.Colon = 90
sign_code s.Question = 91
sign_code s.AtSign = 92
sign_code s.Assign = 93
sign_code s.Arrow = 94
sign_code s.EqualEqual = 95
sign_code s.NotEqual = 96
sign_code s.Less = 97
sign_code s.Greater = 98
sign_code s.LessEqual = 99
sign_code s.GreaterEqual = 100
sign_code s.ShiftLeft = 101
sign_code s.Plus = 102
sign_code s.Minus = 103
sign_code s.Star = 104
sign_code s.Slash = 105
sign_code s.TildeSlash = 106
sign_code s.Percent = 107
sign_code s.Ampersand = 108
sign_code s.Bar = 109
sign_code s.Caret = 110
sign_code s.Tilde = 111
sign_code s.Bang = 112
sign_code s.AndAnd = 113
sign_code s.OrOr = 114
sign_code s.PlusPlus = 115
sign_code s.MinusMinus = 116
sign_code s.PlusAssign = 117
sign_code s.MinusAssign = 118
sign_code s.StarAssign = 119
sign_code s.SlashAssign = 120
sign_code s.TildeSlashAssign = 121
sign_code s.PercentAssign = 122
sign_code s.AmpersandAssign = 123
sign_code s.BarAssign = 124
sign_code s.CaretAssign = 125
sign_code s.ShiftLeftAssign = 126

-- ---- tokens

abbrev pub own_or_odd : Bool → ℕ → ℕ
own_or_odd own code = if own then code else odd_code

abbrev pub kind_code : TokenKind → List ℕ → ℕ
kind_code tk.Identifier text = code_of_name text
kind_code (tk.Word word) text = own_or_odd (bytes_eq text (word_text word)) (word_code word)
kind_code tk.Integer text = integer_code
kind_code tk.Whole text = whole_code
kind_code (tk.Head quote) text = head_code quote
kind_code tk.Middle text = middle_code
kind_code tk.Tail text = tail_code
kind_code (tk.Sign sign) text = own_or_odd (bytes_eq text (sign_text sign)) (sign_code sign)

unfoldable pub class_of : Token → ℕ
class_of t = kind_code t.kind t.lexeme

-- ---- sets of tokens

-- this sign, and this word
abbrev pub these : Sign → List ℕ
these which = sign_code which ∷ []

abbrev pub this_word : Word → List ℕ
this_word which = word_code which ∷ []

-- one of these signs
abbrev pub sign_codes : List Sign → List ℕ
sign_codes [] = []
sign_codes (x ∷ xs) = sign_code x ∷ sign_codes xs

-- identifiers but `get` and `set`, and all identifiers (16.33 Identifier Reference)
abbrev pub plain_names : List ℕ
plain_names = name_code ∷ on_code ∷ of_code ∷ show_code ∷ hide_code ∷ []

abbrev pub names : List ℕ
names = name_code ∷ on_code ∷ of_code ∷ show_code ∷ hide_code ∷ word_code w.Get ∷ word_code w.Set
    ∷ []

-- what is an expression by itself
abbrev pub atoms : List ℕ
atoms = integer_code ∷ word_code w.This ∷ word_code w.Null ∷ word_code w.True ∷ word_code w.False
    ∷ name_code ∷ on_code ∷ of_code
    ∷ show_code ∷ hide_code ∷ word_code w.Get ∷ word_code w.Set ∷ []

-- what begins a string with expressions
abbrev pub heads : List ℕ
heads = head_code q.Single ∷ head_code q.Double ∷ []

-- what begins the making of an object
abbrev pub creations : List ℕ
creations = word_code w.New ∷ word_code w.Const ∷ []
