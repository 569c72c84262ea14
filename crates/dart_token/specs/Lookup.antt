-- Means of proof, which no public contract cites: how a word is looked up.
use Rattle.std.specs.Prelude.{ℕ, ◌==◌, List, [], ◌∷◌, if◌then◌else◌, Option, None, Some}
use Rattle.std.specs.Str.{byte, bytes_eq}
use Rattle.dart_token.specs.declared.word.Word.{Word}
use Rattle.dart_token.specs.declared.word.Word.TheVariants as w
use Rattle.dart_token.specs.Word.{word_text}

-- the words that begin with a byte
abbrev pub words_from : ℕ → List Word
words_from b = if b == byte "a" then w.Assert ∷ w.Abstract ∷ w.As ∷ []
    else if b == byte "b" then w.Break ∷ []
    else if b == byte "c" then w.Case ∷ w.Catch ∷ w.Class ∷ w.Const ∷ w.Continue ∷ []
    else if b == byte "d" then w.Default ∷ w.Do ∷ w.Deferred ∷ w.Dynamic ∷ []
    else if b == byte "e" then w.Else ∷ w.Enum ∷ w.Extends ∷ w.Export ∷ w.External ∷ []
    else if b == byte "f" then w.False ∷ w.Final ∷ w.Finally ∷ w.For ∷ w.Factory ∷ []
    else if b == byte "g" then w.Get ∷ []
    else if b == byte "i" then w.If ∷ w.In ∷ w.Is ∷ w.Implements ∷ w.Import ∷ []
    else if b == byte "l" then w.Library ∷ []
    else if b == byte "n" then w.New ∷ w.Null ∷ []
    else if b == byte "o" then w.Operator ∷ []
    else if b == byte "p" then w.Part ∷ []
    else if b == byte "r" then w.Rethrow ∷ w.Return ∷ []
    else if b == byte "s" then w.Super ∷ w.Switch ∷ w.Set ∷ w.Static ∷ []
    else if b == byte "t" then w.This ∷ w.Throw ∷ w.True ∷ w.Try ∷ w.Typedef ∷ []
    else if b == byte "v" then w.Var ∷ w.Void ∷ []
    else if b == byte "w" then w.While ∷ w.With ∷ []
    else []

-- the first of the words that is written so
abbrev pub first_with : List Word → List ℕ → Option Word
first_with [] text = None
first_with (word ∷ words) text = if bytes_eq (word_text word) text then Some word else first_with words text

-- the word that is written so, if there is one
abbrev pub word_of : List ℕ → Option Word
word_of [] = None
word_of (b ∷ bytes) = first_with (words_from b) (b ∷ bytes)
