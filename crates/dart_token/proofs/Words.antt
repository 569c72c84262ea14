-- A word is found among those that begin as the text does.
use Rattle.std.proofs.Common.{◌≡◌, ◌∙◌, sym, ap, refl, ℕ, ◌+◌, ◌<◌, List, [], ◌∷◌, true, false, cond, drop, length, get_or, Option, Some, None, arith, add-one, IfSome, IfNone}
use Rattle.std.proofs.Math.Seq.{drop-cons}
use Rattle.std.specs.Str.{bytes_eq}
use Rattle.std.proofs.lemmas.Slice.Eq.{bytes_eq-Decides}
use Rattle.dart_token.specs.declared.word.Word.{Word}
use Rattle.dart_token.specs.declared.word.Word.TheVariants as w
use Rattle.dart_token.specs.Word.{word_text}
use Rattle.dart_token.specs.Lookup.{words_from, first_with, word_of}

pub first_step : (words : List Word) (text : List ℕ) (i : ℕ) (d : Word) → i < length words
    → first_with (drop i words) text ≡ cond (bytes_eq (word_text (get_or words i d)) text) (Some (get_or words i d)) (first_with (drop (i + 1) words) text)
first_step words text i d lt = rw (add-one, drop-cons words i d) refl

pub found_is : (words : List Word) (text : List ℕ) (word : Word) → first_with words text ≡ Some word → word_text word ≡ text
found_is [] text word e = absurd cc
found_is (v ∷ words) text word e = (elim (bytes_eq (word_text v) text) as (λ b. bytes_eq (word_text v) text ≡ b → cond b (Some v) (first_with words text) ≡ Some word → word_text word ≡ text) [
  | true ↦ λ y h. let same : v ≡ word = cc in let t : word_text v ≡ text = (bytes_eq-Decides (word_text v) text).0 y in ap word_text (sym same) ∙ t
  | false ↦ λ n h. found_is words text word h
]) refl e

-- each word is found
pub word_found : (word : Word) → word_of (word_text word) ≡ Some word
word_found w.Assert = refl
word_found w.Break = refl
word_found w.Case = refl
word_found w.Catch = refl
word_found w.Class = refl
word_found w.Const = refl
word_found w.Continue = refl
word_found w.Default = refl
word_found w.Do = refl
word_found w.Else = refl
word_found w.Enum = refl
word_found w.Extends = refl
word_found w.False = refl
word_found w.Final = refl
word_found w.Finally = refl
word_found w.For = refl
word_found w.If = refl
word_found w.In = refl
word_found w.Is = refl
word_found w.New = refl
word_found w.Null = refl
word_found w.Rethrow = refl
word_found w.Return = refl
word_found w.Super = refl
word_found w.Switch = refl
word_found w.This = refl
word_found w.Throw = refl
word_found w.True = refl
word_found w.Try = refl
word_found w.Var = refl
word_found w.Void = refl
word_found w.While = refl
word_found w.With = refl
word_found w.Abstract = refl
word_found w.As = refl
word_found w.Deferred = refl
word_found w.Dynamic = refl
word_found w.Export = refl
word_found w.External = refl
word_found w.Factory = refl
word_found w.Get = refl
word_found w.Implements = refl
word_found w.Import = refl
word_found w.Library = refl
word_found w.Operator = refl
word_found w.Part = refl
word_found w.Set = refl
word_found w.Static = refl
word_found w.Typedef = refl

pub found_by_text : (word : Word) (text : List ℕ) → word_text word ≡ text → word_of text ≡ Some word
found_by_text word text e = rw (← e) (word_found word)

pub found_text : (word : Word) (text : List ℕ) → word_of text ≡ Some word → word_text word ≡ text
found_text word [] e = absurd cc
found_text word (b ∷ bytes) e = found_is (words_from b) (b ∷ bytes) word e

pub found_some : (text : List ℕ) (r : Option Word) → r ≡ word_of text → IfSome r (λ word. word_text word ≡ text)
found_some text None e = tt
found_some text (Some word) e = found_text word text (sym e)

pub found_none : (text : List ℕ) (r : Option Word) → r ≡ word_of text → IfNone r ((word : Word) → ¬ (word_text word ≡ text))
found_none text None e = λ word h. let f : word_of text ≡ Some word = found_by_text word text h in absurd cc
found_none text (Some word) e = tt

none_found : (text : List ℕ) (r : Option Word) → ((word : Word) → ¬ (word_text word ≡ text)) → r ≡ word_of text → r ≡ None
none_found text None none e = refl
none_found text (Some word) none e = absurd (none word (found_text word text (sym e)))

-- an answer that is right is the word that is looked up
pub found_only : (text : List ℕ) (r : Option Word) → IfSome r (λ word. word_text word ≡ text) → IfNone r ((word : Word) → ¬ (word_text word ≡ text)) → r ≡ word_of text
found_only text (Some word) some none = sym (found_by_text word text some)
found_only text None some none = sym (none_found text (word_of text) none refl)

pub begun : (text : List ℕ) (words : List Word) (r : Option Word) → 0 < length text → words ≡ words_from (get_or text 0 0) → r ≡ first_with words text → r ≡ word_of text
begun [] words r lt e f = absurd (omega arith)
begun (b ∷ bytes) words r lt e f = f ∙ ap (λ ws. first_with ws (b ∷ bytes)) e
