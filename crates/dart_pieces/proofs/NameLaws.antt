-- Names: the words of the language and the other names, as they are found.
use Rattle.std.proofs.Common.{◌≡◌, ◌∙◌, sym, ap, refl, subst, ℕ, ◌<◌, List, [], ◌∷◌, ◌++◌, true, false, arith, length, take, Option, Some, None, inl, inr, ◌==◌}
use Rattle.std.proofs.lemmas.Bool.Decides.{nat_tests}
use Rattle.std.specs.List.{prefix_len}
use Rattle.dart_token.specs.declared.word.Word.{Word}
use Rattle.dart_token.specs.declared.word.Word.TheVariants as w
use Rattle.dart_token.specs.declared.token.Quote.{Quote}
use Rattle.dart_token.specs.declared.token.TokenKind.{TokenKind}
use Rattle.dart_token.specs.declared.token.TokenKind.TheVariants as t
use Rattle.dart_token.specs.Word.{word_text}
use Rattle.dart_token.specs.Lookup.{word_of}
use Rattle.dart_token.proofs.Words.{word_found, found_by_text, found_text}
use Rattle.dart_pieces.specs.declared.piece.PieceClass.TheVariants as k
use Rattle.dart_pieces.specs.Bytes.{is_letter, is_word_byte, IsRun, Passes}
use Rattle.dart_pieces.specs.Strings.{quote_byte, quote_of}
use Rattle.dart_pieces.specs.Pieces.{IsPiece}
use Rattle.dart_pieces.specs.Reader.{after_two, name_kind, name_found, raw_quote, raw_at, letter_at}
use Rattle.dart_pieces.proofs.RunLaws.{by_bool, prefix_within, run_within, run_passes, run_taken, take_front_at}
use Rattle.dart_pieces.proofs.QuoteLaws.{raw_more, raw_sound}
use Rattle.dart_pieces.proofs.Found.{Reaches, SoundAt, more_or_same}

pub letter_in_word : (b : ℕ) → is_letter b ≡ true → is_word_byte b ≡ true
letter_in_word b e = rw e refl

pub word_no_quote : (b : ℕ) → is_word_byte b ≡ true → quote_of b ≡ None
word_no_quote b e =
    let single : (b == 39) ≡ false = grind (arith, nat_tests) in
    let double : (b == 34) ≡ false = grind (arith, nat_tests) in
    rw (single, double) refl

pub quote_is : (b : ℕ) (quote : Quote) → quote_of b ≡ Some quote → b ≡ quote_byte quote
quote_is b quote e = grind (arith, nat_tests)

-- ---- names are found

raw_longer : (quote : Quote) (more : List ℕ) → 1 < (raw_at quote more).1
raw_longer quote more = elim (raw_more quote more) as (λ _. 1 < (raw_at quote more).1) [ inl lt ↦ omega arith | inr e ↦ let n = e.1 in omega arith ]

-- where a name is read, the longest is
name_reached : (kind : TokenKind) (p rest : List ℕ) → Passes is_word_byte p → name_kind (word_of p) ≡ kind → Reaches (k.Lexeme kind) (length p) (name_found (prefix_len is_word_byte (p ++ rest)) (p ++ rest))
name_reached kind p rest h e = elim (more_or_same (length p) (prefix_len is_word_byte (p ++ rest)) (run_within is_word_byte p rest h)) as (λ _. Reaches (k.Lexeme kind) (length p) (name_found (prefix_len is_word_byte (p ++ rest)) (p ++ rest))) [
  | inl lt ↦ inl lt
  | inr n ↦
      let front : take (prefix_len is_word_byte (p ++ rest)) (p ++ rest) ≡ p = take_front_at _ p rest n in
      let same : name_kind (word_of (take (prefix_len is_word_byte (p ++ rest)) (p ++ rest))) ≡ kind = ap (λ x. name_kind (word_of x)) front ∙ e in
      inr (ap k.Lexeme same, n)
]

pub reach_name : (kind : TokenKind) (p rest : List ℕ) → IsRun is_letter is_word_byte p → name_kind (word_of p) ≡ kind → Reaches (k.Lexeme kind) (length p) (letter_at (p ++ rest))
reach_name kind [] rest h e = absurd h
reach_name kind (x ∷ []) rest h e = (elim (raw_quote (x ∷ rest)) as (λ o. raw_quote (x ∷ rest) ≡ o → Reaches (k.Lexeme kind) 1 (letter_at (x ∷ rest))) [
  | None ↦ λ f. rw f (name_reached kind (x ∷ []) rest (letter_in_word x h.0, tt) e)
  | Some quote ↦ λ f. rw f (inl (raw_longer quote (after_two (x ∷ rest))))
]) refl
reach_name kind (x ∷ y ∷ p) rest h e =
    let run : Passes is_word_byte (x ∷ y ∷ p) = run_passes is_letter is_word_byte (x ∷ y ∷ p) letter_in_word h in
    let none : raw_quote (x ∷ y ∷ (p ++ rest)) ≡ None = no_raw x y (p ++ rest) h.1.0 in
    rw none (name_reached kind (x ∷ y ∷ p) rest run e)
  where
    no_raw : (x y : ℕ) (more : List ℕ) → is_word_byte y ≡ true → raw_quote (x ∷ y ∷ more) ≡ None
    no_raw x y more e = rw (word_no_quote y e) (by_bool (x == 114) (λ t. rw t refl) (λ t. rw t refl))

pub identifier_kind : (p : List ℕ) → ((word : Word) → ¬ (word_text word ≡ p)) → name_kind (word_of p) ≡ t.Identifier
identifier_kind p h = (elim (word_of p) as (λ o. word_of p ≡ o → name_kind (word_of p) ≡ t.Identifier) [
  | None ↦ λ e. rw e refl
  | Some word ↦ λ e. absurd (h word (found_text word p e))
]) refl

pub word_kind : (word : Word) → name_kind (word_of (word_text word)) ≡ t.Word word
word_kind word = rw (word_found word) refl

pub word_run : (word : Word) → IsRun is_letter is_word_byte (word_text word)
word_run w.Assert = (refl, (refl, (refl, (refl, (refl, (refl, tt))))))
word_run w.Break = (refl, (refl, (refl, (refl, (refl, tt)))))
word_run w.Case = (refl, (refl, (refl, (refl, tt))))
word_run w.Catch = (refl, (refl, (refl, (refl, (refl, tt)))))
word_run w.Class = (refl, (refl, (refl, (refl, (refl, tt)))))
word_run w.Const = (refl, (refl, (refl, (refl, (refl, tt)))))
word_run w.Continue = (refl, (refl, (refl, (refl, (refl, (refl, (refl, (refl, tt))))))))
word_run w.Default = (refl, (refl, (refl, (refl, (refl, (refl, (refl, tt)))))))
word_run w.Do = (refl, (refl, tt))
word_run w.Else = (refl, (refl, (refl, (refl, tt))))
word_run w.Enum = (refl, (refl, (refl, (refl, tt))))
word_run w.Extends = (refl, (refl, (refl, (refl, (refl, (refl, (refl, tt)))))))
word_run w.False = (refl, (refl, (refl, (refl, (refl, tt)))))
word_run w.Final = (refl, (refl, (refl, (refl, (refl, tt)))))
word_run w.Finally = (refl, (refl, (refl, (refl, (refl, (refl, (refl, tt)))))))
word_run w.For = (refl, (refl, (refl, tt)))
word_run w.If = (refl, (refl, tt))
word_run w.In = (refl, (refl, tt))
word_run w.Is = (refl, (refl, tt))
word_run w.New = (refl, (refl, (refl, tt)))
word_run w.Null = (refl, (refl, (refl, (refl, tt))))
word_run w.Rethrow = (refl, (refl, (refl, (refl, (refl, (refl, (refl, tt)))))))
word_run w.Return = (refl, (refl, (refl, (refl, (refl, (refl, tt))))))
word_run w.Super = (refl, (refl, (refl, (refl, (refl, tt)))))
word_run w.Switch = (refl, (refl, (refl, (refl, (refl, (refl, tt))))))
word_run w.This = (refl, (refl, (refl, (refl, tt))))
word_run w.Throw = (refl, (refl, (refl, (refl, (refl, tt)))))
word_run w.True = (refl, (refl, (refl, (refl, tt))))
word_run w.Try = (refl, (refl, (refl, tt)))
word_run w.Var = (refl, (refl, (refl, tt)))
word_run w.Void = (refl, (refl, (refl, (refl, tt))))
word_run w.While = (refl, (refl, (refl, (refl, (refl, tt)))))
word_run w.With = (refl, (refl, (refl, (refl, tt))))
word_run w.Abstract = (refl, (refl, (refl, (refl, (refl, (refl, (refl, (refl, tt))))))))
word_run w.As = (refl, (refl, tt))
word_run w.Deferred = (refl, (refl, (refl, (refl, (refl, (refl, (refl, (refl, tt))))))))
word_run w.Dynamic = (refl, (refl, (refl, (refl, (refl, (refl, (refl, tt)))))))
word_run w.Export = (refl, (refl, (refl, (refl, (refl, (refl, tt))))))
word_run w.External = (refl, (refl, (refl, (refl, (refl, (refl, (refl, (refl, tt))))))))
word_run w.Factory = (refl, (refl, (refl, (refl, (refl, (refl, (refl, tt)))))))
word_run w.Get = (refl, (refl, (refl, tt)))
word_run w.Implements = (refl, (refl, (refl, (refl, (refl, (refl, (refl, (refl, (refl, (refl, tt))))))))))
word_run w.Import = (refl, (refl, (refl, (refl, (refl, (refl, tt))))))
word_run w.Library = (refl, (refl, (refl, (refl, (refl, (refl, (refl, tt)))))))
word_run w.Operator = (refl, (refl, (refl, (refl, (refl, (refl, (refl, (refl, tt))))))))
word_run w.Part = (refl, (refl, (refl, (refl, tt))))
word_run w.Set = (refl, (refl, (refl, tt)))
word_run w.Static = (refl, (refl, (refl, (refl, (refl, (refl, tt))))))
word_run w.Typedef = (refl, (refl, (refl, (refl, (refl, (refl, (refl, tt)))))))

-- ---- what is found is a name

name_is : (around : Option Quote) (p : List ℕ) → IsRun is_letter is_word_byte p → IsPiece around (k.Lexeme (name_kind (word_of p))) p
name_is around p h = (elim (word_of p) as (λ o. word_of p ≡ o → IsPiece around (k.Lexeme (name_kind (word_of p))) p) [
  | None ↦ λ e. rw e (h, λ word f. let g : word_of p ≡ Some word = found_by_text word p f in absurd cc)
  | Some word ↦ λ e. rw e (sym (found_text word p e))
]) refl

name_sound : (around : Option Quote) (x : ℕ) (more : List ℕ) → is_letter x ≡ true → SoundAt around (x ∷ more) (name_found (prefix_len is_word_byte (x ∷ more)) (x ∷ more))
name_sound around x more e =
    let run = run_taken is_letter is_word_byte x more e (letter_in_word x e) in
    (run.0, prefix_within is_word_byte (x ∷ more), name_is around (take (prefix_len is_word_byte (x ∷ more)) (x ∷ more)) run.1)

pub letter_sound : (around : Option Quote) (x : ℕ) (more : List ℕ) → is_letter x ≡ true → SoundAt around (x ∷ more) (letter_at (x ∷ more))
letter_sound around x [] e = name_sound around x [] e
letter_sound around x (y ∷ more) e = (elim (raw_quote (x ∷ y ∷ more)) as (λ o. raw_quote (x ∷ y ∷ more) ≡ o → SoundAt around (x ∷ y ∷ more) (letter_at (x ∷ y ∷ more))) [
  | None ↦ λ f. rw f (name_sound around x (y ∷ more) e)
  | Some quote ↦ λ f.
      let (first, second) = raw_begins x y more quote f in
      rw f (subst (λ b. SoundAt around (b ∷ y ∷ more) (raw_at quote more)) (sym first) (subst (λ b. SoundAt around (114 ∷ b ∷ more) (raw_at quote more)) (sym second) (raw_sound around quote more)))
]) refl
  where
    raw_begins : (x y : ℕ) (more : List ℕ) (quote : Quote) → raw_quote (x ∷ y ∷ more) ≡ Some quote → (x ≡ 114) × (y ≡ quote_byte quote)
    raw_begins x y more quote e = by_bool (x == 114)
        (λ t. let same : x ≡ 114 = grind (arith, nat_tests) in (same, quote_is y quote (rw t at e)))
        (λ t. let bad : ◌≡◌ {A = Option Quote} None (Some quote) = rw t at e in absurd cc)
