-- What the next two tokens tell, and where a reading stops that a name may begin.
use Rattle.std.proofs.Common.{◌≡◌, ℕ, Bool, true, false, ◌&&◌, ◌||◌, List, [], ◌∷◌, ◌++◌, drop, length, Ok, Err, refl, sym, ap, ap₂, ◌∙◌}
use Rattle.std.specs.Prelude.{nat_lt, ◌==◌}
use Rattle.dart_token.specs.declared.token.Token.{Token}
use Rattle.grammar_laws.specs.Codes.{has}
use Rattle.grammar_laws.specs.Readers.{Reader, starts, starts_two, one, farther}
use Rattle.grammar_laws.proofs.Codes.{and_false}
use Rattle.dart_token.specs.declared.sign.Sign.TheVariants as s
use Rattle.dart_token.specs.declared.word.Word.TheVariants as w
use Rattle.token_codes.specs.Codes.{class_of, names, sign_code, word_code, these, this_word}
use Rattle.syntax_readers.specs.Types.{behind_type_name}
use Rattle.syntax_readers.specs.Combinators.{past_name, halting}
use Rattle.parse_type.specs.Views.{behind_name, later}

pub two_is : (codes seconds : List ℕ) (ts : List Token) → starts_two class_of codes seconds ts ≡ (starts class_of codes ts && starts class_of seconds (drop 1 ts))
two_is codes seconds [] = refl
two_is codes seconds (t ∷ []) = sym (and_false (has codes (class_of t)) false refl)
two_is codes seconds (t ∷ u ∷ ts) = refl

or_assoc : (a b c : Bool) → ((a || b) || c) ≡ (a || (b || c))
or_assoc true b c = refl
or_assoc false b c = refl

has_either : (xs ys : List ℕ) (n : ℕ) → has (xs ++ ys) n ≡ (has xs n || has ys n)
has_either [] ys n = refl
has_either (x ∷ xs) ys n = ap (λ (b : Bool). n == x || b) (has_either xs ys n) ∙ sym (or_assoc (n == x) (has xs n) (has ys n))

pub starts_either : (xs ys : List ℕ) (ts : List Token) → starts class_of (xs ++ ys) ts ≡ (starts class_of xs ts || starts class_of ys ts)
starts_either xs ys [] = refl
starts_either xs ys (t ∷ ts) = has_either xs ys (class_of t)

-- what makes the identifier before it a type's name
pub starts_behind : (ts : List Token) → starts class_of behind_type_name ts ≡ (starts class_of names ts || (starts class_of (these s.Dot) ts || (starts class_of (these s.Less) ts || (starts class_of (this_word w.This) ts || starts class_of (this_word w.Operator) ts))))
starts_behind ts =
    starts_either names (sign_code s.Dot ∷ sign_code s.Less ∷ word_code w.This ∷ word_code w.Operator ∷ []) ts
    ∙ ap (λ (b : Bool). starts class_of names ts || b) (starts_either (these s.Dot) (sign_code s.Less ∷ word_code w.This ∷ word_code w.Operator ∷ []) ts
    ∙ ap (λ (b : Bool). starts class_of (these s.Dot) ts || b) (starts_either (these s.Less) (word_code w.This ∷ word_code w.Operator ∷ []) ts
    ∙ ap (λ (b : Bool). starts class_of (these s.Less) ts || b) (starts_either (this_word w.This) (word_code w.Operator ∷ []) ts)))

-- ---- where a name may be read in place of a tree

module _ {A : Type 0} where
  halts_at : (t : Token) (ts : List Token) (c : Bool) → has names (class_of t) ≡ c → halting {A = Token} {B = A} (one class_of names) (t ∷ ts) ≡ Err (behind_name (t ∷ ts))
  halts_at t ts true on = rw on refl
  halts_at t ts false off = rw off refl

  halts : (ts : List Token) → halting {A = Token} {B = A} (one class_of names) ts ≡ Err (behind_name ts)
  halts [] = refl
  halts (t ∷ ts) = halts_at t ts (has names (class_of t)) refl

  -- a reader that reads reads the same, and one that stops stops no earlier than behind a name
  pub past_gives : (p : Reader Token A) (ts rest : List Token) (a : A) → p ts ≡ Ok (a, rest) → past_name p ts ≡ Ok (a, rest)
  past_gives p ts rest a e = ap₂ farther (halts ts) e

  by_length : (d e : List Token) (c : Bool) → nat_lt (length d) (length e) ≡ c → farther {A = A} (Err d) (Err e) ≡ Err (later d e)
  by_length d e true on = rw on refl
  by_length d e false off = rw off refl

  pub past_stops : (p : Reader Token A) (ts end : List Token) → p ts ≡ Err end → past_name p ts ≡ Err (later (behind_name ts) end)
  past_stops p ts end e = ap₂ farther (halts ts) e ∙ by_length (behind_name ts) end (nat_lt (length (behind_name ts)) (length end)) refl
