-- One of several signs, sign by sign.
use Rattle.std.proofs.Common.{◌≡◌, ℕ, zero, suc, ◌<◌, ◌≤◌, length, get_or, drop, arith, Bool, true, false, ◌||◌, List, [], ◌∷◌, Err, refl, ◌∙◌}
use Rattle.std.proofs.lemmas.List.{drop_all}
use Rattle.dart_token.specs.declared.sign.Sign.{Sign}
use Rattle.dart_token.specs.declared.token.Token.{Token}
use Rattle.grammar_laws.specs.Readers.{starts}
use Rattle.grammar_laws.proofs.Codes.{or_left}
use Rattle.token_codes.specs.Codes.{class_of, these, sign_codes}
use Rattle.token_codes.specs.Leaves.{signed, one_of}
use Rattle.parse_type.proofs.Looking.{starts_either}

or_second : (a b : Bool) → a ≡ false → (a || b) ≡ b
or_second true b off = absurd cc
or_second false b off = refl

none_seen : (ts : List Token) → starts class_of [] ts ≡ false
none_seen [] = refl
none_seen (t ∷ ts) = refl

-- ---- which sign comes

pub seen_pass : (signs : List Sign) (i : ℕ) (d : Sign) (ts : List Token) → i < length signs → starts class_of (these (get_or signs i d)) ts ≡ false → starts class_of (sign_codes (drop i signs)) ts ≡ starts class_of (sign_codes (drop (suc i) signs)) ts
seen_pass [] i d ts below off = absurd (omega arith)
seen_pass (y ∷ ys) zero d ts below off = starts_either (these y) (sign_codes ys) ts ∙ or_second (starts class_of (these y) ts) (starts class_of (sign_codes ys) ts) off
seen_pass (y ∷ ys) (suc i) d ts below off = seen_pass ys i d ts (omega arith) off

pub seen_take : (signs : List Sign) (i : ℕ) (d : Sign) (ts : List Token) → i < length signs → starts class_of (these (get_or signs i d)) ts ≡ true → starts class_of (sign_codes (drop i signs)) ts ≡ true
seen_take [] i d ts below on = absurd (omega arith)
seen_take (y ∷ ys) zero d ts below on = starts_either (these y) (sign_codes ys) ts ∙ or_left (starts class_of (these y) ts) (starts class_of (sign_codes ys) ts) on
seen_take (y ∷ ys) (suc i) d ts below on = seen_take ys i d ts (omega arith) on

pub seen_over : (signs : List Sign) (i : ℕ) (ts : List Token) → length signs ≤ i → starts class_of (sign_codes (drop i signs)) ts ≡ false
seen_over signs i ts over = rw (drop_all i signs over) (none_seen ts)

-- ---- which operator is read

pub read_pass : (signs : List Sign) (i : ℕ) (d : Sign) (ts : List Token) → i < length signs → starts class_of (these (get_or signs i d)) ts ≡ false → one_of (drop i signs) ts ≡ one_of (drop (suc i) signs) ts
unfolding one_of
read_pass [] i d ts below off = absurd (omega arith)
read_pass (y ∷ ys) zero d ts below off = rw off refl
read_pass (y ∷ ys) (suc i) d ts below off = read_pass ys i d ts (omega arith) off

pub read_take : (signs : List Sign) (i : ℕ) (d : Sign) (ts : List Token) → i < length signs → starts class_of (these (get_or signs i d)) ts ≡ true → one_of (drop i signs) ts ≡ signed (get_or signs i d) ts
unfolding one_of
read_take [] i d ts below on = absurd (omega arith)
read_take (y ∷ ys) zero d ts below on = rw on refl
read_take (y ∷ ys) (suc i) d ts below on = read_take ys i d ts (omega arith) on

pub read_over : (signs : List Sign) (i : ℕ) (ts : List Token) → length signs ≤ i → one_of (drop i signs) ts ≡ Err ts
unfolding one_of
read_over signs i ts over = rw (drop_all i signs over) refl
