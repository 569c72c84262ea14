-- Ends of lists, by how long they are, and what begins a list.
use Rattle.std.proofs.Common.{◌≡◌, ℕ, true, false, List, [], ◌∷◌, ◌++◌, length, refl, sym, ap, arith}
use Rattle.std.proofs.lemmas.List.{length-append}
use Rattle.dart_token.specs.declared.token.Token.{Token}
use Rattle.grammar_laws.specs.Codes.{has}
use Rattle.grammar_laws.specs.Readers.{starts}
use Rattle.grammar_laws.proofs.Codes.{not_true}
use Rattle.grammar_laws.proofs.Cuts.{cut, same, longer, shorter, both_empty}
use Rattle.token_codes.specs.Codes.{class_of}

-- two ends of one list that are equally long are one
pub one_end : (a x b z : List Token) → a ++ x ≡ b ++ z → length x ≡ length z → z ≡ x
one_end a x b z e len = elim (cut a x b z e) as (λ _. z ≡ x) [
  | same u v ↦ sym v
  | longer t m u v ↦ absurd (omega (arith, len, ap length v, length-append m z))
  | shorter t m u v ↦ absurd (omega (arith, len, ap length v, length-append m x))
]

-- what has two parts that are not empty has two tokens
pub two_tokens : (a b c : List Token) (t : Token) → (b ≡ [] → ⊥) → (c ≡ [] → ⊥) → a ++ (b ++ c) ≡ t ∷ [] → ⊥
two_tokens [] [] c t some more e = some refl
two_tokens [] (u ∷ b) c t some more e = let none : b ++ c ≡ [] = cc in more (both_empty b c none).1
two_tokens (u ∷ a) b c t some more e = let none : a ++ (b ++ c) ≡ [] = cc in some (both_empty b c (both_empty a (b ++ c) none).1).0

-- what begins with one of these begins with none of those
pub off_by : (codes others : List ℕ) → ((k : ℕ) → has codes k ≡ true → has others k ≡ true → ⊥) → (m : List Token) → starts class_of others m ≡ true → starts class_of codes m ≡ false
off_by codes others off [] h = refl
off_by codes others off (t ∷ m) h = not_true (has codes (class_of t)) (λ k. off (class_of t) k h)
