-- Two tries of one list: which of their faults is told, and what is begun behind either.
use Rattle.std.proofs.Common.{◌≡◌, ℕ, Bool, true, false, if◌then◌else◌, List, ◌++◌, length, Option, Ok, Err, refl, sym, ap, ◌∙◌, ltb, arith}
use Rattle.std.proofs.lemmas.Bool.{ltb-true, ltb-false}
use Rattle.std.proofs.lemmas.List.{length-append}
use Rattle.dart_token.specs.declared.token.Token.{Token}
use Rattle.grammar_laws.specs.Readers.{Outcome, Reader, and_then, farther}
use Rattle.grammar_laws.proofs.Cuts.{same, longer, shorter, cut}
use Rattle.laws_block.specs.Begun.{begun}
use Rattle.laws_block.proofs.Begun.{Gives, gives}

-- of two faults of one list that are equally far neither comes first
module _ {A : Type 0} where
  abbrev choose : Bool → List Token → List Token → Outcome Token A
  choose c d e = if c then Err d else Err e

  pub either_order : (ts d e a b : List Token) (c m : Bool) → ltb (length d) (length e) ≡ c → ltb (length e) (length d) ≡ m → ts ≡ a ++ d → ts ≡ b ++ e → choose m e d ≡ choose c d e
  either_order ts d e a b true true f g x y = absurd (omega (arith, ltb-true (length d) (length e) f, ltb-true (length e) (length d) g))
  either_order ts d e a b true false f g x y = refl
  either_order ts d e a b false true f g x y = refl
  either_order ts d e a b false false f g x y = ap (λ (r : List Token). Err r) (elim (cut a d b e (sym x ∙ y)) as (λ _. d ≡ e) [
    | same u v ↦ v
    | longer t z u v ↦ absurd (omega (arith, ltb-false (length e) (length d) g, ap length v, length-append z e))
    | shorter t z u v ↦ absurd (omega (arith, ltb-false (length d) (length e) f, ap length v, length-append z d))
  ])

  pub last_of : (ts e before : List Token) (c : Bool) → ltb (length ts) (length e) ≡ c → ts ≡ before ++ e → choose c ts e ≡ Err e
  last_of ts e before false h is = refl
  last_of ts e before true h is = absurd (omega (arith, ltb-true (length ts) (length e) h, ap length is, length-append before e))

-- what is begun behind the tree that is read in the end
module _ {A : Type 0} (level : A → Option ℕ) where
  abbrev tail : A → Reader Token (A × List Token)
  tail a mid = and_then (begun (level a) mid) (λ m r. Ok ((a, m), r))

  abbrev pair : A → List Token → A × List Token
  pair a m = (a, m)

  tail_ok : (a : A) (mid : List Token) → (y : A × List Token) × (rest : List Token) × (tail a mid ≡ Ok (y, rest))
  tail_ok a mid = of (gives (level a) mid) where
    of : Gives (level a) mid → (y : A × List Token) × (rest : List Token) × (tail a mid ≡ Ok (y, rest))
    of g = (pair a g.tokens, g.rest, ap (λ (o : Outcome Token (List Token)). and_then o (λ m r. Ok ((a, m), r))) g.read)

  kept : (d e : List Token) (c : Bool) → and_then (choose {A = A} c d e) tail ≡ choose c d e
  kept d e true = refl
  kept d e false = refl

  pub both_begun : (r s : Outcome Token A) → and_then (farther r s) tail ≡ farther (and_then r tail) (and_then s tail)
  both_begun (Ok x) s = let w = tail_ok x.0 x.1 in w.2 ∙ sym (ap (λ (o : Outcome Token (A × List Token)). farther o (and_then s tail)) w.2)
  both_begun (Err d) (Ok x) = let w = tail_ok x.0 x.1 in w.2 ∙ sym (ap (λ (o : Outcome Token (A × List Token)). farther (Err d) o) w.2)
  both_begun (Err d) (Err e) = kept d e (ltb (length d) (length e))
