-- The answer on a whole list, by where the cursor stands.
use Rattle.std.proofs.Common.{◌≡◌, ℕ, ◌-◌, Bool, List, [], ◌∷◌, length, Ok, Err, refl, sym, subst, arith}
use Rattle.dart_token.specs.declared.token.Token.{Token}
use Rattle.grammar_laws.specs.Readers.{Reader, Outcome}
use Rattle.grammar_laws.specs.Fronts.{Front}
use Rattle.grammar_laws.specs.Laws.{Laws}
use Rattle.grammar_laws.specs.Wholes.{answer_of, IsAnswer}
use Rattle.grammar_laws.proofs.Wholes.{answer_is}
use Rattle.token_cursor.specs.declared.error.ReadFault.{ReadFault}
use Rattle.token_cursor.specs.declared.error.ReadFault.TheVariants.{Stuck, Memory}
use Rattle.token_cursor.specs.Gives.{GivesHigh}

module _ {class_of : Token → ℕ} {A : Type 0} {read : Reader Token A} {spelling : A → List Token} {Fits : A → Type 0} {front : Front Token} {first : List ℕ} {next : A → List ℕ} {e : Bool} (laws : Laws class_of read spelling Fits front first next e) (ts : List Token) where
  by_outcome : (o : Outcome Token A) → read ts ≡ o → IsAnswer spelling Fits front ts (answer_of (length ts) o)
  by_outcome o is = subst (λ (x : Outcome Token A). IsAnswer spelling Fits front ts (answer_of (length ts) x)) is (answer_is laws ts)

  pub all_read : (a : A) (rest : List Token) → read ts ≡ Ok (a, rest) → length rest ≡ 0 → IsAnswer spelling Fits front ts (Ok a)
  all_read a [] is none = by_outcome (Ok (a, [])) is
  all_read a (t ∷ rest) is none = absurd (omega arith)

  pub some_left : (a : A) (rest : List Token) (at : ℕ) → read ts ≡ Ok (a, rest) → (length rest ≡ 0 → ⊥) → at ≡ length ts - length rest → IsAnswer spelling Fits front ts (Err at)
  some_left a [] at is none e = absurd (none refl)
  some_left a (t ∷ rest) at is none e = subst (λ (i : ℕ). IsAnswer spelling Fits front ts (Err i)) (sym e) (by_outcome (Ok (a, t ∷ rest)) is)

  pub stuck_at : (rest : List Token) (at : ℕ) → read ts ≡ Err rest → at ≡ length ts - length rest → IsAnswer spelling Fits front ts (Err at)
  stuck_at rest at is e = subst (λ (i : ℕ). IsAnswer spelling Fits front ts (Err i)) (sym e) (by_outcome (Err rest) is)

pub stuck_is : {X A : Type 0} (view : X → A) (height : A → ℕ) (d : ℕ) (o : Outcome Token A) (e : ReadFault) (new : List Token) → GivesHigh view height d o (Err e) new → e ≡ Stuck → o ≡ Err new
stuck_is view height d o Stuck new h is = h
stuck_is view height d o Memory new h is = absurd cc
