-- A reading of the first tokens alone that fails.
use Rattle.std.proofs.Common.{◌≡◌, ℕ, ◌-◌, List, take, drop, length, Err, sym, ap, ◌∙◌}
use Rattle.dart_token.specs.declared.token.Token.{Token}
use Rattle.grammar_laws.specs.Readers.{Reader}
use Rattle.syntax_readers.specs.Combinators.{up_to, ended_at}
use Rattle.token_cursor.specs.declared.error.ReadFault.{ReadFault}
use Rattle.token_cursor.specs.declared.error.ReadFault.TheVariants.{Stuck, Memory}
use Rattle.token_cursor.specs.Gives.{GivesHigh}

module _ {A : Type 0} (n : ℕ) (p : Reader Token A) (ts cut : List Token) (is : cut ≡ take n ts) where
  from_cut : (rest : List Token) → p cut ≡ Err rest → up_to n p ts ≡ Err (drop (n - length rest) ts)
  from_cut rest e = ap (λ (l : List Token). ended_at n ts (p l)) (sym is) ∙ ap (ended_at n ts) e

  module _ {X : Type 0} (view : X → A) (height : A → ℕ) (depth : ℕ) (rest new : List Token) (at : new ≡ drop (n - length rest) ts) where
    pub cut_passes : (e : ReadFault) → GivesHigh view height depth (p cut) (Err e) rest → GivesHigh view height depth (up_to n p ts) (Err e) new
    cut_passes Stuck h = from_cut rest h ∙ ap (λ (l : List Token). Err l) (sym at)
    cut_passes Memory h = tt
