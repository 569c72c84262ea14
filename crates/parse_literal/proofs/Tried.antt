-- A second try, where the first reading stopped.
use Rattle.std.proofs.Common.{◌≡◌, ℕ, Bool, true, false, List, length, Result, Ok, Err, refl, sym, subst, ap, ◌∙◌}
use Rattle.std.specs.Prelude.{nat_lt}
use Rattle.dart_token.specs.declared.token.Token.{Token}
use Rattle.grammar_laws.specs.Readers.{Reader, Outcome, farther, tried}
use Rattle.token_cursor.specs.declared.error.ReadFault.{ReadFault}
use Rattle.token_cursor.specs.declared.error.ReadFault.TheVariants.{Stuck, Memory}
use Rattle.token_cursor.specs.Gives.{GivesHigh}
use Rattle.parse_type.specs.Views.{later}

module _ {X A : Type 0} (view : X → A) (height : A → ℕ) (depth : ℕ) where
  -- what the second gives is given
  pub second_reads : (o : Outcome Token A) (at new : List Token) (x : X × ℕ) → GivesHigh view height depth o (Ok x) new → GivesHigh view height depth (farther (Err at) o) (Ok x) new
  second_reads o at new x h = (ap (farther (Err at)) h.0, h.1, h.2)

  by_length : (at end : List Token) (c : Bool) → nat_lt (length at) (length end) ≡ c → farther {A = A} (Err at) (Err end) ≡ Err (later at end)
  by_length at end true on = rw on refl
  by_length at end false off = rw off refl

  -- where the second stops too, the later place is told
  pub second_stops : (o : Outcome Token A) (at end new : List Token) (fault : ReadFault) → new ≡ later at end → GivesHigh view height depth o (Err fault) end → GivesHigh view height depth (farther (Err at) o) (Err fault) new
  second_stops o at end new Stuck is h = subst (λ (l : List Token). farther (Err at) o ≡ Err l) (sym is) (ap (farther (Err at)) h ∙ by_length at end (nat_lt (length at) (length end)) refl)
  second_stops o at end new Memory is h = tt

  -- a first that reads, and one that stops
  pub first_reads : (p q : Reader Token A) (ts new : List Token) (x : X × ℕ) → GivesHigh view height depth (p ts) (Ok x) new → GivesHigh view height depth (tried p q ts) (Ok x) new
  first_reads p q ts new x h = (ap (λ (o : Outcome Token A). farther o (q ts)) h.0, h.1, h.2)

  pub first_stops : (p q : Reader Token A) (ts at new : List Token) (result : Result (X × ℕ) ReadFault) → p ts ≡ Err at → GivesHigh view height depth (farther (Err at) (q ts)) result new → GivesHigh view height depth (tried p q ts) result new
  first_stops p q ts at new result e h = subst (λ (o : Outcome Token A). GivesHigh view height depth (farther o (q ts)) result new) (sym e) h
