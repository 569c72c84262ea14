-- What stands behind a statement that may end in a `try` with room for another part.
use Rattle.std.proofs.Common.{◌≡◌, ℕ, if◌then◌else◌, List, Option, Some, None, Ok, Err, Result, is_ok, refl, sym, ap, subst, ◌∙◌}
use Rattle.dart_token.specs.declared.token.Token.{Token}
use Rattle.grammar_laws.specs.Readers.{Reader, Outcome, and_then}
use Rattle.syntax_readers.specs.Combinators.{halting}
use Rattle.syntax_readers.specs.Statements.{on_type, behind_try}
use Rattle.syntax_readers.specs.Types.{type_reader}
use Rattle.token_cursor.specs.declared.error.ReadFault.{ReadFault}
use Rattle.token_cursor.specs.Gives.{GivesHigh}
use Rattle.parse_type.specs.Views.{later}
use Rattle.parse_parameter.proofs.Trying.{tries}
use Rattle.parse_block.specs.Views.{room_of, end_of, behind_room}

halts_by : {A B : Type 0} (o : Outcome Token A) → and_then {B = B} o (λ a rest. Err rest) ≡ Err (end_of o)
halts_by (Ok x) = refl
halts_by (Err rest) = refl

-- by the room, or by the number of nodes round the `try`
pub in_room : {A : Type 0} (n : ℕ) (before : Option ℕ) (p : Reader Token A) (ts : List Token) → behind_try n before p ts ≡ behind_room (room_of n before) p ts
in_room n None p ts = refl
in_room n (Some above) p ts = refl

pub by_room : {A : Type 0} (n : ℕ) (before room : Option ℕ) (p : Reader Token A) (ts : List Token) → room ≡ room_of n before → behind_try n before p ts ≡ behind_room room p ts
by_room n before room p ts is = in_room n before p ts ∙ ap (λ (r : Option ℕ). behind_room r p ts) (sym is)

module _ {X A : Type 0} (view : X → A) (height : A → ℕ) (depth : ℕ) (p : Reader Token A) (start : List Token) where
  abbrev gives : Option ℕ → Result (X × ℕ) ReadFault → List Token → Type 0
  gives room result new = GivesHigh view height depth (behind_room room p start) result new

  -- no such `try`
  pub plain : (room : Option ℕ) (result : Result (X × ℕ) ReadFault) (new : List Token) → room ≡ None → GivesHigh view height depth (p start) result new → GivesHigh view height depth (behind_room room p start) result new
  plain room result new none h = subst (λ (r : Option ℕ). gives r result new) (sym none) h

  -- `on` and a type are tried too
  pub beside : (room : Option ℕ) (n : ℕ) (mid end new : List Token) (result : Result (X × ℕ) ReadFault) → room ≡ Some n → mid ≡ end_of (on_type (type_reader n) start) →
      GivesHigh view height depth (p start) result end → new ≡ (if is_ok result then end else later mid end) → GivesHigh view height depth (behind_room room p start) result new
  beside room n mid end new result some e h settled =
      subst (λ (r : Option ℕ). gives r result new) (sym some)
      (tries view height depth (halting (on_type (type_reader n)) start) (p start) mid end new result
      (halts_by (on_type (type_reader n) start) ∙ ap (λ (l : List Token). Err l) (sym e)) h settled)

  pub counted : (before room : Option ℕ) (result : Result (X × ℕ) ReadFault) (new : List Token) → room ≡ room_of depth before → GivesHigh view height depth (behind_room room p start) result new → GivesHigh view height depth (behind_try depth before p start) result new
  counted before room result new is h = subst (λ (o : Outcome Token A). GivesHigh view height depth o result new) (sym (by_room depth before room p start is)) h
