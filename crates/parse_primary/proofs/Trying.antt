-- Two readings of the same tokens, one behind the other.
use Rattle.std.proofs.Common.{◌≡◌, ℕ, Bool, true, false, List, Ok, Err, length, refl, sym, ap, subst, ◌∙◌}
use Rattle.std.specs.Prelude.{Result, nat_lt}
use Rattle.dart_token.specs.declared.token.Token.{Token}
use Rattle.grammar_laws.specs.Readers.{Reader, Outcome, farther, deeper, tried, sought}
use Rattle.token_cursor.specs.declared.error.ReadFault.{ReadFault}
use Rattle.token_cursor.specs.declared.error.ReadFault.TheVariants.{Stuck, Memory}
use Rattle.token_cursor.specs.Gives.{GivesHigh}
use Rattle.syntax_readers.specs.Combinators.{past_name}
use Rattle.parse_type.specs.Views.{behind_name, later}
use Rattle.parse_type.proofs.Looking.{past_gives, past_stops}

module _ {A : Type 0} where
  farther_by : (d e : List Token) (c : Bool) → nat_lt (length d) (length e) ≡ c → farther {A = A} (Err d) (Err e) ≡ Err (later d e)
  farther_by d e true on = rw on refl
  farther_by d e false off = rw off refl

  deeper_by : (d e : List Token) (c : Bool) → nat_lt (length d) (length e) ≡ c → deeper {A = A} (Err d) (Err e) ≡ Err (later d e)
  deeper_by d e true on = rw on refl
  deeper_by d e false off = rw off refl

module _ {X A : Type 0} (view : X → A) (height : A → ℕ) (depth : ℕ) where
  -- ---- the first reading

  pub tried_first : (p q : Reader Token A) (ts new : List Token) (x : X × ℕ) → GivesHigh view height depth (p ts) (Ok x) new → GivesHigh view height depth (tried p q ts) (Ok x) new
  tried_first p q ts new x h = (ap (λ (o : Outcome Token A). farther o (q ts)) h.0, h.1, h.2)

  pub sought_first : (p q : Reader Token A) (ts new : List Token) (x : X × ℕ) → GivesHigh view height depth (p ts) (Ok x) new → GivesHigh view height depth (sought p q ts) (Ok x) new
  sought_first p q ts new x h = (ap (λ (o : Outcome Token A). deeper o (q ts)) h.0, h.1, h.2)

  pub tried_second : (p q : Reader Token A) (ts start mid new : List Token) (r : Result (X × ℕ) ReadFault) → start ≡ ts → p ts ≡ Err mid → GivesHigh view height depth (farther (Err mid) (q start)) r new → GivesHigh view height depth (tried p q ts) r new
  tried_second p q ts start mid new r same e h =
      subst (λ (o : Outcome Token A). GivesHigh view height depth (farther o (q ts)) r new) (sym e)
      (subst (λ (l : List Token). GivesHigh view height depth (farther (Err mid) (q l)) r new) same h)

  pub sought_second : (p q : Reader Token A) (ts start mid new : List Token) (r : Result (X × ℕ) ReadFault) → start ≡ ts → p ts ≡ Err mid → GivesHigh view height depth (deeper (Err mid) (q start)) r new → GivesHigh view height depth (sought p q ts) r new
  sought_second p q ts start mid new r same e h =
      subst (λ (o : Outcome Token A). GivesHigh view height depth (deeper o (q ts)) r new) (sym e)
      (subst (λ (l : List Token). GivesHigh view height depth (deeper (Err mid) (q l)) r new) same h)

  -- ---- the second, where the first stopped there

  pub farther_gives : (q : Reader Token A) (ts start mid new : List Token) (x : X × ℕ) → start ≡ ts → GivesHigh view height depth (q start) (Ok x) new → GivesHigh view height depth (farther (Err mid) (q ts)) (Ok x) new
  farther_gives q ts start mid new x same h = (ap (λ (l : List Token). farther (Err mid) (q l)) (sym same) ∙ ap (farther (Err mid)) h.0, h.1, h.2)

  pub farther_stops : (q : Reader Token A) (ts start mid end new : List Token) (e : ReadFault) → start ≡ ts → new ≡ later mid end → GivesHigh view height depth (q start) (Err e) end → GivesHigh view height depth (farther (Err mid) (q ts)) (Err e) new
  farther_stops q ts start mid end new Stuck same at h =
      ap (λ (l : List Token). farther (Err mid) (q l)) (sym same) ∙ ap (farther (Err mid)) h ∙ farther_by mid end (nat_lt (length mid) (length end)) refl ∙ ap (λ (l : List Token). Err l) (sym at)
  farther_stops q ts start mid end new Memory same at h = tt

  pub deeper_gives : (q : Reader Token A) (ts start mid new : List Token) (x : X × ℕ) → start ≡ ts → nat_lt (length mid) (length new) ≡ false → GivesHigh view height depth (q start) (Ok x) new → GivesHigh view height depth (deeper (Err mid) (q ts)) (Ok x) new
  deeper_gives q ts start mid new x same off h = (ap (λ (l : List Token). deeper (Err mid) (q l)) (sym same) ∙ ap (deeper (Err mid)) h.0 ∙ rw off refl, h.1, h.2)

  pub deeper_refuses : (q : Reader Token A) (ts start mid new : List Token) (x : X × ℕ) → start ≡ ts → nat_lt (length mid) (length new) ≡ true → GivesHigh view height depth (q start) (Ok x) new → GivesHigh view height depth (deeper (Err mid) (q ts)) (Err Stuck) mid
  deeper_refuses q ts start mid new x same on h = ap (λ (l : List Token). deeper (Err mid) (q l)) (sym same) ∙ ap (deeper (Err mid)) h.0 ∙ rw on refl

  pub deeper_stops : (q : Reader Token A) (ts start mid end new : List Token) (e : ReadFault) → start ≡ ts → new ≡ later mid end → GivesHigh view height depth (q start) (Err e) end → GivesHigh view height depth (deeper (Err mid) (q ts)) (Err e) new
  deeper_stops q ts start mid end new Stuck same at h =
      ap (λ (l : List Token). deeper (Err mid) (q l)) (sym same) ∙ ap (deeper (Err mid)) h ∙ deeper_by mid end (nat_lt (length mid) (length end)) refl ∙ ap (λ (l : List Token). Err l) (sym at)
  deeper_stops q ts start mid end new Memory same at h = tt

  -- ---- where an identifier may come as another thing, too

  pub past_reads : (p : Reader Token A) (ts new : List Token) (x : X × ℕ) → GivesHigh view height depth (p ts) (Ok x) new → GivesHigh view height depth (past_name p ts) (Ok x) new
  past_reads p ts new x h = (past_gives p ts new (view x.0) h.0, h.1, h.2)

  pub past_fails : (p : Reader Token A) (ts start end new : List Token) (e : ReadFault) → start ≡ ts → new ≡ later (behind_name start) end → GivesHigh view height depth (p ts) (Err e) end → GivesHigh view height depth (past_name p ts) (Err e) new
  past_fails p ts start end new Stuck same at h =
      past_stops p ts end h ∙ ap (λ (l : List Token). Err (later (behind_name l) end)) (sym same) ∙ ap (λ (l : List Token). Err l) (sym at)
  past_fails p ts start end new Memory same at h = tt
