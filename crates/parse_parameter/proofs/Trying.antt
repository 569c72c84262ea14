-- A second try, behind a first that read nothing.
use Rattle.std.proofs.Common.{◌≡◌, ℕ, Bool, true, false, if◌then◌else◌, List, Ok, Err, Result, length, is_ok, refl, sym, ap, ap₂, ◌∙◌}
use Rattle.std.specs.Prelude.{nat_lt}
use Rattle.dart_token.specs.declared.token.Token.{Token}
use Rattle.grammar_laws.specs.Readers.{Outcome, farther}
use Rattle.parse_type.specs.Views.{later}
use Rattle.token_cursor.specs.declared.error.ReadFault.{ReadFault}
use Rattle.token_cursor.specs.declared.error.ReadFault.TheVariants.{Stuck, Memory}
use Rattle.token_cursor.specs.Gives.{Gives, GivesHigh}

by_length : {A : Type 0} (d e : List Token) (c : Bool) → nat_lt (length d) (length e) ≡ c → farther {A = A} (Err d) (Err e) ≡ Err (later d e)
by_length d e true on = rw on refl
by_length d e false off = rw off refl

-- the first reads
pub reads : {X A : Type 0} (view : X → A) (height : A → ℕ) (depth : ℕ) (p q : Outcome Token A) (x : X × ℕ) (new : List Token) →
    GivesHigh view height depth p (Ok x) new → GivesHigh view height depth (farther p q) (Ok x) new
reads view height depth p q x new h = (ap (λ (o : Outcome Token _). farther o q) h.0, h.1, h.2)

-- the first stops, and the second is tried
pub tries : {X A : Type 0} (view : X → A) (height : A → ℕ) (depth : ℕ) (p q : Outcome Token A) (mid end new : List Token) (result : Result (X × ℕ) ReadFault) →
    p ≡ Err mid → GivesHigh view height depth q result end → new ≡ (if is_ok result then end else later mid end) → GivesHigh view height depth (farther p q) result new
tries view height depth p q mid end new (Ok x) e h is = (ap₂ farther e (h.0) ∙ ap (λ (l : List Token). Ok (view x.0, l)) (sym is), h.1, h.2)
tries view height depth p q mid end new (Err Stuck) e h is = ap₂ farther e h ∙ by_length mid end (nat_lt (length mid) (length end)) refl ∙ ap (λ (l : List Token). Err l) (sym is)
tries view height depth p q mid end new (Err Memory) e h is = tt

-- a fault of what counts no nodes is passed on
pub passes_low : {X A Y B : Type 0} (view : X → A) (o : Outcome Token A) (view' : Y → B) (height : B → ℕ) (depth : ℕ) (whole : Outcome Token B) (e : ReadFault) (new : List Token) →
    ((rest : List Token) → o ≡ Err rest → whole ≡ Err rest) → Gives view o (Err e) new → GivesHigh view' height depth whole (Err e) new
passes_low view o view' height depth whole Stuck new f h = f new h
passes_low view o view' height depth whole Memory new f h = tt
