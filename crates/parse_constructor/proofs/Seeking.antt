-- A second reading that counts only where the first came no farther, also behind a beginning that both share.
use Rattle.std.proofs.Common.{◌≡◌, ℕ, Bool, true, false, if◌then◌else◌, List, Ok, Err, length, refl, ap}
use Rattle.std.specs.Prelude.{nat_lt, None}
use Rattle.dart_token.specs.declared.token.Token.{Token}
use Rattle.dart_tree.specs.declared.declaration.ConstructorName.{ConstructorName}
use Rattle.dart_tree.specs.Tree as t
use Rattle.dart_tree.specs.Unit as u
use Rattle.grammar_laws.specs.Readers.{Reader, Outcome, and_then, deeper, sought}
use Rattle.syntax_readers.specs.Declarations as spec
use Rattle.parse_nest.specs.Stages.{exprs_at, block_at, parameters_at}
use Rattle.token_cursor.specs.Gives.{GivesHigh}
use Rattle.parse_constructor.specs.Views.{Rest, generative_parts}

-- ---- a beginning that both share

if_same : {X : Type 0} (c : Bool) (x : X) → (if c then x else x) ≡ x
if_same true x = refl
if_same false x = refl

module _ {A B R X : Type 0} (f : A → B → R → X) where
  abbrev make : A × (B × R) → List Token → Outcome Token X
  make x rest = Ok (f x.0 x.1.0 x.1.1, rest)

  abbrev after : A → B × R → List Token → Outcome Token (A × (B × R))
  after a x rest = Ok ((a, x), rest)

  abbrev end_with : B → Outcome Token R → Outcome Token (B × R)
  end_with b o = and_then o (λ r rest. Ok ((b, r), rest))

  abbrev shaped : A → B → Outcome Token R → Outcome Token X
  shaped a b o = and_then (and_then (end_with b o) (after a)) make

  abbrev behind_first : A → Outcome Token B → Reader Token R → Outcome Token X
  behind_first a o p = and_then (and_then (and_then o (λ b mid. end_with b (p mid))) (after a)) make

  abbrev behind_both : Outcome Token A → Reader Token B → Reader Token R → Outcome Token X
  behind_both o q p =
      and_then (and_then o (λ a mid. and_then (and_then (q mid) (λ b end. end_with b (p end))) (after a))) make

  by_test : (a : A) (b : B) (c : Bool) (d : List Token) (o : Outcome Token R) →
      (if c then Err d else shaped a b o) ≡ shaped a b (if c then Err d else o)
  by_test a b true d o = refl
  by_test a b false d o = refl

  by_rest : (a : A) (b : B) (o o' : Outcome Token R) → deeper (shaped a b o) (shaped a b o') ≡ shaped a b (deeper o o')
  by_rest a b (Ok x) o' = refl
  by_rest a b (Err d) (Ok y) = by_test a b (nat_lt (length d) (length y.1)) d (Ok y)
  by_rest a b (Err d) (Err e) = by_test a b (nat_lt (length d) (length e)) d (Err e)

  by_second : (a : A) (o : Outcome Token B) (p p' : Reader Token R) →
      deeper (behind_first a o p) (behind_first a o p') ≡ behind_first a o (sought p p')
  by_second a (Ok y) p p' = by_rest a y.0 (p y.1) (p' y.1)
  by_second a (Err e) p p' = if_same (nat_lt (length e) (length e)) (Err e)

  by_first : (o : Outcome Token A) (q : Reader Token B) (p p' : Reader Token R) →
      deeper (behind_both o q p) (behind_both o q p') ≡ behind_both o q (sought p p')
  by_first (Ok x) q p p' = by_second x.0 (q x.1) p p'
  by_first (Err e) q p p' = if_same (nat_lt (length e) (length e)) (Err e)

abbrev a_generative : ConstructorName → t.Parameters → Rest → u.Constructor
a_generative name given rest = u.generative None name given rest.0 rest.1

pub generative_is : (n : ℕ) (class : List ℕ) (ts : List Token) →
    spec.generative (exprs_at n) (spec.init n) class ts ≡ generative_parts n class ts
unfolding spec.generative spec.generative_with
generative_is n class ts = by_first a_generative (spec.constructor_name class ts) (parameters_at n)
    (spec.with_initializers (spec.init n) (block_at n)) (spec.with_own_body (spec.init n) (block_at n))

-- ---- both readings

module _ {X A : Type 0} (view : X → A) (height : A → ℕ) (depth : ℕ) where
  -- the first reads
  pub first_reads : (p q : Outcome Token A) (x : X × ℕ) (new : List Token) → GivesHigh view height depth p (Ok x) new →
      GivesHigh view height depth (deeper p q) (Ok x) new
  first_reads p q x new h = (ap (λ (o : Outcome Token A). deeper o q) h.0, h.1, h.2)
