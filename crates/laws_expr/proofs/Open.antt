-- The laws of readers of what may end in an operand: the half of an operator behind it is read with it.
use Rattle.std.proofs.Common.{◌≡◌, ℕ, Bool, true, false, if◌then◌else◌, List, [], ◌∷◌, ◌++◌, Option, None, Some, Ok, ◌⊎◌, inl, inr, refl, ap, sym, ◌∙◌, append_assoc}
use Rattle.std.proofs.lemmas.List.{append-nil}
use Rattle.dart_base.specs.declared.place.Place.{Place}
use Rattle.dart_token.specs.declared.token.Token.{Token}
use Rattle.dart_token.specs.declared.sign.Sign.TheVariants as s
use Rattle.dart_tree.specs.LeafTokens.{sign_at}
use Rattle.grammar_laws.specs.Codes.{has, Apart, Within}
use Rattle.grammar_laws.specs.Readers.{Reader, starts, mapped, both, by_first, checked}
use Rattle.grammar_laws.specs.Fronts.{Front, Joint, Either, EitherFit, BothFit, GoodFit, Made, joined_spelling, both_spelling}
use Rattle.grammar_laws.specs.Readers.{always}
use Rattle.grammar_laws.specs.Halves.{with_none, strict}
use Rattle.grammar_laws.specs.Laws.{Laws, Stops}
use Rattle.grammar_laws.proofs.Codes.{not_true, within_self}
use Rattle.grammar_laws.proofs.Joints.{begins}
use Rattle.grammar_laws.proofs.Restated.{mapped_laws, made_laws, refit, refront, wider, checked_laws}
use Rattle.grammar_laws.proofs.Combined.{both_laws}
use Rattle.grammar_laws.proofs.Chosen.{by_first_laws}
use Rattle.grammar_laws.proofs.Halves.{strict_laws}
use Rattle.dart_syntax.specs.Leaves.{sign_tokens}
use Rattle.token_codes.specs.Codes.{class_of, sign_code}
use Rattle.syntax_readers.specs.Combinators.{Open, with_half, shut}

abbrev pub half_tokens : Place → List Token
half_tokens = sign_tokens s.Greater

abbrev pub open_spelling : {A : Type 0} → (A → List Token) → Open A → List Token
open_spelling f = joined_spelling f half_tokens

-- what may go on behind a tree alone, and behind one with a half
abbrev pub after_open : {A : Type 0} → (A → List ℕ) → (A → List ℕ) → Open A → List ℕ
after_open next half (x, None) = next x
after_open next half (x, Some greater) = half x

pub half_said : {A : Type 0} (tokens : A → List Token) (x : A) (g : Place) (rest : List Token) → open_spelling tokens (x, None) ++ sign_at g s.Greater ∷ rest ≡ open_spelling tokens (x, Some g) ++ rest
half_said tokens x g rest = append_assoc (tokens x) [] (sign_at g s.Greater ∷ rest) ∙ sym (append_assoc (tokens x) (half_tokens g) rest)

-- without a half exactly the trees that fit are read, and with one some of them
pub record OpenLaws {A : Type 0} (read : Reader Token (Open A)) (tokens : A → List Token) (F : A → Type 0) (front : Front Token) (first : List ℕ) (next half : A → List ℕ) : Type 1 where
  pub Fits : Open A → Type 0
  pub none_in : (x : A) → F x → Fits (x, None)
  pub none_out : (x : A) → Fits (x, None) → F x
  pub some_out : (x : A) (greater : Place) → Fits (x, Some greater) → F x
  pub laws : Laws class_of read (open_spelling tokens) Fits front first (after_open next half) false

module _ {A : Type 0} {read : Reader Token (Open A)} {tokens : A → List Token} {F : A → Type 0} {front : Front Token} {first : List ℕ} {next half : A → List ℕ} (P : OpenLaws read tokens F front first next half) where
  pub tree_fits : (x : Open A) → P.Fits x → F x.0
  tree_fits (x, None) fits = P.none_out x fits
  tree_fits (x, Some greater) fits = P.some_out x greater fits

  -- of a `>` behind the tree: the reader gives it as a half, or stops before it
  abbrev pub Settled : A → Type 0
  Settled x = ((g : Place) → P.Fits (x, Some g)) ⊎ ((g : Place) (ts : List Token) → read (open_spelling tokens (x, None) ++ sign_at g s.Greater ∷ ts) ≡ Ok ((x, None), sign_at g s.Greater ∷ ts))

  -- it stops before what may not go on
  pub stops_before : (x : A) → F x → has (next x) (sign_code s.Greater) ≡ false → Settled x
  unfolding class_of
  stops_before x fits off = inr (λ g ts. P.laws.complete (x, None) (sign_at g s.Greater ∷ ts) (P.none_in x fits) off)

abbrev pub bare : {A : Type 0} → A → Open A
bare x = (x, None)

abbrev pub tree : {A : Type 0} → Open A → A
tree x = x.0

abbrev pub behind : {A : Type 0} → Open A → Option Place
behind x = x.1

pub no_some : {A X : Type 0} {greater : Place} (z w : Open A) → z ≡ w → behind z ≡ Some greater → behind w ≡ None → X
no_some {greater = greater} z w e f g = let h : Some greater ≡ None = sym f ∙ ap behind e ∙ g in absurd cc

pub stops_first : (xs ys : List ℕ) (ts : List Token) → Apart xs ys → starts class_of ys ts ≡ true → Stops class_of xs ts
stops_first xs ys [] off on = refl
stops_first xs ys (t ∷ ts) off on = not_true (has xs (class_of t)) (λ h. off.never_both (class_of t) h on)

-- ---- what ends in no operand

abbrev pub Whole : {A : Type 0} → (A → Type 0) → Open A → Type 0
Whole F (x, None) = F x
Whole F (x, Some greater) = ⊥

module _ {A : Type 0} {q : Reader Token A} {tokens : A → List Token} {F : A → Type 0} {front : Front Token} {first : List ℕ} {next : A → List ℕ} (Q : Laws class_of q tokens F front first next false) (half : A → List ℕ) where
  pub shut_back : (x : Open A) → Whole F x → (a : A) × F a × (with_none a ≡ x)
  shut_back (x, None) fits = (x, fits, refl)
  shut_back (x, Some greater) fits = absurd fits

  abbrev pub shut_laws : OpenLaws (shut q) tokens F front first next half
  shut_laws = record {
    Fits = Whole F;
    none_in = λ x fits. fits;
    none_out = λ x fits. fits;
    some_out = λ x greater fits. absurd fits;
    laws = mapped_laws Q with_none (open_spelling tokens) (after_open next half) (λ a fits. (fits, append-nil (tokens a), within_self (next a))) shut_back;
  }

-- ---- made of a part in front and an open part

module _ {A B C : Type 0} {q : Reader Token B} {spell_q : B → List Token} {F_q : B → Type 0} {front_q : Front Token} {first_q : List ℕ} {next_q : B → List ℕ} (Q : Laws class_of q spell_q F_q front_q first_q next_q false)
    {read : Reader Token (Open A)} {tokens : A → List Token} {F : A → Type 0} {front : Front Token} {first : List ℕ} {next half : A → List ℕ} (P : OpenLaws read tokens F front first next half)
    (apart : (b : B) → F_q b → Apart (next_q b) first) (f : B → A → C) (made_tokens : C → List Token) (made_next made_half : C → List ℕ)
    (said : (b : B) (a : A) → F_q b → F a → made_tokens (f b a) ≡ spell_q b ++ tokens a)
    (on : (b : B) (a : A) → F_q b → F a → Within (next a) (made_next (f b a))) (on_half : (b : B) (a : A) → F_q b → F a → Within (half a) (made_half (f b a))) where
  abbrev make : B × Open A → Open C
  make x = with_half (f x.0) x.1

  abbrev PartsFit : B × Open A → Type 0
  PartsFit = BothFit F_q P.Fits

  parts_said : (x : B × Open A) → PartsFit x → open_spelling made_tokens (make x) ≡ both_spelling spell_q (open_spelling tokens) x
  parts_said (b, (a, None)) fits = ap (λ (m : List Token). m ++ []) (said b a fits.0 (P.none_out a fits.1)) ∙ append_assoc (spell_q b) (tokens a) []
  parts_said (b, (a, Some greater)) fits = ap (λ (m : List Token). m ++ half_tokens greater) (said b a fits.0 (P.some_out a greater fits.1)) ∙ append_assoc (spell_q b) (tokens a) (half_tokens greater)

  parts_on : (x : B × Open A) → PartsFit x → Within (after_open next half x.1) (after_open made_next made_half (make x))
  parts_on (b, (a, None)) fits = on b a fits.0 (P.none_out a fits.1)
  parts_on (b, (a, Some greater)) fits = on_half b a fits.0 (P.some_out a greater fits.1)

  abbrev MadeOf : C → Type 0
  MadeOf = Made (λ (x : B × A). f x.0 x.1) (BothFit F_q F)

  prefix_none_out : (c : C) → Made make PartsFit (c, None) → MadeOf c
  prefix_none_out c ((b, (a, None)), fits, e) = ((b, a), (fits.0, P.none_out a fits.1), ap tree e)
  prefix_none_out c ((b, (a, Some greater)), fits, e) = no_some (f b a, Some greater) (c, None) e refl refl

  prefix_some_out : (c : C) (greater : Place) → Made make PartsFit (c, Some greater) → MadeOf c
  prefix_some_out c greater ((b, (a, None)), fits, e) = no_some (c, Some greater) (f b a, None) (sym e) refl refl
  prefix_some_out c greater ((b, (a, Some other)), fits, e) = ((b, a), (fits.0, P.some_out a other fits.1), ap tree e)

  pub prefix_laws : OpenLaws (mapped (λ (x : B × Open A). with_half (f x.0) x.1) (both q read)) made_tokens MadeOf (Joint spell_q F_q always front_q front) first_q made_next made_half
  prefix_laws = record {
    Fits = Made make PartsFit;
    none_in = λ c fits. ((fits.0.0, (fits.0.1, None)), (fits.1.0, P.none_in fits.0.1 fits.1.1), ap bare fits.2);
    none_out = prefix_none_out;
    some_out = prefix_some_out;
    laws = made_laws (both_laws Q P.laws apart) make (open_spelling made_tokens) (after_open made_next made_half) parts_said parts_on;
  }

  pub prefix_settled : (b : B) (a : A) → F_q b → F a → Settled P a → Settled prefix_laws (f b a)
  unfolding prefix_laws
  prefix_settled b a at fits (inl known) = inl (λ g. ((b, (a, Some g)), (at, known g), refl))
  prefix_settled b a at fits (inr stays) = inr (λ g ts.
      let rest : List Token = sign_at g s.Greater ∷ ts in
      let regrouped : open_spelling made_tokens (f b a, None) ++ rest ≡ spell_q b ++ (open_spelling tokens (a, None) ++ rest) = ap (λ (m : List Token). (m ++ []) ++ rest) (said b a at fits) ∙ ap (λ (m : List Token). m ++ rest) (append_assoc (spell_q b) (tokens a) []) ∙ append_assoc (spell_q b) (tokens a ++ []) rest in
      ap (mapped make (both q read)) regrouped ∙ rw (Q.complete b (open_spelling tokens (a, None) ++ rest) at (stops_first (next_q b) first (open_spelling tokens (a, None) ++ rest) (apart b at) (begins P.laws (a, None) rest (P.none_in a fits))), stays g ts) refl)

-- ---- of one kind or another, by the next token

module _ {A : Type 0} {tokens : A → List Token} {next half : A → List ℕ}
    {r : Reader Token (Open A)} {F : A → Type 0} {front_r : Front Token} {first_r : List ℕ} (P : OpenLaws r tokens F front_r first_r next half)
    {other : Reader Token (Open A)} {G : A → Type 0} {front_s : Front Token} {first_s : List ℕ} (Q : OpenLaws other tokens G front_s first_s next half) where
  both_none_in : (x : A) → EitherFit F G x → EitherFit P.Fits Q.Fits (x, None)
  both_none_in x (inl fits) = inl (P.none_in x fits)
  both_none_in x (inr fits) = inr (Q.none_in x fits)

  both_none_out : (x : A) → EitherFit P.Fits Q.Fits (x, None) → EitherFit F G x
  both_none_out x (inl fits) = inl (P.none_out x fits)
  both_none_out x (inr fits) = inr (Q.none_out x fits)

  both_some_out : (x : A) (greater : Place) → EitherFit P.Fits Q.Fits (x, Some greater) → EitherFit F G x
  both_some_out x greater (inl fits) = inl (P.some_out x greater fits)
  both_some_out x greater (inr fits) = inr (Q.some_out x greater fits)

  pub open_by_first_laws : Apart first_r first_s → OpenLaws (by_first class_of first_r r other) tokens (EitherFit F G) (Either front_r front_s) (first_r ++ first_s) next half
  open_by_first_laws apart = record { Fits = EitherFit P.Fits Q.Fits; none_in = both_none_in; none_out = both_none_out; some_out = both_some_out; laws = by_first_laws P.laws Q.laws apart }

  -- of either kind what is settled stays so
  pub first_settled : (apart : Apart first_r first_s) (x : A) → F x → Settled P x → Settled (open_by_first_laws apart) x
  unfolding open_by_first_laws
  first_settled apart x fits (inl known) = inl (λ g. inl (known g))
  first_settled apart x fits (inr stays) = inr (λ g ts.
      let list : List Token = open_spelling tokens (x, None) ++ sign_at g s.Greater ∷ ts in
      ap (λ (c : Bool). if c then r list else other list) (begins P.laws (x, None) (sign_at g s.Greater ∷ ts) (P.none_in x fits)) ∙ stays g ts)

  pub second_settled : (apart : Apart first_r first_s) (x : A) → G x → Settled Q x → Settled (open_by_first_laws apart) x
  unfolding open_by_first_laws
  second_settled apart x fits (inl known) = inl (λ g. inr (known g))
  second_settled apart x fits (inr stays) = inr (λ g ts.
      let list : List Token = open_spelling tokens (x, None) ++ sign_at g s.Greater ∷ ts in
      ap (λ (c : Bool). if c then r list else other list) (stops_first first_r first_s list apart (begins Q.laws (x, None) (sign_at g s.Greater ∷ ts) (Q.none_in x fits))) ∙ stays g ts)

-- ---- refused where it ends, by the tree or by a half

module _ {A : Type 0} {read : Reader Token (Open A)} {tokens : A → List Token} {F : A → Type 0} {front : Front Token} {first : List ℕ} {next half : A → List ℕ} (P : OpenLaws read tokens F front first next half) where
  pub open_checked_laws : (good : A → Bool) → OpenLaws (checked (λ (x : Open A). good x.0) read) tokens (GoodFit F good) front first next half
  open_checked_laws good = record {
    Fits = GoodFit P.Fits (λ x. good x.0);
    none_in = λ x fits. (P.none_in x fits.0, fits.1);
    none_out = λ x fits. (P.none_out x fits.0, fits.1);
    some_out = λ x greater fits. (P.some_out x greater fits.0, fits.1);
    laws = checked_laws P.laws (λ x. good x.0);
  }

  pub checked_settled : (good : A → Bool) (x : A) → good x ≡ true → Settled P x → Settled (open_checked_laws good) x
  unfolding open_checked_laws
  checked_settled good x on (inl known) = inl (λ g. (known g, on))
  checked_settled good x on (inr stays) = inr (λ g ts. rw (stays g ts, on) refl)

  -- the same trees and fronts in other words
  pub open_restated : {G : A → Type 0} {front' : Front Token} → ((x : A) → F x → G x) → ((x : A) → G x → F x) → ((ts : List Token) → front ts → front' ts) → ((ts : List Token) → front' ts → front ts) → OpenLaws read tokens G front' first next half
  open_restated forth back out into = record {
    Fits = P.Fits;
    none_in = λ x fits. P.none_in x (back x fits);
    none_out = λ x fits. forth x (P.none_out x fits);
    some_out = λ x greater fits. forth x (P.some_out x greater fits);
    laws = refront P.laws out into;
  }

  pub restated_fits : {G : A → Type 0} {front' : Front Token} (forth : (x : A) → F x → G x) (back : (x : A) → G x → F x) (out : (ts : List Token) → front ts → front' ts) (into : (ts : List Token) → front' ts → front ts) (x : Open A) → P.Fits x → (open_restated forth back out into).Fits x
  unfolding open_restated
  restated_fits forth back out into x h = h

  pub restated_settled : {G : A → Type 0} {front' : Front Token} (forth : (x : A) → F x → G x) (back : (x : A) → G x → F x) (out : (ts : List Token) → front ts → front' ts) (into : (ts : List Token) → front' ts → front ts) (x : A) → Settled P x → Settled (open_restated forth back out into) x
  unfolding open_restated
  restated_settled forth back out into x h = h

  -- larger sets of what goes on
  pub open_wider : {next' half' : A → List ℕ} → ((x : A) → F x → Within (next x) (next' x)) → ((x : A) → F x → Within (half x) (half' x)) → OpenLaws read tokens F front first next' half'
  open_wider {next' = next'} {half' = half'} on on_half = record { Fits = P.Fits; none_in = P.none_in; none_out = P.none_out; some_out = P.some_out; laws = wider P.laws (within_self first) both_on } where
    both_on : (x : Open A) → P.Fits x → Within (after_open next half x) (after_open next' half' x)
    both_on (x, None) fits = on x (P.none_out x fits)
    both_on (x, Some greater) fits = on_half x (P.some_out x greater fits)

  pub wider_settled : {next' half' : A → List ℕ} (on : (x : A) → F x → Within (next x) (next' x)) (on_half : (x : A) → F x → Within (half x) (half' x)) (x : A) → Settled P x → Settled (open_wider on on_half) x
  unfolding open_wider
  wider_settled on on_half x h = h

  -- a larger set of what begins it
  pub open_first : {first' : List ℕ} → Within first first' → OpenLaws read tokens F front first' next half
  open_first sub = record { Fits = P.Fits; none_in = P.none_in; none_out = P.none_out; some_out = P.some_out; laws = wider P.laws sub (λ x fits. within_self (after_open next half x)) }

  pub first_kept : {first' : List ℕ} (sub : Within first first') (x : A) → Settled P x → Settled (open_first sub) x
  unfolding open_first
  first_kept sub x h = h

  pub open_strict_laws : Laws class_of (strict read) tokens F front first next false
  open_strict_laws = refit (strict_laws tokens half_tokens P.laws) (λ x fits. P.none_out x fits) (λ x fits. P.none_in x fits)
