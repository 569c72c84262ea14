-- What offers of one name come to is what the name is bound to.
use Rattle.std.proofs.Common.{◌≡◌, ◌∙◌, ℕ, Bool, true, false, not, cond, eqb, ◌&&◌, ◌||◌, List, Option, Some, None, refl, sym, ap, inl, inr}
use Rattle.std.specs.List.{find, list_any, Contains}
use Rattle.std.specs.Option.{option_or}
use Rattle.std.proofs.lemmas.Bool.{true≢false, and_parts, and_from, or_cases, not-true, not-false, eqb-false, cases_eq, ne_eqb, and_cases}
use Rattle.std.proofs.lemmas.Option.{none-some}
use Rattle.std.proofs.lemmas.List.Folds.{Any-from_list_any, list_any_at}
use Rattle.dart_base.specs.declared.name.Name.{Name}
use Rattle.scope_space.specs.declared.library.Library.{Library}
use Rattle.scope_space.specs.declared.offer.Offer.{Offer}
use Rattle.scope_space.specs.declared.bound.Bound.TheVariants.{Given, Ambiguous}
use Rattle.scope_space.specs.Namespace.{is_under, is_dart, Wins, AreRivals, IsBoundAmong}
use Rattle.scope_space.specs.Building.{is_offered, is_of_files, first_offer, is_rival, bound_from, bound_in}
use Rattle.scope_space.proofs.Members.{found_some, found_none}

-- an offer under the prefix by the owner
pub record Shown (prefix : Option Name) (offers : List Offer) (owner : ℕ) : Type 0 where
  pub offer : Offer
  pub among : Contains offers offer
  pub under : is_under prefix offer.prefix ≡ true
  pub owned : offer.owner ≡ owner

-- an offer under the prefix is of an owner that offers, and says whether that one is of `dart:`
pub record IsTold (libraries : List Library) (Offered : ℕ → Type 0) (offer : Offer) : Type 0 where
  pub offered : Offered offer.owner
  pub dart : offer.is_dart ≡ is_dart libraries offer.owner

-- the first offer is of `dart:` only where all are
record Leads (prefix : Option Name) (offers : List Offer) (first : Offer) : Type 0 where
  pub among : Contains offers first
  pub under : is_under prefix first.prefix ≡ true
  pub over : (offer : Offer) → Contains offers offer → is_under prefix offer.prefix ≡ true → first.is_dart ≡ true → offer.is_dart ≡ true

leading : (prefix : Option Name) (offers : List Offer) (r : Option Offer) → find (is_of_files prefix) offers ≡ r → (first : Offer)
    → option_or r (find (is_offered prefix) offers) ≡ Some first → Leads prefix offers first
leading prefix offers None e first h =
    let found = found_some (is_offered prefix) offers first h in
    record {
      among = found.among;
      under = found.passes;
      over = λ offer among under dart. elim (and_cases (not offer.is_dart) (is_under prefix offer.prefix) (found_none (is_of_files prefix) offers e offer among)) [
        | inl is ↦ not-false offer.is_dart is
        | inr other ↦ absurd (true≢false (sym under ∙ other))
      ];
    }
leading prefix offers (Some given) e first h =
    let found = found_some (is_of_files prefix) offers first (e ∙ h) in
    let parts = and_parts (not first.is_dart) (is_under prefix first.prefix) found.passes in
    record {
      among = found.among;
      under = parts.1;
      over = λ offer among under dart. absurd (true≢false (sym dart ∙ not-true first.is_dart parts.0));
    }

none_offered : (r s : Option Offer) → option_or r s ≡ None → s ≡ None
none_offered None s h = h
none_offered (Some given) s h = absurd (none-some given (sym h))

better : (a b : Bool) → (b ≡ true → a ≡ true) → (a || not b) ≡ true
better true b h = refl
better false true h = h refl
better false false h = refl

good_from : (a b : Bool) → (a || not b) ≡ true → b ≡ true → a ≡ true
good_from a b h is = elim (or_cases a (not b) h) [
  | inl holds ↦ holds
  | inr other ↦ absurd (true≢false (sym is ∙ not-true b other))
]

module _ (libraries : List Library) (Offered : ℕ → Type 0) (prefix : Option Name) (offers : List Offer)
    (sound : (offer : Offer) → Contains offers offer → is_under prefix offer.prefix ≡ true → IsTold libraries Offered offer)
    (complete : (owner : ℕ) → Offered owner → Shown prefix offers owner) where
  -- an offer that is as good as the first one wins
  wins : (first offer : Offer) → Leads prefix offers first → Contains offers offer → is_under prefix offer.prefix ≡ true
      → (offer.is_dart ≡ true → first.is_dart ≡ true) → Wins libraries Offered offer.owner
  wins first offer leads among under good =
      let told = sound offer among under in
      record {
        offered = told.offered;
        over = λ other offered dart.
            let shown = complete other offered in
            let told-2 = sound shown.offer shown.among shown.under in
            ap (is_dart libraries) (sym shown.owned) ∙ sym told-2.dart
            ∙ leads.over shown.offer shown.among shown.under (good (told.dart ∙ dart));
      }

  rivals : (first : Offer) → Leads prefix offers first → list_any (is_rival prefix first) offers ≡ true
      → (one : ℕ) × (other : ℕ) × AreRivals libraries Offered one other
  rivals first leads h =
      let found = Any-from_list_any (is_rival prefix first) offers h in
      let rival = found.1 in
      let both = and_parts (is_under prefix rival.prefix && (first.is_dart || not rival.is_dart)) (not (eqb rival.owner first.owner)) found.4 in
      let parts = and_parts (is_under prefix rival.prefix) (first.is_dart || not rival.is_dart) both.0 in (
        rival.owner,
        first.owner,
        record {
          wins = wins first rival leads (found.0, found.2, found.3) parts.0 (good_from first.is_dart rival.is_dart parts.1);
          also = wins first first leads leads.among leads.under (λ is. is);
          apart = eqb-false rival.owner first.owner (not-true (eqb rival.owner first.owner) both.1);
        },
      )

  alone : (first : Offer) → Leads prefix offers first → list_any (is_rival prefix first) offers ≡ false
      → (other : ℕ) → Wins libraries Offered other → other ≡ first.owner
  alone first leads h other winning =
      let shown = complete other winning.offered in
      let offer = shown.offer in
      let told = sound offer shown.among shown.under in
      let lead = sound first leads.among leads.under in
      elim (cases_eq offer.owner first.owner) [
        | inl same ↦ sym shown.owned ∙ same
        | inr apart ↦
            let good : (first.is_dart || not offer.is_dart) ≡ true = better first.is_dart offer.is_dart
            (λ is. lead.dart ∙ winning.over first.owner lead.offered (ap (is_dart libraries) (sym shown.owned) ∙ sym told.dart ∙ is)) in
            let rival : is_rival prefix first offer ≡ true =
            and_from (is_under prefix offer.prefix && (first.is_dart || not offer.is_dart)) (not (eqb offer.owner first.owner))
            (and_from (is_under prefix offer.prefix) (first.is_dart || not offer.is_dart) shown.under good)
            (ap not (ne_eqb offer.owner first.owner apart)) in
            absurd (true≢false (sym (list_any_at (is_rival prefix first) offers shown.among.0 offer shown.among.1 (ap (is_rival prefix first) shown.among.2 ∙ rival)) ∙ h))
      ]

  bound_at : (first : Offer) → Leads prefix offers first → (b : Bool) → list_any (is_rival prefix first) offers ≡ b
      → IsBoundAmong libraries Offered (cond b Ambiguous (Given first.owner))
  bound_at first leads true h = rivals first leads h
  bound_at first leads false h = (wins first first leads leads.among leads.under (λ is. is), alone first leads h)

  bound_of : (r : Option Offer) → first_offer prefix offers ≡ r → IsBoundAmong libraries Offered (bound_from prefix offers r)
  bound_of None h = λ owner offered.
      let shown = complete owner offered in
      let none = none_offered (find (is_of_files prefix) offers) (find (is_offered prefix) offers) h in
      true≢false (sym shown.under ∙ found_none (is_offered prefix) offers none shown.offer shown.among)
  bound_of (Some first) h =
      bound_at first (leading prefix offers (find (is_of_files prefix) offers) refl first h) (list_any (is_rival prefix first) offers) refl

  pub bound_is : IsBoundAmong libraries Offered (bound_in prefix offers)
  bound_is = bound_of (first_offer prefix offers) refl
