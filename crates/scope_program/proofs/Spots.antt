-- What a table of places has with one number more.
use Rattle.std.proofs.Common.{◌≡◌, ◌∙◌, ℕ, Bool, true, false, cond, ◌&&◌, true≢false, Option, Some, None, is_some, refl, sym, ap}
use Rattle.std.specs.Prelude.{◌==◌}
use Rattle.std.specs.Option.{option_or}
use Rattle.std.specs.HashMap.{HashMap}
use Rattle.std.proofs.lemmas.Bool.Decides.{Decides-eqb}
use Rattle.dart_base.specs.declared.place.Place.{Place}
use Rattle.scope_program.specs.Classes.{same_place}
use Rattle.scope_program.specs.Places.{at_spot, is_spot, spot_of}
use Rattle.scope_program.specs.declared.place.Spot.{Spot}

first-true : (a b : Bool) → (a && b) ≡ true → a ≡ true
first-true true b e = refl
first-true false b e = e

second-true : (a b : Bool) → (a && b) ≡ true → b ≡ true
second-true true b e = e
second-true false b e = absurd (true≢false (sym e))

spot-equal : (x y : Spot) → is_spot x y ≡ true → x ≡ y
spot-equal x y e =
    let rest : (x.line == y.line && x.column == y.column) ≡ true = second-true (x.unit == y.unit) _ e in
    let unit : x.unit ≡ y.unit = (Decides-eqb _ _).0 (first-true (x.unit == y.unit) _ e) in
    let line : x.line ≡ y.line = (Decides-eqb _ _).0 (first-true (x.line == y.line) _ rest) in
    let column : x.column ≡ y.column = (Decides-eqb _ _).0 (second-true (x.line == y.line) _ rest) in
    λ i. record { unit = unit i; line = line i; column = column i }

grouped : (a b c : Bool) → ((a && b) && c) ≡ (a && (b && c))
grouped true b c = refl
grouped false b c = refl

same-spot : (x y : Place) → same_place x y ≡ is_spot (spot_of x) (spot_of y)
same-spot x y = grouped (x.unit == y.unit) (x.line == y.line) (x.column == y.column)

left-as : (had : Option ℕ) (number : ℕ) → had ≡ option_or had (cond false (Some number) None)
left-as (Some x) number = refl
left-as None number = refl

some-as : (had more : Option ℕ) → is_some had ≡ true → had ≡ option_or had more
some-as (Some x) more e = refl
some-as None more e = absurd (true≢false (sym e))

none-from : (had : Option ℕ) → is_some had ≡ false → had ≡ None
none-from (Some x) e = absurd (true≢false e)
none-from None e = refl

module _ {S : Type 0} (place : Place) (number : ℕ) (old : HashMap Spot ℕ S) where
  abbrev after : Place → Option ℕ
  after other = option_or (at_spot old (spot_of other)) (cond (same_place place other) (Some number) None)

  -- where the place has a number, it stays
  pub place-kept : (spot : Spot) → spot ≡ spot_of place → is_some (at_spot old spot) ≡ true → (other : Place) → at_spot old (spot_of other) ≡ after other
  place-kept spot is had other = by (same_place place other) refl
    where
      by : (b : Bool) → same_place place other ≡ b → at_spot old (spot_of other) ≡ after other
      by true e =
          let same : spot_of place ≡ spot_of other = spot-equal (spot_of place) (spot_of other) (sym (same-spot place other) ∙ e) in
          some-as (at_spot old (spot_of other)) (cond (same_place place other) (Some number) None) (ap (λ (s : Spot). is_some (at_spot old s)) (sym (is ∙ same)) ∙ had)
      by false e = left-as (at_spot old (spot_of other)) number ∙ ap (λ b. option_or (at_spot old (spot_of other)) (cond b (Some number) None)) (sym e)

  -- where it has none, it gets the number
  pub place-put : (spot : Spot) → spot ≡ spot_of place → is_some (at_spot old spot) ≡ false → (new : HashMap Spot ℕ S)
      → ((q : Spot) → at_spot new q ≡ cond (is_spot spot q) (Some number) (at_spot old q)) → (other : Place) → at_spot new (spot_of other) ≡ after other
  place-put spot is none new updates other = updates (spot_of other) ∙ ap (λ (s : Spot). cond (is_spot s (spot_of other)) (Some number) had) is
      ∙ ap (λ b. cond b (Some number) had) (sym (same-spot place other)) ∙ by (same_place place other) refl
    where
      had : Option ℕ
      had = at_spot old (spot_of other)

      by : (b : Bool) → same_place place other ≡ b → cond (same_place place other) (Some number) had ≡ after other
      by true e =
          let same : spot_of place ≡ spot_of other = spot-equal (spot_of place) (spot_of other) (sym (same-spot place other) ∙ e) in
          let nothing : had ≡ None = ap (at_spot old) (sym (is ∙ same)) ∙ none-from (at_spot old spot) none in
          ap (λ b. cond b (Some number) had) e ∙ sym (ap (λ o. option_or o (cond (same_place place other) (Some number) None)) nothing ∙ ap (λ b. cond b (Some number) None) e)
      by false e = ap (λ b. cond b (Some number) had) e ∙ left-as had number ∙ ap (λ b. option_or had (cond b (Some number) None)) (sym e)
