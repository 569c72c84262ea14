-- A search for what a name means, from the inside to the outside.
use Rattle.std.proofs.Common.{◌≡◌, ◌∙◌, ℕ, ◌+◌, ◌<◌, ◌≤◌, ◌⊎◌, inl, inr, ◌==◌, ◌&&◌, ◌||◌, Bool, true, false, not, List, [], ◌∷◌, ◌++◌, length, length-append, get_or, Contains, All, refl, sym, ap, subst, arith}
use Rattle.std.specs.Prelude.{nat_lt}
use Rattle.std.specs.List.{AllWithin}
use Rattle.std.specs.List.Sorted.{IsPartitionedBy, IsPartitionPoint}
use Rattle.std.proofs.Math.Seq.{get_or-append_seam}
use Rattle.std.proofs.lemmas.Bool.{and_parts, and_from, and_left, and_right, or_cases, ltb-true, eqb-true, eq-eqb, ne_eqb, both_ways, cases_lt, cases_eq, not_from_true, not_from_false, true_from_ne_false}
use Rattle.std.proofs.lemmas.List.{get_or_append_left}
use Rattle.std.proofs.lemmas.List.Elements.{All-from_get_or, at_read}
use Rattle.dart_base.specs.declared.name.Name.{Name}
use Rattle.dart_base.specs.declared.place.Place.{Place}
use Rattle.scope_declared.specs.declared.declaration.Declared.{Declared}
use Rattle.scope_declared.specs.declared.declaration.DeclaredKind.TheVariants.{LocalVariable}
use Rattle.scope_table.specs.Order.{before_or, place_before, is_outside, is_sooner, IsInOrder, EnclosesAt, Encloses}
use Rattle.scope_table.specs.Lookup.{counts_at, means, begins_before, IsInnermost}
use Rattle.scope_table.proofs.Ordered.{before_or-false, ended_too, no_longer, outside-self, outside-from_order, names-from_order, begins-low}

before_or-true : (a b : ℕ) (r : Bool) → before_or a b r ≡ true → a ≤ b
before_or-true a b r h = by (or_cases (nat_lt a b) (a == b && r) h)
  where
    by : (nat_lt a b ≡ true) ⊎ ((a == b && r) ≡ true) → a ≤ b
    by (inl less) = let e = ltb-true a b less in omega (arith, e)
    by (inr same) = let e = eqb-true a b (and_parts (a == b) r same).0 in omega (arith, e)

before_or-rest : (a b : ℕ) (r : Bool) → a ≡ b → before_or a b r ≡ true → r ≡ true
before_or-rest a b r same h = by (or_cases (nat_lt a b) (a == b && r) h)
  where
    by : (nat_lt a b ≡ true) ⊎ ((a == b && r) ≡ true) → r ≡ true
    by (inl less) = absurd (let e = ltb-true a b less in omega (arith, e, same))
    by (inr also) = (and_parts (a == b) r also).1

module _ (at : Place) (name : Name) where
  -- the name doesn't mean this there
  abbrev pub Silent : Declared → Type 0
  Silent e = means at name e ≡ false

  abbrev pub Begun : Declared → Type 0
  Begun e = begins_before at name e ≡ true

  pub silent-from_late : (e : Declared) → begins_before at name e ≡ false → Silent e
  silent-from_late e late = by (cases_eq e.name.0 name.0)
    where
      by : (e.name.0 ≡ name.0) ⊎ (e.name.0 ≡ name.0 → ⊥) → Silent e
      by (inl same) = and_right (e.name.0 == name.0) (counts_at at e) (and_left (place_before e.extent.after at) (not (place_before e.extent.last at)) ((before_or-false e.name.0 name.0 (place_before e.extent.after at) late).1 same))
      by (inr apart) = and_left (e.name.0 == name.0) (counts_at at e) (ne_eqb e.name.0 name.0 apart)

  silent-from_ended : (e : Declared) → place_before e.extent.last at ≡ true → Silent e
  silent-from_ended e ended = and_right (e.name.0 == name.0) (counts_at at e) (and_right (place_before e.extent.after at) (not (place_before e.extent.last at)) (not_from_true (place_before e.extent.last at) ended))

  silent-from_lesser : (e : Declared) → e.name.0 < name.0 → Silent e
  silent-from_lesser e less = and_left (e.name.0 == name.0) (counts_at at e) (ne_eqb e.name.0 name.0 (λ same. absurd (omega (arith, less, same))))

  module _ (entries : List Declared) (i end : ℕ) (x : Declared) (next : i + 1 ≡ end) (within : i < length entries) (is : x ≡ get_or entries i x) where
    before-or-at : (k : ℕ) → (k < end) → (k < i) ⊎ (k ≡ i)
    before-or-at k less = by (cases_lt k i)
      where
        by : (k < i) ⊎ (i ≤ k) → (k < i) ⊎ (k ≡ i)
        by (inl sooner) = inl sooner
        by (inr later) = inr (omega (arith, later, less, next))

    module _ (order : IsInOrder entries) (silent : AllWithin Silent entries end (length entries)) where
      -- an entry of another name: no sooner one has the name
      pub finds-none : Begun x → (x.name.0 ≡ name.0 → ⊥) → All Silent entries
      finds-none begun apart = All-from_get_or Silent entries x (λ k inside. by k inside (cases_lt k end))
        where
          less : x.name.0 < name.0
          less = let low = before_or-true x.name.0 name.0 (place_before x.extent.after at) begun in omega (arith, low, apart)

          sooner : (k : ℕ) → k < i → (get_or entries k x).name.0 ≤ x.name.0
          sooner k before = names-from_order x (get_or entries k x) (subst (λ (e : Declared). is_sooner e (get_or entries k x) ≡ false) (sym is) (order k i x before within))

          here : (k : ℕ) → (k < i) ⊎ (k ≡ i) → Silent (get_or entries k x)
          here k (inl before) = silent-from_lesser (get_or entries k x) (let low = sooner k before in omega (arith, low, less))
          here k (inr same) = subst Silent (is ∙ ap (λ (n : ℕ). get_or entries n x) (sym same)) (silent-from_lesser x less)

          by : (k : ℕ) → k < length entries → (k < end) ⊎ (end ≤ k) → Silent (get_or entries k x)
          by k inside (inl before) = here k (before-or-at k before)
          by k inside (inr after) = silent k x after inside

      -- an entry of the name that hasn't ended
      pub finds-some : Begun x → x.name.0 ≡ name.0 → place_before x.extent.last at ≡ false → IsInnermost at name entries x
      finds-some begun same open_still = record {
        there = (i, within, sym is);
        meant = and_from (x.name.0 == name.0) (counts_at at x) (eq-eqb x.name.0 name.0 same) (and_from (place_before x.extent.after at) (not (place_before x.extent.last at)) (before_or-rest x.name.0 name.0 (place_before x.extent.after at) same begun) (not_from_false (place_before x.extent.last at) open_still));
        innermost = All-from_get_or (λ (e : Declared). means at name e ≡ true → is_outside x e ≡ false) entries x (λ k inside. by k inside (cases_lt k end));
      }
        where
          here : (k : ℕ) → (k < i) ⊎ (k ≡ i) → means at name (get_or entries k x) ≡ true → is_outside x (get_or entries k x) ≡ false
          here k (inl before) meant =
              outside-from_order x (get_or entries k x) (subst (λ (e : Declared). is_sooner e (get_or entries k x) ≡ false) (sym is) (order k i x before within))
              (same ∙ sym (eqb-true (get_or entries k x).name.0 name.0 (and_parts ((get_or entries k x).name.0 == name.0) (counts_at at (get_or entries k x)) meant).0))
          here k (inr alike) meant = subst (λ (e : Declared). is_outside x e ≡ false) (is ∙ ap (λ (n : ℕ). get_or entries n x) (sym alike)) (outside-self x)

          by : (k : ℕ) → k < length entries → (k < end) ⊎ (end ≤ k) → means at name (get_or entries k x) ≡ true → is_outside x (get_or entries k x) ≡ false
          by k inside (inl before) meant = here k (before-or-at k before) meant
          by k inside (inr after) meant = absurd (both_ways (means at name (get_or entries k x)) (silent k x after inside) meant)

    -- an entry that has ended, with those that it outlasts
    pub goes-on : (first : ℕ) → ((j : ℕ) (d : Declared) → first ≤ j → j < i → place_before (get_or entries i d).extent.last (get_or entries j d).extent.last ≡ false) → place_before x.extent.last at ≡ true → AllWithin Silent entries end (length entries) → AllWithin Silent entries first (length entries)
    goes-on first shorter ended silent k d from inside = by (cases_lt k end)
      where
        last_of_i : place_before (get_or entries i d).extent.last at ≡ true
        last_of_i = at_read entries (λ (e : Declared). place_before e.extent.last at ≡ true) i x within is ended d

        here : (k < i) ⊎ (k ≡ i) → Silent (get_or entries k d)
        here (inl before) = silent-from_ended (get_or entries k d) (ended_too at (get_or entries i d).extent.last (get_or entries k d).extent.last last_of_i (shorter k d from before))
        here (inr same) = subst (λ (n : ℕ). Silent (get_or entries n d)) (sym same) (silent-from_ended (get_or entries i d) last_of_i)

        by : (k < end) ⊎ (end ≤ k) → Silent (get_or entries k d)
        by (inl before) = here (before-or-at k before)
        by (inr after) = silent k d after inside

-- from an index up to an entry there is none that counts longer than it
abbrev pub OutlastsFrom : List Declared → ℕ → ℕ → Type 0
OutlastsFrom entries at value =
    (value ≤ at) × ((j : ℕ) (d : Declared) → value ≤ j → j < at → place_before (get_or entries at d).extent.last (get_or entries j d).extent.last ≡ false)

-- one entry more
pub Encloses-push : (entries : List Declared) (outer : List ℕ) (first : ℕ) → Encloses entries outer → first ≤ length outer → ((j : ℕ) (d : Declared) → first ≤ j → j < length outer → place_before (get_or entries (length outer) d).extent.last (get_or entries j d).extent.last ≡ false) → Encloses entries (outer ++ first ∷ [])
Encloses-push entries outer first earlier low shorter i within = by (cases_lt i (length outer))
  where
    by : (i < length outer) ⊎ (length outer ≤ i) → EnclosesAt entries (outer ++ first ∷ []) i
    by (inl before) = subst (OutlastsFrom entries i) (sym (get_or_append_left outer (first ∷ []) 0 i before)) (earlier i before)
    by (inr after) =
        let same : length outer ≡ i = omega (arith, after, within, length-append outer (first ∷ [])) in
        subst (λ (n : ℕ). OutlastsFrom entries n (get_or (outer ++ first ∷ []) n 0)) same (subst (OutlastsFrom entries (length outer)) (sym (get_or-append_seam outer first [] 0)) (low, shorter))

-- the entries from the next one down that count no longer
pub reaches-further : (entries : List Declared) (last : Place) (i first : ℕ) (x : Declared) → i < length entries → x ≡ get_or entries i x → place_before last x.extent.last ≡ false → ((j : ℕ) (d : Declared) → first ≤ j → j < i → place_before (get_or entries i d).extent.last (get_or entries j d).extent.last ≡ false) → (index : ℕ) → ((j : ℕ) (d : Declared) → i + 1 ≤ j → j < index → place_before last (get_or entries j d).extent.last ≡ false) → (j : ℕ) (d : Declared) → first ≤ j → j < index → place_before last (get_or entries j d).extent.last ≡ false
reaches-further entries last i first x within is longer shorter index later j d from to = by (cases_lt j (i + 1))
  where
    at_i : place_before last (get_or entries i d).extent.last ≡ false
    at_i = at_read entries (λ (e : Declared). place_before last e.extent.last ≡ false) i x within is longer d

    here : (j < i) ⊎ (i ≤ j) → j < i + 1 → place_before last (get_or entries j d).extent.last ≡ false
    here (inl before) _ = no_longer last (get_or entries i d).extent.last (get_or entries j d).extent.last at_i (shorter j d from before)
    here (inr not_before) at_most = subst (λ (n : ℕ). place_before last (get_or entries n d).extent.last ≡ false) (let e : i ≡ j = omega (arith, not_before, at_most) in e) at_i

    by : (j < i + 1) ⊎ (i + 1 ≤ j) → place_before last (get_or entries j d).extent.last ≡ false
    by (inl before) = here (cases_lt j i) before
    by (inr after) = later j d after to

-- those that have begun stand before those that haven't
pub partitioned : (at : Place) (name : Name) (entries : List Declared) → IsInOrder entries → IsPartitionedBy (begins_before at name) entries
partitioned at name entries order i j d low within begun = by (cases_lt i j)
  where
    by : (i < j) ⊎ (j ≤ i) → begins_before at name (get_or entries i d) ≡ true
    by (inl less) = true_from_ne_false (begins_before at name (get_or entries i d)) (λ late. both_ways (begins_before at name (get_or entries j d)) (begins-low (get_or entries i d) (get_or entries j d) name.0 at late (order i j d less within)) begun)
    by (inr same) = subst (λ (n : ℕ). begins_before at name (get_or entries n d) ≡ true) (let e : j ≡ i = omega (arith, low, same) in e) begun

-- where the search begins: what comes later hasn't begun, and what comes sooner has
pub begins_split : (at : Place) (name : Name) (xs entries : List Declared) (end : ℕ) → xs ≡ entries → IsPartitionPoint (λ e. begins_before at name e ≡ true) (λ e. begins_before at name e ≡ false) xs end → AllWithin (Silent at name) entries end (length entries) × AllWithin (Begun at name) entries 0 end
begins_split at name xs entries end same point =
    subst (λ (l : List Declared). AllWithin (Silent at name) l end (length l) × AllWithin (Begun at name) l 0 end) same
    ((λ k d from below. silent-from_late at name (get_or xs k d) (point.1 k d from below)), point.0)

-- what an index past the end would give
abbrev pub nothing : Declared
nothing =
    let start : Place = record { unit = 0; line = 0; column = 0 } in
    record { name = record { 0 = 0 }; place = start; kind = LocalVariable; extent = record { scope = start; after = start; last = start } }
