-- The order of places and of declarations.
use Rattle.std.proofs.Common.{◌≡◌, ◌∙◌, ℕ, zero, suc, ◌-◌, ◌+◌, ◌<◌, ◌≤◌, ◌⊎◌, inl, inr, ◌==◌, ◌&&◌, ◌||◌, Bool, true, false, cond, List, length, get_or, refl, sym, ap, arith}
use Rattle.std.specs.Prelude.{nat_lt}
use Rattle.std.specs.Ordering.{is_lt, nat_cmp, ordering_then}
use Rattle.std.specs.declared.cmp.Ordering.{Ordering}
use Rattle.std.specs.declared.cmp.Ordering.TheVariants.{Less, Equal, Greater}
use Rattle.std.specs.List.Sorted.{IsSortedByKey}
use Rattle.std.proofs.lemmas.Bool.{and_cases, and_left, and_right, or_parts, or_from, ltb-false, le-ltb, lt-ltb, eq-eqb, eqb-true, ne_eqb, cases_eq, cases_order, both_ways, true_from_ne_false}
use Rattle.dart_base.specs.declared.place.Place.{Place}
use Rattle.scope_declared.specs.declared.declaration.Declared.{Declared}
use Rattle.scope_table.specs.Order.{before_or, place_before_or, place_before, depth, is_outside, is_sooner, IsInOrder}

-- where the first numbers don't decide for the first, they are no less, and where they are equal the rest fails
pub before_or-false : (a b : ℕ) (r : Bool) → before_or a b r ≡ false → (b ≤ a) × (a ≡ b → r ≡ false)
before_or-false a b r h = (ltb-false a b (or_parts (nat_lt a b) (a == b && r) h).0, λ same. by same (and_cases (a == b) r (or_parts (nat_lt a b) (a == b && r) h).1))
  where
    by : a ≡ b → ((a == b) ≡ false) ⊎ (r ≡ false) → r ≡ false
    by same (inl apart) = absurd (both_ways (a == b) apart (eq-eqb a b same))
    by same (inr fails) = fails

-- what isn't before b, which isn't before a, isn't before a
before_or-low : (a b c : ℕ) (r s t : Bool) → (r ≡ false → s ≡ false → t ≡ false) → before_or b a r ≡ false → before_or c b s ≡ false → before_or c a t ≡ false
before_or-low a b c r s t rest p q = or_from (nat_lt c a) (c == a && t) (le-ltb c a (omega (arith, x.0, y.0))) (by (cases_eq c a))
  where
    x : (a ≤ b) × (b ≡ a → r ≡ false)
    x = before_or-false b a r p

    y : (b ≤ c) × (c ≡ b → s ≡ false)
    y = before_or-false c b s q

    by : (c ≡ a) ⊎ (c ≡ a → ⊥) → (c == a && t) ≡ false
    by (inl same) = and_right (c == a) t (rest (x.1 (omega (arith, same, x.0, y.0))) (y.1 (omega (arith, same, x.0, y.0))))
    by (inr apart) = and_left (c == a) t (ne_eqb c a apart)

pub place-low : (a b c : Place) (r s t : Bool) → (r ≡ false → s ≡ false → t ≡ false) → place_before_or b a r ≡ false → place_before_or c b s ≡ false → place_before_or c a t ≡ false
place-low a b c r s t rest =
    before_or-low a.unit b.unit c.unit (before_or b.line a.line (before_or b.column a.column r)) (before_or c.line b.line (before_or c.column b.column s)) (before_or c.line a.line (before_or c.column a.column t))
    (before_or-low a.line b.line c.line (before_or b.column a.column r) (before_or c.column b.column s) (before_or c.column a.column t)
    (before_or-low a.column b.column c.column r s t rest))

-- what ends no later than what ended before a place ended before it
pub ended_too : (at last sooner : Place) → place_before last at ≡ true → place_before last sooner ≡ false → place_before sooner at ≡ true
ended_too at last sooner ended later = true_from_ne_false (place_before sooner at) (λ h. both_ways (place_before last at) (place-low at sooner last false false false (λ _ _. refl) h later) ended)

-- what counts no longer than what counts no longer
pub no_longer : (a b c : Place) → place_before a b ≡ false → place_before b c ≡ false → place_before a c ≡ false
no_longer a b c p q = place-low c b a false false false (λ _ _. refl) q p

sooner-low : (a b c : Declared) → is_sooner b a ≡ false → is_sooner c b ≡ false → is_sooner c a ≡ false
sooner-low a b c =
    before_or-low a.name.0 b.name.0 c.name.0 (is_outside b a) (is_outside c b) (is_outside c a)
    (place-low a.extent.after b.extent.after c.extent.after (nat_lt (depth b.kind) (depth a.kind)) (nat_lt (depth c.kind) (depth b.kind)) (nat_lt (depth c.kind) (depth a.kind))
    (λ p q. le-ltb (depth c.kind) (depth a.kind) (let x = ltb-false (depth b.kind) (depth a.kind) p in let y = ltb-false (depth c.kind) (depth b.kind) q in omega (arith, x, y))))

before_or-same : (a : ℕ) (r : Bool) → before_or a a r ≡ r
before_or-same a r = ap (λ b. b || (a == a && r)) (le-ltb a a (omega arith)) ∙ ap (λ b. b && r) (eq-eqb a a refl)

pub outside-self : (d : Declared) → is_outside d d ≡ false
outside-self d =
    let p = d.extent.after in
    let r = nat_lt (depth d.kind) (depth d.kind) in
    before_or-same p.unit (before_or p.line p.line (before_or p.column p.column r)) ∙ before_or-same p.line (before_or p.column p.column r) ∙ before_or-same p.column r ∙ le-ltb (depth d.kind) (depth d.kind) (omega arith)

-- of two of one name the later one isn't outside of the sooner one
pub outside-from_order : (a b : Declared) → is_sooner a b ≡ false → a.name.0 ≡ b.name.0 → is_outside a b ≡ false
outside-from_order a b h same = (before_or-false a.name.0 b.name.0 (is_outside a b) h).1 same

-- the later one has no lesser name
pub names-from_order : (a b : Declared) → is_sooner a b ≡ false → b.name.0 ≤ a.name.0
names-from_order a b h = (before_or-false a.name.0 b.name.0 (is_outside a b) h).0

-- what begins no sooner than something that doesn't begin before a place doesn't either
pub begins-low : (x y : Declared) (name : ℕ) (at : Place) → before_or x.name.0 name (place_before x.extent.after at) ≡ false → is_sooner y x ≡ false → before_or y.name.0 name (place_before y.extent.after at) ≡ false
begins-low x y name at =
    before_or-low name x.name.0 y.name.0 (place_before x.extent.after at) (is_outside y x) (place_before y.extent.after at)
    (place-low at x.extent.after y.extent.after false (nat_lt (depth y.kind) (depth x.kind)) false (λ _ _. refl))

-- the order of the keys

then_lt : (a b : ℕ) (o : Ordering) → is_lt (ordering_then (nat_cmp a b) o) ≡ before_or a b (is_lt o)
then_lt a b o = by (nat_lt a b) (a == b)
  where
    by : (x y : Bool) → is_lt (ordering_then (cond x Less (cond y Equal Greater)) o) ≡ (x || (y && is_lt o))
    by true y = refl
    by false true = refl
    by false false = refl

last_lt : (a b : ℕ) → is_lt (nat_cmp a b) ≡ nat_lt a b
last_lt a b = by (nat_lt a b) (a == b)
  where
    by : (x y : Bool) → is_lt (cond x Less (cond y Equal Greater)) ≡ x
    by true y = refl
    by false true = refl
    by false false = refl

abbrev pub Key : Type 0
Key = ℕ × (ℕ × (ℕ × (ℕ × ℕ)))

abbrev pub key : Declared → Key
key d = (d.name.0, (d.extent.after.unit, (d.extent.after.line, (d.extent.after.column, depth d.kind))))

abbrev pub key_cmp : Key → Key → Ordering
key_cmp x y = ordering_then (nat_cmp x.0 y.0) (ordering_then (nat_cmp x.1.0 y.1.0) (ordering_then (nat_cmp x.1.1.0 y.1.1.0) (ordering_then (nat_cmp x.1.1.1.0 y.1.1.1.0) (nat_cmp x.1.1.1.1 y.1.1.1.1))))

key-sooner : (a b : Declared) → is_lt (key_cmp (key a) (key b)) ≡ is_sooner a b
key-sooner a b =
    let p = a.extent.after in
    let q = b.extent.after in
    let o4 = nat_cmp (depth a.kind) (depth b.kind) in
    let o3 = ordering_then (nat_cmp p.column q.column) o4 in
    let o2 = ordering_then (nat_cmp p.line q.line) o3 in
    let o1 = ordering_then (nat_cmp p.unit q.unit) o2 in
    then_lt a.name.0 b.name.0 o1
    ∙ ap (before_or a.name.0 b.name.0) (then_lt p.unit q.unit o2
    ∙ ap (before_or p.unit q.unit) (then_lt p.line q.line o3
    ∙ ap (before_or p.line q.line) (then_lt p.column q.column o4
    ∙ ap (before_or p.column q.column) (last_lt (depth a.kind) (depth b.kind)))))

next-sooner : (xs : List Declared) → IsSortedByKey key key_cmp xs → (k : ℕ) (d : Declared) → k + 1 < length xs → is_sooner (get_or xs (k + 1) d) (get_or xs k d) ≡ false
next-sooner xs up k d within = sym (key-sooner (get_or xs (k + 1) d) (get_or xs k d)) ∙ up k d (omega arith) within

-- what is sorted by the keys is in order
far : (xs : List Declared) → IsSortedByKey key key_cmp xs → (i n j : ℕ) (d : Declared) → i + 1 + n ≡ j → j < length xs → is_sooner (get_or xs j d) (get_or xs i d) ≡ false
far xs up i zero j d sum within = rw (sym (let e : i + 1 ≡ j = omega (arith, sum) in e)) (next-sooner xs up i d (omega (arith, sum, within)))
far xs up i (suc n) j d sum within = by (far xs up i n (i + 1 + n) d refl (omega (arith, sum, within)))
  where
    by : is_sooner (get_or xs (i + 1 + n) d) (get_or xs i d) ≡ false → is_sooner (get_or xs j d) (get_or xs i d) ≡ false
    by earlier = sooner-low (get_or xs i d) (get_or xs (i + 1 + n) d) (get_or xs j d) earlier (rw (sym (let e : i + 1 + n + 1 ≡ j = omega (arith, sum) in e)) (next-sooner xs up (i + 1 + n) d (omega (arith, sum, within))))

pub order-from_sorted : (xs : List Declared) → IsSortedByKey key key_cmp xs → IsInOrder xs
order-from_sorted xs up i j d less within = far xs up i (j - (i + 1)) j d (omega (arith, less)) within
