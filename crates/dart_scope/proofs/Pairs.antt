-- Pairs of the items that stand at one place of two lists, the second of which is mapped.
use Rattle.std.proofs.Common.{◌≡◌, ◌∙◌, ℕ, ◌+◌, ◌<◌, ◌≤◌, List, [], ◌∷◌, ◌++◌, length, get_or, take, map, flat_map, sym, ap, subst, arith}
use Rattle.std.specs.List.{AllZip, zip}
use Rattle.std.proofs.lemmas.List.{append-nil, get_or-map, get_or_default, length-map, take_all, take_more}
use Rattle.std.proofs.lemmas.List.Concat.{flat_map-append, flat_map-cons}
use Rattle.std.proofs.lemmas.Slice.Zip.{length-zip, get_or-zip, all_zipped_more}

module _ {A B C : Type 0} (f : B → C) (hs : List A) (us : List B) where
  same_pair : (h h2 : A) (c c2 : C) → h2 ≡ h → c2 ≡ c → let p : A × C = (h2, c2) in let q : A × C = (h, c) in p ≡ q
  same_pair h h2 c c2 e g = cc

  pub pairs_more : (i : ℕ) (h : A) (u : B) → i < length hs → i < length us → h ≡ get_or hs i h → u ≡ get_or us i u
      → take (i + 1) (zip hs (map f us)) ≡ take i (zip hs (map f us)) ++ (h, f u) ∷ []
  pairs_more i h u in_hs in_us at_h at_u =
      let pairs : List (A × C) = zip hs (map f us) in
      let mapped : i < length (map f us) = omega (arith, length-map us f) in
      let long : i < length pairs = omega (arith, length-zip hs (map f us)) in
      let here : get_or pairs i (h, f u) ≡ (h, f u) =
      get_or-zip hs (map f us) i (h, f u) in_hs mapped
      ∙ same_pair h (get_or hs i h) (f u) (get_or (map f us) i (f u)) (sym at_h) (get_or-map f us i u (f u) in_us ∙ ap f (sym at_u)) in
      take_more pairs i (h, f u) long ∙ ap (λ (p : A × C). take i pairs ++ p ∷ []) here

  pub pairs_end_left : (i : ℕ) → length hs ≤ i → take i (zip hs (map f us)) ≡ zip hs (map f us)
  pairs_end_left i past = take_all i (zip hs (map f us)) (omega (arith, length-zip hs (map f us)))

  pub pairs_end_right : (i : ℕ) → length us ≤ i → take i (zip hs (map f us)) ≡ zip hs (map f us)
  pairs_end_right i past = take_all i (zip hs (map f us)) (omega (arith, length-zip hs (map f us), length-map us f))

  -- what is made of the pairs, one pair more
  pub made_more : {D : Type 0} (g : A × C → List D) (all all2 more : List D) (i : ℕ) (h : A) (u : B) → i < length hs → i < length us
      → h ≡ get_or hs i h → u ≡ get_or us i u → all ≡ flat_map g (take i (zip hs (map f us))) → more ≡ g (h, f u) → all2 ≡ all ++ more
      → all2 ≡ flat_map g (take (i + 1) (zip hs (map f us)))
  made_more {D} g all all2 more i h u in_hs in_us at_h at_u before is step =
      step ∙ ap (λ (xs : List D). xs ++ more) before
      ∙ ap (λ (xs : List D). flat_map g (take i (zip hs (map f us))) ++ xs) (is ∙ sym (flat_map-cons g (h, f u) [] ∙ append-nil (g (h, f u))))
      ∙ sym (flat_map-append g (take i (zip hs (map f us))) ((h, f u) ∷ [])) ∙ ap (flat_map g) (sym (pairs_more i h u in_hs in_us at_h at_u))

  -- what goes with the pairs, one pair more
  pub zipped_more : {D : Type 0} (R : A × C → D → Type 0) (made : List D) (one : D) (i : ℕ) (h : A) (u : B) → i < length hs → i < length us
      → h ≡ get_or hs i h → u ≡ get_or us i u → AllZip R (take i (zip hs (map f us))) made → R (h, f u) one
      → AllZip R (take (i + 1) (zip hs (map f us))) (made ++ one ∷ [])
  zipped_more {D} R made one i h u in_hs in_us at_h at_u before here =
      let P : List (A × C) → Type 0 = λ pairs. AllZip R pairs (made ++ one ∷ []) in
      subst P (sym (pairs_more i h u in_hs in_us at_h at_u)) (all_zipped_more R (take i (zip hs (map f us))) made (h, f u) one before here)

-- the number at a place, by which default ever
pub here : (xs : List ℕ) (i : ℕ) → i < length xs → get_or xs i 0 ≡ get_or xs i (get_or xs i 0)
here xs i below = get_or_default xs i 0 (get_or xs i 0) below

-- at the end, what goes with the pairs so far goes with all
pub zipped_end : {A C D : Type 0} {pairs all : List (A × C)} (R : A × C → D → Type 0) (made : List D) → pairs ≡ all → AllZip R pairs made → AllZip R all made
zipped_end {A} {C} {D} R made same so_far = let P : List (A × C) → Type 0 = λ xs. AllZip R xs made in subst P same so_far
