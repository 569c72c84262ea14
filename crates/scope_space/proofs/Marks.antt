-- Marks on libraries, and what they say of the derivations of `Hands`.
use Rattle.std.proofs.Common.{◌≡◌, ℕ, zero, suc, ◌+◌, ◌<◌, Bool, true, false, not, cond, ◌&&◌, true≢false, List, [], ◌∷◌, length, get_or, set, replicate, slice_get, slice_index_or, count_by, Contains, Some, is_some, refl, sym, ap, subst, ◌∙◌, ◌⊎◌, inl, inr, arith}
use Rattle.std.specs.List.{list_any}
use Rattle.std.proofs.lemmas.Bool.{cases_lt, and_parts, not-true}
use Rattle.std.proofs.lemmas.Option.{same_Some, slice_get-get_or, get_or_from_slice_get}
use Rattle.std.proofs.lemmas.List.Sums.{sum_by-set}
use Rattle.std.proofs.lemmas.List.Folds.{Any-from_list_any, list_any_at}
use Rattle.scope_space.specs.declared.library.Library.{Library}
use Rattle.scope_space.specs.declared.library.Export.{Export}
use Rattle.scope_space.specs.Library.{declares, shares, passes}
use Rattle.scope_space.specs.Hands.{Hands, Hands.own, Hands.again}
use Rattle.scope_space.specs.Building.{takes_over}

pub below : (P : ℕ → Type 0) (i : ℕ) → ((k : ℕ) → k < i → P k) → P i → (k : ℕ) → k < i + 1 → P k
below P i h x k l = elim (cases_lt k i) [
  | inl a ↦ h k a
  | inr b ↦ subst P (omega arith) x
]

pub mark_at : (marks : List Bool) (i : ℕ) (b : Bool) → i < length marks → get_or marks i false ≡ b → slice_get marks i ≡ Some b
mark_at marks i b l e = slice_get-get_or marks i false l ∙ ap Some e

-- a mark that is read is there
pub marked : (marks : List Bool) (i : ℕ) → get_or marks i false ≡ true → slice_get marks i ≡ Some true
marked [] i h = absurd (true≢false (sym h))
marked (m ∷ ms) zero h = ap Some h
marked (m ∷ ms) (suc i) h = marked ms i h

pub read_mark : (marks : List Bool) (i : ℕ) → slice_get marks i ≡ Some true → get_or marks i false ≡ true
read_mark [] i h = absurd (true≢false (sym (ap is_some h)))
read_mark (m ∷ ms) zero h = same_Some m true h
read_mark (m ∷ ms) (suc i) h = read_mark ms i h

-- a mark after one was set is that one or an old one
pub mark_after : (marks : List Bool) (at i : ℕ) → slice_get (set marks at true) i ≡ Some true → (i ≡ at) ⊎ (slice_get marks i ≡ Some true)
mark_after [] at i h = inr h
mark_after (m ∷ ms) zero zero h = inl refl
mark_after (m ∷ ms) zero (suc i) h = inr h
mark_after (m ∷ ms) (suc at) zero h = inr h
mark_after (m ∷ ms) (suc at) (suc i) h = elim (mark_after ms at i h) [
  | inl e ↦ inl (ap suc e)
  | inr g ↦ inr g
]

pub mark_kept : (marks : List Bool) (at i : ℕ) → slice_get marks i ≡ Some true → slice_get (set marks at true) i ≡ Some true
mark_kept [] at i h = h
mark_kept (m ∷ ms) zero zero h = refl
mark_kept (m ∷ ms) zero (suc i) h = h
mark_kept (m ∷ ms) (suc at) zero h = h
mark_kept (m ∷ ms) (suc at) (suc i) h = mark_kept ms at i h

pub mark_set : (marks : List Bool) (at : ℕ) (b : Bool) → at < length marks → slice_get (set marks at b) at ≡ Some b
mark_set [] at b l = absurd (omega arith)
mark_set (m ∷ ms) zero b l = refl
mark_set (m ∷ ms) (suc at) b l = mark_set ms at b (omega arith)

pub within : (marks : List Bool) (at : ℕ) (b : Bool) → slice_get marks at ≡ Some b → at < length marks
within [] at b h = absurd (true≢false (sym (ap is_some h)))
within (m ∷ ms) zero b h = omega arith
within (m ∷ ms) (suc at) b h = let r = within ms at b h in omega arith

less : (a b c : ℕ) → a + c ≡ b + 0 → c ≡ 1 → a < b
less a b c e f = omega arith

pub fewer : (marks : List Bool) (at : ℕ) → slice_get marks at ≡ Some false → count_by not (set marks at true) < count_by not marks
fewer marks at h =
    less _ _ _ (sum_by-set (λ b. cond (not b) 1 0) marks at true false (within marks at false h))
    (ap (λ b. cond (not b) 1 0) (get_or_from_slice_get marks at false false h))

pub unmarked : (n i : ℕ) → slice_get (replicate n false) i ≡ Some true → ⊥
unmarked zero i h = true≢false (sym (ap is_some h))
unmarked (suc n) zero h = true≢false (sym (same_Some false true h))
unmarked (suc n) (suc i) h = unmarked n i h

-- a mark that is set among none
pub first_mark : (n owner : ℕ) (b : Bool) (at : ℕ) → slice_get (set (replicate n false) owner b) at ≡ Some true → (at ≡ owner) × (b ≡ true)
first_mark zero owner b at h = absurd (true≢false (sym (ap is_some h)))
first_mark (suc n) zero b zero h = (refl, same_Some b true h)
first_mark (suc n) zero b (suc at) h = absurd (unmarked n at h)
first_mark (suc n) (suc owner) b zero h = absurd (true≢false (sym (same_Some false true h)))
first_mark (suc n) (suc owner) b (suc at) h = let r = first_mark n owner b at h in (ap suc r.0, r.1)

module _ (libraries : List Library) (name owner : ℕ) (marks : List Bool) where
  -- what a marked library hands over is handed out
  pub justified : ((at : ℕ) → slice_get marks at ≡ Some true → Hands libraries name owner at) → (at : ℕ) (library : Library)
      → slice_get libraries at ≡ Some library → takes_over marks name library ≡ true → Hands libraries name owner at
  justified sound at library is h =
      let test : Export → Bool = λ export. slice_index_or marks export.target false && passes name export.combinators.items in
      let both = and_parts (list_any test library.exports.items) (not (declares library name)) h in
      let found = Any-from_list_any test library.exports.items both.0 in
      let through = and_parts (slice_index_or marks found.1.target false) (passes name found.1.combinators.items) found.4 in
      again at library found.1 is (not-true (declares library name) both.1) (found.0, found.2, found.3) through.1
      (sound found.1.target (marked marks found.1.target through.0))

  taken : (library : Library) (export : Export) → declares library name ≡ false → Contains library.exports.items export → passes name export.combinators.items ≡ true
      → slice_get marks export.target ≡ Some true → takes_over marks name library ≡ true
  taken library export other among through mark =
      let test : Export → Bool = λ export. slice_index_or marks export.target false && passes name export.combinators.items in
      let one : test export ≡ true = ap (λ b. b && passes name export.combinators.items) (read_mark marks export.target mark) ∙ through in
      let any : list_any test library.exports.items ≡ true = list_any_at test library.exports.items among.0 export among.1 (ap test among.2 ∙ one) in
      ap (λ b. b && not (declares library name)) any ∙ ap not other

  -- marks to which nothing is to be added have all derivations
  pub complete : ((library : Library) → slice_get libraries owner ≡ Some library → shares library name ≡ true → slice_get marks owner ≡ Some true)
      → ((at : ℕ) (library : Library) → slice_get libraries at ≡ Some library → takes_over marks name library ≡ true → slice_get marks at ≡ Some true)
      → (at : ℕ) → Hands libraries name owner at → slice_get marks at ≡ Some true
  complete begins closed at (own library is shared) = begins library is shared
  complete begins closed at (again at' library export is other among through hands) =
      closed at' library is (taken library export other among through (complete begins closed export.target hands))
