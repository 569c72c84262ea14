-- Lists whose items go together one by one, and lists that have the same items.
use Rattle.std.proofs.Common.{◌≡◌, ◌∙◌, ℕ, ◌<◌, Bool, not, eqb, ◌||◌, List, [], ◌∷◌, length, get_or, Some, slice_get, refl, sym, ap, ap₂, subst}
use Rattle.std.specs.List.{AllZip, filter, list_any, Contains}
use Rattle.std.proofs.lemmas.List.{same_lists}
use Rattle.std.proofs.lemmas.List.Elements.{length_all_zip, AllZip-get_or, Contains-get_or}
use Rattle.std.proofs.lemmas.Option.{slice_get-get_or}
use Rattle.scope_space.proofs.Parts.{any_kept}

-- what goes with the same items goes together
pub joined : {A B : Type 0} (R : A → B → Type 0) (S : B → B → Type 0) → ((a : A) (b c : B) → R a b → R a c → S b c)
    → (of : List A) (xs ys : List B) → AllZip R of xs → AllZip R of ys → AllZip S xs ys
joined R S joins [] [] [] h k = tt
joined R S joins [] [] (y ∷ ys) h k = absurd k
joined R S joins [] (x ∷ xs) ys h k = absurd h
joined R S joins (a ∷ of) [] ys h k = absurd h
joined R S joins (a ∷ of) (x ∷ xs) [] h k = absurd k
joined R S joins (a ∷ of) (x ∷ xs) (y ∷ ys) h k = (joins a x y h.0 k.0, joined R S joins of xs ys h.1 k.1)

-- an item of a list that goes with this one
pub record Partner {X : Type 0} (R : X → X → Type 0) (ys : List X) (x : X) : Type 0 where
  pub item : X
  pub among : Contains ys item
  pub goes : R x item

pub partner : {X : Type 0} (R : X → X → Type 0) (xs ys : List X) → AllZip R xs ys → (x : X) → Contains xs x → Partner R ys x
partner {X} R xs ys together x among =
    let item : X = get_or ys among.0 x in
    record {
      item = item;
      among = Contains-get_or ys among.0 x (subst (λ (n : ℕ). among.0 < n) (length_all_zip R xs ys together) among.1);
      goes = subst (λ (one : X). R one item) among.2 (AllZip-get_or R xs ys among.0 x x together among.1);
    }

-- a test that items pass as those that go with them do
pub any_together : {X : Type 0} (R : X → X → Type 0) (p : X → Bool) → ((x y : X) → R x y → p y ≡ p x) → (xs ys : List X) → AllZip R xs ys
    → list_any p ys ≡ list_any p xs
any_together R p same [] [] h = refl
any_together R p same [] (y ∷ ys) h = absurd h
any_together R p same (x ∷ xs) [] h = absurd h
any_together R p same (x ∷ xs) (y ∷ ys) h = ap₂ (λ (b c : Bool). b || c) (same x y h.0) (any_together R p same xs ys h.1)

-- lists of which a test keeps the same have both such an item, or none
pub same_any : {X : Type 0} (p : X → Bool) (xs ys : List X) → filter p ys ≡ filter p xs → list_any p ys ≡ list_any p xs
same_any {X} p xs ys same = sym (any_kept p ys) ∙ ap (λ (kept : List X). not (eqb (length kept) 0)) same ∙ any_kept p xs

-- lists as long that have the same item at each place
pub same_list : {X : Type 0} (xs ys : List X) → length ys ≡ length xs
    → ((k : ℕ) (x y : X) → slice_get xs k ≡ Some x → slice_get ys k ≡ Some y → y ≡ x) → ys ≡ xs
same_list {X} xs ys long each = same_lists ys xs long (λ (k : ℕ) (d : X) (in_ys : k < length ys).
    each k (get_or xs k d) (get_or ys k d) (slice_get-get_or xs k d (subst (λ (n : ℕ). k < n) long in_ys)) (slice_get-get_or ys k d in_ys))
