-- Lists of the names that libraries hand out, as they grow.
use Rattle.std.proofs.Common.{◌≡◌, ◌∙◌, ℕ, zero, suc, ◌+◌, ◌<◌, length, get_or, ◌⊎◌, Bool, true, false, not, eqb, ◌&&◌, List, [], ◌∷◌, ◌++◌, slice_get, Some, refl, sym, ap, subst, inl, inr, arith}
use Rattle.std.specs.List.{filter, list_any, Contains}
use Rattle.std.proofs.lemmas.Bool.{true≢false, eq-eqb, eqb-true, and_parts, and_from, not-true, cases_lt}
use Rattle.std.proofs.lemmas.Option.{slice_get_within, slice_get_read, get_or_from_slice_get, same_Some, none-some}
use Rattle.std.proofs.lemmas.List.Elements.{Contains-append_left, Contains-push, Contains-push_cases}
use Rattle.std.proofs.lemmas.List.Folds.{Any-from_list_any, list_any_at}
use Rattle.scope_space.specs.declared.declaration.Declaration.{Declaration}
use Rattle.scope_space.specs.declared.library.Export.{Export}
use Rattle.scope_space.specs.declared.library.Library.{Library}
use Rattle.scope_space.specs.declared.handed.Handed.{Handed}
use Rattle.scope_space.specs.Library.{is_named, shares}
use Rattle.scope_space.specs.Hands.{Hands, Hands.own, Hands.again}
use Rattle.scope_space.specs.Building.{exports, is_exported, IsHanded, AreHanded, Lists, ListsName, ListsAll, Keeps, IsAllHanded}
use Rattle.scope_space.proofs.Members.{kept_in, kept_from}

pub none_handed : (libraries : List Library) → AreHanded libraries []
none_handed libraries = record { each = λ one (k, l, e). absurd (omega arith) }

pub more_handed : (libraries : List Library) (list : List Handed) (one : Handed) → AreHanded libraries list → IsHanded libraries one → AreHanded libraries (list ++ one ∷ [])
more_handed libraries list one are is = record {
  each = λ other among. elim (Contains-push_cases list one other among) [
    | inl before ↦ are.each other before
    | inr same ↦ subst (IsHanded libraries) same is
  ];
}

pub keeps_all : (list : List Handed) → Keeps list list
keeps_all list = record { each = λ one among. among }

pub keeps_more : (old list : List Handed) (one : Handed) → Keeps old list → Keeps old (list ++ one ∷ [])
keeps_more old list one kept = record { each = λ other among. Contains-append_left list (one ∷ []) other (kept.each other among) }

pub keeps_then : (old list new : List Handed) → Keeps old list → Keeps list new → Keeps old new
keeps_then old list new first then = record { each = λ one among. then.each one (first.each one among) }

pub still_listed : (old new : List Handed) (owner name at : ℕ) → Keeps old new → Lists old owner name at → Lists new owner name at
still_listed old new owner name at kept lists = record { one = lists.one; among = kept.each lists.one lists.among; named = lists.named; owned = lists.owned; from = lists.from }

pub still_named : (libraries : List Library) (old new : List Handed) (owner name : ℕ) → Keeps old new → ListsName libraries old owner name → ListsName libraries new owner name
still_named libraries old new owner name kept lists = record { each = λ at hands. still_listed old new owner name at kept (lists.each at hands) }

pub still_all : (libraries : List Library) (old new : List Handed) (owner : ℕ) → Keeps old new → ListsAll libraries old owner → ListsAll libraries new owner
still_all libraries old new owner kept lists = record { each = λ name. still_named libraries old new owner name kept (lists.each name) }

-- the entry at the end of a list
pub last_listed : (list : List Handed) (one : Handed) → Lists (list ++ one ∷ []) one.owner one.name.0 one.library
last_listed list one = record { one = one; among = Contains-push list one; named = refl; owned = refl; from = refl }

-- the owner of a name that is handed out
pub record IsOwner (libraries : List Library) (name owner : ℕ) : Type 0 where
  pub library : Library
  pub is : slice_get libraries owner ≡ Some library
  pub shared : shares library name ≡ true

pub owner_of : (libraries : List Library) (name owner at : ℕ) → Hands libraries name owner at → IsOwner libraries name owner
owner_of libraries name owner at (own library is shared) = record { library = library; is = is; shared = shared }
owner_of libraries name owner at (again at' library export is other among through hands) = owner_of libraries name owner export.target hands

any_got : {X : Type 0} (p : X → Bool) (xs : List X) (k : ℕ) (x : X) → slice_get xs k ≡ Some x → p x ≡ true → list_any p xs ≡ true
any_got p xs k x got holds = list_any_at p xs k x (slice_get_within xs k x got) (ap p (get_or_from_slice_get xs k x x got) ∙ holds)

-- a library that nobody exports is the only one to hand out its names
pub only_owner : (libraries : List Library) (name owner at : ℕ) → is_exported libraries owner ≡ false → Hands libraries name owner at → at ≡ owner
only_owner libraries name owner at alone (own library is shared) = refl
only_owner libraries name owner at alone (again at' library export is other among through hands) =
    let target = only_owner libraries name owner export.target alone hands in
    let test : Export → Bool = λ export. eqb export.target owner in
    let exported : exports library owner ≡ true = list_any_at test library.exports.items among.0 export among.1 (ap test among.2 ∙ eq-eqb export.target owner target) in
    absurd (true≢false (sym (any_got (λ library. exports library owner) libraries at' library is exported) ∙ alone))

-- an element of a list with one more at its end
pub got_more : {X : Type 0} (xs : List X) (x y : X) (k : ℕ) → slice_get (xs ++ x ∷ []) k ≡ Some y → (slice_get xs k ≡ Some y) ⊎ ((k ≡ length xs) × (x ≡ y))
got_more [] x y zero h = inr (refl, same_Some x y h)
got_more [] x y (suc k) h = absurd (none-some y h)
got_more (z ∷ zs) x y zero h = inl h
got_more (z ∷ zs) x y (suc k) h = elim (got_more zs x y k h) [
  | inl before ↦ inl before
  | inr here ↦ inr (ap suc here.0, here.1)
]

-- what stands at a place
pub record At {X : Type 0} (xs : List X) (k : ℕ) : Type 0 where
  pub item : X
  pub is : slice_get xs k ≡ Some item

pub item_at : {X : Type 0} (xs : List X) (k : ℕ) → k < length xs → At xs k
item_at [] k l = absurd (omega arith)
item_at (x ∷ xs) zero l = record { item = x; is = refl }
item_at (x ∷ xs) (suc k) l = let rest = item_at xs k (omega arith) in record { item = rest.item; is = rest.is }

pub cases_last : (k i : ℕ) → k < i + 1 → (k < i) ⊎ (k ≡ i)
cases_last k i l = elim (cases_lt k i) [
  | inl below ↦ inl below
  | inr past ↦ inr (omega arith)
]

-- the declaration at a place is shared where it isn't private
shared_here : (library : Library) (declarations : List Declaration) (i : ℕ) (d : Declaration) → declarations ≡ library.declarations → i < length declarations
    → (get_or declarations i d).is_private ≡ false → shares library (get_or declarations i d).name.0 ≡ true
shared_here library declarations i d same l public =
    let one = get_or declarations i d in
    let test : Declaration → Bool = λ declaration. is_named one.name.0 declaration && not declaration.is_private in
    sym (ap (list_any test) same) ∙ list_any_at test declarations i d l (and_from (is_named one.name.0 one) (not one.is_private) (eq-eqb one.name.0 one.name.0 refl) (ap not public))

pub shared_by : (library here : Library) (declarations : List Declaration) (i : ℕ) (d : Declaration) → library ≡ here → declarations ≡ here.declarations
    → i < length declarations → (get_or declarations i d).is_private ≡ false → shares library (get_or declarations i d).name.0 ≡ true
shared_by library here declarations i d same is l public =
    ap (λ library. shares library (get_or declarations i d).name.0) same ∙ shared_here here declarations i d is l public

-- a private declaration, as a later place shows it
pub private_here : (declarations : List Declaration) (i k : ℕ) (d declaration : Declaration) → (get_or declarations i d).is_private ≡ true → k ≡ i
    → slice_get declarations k ≡ Some declaration → declaration.is_private ≡ true
private_here declarations i k d declaration private same got =
    ap (λ declaration. declaration.is_private) (sym (get_or_from_slice_get declarations k declaration d got)) ∙ ap (λ k. (get_or declarations k d).is_private) same ∙ private

module _ (libraries : List Library) (declarations : List Declaration) (owner : ℕ) where
  -- the names of the declarations below a place are listed
  pub record AreListed (list : List Handed) (i : ℕ) : Type 0 where
    pub each : (k : ℕ) (declaration : Declaration) → k < i → slice_get declarations k ≡ Some declaration
        → declaration.is_private ≡ false → ListsName libraries list owner declaration.name.0

  pub one_more : (now next : List Handed) (i : ℕ) (d : Declaration) → Keeps now next → AreListed now i
      → ListsName libraries next owner (get_or declarations i d).name.0 → AreListed next (i + 1)
  one_more now next i d kept before here = record {
    each = λ k declaration l got public. elim (cases_last k i l) [
      | inl below ↦ still_named libraries now next owner declaration.name.0 kept (before.each k declaration below got public)
      | inr same ↦ subst (λ declaration. ListsName libraries next owner declaration.name.0) (ap (λ k. get_or declarations k d) (sym same) ∙ get_or_from_slice_get declarations k declaration d got) here
    ];
  }

  pub private_more : (now : List Handed) (i : ℕ) (d : Declaration) → AreListed now i → (get_or declarations i d).is_private ≡ true → AreListed now (i + 1)
  private_more now i d before private = record {
    each = λ k declaration l got public. elim (cases_last k i l) [
      | inl below ↦ before.each k declaration below got public
      | inr same ↦ absurd (true≢false (sym (private_here declarations i k d declaration private same got) ∙ public))
    ];
  }

  -- all that the owner shares is listed where all its declarations are
  pub all_listed : (list : List Handed) (library : Library) (i : ℕ) → slice_get libraries owner ≡ Some library → declarations ≡ library.declarations
      → length declarations < i + 1 → AreListed list i → ListsAll libraries list owner
  all_listed list library i is same past listed = record {
    each = λ name. record {
      each = λ at hands.
          let one = owner_of libraries name owner at hands in
          let here = same_Some one.library library (sym one.is ∙ is) in
          let test : Declaration → Bool = λ declaration. is_named name declaration && not declaration.is_private in
          let shared : list_any test declarations ≡ true = ap (list_any test) same ∙ ap (λ library. shares library name) (sym here) ∙ one.shared in
          let found = Any-from_list_any test declarations shared in
          let parts = and_parts (is_named name found.1) (not found.1.is_private) found.4 in
          let got = slice_get_read declarations (length declarations) found.0 found.1 (λ _. length declarations) found.2 (sym found.3) in
          let lists = listed.each found.0 found.1 (omega arith) got (not-true found.1.is_private parts.1) in
          (subst (ListsName libraries list owner) (eqb-true found.1.name.0 name parts.0) lists).each at hands;
    };
  }

-- past the libraries nothing is handed out
pub none_past : (libraries : List Library) (list : List Handed) (owner : ℕ) → length libraries < owner + 1 → ListsAll libraries list owner
none_past libraries list owner past = record {
  each = λ name. record {
    each = λ at hands.
        let one = owner_of libraries name owner at hands in
        let l = slice_get_within libraries owner one.library one.is in
        absurd (omega arith);
  };
}

-- a list in another order is still of all that libraries hand out
pub all_sorted : (libraries : List Library) (list sorted : List Handed)
    → ((key : ℕ) → filter (λ one. eqb one.library key) sorted ≡ filter (λ one. eqb one.library key) list)
    → AreHanded libraries list → ((owner : ℕ) → ListsAll libraries list owner) → IsAllHanded libraries sorted
all_sorted libraries list sorted same are all =
    let test : ℕ → Handed → Bool = λ key one. eqb one.library key in
    record {
      sound = record {
        each = λ one among.
            are.each one (kept_from (test one.library) list one
            (subst (λ xs. Contains xs one) (same one.library) (kept_in (test one.library) sorted one among (eq-eqb one.library one.library refl))));
      };
      complete = λ owner. record {
        each = λ name. record {
          each = λ at hands.
              let lists = ((all owner).each name).each at hands in
              let one = lists.one in
              record {
                one = one;
                among = kept_from (test one.library) sorted one
                    (subst (λ xs. Contains xs one) (sym (same one.library)) (kept_in (test one.library) list one lists.among (eq-eqb one.library one.library refl)));
                named = lists.named;
                owned = lists.owned;
                from = lists.from;
              };
        };
      };
    }
