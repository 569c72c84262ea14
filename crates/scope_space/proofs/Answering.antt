-- The tables of a library answer for its namespaces.
use Rattle.std.proofs.Common.{◌≡◌, ◌∙◌, ℕ, ◌<◌, Bool, true, not, eqb, ◌||◌, List, [], ◌∷◌, length, slice_get, Option, Some, None, refl, sym, ap, subst}
use Rattle.std.specs.List.{filter, filter_map, flat_map, cons_option, list_any, Contains}
use Rattle.std.proofs.lemmas.Bool.{eqb-true, eq-eqb, cond-true}
use Rattle.std.proofs.lemmas.Option.{same_Some, cond_some}
use Rattle.dart_base.specs.declared.name.Name.{Name}
use Rattle.scope_space.specs.declared.library.Import.{Import}
use Rattle.scope_space.specs.declared.library.Library.{Library}
use Rattle.scope_space.specs.declared.bound.Bound.{Bound}
use Rattle.scope_space.specs.declared.handed.Handed.{Handed}
use Rattle.scope_space.specs.declared.offer.Offer.{Offer}
use Rattle.scope_space.specs.declared.space.Space.{Space}
use Rattle.scope_space.specs.Library.{passes}
use Rattle.scope_space.specs.Hands.{Hands}
use Rattle.scope_space.specs.Namespace.{is_under, is_dart, is_prefix, has_prefix, Offers, IsBound}
use Rattle.scope_space.specs.Building.{IsAllHanded, IsSpaceFrom, AreSpaces, offered, offered_by, bound_in}
use Rattle.scope_space.proofs.Parts.{any_kept}
use Rattle.scope_space.proofs.Members.{kept_in, kept_from, kept_passes, mapped_in, mapped_from, joined_in, joined_from}
use Rattle.scope_space.proofs.Entries.{item_at}
use Rattle.scope_space.proofs.Bounds.{IsTold, Shown, bound_is}

any_more : (name : ℕ) (o : Option Name) (names : List Name) (b : Bool) → list_any (λ one. eqb one.0 name) names ≡ b
    → list_any (λ one. eqb one.0 name) (cons_option o names) ≡ (is_prefix name o || b)
any_more name None names b h = h
any_more name (Some prefix) names b h = ap (λ b. eqb prefix.0 name || b) h

-- the names of the imports' prefixes
any_prefix : (name : ℕ) (imports : List Import) → list_any (λ one. eqb one.0 name) (filter_map (λ import. import.prefix) imports)
    ≡ list_any (λ import. is_prefix name import.prefix) imports
any_prefix name [] = refl
any_prefix name (import ∷ imports) = any_more name import.prefix (filter_map (λ import. import.prefix) imports) (list_any (λ import. is_prefix name import.prefix) imports) (any_prefix name imports)

module _ (libraries : List Library) (handed : List Handed) (all : IsAllHanded libraries handed) (at : ℕ) (library : Library)
    (is : slice_get libraries at ≡ Some library) (space : Space) (made : IsSpaceFrom handed library space) where
  pub prefix_here : (name : ℕ) → list_any (λ one. eqb one.0 name) space.prefixes ≡ has_prefix (slice_get libraries at) name
  prefix_here name =
      let test : Name → Bool = λ one. eqb one.0 name in
      sym (any_kept test space.prefixes) ∙ ap (λ names. not (eqb (length names) 0)) (made.prefixes name)
      ∙ any_kept test (filter_map (λ import. import.prefix) library.imports.items) ∙ any_prefix name library.imports.items
      ∙ sym (ap (λ o. has_prefix o name) is)

  sound : (prefix : Option Name) (name : ℕ) (offer : Offer) → Contains (filter (λ offer. eqb offer.name.0 name) space.offers) offer
      → is_under prefix offer.prefix ≡ true → IsTold libraries (Offers libraries at prefix name) offer
  sound prefix name offer among under =
      let test : Offer → Bool = λ offer. eqb offer.name.0 name in
      let imports = library.imports.items in
      let shown = subst (λ xs. Contains xs offer) (made.offers name) among in
      let is_named : offer.name.0 ≡ name = eqb-true offer.name.0 name (kept_passes test (flat_map (offered_by handed) imports) offer shown) in
      let piece = joined_from (offered_by handed) imports offer (kept_from test (flat_map (offered_by handed) imports) offer shown) in
      let import = piece.item in
      let at_target : Handed → Bool = λ one. eqb one.library import.target in
      let taken = mapped_from (offered import) (filter at_target handed) offer piece.within in
      let one = taken.item in
      let through = cond_some (passes one.name.0 import.combinators.items) (record { name = one.name; prefix = import.prefix; owner = one.owner; is_dart = one.is_dart }) offer taken.gives in
      let entry = all.sound.each one (kept_from at_target handed one taken.among) in
      let target : one.library ≡ import.target = eqb-true one.library import.target (kept_passes at_target handed one taken.among) in
      let same_name : one.name.0 ≡ name = ap (λ offer. offer.name.0) through.1 ∙ is_named in
      let same_owner : one.owner ≡ offer.owner = ap (λ offer. offer.owner) through.1 in
      let hands = subst (λ owner. Hands libraries name owner import.target) same_owner
      (subst (λ name. Hands libraries name one.owner import.target) same_name (subst (λ at. Hands libraries one.name.0 one.owner at) target entry.hands)) in
      record {
        offered = record {
          library = library;
          is = is;
          import = import;
          among = piece.among;
          under = ap (is_under prefix) (ap (λ offer. offer.prefix) through.1) ∙ under;
          through = sym (ap (λ name. passes name import.combinators.items) same_name) ∙ through.0;
          handed = hands;
        };
        dart = sym (ap (λ offer. offer.is_dart) through.1) ∙ entry.dart ∙ ap (is_dart libraries) same_owner;
      }

  complete : (prefix : Option Name) (name owner : ℕ) → Offers libraries at prefix name owner
      → Shown prefix (filter (λ offer. eqb offer.name.0 name) space.offers) owner
  complete prefix name owner offers =
      let test : Offer → Bool = λ offer. eqb offer.name.0 name in
      let imports = library.imports.items in
      let import = offers.import in
      let same : offers.library ≡ library = same_Some offers.library library (sym offers.is ∙ is) in
      let lists = ((all.complete owner).each name).each import.target offers.handed in
      let one = lists.one in
      let at_target : Handed → Bool = λ one. eqb one.library import.target in
      let offer : Offer = record { name = one.name; prefix = import.prefix; owner = one.owner; is_dart = one.is_dart } in
      let gives : offered import one ≡ Some offer =
      cond-true (passes one.name.0 import.combinators.items) (Some offer) None (ap (λ name. passes name import.combinators.items) lists.named ∙ offers.through) in
      let taken = mapped_in (offered import) (filter at_target handed) one offer (kept_in at_target handed one lists.among (eq-eqb one.library import.target lists.from)) gives in
      let joined = joined_in (offered_by handed) imports import offer (subst (λ library. Contains library.imports.items import) same offers.among) taken in
      let kept = kept_in test (flat_map (offered_by handed) imports) offer joined (eq-eqb one.name.0 name lists.named) in
      record {
        offer = offer;
        among = subst (λ xs. Contains xs offer) (sym (made.offers name)) kept;
        under = offers.under;
        owned = lists.owned;
      }

  pub bound_here : (prefix : Option Name) (name : ℕ) → IsBound libraries at prefix name (bound_in prefix (filter (λ offer. eqb offer.name.0 name) space.offers))
  bound_here prefix name = bound_is libraries (Offers libraries at prefix name) prefix (filter (λ offer. eqb offer.name.0 name) space.offers)
      (sound prefix name) (complete prefix name)

module _ (libraries : List Library) (tables : List Space) (are : AreSpaces libraries tables) (at : ℕ) (listed : at < length libraries)
    (space : Space) (is : slice_get tables at ≡ Some space) where
  pub bound_told : (prefix : Option Name) (name : ℕ) (offers : List Offer) (bound : Bound) → offers ≡ filter (λ offer. eqb offer.name.0 name) space.offers
      → bound ≡ bound_in prefix offers → IsBound libraries at prefix name bound
  bound_told prefix name offers bound named told =
      let library = item_at libraries at listed in
      let made = are.from.each at library.item space library.is is in
      subst (IsBound libraries at prefix name) (sym (told ∙ ap (bound_in prefix) named))
      (bound_here libraries are.handed are.all at library.item library.is space made prefix name)

  pub prefix_told : (name : ℕ) → list_any (λ one. eqb one.0 name) space.prefixes ≡ has_prefix (slice_get libraries at) name
  prefix_told name =
      let library = item_at libraries at listed in
      prefix_here libraries are.handed are.all at library.item library.is space (are.from.each at library.item space library.is is) name
