-- What libraries hand out, and what their names are bound to, goes over to libraries that are alike.
use Rattle.std.proofs.Common.{◌≡◌, ◌∙◌, ℕ, List, Option, None, Some, slice_get, sym, ap, subst}
use Rattle.std.specs.List.{AllZip}
use Rattle.dart_base.specs.declared.name.Name.{Name}
use Rattle.scope_space.specs.declared.library.Library.{Library}
use Rattle.scope_space.specs.declared.bound.Bound.{Bound}
use Rattle.scope_space.specs.declared.bound.Bound.TheVariants.{Given, Ambiguous, Unknown}
use Rattle.scope_space.specs.declared.bound.Binding.{Binding}
use Rattle.scope_space.specs.Hands.{Hands, Hands.own, Hands.again}
use Rattle.scope_space.specs.Namespace.{is_under, is_dart, declares_in, has_prefix, Offers, Wins, IsBoundAmong, IsBound, IsBinding, IsBinding.own_name, IsBinding.prefix_name, IsBinding.imported_name}
use Rattle.scope_space.specs.Namespace.{own as list_own}
use Rattle.laws_scope.proofs.Lists.{partner}
use Rattle.laws_scope.proofs.Alike.{AreAlike, AreAlikeImports, AreAlikeExports, same_shares, same_declares, alike_at, IsFound, found, same_dart, same_own, same_declared, same_prefix}

module _ (xs ys : List Library) (alike : AllZip AreAlike xs ys) where
  found_at : (at : ℕ) (x : Library) → slice_get xs at ≡ Some x → IsFound (slice_get ys at) x
  found_at at x is = found (slice_get xs at) (slice_get ys at) x (alike_at xs ys alike at) is

  -- their own declarations of a name are the same
  pub own_over : (at name : ℕ) → list_own ys at name ≡ list_own xs at name
  own_over at name = same_own name (slice_get xs at) (slice_get ys at) (alike_at xs ys alike at)

  pub hands_over : (name owner at : ℕ) → Hands xs name owner at → Hands ys name owner at
  hands_over name owner at (own library is shared) =
      let other = found_at owner library is in
      own other.library other.is (same_shares library other.library other.alike name ∙ shared)
  hands_over name owner at (again at' library export is free among through handed) =
      let other = found_at at library is in
      let exported = partner AreAlikeExports library.exports.items other.library.exports.items other.alike.exports export among in
      again at other.library exported.item other.is (same_declares library other.library other.alike name ∙ free) exported.among
      (exported.goes.through name ∙ through)
      (subst (λ (target : ℕ). Hands ys name owner target) (sym exported.goes.target) (hands_over name owner export.target handed))

  pub offers_over : (at : ℕ) (prefix : Option Name) (name owner : ℕ) → Offers xs at prefix name owner → Offers ys at prefix name owner
  offers_over at prefix name owner h =
      let other = found_at at h.library h.is in
      let imported = partner AreAlikeImports h.library.imports.items other.library.imports.items other.alike.imports h.import h.among in
      record {
        library = other.library;
        is = other.is;
        import = imported.item;
        among = imported.among;
        under = ap (is_under prefix) imported.goes.prefix ∙ h.under;
        through = imported.goes.through name ∙ h.through;
        handed = subst (λ (target : ℕ). Hands ys name owner target) (sym imported.goes.target)
            (hands_over name owner h.import.target h.handed);
      }

-- who wins among the same offers
wins_over : (xs ys : List Library) → ((n : ℕ) → is_dart ys n ≡ is_dart xs n) → (P Q : ℕ → Type 0) → ((n : ℕ) → P n → Q n)
    → ((n : ℕ) → Q n → P n) → (n : ℕ) → Wins xs P n → Wins ys Q n
wins_over xs ys dart P Q over back n wins = record {
  offered = over n wins.offered;
  over = λ other offered is_of_dart. dart other ∙ wins.over other (back other offered) (sym (dart n) ∙ is_of_dart);
}

-- what the same offers come to
among_over : (xs ys : List Library) → ((n : ℕ) → is_dart ys n ≡ is_dart xs n) → (P Q : ℕ → Type 0) → ((n : ℕ) → P n → Q n)
    → ((n : ℕ) → Q n → P n) → (bound : Bound) → IsBoundAmong xs P bound → IsBoundAmong ys Q bound
among_over xs ys dart P Q over back (Given owner) h =
    (wins_over xs ys dart P Q over back owner h.0, λ other wins. h.1 other (wins_over ys xs (λ n. sym (dart n)) Q P back over other wins))
among_over xs ys dart P Q over back Ambiguous h = (
  h.0,
  h.1,
  record {
    wins = wins_over xs ys dart P Q over back h.0 h.2.wins;
    also = wins_over xs ys dart P Q over back h.1 h.2.also;
    apart = h.2.apart;
  },
)
among_over xs ys dart P Q over back Unknown h = λ owner offered. h owner (back owner offered)

module _ (xs ys : List Library) (alike : AllZip AreAlike xs ys) (turned : AllZip AreAlike ys xs) where
  pub bound_over : (at : ℕ) (prefix : Option Name) (name : ℕ) (bound : Bound) → IsBound xs at prefix name bound
      → IsBound ys at prefix name bound
  bound_over at prefix name bound h =
      among_over xs ys (λ n. same_dart (slice_get xs n) (slice_get ys n) (alike_at xs ys alike n))
      (Offers xs at prefix name) (Offers ys at prefix name)
      (offers_over xs ys alike at prefix name) (offers_over ys xs turned at prefix name) bound h

  declared_here : (at name : ℕ) → declares_in (slice_get ys at) name ≡ declares_in (slice_get xs at) name
  declared_here at name = same_declared name (slice_get xs at) (slice_get ys at) (alike_at xs ys alike at)

  prefixed_here : (at name : ℕ) → has_prefix (slice_get ys at) name ≡ has_prefix (slice_get xs at) name
  prefixed_here at name = same_prefix name (slice_get xs at) (slice_get ys at) (alike_at xs ys alike at)

  pub binding_over : (at name : ℕ) (binding : Binding) → IsBinding xs at name binding → IsBinding ys at name binding
  binding_over at name binding (own_name declared) = own_name (declared_here at name ∙ declared)
  binding_over at name binding (prefix_name free prefixed) = prefix_name (declared_here at name ∙ free) (prefixed_here at name ∙ prefixed)
  binding_over at name binding (imported_name bound free plain is) =
      imported_name bound (declared_here at name ∙ free) (prefixed_here at name ∙ plain) (bound_over at None name bound is)
