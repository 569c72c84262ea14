-- A name is bound to one thing in a namespace, and means one thing in a library.
use Rattle.std.proofs.Common.{◌≡◌, ◌∙◌, ℕ, List, Option, None, slice_get, refl, sym, ap}
use Rattle.std.proofs.lemmas.Bool.{both_ways}
use Rattle.dart_base.specs.declared.name.Name.{Name}
use Rattle.scope_space.specs.declared.library.Library.{Library}
use Rattle.scope_space.specs.declared.bound.Bound.{Bound}
use Rattle.scope_space.specs.declared.bound.Bound.TheVariants.{Given, Ambiguous, Unknown}
use Rattle.scope_space.specs.declared.bound.Binding.{Binding}
use Rattle.scope_space.specs.declared.bound.Binding.TheVariants.{Imported}
use Rattle.scope_space.specs.Namespace.{declares_in, has_prefix, Offers, IsBoundAmong, IsBound, IsBinding, IsBinding.own_name, IsBinding.prefix_name, IsBinding.imported_name}

among_once : (libraries : List Library) (Offered : ℕ → Type 0) (one other : Bound) → IsBoundAmong libraries Offered one → IsBoundAmong libraries Offered other → one ≡ other
among_once libraries Offered (Given a) (Given b) x y = ap Given (y.1 a x.0)
among_once libraries Offered (Given a) Ambiguous x y = absurd (y.2.apart (x.1 y.0 y.2.wins ∙ sym (x.1 y.1 y.2.also)))
among_once libraries Offered (Given a) Unknown x y = absurd (y a x.0.offered)
among_once libraries Offered Ambiguous (Given b) x y = absurd (x.2.apart (y.1 x.0 x.2.wins ∙ sym (y.1 x.1 x.2.also)))
among_once libraries Offered Ambiguous Ambiguous x y = refl
among_once libraries Offered Ambiguous Unknown x y = absurd (y x.0 x.2.wins.offered)
among_once libraries Offered Unknown (Given b) x y = absurd (x b y.0.offered)
among_once libraries Offered Unknown Ambiguous x y = absurd (x y.0 y.2.wins.offered)
among_once libraries Offered Unknown Unknown x y = refl

pub once_bound : (libraries : List Library) (at : ℕ) (prefix : Option Name) (name : ℕ) (one other : Bound)
    → IsBound libraries at prefix name one → IsBound libraries at prefix name other → one ≡ other
once_bound libraries at prefix name one other x y = among_once libraries (Offers libraries at prefix name) one other x y

pub once_meant : (libraries : List Library) (at name : ℕ) (one other : Binding) → IsBinding libraries at name one → IsBinding libraries at name other → one ≡ other
once_meant libraries at name one other (own_name a) (own_name b) = refl
once_meant libraries at name one other (own_name a) (prefix_name b c) = absurd (both_ways (declares_in (slice_get libraries at) name) b a)
once_meant libraries at name one other (own_name a) (imported_name bound b c d) = absurd (both_ways (declares_in (slice_get libraries at) name) b a)
once_meant libraries at name one other (prefix_name a b) (own_name c) = absurd (both_ways (declares_in (slice_get libraries at) name) a c)
once_meant libraries at name one other (prefix_name a b) (prefix_name c d) = refl
once_meant libraries at name one other (prefix_name a b) (imported_name bound c d e) = absurd (both_ways (has_prefix (slice_get libraries at) name) d b)
once_meant libraries at name one other (imported_name bound a b c) (own_name d) = absurd (both_ways (declares_in (slice_get libraries at) name) a d)
once_meant libraries at name one other (imported_name bound a b c) (prefix_name d e) = absurd (both_ways (has_prefix (slice_get libraries at) name) b e)
once_meant libraries at name one other (imported_name bound a b c) (imported_name bound' d e f) = ap Imported (once_bound libraries at None name bound bound' c f)
