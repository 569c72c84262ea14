-- What a library gives that isn't there.
use Rattle.std.proofs.Common.{◌≡◌, ◌∙◌, ℕ, ◌≤◌, List, length, slice_get, Option, None, sym, ap}
use Rattle.std.proofs.lemmas.Option.{none-some, slice_get_past}
use Rattle.scope_space.specs.declared.library.Library.{Library}
use Rattle.scope_space.specs.declared.bound.Bound.TheVariants.{Unknown}
use Rattle.scope_space.specs.declared.bound.Binding.TheVariants.{Imported}
use Rattle.scope_space.specs.Namespace.{declares_in, has_prefix, IsBinding, IsBinding.imported_name}

-- a library that isn't there gives a name no meaning
pub no_library : (libraries : List Library) (at name : ℕ) → length libraries ≤ at → IsBinding libraries at name (Imported Unknown)
no_library libraries at name past =
    let none : slice_get libraries at ≡ None = slice_get_past libraries at past in
    imported_name Unknown (ap (λ (o : Option Library). declares_in o name) none) (ap (λ (o : Option Library). has_prefix o name) none)
    (λ owner offers. none-some offers.library (sym none ∙ offers.is))
