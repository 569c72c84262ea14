-- Names below a count.
use Rattle.std.proofs.Common.{◌≡◌, ℕ, ◌<◌, ◌↔◌, IsTrue, nat_lt, List, [], ◌∷◌, ◌++◌, All, refl, ap}
use Rattle.std.specs.List.{flat_map}
use Rattle.std.proofs.lemmas.Bool.Decides.{Decides-ltb, Decides-by_and}
use Rattle.std.proofs.lemmas.List.Folds.{list_all-append}
use Rattle.dart_ir.specs.Ty.{Ty, of_list}
use Rattle.core_names.specs.Names.{ty_names, tys_names}
use Rattle.core_names.specs.Within.{are_below}

-- the names of types in a list, and in a type
pub names-of_list : (ts : List Ty) → tys_names (of_list ts) ≡ flat_map ty_names ts
names-of_list [] = refl
names-of_list (t ∷ ts) = ap (λ ns. ty_names t ++ ns) (names-of_list ts)

pub below_decides : (count : ℕ) (ns : List ℕ) → IsTrue (are_below count ns) ↔ All (λ n. n < count) ns
below_decides count = Decides-by_and (λ n. nat_lt n count) (λ n. n < count) (are_below count) (λ n. Decides-ltb n count) refl (λ _ _. refl)

pub ruleset all_append = (list_all-append)

pub ruleset listed = (list_all-append, names-of_list)
