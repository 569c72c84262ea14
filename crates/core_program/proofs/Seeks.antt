-- What is found among the forms of a function.
use Rattle.std.proofs.Common.{◌≡◌, ℕ, List, [], ◌∷◌, map, ◌||◌, nat_eq, refl, ap}
use Rattle.std.specs.List.{list_any}
use Rattle.std.proofs.lemmas.List.Folds.{list_any-append}
use Rattle.std.proofs.lemmas.Option.{slice_get-map}
use Rattle.core_program.specs.declared.program.Parameter.{Parameter}
use Rattle.core_program.specs.ProgramView.{parameter}

-- the same test over the parameters as contracts see them
pub any_parameter : (x : ℕ) (qs : List Parameter) → list_any (λ q. nat_eq q.var x) (map parameter qs) ≡ list_any (λ q. nat_eq q.var x) qs
any_parameter x [] = refl
any_parameter x (q ∷ qs) = ap (λ b. nat_eq q.var x || b) (any_parameter x qs)

pub ruleset any_append = (list_any-append)

pub ruleset found = (slice_get-map, any_parameter)
