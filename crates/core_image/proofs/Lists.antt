-- The image of a list of forms, handlers or cases has the image of each.
use Rattle.std.proofs.Common.{◌≡◌, ℕ, List, [], ◌∷◌, map, refl, ap}
use Rattle.core_program.specs.Core as c
use Rattle.core_program.specs.Alike as alike

pub cores_alike : (xs : List (c.Core ℕ)) → c.cores (map alike.core xs) ≡ alike.cores (c.cores xs)
cores_alike [] = refl
cores_alike (x ∷ xs) = ap (c.core_more (alike.core x)) (cores_alike xs)

pub handlers_alike : (xs : List (c.Handler ℕ)) → c.handlers (map alike.handler xs) ≡ alike.all_handlers (c.handlers xs)
handlers_alike [] = refl
handlers_alike (x ∷ xs) = ap (c.handler_more (alike.handler x)) (handlers_alike xs)

pub cases_alike : (xs : List (c.Case ℕ)) → c.cases (map alike.case xs) ≡ alike.all_cases (c.cases xs)
cases_alike [] = refl
cases_alike (x ∷ xs) = ap (c.case_more (alike.case x)) (cases_alike xs)

pub ruleset lists = (cores_alike, handlers_alike, cases_alike)
