-- What the forms of a body do, part by part.
use Rattle.std.proofs.Common.{◌≡◌, ℕ, List, [], ◌∷◌, map, refl, ap, append_assoc, append-nil}
use Rattle.std.proofs.lemmas.Grind.{flat_map-append}
use Rattle.core_program.specs.Core as c
use Rattle.core_program.specs.Named as with_names
use Rattle.core_program.specs.View as v
use Rattle.core_program.specs.declared.form.Case.{Case}
use Rattle.core_program.specs.declared.form.Handler.{Handler}
use Rattle.lower_leaf.proofs.FormLaws.{forms}

pub handlers_named : (f : ℕ → List ℕ) (xs : List Handler) →
    with_names.handlers_named f (c.handlers (map v.handler xs)) ≡ c.handlers (map (λ x. with_names.handler f (v.handler x)) xs)
handlers_named f [] = refl
handlers_named f (x ∷ xs) =
    ap (λ (rest : c.Handlers (List ℕ)). c.handler_more (with_names.handler f (v.handler x)) rest) (handlers_named f xs)

pub cases_named : (f : ℕ → List ℕ) (xs : List Case) →
    with_names.cases_named f (c.cases (map v.case xs)) ≡ c.cases (map (λ x. with_names.case f (v.case x)) xs)
cases_named f [] = refl
cases_named f (x ∷ xs) =
    ap (λ (rest : c.Cases (List ℕ)). c.case_more (with_names.case f (v.case x)) rest) (cases_named f xs)

pub ruleset used = (forms, handlers_named, cases_named, flat_map-append, append_assoc, append-nil)
