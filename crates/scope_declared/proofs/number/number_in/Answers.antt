use Rattle.std.proofs.Common.{◌≡◌, ℕ, List, Contains, slice_get, Some, true≢false, sym, subst}
use Rattle.scope_declared.proofs.Finding.{number-found, number-missing, number-invalid}
use Rattle.scope_declared.proofs.number.number_in.Goals as goal

pub returns-in-Err : goal.returns-in-Err
returns-in-Err c = number-invalid c.args.names.now c.args.text.now c.in-Err.ensures.cases.0

pub returns-in-None : goal.returns-in-None
returns-in-None c =
    number-missing c.args.names.now c.args.text.now c.in-Ok.ensures.cases.1
    (λ there. absurd (true≢false (sym (c.in-None.ensures.known.1 (subst (λ (text : List ℕ). Contains c.args.names.now text) (sym c.in-Ok.ensures.cases.0) there)))))

pub returns-in-Some : goal.returns-in-Some
returns-in-Some c =
    number-found c.args.names.now c.args.text.now c.in-Some.name.0 c.in-Ok.ensures.cases.1 c.count-count.ensures.distinct
    (subst (λ (text : List ℕ). slice_get c.args.names.now c.in-Some.name.0 ≡ Some text) c.in-Ok.ensures.cases.0 c.in-Some.ensures.found)
