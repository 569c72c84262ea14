use Rattle.std.proofs.Common.{◌≡◌, Some, slice_get, sym, subst}
use Rattle.scope_mention.proofs.Directives.{first_annotation}
use Rattle.scope_mention.proofs.mention.directive_place.Goals as goal

pub returns-in-Some : goal.returns-in-Some
returns-in-Some c =
    first_annotation c.args.directive.now.metadata.items c.in-Some.annotation.now _
    (subst (λ all. slice_get all 0 ≡ Some c.in-Some.annotation.now) c.deref.ensures.value (sym c.in-Some.ensures.value))
