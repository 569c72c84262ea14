use Rattle.std.proofs.Common.{◌≡◌, ◌∙◌, Some, sym, ap, subst as transport}
use Rattle.std.proofs.lemmas.Option.{same_Some}
use Rattle.dart_ir.specs.Ty.{ty}
use Rattle.dart_ir.specs.declared.types.TypeRef.{TypeRef}
use Rattle.class_size.specs.Bound.{IsTypeBound}
use Rattle.class_size.proofs.bound.superclass_bound.Goals as goal

pub returns-in-Some : goal.returns-in-Some
returns-in-Some c = λ k h u q.
    let e : c.in-Some.t ≡ u = same_Some c.in-Some.t u (sym c.in-Some.is ∙ q) in
    transport (λ (x : TypeRef). IsTypeBound k c.type_bound.result (ty x)) e (c.type_bound.ensures k h)
