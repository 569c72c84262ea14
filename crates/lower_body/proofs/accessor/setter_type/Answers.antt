use Rattle.std.proofs.Common.{List, [], ◌∷◌, ◌++◌, ◌∙◌, ap}
use Rattle.dart_ir.specs.Ty.{cons, nil, unnamed}
use Rattle.dart_ir.specs.declared.types.TypeRef.{TypeRef}
use Rattle.dart_ir.specs.declared.types.TypeRef as k
use Rattle.dart_ir.specs.declared.types.NamedType.{NamedType}
use Rattle.translation.specs.Surroundings.{Ty}
use Rattle.translation.specs.Types as y
use Rattle.lower_leaf.specs.Around.{types}
use Rattle.lower_leaf.specs.Kept.{named_types}
use Rattle.lower_body.proofs.Typed.{dynamic_seen, signature_of}
use Rattle.lower_body.proofs.accessor.setter_type.Goals as goal

pub returns : goal.returns
returns g c =
    let a = g.S.Surroundings.around c.args.outside.now in
    let of = c.in_ok-annotated_type.field-0 in
    signature_of a k.Dynamic c.push.new.self c.new.result c.new-2.result _ _ nil unnamed (dynamic_seen a)
    (ap (λ (l : List TypeRef). y.tys (types a l)) (c.in_ok-push.ensures.items ∙ ap (λ (l : List TypeRef). l ++ of ∷ []) c.new-required.ensures.items)
    ∙ ap (λ (z : Ty). cons z nil) c.in_ok-annotated_type.ensures)
    (ap (λ (l : List TypeRef). y.tys (types a l)) c.new.ensures.items)
    (ap (λ (l : List NamedType). named_types a l) c.new-2.ensures.items)
