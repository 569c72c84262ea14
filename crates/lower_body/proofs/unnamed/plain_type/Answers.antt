use Rattle.std.proofs.Common.{List, ap}
use Rattle.dart_ir.specs.Ty.{dynamic, nil, unnamed}
use Rattle.dart_ir.specs.declared.types.TypeRef.{TypeRef}
use Rattle.dart_ir.specs.declared.types.TypeRef as k
use Rattle.dart_ir.specs.declared.types.NamedType.{NamedType}
use Rattle.translation.specs.Types as y
use Rattle.lower_leaf.specs.Around.{types}
use Rattle.lower_leaf.specs.Kept.{named_types}
use Rattle.lower_body.proofs.Typed.{dynamic_seen, signature_of}
use Rattle.lower_body.proofs.unnamed.plain_type.Goals as goal

pub returns : goal.returns
returns g c =
    let a = g.S.Surroundings.around c.args.outside.now in
    signature_of a k.Dynamic c.new.result c.new-2.result c.new-3.result dynamic nil nil unnamed (dynamic_seen a)
    (ap (λ (l : List TypeRef). y.tys (types a l)) c.new.ensures.items) (ap (λ (l : List TypeRef). y.tys (types a l)) c.new-2.ensures.items)
    (ap (λ (l : List NamedType). named_types a l) c.new-3.ensures.items)
