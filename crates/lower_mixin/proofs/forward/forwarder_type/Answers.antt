use Rattle.dart_ir.specs.Ty.{dynamic}
use Rattle.dart_ir.specs.declared.types.TypeRef as k
use Rattle.lower_body.proofs.Typed.{dynamic_seen, signature_of}
use Rattle.lower_mixin.proofs.forward.forwarder_type.Goals as goal

pub returns : goal.returns
returns g c =
    let a = g.S.Surroundings.around c.args.outside.now in
    signature_of a k.Dynamic c.in_ok-required.required c.in_ok-optional.optional c.in_ok-named.named dynamic _ _ _ (dynamic_seen a)
    c.in_ok-required.ensures c.in_ok-optional.ensures c.in_ok-named.ensures
