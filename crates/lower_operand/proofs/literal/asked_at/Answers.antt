use Rattle.std.proofs.Common.{◌∙◌, sym, ap, List, slice_get}
use Rattle.dart_ir.specs.declared.types.TypeRef.{TypeRef}
use Rattle.lower_operand.proofs.Given.{kept, asked_none, asked_some}
use Rattle.lower_operand.proofs.literal.asked_at.Goals as goal

pub returns-in-None : goal.returns-in-None
returns-in-None g c = let a = g.S.Surroundings.around c.args.outside.now in
    c.unasked.ensures a ∙ sym (asked_none a c.args.index c.args.given.now.items
    (ap (λ (l : List TypeRef). slice_get l c.args.index) (sym c.deref.ensures.value) ∙ c.in-None.ensures))

pub returns-in_ok-clone_type-in-Some : goal.returns-in_ok-clone_type-in-Some
returns-in_ok-clone_type-in-Some g c = let a = g.S.Surroundings.around c.args.outside.now in
    ap kept c.in_ok-clone_type-in-Some.ensures ∙ sym (asked_some a c.args.index c.args.given.now.items c.in-Some.of.now
    (ap (λ (l : List TypeRef). slice_get l c.args.index) (sym c.deref.ensures.value) ∙ c.in-Some.ensures))
