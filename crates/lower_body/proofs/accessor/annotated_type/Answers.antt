use Rattle.std.proofs.Common.{◌∙◌, sym, ap, Bool, cond, false}
use Rattle.dart_ir.specs.Ty.{dynamic}
use Rattle.lower_leaf.specs.Seen.{asked}
use Rattle.translation.specs.ClassBodies as b
use Rattle.translation.specs.Types as y
use Rattle.lower_body.proofs.Typed.{dynamic_seen, unannotated, nothing_asked}
use Rattle.lower_body.proofs.accessor.annotated_type.Goals as goal

pub returns-then-not-wanted : goal.returns-then-not-wanted
returns-then-not-wanted g c =
    let a = g.S.Surroundings.around c.args.outside.now in
    dynamic_seen a ∙ unannotated (asked a c.args.wanted.now) c.if-not-wanted.true

pub returns-in-None : goal.returns-in-None
returns-in-None g c =
    let a = g.S.Surroundings.around c.args.outside.now in
    dynamic_seen a ∙ nothing_asked a c.args.wanted.now c.in-None.is
