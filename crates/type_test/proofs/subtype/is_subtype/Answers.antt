use Rattle.std.proofs.Common.{sym, ◌∙◌}
use Rattle.dart_ir.specs.Ty.{ty}
use Rattle.type_test.proofs.Forms.{formed}
use Rattle.type_test.proofs.Decided.{test_says}
use Rattle.type_test.proofs.subtype.is_subtype.Goals as goal

pub is_subtype-requires-clause-t_formed : goal.is_subtype-requires-clause-t_formed
is_subtype-requires-clause-t_formed c = formed c.args.classes.now (ty c.args.t.now) (sym c.is_formed.ensures ∙ c.if-not-is_formed.false)

pub is_subtype-requires-clause-s_formed : goal.is_subtype-requires-clause-s_formed
is_subtype-requires-clause-s_formed c = formed c.args.classes.now (ty c.args.s.now) (sym c.is_formed-2.ensures ∙ c.if-not-is_formed-2.false)

pub returns : goal.returns
returns c =
    test_says c.args.classes.now c.requires.valid (ty c.args.t.now) (ty c.args.s.now) c.in_ok-holds.holds (sym c.is_formed.ensures ∙ c.if-not-is_formed.false)
    (sym c.is_formed-2.ensures ∙ c.if-not-is_formed-2.false) c.in_ok-holds.ensures
