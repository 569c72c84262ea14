use Rattle.dart_ir.specs.Ty.{ty}
use Rattle.dart_type.specs.Relation.{table_of}
use Rattle.dart_type.proofs.Closed.{assignable_to, assignable_from}
use Rattle.dart_type.proofs.subtype.assignable.Goals as goal

pub returns-then-branch : goal.returns-then-branch
returns-then-branch c = assignable_to (table_of c.args.classes.now) (ty c.args.t.now) (ty c.args.s.now) c.in_ok-is_subtype.field-0 c.if-branch.true c.in_ok-is_subtype.ensures

pub returns : goal.returns
returns c =
    assignable_from (table_of c.args.classes.now) (ty c.args.t.now) (ty c.args.s.now) c.in_ok-is_subtype.field-0 c.in_ok-back.back c.if-branch.false c.in_ok-is_subtype.ensures c.in_ok-back.ensures
