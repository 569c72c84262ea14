use Rattle.dart_ir.specs.Ty.{ty}
use Rattle.dart_type.specs.Relation.{table_of}
use Rattle.dart_type.proofs.Closed.{specific_says}
use Rattle.dart_type.proofs.subtype.more_specific.Goals as goal

pub returns : goal.returns
returns c =
    specific_says (table_of c.args.classes.now) c.args.classes.now c.new-nodes.result.items c.enter.new.nodes.items c.enter-2.new.nodes.items c.in_ok-i.i c.in_ok-j.j (ty c.args.t.now) (ty c.args.s.now) c.requires.t_formed c.requires.s_formed
    c.in_ok-i.ensures c.in_ok-j.ensures c.compare.result c.compare.ensures
