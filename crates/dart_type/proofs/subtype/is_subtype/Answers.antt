use Rattle.dart_ir.specs.Ty.{ty}
use Rattle.dart_type.specs.Relation.{table_of}
use Rattle.dart_type.proofs.Closed.{subtype_says}
use Rattle.dart_type.proofs.subtype.is_subtype.Goals as goal

pub returns : goal.returns
returns c =
    subtype_says (table_of c.args.classes.now) c.args.classes.now c.new-nodes.result.items c.enter.new.nodes.items c.enter-2.new.nodes.items c.in_ok-i.i c.in_ok-j.j (ty c.args.t.now) (ty c.args.s.now) c.requires.t_formed c.requires.s_formed
    c.in_ok-i.ensures c.in_ok-j.ensures c.floor_of.new.nodes.items c.in_ok-low.low c.in_ok-low.ensures c.compare.result c.compare.ensures
