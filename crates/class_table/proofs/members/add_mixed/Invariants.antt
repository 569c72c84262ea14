use Rattle.std.proofs.Common.{map, take, option_map}
use Rattle.dart_ir.specs.Ty.{tys}
use Rattle.class_table.specs.Members.{mixed_in, descriptions, Adds}
use Rattle.class_table.proofs.members.add_mixed.Given as goal

abbrev pub invariant-loop-id : goal.invariant-loop-id
invariant-loop-id l = Adds l.fn.members.items l.members.items l.ids.items (map (option_map (mixed_in l.row (tys l.arguments))) (descriptions l.fn.members.items (take l.id-index l.mixin))) l.row
