use Rattle.std.proofs.Common.{map, take, Some}
use Rattle.class_table.specs.Members.{declared_in, Adds}
use Rattle.class_table.proofs.members.add_declared.Given as goal

abbrev pub invariant-loop-member : goal.invariant-loop-member
invariant-loop-member l = Adds l.fn.members.items l.members.items l.ids.items (map (λ m. Some (declared_in l.draft.numbers.now l.draft.row m)) (take l.member-index l.declaration.members.items)) l.draft.row
