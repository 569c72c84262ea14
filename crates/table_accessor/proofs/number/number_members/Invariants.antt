use Rattle.std.proofs.Common.{◌≡◌, ◌++◌, drop, map, take}
use Rattle.core_program.specs.ProgramView as pv
use Rattle.table_accessor.specs.Numbered.{all_numbered, numbered_from}
use Rattle.table_accessor.proofs.number.number_members.Given as goal

-- the members that have their numbers, and those that are left with theirs, are all
abbrev pub invariant-loop-member : goal.invariant-loop-member
invariant-loop-member l = map pv.member (take l.member-index l.members) ++ numbered_from l.numbered l.starts l.row l.next (map pv.member (drop l.member-index l.members))
    ≡ all_numbered l.numbered l.starts (map pv.member l.fn.members)
