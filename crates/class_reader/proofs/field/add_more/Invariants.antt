use Rattle.std.proofs.Common.{◌≡◌, ◌++◌, drop}
use Rattle.lower_leaf.specs.Seen.{seen, asked}
use Rattle.class_reader.specs.Seen.{all_members, more_members}
use Rattle.class_reader.proofs.field.add_more.Given as goal

abbrev pub invariant-loop-one : goal.invariant-loop-one
invariant-loop-one g l = let a = g.S.Surroundings.around l.outside in let number = g.P.Positions.numbers l.positions in
    all_members a l.found ++ more_members number (seen a l.state) l.final_one (asked a l.wanted) (drop l.one-index l.all.items)
    ≡ all_members a l.initial.found ++ more_members number (seen a l.state) l.final_one (asked a l.wanted) l.all.items
