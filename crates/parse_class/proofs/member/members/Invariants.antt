use Rattle.std.proofs.Common.{◌-◌}
use Rattle.parse_loop.specs.Lists.{SoFar}
use Rattle.parse_class.specs.Views.{members_of, members_at}
use Rattle.parse_class.proofs.Listing.{member_list}
use Rattle.parse_class.proofs.member.members.Given as goal

abbrev pub invariant-loop-turn : goal.invariant-loop-turn
invariant-loop-turn g l =
    SoFar (member_list l.depth l.class) l.depth (members_at l.depth l.class l.fn.cursor) (members_of l.found) l.highest
    (l._turn-end - l._turn) l.cursor
