use Rattle.std.proofs.Common.{Option}
use Rattle.dart_ir.specs.declared.number.MemberId.{MemberId}
use Rattle.dart_type.specs.Member.{IsFirstMember}
use Rattle.dart_type.proofs.Chain.{FirstFrom, Listed, height}
use Rattle.dart_type.proofs.member.member.Given as goal

abbrev pub invariant-loop-next : goal.invariant-loop-next
invariant-loop-next l =
    record {
      listed : Listed l.classes l.next;
      leads : (m : Option MemberId) → FirstFrom l.classes l.next l.name l.role m → IsFirstMember l.classes l.fn.class.0 l.name l.role m;
    }

abbrev pub decreases-loop-next : goal.decreases-loop-next
decreases-loop-next l = height l.next
