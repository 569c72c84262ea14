use Rattle.dart_type.proofs.Chain.{member_here, member_above, height_falls, listed_above}
use Rattle.dart_type.proofs.member.member.Goals as goal

pub returns-in-Some-declared : goal.returns-in-Some-declared
returns-in-Some-declared c =
    c.loop-next.invariant.leads _
    (member_here c.args.classes.now c.requires.valid c.args.name c.args.role c.loop-next.next c.in-Some.c c.in-Some.is c.loop-next.invariant.listed c.index-info.result.now c.index-info.ensures
    c.deref.result.now c.in-Some-declared.m c.in-Some-declared.ensures c.deref.ensures.value)

pub loop-next-smaller : goal.loop-next-smaller
loop-next-smaller c =
    height_falls c.args.classes.now c.requires.valid c.args.name c.args.role c.loop-next.next c.in-Some.c c.in-Some.is c.loop-next.invariant.listed c.index-info.result.now c.index-info.ensures
    c.superclass_of-next.result c.superclass_of-next.ensures

pub loop-next-preserved : goal.loop-next-preserved
loop-next-preserved c = record {
  listed =
      listed_above c.args.classes.now c.requires.valid c.args.name c.args.role c.loop-next.next c.in-Some.c c.in-Some.is c.loop-next.invariant.listed c.index-info.result.now c.index-info.ensures
      c.superclass_of-next.result c.superclass_of-next.ensures;
  leads = λ m h.
      c.loop-next.invariant.leads m
      (member_above c.args.classes.now c.requires.valid c.args.name c.args.role c.loop-next.next c.in-Some.c c.in-Some.is c.loop-next.invariant.listed c.index-info.result.now c.index-info.ensures
      c.deref.result.now c.superclass_of-next.result c.in_default-declared.ensures c.deref.ensures.value c.superclass_of-next.ensures m h);
}
