use Rattle.class_table.specs.Rows.{IsTable}
use Rattle.class_table.specs.Members.{AreMembers}
use Rattle.class_table.proofs.table.classes_of.Given as goal

abbrev pub invariant-loop-c : goal.invariant-loop-c
invariant-loop-c l = record {
  table : IsTable l.program l.numbers l.rows l.c l.classes.items;
  members : AreMembers l.program l.numbers l.rows l.c l.classes.items l.members.items;
}
