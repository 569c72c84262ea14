use Rattle.scope_space.specs.Building.{AreHanded, Keeps}
use Rattle.scope_space.proofs.Entries.{AreListed}
use Rattle.scope_space.proofs.handed.hand_all.Given as goal

abbrev pub invariant-loop-declaration : goal.invariant-loop-declaration
invariant-loop-declaration l = record {
  are : AreHanded l.libraries l.handed.items;
  kept : Keeps l.fn.handed.items l.handed.items;
  listed : AreListed l.libraries l.declarations l.owner l.handed.items l.declaration-index;
}
