use Rattle.std.proofs.Common.{◌≡◌, map, take}
use Rattle.scope_program.specs.declared.class.ClassScope.{ClassScope}
use Rattle.lower_table.proofs.source.mixed.Given as goal

abbrev pub invariant-loop-class : goal.invariant-loop-class
invariant-loop-class l = l.made.items ≡ map (λ (c : ClassScope). c.is_mixed) (take l.class-index l.classes)
