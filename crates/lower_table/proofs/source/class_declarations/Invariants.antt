use Rattle.std.proofs.Common.{◌≡◌, map, take}
use Rattle.scope_program.specs.declared.class.ClassScope.{ClassScope}
use Rattle.lower_table.specs.Rows.{class_declarations}
use Rattle.lower_table.proofs.source.class_declarations.Given as goal

abbrev pub invariant-loop-class : goal.invariant-loop-class
invariant-loop-class l = l.made.items ≡ class_declarations (map (λ (c : ClassScope). c.declaration) (take l.class-index l.classes))
