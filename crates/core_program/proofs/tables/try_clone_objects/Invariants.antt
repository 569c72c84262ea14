use Rattle.std.proofs.Common.{◌≡◌, map, take}
use Rattle.dart_ir.specs.Object.{heap_object}
use Rattle.core_program.proofs.tables.try_clone_objects.Given as goal

abbrev pub invariant-loop-one : goal.invariant-loop-one
invariant-loop-one l = map heap_object l.copies.items ≡ map heap_object (take l.one-index l.objects)
