-- Declarations and units, one after another.
use Rattle.std.proofs.Common.{List, map}
use Rattle.dart_tree.specs.UnitView as unit_view
use Rattle.dart_tree.specs.declared.declaration.Decl.{Decl}
use Rattle.translation.specs.ClassBodies.{ClassMade}
use Rattle.translation.specs.Program as p
use Rattle.translation.specs.Walk as w
use Rattle.lower_leaf.specs.Around.{Around}
use Rattle.lower_program.specs.Views.{library_outer, source_unit}
use Rattle.lower_program.specs.declared.declaration.SourceUnit.{SourceUnit}

abbrev pub declarations_of : List Decl → w.Walk (List ClassMade)
declarations_of all st = p.declarations (map unit_view.decl all) st

abbrev pub declaration_of : Decl → w.Walk (List ClassMade)
declaration_of x st = p.declaration (unit_view.decl_kind x.kind) st

abbrev pub units_of : Around → List SourceUnit → w.Walk (List ClassMade)
units_of a all st = p.units (map (source_unit a) all) st

abbrev pub unit_of : Around → SourceUnit → w.Walk (List ClassMade)
unit_of a x st = p.declarations (map unit_view.decl x.declarations.now.items) (record st { names = a.names (library_outer x.library) })
