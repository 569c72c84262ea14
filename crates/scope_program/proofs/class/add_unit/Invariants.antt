use Rattle.std.proofs.Common.{◌++◌, List, map, take}
use Rattle.dart_tree.specs.UnitView as view
use Rattle.scope_program.specs.Classes.{ClassScope, unit_scopes}
use Rattle.scope_program.specs.Made.{AreClassesOf}
use Rattle.scope_program.proofs.class.add_unit.Given as goal

-- the scopes of the classes of the first declarations
abbrev pub invariant-loop-one : goal.invariant-loop-one
invariant-loop-one l = (before : List ClassScope) → AreClassesOf l.declarations.names.now l.declarations.numbered.now before l.initial.made.items
    → AreClassesOf l.declarations.names.now l.declarations.numbered.now
    (before ++ unit_scopes l.declarations.numbered.now l.library (map view.decl (take l.one-index l.all.items))) l.made.items
