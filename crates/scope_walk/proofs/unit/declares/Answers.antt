use Rattle.std.proofs.Common.{List, ◌++◌, ◌∙◌, ap, map, flat_map}
use Rattle.dart_base.specs.declared.place.Place.{Place}
use Rattle.dart_tree.specs.UnitView as uv
use Rattle.scope_declared.specs.declared.declaration.Declared.{Declared}
use Rattle.scope_declared.specs.Making.{nowhere}
use Rattle.scope_declared.specs.Number.{number_of}
use Rattle.scope_declared.specs.UnitDeclared.{decl_declares, unit_declares}
use Rattle.scope_walk.specs.Walk.{numbering}
use Rattle.scope_walk.proofs.unit.declares.Goals as goal

pub returns : goal.returns
unfolding unit_declares numbering
returns c =
    c.in_ok-decls.ensures
    ∙ ap (λ (xs : List Declared). xs ++ flat_map (decl_declares (number_of c.args.names.now c.args.library) (nowhere c.library_place-scope.result)) (map uv.decl c.args.unit.now.declarations.items)) c.new-found.ensures.items
    ∙ ap (λ (p : Place). flat_map (decl_declares (number_of c.args.names.now c.args.library) (nowhere p)) (map uv.decl c.args.unit.now.declarations.items)) c.library_place-scope.ensures
