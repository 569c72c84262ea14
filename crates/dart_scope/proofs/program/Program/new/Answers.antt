use Rattle.std.proofs.Common.{◌∙◌, List, map, flat_map, ap, subst}
use Rattle.dart_tree.specs.declared.unit.Unit.{Unit}
use Rattle.dart_tree.specs.UnitView as view
use Rattle.scope_declared.specs.declared.declaration.Declared.{Declared}
use Rattle.scope_load.specs.State.{state_of}
use Rattle.scope_entry.specs.Entries.{entries, numbered}
use Rattle.scope_entry.specs.Kinds.{unit_kinds}
use Rattle.scope_entry.specs.Libraries.{AreLibraries}
use Rattle.dart_scope.specs.Program.{AreUnits, all_declared}
use Rattle.dart_scope.proofs.program.Program.new.Goals as goal

pub returns : goal.returns
returns c =
    let names = c.args.names.now in
    let homes = c.args.homes.now in
    let state = state_of c.args.loaded.now in
    let trees = c.as_slice-trees.ensures.value in
    let P : List Unit → Type 0 = λ units. AreUnits names homes (map view.unit units) c.in_ok-units.units.items in
    let Q : List Declared → Type 0 = λ some. AreLibraries names (entries names some (flat_map unit_kinds state.units)) state c.in_ok-spaces.spaces in
    record {
      units = subst P trees c.in_ok-units.ensures;
      numbered = c.in_ok-numbered.ensures ∙ ap (λ (units : List Unit). numbered (all_declared names homes (map view.unit units))) trees;
      libraries = subst Q c.as_slice-declared.ensures.value c.in_ok-spaces.ensures;
    }
