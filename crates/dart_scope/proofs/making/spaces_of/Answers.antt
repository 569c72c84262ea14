use Rattle.std.proofs.Common.{◌∙◌, ◌≤◌, List, length, map, flat_map, sym, ap, subst, arith}
use Rattle.std.proofs.lemmas.List.{length-map}
use Rattle.std.proofs.lemmas.Slice.Zip.{AllZip-long}
use Rattle.dart_tree.specs.declared.unit.Unit.{Unit}
use Rattle.dart_tree.specs.UnitView as view
use Rattle.scope_load.specs.State.{state_of}
use Rattle.scope_library.specs.Library.{libraries_of}
use Rattle.scope_space.specs.declared.library.Library.{Library}
use Rattle.scope_entry.specs.declared.entry.Entry.{Entry}
use Rattle.scope_entry.specs.Entries.{entries}
use Rattle.scope_entry.specs.Kinds.{unit_kinds}
use Rattle.scope_entry.specs.Libraries.{AreLibraries, IsLibrary}
use Rattle.dart_scope.proofs.Few.{few_libraries}
use Rattle.dart_scope.proofs.making.spaces_of.Goals as goal

pub new-requires : goal.new-requires
new-requires c =
    let units = c.args.loaded.now.units.items in
    let state = state_of c.args.loaded.now in
    let made = c.in_ok-libraries.libraries in
    let long = AllZip-long (IsLibrary c.args.names.now c.as_slice-declared.result.now state) (libraries_of state) made.items c.in_ok-libraries.ensures in
    let few : length (libraries_of state) ≤ length (map view.unit units) = few_libraries state 0 state.units in
    omega (arith, long, few, length-map units view.unit, made.ok, c.requires.units)

pub returns : goal.returns
returns c =
    let names = c.args.names.now in
    let numbered = c.args.numbered.now in
    let state = state_of c.args.loaded.now in
    let all = entries names numbered (flat_map unit_kinds (map view.unit c.args.loaded.now.units.items)) in
    let same = c.as_slice-declared.ensures.value ∙ c.in_ok-all.ensures
    ∙ ap (entries names numbered) (c.as_slice-listed.ensures.value ∙ c.in_ok-kinds.ensures
    ∙ ap (λ (units : List Unit). flat_map unit_kinds (map view.unit units)) c.as_slice-trees.ensures.value) in
    let P : List Entry → Type 0 = λ some. AreLibraries names some state c.in_ok-libraries.libraries.items in
    let Q : List Library → Type 0 = λ made. AreLibraries names all state made in
    subst Q (sym c.in_ok-spaces.ensures) (subst P same c.in_ok-libraries.ensures)
