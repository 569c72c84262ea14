use Rattle.std.proofs.Common.{◌≡◌, ◌∙◌, List, IfOk, flat_map, map, ap, subst}
use Rattle.dart_tree.specs.Unit.{UnitTree}
use Rattle.dart_tree.specs.UnitView as view
use Rattle.scope_declared.specs.declared.declaration.Declared.{Declared}
use Rattle.scope_load.specs.State.{state_of}
use Rattle.scope_name.specs.Names.{all_names, kept_names, with_units}
use Rattle.scope_entry.specs.Entries.{entries, numbered}
use Rattle.scope_entry.specs.Kinds.{unit_kinds}
use Rattle.scope_entry.specs.Libraries.{AreLibraries}
use Rattle.scope_dictionary.specs.Names.{AreAllNames}
use Rattle.scope_dictionary.specs.declared.library.LibraryNames.{LibraryNames}
use Rattle.dart_scope.specs.Program.{all_declared}
use Rattle.scope_program.specs.Made.{AreScopesOf, scoping_of}
use Rattle.scope_program.specs.Program.{IsScoping, Scoping}
use Rattle.scope_program.specs.declared.program.ProgramScopes.{ProgramScopes}
use Rattle.scope_program.proofs.Programs.{if-ok, scoping-made}
use Rattle.scope_program.proofs.program.program_scopes.Goals as goal

pub returns : goal.returns
returns c =
    let state = state_of c.args.loaded.now in
    let kept = c.in_ok-kept.kept in
    let texts = c.in_ok-names.names in
    let homes = c.in_ok-homes.homes.items in
    let all = c.in_ok-numbered.numbered.items in
    let spaces = c.in_ok-spaces.spaces in
    let units : map view.unit c.as_slice-units.result.now ≡ state.units = ap (map view.unit) c.as_slice-units.ensures.value in
    let named : kept ≡ kept_names homes state.units =
    c.in_ok-kept.ensures ∙ ap (λ h. kept_names h (map view.unit c.as_slice-units.result.now)) c.deref.ensures.value ∙ ap (kept_names homes) units in
    let spelt : texts ≡ all_names homes state.units =
    c.in_ok-names.ensures ∙ ap (λ h. with_units kept h (map view.unit c.as_slice-units.result.now)) c.deref-4.ensures.value ∙ ap (with_units kept homes) units
    ∙ ap (λ t. with_units t homes state.units) named in
    let numbers : all ≡ numbered (all_declared kept homes state.units) =
    c.in_ok-numbered.ensures ∙ ap (λ h. numbered (all_declared kept h (map view.unit c.as_slice-units.result.now))) c.deref-2.ensures.value
    ∙ ap (λ (l : List UnitTree). numbered (all_declared kept homes l)) units in
    let are : AreLibraries kept (entries kept all (flat_map unit_kinds state.units)) state spaces =
    subst (λ (l : List Declared). AreLibraries kept (entries kept l (flat_map unit_kinds state.units)) state spaces) c.deref-3.ensures.value c.in_ok-spaces.ensures in
    let Made : List UnitTree → ProgramScopes → Type 0 = λ trees made. (libraries : List LibraryNames)
    × AreAllNames kept (record { libraries = spaces; numbered = all }) libraries × AreScopesOf (scoping_of kept texts homes all spaces libraries trees) made in
    let Means : ProgramScopes → Type 0 = λ made. (s : Scoping) × IsScoping state s × AreScopesOf s made in
    if-ok c.scopes_in.result (Made state.units) Means
    (λ made h. (scoping_of kept texts homes all spaces h.0 state.units, scoping-made state kept texts homes all spaces h.0 c.in_ok-homes.ensures named spelt numbers are h.1, h.2))
    (subst (λ (l : List UnitTree). IfOk c.scopes_in.result (Made l)) units c.scopes_in.ensures)
