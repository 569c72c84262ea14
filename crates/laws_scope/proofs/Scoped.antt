-- What the names of a loaded program mean under a table of names is one thing, and so it is under the table that its units spell.
use Rattle.std.proofs.Common.{◌≡◌, ◌∙◌, ℕ, List, Option, find, option_map, flat_map, codes, refl, sym, ap, subst}
use Rattle.std.specs.List.{AllZip}
use Rattle.scope_declared.specs.Number.{number_in}
use Rattle.scope_declared.specs.declared.declaration.Declared.{Declared}
use Rattle.scope_load.specs.State.{State}
use Rattle.scope_library.specs.Library.{homes_of}
use Rattle.scope_name.specs.Names.{all_names, kept_names}
use Rattle.scope_entry.specs.declared.entry.Entry.{Entry}
use Rattle.scope_entry.specs.Kinds.{unit_kinds}
use Rattle.scope_entry.specs.Entries.{numbered, entries}
use Rattle.scope_entry.specs.Libraries.{AreLibraries}
use Rattle.scope_space.specs.declared.declaration.Declaration.{Declaration}
use Rattle.scope_space.specs.Entry.{can_start}
use Rattle.dart_scope.specs.Program.{all_declared}
use Rattle.translation.specs.Surroundings.{Text}
use Rattle.scope_program.specs.Classes.{ClassScope, class_scopes}
use Rattle.scope_program.specs.Program.{Scoping, AreScopes, IsScoping}
use Rattle.laws_scope.specs.Under.{IsScopingUnder}
use Rattle.laws_scope.proofs.Alike.{AreAlike, are_alike}
use Rattle.laws_scope.proofs.Over.{own_over}
use Rattle.laws_scope.proofs.Named.{scopes_same}

module _ (table all : List Text) (state : State) where
  -- the declarations of the program that have numbers, and those of its libraries
  abbrev numbers : List Declared
  numbers = numbered (all_declared table (homes_of state) state.units)

  abbrev declared : List Declared → List Entry
  declared n = entries table n (flat_map unit_kinds state.units)

  -- the libraries and the names of a scoping, by the declarations of the program itself
  spaces_are : (s : Scoping) (is : IsScopingUnder table all state s) → AreLibraries table (declared numbers) state is.spaces
  spaces_are s is = subst (λ (n : List Declared). AreLibraries table (declared n) state is.spaces) is.numbered is.are_libraries

  names_are : (s : Scoping) (is : IsScopingUnder table all state s) → AreScopes table (record { libraries = is.spaces; numbered = numbers }) s.libraries
  names_are s is = subst (λ (n : List Declared). AreScopes table (record { libraries = is.spaces; numbered = n }) s.libraries) is.numbered is.names

  alike_spaces : (s other : Scoping) (is : IsScopingUnder table all state s) (has : IsScopingUnder table all state other) → AllZip AreAlike is.spaces has.spaces
  alike_spaces s other is has = are_alike table (declared numbers) state is.spaces has.spaces (spaces_are s is) (spaces_are other has)

  -- the function by which a program starts, of the declarations of that name
  abbrev start : List Declaration → Option ℕ
  start found = option_map (λ d. d.number) (find (λ d. can_start d.kind) found)

  main_same : (s other : Scoping) → IsScopingUnder table all state s → IsScopingUnder table all state other → other.main ≡ s.main
  main_same s other is has = has.main ∙ ap start (own_over is.spaces has.spaces (alike_spaces s other is has) 0 (number_in table (codes "main"))) ∙ sym is.main

  libraries_same : (s other : Scoping) → IsScopingUnder table all state s → IsScopingUnder table all state other → other.libraries ≡ s.libraries
  libraries_same s other is has =
      let alike = alike_spaces s other is has in
      let turned = alike_spaces other s has is in
      scopes_same is.spaces has.spaces alike turned numbers table s.libraries other.libraries (names_are s is) (names_are other has)

  pub one_under : (s other : Scoping) → IsScopingUnder table all state s → IsScopingUnder table all state other → other ≡ s
  one_under s other is has =
      let same_numbered = has.numbered ∙ sym is.numbered in
      let classes : List Declared → List ClassScope = λ n. class_scopes n (homes_of state) state.units in
      let same_classes = has.classes ∙ ap classes same_numbered ∙ sym is.classes in
      λ i. record {
        kept = (has.kept ∙ sym is.kept) i;
        texts = (has.texts ∙ sym is.texts) i;
        homes = (has.homes ∙ sym is.homes) i;
        numbered = same_numbered i;
        libraries = libraries_same s other is has i;
        classes = same_classes i;
        core = (has.core ∙ sym is.core) i;
        main = main_same s other is has i;
      }

module _ (state : State) where
  -- a scoping of a program is one under its own tables, which are those that the units spell
  pub under : (s : Scoping) → IsScoping state s → IsScopingUnder s.kept s.texts state s
  under s is = record {
    kept = refl;
    texts = refl;
    homes = is.homes;
    numbered = is.numbered;
    spaces = is.spaces;
    are_libraries = is.are_libraries;
    names = is.names;
    classes = is.classes;
    core = is.core;
    main = is.main;
  }

  under_spelt : (s : Scoping) → IsScoping state s → IsScopingUnder (kept_names (homes_of state) state.units) (all_names (homes_of state) state.units) state s
  under_spelt s is = subst (λ (table : List Text). IsScopingUnder table (all_names (homes_of state) state.units) state s) is.kept
      (subst (λ (spelt : List Text). IsScopingUnder s.kept spelt state s) is.texts (under s is))

  -- what the names of the program mean is one thing
  pub one_scoping : (s other : Scoping) → IsScoping state s → IsScoping state other → other ≡ s
  one_scoping s other is has =
      one_under (kept_names (homes_of state) state.units) (all_names (homes_of state) state.units) state s other (under_spelt s is) (under_spelt other has)
