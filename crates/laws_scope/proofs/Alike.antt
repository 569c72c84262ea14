-- Libraries that make the same namespaces: they have the same declarations of each name, and imports and exports that lead to the same
-- libraries and let the same names through.
use Rattle.std.proofs.Common.{◌≡◌, ◌∙◌, ℕ, zero, suc, Bool, not, List, [], ◌∷◌, Option, Some, None, slice_get, refl, sym, ap, subst}
use Rattle.std.specs.Bool.{⊤}
use Rattle.std.specs.List.{AllZip, filter, list_any}
use Rattle.std.proofs.lemmas.Option.{none-some, same_Some}
use Rattle.dart_tree.specs.Unit.{UnitTree}
use Rattle.scope_declared.specs.Number.{number_of}
use Rattle.scope_load.specs.State.{State}
use Rattle.scope_library.specs.declared.library.Edge.{Edge}
use Rattle.scope_library.specs.Library.{LibraryIs, libraries_of, number_of as library_number}
use Rattle.scope_space.specs.declared.declaration.Declaration.{Declaration}
use Rattle.scope_space.specs.declared.library.Import.{Import}
use Rattle.scope_space.specs.declared.library.Export.{Export}
use Rattle.scope_space.specs.declared.library.Library.{Library}
use Rattle.scope_space.specs.Library.{is_named, declares, shares, passes}
use Rattle.scope_space.specs.Namespace.{is_dart_in, own_in, declares_in, is_prefix, has_prefix}
use Rattle.scope_space.proofs.Parts.{any_filter}
use Rattle.scope_entry.specs.declared.entry.Entry.{Entry}
use Rattle.scope_entry.specs.Directives.{IsImport, IsExport}
use Rattle.scope_entry.specs.Libraries.{IsLibrary, AreLibraries}
use Rattle.laws_scope.proofs.Lists.{joined, any_together, same_any}

-- imports that lead to the same library under the same prefix, and let the same names through
pub record AreAlikeImports (x y : Import) : Type 0 where
  pub target : y.target ≡ x.target
  pub prefix : y.prefix ≡ x.prefix
  pub through : (name : ℕ) → passes name y.combinators.items ≡ passes name x.combinators.items

-- exports that lead to the same library, and let the same names through
pub record AreAlikeExports (x y : Export) : Type 0 where
  pub target : y.target ≡ x.target
  pub through : (name : ℕ) → passes name y.combinators.items ≡ passes name x.combinators.items

-- libraries that declare the same under each name, and whose imports and exports are alike in turn
pub record AreAlike (x y : Library) : Type 0 where
  pub dart : y.is_dart ≡ x.is_dart
  pub declarations : (name : ℕ) → filter (is_named name) y.declarations ≡ filter (is_named name) x.declarations
  pub imports : AllZip AreAlikeImports x.imports.items y.imports.items
  pub exports : AllZip AreAlikeExports x.exports.items y.exports.items

-- ---- what the same directives and declarations make

module _ (number : List ℕ → ℕ) (unit : Option UnitTree) where
  alike_imports : (edge : Edge) (x y : Import) → IsImport number unit edge x → IsImport number unit edge y → AreAlikeImports x y
  alike_imports edge x y h k = record {
    target = k.target ∙ sym h.target;
    prefix = k.prefix ∙ sym h.prefix;
    through = λ name. k.through name ∙ sym (h.through name);
  }

  alike_exports : (edge : Edge) (x y : Export) → IsExport number unit edge x → IsExport number unit edge y → AreAlikeExports x y
  alike_exports edge x y h k = record {
    target = k.target ∙ sym h.target;
    through = λ name. k.through name ∙ sym (h.through name);
  }

module _ (names : List (List ℕ)) (entries : List Entry) (state : State) where
  alike : (of : LibraryIs) (x y : Library) → IsLibrary names entries state of x → IsLibrary names entries state of y → AreAlike x y
  alike of x y h k =
      let number : List ℕ → ℕ = number_of names (library_number state.units of.unit) in
      let unit : Option UnitTree = slice_get state.units of.unit in
      record {
        dart = k.dart ∙ sym h.dart;
        declarations = λ name. k.declarations name ∙ sym (h.declarations name);
        imports = joined (IsImport number unit) AreAlikeImports (alike_imports number unit) of.imports x.imports.items y.imports.items
            h.imports k.imports;
        exports = joined (IsExport number unit) AreAlikeExports (alike_exports number unit) of.exports x.exports.items y.exports.items
            h.exports k.exports;
      }

  -- the libraries of one program are alike
  pub are_alike : (xs ys : List Library) → AreLibraries names entries state xs → AreLibraries names entries state ys → AllZip AreAlike xs ys
  are_alike xs ys h k = joined (IsLibrary names entries state) AreAlike alike (libraries_of state) xs ys h k

-- ---- what alike libraries have the same

pub same_shares : (x y : Library) → AreAlike x y → (name : ℕ) → shares y name ≡ shares x name
same_shares x y a name =
    let is_public : Declaration → Bool = λ d. not d.is_private in
    sym (any_filter (is_named name) is_public y.declarations) ∙ ap (list_any is_public) (a.declarations name)
    ∙ any_filter (is_named name) is_public x.declarations

pub same_declares : (x y : Library) → AreAlike x y → (name : ℕ) → declares y name ≡ declares x name
same_declares x y a name = same_any (is_named name) x.declarations y.declarations (a.declarations name)

-- alike libraries, or none
abbrev pub AreAlikeAt : Option Library → Option Library → Type 0
AreAlikeAt None None = ⊤
AreAlikeAt None (Some y) = ⊥
AreAlikeAt (Some x) None = ⊥
AreAlikeAt (Some x) (Some y) = AreAlike x y

-- lists of alike libraries have alike ones at each place
pub alike_at : (xs ys : List Library) → AllZip AreAlike xs ys → (at : ℕ) → AreAlikeAt (slice_get xs at) (slice_get ys at)
alike_at [] [] h at = tt
alike_at [] (y ∷ ys) h at = absurd h
alike_at (x ∷ xs) [] h at = absurd h
alike_at (x ∷ xs) (y ∷ ys) h zero = h.0
alike_at (x ∷ xs) (y ∷ ys) h (suc at) = alike_at xs ys h.1 at

-- a library that is alike
pub record IsFound (y : Option Library) (x : Library) : Type 0 where
  pub library : Library
  pub is : y ≡ Some library
  pub alike : AreAlike x library

pub found : (at other : Option Library) (x : Library) → AreAlikeAt at other → at ≡ Some x → IsFound other x
found None other x h is = absurd (none-some x is)
found (Some z) None x h is = absurd h
found (Some z) (Some y) x h is = record { library = y; is = refl; alike = subst (λ (one : Library). AreAlike one y) (same_Some z x is) h }

pub same_dart : (at other : Option Library) → AreAlikeAt at other → is_dart_in other ≡ is_dart_in at
same_dart None None h = refl
same_dart None (Some y) h = absurd h
same_dart (Some x) None h = absurd h
same_dart (Some x) (Some y) h = h.dart

module _ (name : ℕ) where
  pub same_own : (at other : Option Library) → AreAlikeAt at other → own_in other name ≡ own_in at name
  same_own None None h = refl
  same_own None (Some y) h = absurd h
  same_own (Some x) None h = absurd h
  same_own (Some x) (Some y) h = h.declarations name

  pub same_declared : (at other : Option Library) → AreAlikeAt at other → declares_in other name ≡ declares_in at name
  same_declared None None h = refl
  same_declared None (Some y) h = absurd h
  same_declared (Some x) None h = absurd h
  same_declared (Some x) (Some y) h = same_declares x y h name

  pub same_prefix : (at other : Option Library) → AreAlikeAt at other → has_prefix other name ≡ has_prefix at name
  same_prefix None None h = refl
  same_prefix None (Some y) h = absurd h
  same_prefix (Some x) None h = absurd h
  same_prefix (Some x) (Some y) h = any_together AreAlikeImports (λ import. is_prefix name import.prefix)
      (λ import other alike. ap (is_prefix name) alike.prefix) x.imports.items y.imports.items h.imports
