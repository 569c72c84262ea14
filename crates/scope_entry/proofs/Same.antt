-- The imports and exports of a library, whatever its number and its lists are called.
use Rattle.std.proofs.Common.{◌≡◌, ℕ, List, map, slice_get, subst}
use Rattle.std.specs.List.{AllZip}
use Rattle.dart_tree.specs.declared.unit.Unit.{Unit}
use Rattle.dart_tree.specs.UnitView as uv
use Rattle.scope_declared.specs.Number.{number_of}
use Rattle.scope_library.specs.declared.library.Edge.{Edge}
use Rattle.scope_space.specs.declared.library.Import.{Import}
use Rattle.scope_space.specs.declared.library.Export.{Export}
use Rattle.scope_entry.specs.Directives.{IsImport, IsExport}

module _ (names : List (List ℕ)) (at n n2 : ℕ) (us us2 : List Unit) (es es2 : List Edge) (number : n ≡ n2) (units : us ≡ us2) (edges : es ≡ es2) where
  pub imports_of : (made : List Import) → AllZip (IsImport (number_of names n) (slice_get (map uv.unit us) at)) es made
      → AllZip (IsImport (number_of names n2) (slice_get (map uv.unit us2) at)) es2 made
  imports_of made are =
      let P : ℕ → Type 0 = λ n. AllZip (IsImport (number_of names n) (slice_get (map uv.unit us2) at)) es2 made in
      let Q : List Unit → Type 0 = λ us. AllZip (IsImport (number_of names n) (slice_get (map uv.unit us) at)) es2 made in
      let R : List Edge → Type 0 = λ es. AllZip (IsImport (number_of names n) (slice_get (map uv.unit us) at)) es made in
      subst P number (subst Q units (subst R edges are))

  pub exports_of : (made : List Export) → AllZip (IsExport (number_of names n) (slice_get (map uv.unit us) at)) es made
      → AllZip (IsExport (number_of names n2) (slice_get (map uv.unit us2) at)) es2 made
  exports_of made are =
      let P : ℕ → Type 0 = λ n. AllZip (IsExport (number_of names n) (slice_get (map uv.unit us2) at)) es2 made in
      let Q : List Unit → Type 0 = λ us. AllZip (IsExport (number_of names n) (slice_get (map uv.unit us) at)) es2 made in
      let R : List Edge → Type 0 = λ es. AllZip (IsExport (number_of names n) (slice_get (map uv.unit us) at)) es made in
      subst P number (subst Q units (subst R edges are))
