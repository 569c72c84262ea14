use Rattle.std.proofs.Common.{◌∙◌, ◌==◌, List, map, slice_get, ap}
use Rattle.std.specs.List.{filter}
use Rattle.dart_tree.specs.declared.unit.Unit.{Unit}
use Rattle.dart_tree.specs.UnitView as uv
use Rattle.scope_load.specs.declared.units.UnitName.{UnitName}
use Rattle.scope_library.specs.Library.{number_of as library_number}
use Rattle.scope_space.specs.declared.declaration.Declaration.{Declaration}
use Rattle.scope_entry.specs.Entries.{declarations_of}
use Rattle.scope_entry.specs.Libraries.{is_dart_name}
use Rattle.scope_entry.proofs.Same.{imports_of, exports_of}
use Rattle.scope_entry.proofs.library.library.Goals as goal

pub returns : goal.returns
returns c =
    let of = c.args.of.now in
    let units = c.as_slice-units.ensures.value in
    let number = c.number_of-number.ensures.value ∙ ap (λ (us : List Unit). library_number (map uv.unit us) of.unit) units in
    record {
      dart = c.is_dart.ensures ∙ ap (λ (names : List UnitName). is_dart_name (slice_get names of.unit)) c.as_slice-unit_names.ensures.value;
      declarations = λ name. c.in_ok-declarations.ensures name
          ∙ ap (filter (λ (d : Declaration). d.name.0 == name)) (c.in_ok-declared.ensures ∙ ap (declarations_of c.args.entries.now) number);
      imports = imports_of c.args.names.now of.unit _ _ _ _ _ _ number units c.as_slice-imported.ensures.value c.in_ok-imports.imports.items c.in_ok-imports.ensures;
      exports = exports_of c.args.names.now of.unit _ _ _ _ _ _ number units c.as_slice-exported.ensures.value c.in_ok-exports.exports.items c.in_ok-exports.ensures;
    }
