-- An erased program declares, imports and exports what the program does.
use Rattle.std.proofs.Common.{◌≡◌, refl, sym, ap, ◌∙◌, subst, ℕ, ◌+◌, ◌==◌, min, List, [], ◌∷◌, map, Option, None, Some}
use Rattle.std.specs.Prelude.{filter, slice_get}
use Rattle.std.specs.Option.{option_map}
use Rattle.std.specs.List.{AllZip}
use Rattle.dart_tree.specs.UnitView.{maybe}
use Rattle.dart_tree.specs.Tree as t
use Rattle.dart_tree.specs.Unit as u
use Rattle.dart_erase.specs.Erased as erased
use Rattle.dart_erase.specs.UnitErased as of_unit
use Rattle.scope_declared.specs.Number.{number_of}
use Rattle.scope_load.specs.State.{State}
use Rattle.scope_library.specs.declared.library.Edge.{Edge}
use Rattle.scope_library.specs.Library.{LibraryIs, libraries_of, number_of as library_number}
use Rattle.scope_space.specs.declared.declaration.Kind.TheVariants as k
use Rattle.scope_space.specs.declared.library.Import.{Import}
use Rattle.scope_space.specs.declared.library.Export.{Export}
use Rattle.scope_space.specs.declared.library.Library.{Library}
use Rattle.scope_entry.specs.declared.entry.Entry.{Entry}
use Rattle.scope_entry.specs.Entries.{declarations_of}
use Rattle.scope_entry.specs.Kinds.{parameter_count, required, function_kind, accessor_kind, more_kinds, variable_kinds, decl_kinds, unit_kinds}
use Rattle.scope_entry.specs.Directives.{directive_kind_in, directive_kind_of, combinators_in, prefix_in, written_passes, IsImport, IsExport}
use Rattle.scope_entry.specs.Libraries.{IsLibrary, AreLibraries}
use Rattle.laws_annotation.specs.Erased.{erased_state}
use Rattle.laws_annotation.proofs.Mapped.{flat_same, get_mapped, zip_to}
use Rattle.laws_annotation.proofs.Libraries.{number_same, libraries_same}

-- ---- the kinds of what is declared

count_same : (x : t.ParameterList) → parameter_count (erased.parameter_list x) ≡ parameter_count x
unfolding erased.parameter_list
count_same t.no_parameters = refl
count_same (t.parameter x rest) = λ i. count_same rest i + 1

required_same : (x : t.Parameters) → required (erased.parameters x) ≡ required x
unfolding erased.parameters
required_same (t.the_parameters opening positional brackets optional closing) = λ i. min (count_same positional i) 4294967295

function_kind_same : (x : t.Function) → function_kind (erased.function x) ≡ function_kind x
unfolding erased.function
function_kind_same (t.the_function external result_type name given inner) = λ i. k.Function (required_same given i)

accessor_kind_same : (x : u.AccessorKind) → accessor_kind (of_unit.accessor_kind x) ≡ accessor_kind x
accessor_kind_same (u.getter word name) = refl
accessor_kind_same (u.setter word name given) = refl

more_kinds_same : (x : t.MoreVariables) → more_kinds (erased.more_variables x) ≡ more_kinds x
unfolding erased.more_variables
more_kinds_same t.no_variables = refl
more_kinds_same (t.variable comma name value rest) = λ i. k.Variable ∷ more_kinds_same rest i

variable_kinds_same : (x : t.Variables) → variable_kinds (erased.variables x) ≡ variable_kinds x
unfolding erased.variables
variable_kinds_same (t.the_variables kind name value more semicolon) = λ i. k.Variable ∷ more_kinds_same more i

decl_kinds_same : (x : u.DeclKind) → decl_kinds (of_unit.decl_kind x) ≡ decl_kinds x
decl_kinds_same (u.class_decl x) = refl
decl_kinds_same (u.alias_decl x) = refl
decl_kinds_same (u.function_decl x) = λ i. function_kind_same x i ∷ []
decl_kinds_same (u.accessor_decl x) = λ i. accessor_kind_same x.kind i ∷ []
decl_kinds_same (u.variables_decl x) = variable_kinds_same x
decl_kinds_same (u.enum_decl x) = refl

pub unit_kinds_same : (x : u.UnitTree) → unit_kinds (of_unit.unit x) ≡ unit_kinds x
unit_kinds_same x = flat_same of_unit.decl (λ (d : u.Decl). decl_kinds d.kind) (λ d. decl_kinds_same d.kind) x.declarations

-- ---- imports and exports

kind_read : (o : Option u.Directive) → option_map (λ (x : u.Directive). x.kind) (maybe of_unit.directive o) ≡ maybe of_unit.directive_kind (option_map (λ (x : u.Directive). x.kind) o)
kind_read None = refl
kind_read (Some x) = refl

kind_in_same : (o : Option u.UnitTree) (number : ℕ) → directive_kind_in (maybe of_unit.unit o) number ≡ maybe of_unit.directive_kind (directive_kind_in o number)
kind_in_same None number = refl
kind_in_same (Some x) number = ap (option_map (λ (d : u.Directive). d.kind)) (get_mapped of_unit.directive x.directives number) ∙ kind_read (slice_get x.directives number)

kind_of_same : (o : Option u.UnitTree) (number : Option ℕ) → directive_kind_of (maybe of_unit.unit o) number ≡ maybe of_unit.directive_kind (directive_kind_of o number)
kind_of_same o None = refl
kind_of_same o (Some number) = kind_in_same o number

combinators_same : (o : Option u.DirectiveKind) → combinators_in (maybe of_unit.directive_kind o) ≡ combinators_in o
combinators_same None = refl
combinators_same (Some (u.part_of_directive word of_word name more)) = refl
combinators_same (Some (u.library_directive word name more)) = refl
combinators_same (Some (u.import_directive word uri prefix combinators)) = refl
combinators_same (Some (u.export_directive word uri combinators)) = refl
combinators_same (Some (u.part_directive word uri)) = refl

module _ (n : List ℕ → ℕ) where
  prefix_same : (o : Option u.DirectiveKind) → prefix_in n (maybe of_unit.directive_kind o) ≡ prefix_in n o
  prefix_same None = refl
  prefix_same (Some (u.part_of_directive word of_word name more)) = refl
  prefix_same (Some (u.library_directive word name more)) = refl
  prefix_same (Some (u.import_directive word uri prefix combinators)) = refl
  prefix_same (Some (u.export_directive word uri combinators)) = refl
  prefix_same (Some (u.part_directive word uri)) = refl

  prefix_of_same : (o : Option u.UnitTree) (edge : Edge) → prefix_in n (directive_kind_of (maybe of_unit.unit o) edge.directive) ≡ prefix_in n (directive_kind_of o edge.directive)
  prefix_of_same o edge = ap (prefix_in n) (kind_of_same o edge.directive) ∙ prefix_same (directive_kind_of o edge.directive)

  passes_same : (o : Option u.UnitTree) (edge : Edge) (name : ℕ) → written_passes n name (combinators_in (directive_kind_of (maybe of_unit.unit o) edge.directive))
      ≡ written_passes n name (combinators_in (directive_kind_of o edge.directive))
  passes_same o edge name = ap (written_passes n name) (ap combinators_in (kind_of_same o edge.directive) ∙ combinators_same (directive_kind_of o edge.directive))

  import_goes : (o : Option u.UnitTree) (edge : Edge) (import : Import) → IsImport n o edge import → IsImport n (maybe of_unit.unit o) edge import
  import_goes o edge import h = record {
    target = h.target;
    prefix = h.prefix ∙ sym (prefix_of_same o edge);
    through = λ name. h.through name ∙ sym (passes_same o edge name);
  }

  export_goes : (o : Option u.UnitTree) (edge : Edge) (export : Export) → IsExport n o edge export → IsExport n (maybe of_unit.unit o) edge export
  export_goes o edge export h = record {
    target = h.target;
    through = λ name. h.through name ∙ sym (passes_same o edge name);
  }

-- ---- libraries

module _ (names : List (List ℕ)) (entries : List Entry) (state : State) where
  -- of the same unit, and named by the same library
  same_unit : (P : ℕ → Option u.UnitTree → Type 0) (at : ℕ) → P (library_number state.units at) (maybe of_unit.unit (slice_get state.units at))
      → P (library_number (erased_state state).units at) (slice_get (erased_state state).units at)
  same_unit P at h =
      subst (λ (o : Option u.UnitTree). P (library_number (map of_unit.unit state.units) at) o) (sym (get_mapped of_unit.unit state.units at))
      (subst (λ (m : ℕ). P m (maybe of_unit.unit (slice_get state.units at))) (sym (number_same state.units at)) h)

  library_goes : (of : LibraryIs) (library : Library) → IsLibrary names entries state of library → IsLibrary names entries (erased_state state) of library
  library_goes of library h =
      let at : ℕ = library_number state.units of.unit in
      let o : Option u.UnitTree = slice_get state.units of.unit in
      record {
        dart = h.dart;
        declarations = λ name. h.declarations name ∙ ap (λ (m : ℕ). filter (λ d. d.name.0 == name) (declarations_of entries m)) (sym (number_same state.units of.unit));
        imports = same_unit (λ m x. AllZip (IsImport (number_of names m) x) of.imports library.imports.items) of.unit
            (zip_to (IsImport (number_of names at) o) (IsImport (number_of names at) (maybe of_unit.unit o)) (import_goes (number_of names at) o) of.imports library.imports.items h.imports);
        exports = same_unit (λ m x. AllZip (IsExport (number_of names m) x) of.exports library.exports.items) of.unit
            (zip_to (IsExport (number_of names at) o) (IsExport (number_of names at) (maybe of_unit.unit o)) (export_goes (number_of names at) o) of.exports library.exports.items h.exports);
      }

  pub libraries_go : (libraries : List Library) → AreLibraries names entries state libraries → AreLibraries names entries (erased_state state) libraries
  libraries_go libraries h = subst (λ (all : List LibraryIs). AllZip (IsLibrary names entries (erased_state state)) all libraries) (sym (libraries_same state))
      (zip_to (IsLibrary names entries state) (IsLibrary names entries (erased_state state)) library_goes (libraries_of state) libraries h)
