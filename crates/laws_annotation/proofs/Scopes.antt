-- Names mean in an erased program what they mean in the program, and classes are looked up alike.
use Rattle.std.proofs.Common.{◌≡◌, refl, sym, ap, ◌∙◌, subst, ℕ, List, length, map, Option, None, Some}
use Rattle.std.specs.Prelude.{flat_map, slice_get, slice_index_or, bytes_eq, nat_eq, codes, unwrap_or, ◌&&◌, false}
use Rattle.std.specs.Option.{option_map_or}
use Rattle.dart_ir.specs.Ty.{dynamic}
use Rattle.dart_ir.specs.declared.number.ClassId.{ClassId}
use Rattle.dart_erase.specs.UnitErased as of_unit
use Rattle.dart_tree.specs.Unit.{UnitTree}
use Rattle.dart_tree.specs.UnitView.{maybe}
use Rattle.scope_load.specs.State.{State}
use Rattle.scope_library.specs.Library.{homes_of}
use Rattle.scope_library.specs.declared.library.TheConstants.{CORE_UNIT}
use Rattle.scope_entry.specs.Kinds.{unit_kinds}
use Rattle.scope_entry.specs.Entries.{numbered, entries}
use Rattle.scope_entry.specs.Libraries.{AreLibraries}
use Rattle.scope_name.specs.Names.{all_names, kept_names}
use Rattle.scope_space.specs.declared.declaration.Kind.{Kind}
use Rattle.scope_class.specs.Inside as inside
use Rattle.scope_class.specs.Constructors.{constructor_of}
use Rattle.dart_scope.specs.Program.{all_declared}
use Rattle.lower_leaf.specs.declared.meaning.Outer.{Outer}
use Rattle.translation.specs.Surroundings.{Text}
use Rattle.scope_program.specs.Classes.{ClassScope, class_called, class_scopes}
use Rattle.scope_program.specs.Program.{Scoping, IsScoping}
use Rattle.scope_program.specs.Around.{known_names, names_in, names_in_header, names_in_class, names_at, header_names_at, static_in, constructor_in, declared_tables, headers_around, members_around}
use Rattle.laws_annotation.specs.Erased.{erased_state, erased_class, erased_scoping}
use Rattle.laws_scope.specs.Under.{IsScopingUnder}
use Rattle.laws_scope.proofs.Absorbing.{all_erased, kept_erased}
use Rattle.laws_scope.proofs.Scoped.{one_under, under}
use Rattle.laws_annotation.proofs.Mapped.{length_same, get_mapped, position_same}
use Rattle.laws_annotation.proofs.Libraries.{homes_same}
use Rattle.laws_annotation.proofs.Entries.{libraries_go}
use Rattle.laws_annotation.proofs.Programs.{all_declared_same, kinds_same}
use Rattle.laws_annotation.proofs.Classes.{classes_same, makings_same}

-- ---- scopings

pub scoping_goes : (table all : List Text) (state : State) (s : Scoping) → IsScopingUnder table all state s
    → IsScopingUnder table all (erased_state state) (erased_scoping s)
scoping_goes table all state s h = record {
  kept = h.kept;
  texts = h.texts;
  homes = h.homes ∙ sym (homes_same state);
  numbered = h.numbered ∙ ap numbered (sym (all_declared_same table (homes_of state) state.units))
      ∙ ap (λ (homes : List ℕ). numbered (all_declared table homes (erased_state state).units)) (sym (homes_same state));
  spaces = h.spaces;
  are_libraries = subst (λ (kinds : List Kind). AreLibraries table (entries table s.numbered kinds) (erased_state state) h.spaces)
      (sym (kinds_same table state.units)) (libraries_go table (entries table s.numbered (flat_map unit_kinds state.units)) state h.spaces h.are_libraries);
  names = h.names;
  classes = ap (map erased_class) h.classes ∙ sym (classes_same s.numbered (homes_of state) state.units)
      ∙ ap (λ (homes : List ℕ). class_scopes s.numbered homes (erased_state state).units) (sym (homes_same state));
  core = h.core ∙ ap (λ (homes : List ℕ). slice_index_or homes CORE_UNIT 0) (sym (homes_same state));
  main = h.main;
}

pub program_goes : (state : State) (s : Scoping) → IsScoping state s → IsScopingUnder s.kept s.texts (erased_state state) (erased_scoping s)
program_goes state s h = scoping_goes s.kept s.texts state s (under state s h)

-- the erased program has a table of names of its own, which has the names that the units have without their annotations alone
pub own_scoping : (state : State) (s t : Scoping) → IsScoping state s → IsScoping (erased_state state) t → t ≡ record (erased_scoping s) { texts = s.kept }
own_scoping state s t is own =
    let h : IsScopingUnder s.kept s.texts (erased_state state) (erased_scoping s) = program_goes state s is in
    let units : List UnitTree = map of_unit.unit state.units in
    let kept : t.kept ≡ s.kept =
    own.kept ∙ ap (λ homes. kept_names homes units) (homes_same state) ∙ kept_erased (homes_of state) state.units ∙ sym is.kept in
    let texts : t.texts ≡ s.kept =
    own.texts ∙ ap (λ homes. all_names homes units) (homes_same state) ∙ all_erased (homes_of state) state.units ∙ sym is.kept in
    let shown : Scoping = record (erased_scoping s) { texts = s.kept } in
    let is_shown : IsScopingUnder s.kept s.kept (erased_state state) shown =
    record {
      kept = refl;
      texts = refl;
      homes = h.homes;
      numbered = h.numbered;
      spaces = h.spaces;
      are_libraries = h.are_libraries;
      names = h.names;
      classes = h.classes;
      core = h.core;
      main = h.main;
    } in
    let is_own : IsScopingUnder s.kept s.kept (erased_state state) t =
    subst (λ (names : List Text). IsScopingUnder names s.kept (erased_state state) t) kept
    (subst (λ (all : List Text). IsScopingUnder t.kept all (erased_state state) t) texts (under (erased_state state) t own)) in
    one_under s.kept s.kept (erased_state state) shown t is_shown is_own

-- ---- what is read of a scoping

module _ (s : Scoping) where
  count_same : length (erased_scoping s).classes ≡ length s.classes
  count_same = length_same erased_class s.classes

  in_header_same : (o : Option ClassScope) → names_in_header (erased_scoping s) (maybe erased_class o) ≡ names_in_header s o
  in_header_same None = refl
  in_header_same (Some c) = λ i. known_names (count_same i) (length c.parameters)
      (inside.header_names c.parameters (record (names_in s c.library) { library = c.library }))

  in_class_same : (o : Option ClassScope) → names_in_class (erased_scoping s) (maybe erased_class o) ≡ names_in_class s o
  in_class_same None = refl
  in_class_same (Some c) = λ i. known_names (count_same i) (length c.parameters)
      (inside.class_names s.kept s.numbered c.declaration c.parameters (record (names_in s c.library) { library = c.library }))

  static_same : (o : Option ClassScope) (name : Text) → static_in (erased_scoping s) (maybe erased_class o) name ≡ static_in s o name
  static_same None name = refl
  static_same (Some c) name = refl

  constructor_same : (o : Option ClassScope) (id : Text) → constructor_in (erased_scoping s) (maybe erased_class o) id ≡ constructor_in s o id
  constructor_same None id = refl
  constructor_same (Some c) id = λ i. constructor_of s.kept s.numbered c.declaration (makings_same c.members i) id

  parameters_same : (o : Option ClassScope) → option_map_or (λ (c : ClassScope). length c.parameters) (maybe erased_class o) 0 ≡ option_map_or (λ (c : ClassScope). length c.parameters) o 0
  parameters_same None = refl
  parameters_same (Some c) = refl

  bounded_same : (o : Option ClassScope) → option_map_or (λ (c : ClassScope). c.is_bounded) (maybe erased_class o) false ≡ option_map_or (λ (c : ClassScope). c.is_bounded) o false
  bounded_same None = refl
  bounded_same (Some c) = refl

  -- of class n
  pub header_at : (n : ℕ) → names_in_header (erased_scoping s) (slice_get (erased_scoping s).classes n) ≡ names_in_header s (slice_get s.classes n)
  header_at n = ap (names_in_header (erased_scoping s)) (get_mapped erased_class s.classes n) ∙ in_header_same (slice_get s.classes n)

  pub class_at : (n : ℕ) → names_in_class (erased_scoping s) (slice_get (erased_scoping s).classes n) ≡ names_in_class s (slice_get s.classes n)
  class_at n = ap (names_in_class (erased_scoping s)) (get_mapped erased_class s.classes n) ∙ in_class_same (slice_get s.classes n)

  pub static_at : (n : ℕ) (name : Text) → static_in (erased_scoping s) (slice_get (erased_scoping s).classes n) name ≡ static_in s (slice_get s.classes n) name
  static_at n name = ap (λ (o : Option ClassScope). static_in (erased_scoping s) o name) (get_mapped erased_class s.classes n) ∙ static_same (slice_get s.classes n) name

  pub constructor_at : (n : ℕ) (id : Text) → constructor_in (erased_scoping s) (slice_get (erased_scoping s).classes n) id ≡ constructor_in s (slice_get s.classes n) id
  constructor_at n id = ap (λ (o : Option ClassScope). constructor_in (erased_scoping s) o id) (get_mapped erased_class s.classes n) ∙ constructor_same (slice_get s.classes n) id

  parameters_at : (n : ℕ) → option_map_or (λ (c : ClassScope). length c.parameters) (slice_get (erased_scoping s).classes n) 0 ≡ option_map_or (λ (c : ClassScope). length c.parameters) (slice_get s.classes n) 0
  parameters_at n = ap (λ (o : Option ClassScope). option_map_or (λ (c : ClassScope). length c.parameters) o 0) (get_mapped erased_class s.classes n) ∙ parameters_same (slice_get s.classes n)

  bounded_at : (n : ℕ) → option_map_or (λ (c : ClassScope). c.is_bounded) (slice_get (erased_scoping s).classes n) false ≡ option_map_or (λ (c : ClassScope). c.is_bounded) (slice_get s.classes n) false
  bounded_at n = ap (λ (o : Option ClassScope). option_map_or (λ (c : ClassScope). c.is_bounded) o false) (get_mapped erased_class s.classes n) ∙ bounded_same (slice_get s.classes n)

  pub called_same : (library : ℕ) (name : Text) → class_called (erased_scoping s).classes library name ≡ class_called s.classes library name
  called_same library name = λ i. unwrap_or (position_same erased_class (λ (c : ClassScope). nat_eq c.library library && bytes_eq c.name name) (λ c. refl) s.classes i) (count_same i)

  pub at_same : (library : ℕ) (class : Option ClassId) → names_at (erased_scoping s) library class ≡ names_at s library class
  at_same library None = λ i. known_names (count_same i) 0 (names_in s library)
  at_same library (Some k) = class_at k.0

  header_names_same : (library : ℕ) (class : Option ClassId) → header_names_at (erased_scoping s) library class ≡ header_names_at s library class
  header_names_same library None = λ i. known_names (count_same i) 0 (names_in s library)
  header_names_same library (Some k) = header_at k.0

  pub tables_same : declared_tables (erased_scoping s) ≡ declared_tables s
  tables_same = λ i. record {
    parameters = λ n. parameters_at n i;
    is_bounded = λ n. bounded_at n i;
    superclass = λ n. None;
    first_field = λ n. 0;
    mixin = λ n. None;
    class_names = λ n. class_at n i;
    static = λ n name. static_at n name i;
    constructor = λ n id. constructor_at n id i;
    variable_type = λ n. None;
    alias_type = λ n given. dynamic;
    native = λ n. None;
    int_class = called_same s.core (codes "int") i;
    string_class = called_same s.core (codes "String") i;
    map_class = called_same s.core (codes "Map") i;
  }

  pub headers_same : headers_around (erased_scoping s) ≡ headers_around s
  headers_same = λ i. record {
    texts = s.texts;
    names = λ (outer : Outer). header_names_same outer.library outer.class i;
    tables = tables_same i;
  }

  pub members_same : members_around (erased_scoping s) ≡ members_around s
  members_same = λ i. record {
    texts = s.texts;
    names = λ (outer : Outer). at_same outer.library outer.class i;
    tables = tables_same i;
  }
