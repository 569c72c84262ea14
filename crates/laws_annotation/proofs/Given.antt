-- What classes are read with, and what is translated, of an erased program.
use Rattle.std.proofs.Common.{◌≡◌, refl, sym, ap, ◌∙◌, ℕ, ◌+◌, List, [], ◌∷◌, length, map, Option, None}
use Rattle.std.specs.Prelude.{codes, slice_get}
use Rattle.std.specs.List.{zip}
use Rattle.dart_ir.specs.declared.class.Classes.{Classes}
use Rattle.dart_ir.specs.declared.class.MemberInfo.{MemberInfo}
use Rattle.dart_tree.specs.Unit as u
use Rattle.dart_erase.specs.UnitErased as of_unit
use Rattle.core_program.specs.Alike as alike
use Rattle.core_program.specs.Program as p
use Rattle.core_program.specs.Stripped as stripped
use Rattle.scope_load.specs.State.{State}
use Rattle.scope_load.specs.declared.units.UnitName.{UnitName}
use Rattle.scope_library.specs.Library.{homes_of}
use Rattle.translation.specs.Surroundings.{Text, Ty}
use Rattle.translation.specs.Types.{AliasType}
use Rattle.class_source.specs.Source as source
use Rattle.scope_program.specs.Classes.{ClassScope, number_at}
use Rattle.scope_program.specs.Program.{Scoping}
use Rattle.lower_leaf.specs.Around.{Around}
use Rattle.lower_added.specs.Natives.{natives}
use Rattle.lower_added.specs.Written.{written_class}
use Rattle.lower_table.specs.Rows.{rows_of, index_of}
use Rattle.lower_table.specs.Table.{around_by, meanings_of, written_of, source_of, table_around}
use Rattle.lower_program.specs.Views.{library_outer, member_info}
use Rattle.dart_class.specs.Given.{class_given, signed_around, source_unit as class_unit, source_units_from, source_units}
use Rattle.dart_lower.specs.Given.{file_name, source_unit, annotated_around, given_of}
use Rattle.laws_translation.specs.LinedUnit as lined
use Rattle.laws_translation.specs.Bare.{tables_without, erased_unit, lined_unit, erased_given, lines}
use Rattle.laws_annotation.specs.Erased.{erased_state, erased_class, erased_scoping, erased_source, signed, unsigned}
use Rattle.laws_annotation.specs.Tables.{loose_member, DifferInSignaturesAlone}
use Rattle.laws_annotation.proofs.Mapped.{map_same}
use Rattle.laws_annotation.proofs.Libraries.{homes_same}
use Rattle.laws_annotation.proofs.Classes.{accessor_count_same, has_constructor_same, makings_same}
use Rattle.laws_annotation.proofs.Scopes.{header_at, class_at, static_at, constructor_at, called_same, at_same, tables_same}

-- ---- what classes are read with

module _ (s : Scoping) (state : State) where
  -- what aliases stand for in the erased program, and what annotations ask of its variables
  abbrev pub erased_aliases : AliasType
  erased_aliases = (signed_around (erased_state state) (erased_scoping s)).tables.alias_type

  abbrev pub erased_variables : ℕ → Option Ty
  erased_variables = (signed_around (erased_state state) (erased_scoping s)).tables.variable_type

  pub given_same : class_given (erased_state state) (erased_scoping s) ≡ signed (class_given state s) erased_aliases erased_variables
  given_same = λ i. record {
    tables = record (tables_same s i) { alias_type = erased_aliases; variable_type = erased_variables };
    header_names = λ n. header_at s n i;
    number = number_at s.numbered;
  }

  pub unsigned_same : unsigned (class_given (erased_state state) (erased_scoping s)) ≡ unsigned (class_given state s)
  unsigned_same = ap unsigned given_same

units_from_same : (names : List UnitName) (at : ℕ) (homes : List ℕ) (units : List u.UnitTree)
    → source_units_from names at homes (map of_unit.unit units) ≡ map erased_source (source_units_from names at homes units)
units_from_same names at [] units = refl
units_from_same names at (home ∷ homes) [] = refl
units_from_same names at (home ∷ homes) (x ∷ units) = ap (λ (more : List source.SourceUnit). class_unit home (slice_get names at) (of_unit.unit x) ∷ more)
    (units_from_same names (at + 1) homes units)

pub units_same : (state : State) → source_units (erased_state state) ≡ map erased_source (source_units state)
units_same state = ap (λ (homes : List ℕ). source_units_from state.names 0 homes (map of_unit.unit state.units)) (homes_same state)
    ∙ units_from_same state.names 0 (homes_of state) state.units

-- ---- what bodies are translated in

module _ (s : Scoping) where
  meanings_same : meanings_of (erased_scoping s) ≡ meanings_of s
  meanings_same = λ i. record {
    texts = s.texts;
    in_library = λ library. at_same s library None i;
    in_class = λ n. class_at s n i;
    static = λ n name. static_at s n name i;
    constructor = λ n id. constructor_at s n id i;
  }

  written_same : (c : ClassScope) → written_of s (erased_class c) ≡ written_of s c
  written_same c = λ i. written_class s.kept s.numbered c.declaration (accessor_count_same c.members i) (has_constructor_same c.members i) (makings_same c.members i)

  pub source_same : source_of (erased_scoping s) ≡ source_of s
  source_same = λ i. record {
    declarations = map_same erased_class (λ (c : ClassScope). c.declaration) (λ c. refl) s.classes i;
    mixed = map_same erased_class (λ (c : ClassScope). c.is_mixed) (λ c. refl) s.classes i;
    written = map_same erased_class (written_of s) written_same s.classes i;
    count = length s.numbered;
    natives = natives s.kept s.numbered;
    int_class = called_same s s.core (codes "int") i;
    string_class = called_same s s.core (codes "String") i;
    map_class = called_same s s.core (codes "Map") i;
  }

  pub around_same : (k l : Classes) → rows_of s.texts l ≡ rows_of s.texts k → table_around (erased_scoping s) l ≡ table_around s k
  around_same k l e = λ i. around_by (meanings_same i) (e i) (index_of (source_same i) (e i))

-- ---- what is translated

sources_same : (a b : Around) → b.names ≡ a.names → (homes : List ℕ) (units : List u.UnitTree)
    → map lined_unit (map (source_unit b) (zip homes (map of_unit.unit units))) ≡ map lined_unit (map erased_unit (map (source_unit a) (zip homes units)))
sources_same a b e [] units = refl
sources_same a b e (home ∷ homes) [] = refl
sources_same a b e (home ∷ homes) (x ∷ units) = λ i. record { names = e i (library_outer home); declarations = map lined.decl (map of_unit.decl x.declarations) }
    ∷ sources_same a b e homes units i

members_read : (a : Around) (xs : List MemberInfo) → map (λ (y : p.Member Text). alike.member (stripped.member y)) (map (member_info a) xs) ≡ map alike.member (map (loose_member a.texts) xs)
members_read a [] = refl
members_read a (x ∷ xs) = ap (λ (more : List (p.Member Text)). alike.member (loose_member a.texts x) ∷ more) (members_read a xs)

pub lines_same : (s : Scoping) (state : State) (k l : Classes) (main : ℕ) → DifferInSignaturesAlone s.texts l k
    → lines (given_of (erased_scoping s) (erased_state state) l main) ≡ lines (erased_given (given_of s state k main))
lines_same s state k l main h =
    let around : table_around (erased_scoping s) l ≡ table_around s k = around_same s k l h.classes in
    let a : Around = annotated_around s state k in
    let b : Around = annotated_around (erased_scoping s) (erased_state state) l in
    λ i. record {
      units = sources_same a b (λ j. (around j).names) s.homes state.units i;
      first_names = (around i).names (library_outer 0);
      tables = tables_without (around i).tables;
      files = map file_name state.names;
      classes = map alike.class (h.classes i);
      members = (members_read b l.members.items ∙ ap (map alike.member) h.members ∙ sym (members_read a k.members.items)) i;
      function_class = h.function i;
      main = main;
    }
