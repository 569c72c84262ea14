-- The classes that erased units declare are those of the units, but for signatures.
use Rattle.std.proofs.Common.{◌≡◌, refl, sym, ap, ◌∙◌, ℕ, ◌+◌, if◌then◌else◌, List, [], ◌∷◌, ◌++◌, length, map, Option, None, Some, ◌&&◌, is_some}
use Rattle.std.specs.Prelude.{nat_eq, bytes_eq, codes, flat_map}
use Rattle.std.specs.List.{list_any}
use Rattle.std.proofs.lemmas.List.{map-append}
use Rattle.dart_tree.specs.UnitView.{maybe}
use Rattle.dart_tree.specs.Places.{place_of}
use Rattle.dart_tree.specs.Unit as u
use Rattle.dart_erase.specs.UnitErased as of_unit
use Rattle.translation.specs.Surroundings.{Text, Ty, name_in}
use Rattle.translation.specs.Walk.{State}
use Rattle.translation.specs.Types.{AliasType, text_of}
use Rattle.translation.specs.ClassBodies.{members_of, is_mixed}
use Rattle.class_source.specs.Rows.{Class}
use Rattle.class_source.specs.Members.{instance_members, field_count, is_external_member, is_constructor_member, names_super}
use Rattle.class_source.specs.Headers.{named, bound, bounds}
use Rattle.class_source.specs.Source.{SourceUnit, Given, reading, is_basic, class_row, declared_class, declared_classes, unit_classes, class_called, core_library, classes_of}
use Rattle.laws_annotation.specs.Erased.{erased_source, signed}
use Rattle.laws_table.specs.Loose.{loose_member, loose_class, loose_classes}
use Rattle.laws_annotation.proofs.Mapped.{map_same, length_same}
use Rattle.laws_annotation.proofs.Classes.{mixed_same, members_same}
use Rattle.laws_annotation.proofs.HeaderTypes.{names_same, bounds_free}
use Rattle.laws_annotation.proofs.Members.{members_alike, field_count_same, external_same, constructors_same, supers_same}

bounds_same : (st : State) (o : Option u.TypeParameters) → bounds st (maybe of_unit.type_parameters o) ≡ bounds st o
bounds_same st None = refl
bounds_same st (Some x) = map_same of_unit.type_parameter (λ (p : u.TypeParameter). bound st p.bound) (λ p. refl) x.items

named_same : (st : State) (x : u.ClassKind) → named st (of_unit.class_kind x) ≡ named st x
named_same st (u.declared_class above interfaces opening members closing) = refl
named_same st (u.mixed_class equals above mixins interfaces semicolon) = refl

module _ (given : Given) (aliases : AliasType) (variables : ℕ → Option Ty) where
  -- where aliases and variables may have other types
  abbrev other : Given
  other = signed given aliases variables

  class_alike : (unit : SourceUnit) (n : ℕ) (x : u.Class) → loose_class (class_row other (erased_source unit) n (of_unit.class x)) ≡ loose_class (class_row given unit n x)
  class_alike unit n x =
      let header : State = reading given (given.header_names n) in
      let around : State = reading other (given.header_names n) in
      let inside : State = reading given (given.tables.class_names n) in
      (λ i. record {
        name = name_in unit.library (text_of x.name);
        library = unit.library;
        place = place_of x.name;
        declaration = given.number (place_of x.name);
        is_abstract = is_some x.abstracted;
        is_application = mixed_same x.kind i;
        standing = record {
          is_user = unit.is_user;
          is_basic = is_basic unit (text_of x.name);
          has_external = list_any is_external_member (members_same x.kind i);
          has_constructor = list_any is_constructor_member (members_same x.kind i);
          names_super = list_any names_super (members_same x.kind i);
        };
        bounds = bounds_same around x.parameters i;
        superclass = (named_same around x.kind i).superclass;
        mixins = (named_same around x.kind i).mixins;
        interfaces = (named_same around x.kind i).interfaces;
        members = map loose_member (flat_map (instance_members given.number (reading other (given.tables.class_names n))) (members_same x.kind i));
        fields = field_count (members_same x.kind i);
      }) ∙ (λ i. record {
        name = name_in unit.library (text_of x.name);
        library = unit.library;
        place = place_of x.name;
        declaration = given.number (place_of x.name);
        is_abstract = is_some x.abstracted;
        is_application = is_mixed x.kind;
        standing = record {
          is_user = unit.is_user;
          is_basic = is_basic unit (text_of x.name);
          has_external = external_same (members_of x.kind) i;
          has_constructor = constructors_same (members_of x.kind) i;
          names_super = supers_same (members_of x.kind) i;
        };
        bounds = bounds_free header aliases variables x.parameters i;
        superclass = (names_same header aliases variables x.kind i).superclass;
        mixins = (names_same header aliases variables x.kind i).mixins;
        interfaces = (names_same header aliases variables x.kind i).interfaces;
        members = members_alike given.number inside other.tables (members_of x.kind) i;
        fields = field_count_same (members_of x.kind) i;
      })

  declared_alike : (unit : SourceUnit) (n : ℕ) (x : u.DeclKind) → map loose_class (declared_class other (erased_source unit) n (of_unit.decl_kind x))
      ≡ map loose_class (declared_class given unit n x)
  declared_alike unit n (u.class_decl x) = λ i. class_alike unit n x i ∷ []
  declared_alike unit n (u.alias_decl x) = refl
  declared_alike unit n (u.function_decl x) = refl
  declared_alike unit n (u.accessor_decl x) = refl
  declared_alike unit n (u.variables_decl x) = refl
  declared_alike unit n (u.enum_decl x) = refl

-- lists of classes that are alike are as long
as_long : (xs ys : List Class) → map loose_class xs ≡ map loose_class ys → length xs ≡ length ys
as_long xs ys e = sym (length_same loose_class xs) ∙ ap length e ∙ length_same loose_class ys

-- and one behind another
behind : (xs ys us vs : List Class) → map loose_class xs ≡ map loose_class ys → map loose_class us ≡ map loose_class vs → map loose_class (xs ++ us) ≡ map loose_class (ys ++ vs)
behind xs ys us vs e f = map-append loose_class xs us ∙ (λ i. e i ++ f i) ∙ sym (map-append loose_class ys vs)

module _ (given : Given) (aliases : AliasType) (variables : ℕ → Option Ty) where
  abbrev others : Given
  others = signed given aliases variables

  declarations_alike : (unit : SourceUnit) (n : ℕ) (xs : List u.Decl) →
      map loose_class (declared_classes others (erased_source unit) n (map of_unit.decl xs)) ≡ map loose_class (declared_classes given unit n xs)
  declarations_alike unit n [] = refl
  declarations_alike unit n (x ∷ xs) =
      let before : List Class = declared_class others (erased_source unit) n (of_unit.decl_kind x.kind) in
      let after : List Class = declared_class given unit n x.kind in
      behind before after (declared_classes others (erased_source unit) (n + length before) (map of_unit.decl xs)) (declared_classes given unit (n + length after) xs)
      (declared_alike given aliases variables unit n x.kind)
      (ap (λ (m : ℕ). map loose_class (declared_classes others (erased_source unit) (n + m) (map of_unit.decl xs)))
      (as_long before after (declared_alike given aliases variables unit n x.kind))
      ∙ declarations_alike unit (n + length after) xs)

  units_alike : (n : ℕ) (units : List SourceUnit) → map loose_class (unit_classes others n (map erased_source units)) ≡ map loose_class (unit_classes given n units)
  units_alike n [] = refl
  units_alike n (x ∷ xs) =
      let before : List Class = declared_classes others (erased_source x) n (map of_unit.decl x.declarations) in
      let after : List Class = declared_classes given x n x.declarations in
      behind before after (unit_classes others (n + length before) (map erased_source xs)) (unit_classes given (n + length after) xs)
      (declarations_alike x n x.declarations)
      (ap (λ (m : ℕ). map loose_class (unit_classes others (n + m) (map erased_source xs))) (as_long before after (declarations_alike x n x.declarations))
      ∙ units_alike (n + length after) xs)

called_loose : (library : ℕ) (name : Text) (n : ℕ) (xs : List Class) → class_called library name n (map loose_class xs) ≡ class_called library name n xs
called_loose library name n [] = refl
called_loose library name n (x ∷ xs) = λ i. if nat_eq x.library library && bytes_eq x.name name then n else called_loose library name (n + 1) xs i

called_alike : (library : ℕ) (name : Text) (n : ℕ) (xs ys : List Class) → map loose_class xs ≡ map loose_class ys → class_called library name n xs ≡ class_called library name n ys
called_alike library name n xs ys e = sym (called_loose library name n xs) ∙ ap (class_called library name n) e ∙ called_loose library name n ys

core_same : (units : List SourceUnit) → core_library (map erased_source units) ≡ core_library units
core_same [] = refl
core_same (x ∷ xs) = λ i. if x.is_core then x.library else core_same xs i

-- whatever aliases stand for in the signatures of the erased units
pub classes_same : (given : Given) (aliases : AliasType) (variables : ℕ → Option Ty) (units : List SourceUnit)
    → loose_classes (classes_of (signed given aliases variables) (map erased_source units)) ≡ loose_classes (classes_of given units)
classes_same given aliases variables units =
    let other : Given = signed given aliases variables in
    let made : List Class = unit_classes other 0 (map erased_source units) in
    let others : List Class = unit_classes given 0 units in
    let alike : map loose_class made ≡ map loose_class others = units_alike given aliases variables 0 units in
    (λ i. record {
      classes = map loose_class made;
      object = class_called (core_same units i) (codes "Object") 0 made;
      function = class_called (core_same units i) (codes "Function") 0 made;
    }) ∙ (λ i. record {
      classes = alike i;
      object = called_alike (core_library units) (codes "Object") 0 made others alike i;
      function = called_alike (core_library units) (codes "Function") 0 made others alike i;
    })
