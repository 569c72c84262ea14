-- The classes that units declare, beside their scopes.
use Rattle.std.proofs.Common.{◌≡◌, ◌∙◌, ℕ, ◌+◌, ◌<◌, Bool, true, false, if◌then◌else◌, List, [], ◌∷◌, ◌++◌, length, map, Option, Some, None, refl, sym, ap, subst, eqb-true}
use Rattle.std.specs.Prelude.{◌==◌, nat_lt, slice_get}
use Rattle.std.specs.List.{AllZip}
use Rattle.std.specs.Option.{option_map_or}
use Rattle.std.proofs.lemmas.Bool.Decides.{Decides-ltb}
use Rattle.std.proofs.lemmas.List.{length-map}
use Rattle.std.proofs.lemmas.List.Concat.{flat_map-cons}
use Rattle.std.proofs.lemmas.Option.{slice_get_within}
use Rattle.std.proofs.lemmas.Slice.Zip.{AllZip-long}
use Rattle.dart_tree.specs.Unit as u
use Rattle.scope_declared.specs.declared.declaration.Declared.{Declared}
use Rattle.scope_load.specs.State.{State}
use Rattle.scope_load.specs.declared.units.UnitName.{UnitName}
use Rattle.scope_library.specs.Library.{homes_of}
use Rattle.translation.specs.Surroundings.{Meaning, Names}
use Rattle.translation.specs.Surroundings as m
use Rattle.class_source.specs.Headers.{bounds}
use Rattle.class_source.specs.Resolved.{AreScoped, IsClassResolved, IsResolved, IsScoped, IsSimple}
use Rattle.class_source.specs.Rows.{Class}
use Rattle.class_source.specs.Source.{Given, declared_class, declared_classes, unit_classes}
use Rattle.translation.specs.Walk as walk
use Rattle.lower_annotation.specs.Annotated.{place_in}
use Rattle.lower_annotation.specs.Numbered.{Alias, aliases_of, declarations, library_outer}
use Rattle.scope_program.specs.Around.{known, known_names, members_around, names_at, names_in, names_in_class, names_in_header}
use Rattle.scope_program.specs.Classes.{ClassScope, class_scopes, declared_scope, parameters_of, position_of, unit_scopes}
use Rattle.scope_program.specs.Made.{AreScopesOf, IsClassOf}
use Rattle.scope_program.specs.Program.{IsScoping, Scoping}
use Rattle.scope_program.specs.declared.class.ClassScope as made
use Rattle.scope_program.specs.declared.program.ProgramScopes.{ProgramScopes}
use Rattle.dart_class.specs.Around.{is_simple}
use Rattle.dart_class.specs.Given.{class_given, signed_around, source_unit, source_units, source_units_from}
use Rattle.dart_class.proofs.Aliases.{aliases-formed}
use Rattle.dart_class.proofs.Classes.{Both, both-at, class-there}

-- the class stands in the library of its scope, and has as many type parameters
pub record Fits (scope : ClassScope) (c : Class) : Type 0 where
  pub library : scope.library ≡ c.library
  pub parameters : length scope.parameters ≡ length c.bounds

zip-append : {A B : Type 0} (R : A → B → Type 0) (xs xs2 : List A) (ys ys2 : List B) → AllZip R xs ys → AllZip R xs2 ys2 → AllZip R (xs ++ xs2) (ys ++ ys2)
zip-append R [] xs2 [] ys2 h k = k
zip-append R [] xs2 (y ∷ ys) ys2 h k = absurd h
zip-append R (x ∷ xs) xs2 [] ys2 h k = absurd h
zip-append R (x ∷ xs) xs2 (y ∷ ys) ys2 h k = (h.0, zip-append R xs xs2 ys ys2 h.1 k)

bounds-long : (st : walk.State) (x : Option u.TypeParameters) → length (parameters_of x) ≡ length (bounds st x)
bounds-long st None = refl
bounds-long st (Some x) = sym (length-map x.items _)

module _ (given : Given) (numbered : List Declared) (library : ℕ) (name : Option UnitName) (whole : u.UnitTree) where
  declared-fits : (n : ℕ) (kind : u.DeclKind) → AllZip Fits (declared_scope numbered library kind) (declared_class given (source_unit library name whole) n kind)
  declared-fits n (u.class_decl x) = (record { library = refl; parameters = length-map (parameters_of x.parameters) _ ∙ bounds-long _ x.parameters }, tt)
  declared-fits n (u.enum_decl x) = (record { library = refl; parameters = refl }, tt)
  declared-fits n (u.alias_decl x) = tt
  declared-fits n (u.function_decl x) = tt
  declared-fits n (u.accessor_decl x) = tt
  declared-fits n (u.variables_decl x) = tt

  unit-fits : (n : ℕ) (all : List u.Decl) → AllZip Fits (unit_scopes numbered library all) (declared_classes given (source_unit library name whole) n all)
  unit-fits n [] = tt
  unit-fits n (x ∷ xs) =
      let unit = source_unit library name whole in
      let rest = declared_classes given unit (n + length (declared_class given unit n x.kind)) xs in
      subst (λ (l : List ClassScope). AllZip Fits l (declared_class given unit n x.kind ++ rest)) (sym (flat_map-cons (λ (d : u.Decl). declared_scope numbered library d.kind) x xs))
      (zip-append Fits (declared_scope numbered library x.kind) (unit_scopes numbered library xs) (declared_class given unit n x.kind) rest
      (declared-fits n x.kind) (unit-fits (n + length (declared_class given unit n x.kind)) xs))

-- the classes of units stand beside their scopes
pub units-fit : (given : Given) (numbered : List Declared) (names : List UnitName) (at n : ℕ) (homes : List ℕ) (units : List u.UnitTree)
    → AllZip Fits (class_scopes numbered homes units) (unit_classes given n (source_units_from names at homes units))
units-fit given numbered names at n [] units = tt
units-fit given numbered names at n (library ∷ homes) [] = tt
units-fit given numbered names at n (library ∷ homes) (unit ∷ units) =
    let first = source_unit library (slice_get names at) unit in
    zip-append Fits (unit_scopes numbered library unit.declarations) (class_scopes numbered homes units)
    (declared_classes given first n unit.declarations)
    (unit_classes given (n + length (declared_classes given first n unit.declarations)) (source_units_from names (at + 1) homes units))
    (unit-fits given numbered library (slice_get names at) unit n unit.declarations)
    (units-fit given numbered names (at + 1) (n + length (declared_classes given first n unit.declarations)) homes units)

-- what is known is one of so many classes, or of so many type parameters
known-scoped : (classes parameters : ℕ) (x : Meaning) → IsScoped classes parameters (known classes parameters x)
known-scoped classes parameters (m.class n) = by (nat_lt n classes) refl
  where
    by : (b : Bool) → nat_lt n classes ≡ b → IsScoped classes parameters (if b then m.class n else m.unknown)
    by true below = (Decides-ltb n classes).0 below
    by false below = tt
known-scoped classes parameters (m.type_parameter n) = by (nat_lt n parameters) refl
  where
    by : (b : Bool) → nat_lt n parameters ≡ b → IsScoped classes parameters (if b then m.type_parameter n else m.unknown)
    by true below = (Decides-ltb n parameters).0 below
    by false below = tt
known-scoped classes parameters (m.function n) = tt
known-scoped classes parameters (m.variable n final) = tt
known-scoped classes parameters (m.accessors getter setter) = tt
known-scoped classes parameters (m.alias n) = tt
known-scoped classes parameters m.member = tt
known-scoped classes parameters m.prefix = tt
known-scoped classes parameters m.ambiguous = tt
known-scoped classes parameters m.unknown = tt

known-names : (classes parameters : ℕ) (names : Names) → AreScoped classes parameters (known_names classes parameters names)
known-names classes parameters names = record {
  alone = λ name. known-scoped classes parameters (names.meaning name);
  prefixed = λ prefix name. known-scoped classes parameters (names.prefixed prefix name);
}

module _ (state : State) (s : Scoping) (is : IsScoping state s) where
  abbrev all : List Class
  all = unit_classes (class_given state s) 0 (source_units state)

  fits : AllZip Fits s.classes all
  fits = subst (λ (l : List ClassScope). AllZip Fits l all) (sym is.classes) (units-fit (class_given state s) s.numbered state.names 0 0 (homes_of state) state.units)

  count : length s.classes ≡ length all
  count = sym (AllZip-long Fits s.classes all fits)

  class-resolved : (n : ℕ) (c : Class) → slice_get all n ≡ Some c → IsClassResolved (class_given state s) (length all) n c
  class-resolved n c at = by (slice_get s.classes n) refl (subst (Both Fits (slice_get s.classes n)) at (both-at Fits s.classes all fits n))
    where
      by : (o : Option ClassScope) → slice_get s.classes n ≡ o → Both Fits o (Some c) → IsClassResolved (class_given state s) (length all) n c
      by None there h = absurd h
      by (Some scope) there h = record {
        library = ap (λ o. (names_in_class s o).library) there ∙ h.library;
        parameters = ap (λ o. option_map_or (λ (x : ClassScope). length x.parameters) o 0) there ∙ h.parameters;
        header = subst (λ o. AreScoped (length all) (length c.bounds) (names_in_header s o)) (sym there)
            (subst (λ k. AreScoped k (length c.bounds) (names_in_header s (Some scope))) count
            (subst (λ k. AreScoped (length s.classes) k (names_in_header s (Some scope))) h.parameters (known-names (length s.classes) (length scope.parameters) _)));
        members = subst (λ o. AreScoped (length all) (length c.bounds) (names_in_class s o)) (sym there)
            (subst (λ k. AreScoped k (length c.bounds) (names_in_class s (Some scope))) count
            (subst (λ k. AreScoped (length s.classes) k (names_in_class s (Some scope))) h.parameters (known-names (length s.classes) (length scope.parameters) _)));
      }

  -- what names mean in libraries, in which aliases are read
  scoped : (library : ℕ) → AreScoped (length all) 0 ((members_around s).names (library_outer library))
  scoped library = subst (λ k. AreScoped k 0 (names_at s library None)) count (known-names (length s.classes) 0 (names_in s library))

  abbrev written : List Alias
  written = aliases_of (position_of s.numbered) (declarations s.homes state.units)

  module _ (scopes : ProgramScopes) (are : AreScopesOf s scopes) where
    simple : (n k : ℕ) → n ≡ k → is_simple scopes.classes.items n ≡ true → IsSimple (class_given state s) (length all) k
    simple n k same e = subst (IsSimple (class_given state s) (length all)) same
        (by (slice_get s.classes n) (slice_get scopes.classes.items n) refl (class-there s scopes are n) e)
      where
        by : (o : Option ClassScope) (p : Option made.ClassScope) → slice_get s.classes n ≡ o → Both (λ c m. IsClassOf s.kept s.numbered c m × (c.library < length s.libraries)) o p
            → option_map_or (λ (x : made.ClassScope). x.parameters == 0) p false ≡ true → IsSimple (class_given state s) (length all) n
        by None None there h e = absurd (cc)
        by None (Some m) there h e = absurd h
        by (Some c) None there h e = absurd h
        by (Some c) (Some m) there h e = record {
          declared = subst (λ k. n < k) count (slice_get_within s.classes n c there);
          parameters = ap (λ o. option_map_or (λ (x : ClassScope). length x.parameters) o 0) there ∙ sym h.0.parameters ∙ eqb-true m.parameters 0 e;
        }

    -- what classes are read with fits the units
    pub resolved : is_simple scopes.classes.items scopes.int_class ≡ true → is_simple scopes.classes.items scopes.string_class ≡ true
        → IsResolved (class_given state s) (source_units state)
    resolved int string = record {
      classes = class-resolved;
      aliases = λ n k types formed. aliases-formed (members_around s) (length all) scoped (place_in (map (λ (x : Alias). x.number) written)) written
          (signed_around state s).tables (λ c. refl) n k types formed;
      int = simple scopes.int_class _ are.int_class int;
      string = simple scopes.string_class _ are.string_class string;
    }
