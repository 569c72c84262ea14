-- What is made for a program is what its names mean.
use Rattle.std.proofs.Common.{◌≡◌, ◌∙◌, ℕ, true, false, List, [], ◌∷◌, length, Option, Some, None, refl, ap}
use Rattle.std.specs.Prelude.{slice_get, unwrap_or}
use Rattle.std.proofs.Math.Path.{fun_ext}
use Rattle.dart_base.specs.declared.place.Place.{Place}
use Rattle.dart_ir.specs.declared.number.ClassId.{ClassId}
use Rattle.dart_tree.specs.Unit.{UnitTree}
use Rattle.lower_leaf.specs.Around.{Around}
use Rattle.lower_leaf.specs.declared.meaning.Outer.{Outer}
use Rattle.lower_annotation.specs.Annotated.{annotated}
use Rattle.lower_annotation.specs.Seen.{aliases_in, annotations_seen, entries, place_at}
use Rattle.lower_annotation.specs.Written.{Entry, final_type}
use Rattle.lower_annotation.specs.declared.annotations.Annotations.{Annotations}
use Rattle.lower_annotation.specs.declared.entry.Entry as made_entry
use Rattle.lower_annotation.proofs.Views.{option-same, variables-same}
use Rattle.scope_load.specs.State.{State}
use Rattle.class_reader.specs.Given.{AreJoint, given_of}
use Rattle.scope_program.specs.Around as words
use Rattle.scope_program.specs.Around.{declared_tables, headers_around, known_names, members_around}
use Rattle.scope_program.specs.Classes.{number_at, position_of}
use Rattle.scope_program.specs.Places.{at_place}
use Rattle.scope_program.specs.Made.{AreScopesOf}
use Rattle.scope_program.specs.Program.{Scoping}
use Rattle.scope_program.specs.declared.program.ProgramScopes.{ProgramScopes}
use Rattle.dart_class.specs.Around.{around, library_of, names_at, number_of, tables}
use Rattle.dart_class.specs.Given.{class_given, signed_around}
use Rattle.dart_class.proofs.Classes.{class-there, class_header-same, class_inside-same, parameters-same, bounded-same, static-same, constructor-same, count, library-same}

-- aliases are seen alike where the texts of names are the same
entries-same : (b a : Around) → b.texts ≡ a.texts → (xs : List made_entry.Entry) → entries b xs ≡ entries a xs
entries-same b a same [] = refl
entries-same b a same (x ∷ xs) = λ i. record { parameters = x.parameters; of = option-same b a same x.of i } ∷ entries-same b a same xs i

module _ (s : Scoping) (scopes : ProgramScopes) (are : AreScopesOf s scopes) where
  pub tables-same : tables scopes ≡ declared_tables s
  tables-same =
      let at = λ (n : ℕ). class-there s scopes are n in
      λ i. record {
        parameters = λ n. parameters-same s scopes are (slice_get s.classes n) (slice_get scopes.classes.items n) (at n) i;
        is_bounded = λ n. bounded-same s scopes are (slice_get s.classes n) (slice_get scopes.classes.items n) (at n) i;
        superclass = λ n. None;
        first_field = λ n. 0;
        mixin = λ n. None;
        class_names = λ n. class_inside-same s scopes are (slice_get s.classes n) (slice_get scopes.classes.items n) (at n) i;
        static = λ n name. static-same s scopes are (slice_get s.classes n) (slice_get scopes.classes.items n) (at n) name i;
        constructor = λ n id. constructor-same s scopes are (slice_get s.classes n) (slice_get scopes.classes.items n) (at n) id i;
        variable_type = λ n. None;
        alias_type = (declared_tables s).alias_type;
        native = λ n. None;
        int_class = are.int_class i;
        string_class = are.string_class i;
        map_class = are.map_class i;
      }

  headers-at : (library : ℕ) (k : Option ClassId) → names_at true scopes library k ≡ words.header_names_at s library k
  headers-at library None = λ i. known_names (count s scopes are i) 0 (library-same s scopes are library i)
  headers-at library (Some k) = class_header-same s scopes are (slice_get s.classes k.0) (slice_get scopes.classes.items k.0) (class-there s scopes are k.0)

  members-at : (library : ℕ) (k : Option ClassId) → names_at false scopes library k ≡ words.names_at s library k
  members-at library None = λ i. known_names (count s scopes are i) 0 (library-same s scopes are library i)
  members-at library (Some k) = class_inside-same s scopes are (slice_get s.classes k.0) (slice_get scopes.classes.items k.0) (class-there s scopes are k.0)

  -- what the headers of classes are read in
  pub headers-same : around true scopes ≡ headers_around s
  headers-same = λ i. record {
    texts = are.texts i;
    names = λ (outer : Outer). headers-at outer.library outer.class i;
    tables = tables-same i;
  }

  -- and their members
  pub members-same : around false scopes ≡ members_around s
  members-same = λ i. record {
    texts = are.texts i;
    names = λ (outer : Outer). members-at outer.library outer.class i;
    tables = tables-same i;
  }

  numbers-same : (place : Place) → number_of scopes place ≡ number_at s.numbered place
  numbers-same place = λ i. unwrap_or (are.places place i) (length (are.numbered i))

  -- ---- what is made of annotations

  places-same : at_place scopes.places ≡ position_of s.numbered
  places-same = fun_ext are.places

  module _ (state : State) (made : Annotations) (units : List UnitTree) (seen : units ≡ state.units)
      (is : annotations_seen (around false scopes) made ≡ annotated (at_place scopes.places) (around false scopes) scopes.homes.items units) where
    signed-same : annotations_seen (around false scopes) made ≡ signed_around state s
    signed-same = is ∙ (λ i. annotated (places-same i) (members-same i) (are.homes i) (seen i))

    -- what classes are read with
    pub given-same : given_of (annotations_seen (around true scopes) made) (annotations_seen (around false scopes) made) (library_of scopes) (number_of scopes)
        ≡ class_given state s
    given-same = λ i. record {
      tables = (signed-same i).tables;
      header_names = λ n. headers-at (library_of scopes n) (Some (record { 0 = n })) i;
      number = λ place. numbers-same place i;
    }

-- The headers and the members of classes are read with one table, and the names among members are those that the table has.
module _ (scopes : ProgramScopes) (made : Annotations) where
  aliases-same : aliases_in (around true scopes) false made.aliases made.entries.items ≡ aliases_in (around false scopes) false made.aliases made.entries.items
  aliases-same = ap (λ (es : List Entry). final_type (place_at made.aliases) es) (entries-same (around true scopes) (around false scopes) refl made.entries.items)

  pub joint : AreJoint (annotations_seen (around true scopes) made) (annotations_seen (around false scopes) made) (library_of scopes)
  joint = record {
    texts = refl;
    tables = λ i. record (tables scopes) {
      alias_type = aliases-same i;
      variable_type = λ n. variables-same (around true scopes) (around false scopes) refl made.variables n i;
    };
    names = λ n. refl;
  }
