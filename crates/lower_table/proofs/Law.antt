-- What is made for a program is what its names mean.
use Rattle.std.proofs.Common.{◌≡◌, ◌∙◌, ℕ, zero, suc, ◌<◌, List, [], ◌∷◌, length, map, Option, Some, None, slice_get, true≢false, is_some, refl, sym, ap}
use Rattle.std.specs.Option.{option_map}
use Rattle.std.specs.List.{AllZip}
use Rattle.std.proofs.lemmas.Option.{slice_get-map, slice_get-get_or}
use Rattle.dart_ir.specs.declared.class.Classes.{Classes}
use Rattle.lower_added.specs.Natives.{natives}
use Rattle.lower_added.specs.Written.{written_class}
use Rattle.translation.specs.Surroundings.{Text, Names}
use Rattle.scope_dictionary.specs.Names.{names_of}
use Rattle.scope_dictionary.specs.declared.library.LibraryNames.{LibraryNames}
use Rattle.scope_class.specs.Inside as inside
use Rattle.scope_program.specs.Around.{no_names, known_names, names_or, names_in, names_at, names_in_class, static_in, constructor_in}
use Rattle.scope_program.specs.Classes.{ClassScope}
use Rattle.scope_program.specs.Made.{AreScopesOf, IsClassOf}
use Rattle.scope_program.specs.Program.{Scoping}
use Rattle.scope_program.specs.declared.class.ClassScope as code
use Rattle.scope_program.specs.declared.program.ProgramScopes.{ProgramScopes}
use Rattle.lower_table.specs.Made.{class_names, constructor_made, library_names, meanings_made, names_between, source_made, static_made, written_made, around_of}
use Rattle.lower_table.specs.Rows.{index_of, rows_of, starts_of}
use Rattle.lower_table.specs.Table.{around_by, meanings_of, source_of, table_around, written_of}

-- ---- lists whose items are related

-- two items are related, or there are none
abbrev Both : {A B : Type 0} → (A → B → Type 0) → Option A → Option B → Type 0
Both R None None = Unit {0}
Both R (Some x) (Some y) = R x y
Both R (Some x) None = ⊥
Both R None (Some y) = ⊥

both-at : {A B : Type 0} (R : A → B → Type 0) (xs : List A) (ys : List B) (n : ℕ) → AllZip R xs ys → Both R (slice_get xs n) (slice_get ys n)
both-at R [] [] n all = tt
both-at R [] (y ∷ ys) n all = absurd all
both-at R (x ∷ xs) [] n all = absurd all
both-at R (x ∷ xs) (y ∷ ys) zero all = all.0
both-at R (x ∷ xs) (y ∷ ys) (suc n) all = both-at R xs ys n all.1

as-long : {A B : Type 0} (R : A → B → Type 0) (xs : List A) (ys : List B) → AllZip R xs ys → length ys ≡ length xs
as-long R [] [] all = refl
as-long R [] (y ∷ ys) all = absurd all
as-long R (x ∷ xs) [] all = absurd all
as-long R (x ∷ xs) (y ∷ ys) all = ap suc (as-long R xs ys all.1)

same-maps : {A B C : Type 0} (R : A → B → Type 0) (f : A → C) (g : B → C) → ((x : A) (y : B) → R x y → g y ≡ f x) → (xs : List A) (ys : List B) → AllZip R xs ys → map g ys ≡ map f xs
same-maps R f g same [] [] all = refl
same-maps R f g same [] (y ∷ ys) all = absurd all
same-maps R f g same (x ∷ xs) [] all = absurd all
same-maps {A} {B} {C} R f g same (x ∷ xs) (y ∷ ys) all = λ i. same x y all.0 i ∷ same-maps R f g same xs ys all.1 i

-- ---- names

module _ (s : Scoping) (x : ProgramScopes) (h : AreScopesOf s x) where
  abbrev Is : ClassScope → code.ClassScope → Type 0
  Is = IsClassOf s.kept s.numbered

  count : length x.classes.items ≡ length s.classes
  count = as-long Is s.classes x.classes.items h.classes

  library-at : (n : ℕ) → slice_get s.libraries n ≡ option_map names_of (slice_get x.libraries.items n)
  library-at n = ap (λ (l : List Names). slice_get l n) (sym h.libraries) ∙ slice_get-map names_of x.libraries.items n

  in-library : (n : ℕ) → library_names x n (slice_get x.libraries.items n) ≡ names_at s n None
  in-library n = by (slice_get x.libraries.items n) ∙ (λ i. known_names (count i) 0 (names_or n (sym (library-at n) i)))
    where
      by : (o : Option LibraryNames) → library_names x n o ≡ known_names (length x.classes.items) 0 (names_or n (option_map names_of o))
      by None = refl
      by (Some found) = refl

  -- inside of a class, where these are the names around
  within-class : (c : ClassScope) (m : code.ClassScope) → Is c m → (around : Names) → around.library ≡ c.library
      → inside.names_within m.names around ≡ inside.class_names s.kept s.numbered c.declaration c.parameters around
  within-class c m is around same = λ i. record around { meaning = λ text. is.names.inside around text same i }

  one-class : (c : ClassScope) (m : code.ClassScope) → Is c m → c.library < length s.libraries
      → names_between x m (slice_get x.libraries.items m.library) ≡ names_in_class s (Some c)
  one-class c m is less = (λ i. names_between x m (slice_get x.libraries.items (is.library i))) ∙ by (slice_get x.libraries.items c.library) refl
    where
      by : (o : Option LibraryNames) → slice_get x.libraries.items c.library ≡ o → names_between x m o ≡ names_in_class s (Some c)
      by None none = absurd (true≢false (ap is_some (sym (slice_get-get_or s.libraries c.library (no_names 0) less) ∙ library-at c.library ∙ ap (option_map names_of) none)))
      by (Some found) at =
          let around : Names = record (names_of found) { library = c.library } in
          let names : names_of found ≡ names_in s c.library = λ i. names_or c.library (sym (library-at c.library ∙ ap (option_map names_of) at) i) in
          (λ i. known_names (count i) (is.parameters i) (inside.names_within m.names (record (names_of found) { library = is.library i })))
          ∙ ap (known_names (length s.classes) (length c.parameters)) (within-class c m is around refl)
          ∙ ap (λ (n : Names). known_names (length s.classes) (length c.parameters)
          (inside.class_names s.kept s.numbered c.declaration c.parameters (record n { library = c.library }))) names

  in-class : (n : ℕ) → class_names x (slice_get x.classes.items n) ≡ names_in_class s (slice_get s.classes n)
  in-class n = by (slice_get s.classes n) (slice_get x.classes.items n) (both-at Is s.classes x.classes.items n h.classes) (h.housed n)
    where
      by : (o : Option ClassScope) (p : Option code.ClassScope) → Both Is o p → ((c : ClassScope) → o ≡ Some c → c.library < length s.libraries)
          → class_names x p ≡ names_in_class s o
      by None None both housed = refl
      by (Some c) (Some m) both housed = one-class c m both (housed c refl)
      by (Some c) None both housed = absurd both
      by None (Some m) both housed = absurd both

  static-in : (n : ℕ) (name : Text) → static_made (slice_get x.classes.items n) name ≡ static_in s (slice_get s.classes n) name
  static-in n name = by (slice_get s.classes n) (slice_get x.classes.items n) (both-at Is s.classes x.classes.items n h.classes)
    where
      by : (o : Option ClassScope) (p : Option code.ClassScope) → Both Is o p → static_made p name ≡ static_in s o name
      by None None both = refl
      by (Some c) (Some m) both = both.names.behind name
      by (Some c) None both = absurd both
      by None (Some m) both = absurd both

  constructor-in : (n : ℕ) (id : Text) → constructor_made (slice_get x.classes.items n) id ≡ constructor_in s (slice_get s.classes n) id
  constructor-in n id = by (slice_get s.classes n) (slice_get x.classes.items n) (both-at Is s.classes x.classes.items n h.classes)
    where
      by : (o : Option ClassScope) (p : Option code.ClassScope) → Both Is o p → constructor_made p id ≡ constructor_in s o id
      by None None both = refl
      by (Some c) (Some m) both = both.constructors id
      by (Some c) None both = absurd both
      by None (Some m) both = absurd both

  meanings : meanings_made x ≡ meanings_of s
  meanings = λ i. record {
    texts = h.texts i;
    in_library = λ n. in-library n i;
    in_class = λ n. in-class n i;
    static = λ n name. static-in n name i;
    constructor = λ n id. constructor-in n id i;
  }

  -- ---- what classes write

  one-written : (c : ClassScope) (m : code.ClassScope) → Is c m → written_made x m ≡ written_of s c
  one-written c m is = λ i. written_class (h.kept i) (h.numbered i) (is.declaration i) (is.accessors i) (is.has_constructor i) (is.ways i)

  source : source_made x ≡ source_of s
  source = λ i. record {
    declarations = same-maps Is (λ c. c.declaration) (λ m. m.declaration) (λ c m is. is.declaration) s.classes x.classes.items h.classes i;
    mixed = same-maps Is (λ c. c.is_mixed) (λ m. m.is_mixed) (λ c m is. is.is_mixed) s.classes x.classes.items h.classes i;
    written = same-maps Is (written_of s) (written_made x) one-written s.classes x.classes.items h.classes i;
    count = length (h.numbered i);
    natives = natives (h.kept i) (h.numbered i);
    int_class = h.int_class i;
    string_class = h.string_class i;
    map_class = h.map_class i;
  }

  -- what is made is what the program is translated in
  pub around-made : (k : Classes) → around_of x k ≡ table_around s k
  around-made k = λ i. around_by (meanings i) (rows_of (h.texts i) k) (index_of (source i) (rows_of (h.texts i) k))

  -- and what is added to the rows of its table begins where it says
  pub starts-made : (k : Classes) → starts_of (source_made x) (rows_of x.names k) ≡ starts_of (source_of s) (rows_of s.texts k)
  starts-made k = λ i. starts_of (source i) (rows_of (h.texts i) k)
