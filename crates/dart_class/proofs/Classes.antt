-- A class beside what is made for it.
use Rattle.std.proofs.Common.{◌≡◌, ◌∙◌, ℕ, ◌<◌, false, List, [], ◌∷◌, length, Option, Some, None, zero, suc, refl, sym, ap, subst, get_or, arith}
use Rattle.std.specs.Prelude.{slice_get}
use Rattle.std.specs.List.{AllZip}
use Rattle.std.specs.Option.{option_map, option_map_or}
use Rattle.std.proofs.Math.Path.{fun_ext}
use Rattle.std.proofs.lemmas.List.{length-map}
use Rattle.std.proofs.lemmas.Option.{slice_get-get_or, slice_get-map}
use Rattle.std.proofs.lemmas.Slice.Zip.{AllZip-long}
use Rattle.translation.specs.Surroundings.{Text, Names}
use Rattle.scope_dictionary.specs.Names.{names_of}
use Rattle.scope_dictionary.specs.declared.library.LibraryNames.{LibraryNames}
use Rattle.scope_class.specs.Inside as inside
use Rattle.scope_program.specs.Around as words
use Rattle.scope_program.specs.Around.{known_names, names_in, names_in_class, names_in_header, names_or, no_names}
use Rattle.scope_program.specs.Classes.{ClassScope}
use Rattle.scope_program.specs.Made.{AreScopesOf, IsClassOf}
use Rattle.scope_program.specs.Program.{Scoping}
use Rattle.scope_program.specs.declared.class.ClassScope as made
use Rattle.scope_program.specs.declared.program.ProgramScopes.{ProgramScopes}
use Rattle.dart_class.specs.Around.{class_header, class_inside, constructor_in, header_in, inside_in, library_names, static_in}

-- both lists have an item there, or neither
abbrev pub Both : {A B : Type 0} → (A → B → Type 0) → Option A → Option B → Type 0
Both R None None = Unit {0}
Both R None (Some y) = ⊥
Both R (Some x) None = ⊥
Both R (Some x) (Some y) = R x y

pub both-at : {A B : Type 0} (R : A → B → Type 0) (xs : List A) (ys : List B) → AllZip R xs ys → (n : ℕ) → Both R (slice_get xs n) (slice_get ys n)
both-at R [] [] h n = tt
both-at R [] (y ∷ ys) h n = absurd h
both-at R (x ∷ xs) [] h n = absurd h
both-at R (x ∷ xs) (y ∷ ys) h zero = h.0
both-at R (x ∷ xs) (y ∷ ys) h (suc n) = both-at R xs ys h.1 n

library-there : (all : List LibraryNames) (n : ℕ) → n < length all → (l : LibraryNames) × (slice_get all n ≡ Some l)
library-there [] n below = absurd (omega arith)
library-there (l ∷ all) n below = (get_or (l ∷ all) n l, slice_get-get_or (l ∷ all) n l below)

module _ (s : Scoping) (scopes : ProgramScopes) (are : AreScopesOf s scopes) where
  abbrev Is : ClassScope → made.ClassScope → Type 0
  Is c m = IsClassOf s.kept s.numbered c m × (c.library < length s.libraries)

  pub count : length scopes.classes.items ≡ length s.classes
  count = AllZip-long (IsClassOf s.kept s.numbered) s.classes scopes.classes.items are.classes

  pub class-there : (n : ℕ) → Both Is (slice_get s.classes n) (slice_get scopes.classes.items n)
  class-there n = by (slice_get s.classes n) (slice_get scopes.classes.items n) refl (both-at (IsClassOf s.kept s.numbered) s.classes scopes.classes.items are.classes n)
    where
      by : (o : Option ClassScope) (p : Option made.ClassScope) → slice_get s.classes n ≡ o → Both (IsClassOf s.kept s.numbered) o p → Both Is o p
      by None None at h = tt
      by None (Some m) at h = absurd h
      by (Some c) None at h = absurd h
      by (Some c) (Some m) at h = (h, are.housed n c at)

  -- what names mean in a library
  pub library-same : (library : ℕ) → library_names scopes library ≡ names_in s library
  library-same library =
      ap (names_or library) (sym (slice_get-map names_of scopes.libraries.items library) ∙ ap (λ (l : List Names). slice_get l library) are.libraries)

  module _ (c : ClassScope) (m : made.ClassScope) (is : Is c m) where
    there : (l : LibraryNames) × (slice_get scopes.libraries.items m.library ≡ Some l)
    there =
        let many : length s.libraries ≡ length scopes.libraries.items = ap length (sym are.libraries) ∙ length-map scopes.libraries.items names_of in
        library-there scopes.libraries.items m.library (subst (λ n. m.library < n) many (subst (λ n. n < length s.libraries) (sym is.0.library) is.1))

    around : Names
    around = record (names_of there.0) { library = c.library }

    -- what they mean around the class, by its library
    around-same : around ≡ record (names_in s c.library) { library = c.library }
    unfolding around
    around-same =
        let found : slice_get s.libraries c.library ≡ Some (names_of there.0) =
        ap (λ (l : List Names). slice_get l c.library) (sym are.libraries) ∙ slice_get-map names_of scopes.libraries.items c.library
        ∙ ap (λ n. option_map names_of (slice_get scopes.libraries.items n)) (sym is.0.library) ∙ ap (option_map names_of) there.1 in
        ap (λ o. record (names_or c.library o) { library = c.library }) (sym found)

    header-same : header_in scopes m (slice_get scopes.libraries.items m.library) ≡ names_in_header s (Some c)
    unfolding around
    header-same =
        let names : inside.header_within m.names around ≡ inside.header_names c.parameters around =
        λ i. record { library = around.library; meaning = fun_ext (is.0.names.header around) i; prefixed = around.prefixed } in
        ap (header_in scopes m) there.1
        ∙ (λ i. known_names (count i) (is.0.parameters i) (inside.header_within m.names (record (names_of there.0) { library = is.0.library i })))
        ∙ ap (known_names (length s.classes) (length c.parameters)) (names ∙ ap (inside.header_names c.parameters) around-same)

    inside-same : inside_in scopes m (slice_get scopes.libraries.items m.library) ≡ names_in_class s (Some c)
    unfolding around
    inside-same =
        let names : inside.names_within m.names around ≡ inside.class_names s.kept s.numbered c.declaration c.parameters around =
        λ i. record { library = around.library; meaning = fun_ext (λ text. is.0.names.inside around text refl) i; prefixed = around.prefixed } in
        ap (inside_in scopes m) there.1
        ∙ (λ i. known_names (count i) (is.0.parameters i) (inside.names_within m.names (record (names_of there.0) { library = is.0.library i })))
        ∙ ap (known_names (length s.classes) (length c.parameters)) (names ∙ ap (inside.class_names s.kept s.numbered c.declaration c.parameters) around-same)

  -- what they mean in the header of a class, and inside of it
  pub class_header-same : (o : Option ClassScope) (p : Option made.ClassScope) → Both Is o p → class_header scopes p ≡ names_in_header s o
  class_header-same None None h = refl
  class_header-same None (Some m) h = absurd h
  class_header-same (Some c) None h = absurd h
  class_header-same (Some c) (Some m) h = header-same c m h

  pub class_inside-same : (o : Option ClassScope) (p : Option made.ClassScope) → Both Is o p → class_inside scopes p ≡ names_in_class s o
  class_inside-same None None h = refl
  class_inside-same None (Some m) h = absurd h
  class_inside-same (Some c) None h = absurd h
  class_inside-same (Some c) (Some m) h = inside-same c m h

  -- and what else is asked of a class
  pub parameters-same : (o : Option ClassScope) (p : Option made.ClassScope) → Both Is o p
      → option_map_or (λ (x : made.ClassScope). x.parameters) p 0 ≡ option_map_or (λ (x : ClassScope). length x.parameters) o 0
  parameters-same None None h = refl
  parameters-same None (Some m) h = absurd h
  parameters-same (Some c) None h = absurd h
  parameters-same (Some c) (Some m) h = h.0.parameters

  pub bounded-same : (o : Option ClassScope) (p : Option made.ClassScope) → Both Is o p
      → option_map_or (λ (x : made.ClassScope). x.is_bounded) p false ≡ option_map_or (λ (x : ClassScope). x.is_bounded) o false
  bounded-same None None h = refl
  bounded-same None (Some m) h = absurd h
  bounded-same (Some c) None h = absurd h
  bounded-same (Some c) (Some m) h = h.0.is_bounded

  pub static-same : (o : Option ClassScope) (p : Option made.ClassScope) → Both Is o p → (name : Text) → static_in p name ≡ words.static_in s o name
  static-same None None h name = refl
  static-same None (Some m) h name = absurd h
  static-same (Some c) None h name = absurd h
  static-same (Some c) (Some m) h name = h.0.names.behind name

  pub constructor-same : (o : Option ClassScope) (p : Option made.ClassScope) → Both Is o p → (id : Text) → constructor_in p id ≡ words.constructor_in s o id
  constructor-same None None h id = refl
  constructor-same None (Some m) h id = absurd h
  constructor-same (Some c) None h id = absurd h
  constructor-same (Some c) (Some m) h id = h.0.constructors id
