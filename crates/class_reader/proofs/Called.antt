-- The first class of a name.
use Rattle.std.proofs.Common.{◌≡◌, ℕ, ◌+◌, ◌<◌, ◌≤◌, Bool, true, false, ◌&&◌, if◌then◌else◌, List, [], ◌∷◌, map, length}
use Rattle.std.proofs.Common.{get_or, drop, Option, Some, None, refl, sym, ap, ◌∙◌, eq-eqb, eqb-true}
use Rattle.std.specs.Prelude.{nat_eq, unwrap_or, slice_get}
use Rattle.std.specs.Str.{bytes_eq}
use Rattle.std.proofs.lemmas.Slice.Eq.{bytes_eq-Decides}
use Rattle.dart_base.specs.Names.{AreDistinct}
use Rattle.core_program.specs.ProgramView.{text_at}
use Rattle.class_source.specs.Rows.{Class}
use Rattle.class_source.specs.Source.{class_called}
use Rattle.class_reader.proofs.Items.{rest_at, none_at}

taken : (test : Bool) (a b : ℕ) → test ≡ true → (if test then a else b) ≡ a
taken true a b true_one = refl
taken false a b true_one = absurd (cc)

untaken : (test : Bool) (a b : ℕ) → (test ≡ true → ⊥) → (if test then a else b) ≡ b
untaken true a b not = absurd (not refl)
untaken false a b not = refl

both : (a b : Bool) → a ≡ true → b ≡ true → (a && b) ≡ true
both true true p q = refl
both true false p q = q
both false b p q = p

first_of : (a b : Bool) → (a && b) ≡ true → a ≡ true
first_of true b p = refl
first_of false b p = p

second_of : (a b : Bool) → (a && b) ≡ true → b ≡ true
second_of true b p = p
second_of false b p = absurd (cc)

-- it is the first of these classes
called_here : (library : ℕ) (name : List ℕ) (n : ℕ) (x : Class) (xs : List Class) → x.library ≡ library → x.name ≡ name →
    class_called library name n (x ∷ xs) ≡ n
called_here library name n x xs same named =
    taken (nat_eq x.library library && bytes_eq x.name name) n (class_called library name (n + 1) xs)
    (both (nat_eq x.library library) (bytes_eq x.name name) (eq-eqb x.library library same) ((bytes_eq-Decides x.name name).1 named))

-- the first of these classes is another
called_past : (library : ℕ) (name : List ℕ) (n : ℕ) (x : Class) (xs : List Class) → (x.library ≡ library → x.name ≡ name → ⊥) →
    class_called library name n (x ∷ xs) ≡ class_called library name (n + 1) xs
called_past library name n x xs other =
    untaken (nat_eq x.library library && bytes_eq x.name name) n (class_called library name (n + 1) xs)
    (λ true_one. other (eqb-true x.library library (first_of (nat_eq x.library library) (bytes_eq x.name name) true_one))
    ((bytes_eq-Decides x.name name).0 (second_of (nat_eq x.library library) (bytes_eq x.name name) true_one)))

some_text : (o : Option (List ℕ)) (name : List ℕ) → (name ≡ [] → ⊥) → unwrap_or o [] ≡ name → o ≡ Some name
some_text None name some named = absurd (some (sym named))
some_text (Some x) name some named = ap (λ (z : List ℕ). Some z) named

-- where no text has two numbers, names of one text are one
pub one_name : (texts : List (List ℕ)) (name : List ℕ) (i j : ℕ) → AreDistinct texts → (name ≡ [] → ⊥) → text_at texts i ≡ name → text_at texts j ≡ name → i ≡ j
one_name texts name i j distinct some first second =
    distinct i j name (some_text (slice_get texts i) name some first) (some_text (slice_get texts j) name some second)

-- the first class of the name from class i on is that among all of them
abbrev pub called_from : {B : Type 0} → (B → Class) → ℕ → List ℕ → List B → ℕ → ℕ
called_from see library name all i = class_called library name i (map see (drop i all))

pub called_found : {B : Type 0} (see : B → Class) (library : ℕ) (name : List ℕ) (all ys : List B) (i : ℕ) (x : B) (whole : ℕ) → ys ≡ all → i < length ys → x ≡ get_or ys i x →
    (see x).library ≡ library → (see x).name ≡ name → called_from see library name all i ≡ whole → i ≡ whole
called_found {B = B} see library name all ys i x whole same below is there named done =
    sym (called_here library name i (see x) (map see (drop (i + 1) all)) there named)
    ∙ ap (λ (l : List B). class_called library name i (map see l)) (sym (rest_at all ys i x same below is)) ∙ done

pub called_more : {B : Type 0} (see : B → Class) (library : ℕ) (name : List ℕ) (all ys : List B) (i : ℕ) (x : B) (whole : ℕ) → ys ≡ all → i < length ys → x ≡ get_or ys i x →
    ((see x).library ≡ library → (see x).name ≡ name → ⊥) → called_from see library name all i ≡ whole → called_from see library name all (i + 1) ≡ whole
called_more {B = B} see library name all ys i x whole same below is other done =
    sym (called_past library name i (see x) (map see (drop (i + 1) all)) other)
    ∙ ap (λ (l : List B). class_called library name i (map see l)) (sym (rest_at all ys i x same below is)) ∙ done

pub called_end : {B : Type 0} (see : B → Class) (library : ℕ) (name : List ℕ) (all ys : List B) (i : ℕ) (whole : ℕ) → ys ≡ all → length ys ≤ i →
    called_from see library name all i ≡ whole → i ≡ whole
called_end {B = B} see library name all ys i whole same past done =
    ap (λ (l : List B). class_called library name i (map see l)) (sym (none_at all ys i same past)) ∙ done
