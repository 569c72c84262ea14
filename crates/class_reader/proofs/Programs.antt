-- The program that has the classes of units is one whose table can be built.
use Rattle.std.proofs.Common.{◌≡◌, ℕ, zero, suc, ◌+◌, ◌<◌, ◌≤◌, ◌^◌, Bool, true, false, ◌||◌, ◌&&◌, List, [], ◌∷◌, map, length}
use Rattle.std.proofs.Common.{get_or, Option, Some, None, refl, sym, ap, ◌∙◌, subst, arith, zero-add, ⊎_elim}
use Rattle.std.specs.Prelude.{slice_get, nat_eq, codes, ◌==◌, All, bytes_eq, option_map, if◌then◌else◌}
use Rattle.std.proofs.lemmas.Bool.{eqb-true}
use Rattle.std.proofs.lemmas.List.{length-map}
use Rattle.std.proofs.lemmas.Option.{slice_get-map, slice_get_within, slice_get-get_or, slice_get_cases, get_or_from_slice_get}
use Rattle.std.proofs.lemmas.Slice.Eq.{bytes_eq-Decides}
use Rattle.core_program.specs.ProgramView.{text_at}
use Rattle.dart_base.specs.declared.name.Name.{Name}
use Rattle.dart_ir.specs.Ty.{ty, function_ty}
use Rattle.dart_ir.specs.declared.class.Role.{Role}
use Rattle.dart_ir.specs.declared.class.Role.TheVariants.{Method, Getter, Setter}
use Rattle.dart_ir.specs.declared.types.TypeRef.{TypeRef}
use Rattle.class_fault.specs.declared.program.Declaration.{Declaration}
use Rattle.class_fault.specs.declared.program.HeaderType.{HeaderType}
use Rattle.class_fault.specs.declared.program.Member.{Member}
use Rattle.class_fault.specs.declared.program.Program.{Program}
use Rattle.class_fault.specs.Program.{declaration_at, has_method, is_method}
use Rattle.class_table.specs.Program as table
use Rattle.translation.specs.Surroundings.{Text, Ty, Tables}
use Rattle.class_source.specs.Formed as formed
use Rattle.class_source.specs.Rows as r
use Rattle.class_source.specs.Source.{SourceUnit, Given, unit_classes, class_called, classes_of, core_library}
use Rattle.class_source.specs.Resolved.{IsResolved}
use Rattle.class_source.specs.View as shown
use Rattle.class_source.specs.View.{IsSource}
use Rattle.class_source.proofs.Declared.{rows_formed}
use Rattle.std.proofs.lemmas.Option.{same_Some}
use Rattle.class_reader.specs.Roots.{HasRoot, HasRoots, AreFew}
use Rattle.class_reader.proofs.Formed.{AreCounted, type_formed, header_formed}

-- ---- elements

seen_at : {A B : Type 0} (see : A → B) (xs : List A) (k : ℕ) (x : A) → slice_get xs k ≡ Some x → slice_get (map see xs) k ≡ Some (see x)
seen_at {A = A} see xs k x is = slice_get-map see xs k ∙ ap (λ (o : Option A). option_map see o) is

element : {A : Type 0} (xs : List A) (k : ℕ) → k < length xs → (x : A) × (slice_get xs k ≡ Some x)
element {A} xs k below = ⊎_elim (λ w. (w.0, w.2)) (λ w. absurd (omega (arith, w.0))) (slice_get_cases xs k).1

none_seen : {A B : Type 0} (see : A → B) (xs : List A) → map see xs ≡ [] → xs ≡ []
none_seen see [] is = refl
none_seen see (x ∷ xs) is = cc

no_superclass : (texts : List Text) (o : Option HeaderType) → shown.superclass texts o ≡ None → o ≡ None
no_superclass texts None is = refl
no_superclass texts (Some t) is = cc

-- ---- the declarations

row_at : (given : Given) (units : List SourceUnit) (texts : List Text) (p : Program) → IsSource given units texts p → (d : ℕ) (i : Declaration) →
    declaration_at p d ≡ Some i → slice_get (unit_classes given 0 units) d ≡ Some (shown.class texts i)
row_at given units texts p source d i is =
    ap (λ (l : List r.Class). slice_get l d) (sym source.classes) ∙ seen_at (shown.class texts) p.declarations.items d i is

size : (given : Given) (units : List SourceUnit) (texts : List Text) (p : Program) → IsSource given units texts p →
    length (unit_classes given 0 units) ≡ length p.declarations.items
size given units texts p source = ap length (sym source.classes) ∙ length-map p.declarations.items (shown.class texts)

counted : (given : Given) (units : List SourceUnit) (texts : List Text) (p : Program) → IsSource given units texts p → IsResolved given units → AreCounted given.tables p
counted given units texts p source resolved c below =
    let found = element p.declarations.items c below in
    (resolved.classes c (shown.class texts found.0) (row_at given units texts p source c found.0 found.1)).parameters
    ∙ length-map found.0.bounds.items (shown.bound texts) ∙ ap table.parameters_in (sym found.1)

header_in : (texts : List Text) (tables : Tables) (p : Program) → AreCounted tables p → (n : ℕ) (t : HeaderType) →
    formed.IsHeaderFormed tables (length p.declarations.items) n (shown.header_type texts t) → table.IsHeaderType p n t
header_in texts tables p counted n t is = header_formed (text_at texts) tables p counted n (ty t.of) is.0 is.1

headers_in : (texts : List Text) (tables : Tables) (p : Program) → AreCounted tables p → (n : ℕ) (ts : List HeaderType) →
    formed.AreHeadersFormed tables (length p.declarations.items) n (map (shown.header_type texts) ts) → All (table.IsHeaderType p n) ts
headers_in texts tables p counted n ts are = λ k d below. header_in texts tables p counted n (get_or ts k d)
    (are k (shown.header_type texts (get_or ts k d)) (seen_at (shown.header_type texts) ts k (get_or ts k d) (slice_get-get_or ts k d below)))

superclass_in : (texts : List Text) (tables : Tables) (p : Program) → AreCounted tables p → (n : ℕ) (o : Option HeaderType) →
    ((t : r.HeaderType) → shown.superclass texts o ≡ Some t → formed.IsHeaderFormed tables (length p.declarations.items) n t) → table.IsSuperclass p n o
superclass_in texts tables p counted n None is = tt
superclass_in texts tables p counted n (Some t) is = header_in texts tables p counted n t (is (shown.header_type texts t) refl)

bound_in : (texts : List Text) (tables : Tables) (p : Program) → AreCounted tables p → (n : ℕ) (o : Option TypeRef) →
    ((b : Ty) → shown.bound texts o ≡ Some b → formed.IsFormed tables (length p.declarations.items) n b) → table.IsBoundFormedIn p n o
bound_in texts tables p counted n None is = tt
bound_in texts tables p counted n (Some t) is = type_formed (text_at texts) tables p counted n (ty t) (is (shown.text_type texts t) refl)

declaration_in : (texts : List Text) (tables : Tables) (p : Program) (i : Declaration) → AreCounted tables p → length i.bounds.items < 2 ^ 32 →
    formed.IsRowFormed tables (length p.declarations.items) (shown.class texts i) → table.IsDeclaration p i
declaration_in texts tables p i counted few row =
    let n = length i.bounds.items in
    let classes = length p.declarations.items in
    let same : length (map (shown.bound texts) i.bounds.items) ≡ n = length-map i.bounds.items (shown.bound texts) in
    record {
      few = few;
      bounds = λ k d below. bound_in texts tables p counted n (get_or i.bounds.items k d) (λ b is.
          subst (λ (m : ℕ). formed.IsFormed tables classes m b) same (row.bounds k b
          (seen_at (shown.bound texts) i.bounds.items k (get_or i.bounds.items k d) (slice_get-get_or i.bounds.items k d below) ∙ ap (λ (o : Option Ty). Some o) is)));
      superclass = superclass_in texts tables p counted n i.superclass (λ t is.
          subst (λ (m : ℕ). formed.IsHeaderFormed tables classes m t) same (row.superclass t is));
      mixins = headers_in texts tables p counted n i.mixins.items
          (subst (λ (m : ℕ). formed.AreHeadersFormed tables classes m (map (shown.header_type texts) i.mixins.items)) same row.mixins);
      interfaces = headers_in texts tables p counted n i.interfaces.items
          (subst (λ (m : ℕ). formed.AreHeadersFormed tables classes m (map (shown.header_type texts) i.interfaces.items)) same row.interfaces);
      members = λ k d below. type_formed (text_at texts) tables p counted n (function_ty (get_or i.members.items k d).signature)
          (subst (λ (m : ℕ). formed.IsFormed tables classes m (shown.member texts (get_or i.members.items k d)).signature) same
          (row.members k (shown.member texts (get_or i.members.items k d))
          (seen_at (shown.member texts) i.members.items k (get_or i.members.items k d) (slice_get-get_or i.members.items k d below))));
    }

-- ---- Object and Function

or_false : (a b : Bool) → (a ≡ true → ⊥) → b ≡ false → (a || b) ≡ false
or_false true b other rest = absurd (other refl)
or_false false b other rest = rest

left_true : (a b : Bool) → (a && b) ≡ true → a ≡ true
left_true true b both = refl
left_true false b both = both

right_true : (a b : Bool) → (a && b) ≡ true → b ≡ true
right_true true b both = both
right_true false b both = absurd (cc)

method_is : (role : Role) → is_method role ≡ true → role ≡ Method
method_is Method is = refl
method_is Getter is = absurd (cc)
method_is Setter is = absurd (cc)

no_method : (texts : List Text) (call : Name) (ms : List Member) → text_at texts call.0 ≡ codes "call" →
    ((j : ℕ) (m : r.Member) → slice_get (map (shown.member texts) ms) j ≡ Some m → m.name ≡ codes "call" → m.role ≡ Method → ⊥) → has_method call ms ≡ false
no_method texts call [] named none = refl
no_method texts call (m ∷ ms) named none =
    or_false (m.name.0 == call.0 && is_method m.role) (has_method call ms)
    (λ is. none zero (shown.member texts m) refl
    (ap (text_at texts) (eqb-true m.name.0 call.0 (left_true (m.name.0 == call.0) (is_method m.role) is)) ∙ named)
    (method_is m.role (right_true (m.name.0 == call.0) (is_method m.role) is)))
    (no_method texts call ms named (λ j x is. none (suc j) x is))

-- the first class of a name is at no earlier place
called_low : (library : ℕ) (name : Text) (n : ℕ) (xs : List r.Class) → n ≤ class_called library name n xs
called_low library name n [] = omega arith
called_low library name n (x ∷ xs) = low (nat_eq x.library library && bytes_eq x.name name) (called_low library name (n + 1) xs)
  where
    low : (test : Bool) → n + 1 ≤ class_called library name (n + 1) xs → n ≤ (if test then n else class_called library name (n + 1) xs)
    low true more = omega arith
    low false more = omega arith

-- it has that name
called_named : (library : ℕ) (name : Text) (n : ℕ) (xs : List r.Class) (k : ℕ) (c : r.Class) → class_called library name n xs ≡ n + k → slice_get xs k ≡ Some c → c.name ≡ name
called_named library name n [] k c called is = cc
called_named library name n (x ∷ xs) zero c called is = here (nat_eq x.library library && bytes_eq x.name name) refl called
  where
    here : (test : Bool) → (nat_eq x.library library && bytes_eq x.name name) ≡ test → (if test then n else class_called library name (n + 1) xs) ≡ n + zero → c.name ≡ name
    here true tested same =
        let found : x ≡ c = cc in
        ap (λ (z : r.Class). z.name) (sym found)
        ∙ (bytes_eq-Decides x.name name).0 (right_true (nat_eq x.library library) (bytes_eq x.name name) tested)
    here false tested same = let low = called_low library name (n + 1) xs in absurd (omega (arith, low, same))
called_named library name n (x ∷ xs) (suc k) c called is =
    later (nat_eq x.library library && bytes_eq x.name name) (λ same. called_named library name (n + 1) xs k c same is) called
  where
    later : (test : Bool) → (class_called library name (n + 1) xs ≡ (n + 1) + k → c.name ≡ name) →
        (if test then n else class_called library name (n + 1) xs) ≡ n + suc k → c.name ≡ name
    later true rest same = absurd (omega (arith, same))
    later false rest same = rest (omega (arith, same))

two_roots : (given : Given) (units : List SourceUnit) → (classes_of given units).object < length (unit_classes given 0 units) → (classes_of given units).object ≡ (classes_of given units).function → ⊥
two_roots given units has_object same =
    let all = unit_classes given 0 units in
    let library = core_library units in
    let found = element all (classes_of given units).object has_object in
    let object : found.0.name ≡ codes "Object" =
    called_named library (codes "Object") 0 all (classes_of given units).object found.0 (sym (zero-add (classes_of given units).object)) found.1 in
    let function : found.0.name ≡ codes "Function" =
    called_named library (codes "Function") 0 all (classes_of given units).function found.0 (sym (zero-add (classes_of given units).function))
    (ap (λ (k : ℕ). slice_get all k) (sym same) ∙ found.1) in
    let lengths : 6 ≡ 8 = ap length (sym object ∙ function) in
    absurd (omega (arith, lengths))

-- ---- the program

few_at : (p : Program) (d : ℕ) (i : Declaration) → AreFew p → declaration_at p d ≡ Some i → length i.bounds.items < 2 ^ 32
few_at p d i few is = subst (λ (x : Declaration). length x.bounds.items < 2 ^ 32) (get_or_from_slice_get p.declarations.items d i i is)
    (few d i (slice_get_within p.declarations.items d i is))

-- a class that is declared so
pub rooted : (p : Program) (n : ℕ) (i : Declaration) → slice_get p.declarations.items n ≡ Some i → table.IsRoot p i → HasRoot p n
rooted p n i is root = record {
  declared = slice_get_within p.declarations.items n i is;
  root = λ j also. subst (λ (x : Declaration). table.IsRoot p x) (same_Some i j (sym is ∙ also)) root;
}

pub is_program : (given : Given) (units : List SourceUnit) (texts : List Text) (p : Program) → IsSource given units texts p → IsResolved given units →
    HasRoots p → AreFew p → table.IsProgram p
is_program given units texts p source resolved roots few =
    let all = unit_classes given 0 units in
    let same : length all ≡ length p.declarations.items = size given units texts p source in
    record {
      declarations = λ d i is. declaration_in texts given.tables p i (counted given units texts p source resolved) (few_at p d i few is)
          (subst (λ (k : ℕ). formed.IsRowFormed given.tables k (shown.class texts i)) same
          (rows_formed given units resolved d (shown.class texts i) (row_at given units texts p source d i is)));
      has_object = roots.object.declared;
      has_function = roots.function.declared;
      object = roots.object.root;
      function = roots.function.root;
      two = λ is. two_roots given units
          (let below = roots.object.declared in let at = source.object in omega (arith, below, at, same)) (sym source.object ∙ is ∙ source.function);
    }
