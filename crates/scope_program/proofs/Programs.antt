-- What is made for a program, as what its names mean.
use Rattle.std.proofs.Common.{◌≡◌, ◌∙◌, ℕ, ◌+◌, ◌<◌, Bool, cond, ◌&&◌, List, [], ◌∷◌, length, map, get_or, Option, Some, None, Result, Ok, Err, IfOk, bytes_eq, refl, sym, ap, subst}
use Rattle.std.specs.Prelude.{◌==◌, find, flat_map, position, slice_get, slice_index_or, unwrap_or, All}
use Rattle.std.specs.List.{AllZip, position_from}
use Rattle.std.specs.Option.{option_map, MatchOption, IsSomeAnd}
use Rattle.std.proofs.lemmas.List.{length-map}
use Rattle.std.proofs.lemmas.Option.{slice_get-map, slice_get_read, slice_get_within, get_or_from_slice_get}
use Rattle.std.proofs.lemmas.Slice.Zip.{AllZip-left, AllZip-long}
use Rattle.scope_declared.specs.declared.declaration.Declared.{Declared}
use Rattle.scope_load.specs.State.{State}
use Rattle.scope_library.specs.Library.{homes_of}
use Rattle.scope_library.specs.declared.library.TheConstants.{CORE_UNIT}
use Rattle.scope_name.specs.Names as table
use Rattle.scope_entry.specs.Entries.{entries, numbered}
use Rattle.scope_entry.specs.Kinds.{unit_kinds}
use Rattle.scope_entry.specs.Libraries.{AreLibraries}
use Rattle.scope_space.specs.Entry.{can_start, is_start}
use Rattle.scope_space.specs.Library.{is_named}
use Rattle.scope_space.specs.Namespace.{own, own_in}
use Rattle.scope_space.specs.declared.declaration.Declaration.{Declaration}
use Rattle.scope_space.specs.declared.library.Library.{Library}
use Rattle.scope_space.proofs.Parts.{find_filter}
use Rattle.dart_scope.specs.Program.{all_declared}
use Rattle.translation.specs.Surroundings.{Text}
use Rattle.scope_outer.specs.Outside.{Scopes}
use Rattle.scope_dictionary.specs.Names.{AreAllNames, AreNames, names_of}
use Rattle.scope_dictionary.specs.declared.library.LibraryNames.{LibraryNames}
use Rattle.scope_program.specs.Classes.{ClassScope, class_called, class_scopes}
use Rattle.scope_program.specs.Made.{AreClassesOf, IsClassOf, is_called, made_called, scoping_of}
use Rattle.scope_program.specs.Program.{AreScopes, IsScoping}
use Rattle.scope_program.specs.declared.class.ClassScope as made
use Rattle.scope_program.proofs.Positions.{position-from}

pub if-ok : {T E : Type 0} (r : Result T E) (P Q : T → Type 0) → ((x : T) → P x → Q x) → IfOk r P → IfOk r Q
if-ok (Ok x) P Q step h = step x h
if-ok (Err e) P Q step h = h

mapped-some : {A B : Type 0} (f : A → B) (o : Option A) (y : B) → option_map f o ≡ Some y → (x : A) × (o ≡ Some x) × (f x ≡ y)
mapped-some f None y e = cc
mapped-some f (Some x) y e = (x, refl, cc)

-- the names that the dictionaries of libraries are
pub names-each : (texts : List Text) (scopes : Scopes) (all : List LibraryNames) → AreAllNames texts scopes all → AreScopes texts scopes (map names_of all)
names-each texts scopes all h = record {
  count = length-map all names_of ∙ h.count;
  each = λ library names is.
      let found = mapped-some names_of (slice_get all library) names (sym (slice_get-map names_of all library) ∙ is) in
      subst (AreNames texts scopes library) found.2 (h.each library found.0 found.1);
}

from-zip : {A B : Type 0} (p : A → Bool) (q : B → Bool) (R : A → B → Type 0) → ((x : A) (y : B) → R x y → q y ≡ p x)
    → (n : ℕ) (xs : List A) (ys : List B) → AllZip R xs ys → position_from q n ys ≡ position_from p n xs
from-zip p q R same n [] [] h = refl
from-zip p q R same n [] (y ∷ ys) h = absurd h
from-zip p q R same n (x ∷ xs) [] h = absurd h
from-zip p q R same n (x ∷ xs) (y ∷ ys) h =
    ap (λ b. cond b (Some n) (position_from q (n + 1) ys)) (same x y h.0) ∙ ap (λ o. cond (p x) (Some n) o) (from-zip p q R same (n + 1) xs ys h.1)

module _ (texts : List Text) (numbered : List Declared) (all : List ClassScope) (classes : List made.ClassScope) (are : AreClassesOf texts numbered all classes) where
  -- the class of a name is found among what is made
  pub called : (library : ℕ) (name : Text) → made_called classes library name ≡ class_called all library name
  called library name =
      let p : ClassScope → Bool = λ c. c.library == library && bytes_eq c.name name in
      let q : made.ClassScope → Bool = is_called library name in
      let same : (x : ClassScope) (y : made.ClassScope) → IsClassOf texts numbered x y → q y ≡ p x =
      λ x y h. ap (λ n. n == library && bytes_eq y.name name) h.library ∙ ap (λ t. x.library == library && bytes_eq t name) h.name in
      ap (λ o. unwrap_or o (length classes))
      (position-from q classes ∙ from-zip p q (IsClassOf texts numbered) same 0 all classes are ∙ sym (position-from p all))
      ∙ ap (unwrap_or (position p all)) (AllZip-long (IsClassOf texts numbered) all classes are)

  -- each class stands in one of so many libraries, where what is made for it does
  pub housed : (count : ℕ) → All (λ (c : made.ClassScope). c.library < count) classes → (n : ℕ) (c : ClassScope) → slice_get all n ≡ Some c → c.library < count
  housed count h n c is =
      let either : ClassScope → Type 0 = λ x. IsSomeAnd (slice_get classes n) (IsClassOf texts numbered x) in
      by (slice_get classes n) refl (subst (λ o. MatchOption o (Unit {0}) either) is (AllZip-left (IsClassOf texts numbered) all classes are n))
    where
      by : (o : Option made.ClassScope) → slice_get classes n ≡ o → IsSomeAnd o (IsClassOf texts numbered c) → c.library < count
      by None e one = absurd one
      by (Some m) e one =
          let P : made.ClassScope → Type 0 = λ x. x.library < count in
          subst (λ k. k < count) one.library (subst P (get_or_from_slice_get classes n m m e) (h n m (slice_get_within classes n m e)))

-- the function by which the root library starts
pub started : (spaces ys : List Library) (name : ℕ) (root : Library) → ys ≡ spaces → 0 < length ys → root ≡ get_or ys 0 root
    → option_map (λ (d : Declaration). d.number) (find (is_start name) root.declarations)
    ≡ option_map (λ (d : Declaration). d.number) (find (λ (d : Declaration). can_start d.kind) (own spaces 0 name))
started spaces ys name root same below at =
    let first : slice_get spaces 0 ≡ Some root = ap (λ (l : List Library). slice_get l 0) (sym same) ∙ slice_get_read ys (length ys) 0 root refl below at in
    ap (option_map (λ (d : Declaration). d.number))
    (sym (ap (λ o. find (λ (d : Declaration). can_start d.kind) (own_in o name)) first ∙ find_filter (is_named name) (λ (d : Declaration). can_start d.kind) root.declarations))

-- what a loaded program's names mean, by what is made for it
pub scoping-made : (state : State) (kept texts : List Text) (homes : List ℕ) (all : List Declared) (spaces : List Library) (libraries : List LibraryNames)
    → homes ≡ homes_of state → kept ≡ table.kept_names homes state.units → texts ≡ table.all_names homes state.units
    → all ≡ numbered (all_declared kept homes state.units)
    → AreLibraries kept (entries kept all (flat_map unit_kinds state.units)) state spaces
    → AreAllNames kept (record { libraries = spaces; numbered = all }) libraries
    → IsScoping state (scoping_of kept texts homes all spaces libraries state.units)
scoping-made state kept texts homes all spaces libraries at named spelt numbers are names = record {
  kept = named ∙ ap (λ h. table.kept_names h state.units) at;
  texts = spelt ∙ ap (λ h. table.all_names h state.units) at;
  homes = at;
  numbered = numbers ∙ ap (λ h. numbered (all_declared kept h state.units)) at;
  spaces = spaces;
  are_libraries = are;
  names = names-each kept (record { libraries = spaces; numbered = all }) libraries names;
  classes = ap (λ h. class_scopes all h state.units) at;
  core = ap (λ h. slice_index_or h CORE_UNIT 0) at;
  main = refl;
}
