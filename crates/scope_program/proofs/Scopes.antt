-- What is made for the classes of units, declaration by declaration.
use Rattle.std.proofs.Common.{◌≡◌, ◌∙◌, ℕ, ◌+◌, ◌<◌, ◌≤◌, Bool, List, [], ◌∷◌, ◌++◌, length, map, take, get_or, Some, refl, sym, ap, subst, append_assoc}
use Rattle.std.specs.Prelude.{unwrap_or, flat_map}
use Rattle.std.proofs.lemmas.Grind.{flat_map-append}
use Rattle.std.proofs.lemmas.List.{append-nil, map-append, take_all, take_more}
use Rattle.std.proofs.lemmas.Slice.Zip.{all_zipped_more}
use Rattle.dart_base.specs.declared.place.Place.{Place}
use Rattle.dart_tree.specs.declared.declaration.Decl.{Decl}
use Rattle.dart_tree.specs.declared.declaration.TypeParameter.{TypeParameter}
use Rattle.dart_tree.specs.declared.identifier.Identifier.{Identifier}
use Rattle.dart_tree.specs.Unit as u
use Rattle.dart_tree.specs.UnitView as view
use Rattle.scope_declared.specs.declared.declaration.Declared.{Declared}
use Rattle.translation.specs.Surroundings.{Text}
use Rattle.translation.specs.Types.{text_of}
use Rattle.scope_program.specs.Classes.{ClassScope, declared_scope, number_at, position_of, scope_of, unit_scopes}
use Rattle.scope_program.specs.Made.{AreClassesOf, IsClassOf}
use Rattle.scope_program.specs.declared.class.ClassScope as made

pub number-found : (numbered : List Declared) (place : Place) (n : ℕ) → position_of numbered place ≡ Some n → number_at numbered place ≡ n
number-found numbered place n e = ap (λ o. unwrap_or o (length numbered)) e

-- the texts of type parameters, as their trees are seen
pub texts-seen : (all : List TypeParameter)
    → map (λ (p : TypeParameter). text_of p.name) all ≡ map (λ (p : u.TypeParameter). text_of p.name) (map view.type_parameter all)
texts-seen [] = refl
texts-seen (x ∷ xs) = ap (λ l. text_of x.name ∷ l) (texts-seen xs)

-- one declaration more of a unit
unit-more : (numbered : List Declared) (library : ℕ) (xs : List Decl) (i : ℕ) (x : Decl) → i < length xs → x ≡ get_or xs i x
    → unit_scopes numbered library (map view.decl (take (i + 1) xs))
    ≡ unit_scopes numbered library (map view.decl (take i xs)) ++ declared_scope numbered library (view.decl_kind x.kind)
unit-more numbered library xs i x below at =
    let scopes = λ (d : u.Decl). declared_scope numbered library d.kind in
    ap (λ l. flat_map scopes (map view.decl l)) (take_more xs i x below ∙ ap (λ (y : Decl). take i xs ++ y ∷ []) (sym at))
    ∙ ap (flat_map scopes) (map-append view.decl (take i xs) (x ∷ []))
    ∙ flat_map-append scopes (map view.decl (take i xs)) (view.decl x ∷ [])
    ∙ ap (λ l. unit_scopes numbered library (map view.decl (take i xs)) ++ l) (append-nil (declared_scope numbered library (view.decl_kind x.kind)))

module _ (texts : List Text) (numbered : List Declared) where
  -- the scope of a class, by what is written of it
  pub scope-as : (library : ℕ) (name : Identifier) (made : made.ClassScope) (p q : List u.TypeParameter) (a b : Bool) (m n : List u.Member) → p ≡ q → a ≡ b → m ≡ n
      → IsClassOf texts numbered (scope_of numbered library name p a m) made → IsClassOf texts numbered (scope_of numbered library name q b n) made
  scope-as library name made p q a b m n same_parameters same_mixed same_members h =
      let P : ClassScope → Type 0 = λ c. IsClassOf texts numbered c made in
      subst P (ap (λ x. scope_of numbered library name x a m) same_parameters ∙ ap (λ x. scope_of numbered library name q x m) same_mixed
      ∙ ap (λ x. scope_of numbered library name q b x) same_members) h

  -- one class more
  pub class-more : (before : List ClassScope) (old new : List made.ClassScope) (c : ClassScope) (made : made.ClassScope) → new ≡ old ++ made ∷ []
      → AreClassesOf texts numbered before old → IsClassOf texts numbered c made → AreClassesOf texts numbered (before ++ c ∷ []) new
  class-more before old new c made is h one =
      subst (AreClassesOf texts numbered (before ++ c ∷ [])) (sym is) (all_zipped_more (IsClassOf texts numbered) before old c made h one)

  -- nothing more
  pub nothing-more : (before : List ClassScope) (classes : List made.ClassScope) → AreClassesOf texts numbered before classes → AreClassesOf texts numbered (before ++ []) classes
  nothing-more before classes h = subst (λ (l : List ClassScope). AreClassesOf texts numbered l classes) (sym (append-nil before)) h

  -- some more and others, in another grouping
  pub grouped : (before first rest : List ClassScope) (classes : List made.ClassScope) → AreClassesOf texts numbered ((before ++ first) ++ rest) classes
      → AreClassesOf texts numbered (before ++ (first ++ rest)) classes
  grouped before first rest classes h = subst (λ (l : List ClassScope). AreClassesOf texts numbered l classes) (append_assoc before first rest) h

  -- one declaration more of a unit, and none
  pub unit-step : (library : ℕ) (xs ys : List Decl) (i : ℕ) (x : Decl) (before : List ClassScope) (classes : List made.ClassScope) → ys ≡ xs → i < length ys → x ≡ get_or ys i x
      → AreClassesOf texts numbered ((before ++ unit_scopes numbered library (map view.decl (take i xs))) ++ declared_scope numbered library (view.decl_kind x.kind)) classes
      → AreClassesOf texts numbered (before ++ unit_scopes numbered library (map view.decl (take (i + 1) xs))) classes
  unit-step library xs ys i x before classes same below at h =
      let in_xs : i < length xs = subst (λ (l : List Decl). i < length l) same below in
      let is : x ≡ get_or xs i x = subst (λ (l : List Decl). x ≡ get_or l i x) same at in
      subst (λ (l : List ClassScope). AreClassesOf texts numbered (before ++ l) classes) (sym (unit-more numbered library xs i x in_xs is))
      (grouped before (unit_scopes numbered library (map view.decl (take i xs))) (declared_scope numbered library (view.decl_kind x.kind)) classes h)

  pub unit-end : (library : ℕ) (xs ys : List Decl) (i : ℕ) (before : List ClassScope) (classes : List made.ClassScope) → ys ≡ xs → length ys ≤ i
      → AreClassesOf texts numbered (before ++ unit_scopes numbered library (map view.decl (take i xs))) classes
      → AreClassesOf texts numbered (before ++ unit_scopes numbered library (map view.decl xs)) classes
  unit-end library xs ys i before classes same past h =
      let all : take i xs ≡ xs = take_all i xs (subst (λ (l : List Decl). length l ≤ i) same past) in
      subst (λ (l : List Decl). AreClassesOf texts numbered (before ++ unit_scopes numbered library (map view.decl l)) classes) all h
