-- Names mean the same in libraries that are alike.
use Rattle.std.proofs.Common.{◌≡◌, ◌∙◌, ℕ, List, Option, Some, refl, sym, ap}
use Rattle.std.specs.List.{AllZip}
use Rattle.std.proofs.lemmas.Slice.Zip.{AllZip-long}
use Rattle.dart_base.specs.declared.name.Name.{Name}
use Rattle.scope_declared.specs.Number.{number_of}
use Rattle.scope_declared.specs.declared.declaration.Declared.{Declared}
use Rattle.scope_space.specs.declared.library.Library.{Library}
use Rattle.scope_space.specs.declared.bound.Bound.{Bound}
use Rattle.scope_space.specs.declared.bound.Bound.TheVariants as b
use Rattle.scope_space.specs.declared.bound.Binding.{Binding}
use Rattle.scope_space.specs.declared.bound.Binding.TheVariants.{Own, Prefix, Imported}
use Rattle.scope_space.proofs.Once.{once_bound, once_meant}
use Rattle.translation.specs.Surroundings.{Text, Meaning, Names}
use Rattle.scope_outer.specs.Sense.{sense}
use Rattle.scope_outer.specs.Outside.{Scopes, own_sense, bound_sense, binding_sense, Means, Means.bound_to, MeansBehind, MeansBehind.bound_behind}
use Rattle.scope_dictionary.specs.Names.{AreNames}
use Rattle.scope_program.specs.Program.{AreScopes}
use Rattle.laws_scope.proofs.Lists.{same_list}
use Rattle.laws_scope.proofs.Alike.{AreAlike}
use Rattle.laws_scope.proofs.Over.{own_over, bound_over, binding_over}

module _ (xs ys : List Library) (alike : AllZip AreAlike xs ys) (turned : AllZip AreAlike ys xs) (numbered : List Declared) where
  abbrev one : Scopes
  one = record { libraries = xs; numbered = numbered }

  abbrev other : Scopes
  other = record { libraries = ys; numbered = numbered }

  own_same : (library name : ℕ) → own_sense other library name ≡ own_sense one library name
  own_same library name = ap (sense numbered) (own_over xs ys alike library name)

  bound_same : (name : ℕ) (bound : Bound) → bound_sense other name bound ≡ bound_sense one name bound
  bound_same name (b.Given owner) = own_same owner name
  bound_same name b.Ambiguous = refl
  bound_same name b.Unknown = refl

  binding_same : (library name : ℕ) (binding : Binding) → binding_sense other library name binding ≡ binding_sense one library name binding
  binding_same library name Own = own_same library name
  binding_same library name Prefix = refl
  binding_same library name (Imported bound) = bound_same name bound

  -- a name means one thing in a library, and behind a prefix
  means_same : (library name : ℕ) (this that : Meaning) → Means one library name this → Means other library name that → that ≡ this
  means_same library name this that (bound_to binding h) (bound_to binding' k) =
      let back = binding_over ys xs turned alike library name binding' k in
      binding_same library name binding' ∙ ap (binding_sense one library name) (once_meant xs library name binding' binding back h)

  behind_same : (library prefix name : ℕ) (this that : Meaning) → MeansBehind one library prefix name this
      → MeansBehind other library prefix name that → that ≡ this
  behind_same library prefix name this that (bound_behind bound h) (bound_behind bound' k) =
      let under : Option Name = Some (record { 0 = prefix }) in
      let back = bound_over ys xs turned alike library under name bound' k in
      bound_same name bound' ∙ ap (bound_sense one name) (once_bound xs library under name bound' bound back h)

  -- the names of a library are one function
  names_same : (texts : List Text) (library : ℕ) (this that : Names) → AreNames texts one library this → AreNames texts other library that
      → that ≡ this
  names_same texts library this that h k =
      let number = number_of texts library in
      let same_meaning : that.meaning ≡ this.meaning =
      λ i text. means_same library (number text) (this.meaning text) (that.meaning text) (h.meaning text) (k.meaning text) i in
      let same_prefixed : that.prefixed ≡ this.prefixed =
      λ i prefix text. behind_same library (number prefix) (number text) (this.prefixed prefix text) (that.prefixed prefix text)
      (h.prefixed prefix text) (k.prefixed prefix text) i in
      λ i. record { library = (k.of ∙ sym h.of) i; meaning = same_meaning i; prefixed = same_prefixed i }

  -- the names of all libraries are one list
  pub scopes_same : (texts : List Text) (this that : List Names) → AreScopes texts one this → AreScopes texts other that → that ≡ this
  scopes_same texts this that h k = same_list this that (k.count ∙ AllZip-long AreAlike xs ys alike ∙ sym h.count)
      (λ library x y at_x at_y. names_same texts library x y (h.each library x at_x) (k.each library y at_y))
