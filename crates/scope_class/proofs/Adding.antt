-- What a table of texts has with one declaration more.
use Rattle.std.proofs.Common.{◌≡◌, ◌∙◌, ◌↔◌, inl, inr, ℕ, ◌+◌, ◌<◌, ◌≤◌, Bool, true, false, cond, ◌&&◌, List, length, take, get_or, slice_get, Option, Some, refl, sym, ap, subst}
use Rattle.std.specs.Prelude.{◌==◌}
use Rattle.std.specs.Option.{option_map}
use Rattle.std.specs.List.{enumerate_from}
use Rattle.std.specs.Str.{IsUtf8}
use Rattle.std.proofs.lemmas.Bool.Decides.{Decides-eqb}
use Rattle.std.proofs.lemmas.Option.{same_Some}
use Rattle.dart_base.specs.Names.{AreDistinct}
use Rattle.scope_declared.specs.Number.{no_name, number_in}
use Rattle.scope_declared.specs.declared.declaration.DeclaredKind.{DeclaredKind}
use Rattle.scope_declared.specs.declared.declaration.Declared.{Declared}
use Rattle.scope_declared.proofs.Finding.{number-found}
use Rattle.lower_leaf.specs.declared.meaning.Meaning.{Meaning}
use Rattle.lower_leaf.specs.Around.{meaning}
use Rattle.translation.specs.Surroundings as m
use Rattle.scope_dictionary.specs.Written.{named}
use Rattle.scope_dictionary.proofs.Numbers.{text-at-number}
use Rattle.scope_dictionary.proofs.Entries.{same-or-not}
use Rattle.scope_class.specs.Members.{sense, naming}
use Rattle.scope_class.specs.Building.{joined, added}
use Rattle.scope_class.proofs.Senses.{naming-push}

unlike : (x y : ℕ) → (x ≡ y → ⊥) → (x == y) ≡ false
unlike x y apart = by (x == y) refl
  where
    by : (b : Bool) → (x == y) ≡ b → (x == y) ≡ false
    by true e = absurd (apart ((Decides-eqb x y).0 e))
    by false e = e

module _ (texts : List (List ℕ)) (suffix name : List ℕ) (n : ℕ) (one : Declared) (few : length texts ≤ no_name) (less : one.name.0 < length texts)
    (at : slice_get texts one.name.0 ≡ Some name) where
  -- a text of the declaration's number has its name
  has-name : (text : List ℕ) → one.name.0 ≡ number_in texts (named suffix text) → named suffix text ≡ name
  has-name text same = same_Some _ _ (sym (text-at-number texts (named suffix text) one.name.0 few less (sym same)) ∙ at)

  added-not : (text : List ℕ) (had : Option m.Meaning) → (named suffix text ≡ name → ⊥) → had ≡ added texts suffix n one had text
  added-not text had apart =
      sym (ap (λ b. cond b (Some (joined had n one.kind)) had) (unlike one.name.0 (number_in texts (named suffix text)) (λ same. apart (has-name text same))))

  -- the name of no text
  pub member-left : ((text : List ℕ) → named suffix text ≡ name → ⊥) → (old : List ℕ → Option Meaning) (text : List ℕ)
      → option_map meaning (old text) ≡ added texts suffix n one (option_map meaning (old text)) text
  member-left none old text = added-not text (option_map meaning (old text)) (none text)

  -- the name of a text
  pub member-added : AreDistinct texts → IsUtf8 name → (written : List ℕ) → ((text : List ℕ) → named suffix text ≡ name ↔ Some written ≡ Some text)
      → (old new : List ℕ → Option Meaning) (found : Meaning) → meaning found ≡ joined (option_map meaning (old written)) n one.kind
      → ((text : List ℕ) → written ≡ text → new text ≡ Some found) → ((text : List ℕ) → (written ≡ text → ⊥) → new text ≡ old text)
      → (text : List ℕ) → option_map meaning (new text) ≡ added texts suffix n one (option_map meaning (old text)) text
  member-added distinct valid written is old new found means here apart text = elim (same-or-not written text) [
    | inl same ↦
        let P : List ℕ → Type 0 = λ t. option_map meaning (new t) ≡ added texts suffix n one (option_map meaning (old t)) t in
        let number : one.name.0 ≡ number_in texts (named suffix written) =
        number-found texts name one.name.0 valid distinct at ∙ ap (number_in texts) (sym ((is written).1 refl)) in
        subst P same (ap (option_map meaning) (here written refl) ∙ ap Some means
        ∙ sym (ap (λ b. cond b (Some (joined (option_map meaning (old written)) n one.kind)) (option_map meaning (old written))) ((Decides-eqb _ _).1 number)))
    | inr differs ↦
        ap (option_map meaning) (apart text differs)
        ∙ added-not text (option_map meaning (old text)) (λ same. differs (same_Some written text ((is text).0 same)))
  ]

-- one declaration more among those of a class
pub senses-next : (is : DeclaredKind → Bool) (texts : List (List ℕ)) (suffix : List ℕ) (first i number : ℕ) (xs : List Declared) (x : Declared)
    → i < length xs → x ≡ get_or xs i x → number ≡ first + i → (old new : List ℕ → Option m.Meaning)
    → ((text : List ℕ) → old text ≡ sense (naming is (enumerate_from first (take i xs)) (number_in texts (named suffix text))))
    → (is x.kind ≡ true → (text : List ℕ) → new text ≡ added texts suffix number x (old text) text)
    → (is x.kind ≡ false → (text : List ℕ) → new text ≡ old text)
    → (text : List ℕ) → new text ≡ sense (naming is (enumerate_from first (take (i + 1) xs)) (number_in texts (named suffix text)))
senses-next is texts suffix first i number xs x below at count old new known more left text =
    by (is x.kind) refl ∙ sym (naming-push is first xs i x name below at)
  where
    name : ℕ
    name = number_in texts (named suffix text)

    had : Option m.Meaning
    had = sense (naming is (enumerate_from first (take i xs)) name)

    by : (b : Bool) → is x.kind ≡ b → new text ≡ cond (is x.kind && x.name.0 == name) (Some (joined had (first + i) x.kind)) had
    by true e =
        more e text ∙ ap (λ o. cond (x.name.0 == name) (Some (joined o number x.kind)) o) (known text)
        ∙ ap (λ n. cond (x.name.0 == name) (Some (joined had n x.kind)) had) count
        ∙ sym (ap (λ b. cond (b && x.name.0 == name) (Some (joined had (first + i) x.kind)) had) e)
    by false e = left e text ∙ known text ∙ sym (ap (λ b. cond (b && x.name.0 == name) (Some (joined had (first + i) x.kind)) had) e)
