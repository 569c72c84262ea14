-- Means of proof: a dictionary that is being made, as far as the names of the table went into it.
use Rattle.std.proofs.Common.{◌≡◌, ◌∙◌, ◌++◌, ◌+◌, ◌<◌, ◌≤◌, inl, inr, ℕ, arith, List, length, slice_get, Option, Some, None, codes, decimal, sym, ap, subst}
use Rattle.std.specs.Str.{IsUtf8}
use Rattle.std.proofs.lemmas.Bool.{cases_lt}
use Rattle.std.proofs.lemmas.Option.{same_Some, slice_get_within}
use Rattle.dart_base.specs.Names.{AreDistinct}
use Rattle.scope_declared.specs.Number.{no_name, number_of}
use Rattle.scope_dictionary.specs.Written.{named}
use Rattle.scope_dictionary.proofs.Numbers.{name-of-number, number-past, number-of-name}

-- the texts with numbers below n mean what their numbers do, and others have no entry
pub record KnowsBelow {M X : Type 0} (texts : List (List ℕ)) (library : ℕ) (Sense : ℕ → M → Type 0) (sense : Option X → M) (found : List ℕ → Option X) (n : ℕ) : Type 0 where
  pub below : (text : List ℕ) → number_of texts library text < n → Sense (number_of texts library text) (sense (found text))
  pub above : (text : List ℕ) → n ≤ number_of texts library text → found text ≡ None

module _ (texts : List (List ℕ)) (library : ℕ) (name suffix : List ℕ) (n : ℕ) (end : suffix ≡ codes "@" ++ decimal library) where
  -- a text of the number has the name that stands there
  pub named-as : length texts ≤ no_name → slice_get texts n ≡ Some name → (text : List ℕ) → number_of texts library text ≡ n → named suffix text ≡ name
  named-as few at text same =
      ap (λ s. named s text) end ∙ same_Some _ _ (sym (name-of-number texts library text n few (slice_get_within texts n name at) same) ∙ at)

  -- and what has the name has its number
  pub number-as : AreDistinct texts → IsUtf8 name → slice_get texts n ≡ Some name → (text : List ℕ) → named suffix text ≡ name → number_of texts library text ≡ n
  number-as distinct valid at text same = number-of-name texts library text name n distinct valid at (sym (ap (λ s. named s text) end) ∙ same)

module _ {M X : Type 0} (texts : List (List ℕ)) (library : ℕ) (Sense : ℕ → M → Type 0) (sense : Option X → M) where
  pub knows-none : (found : List ℕ → Option X) → ((text : List ℕ) → found text ≡ None) → KnowsBelow texts library Sense sense found 0
  knows-none found empty = record { below = λ text less. absurd (omega (arith, less)); above = λ text le. empty text }

  pub knows-all : (found : List ℕ → Option X) (n : ℕ) → n ≡ length texts → Sense no_name (sense None) → KnowsBelow texts library Sense sense found n
      → (text : List ℕ) → Sense (number_of texts library text) (sense (found text))
  knows-all found n all nothing knows text = elim (cases_lt (number_of texts library text) n) [
    | inl less ↦ knows.below text less
    | inr past ↦
        subst (λ k. Sense k (sense (found text))) (sym (number-past texts library text (omega (arith, past, all))))
        (subst (λ o. Sense no_name (sense o)) (sym (knows.above text past)) nothing)
  ]

  -- one name more: its text means what its number does, and the others have what they had
  pub knows-next : (old new : List ℕ → Option X) (n : ℕ) (name suffix : List ℕ) (made : M)
      → suffix ≡ codes "@" ++ decimal library → AreDistinct texts → length texts ≤ no_name → slice_get texts n ≡ Some name → IsUtf8 name
      → Sense n made
      → ((text : List ℕ) → named suffix text ≡ name → old text ≡ None → sense (new text) ≡ made)
      → ((text : List ℕ) → (named suffix text ≡ name → ⊥) → new text ≡ old text)
      → KnowsBelow texts library Sense sense old n → KnowsBelow texts library Sense sense new (n + 1)
  knows-next old new n name suffix made end distinct few at valid means here apart knows = record {
    below = λ text less. elim (cases_lt (number_of texts library text) n) [
      | inl before ↦ subst (λ o. Sense (number_of texts library text) (sense o)) (sym (apart text (unlike text (λ same. omega (arith, before, same))))) (knows.below text before)
      | inr past ↦
          let same : number_of texts library text ≡ n = omega (arith, past, less) in
          subst (λ k. Sense k (sense (new text))) (sym same) (subst (Sense n) (sym (here text (is text same) (knows.above text past))) means)
    ];
    above = λ text past. apart text (unlike text (λ same. omega (arith, past, same))) ∙ knows.above text (omega (arith, past));
  }
    where
      is : (text : List ℕ) → number_of texts library text ≡ n → named suffix text ≡ name
      is = named-as texts library name suffix n end few at

      unlike : (text : List ℕ) → (number_of texts library text ≡ n → ⊥) → named suffix text ≡ name → ⊥
      unlike text other same = other (number-as texts library name suffix n end distinct valid at text same)
