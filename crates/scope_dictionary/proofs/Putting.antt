-- Means of proof: one dictionary more under a prefix.
use Rattle.std.proofs.Common.{◌≡◌, ◌∙◌, inl, inr, ℕ, List, Option, Some, is_some, nat_eq, sym, ap, subst}
use Rattle.std.specs.Prelude.{IsSome}
use Rattle.std.specs.Cmp.Lexicographic.{pointwise}
use Rattle.std.specs.Global.{Vec}
use Rattle.std.specs.HashMap.{HashMap, UpdatesBy}
use Rattle.std.proofs.lemmas.Option.{same_Some}
use Rattle.dart_base.specs.declared.name.Name.{Name}
use Rattle.scope_declared.specs.Number.{number_of}
use Rattle.scope_outer.specs.Outside.{Scopes}
use Rattle.scope_dictionary.specs.Entries.{at_text}
use Rattle.scope_dictionary.specs.Dictionary.{AreDictionaries, IsDictionary}
use Rattle.scope_dictionary.specs.declared.dictionary.Dictionary.{Dictionary}
use Rattle.scope_dictionary.proofs.Entries.{same-or-not, put-here, put-apart}

module _ {S : Type 0} (key : Vec ℕ) (old new : HashMap (Vec ℕ) Dictionary S) (made : Dictionary) (text : List ℕ)
    (is : key.items ≡ text) (updates : UpdatesBy (λ x y. pointwise nat_eq x.items y.items) (λ k. pointwise nat_eq key.items k.items) old new (Some made)) where
  -- it is there
  pub some-put : (other : List ℕ) → text ≡ other → IsSome (at_text new other)
  some-put other same = ap is_some (put-here key old new made text is updates other same)

  -- and what was there still is
  pub some-kept : (other : List ℕ) → IsSome (at_text old other) → IsSome (at_text new other)
  some-kept other had = elim (same-or-not text other) [
    | inl same ↦ some-put other same
    | inr differs ↦ ap is_some (put-apart key old new made text is updates other differs) ∙ had
  ]

  -- those that are there are dictionaries of their prefixes
  pub dictionaries-put : (texts : List (List ℕ)) (scopes : Scopes) (library : ℕ) (prefix : Name) → number_of texts library text ≡ prefix.0
      → IsDictionary texts scopes library (Some prefix) made → AreDictionaries texts scopes library old → AreDictionaries texts scopes library new
  dictionaries-put texts scopes library prefix number right sound = record {
    each = λ other d found. elim (same-or-not text other) [
      | inl same ↦
          let P : Option Name → Dictionary → Type 0 = λ p one. IsDictionary texts scopes library p one in
          let Q : ℕ → Type 0 = λ n. P (Some (record { 0 = n })) d in
          let this : made ≡ d = same_Some made d (sym (put-here key old new made text is updates other same) ∙ found) in
          subst Q (sym number ∙ ap (number_of texts library) same) (subst (P (Some prefix)) this right)
      | inr differs ↦ sound.each other d (sym (put-apart key old new made text is updates other differs) ∙ found)
    ];
  }
