-- Means of proof: the dictionaries of prefixes that are being made, as far as imports went into them.
use Rattle.std.proofs.Common.{◌≡◌, ◌∙◌, ◌+◌, ◌<◌, ◌≤◌, inl, inr, ℕ, true, true≢false, arith, List, length, slice_get, Option, Some, None, is_some, refl, sym, ap}
use Rattle.std.specs.Prelude.{IsSome}
use Rattle.std.specs.Global.{Vec}
use Rattle.std.specs.HashMap.{HashMap}
use Rattle.std.proofs.lemmas.Bool.{cases_lt}
use Rattle.std.proofs.lemmas.Bool.Decides.{Decides-eqb}
use Rattle.std.proofs.lemmas.Option.{same_Some, slice_get_read}
use Rattle.dart_base.specs.declared.name.Name.{Name}
use Rattle.scope_declared.specs.Number.{number_of}
use Rattle.scope_space.specs.declared.library.Import.{Import}
use Rattle.scope_space.specs.declared.library.Library.{Library}
use Rattle.scope_space.specs.declared.bound.Bound.TheVariants as b
use Rattle.scope_space.specs.Namespace.{Offers, is_under}
use Rattle.scope_outer.specs.Outside.{Scopes, MeansBehind, MeansBehind.bound_behind}
use Rattle.scope_dictionary.specs.Entries.{at_text}
use Rattle.scope_dictionary.specs.Dictionary.{AreDictionaries}
use Rattle.scope_dictionary.specs.Names.{meaning_behind}
use Rattle.scope_dictionary.specs.declared.dictionary.Dictionary.{Dictionary}

-- the prefixes of the first n imports have their dictionaries
pub record KnowsPrefixes {D : Type 0} (texts : List (List ℕ)) (library : ℕ) (imports : List Import) (found : List ℕ → Option D) (n : ℕ) : Type 0 where
  pub listed : (at : ℕ) (import : Import) (name : Name) → at < n → slice_get imports at ≡ Some import → import.prefix ≡ Some name
      → (prefix : List ℕ) → number_of texts library prefix ≡ name.0 → IsSome (found prefix)

module _ {D : Type 0} (texts : List (List ℕ)) (library : ℕ) (imports : List Import) where
  pub prefixes-none : (found : List ℕ → Option D) → KnowsPrefixes texts library imports found 0
  prefixes-none found = record { listed = λ at import name less. absurd (omega (arith, less)) }

  -- one import more
  pub prefixes-next : (old new : List ℕ → Option D) (n : ℕ) (next : Import) → slice_get imports n ≡ Some next
      → ((prefix : List ℕ) → IsSome (old prefix) → IsSome (new prefix))
      → ((name : Name) → next.prefix ≡ Some name → (prefix : List ℕ) → number_of texts library prefix ≡ name.0 → IsSome (new prefix))
      → KnowsPrefixes texts library imports old n → KnowsPrefixes texts library imports new (n + 1)
  prefixes-next old new n next at kept put knows = record {
    listed = λ k import name less here has prefix same. elim (cases_lt k n) [
      | inl before ↦ kept prefix (knows.listed k import name before here has prefix same)
      | inr past ↦
          let last : k ≡ n = omega (arith, past, less) in
          let is : import ≡ next = same_Some import next (sym here ∙ ap (slice_get imports) last ∙ at) in
          put name (ap (λ i. i.prefix) (sym is) ∙ has) prefix same
    ];
  }

-- an import that has the prefix has a name for it
named-prefix : (prefix : Name) (given : Option Name) → is_under (Some prefix) given ≡ true → (name : Name) × (given ≡ Some name) × (prefix.0 ≡ name.0)
named-prefix prefix None under = absurd (true≢false (sym under))
named-prefix prefix (Some name) under = (name, refl, sym ((Decides-eqb name.0 prefix.0).0 under))

-- what stands under no prefix of imports means nothing behind it
pub means-behind : {S : Type 0} (texts : List (List ℕ)) (scopes : Scopes) (library n : ℕ) (behind : HashMap (Vec ℕ) Dictionary S) (home : Library)
    → slice_get scopes.libraries library ≡ Some home → length home.imports.items ≤ n → AreDictionaries texts scopes library behind
    → KnowsPrefixes texts library home.imports.items (at_text behind) n
    → (prefix text : List ℕ) → MeansBehind scopes library (number_of texts library prefix) (number_of texts library text) (meaning_behind (at_text behind prefix) text)
means-behind texts scopes library n behind home is all sound knows prefix text = by (at_text behind prefix) refl
  where
    none : at_text behind prefix ≡ None → (owner : ℕ) → Offers scopes.libraries library (Some (record { 0 = number_of texts library prefix })) (number_of texts library text) owner → ⊥
    none lacks owner offers =
        let same = same_Some offers.library home (sym offers.is ∙ is) in
        let among = offers.among in
        let at = slice_get_read offers.library.imports.items (length offers.library.imports.items) among.0 offers.import refl among.1 (sym among.2) in
        let named = named-prefix (record { 0 = number_of texts library prefix }) offers.import.prefix offers.under in
        let short : length offers.library.imports.items ≡ length home.imports.items = ap (λ (l : Library). length l.imports.items) same in
        let some = knows.listed among.0 offers.import named.0 (omega (arith, among.1, short, all))
        (ap (λ (l : Library). slice_get l.imports.items among.0) (sym same) ∙ at) named.1 prefix named.2 in
        true≢false (sym some ∙ ap is_some lacks)

    by : (o : Option Dictionary) → at_text behind prefix ≡ o → MeansBehind scopes library (number_of texts library prefix) (number_of texts library text) (meaning_behind o text)
    by None e = bound_behind b.Unknown (none e)
    by (Some d) e = (sound.each prefix d e).each text
