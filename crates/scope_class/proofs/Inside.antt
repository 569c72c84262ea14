-- What a class makes texts mean, from the tables that were made for it.
use Rattle.std.proofs.Common.{◌≡◌, ◌∙◌, ◌++◌, ◌+◌, ℕ, Bool, true, false, cond, List, [], drop, codes, decimal, append-nil, Option, refl, ap}
use Rattle.std.specs.Option.{option_or}
use Rattle.std.specs.List.{before_first, enumerate_from}
use Rattle.scope_declared.specs.Number.{is_private, number_in, number_of}
use Rattle.scope_declared.specs.declared.declaration.Declared.{Declared}
use Rattle.translation.specs.Surroundings.{Meaning}
use Rattle.scope_dictionary.specs.Written.{named}
use Rattle.scope_class.specs.Members.{is_member, is_static, stands_outermost, naming, sense, static_sense}
use Rattle.scope_class.specs.Inside.{own_sense, parameter_sense}

-- without a suffix each text is its own name
unmarked : (text : List ℕ) → named [] text ≡ text
unmarked text = by (is_private text)
  where
    by : (b : Bool) → cond b (text ++ []) text ≡ text
    by true = append-nil text
    by false = refl

module _ (texts : List (List ℕ)) (numbered inside : List Declared) (n : ℕ) (is : inside ≡ before_first stands_outermost (drop (n + 1) numbered)) where
  pub class-inside : (library : ℕ) (parameters : List (List ℕ)) (suffix : List ℕ) → suffix ≡ codes "@" ++ decimal library → (senses new : List ℕ → Option Meaning)
      → ((text : List ℕ) → senses text ≡ sense (naming is_member (enumerate_from (n + 1) inside) (number_in texts (named suffix text))))
      → ((text : List ℕ) → new text ≡ option_or (senses text) (parameter_sense parameters text))
      → (text : List ℕ) → new text ≡ own_sense texts numbered library n parameters text
  unfolding number_of
  class-inside library parameters suffix end senses new members all text =
      all text
      ∙ ap (λ o. option_or o (parameter_sense parameters text)) (members text
      ∙ ap (λ s. sense (naming is_member (enumerate_from (n + 1) inside) (number_in texts (named s text)))) end
      ∙ ap (λ (l : List Declared). sense (naming is_member (enumerate_from (n + 1) l) (number_of texts library text))) is)

  pub class-behind : (statics : List ℕ → Option Meaning)
      → ((text : List ℕ) → statics text ≡ sense (naming is_static (enumerate_from (n + 1) inside) (number_in texts (named [] text))))
      → (text : List ℕ) → statics text ≡ static_sense numbered n (number_in texts text)
  class-behind statics known text =
      known text
      ∙ ap (λ t. sense (naming is_static (enumerate_from (n + 1) inside) (number_in texts t))) (unmarked text)
      ∙ ap (λ (l : List Declared). sense (naming is_static (enumerate_from (n + 1) l) (number_in texts text))) is
