use Rattle.std.proofs.Common.{◌≡◌, List, ℕ, take, map}
use Rattle.std.specs.Option.{option_map, option_or}
use Rattle.translation.specs.Types.{text_of}
use Rattle.lower_leaf.specs.Around.{meaning}
use Rattle.scope_dictionary.specs.Entries.{at_text}
use Rattle.scope_class.specs.Inside.{parameter_sense}
use Rattle.scope_class.proofs.class.add_parameters.Given as goal

-- what texts mean with the first type parameters
abbrev pub invariant-loop-one : goal.invariant-loop-one
invariant-loop-one l = record {
  count : l.number ≡ l.one-index;
  known : (text : List ℕ) → option_map meaning (at_text l.senses text)
      ≡ option_or (option_map meaning (at_text l.fn.senses text)) (parameter_sense (map (λ one. text_of one.name) (take l.one-index l.parameters)) text);
}
