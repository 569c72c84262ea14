use Rattle.std.proofs.Common.{◌≡◌, ◌+◌, List, ℕ, take}
use Rattle.std.specs.Option.{option_map}
use Rattle.std.specs.List.{enumerate_from}
use Rattle.scope_declared.specs.Number.{number_in}
use Rattle.lower_leaf.specs.Around.{meaning}
use Rattle.scope_dictionary.specs.Entries.{at_text}
use Rattle.scope_dictionary.specs.Written.{named}
use Rattle.scope_class.specs.Members.{naming, sense}
use Rattle.scope_class.specs.Inside.{selects}
use Rattle.scope_class.proofs.members.senses_of.Given as goal

-- what the first declarations make texts mean
abbrev pub invariant-loop-one : goal.invariant-loop-one
invariant-loop-one l = record {
  count : l.number ≡ l.first + l.one-index;
  known : (text : List ℕ) → option_map meaning (at_text l.senses text)
      ≡ sense (naming (selects l.wanted) (enumerate_from l.first (take l.one-index l.inside)) (number_in l.names (named l.suffix text)));
}
