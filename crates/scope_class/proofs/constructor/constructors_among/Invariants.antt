use Rattle.std.proofs.Common.{◌≡◌, ◌+◌, ◌≤◌, List, ℕ, length, take}
use Rattle.std.specs.Option.{option_map}
use Rattle.std.specs.List.{enumerate_from}
use Rattle.lower_leaf.specs.Around.{constructor}
use Rattle.scope_dictionary.specs.Entries.{at_text}
use Rattle.scope_class.specs.Constructors.{constructor_among, constructors_among}
use Rattle.scope_class.proofs.constructor.constructors_among.Given as goal

-- the constructors among the first declarations
abbrev pub invariant-loop-one : goal.invariant-loop-one
invariant-loop-one l = record {
  count : l.number ≡ l.first + l.one-index;
  within : l.place ≤ l.one-index;
  placed : l.place ≡ length (constructors_among (enumerate_from l.first (take l.one-index l.inside)));
  known : (id : List ℕ) → option_map constructor (at_text l.made id) ≡ constructor_among l.names (enumerate_from l.first (take l.one-index l.inside)) l.ways id;
}
