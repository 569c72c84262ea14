use Rattle.std.proofs.Common.{◌≡◌, ◌<◌, ◌≤◌, ℕ, length, slice_index}
use Rattle.scope_outer.specs.Sense.{class_number}
use Rattle.scope_outer.proofs.sense.class_numbers.Given as goal

-- the numbers for those so far, and how many classes are among them
abbrev pub invariant-loop-one : goal.invariant-loop-one
invariant-loop-one l = (length l.made.items ≡ l.one-index) × (l.count ≡ class_number l.numbered l.one-index)
    × (l.count ≤ l.one-index)
    × ((n : ℕ) → n < l.one-index → slice_index l.made.items n ≡ class_number l.numbered n)
