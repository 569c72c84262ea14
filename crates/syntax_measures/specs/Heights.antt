-- Heights of trees against the depths at which they fit.
use Rattle.std.specs.Prelude.{ℕ, ◌≤◌}
use Rattle.dart_syntax.specs.Phrases.{Phrase}
use Rattle.syntax_measures.specs.Relations.{Relation}

-- each tree that fits the phrase has at most so many nodes above one another
pub record NoDeeper {A : Type 0} (height_of : A → ℕ) (n : ℕ) (p : Phrase A) : Type 0 where
  pub at_most : (a : A) → p.Fits a → height_of a ≤ n

abbrev pub no_deeper : ℕ → Relation
no_deeper n A height_of tokens p q = NoDeeper height_of n p

-- each tree of the one phrase that is no higher than this fits the other
pub record FitsBy {A : Type 0} (height_of : A → ℕ) (m : ℕ) (p q : Phrase A) : Type 0 where
  pub fits : (a : A) → p.Fits a → height_of a ≤ m → q.Fits a

abbrev pub fits_by : ℕ → Relation
fits_by m A height_of tokens p q = FitsBy height_of m p q
