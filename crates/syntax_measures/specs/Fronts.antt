-- That a larger depth accepts more: what fits a phrase, and what begins it.
use Rattle.std.specs.Prelude.{◌≡◌, List}
use Rattle.dart_token.specs.declared.token.Token.{Token}
use Rattle.dart_syntax.specs.Phrases.{Phrase}
use Rattle.syntax_measures.specs.Relations.{Relation}

-- the second phrase accepts all that the first does
pub record Grows {A : Type 0} (p q : Phrase A) : Type 0 where
  -- a tree has the same tokens in both
  pub same : (a : A) → p.spelling a ≡ q.spelling a
  -- each tree that fits the first fits the second
  pub fits : (a : A) → p.Fits a → q.Fits a
  -- and each list of tokens that begins the first begins the second
  pub begins : (ts : List Token) → p.front ts → q.front ts

abbrev pub grows : Relation
grows A height_of tokens p q = Grows p q
