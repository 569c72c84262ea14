-- The laws of a reader of a phrase.
use Rattle.std.specs.Prelude.{ℕ, Bool, List}
use Rattle.dart_token.specs.declared.token.Token.{Token}
use Rattle.grammar_laws.specs.Readers.{Reader}
use Rattle.grammar_laws.specs.Laws.{Laws}
use Rattle.dart_syntax.specs.Phrases.{Phrase}
use Rattle.token_codes.specs.Codes.{class_of}

-- the reader finds the phrase's trees: `first` begins it, `next` goes on behind a tree, and a tree
-- may have no tokens
abbrev pub Reads : {A : Type 0} → Reader Token A → Phrase A → List ℕ → (A → List ℕ) → Bool → Type 0
Reads read p first next empty = Laws class_of read p.spelling p.Fits p.front first next empty
