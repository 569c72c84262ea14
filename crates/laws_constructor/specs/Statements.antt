-- What is proved of the braces of initialisers and blocks, and what it is proved for.
use Rattle.std.specs.Prelude.{ℕ, false, List}
use Rattle.dart_syntax.specs.Statements.{within}
use Rattle.dart_syntax.specs.Declarations as c
use Rattle.token_codes.specs.Codes.{plain_names}
use Rattle.token_codes.specs.Reads.{Reads}
use Rattle.laws_unit.specs.Statements.{MemberPartsReadAt}
use Rattle.laws_unit.specs.Members.{after_constructor, BlockReadAt, InitsCloseAt, ScannedAt, GenerativesFoundAt}
use Rattle.laws_unit.specs.Mending.{mended, LastBraceAt}

-- what is asked of the grammar where generative constructors are read (10.6.1 Generative Constructors, 17.1 Blocks)
pub record BracesCloseAt (n : ℕ) : Type 0 where
  pub inits : InitsCloseAt n
  pub scanned : ScannedAt n
  pub last : LastBraceAt n

abbrev pub BracesClose : Type 0
BracesClose = (n : ℕ) → BracesCloseAt n

-- generative constructors by the reader in use, and by the mended one
pub record ConstructorsFoundAt (n : ℕ) : Type 0 where
  pub found : GenerativesFoundAt n
  pub mends : (class : List ℕ) → Reads (mended n class) (c.generative_over (within n).nodes (c.init_within n) class) plain_names after_constructor false

abbrev pub ConstructorsFound : Type 0
ConstructorsFound = (n : ℕ) → MemberPartsReadAt n → BlockReadAt n → ConstructorsFoundAt n
