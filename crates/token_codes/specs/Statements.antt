-- What is proved of the readers of single tokens.
use Rattle.std.specs.Prelude.{false}
use Rattle.dart_token.specs.declared.sign.Sign.{Sign}
use Rattle.dart_token.specs.declared.sign.Sign.TheVariants as s
use Rattle.dart_token.specs.declared.word.Word.{Word}
use Rattle.grammar_laws.specs.Codes.{nowhere}
use Rattle.dart_syntax.specs.Leaves as p
use Rattle.token_codes.specs.Codes.{names, these, this_word}
use Rattle.token_codes.specs.Leaves.{sign, word, identifier, dot_name}
use Rattle.token_codes.specs.Reads.{Reads}

abbrev pub SignsRead : Type 0
SignsRead = (which : Sign) → Reads (sign which) (p.sign which) (these which) nowhere false

abbrev pub WordsRead : Type 0
WordsRead = (which : Word) → Reads (word which) (p.word which) (this_word which) nowhere false

abbrev pub NamesRead : Type 0
NamesRead = Reads identifier p.identifier names nowhere false × Reads dot_name p.dot_name
    (these s.Dot) nowhere false
