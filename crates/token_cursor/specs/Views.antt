-- What contracts see of the pieces of strings that are read.
use Rattle.std.specs.Prelude.{ℕ, List}
use Rattle.dart_base.specs.declared.place.Place.{Place}
use Rattle.dart_token.specs.declared.token.Quote.{Quote}
use Rattle.token_cursor.specs.declared.cursor.PieceText.{PieceText}
use Rattle.token_cursor.specs.declared.cursor.HeadText.{HeadText}

abbrev pub text_of : PieceText → Place × List ℕ
text_of x = (x.place, x.text)

abbrev pub head_of : HeadText → Quote × (Place × List ℕ)
head_of x = (x.quote, (x.place, x.text))
