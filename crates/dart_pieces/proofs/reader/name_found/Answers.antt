use Rattle.std.proofs.Common.{◌≡◌, refl, take}
use Rattle.dart_token.specs.Lookup.{word_of}
use Rattle.dart_token.proofs.Words.{found_only}
use Rattle.dart_pieces.proofs.reader.name_found.Goals as goal

pub returns : goal.returns
returns c =
    let word : c.of.result ≡ word_of (take c.args.bytes c.args.text.now) = found_only _ _ c.of.ensures.some c.of.ensures.none in
    rw (c.name_kind.ensures, word) refl
