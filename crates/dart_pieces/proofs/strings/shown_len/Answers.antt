use Rattle.std.proofs.Common.{◌≡◌, rules, take}
use Rattle.dart_token.specs.Lookup.{word_of}
use Rattle.dart_token.proofs.Words.{found_only}
use Rattle.dart_pieces.proofs.strings.shown_len.Goals as goal

pub returns-then-may_follow : goal.returns-then-may_follow
returns-then-may_follow c =
    let word : c.of.result ≡ word_of (take c.name_len-length.result c.args.text.now) = found_only _ _ c.of.ensures.some c.of.ensures.none in
    search rules
