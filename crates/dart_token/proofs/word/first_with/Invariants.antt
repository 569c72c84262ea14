use Rattle.std.proofs.Common.{◌≡◌, drop}
use Rattle.dart_token.specs.Lookup.{first_with}
use Rattle.dart_token.proofs.word.first_with.Given as goal

abbrev pub invariant-loop-word : goal.invariant-loop-word
invariant-loop-word l = first_with l.words l.text ≡ first_with (drop l.word-index l.words) l.text
