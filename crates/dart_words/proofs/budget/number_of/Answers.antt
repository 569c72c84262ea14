use Rattle.std.proofs.Common.{◌∙◌, sym}
use Rattle.dart_words.proofs.Numerals.{parsed}
use Rattle.dart_words.proofs.budget.number_of.Goals as goal

pub returns-then-is_numeral : goal.returns-then-is_numeral
returns-then-is_numeral c = c.ok.ensures.value ∙ parsed c.args.word.now c.parse.result c.parse.ensures.value.0 (sym c.is_numeral.ensures ∙ c.if-is_numeral.true)
