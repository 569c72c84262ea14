use Rattle.std.proofs.Common.{◌≡◌, ◌∙◌, sym, refl, true, false, get_or}
use Rattle.std.specs.Str.{bytes_eq}
use Rattle.dart_token.specs.declared.word.Word.TheVariants as w
use Rattle.dart_token.specs.Word.{word_text}
use Rattle.dart_token.proofs.Words.{first_step}
use Rattle.dart_token.proofs.word.first_with.Goals as goal

pub returns-then-eq : goal.returns-then-eq
returns-then-eq c =
    let same : bytes_eq (word_text (get_or c.args.words.now c.loop-word.word-index w.Assert)) c.args.text.now ≡ true = rw c.text.ensures at (sym c.eq.ensures ∙ c.if-eq.true) in
    sym (c.loop-word.invariant ∙ first_step c.args.words.now c.args.text.now c.loop-word.word-index w.Assert c.loop-word-test.true ∙ rw same refl)

pub loop-word-preserved : goal.loop-word-preserved
loop-word-preserved c =
    let other : bytes_eq (word_text (get_or c.args.words.now c.loop-word.word-index w.Assert)) c.args.text.now ≡ false = rw c.text.ensures at (sym c.eq.ensures ∙ c.if-eq.false) in
    c.loop-word.invariant ∙ first_step c.args.words.now c.args.text.now c.loop-word.word-index w.Assert c.loop-word-test.true ∙ rw other refl
