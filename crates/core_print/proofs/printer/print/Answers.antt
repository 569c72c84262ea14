use Rattle.std.proofs.Common.{◌≡◌, ◌∙◌, ap, sym, [], ◌∷◌, map, arith}
use Rattle.std.specs.String.{string_bytes}
use Rattle.core_print.proofs.Words.{one_word, two_words, none_printed, one_printed, two_printed, many_printed}
use Rattle.core_print.proofs.printer.print.Goals as goal

pub returns-in-empty-clause-answer : goal.returns-in-empty-clause-answer
returns-in-empty-clause-answer g c = none_printed string_bytes _ c.args.words.now _ _ _ (omega arith) c.deliver.ensures.delivers

pub returns-in-len1-clause-answer : goal.returns-in-len1-clause-answer
returns-in-len1-clause-answer g c =
    let words = c.args.words.now in
    let is : map string_bytes words ≡ c.as_str.result.now ∷ [] =
    ap (map string_bytes) (one_word c.file-item.result words c.in-len1.len_at_least c.in-len1.len_below c.file-item.is)
    ∙ ap (λ file. file ∷ []) (sym c.as_str.ensures.value) in
    one_printed _ (map string_bytes words) c.as_str.result.now _ _ _ is c.print_file.ensures.answer

pub returns-in-len2-clause-answer : goal.returns-in-len2-clause-answer
returns-in-len2-clause-answer g c =
    let words = c.args.words.now in
    let file = c.as_str-in-len2.result.now in
    let name = c.as_str-in-len2-2.result.now in
    let is : map string_bytes words ≡ file ∷ name ∷ [] =
    ap (map string_bytes) (two_words c.file-item-then-words-lt3.result c.name-item.result words c.in-len2.len_at_least c.in-len2.len_below
    c.file-item-then-words-lt3.is c.name-item.is)
    ∙ (λ i. sym c.as_str-in-len2.ensures.value i ∷ sym c.as_str-in-len2-2.ensures.value i ∷ []) in
    two_printed _ (map string_bytes words) file name _ _ _ is c.print_file-in-len2.ensures.answer

pub returns-in-len3-up-clause-answer : goal.returns-in-len3-up-clause-answer
returns-in-len3-up-clause-answer g c = many_printed string_bytes _ c.args.words.now _ _ _ c.in-len3-up.len_at_least c.deliver-in-len3-up.ensures.delivers
