use Rattle.std.proofs.Common.{◌∙◌, ◌≡◌, Some, sym, true, false}
use Rattle.std.specs.String.{string_bytes}
use Rattle.dart_words.specs.Options.{with_option}
use Rattle.dart_words.proofs.Taken.{checked_taken, is_checked, taken}
use Rattle.dart_words.proofs.words.run_command.Goals as goal

pub loop-rest-preserved-then-eq : goal.loop-rest-preserved-then-eq
loop-rest-preserved-then-eq c =
    let is : is_checked (string_bytes c.option-item.result) ≡ true = rw c.as_str.ensures.value at (sym c.eq.ensures ∙ c.if-eq.true) in
    c.loop-rest.invariant ∙ checked_taken string_bytes c.loop-rest.given c.in_ok-given.given c.option-item.result c.loop-rest.rest.now
    c.in-len2-up.len_at_least c.option-item.is is (sym c.with_checked.ensures ∙ c.in_ok-given.was)

pub loop-rest-preserved : goal.loop-rest-preserved
loop-rest-preserved c =
    let is : is_checked (string_bytes c.option-item.result) ≡ false = rw c.as_str.ensures.value at (sym c.eq.ensures ∙ c.if-eq.false) in
    let e : with_option c.loop-rest.given (string_bytes c.option-item.result) (string_bytes c.number-item.result) ≡ Some c.in_ok-given-2.given =
    rw (c.as_str-else-eq.ensures.value, c.as_str-else-eq-2.ensures.value) at (sym c.with_option.ensures ∙ c.in_ok-given-2.was) in
    c.loop-rest.invariant ∙ taken string_bytes c.loop-rest.given c.in_ok-given-2.given c.option-item.result c.number-item.result c.loop-rest.rest.now
    c.in-len2-up.len_at_least c.option-item.is c.number-item.is is e
