use Rattle.std.proofs.Common.{◌≡◌, sym, ◌-◌, length, get_or, true, false, arith}
use Rattle.std.proofs.lemmas.Bool.Decides.{nat_tests}
use Rattle.dart_pieces.specs.Bytes.{is_line_end}
use Rattle.dart_lex.proofs.LexLaws.{lines_ended, lines_open}
use Rattle.dart_lex.proofs.lexer.line_count.Goals as goal

pub returns-then-last-eq10 : goal.returns-then-last-eq10
returns-then-last-eq10 c =
    let same = c.if-last-eq10.true in
    let last : is_line_end (get_or c.args.bytes.now (length c.args.bytes.now - 1) 0) ≡ true = grind (arith, nat_tests) in
    rw c.line_ends-ends.ensures.value (sym (lines_ended c.args.bytes.now 0 c.in-len1-up.len_at_least last))

pub returns-else-last-eq10 : goal.returns-else-last-eq10
returns-else-last-eq10 c =
    let differs = c.if-last-eq10.false in
    let last : is_line_end (get_or c.args.bytes.now (length c.args.bytes.now - 1) 0) ≡ false = grind (arith, nat_tests) in
    rw c.line_ends-ends.ensures.value (sym (lines_open c.args.bytes.now 0 c.in-len1-up.len_at_least last))
