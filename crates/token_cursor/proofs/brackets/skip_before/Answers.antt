use Rattle.std.proofs.Common.{arith, sym, ap, ◌∙◌}
use Rattle.grammar_laws.specs.Codes.{has}
use Rattle.syntax_readers.specs.Combinators.{opening}
use Rattle.token_cursor.proofs.Skipping.{opening_at, opening_within}
use Rattle.token_cursor.proofs.brackets.skip_before.Goals as goal

pub bounds-skips-inner : goal.bounds-skips-inner
bounds-skips-inner c = (opening_within c.args.tokens.now c.args.skips.now c.requires c.in-len1-up.len_at_least).0

pub overflow_add-result : goal.overflow_add-result
overflow_add-result c = let h = (opening_within c.args.tokens.now c.args.skips.now c.requires c.in-len1-up.len_at_least).1 in omega (arith, h)

pub returns-then-is_opening-clause-skipped : goal.returns-then-is_opening-clause-skipped
returns-then-is_opening-clause-skipped c = opening_at c.args.tokens.now c.args.skips.now c.token-item.result c.requires c.in-len1-up.len_at_least c.token-item.is (ap (has opening) (sym c.class_of-code.ensures) ∙ sym c.is_opening.ensures ∙ c.if-is_opening.true)

pub returns-then-is_opening-clause-within : goal.returns-then-is_opening-clause-within
returns-then-is_opening-clause-within c = (opening_within c.args.tokens.now c.args.skips.now c.requires c.in-len1-up.len_at_least).1
