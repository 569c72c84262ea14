use Rattle.std.proofs.Common.{◌≡◌, ◌+◌, drop, sum_by}
use Rattle.dart_lex.specs.Spelling.{token_weight}
use Rattle.scope_files.proofs.text.weight.Given as goal

-- what was counted and what is left to count are all
abbrev pub invariant-loop-token : goal.invariant-loop-token
invariant-loop-token l = l.total + sum_by token_weight (drop l.token-index l.tokens) ≡ sum_by token_weight l.tokens
