use Rattle.std.proofs.Common.{◌≡◌, ◌++◌, drop}
use Rattle.dart_lex.specs.Render.{text_behind}
use Rattle.dart_lex.proofs.render.push_behind.Given as goal

abbrev pub invariant-loop-token : goal.invariant-loop-token
invariant-loop-token l =
    l.fn.out ++ text_behind l.fn.first l.tokens ≡ l.out ++ text_behind l.before (drop l.token-index l.tokens)
